-- `settings::section3::each_airfields_allowed` meets its contract.
use mathlib.Core.Path.{◌≡◌, sym, ◌∙◌}
use Prim.Native.Nat.{◌≤◌, ◌+◌, ℕ}
use lib.ListN.{length}
use Rattle.text.specs.Checks.{◌and_then◌}
use Rattle.text.proofs.Checks.{both-fine}
use Rattle.settings.specs.declared.ByPhase.{ByPhase}
use Rattle.lists.specs.Lists.{airfields_allowed, airfields_text}
use Rattle.lists.proofs.RoundTrip.{airfields-held}
use Rattle.settings.proofs.section3.each_airfields_allowed.Goals as goal
use Rattle.settings.proofs.section3.each_airfields_allowed.Goals.{In_ok-phases_allowed, In_ok-phases_allowed-2}
use Rattle.std.specs.Prelude.{Result, Ok}
use Rattle.text.specs.declared.Refusal.{Refusal}

-- where the second list of a pair stands, and what stands behind it
abbrev second : ByPhase → ℕ → ℕ
second x at = at + length (airfields_text x.ascent)

abbrev behind : ByPhase → ℕ → ℕ
behind x at = second x at + length (airfields_text x.descent)

abbrev one : ByPhase → ℕ → Result (Unit {0}) Refusal
one x at = airfields_allowed at x.ascent

abbrev two : ByPhase → ℕ → Result (Unit {0}) Refusal
two x at = airfields_allowed (second x at) x.descent

few : (x : ByPhase) (at : ℕ) → (one x at and_then two x at) ≡ (Ok (tt {0})) → (x.ascent.count ≤ 20) × (x.descent.count ≤ 20)
few x at e =
    let b = both-fine (one x at) (two x at) tt e in
    ((airfields-held _ _ b.0).few, (airfields-held _ _ b.1).few)

-- the selected lists are allowed
selected : (c : In_ok-phases_allowed) → let a = c.args in (one a.x.selected a.at and_then two a.x.selected a.at) ≡ (Ok (tt {0}))
selected c = sym c.phases_allowed.ensures ∙ c.in_ok-phases_allowed.was

pub phases_size-requires : goal.phases_size-requires
phases_size-requires c = few c.args.x.selected c.args.at (selected (goal.at.phases_size-requires c).In_ok-phases_allowed)

-- the inhibited lists are allowed
inhibited : (c : In_ok-phases_allowed-2)
    → let l = c.args.x.inhibited in
    let third = c.args.at + c.phases_size.result in
    (one l third and_then two l third) ≡ (Ok (tt {0}))
inhibited c = sym c.phases_allowed-2.ensures ∙ c.in_ok-phases_allowed-2.was

pub phases_size-requires-2 : goal.phases_size-requires-2
phases_size-requires-2 c = few c.args.x.inhibited _ (inhibited (goal.at.phases_size-requires-2 c).In_ok-phases_allowed-2)
