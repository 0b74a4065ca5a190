-- What writing the command's record answers is what the answer of a difference says.
use mathlib.Core.Path.{◌≡◌, refl, sym, ap}
use mathlib.Core.Bool.{true, false, ◌&&◌}
use mathlib.Core.List.{List}
use Prim.Native.Nat.{ℕ}
use lib.Dec.{leb}
use lib.ListN.{length}
use Rattle.std.specs.Prelude.{Result, Ok, Err}
use Rattle.text.specs.Checks.{refuse}
use Rattle.text.specs.declared.Code.{Code}
use Rattle.text.specs.declared.Code.TheVariants.{NoRoom, SettingsInvalid}
use Rattle.text.specs.declared.Refusal.{Refusal}
use Rattle.text.proofs.Cases.{by_test, both_right}
use Rattle.settings.specs.Valid.{valid}
use Rattle.settings.specs.declared.Settings.{Settings}
use Rattle.command.specs.Record.{command_text, command_allowed, write_seen, left_by as writeLeft}
use Rattle.command_write.specs.Writing.{wrote}
use Rattle.difference.specs.Difference.{differing, between, answered, difference, left_by}
use Rattle.difference.specs.declared.Differing.{Differing}
use Rattle.difference.proofs.Marks.{between-allowed}

-- an answer, and what the buffer holds beside it
abbrev pub Tells : Settings → Settings → List ℕ → Result Differing Code → List ℕ → Type 0
Tells a b out r left = (r ≡ difference a b (length out)) × (left ≡ left_by a b out)

module _ (a b : Settings) (out : List ℕ) where
  -- a configuration that isn't valid is refused
  pub tells_invalid : (valid a && valid b) ≡ false → Tells a b out (Err SettingsInvalid) out
  unfolding difference left_by
  tells_invalid e = rw e (refl, refl)

  module _ (ok : (valid a && valid b) ≡ true) where
    abbrev text : List ℕ
    text = command_text (between a b)

    abbrev written : Result ℕ Refusal
    written = wrote (write_seen (between a b) (length out)) (length text)

    abbrev left : List ℕ
    left = writeLeft (write_seen (between a b) (length out)) text out

    fine : command_allowed (between a b) ≡ Ok tt
    fine = between-allowed a b (both_right (valid a) (valid b) ok)

    -- what is not written is refused, as writing refuses it
    pub tells_refused : (r : Refusal) → written ≡ Err r → Tells a b out (Err r.code) left
    unfolding difference left_by write_seen
    tells_refused r e =
        by_test (leb (length text) (length out))
        (λ t. let z : ◌≡◌ {A = Result ℕ Refusal} (Ok (length text)) (Err r) = rw (fine, t) at e in cc)
        (λ t.
        let z : ◌≡◌ {A = Result ℕ Refusal} (refuse NoRoom 0) (Err r) = rw (fine, t) at e in
        let same : ◌≡◌ {A = Refusal} (record { code = NoRoom; place = 0 }) r = cc in
        rw (ok, fine, t) (ap (λ (x : Refusal). Err x.code) (sym same), refl))

    -- and else it is written
    pub tells_written : (n : ℕ) → written ≡ Ok n → Tells a b out (Ok (answered (differing a b) n)) left
    unfolding difference left_by write_seen
    tells_written n e =
        by_test (leb (length text) (length out))
        (λ t.
        let z : ◌≡◌ {A = Result ℕ Refusal} (Ok (length text)) (Ok n) = rw (fine, t) at e in
        let same : length text ≡ n = cc in
        rw (ok, fine, t) (ap (λ (k : ℕ). Ok (answered (differing a b) k)) (sym same), refl))
        (λ t. let z : ◌≡◌ {A = Result ℕ Refusal} (refuse NoRoom 0) (Ok n) = rw (fine, t) at e in cc)
