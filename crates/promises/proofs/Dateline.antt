-- The promises of boxes over the date line, kept.
use mathlib.Core.Path.{◌≡◌, refl, ap, ◌∙◌}
use mathlib.Core.Logic.{◌⊎◌, inl, inr}
use mathlib.Core.Bool.{true, false}
use mathlib.Core.List.{List}
use Prim.Native.Nat.{ℕ, ◌+◌, ◌*◌, ◌≤◌}
use native.Mathlib.Omega.{arith}
use lib.Dec.{eqb}
use lib.ListN.{length, get_or}
use borrow.Author.Tests.{leb-false}
use Rattle.text.proofs.Cases.{by_test}
use Rattle.field.specs.Boxes.{latitude, line_of, edge_at}
use Rattle.field.specs.declared.Region.{Region}
use Rattle.field.proofs.Accepted.{edge}
use Rattle.settings.specs.declared.Settings.{Settings}
use Rattle.command.specs.Record.{command_text}
use Rattle.command.specs.Sections.{place_from}
use Rattle.command.specs.Text.{longest, check_command}
use Rattle.command.specs.declared.Command.{Command}
use Rattle.command_write.specs.Filled.{Filled}
use Rattle.decide.proofs.Dateline.{dateline}
use Rattle.desk.specs.Decisions.{decided_numbers, explained_numbers}
use Rattle.desk.specs.Numbers.{check_numbers}
use Rattle.promises.specs.Command.{check, read, write}
use Rattle.promises.specs.Configuration.{check as checkSettings}
use Rattle.promises.specs.Dateline.{latitude_at, SouthAbove, Relays, relaid_settings, relaid_command, DatelinePromises}
use Rattle.promises.specs.Sections.{number_at, past_boxes}
use Rattle.promises.proofs.Codes.{number_apart}
use Rattle.promises.proofs.Command.{command_promises}
use Rattle.promises.proofs.Configuration.{configuration_promises}
use Rattle.promises.proofs.Relaid.{settings-kept, command-kept, length-kept}
use Rattle.promises.proofs.Sevens.{Disagrees, check-seven}
use Rattle.std.specs.Prelude.{Result, Ok, Err}
use Rattle.text.specs.Checks.{refuse}
use Rattle.text.specs.declared.Refusal.{Refusal}
use Rattle.text.specs.declared.Code.TheVariants.{Disagree}
use Rattle.text.specs.declared.Code.{Code}

-- ---- Where 7 stands

-- a latitude in a text, as the check goes by it
line-is : (s : List ℕ) (at : ℕ) → number_at s at 2 ≤ 90 → line_of latitude (edge_at latitude s at) ≡ 910 + latitude_at s at
unfolding line_of edge_at
line-is s at h =
    by_test (eqb (get_or s (at + 2) 0) 83)
    (λ (t : eqb (get_or s (at + 2) 0) 83 ≡ true). rw t (omega arith))
    (λ (t : eqb (get_or s (at + 2) 0) 83 ≡ false). rw t (omega arith))

south-above : (s : List ℕ) (p : ℕ) → Disagrees s p → SouthAbove s p
unfolding place_from
south-above s p d =
    let at = d.list + 2 + 14 * d.box in
    let n = line-is s at (edge latitude s at (at + 3) d.south.north).most in
    let m = line-is s (at + 3) (edge latitude s (at + 3) (at + 6) d.south.south).most in
    let lower = leb-false (line_of latitude (edge_at latitude s (at + 3))) (line_of latitude (edge_at latitude s at)) d.south.above in
    record {
      named = d.named;
      list = d.list;
      which = behind d.which;
      box = d.box;
      counted = d.counted;
      place = d.south.place;
      above = rw d.south.place (omega (arith, n, m, lower));
    }
  where
    behind : (d.list ≡ 22) ⊎ (d.list ≡ 22 + 2 + 14 * number_at s 22 2) → (d.list ≡ 22) ⊎ (d.list ≡ past_boxes s 22)
    behind (inl e) = inl e
    behind (inr e) = inr (omega (arith, e))

seven : (s : List ℕ) → (check s).code ≡ 7 → SouthAbove s (check s).place
seven s e = go (check_command s) (λ p f. check-seven s p f) e
  where
    go : (x : Result (Unit {0}) Refusal) → ((p : ℕ) → x ≡ refuse Disagree p → Disagrees s p) → (check_numbers x).code ≡ 7 → SouthAbove s (check_numbers x).place
    go (Ok u) f z = absurd (omega arith)
    go (Err r) f z = south-above s r.place (f r.place (ap (λ (c : Code). refuse c r.place) (number_apart r.code Disagree z)))

-- ---- Other longitudes

module _ (lay : Region → Region) (kept : Relays lay) where
  filled : (c : Command) → Filled c → Filled (relaid_command lay c)
  filled c f =
      record {
        flags = f.flags;
        named = f.named;
        reporting = length-kept lay kept c.settings.regions.reporting.regions ∙ f.reporting;
        inhibiting = length-kept lay kept c.settings.regions.inhibiting.regions ∙ f.inhibiting;
        selected = f.selected;
        inhibited = f.inhibited;
      }

  text : (s : List ℕ) → (check s).code ≡ 0 → (check (command_text (relaid_command lay (read s).command))).code ≡ 0
  text s e =
      let a = command_promises.allowed s e in
      let c = relaid_command lay (read s).command in
      (command_promises.accepts (command_text c)).1
      (c, (filled (read s).command a.1, command-kept lay kept (read s).command a.0, refl))

  record_is : (c : Command) (out : List ℕ) → Filled c → longest ≤ length out → (write c out).code ≡ 0
      → (write (relaid_command lay c) out).code ≡ 0
  record_is c out f room e =
      let k = command-kept lay kept c ((command_promises.writes c out f).0 e).0 in
      let g = filled c f in
      let d = relaid_command lay c in
      let short = command_promises.short (command_text d) ((command_promises.accepts (command_text d)).1 (d, (g, k, refl))) in
      (command_promises.writes d out g).1 (k, omega (arith, short, room))

  configuration : (x : Settings) → (checkSettings x).code ≡ 0 → (checkSettings (relaid_settings lay x)).code ≡ 0
  configuration x e =
      (configuration_promises.valid-is (relaid_settings lay x)).1 (settings-kept lay kept x ((configuration_promises.valid-is x).0 e))

pub dateline_promises : DatelinePromises
dateline_promises =
    record {
      seven = seven;
      text = text;
      record_is = record_is;
      configuration = configuration;
      positions = dateline;
      decision = λ x q. ap decided_numbers (dateline.one-decision x q);
      reason = λ x q. ap explained_numbers (dateline.one-reason x q);
    }
