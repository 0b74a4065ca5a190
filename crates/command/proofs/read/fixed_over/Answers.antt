-- `command::read::fixed_over` meets its contract: section by section.
use mathlib.Core.Path.{ap, ◌∙◌}
use mathlib.Core.List.{List, map}
use Prim.Native.Nat.{ℕ}
use Rattle.section.specs.Layout.{table_of}
use Rattle.section.specs.Contents.{Amount}
use Rattle.settings.specs.Settings.{amount_in, enroute_from, ascent_from, descent_from, hours_from}
use Rattle.settings.proofs.ByNumber.{number_in, enroute-same, ascent-same, descent-same, hours-same}
use Rattle.command.proofs.read.fixed_over.Goals as goal

pub digit_from-requires-2 : goal.digit_from-requires-2
unfolding table_of
digit_from-requires-2 c = c.numbers_over-4.ensures.1

pub returns : goal.returns
returns c =
    rw (
      c.descent_from.ensures ∙ ap (λ (v : List ℕ). descent_from (map Amount v)) c.numbers_over-6.ensures.0 ∙ descent-same _,
      c.hours_from.ensures ∙ ap (λ (v : List ℕ). hours_from (map Amount v)) c.numbers_over-5.ensures.0 ∙ hours-same _,
      c.digit_from-2.ensures ∙ ap (λ (v : List ℕ). amount_in (map Amount v) 0) c.numbers_over-4.ensures.0 ∙ number_in _ 0,
      c.digit_from.ensures ∙ ap (λ (v : List ℕ). amount_in (map Amount v) 0) c.numbers_over-3.ensures.0 ∙ number_in _ 0,
      c.ascent_from.ensures ∙ ap (λ (v : List ℕ). ascent_from (map Amount v)) c.numbers_over-2.ensures.0 ∙ ascent-same _,
      c.enroute_from.ensures ∙ ap (λ (v : List ℕ). enroute_from (map Amount v)) c.numbers_over.ensures.0 ∙ enroute-same _,
    )
