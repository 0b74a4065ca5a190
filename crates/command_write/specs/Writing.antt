-- What writing answers.
use Rattle.std.specs.Prelude.{ℕ, Result, Ok}
use Rattle.text.specs.Checks.{◌and_then◌}
use Rattle.text.specs.declared.Refusal.{Refusal}

-- the text's length where nothing is refused
abbrev pub wrote : Result (Unit {0}) Refusal → ℕ → Result ℕ Refusal
wrote seen n = seen and_then Ok n
