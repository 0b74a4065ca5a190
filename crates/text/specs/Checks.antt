-- What a check finds, and checks one after the other: "then fields from left to right".
use Rattle.std.specs.Prelude.{ℕ, Bool, true, false, cond, Result, Ok, Err}
use Rattle.text.specs.declared.Code.{Code}
use Rattle.text.specs.declared.Refusal.{Refusal}

-- a refusal with this code at this place
abbrev pub refuse : {A : Type 0} → Code → ℕ → Result A Refusal
refuse code place = Err (record { code = code; place = place })

-- a test that must hold, else a refusal with this code at this place
abbrev pub must : Bool → Code → ℕ → Result (Unit {0}) Refusal
must ok code place = cond ok (Ok tt) (refuse code place)

-- what is found, and then what follows it: the first refusal stays
abbrev pub after : {A B : Type 0} → Result A Refusal → (A → Result B Refusal) → Result B Refusal
after (Ok x) more = more x
after (Err r) more = Err r

infixr 30 ◌and_then◌
-- one check and then the next: the first refusal stays
abbrev pub ◌and_then◌ : {A : Type 0} → Result (Unit {0}) Refusal → Result A Refusal → Result A Refusal
(Ok u) and_then next = next
(Err r) and_then next = Err r

-- whether there was no refusal
abbrev pub is_fine : {A : Type 0} → Result A Refusal → Bool
is_fine (Ok x) = true
is_fine (Err r) = false
