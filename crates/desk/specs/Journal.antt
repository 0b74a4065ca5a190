-- The journal's answers, as the C host gets them.
use Rattle.std.specs.Prelude.{ℕ, ◌+◌, ◌≤◌, ◌≡◌, Result, Ok, Err, Option, Some, None}
use Rattle.text.specs.Codes.{number_of}
use Rattle.text.specs.declared.Refusal.{Refusal}
use Rattle.settings.specs.declared.Settings.{Settings}
use Rattle.journal.specs.declared.Entry.{Entry}
use Rattle.desk.specs.Numbers.{accepted, refused}
use Rattle.desk.specs.declared.Answer.{Answer}
use Rattle.desk.specs.declared.HostEntry.{HostEntry}

-- the designator stands at the entry's first byte, the text six bytes on
abbrev pub entry_numbers : Result (Option Entry) Refusal → HostEntry
entry_numbers (Ok None) = record { place = 0; offset = 0; text = 0; length = 0; code = 0; given = 0; spare = 0 }
entry_numbers (Ok (Some e)) = record { place = 0; offset = e.at; text = e.at + 6; length = e.length; code = 0; given = 1; spare = 0 }
entry_numbers (Err r) = record { place = r.place; offset = 0; text = 0; length = 0; code = number_of r.code; given = 0; spare = 0 }

-- a replay gives no length
abbrev pub replay_numbers : Result Settings Refusal → Answer
replay_numbers (Ok x) = accepted 0
replay_numbers (Err r) = refused r

-- what the caller's own settings are afterwards: those of the replay, or what they were
abbrev pub kept_replay : Settings → Result Settings Refusal → Settings
kept_replay old (Ok x) = x
kept_replay old (Err r) = old

-- ---- Inner: no promise rests on these

-- a length that an answer holds
pub record Held (told : Result ℕ Refusal) : Type 0 where
  pub small : (n : ℕ) → told ≡ Ok n → n ≤ 131070

-- and an entry that one does
pub record EntryHeld (found : Result (Option Entry) Refusal) : Type 0 where
  pub small : (e : Entry) → found ≡ Ok (Some e) → (e.at ≤ 65535) × (e.length ≤ 65535)
