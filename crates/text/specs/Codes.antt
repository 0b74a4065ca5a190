-- "Each answer carries a code, a place (byte offset, from 0)": the numbers of document 01's table, 13 and 14 of document 02's.
use Rattle.std.specs.Prelude.{ℕ}
use Rattle.text.specs.declared.Code.{Code}
use Rattle.text.specs.declared.Code.TheVariants.{WrongLength, NoRoom, WrongFixed, NotAllowed, OutOfRange, OtherSpelling, Disagree, WrongEnd, BoardFull, BoardInvalid, NothingWaits, SettingsInvalid, NotGranted, JournalBroken}

abbrev pub number_of : Code → ℕ
number_of WrongLength = 1
number_of NoRoom = 2
number_of WrongFixed = 3
number_of NotAllowed = 4
number_of OutOfRange = 5
number_of OtherSpelling = 6
number_of Disagree = 7
number_of WrongEnd = 8
number_of BoardFull = 9
number_of BoardInvalid = 10
number_of NothingWaits = 11
number_of SettingsInvalid = 12
number_of NotGranted = 13
number_of JournalBroken = 14
