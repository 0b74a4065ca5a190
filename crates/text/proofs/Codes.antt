-- Every code's number is from 1 to 14.
use Prim.Native.Nat.{◌≤◌}
use native.Mathlib.Omega.{arith}
use Rattle.text.specs.Codes.{number_of}
use Rattle.text.specs.declared.Code.{Code}
use Rattle.text.specs.declared.Code.TheVariants.{WrongLength, NoRoom, WrongFixed, NotAllowed, OutOfRange, OtherSpelling, Disagree, WrongEnd, BoardFull, BoardInvalid, NothingWaits, SettingsInvalid, NotGranted, JournalBroken}

pub record Numbered (code : Code) : Type 0 where
  pub least : 1 ≤ number_of code
  pub most : number_of code ≤ 14

pub numbered : (code : Code) → Numbered code
numbered WrongLength = record { least = omega arith; most = omega arith }
numbered NoRoom = record { least = omega arith; most = omega arith }
numbered WrongFixed = record { least = omega arith; most = omega arith }
numbered NotAllowed = record { least = omega arith; most = omega arith }
numbered OutOfRange = record { least = omega arith; most = omega arith }
numbered OtherSpelling = record { least = omega arith; most = omega arith }
numbered Disagree = record { least = omega arith; most = omega arith }
numbered WrongEnd = record { least = omega arith; most = omega arith }
numbered BoardFull = record { least = omega arith; most = omega arith }
numbered BoardInvalid = record { least = omega arith; most = omega arith }
numbered NothingWaits = record { least = omega arith; most = omega arith }
numbered SettingsInvalid = record { least = omega arith; most = omega arith }
numbered NotGranted = record { least = omega arith; most = omega arith }
numbered JournalBroken = record { least = omega arith; most = omega arith }
