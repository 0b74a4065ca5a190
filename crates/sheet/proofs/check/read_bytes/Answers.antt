use native.Mathlib.Omega.{arith}
use Rattle.sheet.proofs.Small.{small-digit, small-number}
use Rattle.sheet.specs.Layout.{width_of}
use Rattle.sheet.proofs.check.read_bytes.Goals as goal

pub read_digit-requires : goal.read_digit-requires
read_digit-requires c = small-digit _ (rw c.in-Digit.is at c.requires.form_value)

pub read_number-requires : goal.read_number-requires
unfolding width_of
read_number-requires c =
    let s = small-number _ _ (rw c.in-Number.is at c.requires.form_value) in
    let w = rw c.in-Number.is at c.requires.f_len in
    record { f_len_bound = omega (arith, w, s.0); below_bound = s.1 }
