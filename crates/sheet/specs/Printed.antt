-- The printed sheet of source document 001, section 2.3.4, as docs/STATUS-SHEET.md settles it, and what it says.
use Rattle.std.specs.Prelude.{List, [], ◌∷◌, ◌++◌, ℕ, zero, suc, replicate}
use Rattle.text.specs.Bytes.{bytes}
use Rattle.sheet.specs.declared.Sheet.{Sheet}

-- "airport 0000, disabled", and n of them
abbrev pub unused : ℕ → List ℕ
unused zero = []
unused (suc n) = bytes "0000" ++ 0 ∷ unused n

unfoldable pub printed : List ℕ
printed =
    bytes "- AMDARSTATUS3 AU0115\r\n"
    ++ bytes "AD10/50 RR421 DR50/10\r\n"
    ++ bytes "T1 690 T2 500  0\r\n"
    ++ bytes "S2 SP1 SC5 SD5 I1\r\n"
    ++ bytes "B0     0/  5400 -5399/  9600 1\r\n"
    ++ bytes "B1     0/  9600 -3000/ -9600 1\r\n"
    ++ bytes "B2     0/     0     0/     0 0\r\n"
    ++ bytes "B3     0/     0     0/     0 0\r\n"
    ++ bytes "B4     0/     0     0/     0 0\r\n"
    ++ bytes "B5     0/     0     0/     0 0\r\n"
    ++ bytes "B6     0/     0     0/     0 0\r\n"
    ++ bytes "B7     0/     0     0/     0 0\r\n"
    ++ bytes "B8     0/     0     0/     0 0\r\n"
    ++ bytes "B9     0/     0     0/     0 0\r\n"
    ++ bytes "A1 YPDN/0 A110000/0 A210000/0 A310000/0 A410000/0\r\n"
    ++ bytes "A2 WSSS/1 A120000/0 A220000/0 A320000/0 A420000/0\r\n"
    ++ bytes "A3 0000/0 A130000/0 A230000/0 A330000/0 A430000/0\r\n"
    ++ bytes "A4 0000/0 A140000/0 A240000/0 A340000/0 A440000/0\r\n"
    ++ bytes "A5 0000/0 A150000/0 A250000/0 A350000/0 A450000/0\r\n"
    ++ bytes "A6 0000/0 A160000/0 A260000/0 A360000/0 A460000/0\r\n"
    ++ bytes "A7 0000/0 A170000/0 A270000/0 A370000/0 A470000/0\r\n"
    ++ bytes "A8 0000/0 A180000/0 A280000/0 A380000/0 A480000/0\r\n"
    ++ bytes "A9 0000/0 A190000/0 A290000/0 A390000/0 A490000/0\r\n"
    ++ bytes "A100000/0 A200000/0 A300000/0 A400000/0 A500000/0\r\n"

-- intervals, levels and smoothing; two boxes, their minutes below zero as 65536 less their size; airports 1 and 2
unfoldable pub printed_sheet : Sheet
printed_sheet =
    record {
      numbers = 0 ∷ 10 ∷ 50 ∷ 1 ∷ 421 ∷ 1 ∷ 50 ∷ 10 ∷ 690 ∷ 500 ∷ 0 ∷ 2 ∷ 1 ∷ 5 ∷ 5 ∷ 1 ∷ [];
      boxes = 0 ∷ 5400 ∷ 60137 ∷ 9600 ∷ 1 ∷ 0 ∷ 9600 ∷ 62536 ∷ 55936 ∷ 1 ∷ replicate 40 0;
      designator = bytes "AU0115";
      airports = bytes "YPDN" ++ 0 ∷ (bytes "WSSS" ++ 1 ∷ unused 48);
    }
