-- The sheet's layout, docs/STATUS-SHEET.md: 24 lines, 913 bytes. A cell is a fixed group, the one field behind it, and, where it is a line's last,
-- CR LF. Every cell has a fixed place.
use Rattle.std.specs.Prelude.{Bool, true, false, cond, List, [], ◌∷◌, ◌++◌, ℕ, ◌+◌, ◌-◌, ◌*◌, ◌/◌, ◌%◌, ltb, eqb, length, get_or, replicate}
use Prim.Native.String.{String}
use Rattle.text.specs.Bytes.{bytes}
use Rattle.sheet.specs.declared.Form.{Form}
use Rattle.sheet.specs.declared.Form.TheVariants.{Name, Switch, Digit, Number}
use Rattle.sheet.specs.declared.Cell.{Cell}

-- ---- Forms

-- a number of w bytes from the least to the most, none below zero
abbrev pub number : ℕ → ℕ → ℕ → Form
number w least most = Number w (record { below = 0; least = least; most = most })

-- minutes, so many on either side of zero
abbrev pub minutes : ℕ → ℕ → Form
minutes w most = Number w (record { below = most; least = 0; most = most })

abbrev pub latitude : Form
latitude = minutes 5 5400

abbrev pub longitude : Form
longitude = minutes 6 10800

-- 0 disabled, 1 active
abbrev pub status : Form
status = Digit 1

unfoldable pub width_of : Form → ℕ
width_of (Name w) = w
width_of Switch = 1
width_of (Digit most) = 1
width_of (Number w l) = w

-- ---- Cells

-- at a place, with the bytes of its fixed group
abbrev pub cell : ℕ → List ℕ → Form → Bool → Cell
cell at label form ends =
    record { at = at; labelled = length label; label = label ++ replicate (16 - length label) 0; form = form; ends = ends }

abbrev pub inside : ℕ → String → Form → Cell
inside at label form = cell at (bytes label) form false

-- the last of its line
abbrev pub last : ℕ → String → Form → Cell
last at label form = cell at (bytes label) form true

abbrev pub no_cell : Cell
no_cell = inside 0 "" Switch

-- lines 1 to 4
abbrev pub head_cells : List Cell
head_cells =
    last 0 "- AMDARSTATUS3 " (Name 6)
    ∷ inside 23 "A" Switch
    ∷ inside 25 "" (number 2 1 99)
    ∷ inside 27 "/" (number 2 1 99)
    ∷ inside 30 " R" Switch
    ∷ inside 33 "" (number 3 0 999)
    ∷ inside 36 " D" Switch
    ∷ inside 39 "" (number 2 1 99)
    ∷ last 41 "/" (number 2 1 99)
    ∷ inside 46 "T1" (number 4 0 9999)
    ∷ inside 52 " T2" (number 4 0 9999)
    ∷ last 59 " " (number 2 0 99)
    ∷ inside 64 "S" (Digit 2)
    ∷ inside 66 " SP" (number 1 0 9)
    ∷ inside 70 " SC" (number 1 0 9)
    ∷ inside 74 " SD" (number 1 0 9)
    ∷ last 78 " I" (number 1 0 9)
    ∷ []

-- the line of box i, which begins at a place: 66 is `B`
abbrev pub box_cells : ℕ → ℕ → List Cell
box_cells i at =
    cell at (66 ∷ (48 + i) ∷ 32 ∷ []) latitude false
    ∷ inside (at + 8) "/" longitude
    ∷ inside (at + 15) " " latitude
    ∷ inside (at + 21) "/" longitude
    ∷ last (at + 28) " " status
    ∷ []

-- ten boxes, five cells each
unfoldable pub box_cell : ℕ → Cell
box_cell k = get_or (box_cells (k / 5) (83 + 32 * (k / 5))) (k % 5) no_cell

-- 65 is `A`. The first of a row has its number in the place of one or two digits, the others have two and a space before.
abbrev pub airport_label : ℕ → ℕ → List ℕ
airport_label column n =
    cond (eqb column 0)
    (cond (ltb n 10) (65 ∷ (48 + n) ∷ 32 ∷ []) (65 ∷ 49 ∷ 48 ∷ []))
    (32 ∷ 65 ∷ (48 + n / 10) ∷ (48 + n % 10) ∷ [])

abbrev pub name_cell_of : ℕ → ℕ → ℕ → Cell
name_cell_of at column n = cell (at - cond (eqb column 0) 0 1) (airport_label column n) (Name 4) false

-- row by row, and in each row airports r + 1, r + 11, r + 21, r + 31, r + 41: the name's cell, then the status's
abbrev pub airport_cells : ℕ → ℕ → List Cell
airport_cells row column =
    name_cell_of (403 + 51 * row + 10 * column) column (1 + row + 10 * column)
    ∷ cell (403 + 51 * row + 10 * column + 7) (bytes "/") status (eqb column 4)
    ∷ []

unfoldable pub airport_cell : ℕ → Cell
airport_cell k = get_or (airport_cells (k / 2 / 5) (k / 2 % 5)) (k % 2) no_cell

-- the cells of lines 1 to 4, those of the boxes, those of the airports
abbrev pub head_count : ℕ
head_count = 17

abbrev pub boxes_end : ℕ
boxes_end = 67

abbrev pub cell_count : ℕ
cell_count = 167

unfoldable pub cell_at : ℕ → Cell
cell_at k =
    cond (ltb k head_count) (get_or head_cells k no_cell)
    (cond (ltb k boxes_end) (box_cell (k - head_count)) (airport_cell (k - boxes_end)))

abbrev pub sheet_length : ℕ
sheet_length = 913
