use Rattle.sheet.specs.Sheet.{sheet_at}
use Rattle.sheet.specs.Layout.{cell_at}
use Rattle.sheet.proofs.read.take_sheet.Goals as goal

pub returns : goal.returns
unfolding sheet_at cell_at
returns c = rw (c.airports_in.ensures, c.designator_in.ensures, c.boxes_in.ensures, c.numbers_in.ensures)
