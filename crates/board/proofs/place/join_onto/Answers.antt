use native.Mathlib.Omega.{arith}
use mathlib.Core.Path.{◌≡◌, refl, sym, ◌∙◌, ap}
use Prim.Native.Nat.{◌+◌, ◌-◌, ◌*◌}
use lib.ListN.{take, drop, replicate}
use lib.Seq.{length-take-le}
use Rattle.std.specs.Prelude.{Ok}
use Rattle.command.specs.Text.{longest}
use Rattle.join.specs.Join.{join}
use Rattle.board.specs.Inner.{own_move}
use Rattle.board.proofs.Moves.{Onto, onto}
use Rattle.board.proofs.place.join_onto.Goals as goal
use Rattle.board.proofs.place.join_onto.Goals.{In-Ok}

-- the text that the join told of
text_of : (c : In-Ok)
    → Onto (join (take (longest * c.args.i + c.args.n - longest * c.args.i) (drop (longest * c.args.i) c.args.area.now)) c.args.t.now longest) c.in-Ok.m c.join_texts.new.out
text_of c = onto _ _ (replicate longest 0) _ _ c.in-Ok.m refl refl (sym c.join_texts.ensures.0 ∙ c.in-Ok.is) c.join_texts.ensures.1

pub slice_bounds-joined-end : goal.slice_bounds-joined-end
slice_bounds-joined-end c = (text_of (goal.at.slice_bounds-joined-end c).In-Ok).room

pub slice_bounds-put_at-end : goal.slice_bounds-put_at-end
slice_bounds-put_at-end c =
    let j = text_of (goal.at.slice_bounds-put_at-end c).In-Ok in
    sym (length-take-le c.in-Ok.m c.join_texts.new.out j.room)

pub stored-requires : goal.stored-requires
stored-requires c = (text_of (goal.at.stored-requires c).In-Ok).short

pub returns-in-Ok : goal.returns-in-Ok
unfolding own_move
returns-in-Ok c =
    let a = c.args in
    let j = text_of (goal.at.returns-in-Ok c).In-Ok in
    let n : longest * a.i + a.n - longest * a.i ≡ a.n = omega arith in
    let e = rw n at j.is in
    let g = sym c.fits_at.ensures ∙ c.if-not-fits_at.false in
    rw (g, e) (ap Ok (c.stored.ensures ∙ rw j.long), c.put_at.ensures ∙ rw j.found)
