use native.Mathlib.Omega.{arith}
use mathlib.Core.Bool.{true}
use mathlib.Core.Path.{◌≡◌, sym, ◌∙◌, ap}
use Prim.Native.Nat.{◌≤◌}
use lib.ListN.{length, take}
use lib.Seq.{length-take-le}
use Rattle.std.specs.Prelude.{Ok, Some}
use Rattle.tails.specs.Tails.{listed, agrees}
use Rattle.tails.specs.Inner.{sought_among}
use Rattle.tails.proofs.Steps.{listed-most, listed-front}
use Rattle.tails.proofs.Marks.{rises-slots}
use Rattle.tails.proofs.Unique.{agreed}
use Rattle.tails.proofs.Found.{rises_sorted}
use Rattle.tails.proofs.lent.seek_in.Goals as goal
use Rattle.tails.proofs.lent.seek_in.Goals.{After-rank_of}

pub slice_bounds-bisect-end : goal.slice_bounds-bisect-end
slice_bounds-bisect-end c =
    let l = c.args.list.now in
    sym (length-take-le c.listed_of-m.result l (omega (arith, c.listed_of-m.ensures, listed-most l)))

front : (c : After-rank_of) → take c.listed_of-m.result c.args.list.now ≡ listed c.args.list.now
front c = rw c.listed_of-m.ensures (listed-front c.args.list.now)

is-list : (c : After-rank_of) → agrees c.args.keys.now c.args.list.now ≡ true
is-list c = sym c.is_list.ensures ∙ c.if-not-is_list.false

pub bisect-requires : goal.bisect-requires
bisect-requires c =
    let ks = c.args.keys.now in
    let l = c.args.list.now in
    let a = agreed ks l (is-list (goal.at.bisect-requires c).After-rank_of) in
    let h : length (listed l) ≤ 64 = omega (arith, listed-most l, a.places, c.requires) in
    rw (front (goal.at.bisect-requires c).After-rank_of) (record { keys_len_bound = (c.requires, h); list_value = rises-slots ks 0 (listed l) a.up; list_value_2 = rises_sorted ks 0 (listed l) a.up })

pub returns : goal.returns
unfolding sought_among
returns c =
    let e : c.args.w ≡ Some c.in_ok-designator.designator = grind arith in
    rw (is-list (goal.at.returns c).After-rank_of, e)
    (ap Ok (c.bisect.ensures ∙ rw (front (goal.at.returns c).After-rank_of, c.rank_of.ensures)))
