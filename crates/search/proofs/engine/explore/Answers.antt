use Rattle.std.proofs.Common.{◌≡◌, suc, ◌+◌, ◌-◌, ◌≤◌, length, ◌∙◌, rules, arith, length-set}
use Rattle.search.specs.Frames.{row_of}
use Rattle.search.proofs.Measure.{smaller_drop, smaller_cut, smaller_whole, smaller_rest}
use Rattle.search.proofs.Sizes.{size_some}
use Rattle.search.proofs.Stack.{held_open, held_barren, held_cut, held_whole, held_rest, stack_inside, room_one, top_there, top_known, covered_around, reads_row}
use Rattle.search.proofs.engine.explore.Goals as goal

pub look-requires : goal.look-requires
look-requires g c =
    let k = g.Q.Region.Kind in
    let s = held_open k.holds k.region _ _ c.args.target _ _ _ _ c.in-Open.is c.loop-focus.invariant.0 in
    λ v h. c.requires.asked v (stack_inside k.holds k.region _ _ c.args.target _ _ _ s v h)

pub returns-in-Found : goal.returns-in-Found
returns-in-Found g c =
    let k = g.Q.Region.Kind in
    let s = held_open k.holds k.region _ _ c.args.target _ _ _ _ c.in-Open.is c.loop-focus.invariant.0 in
    (stack_inside k.holds k.region _ _ c.args.target _ _ _ s _ c.in-Found.ensures.0, c.in-Found.ensures.1)

pub loop-focus-smaller-in-Drop : goal.loop-focus-smaller-in-Drop
loop-focus-smaller-in-Drop g c =
    let k = g.Q.Region.Kind in
    let s = held_open k.holds k.region _ _ c.args.target _ _ _ _ c.in-Open.is c.loop-focus.invariant.0 in
    let laws = g.met.Q.Region.Kind in
    let values = laws.finite c.args.target in
    let v = laws.inhabited c.in-Open.region in
    let some = size_some (k.holds c.in-Open.region) (laws.decided c.in-Open.region) values.0 v.0 (values.1 v.0 (stack_inside k.holds k.region _ _ c.args.target _ _ _ s v.0 v.1)) v.1 in
    let few = c.loop-focus.invariant.2 in
    let same = c.loop-focus.invariant.1 in
    rw c.in-Open.is (smaller_drop k.holds k.region laws.decided values.0 (length c.args.frames.now) c.loop-focus.frames c.loop-focus.depth c.in-Open.region c.in-Drop.barren (omega arith) some)

pub keep-requires : goal.keep-requires
keep-requires g c =
    let k = g.Q.Region.Kind in
    let s = held_open k.holds k.region _ _ c.args.target _ _ _ _ c.in-Open.is c.loop-focus.invariant.0 in
    let lt = room_one k.holds k.region _ _ c.args.target _ _ _ c.in-Cut.entry s c.in-Cut.ensures.0 c.in-Cut.ensures.1 in
    let room = c.requires.room in
    let same = c.loop-focus.invariant.1 in
    omega arith

pub overflow_add-depth : goal.overflow_add-depth
overflow_add-depth g c =
    let k = g.Q.Region.Kind in
    let s = held_open k.holds k.region _ _ c.args.target _ _ _ _ c.in-Open.is c.loop-focus.invariant.0 in
    let lt = room_one k.holds k.region _ _ c.args.target _ _ _ c.in-Cut.entry s c.in-Cut.ensures.0 c.in-Cut.ensures.1 in
    let room = c.requires.room in
    let same = c.loop-focus.invariant.1 in
    let within : c.loop-focus.depth + 1 ≤ length c.loop-focus.frames = omega arith in
    search rules

pub loop-focus-smaller-in-Cut : goal.loop-focus-smaller-in-Cut
loop-focus-smaller-in-Cut g c =
    let k = g.Q.Region.Kind in
    let s = held_open k.holds k.region _ _ c.args.target _ _ _ _ c.in-Open.is c.loop-focus.invariant.0 in
    let lt = room_one k.holds k.region _ _ c.args.target _ _ _ c.in-Cut.entry s c.in-Cut.ensures.0 c.in-Cut.ensures.1 in
    let laws = g.met.Q.Region.Kind in
    let values = laws.finite c.args.target in
    let room = c.requires.room in
    let same = c.loop-focus.invariant.1 in
    rw (c.keep.ensures, c.in-Open.is)
    (smaller_cut k.holds k.region laws.decided values.0 (length c.args.frames.now) c.loop-focus.frames c.loop-focus.depth (c.loop-focus.depth + 1) c.in-Open.region (k.holds c.in-Cut.entry) c.begin-cut.result _ c.begin-cut.ensures (reads_row k.plain k.region laws.rereads c.begin-cut.result) (omega arith) (omega arith) (omega arith))

pub loop-focus-preserved-in-Cut : goal.loop-focus-preserved-in-Cut
loop-focus-preserved-in-Cut g c =
    let k = g.Q.Region.Kind in
    let s = held_open k.holds k.region _ _ c.args.target _ _ _ _ c.in-Open.is c.loop-focus.invariant.0 in
    let lt = room_one k.holds k.region _ _ c.args.target _ _ _ c.in-Cut.entry s c.in-Cut.ensures.0 c.in-Cut.ensures.1 in
    let laws = g.met.Q.Region.Kind in
    let room = c.requires.room in
    let same = c.loop-focus.invariant.1 in
    let long = length-set c.loop-focus.frames c.loop-focus.depth (row_of k.plain c.begin-cut.result) in
    rw c.keep.ensures (
      held_cut k.holds k.region _ _ c.args.target _ _ _ _ _ _ _ (omega arith) s c.in-Cut.ensures.0 c.in-Cut.ensures.1 c.begin-cut.ensures (reads_row k.plain k.region laws.rereads c.begin-cut.result) (omega arith),
      long ∙ same,
      omega arith,
    )

pub kept-requires : goal.kept-requires
kept-requires g c =
    let k = g.Q.Region.Kind in
    let (x, s, inside, barren) = held_barren k.holds k.region _ _ c.args.target _ _ _ _ c.in-Barren.is c.loop-focus.invariant.0 in
    let next : c.loop-focus.depth ≡ suc (c.loop-focus.depth - 1) = omega arith in
    top_there k.holds k.region _ _ c.args.target _ _ _ x next s

pub settle-requires-clause-within : goal.settle-requires-clause-within
settle-requires-clause-within g c =
    let k = g.Q.Region.Kind in
    let (x, s, inside, barren) = held_barren k.holds k.region _ _ c.args.target _ _ _ _ c.in-Barren.is c.loop-focus.invariant.0 in
    let next : c.loop-focus.depth ≡ suc (c.loop-focus.depth - 1) = omega arith in
    let (keeps, below) = top_known k.holds k.region _ _ c.args.target _ _ _ x _ next c.kept.ensures s in
    keeps.within

pub settle-requires-clause-covered : goal.settle-requires-clause-covered
settle-requires-clause-covered g c =
    let k = g.Q.Region.Kind in
    let (x, s, inside, barren) = held_barren k.holds k.region _ _ c.args.target _ _ _ _ c.in-Barren.is c.loop-focus.invariant.0 in
    let next : c.loop-focus.depth ≡ suc (c.loop-focus.depth - 1) = omega arith in
    let (keeps, below) = top_known k.holds k.region _ _ c.args.target _ _ _ x _ next c.kept.ensures s in
    covered_around k.holds k.region _ _ c.args.target _ x _ keeps inside

pub loop-focus-smaller-in-Whole : goal.loop-focus-smaller-in-Whole
loop-focus-smaller-in-Whole g c =
    let next : c.loop-focus.depth ≡ suc (c.loop-focus.depth - 1) = omega arith in
    let k = g.Q.Region.Kind in
    let laws = g.met.Q.Region.Kind in
    let values = laws.finite c.args.target in
    rw c.in-Barren.is (smaller_whole k.holds k.region laws.decided values.0 (length c.args.frames.now) c.loop-focus.frames (c.loop-focus.depth - 1) c.loop-focus.depth c.in-Barren.barren c.in-Whole.barren next)

pub loop-focus-preserved-in-Whole : goal.loop-focus-preserved-in-Whole
loop-focus-preserved-in-Whole g c =
    let k = g.Q.Region.Kind in
    let (x, s, inside, barren) = held_barren k.holds k.region _ _ c.args.target _ _ _ _ c.in-Barren.is c.loop-focus.invariant.0 in
    let next : c.loop-focus.depth ≡ suc (c.loop-focus.depth - 1) = omega arith in
    let (keeps, below) = top_known k.holds k.region _ _ c.args.target _ _ _ x _ next c.kept.ensures s in
    let few = c.loop-focus.invariant.2 in
    (held_whole k.holds k.region _ _ c.args.target _ _ x _ _ _ keeps below inside barren c.in-Whole.ensures.0 c.in-Whole.ensures.1, c.loop-focus.invariant.1, omega arith)

pub loop-focus-smaller : goal.loop-focus-smaller
loop-focus-smaller g c =
    let k = g.Q.Region.Kind in
    let (x, s, inside, barren) = held_barren k.holds k.region _ _ c.args.target _ _ _ _ c.in-Barren.is c.loop-focus.invariant.0 in
    let next : c.loop-focus.depth ≡ suc (c.loop-focus.depth - 1) = omega arith in
    let (keeps, below) = top_known k.holds k.region _ _ c.args.target _ _ _ x _ next c.kept.ensures s in
    let laws = g.met.Q.Region.Kind in
    let values = laws.finite c.args.target in
    let few = c.loop-focus.invariant.2 in
    let (same, learned, parting) = c.in-Rest.ensures in
    rw (c.keep-in-Rest.ensures, c.in-Barren.is)
    (smaller_rest k.holds k.region laws.decided values.0 (length c.args.frames.now) c.loop-focus.frames (c.loop-focus.depth - 1) c.loop-focus.depth _ _ _ c.in-Barren.barren _ _ c.kept.ensures keeps.within same learned parting (reads_row k.plain k.region laws.rereads c.in-Rest.cut) (omega arith) next)

pub loop-focus-preserved : goal.loop-focus-preserved
loop-focus-preserved g c =
    let k = g.Q.Region.Kind in
    let (x, s, inside, barren) = held_barren k.holds k.region _ _ c.args.target _ _ _ _ c.in-Barren.is c.loop-focus.invariant.0 in
    let next : c.loop-focus.depth ≡ suc (c.loop-focus.depth - 1) = omega arith in
    let (keeps, below) = top_known k.holds k.region _ _ c.args.target _ _ _ x _ next c.kept.ensures s in
    let laws = g.met.Q.Region.Kind in
    let few = c.loop-focus.invariant.2 in
    let (same, learned, parting) = c.in-Rest.ensures in
    let long = length-set c.loop-focus.frames (c.loop-focus.depth - 1) (row_of k.plain c.in-Rest.cut) in
    rw c.keep-in-Rest.ensures (
      held_rest k.holds k.region _ _ c.args.target _ _ _ x _ _ _ _ _ keeps below inside barren same learned parting (reads_row k.plain k.region laws.rereads c.in-Rest.cut) (omega arith) next,
      long ∙ c.loop-focus.invariant.1,
      omega arith,
    )
