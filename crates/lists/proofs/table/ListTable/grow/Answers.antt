use Rattle.std.proofs.Common.{◌≡◌, ◌+◌, ◌<◌, length, sum, Some, slice_get, ap, arith, rules}
use Rattle.std.proofs.lemmas.List.Sums.{sum_by-set}
use Rattle.std.proofs.lemmas.Option.{slice_get_within, get_or_from_slice_get}
use Rattle.lists.specs.Lengths.{lengths_of}
use Rattle.lists.proofs.table.ListTable.grow.Goals as goal

pub invariant_of-self-clause-room : goal.invariant_of-self-clause-room
invariant_of-self-clause-room c =
    let was = lengths_of c.args.self.now in
    let f = c.args.firewall in
    let n = c.in_ok-length.length in
    let here : slice_get was f ≡ Some n = search rules in
    let there : f < length was = slice_get_within was f n here in
    let now = ap sum c.set.ensures.after in
    omega (arith, now, sum_by-set (λ x. x) was f (n + 1) 0 there, get_or_from_slice_get was f n 0 here)
