use Rattle.std.proofs.Common.{◌≡◌, ◌+◌}
use Rattle.lists.specs.Lengths.{lengths_of, start_of}
use Rattle.listing.proofs.rules.place_of.Given as goal

abbrev pub invariant-loop-firewall : goal.invariant-loop-firewall
invariant-loop-firewall l = start_of (lengths_of l.lists) l.firewall + l.position ≡ l.row
