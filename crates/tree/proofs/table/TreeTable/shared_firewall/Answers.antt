use Rattle.std.proofs.Common.{rules, tests}
use Rattle.std.proofs.lemmas.Iterator.{first_from_Range}
use Rattle.tree.specs.Table.{shape_of}
use Rattle.tree.proofs.Links.{Shared, Unshared, shared_of_all}
use Rattle.tree.proofs.Tables.{sound_of}
use Rattle.tree.proofs.table.TreeTable.shared_firewall.Goals as goal

pub returns : goal.returns
returns c =
    let s = shape_of c.args.self.now in
    let ok = sound_of c.args.self.now in
    shared_of_all s ok c.args.one c.args.other c.find.result (rw c.firewall_count.ensures at (first_from_Range _ _ _ _ (Shared s ok c.args.one c.args.other) (Unshared s ok c.args.one c.args.other) c.find.ensures.ran (λ x q k. search (rules, tests)) (λ x q k. search (rules, tests))))
