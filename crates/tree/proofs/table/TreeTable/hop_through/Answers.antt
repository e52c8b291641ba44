use Rattle.std.proofs.Common.{sym, refl, ◌∙◌}
use Rattle.tree.specs.Table.{shape_of}
use Rattle.tree.proofs.Sides.{branches_one, branches_two, missing_side, same_side, other_side, sides_firewall}
use Rattle.tree.proofs.Tables.{sound_of}
use Rattle.tree.proofs.table.TreeTable.hop_through.Goals as goal

pub returns-then-not-both_exist : goal.returns-then-not-both_exist
returns-then-not-both_exist c =
    missing_side (shape_of c.args.self.now) (sound_of c.args.self.now) c.args.firewall c.args.from c.args.to (λ both. let e = c.both_exist.ensures.1 both in cc (e, c.if-not-both_exist.true))

pub returns-then-eq : goal.returns-then-eq
returns-then-eq c =
    let near = c.branch_toward-near.result in
    let far = c.branch_toward-far.result in
    let same = branches_one near far (sym c.eq.ensures ∙ c.if-eq.true) in
    same_side (shape_of c.args.self.now) (sound_of c.args.self.now) c.args.firewall c.args.from c.args.to near far c.branch_toward-near.ensures c.branch_toward-far.ensures same

pub side-here-requires-clause-firewall : goal.side-here-requires-clause-firewall
side-here-requires-clause-firewall c =
    let near = c.branch_toward-near.result in
    let far = c.branch_toward-far.result in
    let differ = branches_two near far (sym c.eq.ensures ∙ c.if-eq.false) in
    sides_firewall (shape_of c.args.self.now) (sound_of c.args.self.now) c.args.firewall c.args.from c.args.to near far c.branch_toward-near.ensures c.branch_toward-far.ensures differ

pub side-there-requires-clause-firewall : goal.side-there-requires-clause-firewall
side-there-requires-clause-firewall c =
    let near = c.branch_toward-near.result in
    let far = c.branch_toward-far.result in
    let differ = branches_two near far (sym c.eq.ensures ∙ c.if-eq.false) in
    sides_firewall (shape_of c.args.self.now) (sound_of c.args.self.now) c.args.firewall c.args.from c.args.to near far c.branch_toward-near.ensures c.branch_toward-far.ensures differ

pub returns : goal.returns
returns c =
    let near = c.branch_toward-near.result in
    let far = c.branch_toward-far.result in
    let differ = branches_two near far (sym c.eq.ensures ∙ c.if-eq.false) in
    let (in-u, in-v) = c.both_exist.ensures.0 c.if-not-both_exist.false in
    other_side (shape_of c.args.self.now) (sound_of c.args.self.now) c.args.firewall c.args.from c.args.to near far in-u in-v c.branch_toward-near.ensures c.branch_toward-far.ensures differ c.side-here.result.node
    (record { firewall = c.args.firewall; entered = c.side-here.result.interface; left = c.side-there.result.interface; reached = c.side-there.result.node }) refl c.side-here.ensures c.side-there.ensures
