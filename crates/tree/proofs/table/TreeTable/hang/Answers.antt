use Rattle.std.proofs.Common.{sym, subst, length, ◌<◌, arith}
use Rattle.tables.specs.FixedVec.{used}
use Rattle.tree.proofs.Rows.{Ruled, attached_ruled, pushed}
use Rattle.tree.proofs.Tables.{ruled_of}
use Rattle.tree.proofs.table.TreeTable.hang.Goals as goal

pub invariant_of-self : goal.invariant_of-self
invariant_of-self c =
    let t = c.args.self.now in
    let fewer = t.fewer in
    let room : length (used t.domains) < 63 = c.requires.room in
    let fit : length (used t.firewalls) < 63 = omega arith in
    let firewalls = pushed c.push.result c.push.ensures.room fit c.push.ensures.after in
    let domains = pushed c.push-2.result c.push-2.ensures.room room c.push-2.ensures.after in
    let new = attached_ruled (used t.firewalls) (used t.domains) (ruled_of t) c.args.domain c.args.upper c.len-firewall.result c.args.lower c.len-firewall.ensures.len c.requires.domain c.requires.apart.0 c.requires.apart.1 c.requires.apart.2 in
    let r = subst (λ fs. Ruled fs (used c.push-2.new.self)) (sym firewalls) (subst (Ruled _) (sym domains) new) in
    record {
      fewer = r.fewer;
      hung = r.hung;
      below = r.below;
      falling = r.falling;
      single = r.single;
      lower = r.lower;
      low = r.low;
      lowest = r.lowest;
    }
