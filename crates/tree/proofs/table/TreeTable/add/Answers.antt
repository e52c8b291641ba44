use Rattle.std.proofs.Common.{sym, subst, suc, inl, inr}
use Rattle.tables.specs.FixedVec.{used}
use Rattle.tree.specs.Rules.{node_at}
use Rattle.tree.proofs.Rows.{Ruled, branched_ruled, pushed}
use Rattle.tree.proofs.Tables.{ruled_of, lies_by, hangs_by}
use Rattle.tree.proofs.table.TreeTable.add.Goals as goal

pub invariant_of-self : goal.invariant_of-self
invariant_of-self c =
    let t = c.args.self.now in
    let f = c.args.firewall in
    let i = c.args.interface in
    let (low, free) = c.requires.free in
    let domains = pushed c.push.result c.push.ensures.room c.requires.room c.push.ensures.after in
    let new = branched_ruled (used t.firewalls) (used t.domains) (ruled_of t) f i c.requires.firewall low (λ e. free (node_at (used t.firewalls) f) (inl (hangs_by t f i c.requires.firewall (sym e)))) (λ k less at by. free (suc k) (inr (lies_by t k f i less at by))) in
    let r = subst (Ruled (used t.firewalls)) (sym domains) new in
    record {
      fewer = r.fewer;
      hung = r.hung;
      below = r.below;
      falling = r.falling;
      single = r.single;
      lower = r.lower;
      low = r.low;
      lowest = r.lowest;
    }
