use Rattle.std.proofs.Common.{sym, subst, arith}
use Rattle.std.proofs.lemmas.List.{with_items_is}
use Rattle.register.specs.Promise.{Tells}
use Rattle.state.specs.Rows.{stored}
use Rattle.replay.proofs.run.make_call.Goals as goal

pub returns : goal.returns
returns g c x y es told =
    let s = c.args.stores.now in
    let m = c.lend_first_rows.new in
    let size = c.lend_first_rows.auto in
    let rules = sym c.deref_mut.ensures.value in
    let blocks = sym c.deref_mut-2.ensures.value in
    let properties = sym c.deref_mut-3.ensures.value in
    let before = subst (Tells g.A.Kind g.R.Kind x y es c.args.register.now) (λ i. stored (rules i) (blocks i) (properties i)) told in
    let after = c.lend_first_rows.ensures x y es before in
    let rules_after = sym (with_items_is s.rules m.rules (omega (arith, size.rules, c.deref_mut.ensures.len))) in
    let blocks_after = sym (with_items_is s.blocks m.blocks (omega (arith, size.blocks, c.deref_mut-2.ensures.len))) in
    let properties_after = sym (with_items_is s.properties m.properties (omega (arith, size.properties, c.deref_mut-3.ensures.len))) in
    subst (Tells g.A.Kind g.R.Kind x y _ m.register) (λ i. stored (rules_after i) (blocks_after i) (properties_after i)) after
