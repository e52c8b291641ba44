use Rattle.std.proofs.Common.{subst, ◌∙◌}
use Rattle.std.proofs.lemmas.List.{length-take-le}
use Rattle.register.specs.Promise.{Promise}
use Rattle.state.specs.Rows.{stored}
use Rattle.replay.proofs.Told.{told_further, lent_rows}
use Rattle.replay.proofs.run.lend_first_rows.Goals as goal

-- the lengths of the parts that are lent are those of the step
pub returns : goal.returns
returns g c x y es told =
    let a = c.args in
    let l = a.step.lent in
    let rules = length-take-le l.rules a.rules.now c.requires.rules in
    let blocks = length-take-le l.blocks a.blocks.now c.requires.blocks in
    let properties = length-take-le l.properties a.properties.now c.requires.properties in
    let packets = length-take-le l.packet_frames a.packet_frames.now c.requires.packet_frames in
    let addresses = length-take-le l.address_frames a.address_frames.now c.requires.address_frames in
    let s = stored a.rules.now a.blocks.now a.properties.now in
    let m = c.lend_to_call.new in
    let p = stored m.rules m.blocks m.properties in
    let promise = subst (λ k. Promise g.A.Kind g.R.Kind a.register.now (lent_rows l s) a.step.call k c.lend_to_call.result c.lend_to_call.new.register p)
    (λ i. record { rules = rules i; blocks = blocks i; properties = properties i; packet_frames = packets i; address_frames = addresses i }) c.lend_to_call.ensures.promise in
    told_further g.A.Kind g.R.Kind g.met.A.Kind.decided g.met.A.Kind.inhabited a.register.now c.lend_to_call.new.register s p a.step.call l x y es told c.lend_to_call.result promise
    (c.lend_to_call.auto.rules ∙ rules) (c.lend_to_call.auto.blocks ∙ blocks) (c.lend_to_call.auto.properties ∙ properties)
