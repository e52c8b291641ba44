use Rattle.std.proofs.Common.{◌≡◌, ◌+◌, ◌-◌, length, take, drop, Some, refl, ap, ◌∙◌, subst, arith}
use Rattle.std.specs.List.{slice_get}
use Rattle.std.specs.Option.{is_some}
use Rattle.std.proofs.lemmas.Result.{err_from_is_err_and}
use Rattle.model.specs.declared.calls.Call.TheVariants.{Lift}
use Rattle.lists.proofs.Bounds.{length_max}
use Rattle.tables.specs.Rows.{row_in, row_out}
use Rattle.state.specs.Memory.{lent_by, tables_of}
use Rattle.state.proofs.Tries.{chosen, row_answered}
use Rattle.edits.specs.Edits.{There, list_length}
use Rattle.edits.proofs.Edits.{frames_enough, row_there, opened_tried, lift_done, lift_undone}
use Rattle.edits.proofs.rules.lift.Goals as goal

pub returns-in_err-check_lift-clause-does : goal.returns-in_err-check_lift-clause-does
returns-in_err-check_lift-clause-does g c =
    let e = err_from_is_err_and c.from_residual.result c.from_residual.ensures.1 in
    let was = c.args.state.now in
    let f = c.args.firewall in
    rw (e.1, e.2)
    (opened_tried g.A.Kind g.R.Kind was (lent_by c.args.memory.now) (Lift f c.args.position) 10
    (There was (lent_by c.args.memory.now) f (list_length was f) c.args.position) _ c.in_err-check_lift.ensures (tables_of c.args.memory.now))

pub unwrap-row-requires : goal.unwrap-row-requires
unwrap-row-requires g c = c.remove_row.ensures.there.1 (row_there c.args.state.now (lent_by c.args.memory.now) c.args.firewall c.args.position c.in_ok-check_lift.ensures.fits _ _ c.total-used.ensures c.start-start.ensures)

pub overflow_sub-used : goal.overflow_sub-used
overflow_sub-used g c =
    let within = row_there c.args.state.now (lent_by c.args.memory.now) c.args.firewall c.args.position c.in_ok-check_lift.ensures.fits _ _ c.total-used.ensures c.start-start.ensures in
    omega (arith, within.0)

pub check_edited-requires : goal.check_edited-requires
check_edited-requires g c =
    let there = c.in_ok-check_lift.ensures.fits in
    let few = length_max c.args.state.now.lists c.args.firewall in
    let is = ap length c.rows_from.ensures in
    let less = frames_enough (lent_by c.args.memory.now) there.long (c.length-size.result - 1) (omega (arith, c.length-size.ensures)) (drop c.start-start.result c.remove_row.new.rows) in
    omega arith

pub returns-in-Ok-clause-does : goal.returns-in-Ok-clause-does
returns-in-Ok-clause-does g c =
    let there = c.in_ok-check_lift.ensures.fits in
    let m = c.args.memory.now in
    let rows = c.remove_row.new.rows in
    let within = row_there c.args.state.now (lent_by m) c.args.firewall c.args.position there _ _ c.total-used.ensures c.start-start.ensures in
    lift_done g.A.Kind g.R.Kind c.args.state.now (lent_by m) m.rules.now rows m.blocks.now m.properties.now
    c.args.firewall c.args.position there refl
    (chosen _ _ _ _ c.remove_row.ensures.there within c.remove_row.ensures.after ∙ (λ i. row_out (c.total-used.ensures i) (c.start-start.ensures i + c.args.position) m.rules.now))
    c.in_ok-check_lift.ensures.right tt
    (λ t rs stands is. c.in-Ok.ensures t rs stands (c.rows_from.ensures ∙ (λ i. take (c.length-size.ensures i - 1) (drop (c.start-start.ensures i) rows)) ∙ is))
    _ (record { addresses = refl; rests = refl; tree = refl; block_count = refl; property_count = refl }) (is_some c.shrink.result) c.shrink.ensures.some c.shrink.ensures.after

pub returns-in-Err-clause-does : goal.returns-in-Err-clause-does
returns-in-Err-clause-does g c =
    let there = c.in_ok-check_lift.ensures.fits in
    let m = c.args.memory.now in
    let rows = c.remove_row.new.rows in
    let within = row_there c.args.state.now (lent_by m) c.args.firewall c.args.position there _ _ c.total-used.ensures c.start-start.ensures in
    lift_undone g.A.Kind g.R.Kind c.args.state.now (lent_by m) m.rules.now rows m.blocks.now m.properties.now
    c.args.firewall c.args.position there refl
    (chosen _ _ _ _ c.remove_row.ensures.there within c.remove_row.ensures.after ∙ (λ i. row_out (c.total-used.ensures i) (c.start-start.ensures i + c.args.position) m.rules.now))
    c.in_ok-check_lift.ensures.right c.in-Err.refusal
    (λ t rs stands is. c.in-Err.ensures t rs stands (c.rows_from.ensures ∙ (λ i. take (c.length-size.ensures i - 1) (drop (c.start-start.ensures i) rows)) ∙ is))
    c.unwrap-row.result (subst (λ n. slice_get m.rules.now (n + c.args.position) ≡ Some c.unwrap-row.result) c.start-start.ensures (row_answered m.rules.now (c.start-start.result + c.args.position) _ _ c.unwrap-row.ensures c.remove_row.ensures.row))
    c.insert_row.new.rows
    (chosen _ _ _ _ c.insert_row.ensures.room (omega (arith, within.0), omega (arith, within.0, within.1, c.remove_row.auto.rows)) c.insert_row.ensures.after
    ∙ (λ i. row_in (c.total-used.ensures i - 1) (c.start-start.ensures i + c.args.position) c.unwrap-row.result rows))
