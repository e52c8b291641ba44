use Rattle.std.proofs.Common.{refl, ◌≡◌, ◌+◌, length, take, drop, set, Some, ap, ◌∙◌, subst, arith}
use Rattle.std.specs.List.{slice_get}
use Rattle.std.proofs.lemmas.Result.{err_from_is_err_and}
use Rattle.model.specs.declared.calls.Call.TheVariants.{Alter}
use Rattle.lists.proofs.Bounds.{length_max}
use Rattle.state.specs.Memory.{lent_by, tables_of}
use Rattle.state.proofs.Tries.{chosen, row_answered}
use Rattle.edits.specs.Edits.{There, list_length}
use Rattle.edits.proofs.Edits.{frames_enough, row_there, opened_tried, alter_done, alter_undone}
use Rattle.edits.proofs.rules.alter.Goals as goal

pub returns-in_err-check_alter-clause-does : goal.returns-in_err-check_alter-clause-does
returns-in_err-check_alter-clause-does g c =
    let e = err_from_is_err_and c.from_residual.result c.from_residual.ensures.1 in
    let was = c.args.state.now in
    let f = c.args.firewall in
    rw (e.1, e.2)
    (opened_tried g.A.Kind g.R.Kind was (lent_by c.args.memory.now) (Alter f c.args.position c.args.rule) 10
    (There was (lent_by c.args.memory.now) f (list_length was f) c.args.position) _ c.in_err-check_alter.ensures (tables_of c.args.memory.now))

pub unwrap-old-requires : goal.unwrap-old-requires
unwrap-old-requires g c = c.replace_row.ensures.there.1 (row_there c.args.state.now (lent_by c.args.memory.now) c.args.firewall c.args.position c.in_ok-check_alter.ensures.fits _ _ c.total-used.ensures c.start-start.ensures)

pub check_edited-requires : goal.check_edited-requires
check_edited-requires g c =
    let there = c.in_ok-check_alter.ensures.fits in
    let few = length_max c.args.state.now.lists c.args.firewall in
    let is = ap length c.rows_from.ensures in
    let less = frames_enough (lent_by c.args.memory.now) there.long c.length-size.result (omega (arith, c.length-size.ensures)) (drop c.start-start.result c.replace_row.new.rows) in
    omega arith

pub returns-in-Ok-clause-does : goal.returns-in-Ok-clause-does
returns-in-Ok-clause-does g c =
    let there = c.in_ok-check_alter.ensures.fits in
    let m = c.args.memory.now in
    let rows = c.replace_row.new.rows in
    let within = row_there c.args.state.now (lent_by m) c.args.firewall c.args.position there _ _ c.total-used.ensures c.start-start.ensures in
    alter_done g.A.Kind g.R.Kind c.args.state.now (lent_by m) m.rules.now rows m.blocks.now m.properties.now
    c.args.firewall c.args.position c.args.rule there refl
    (chosen _ _ _ _ c.replace_row.ensures.there within c.replace_row.ensures.after ∙ (λ i. set m.rules.now (c.start-start.ensures i + c.args.position) (c.rule_row.ensures i)))
    c.in_ok-check_alter.ensures.right tt
    (λ t rs stands is. c.in-Ok.ensures t rs stands (c.rows_from.ensures ∙ (λ i. take (c.length-size.ensures i) (drop (c.start-start.ensures i) rows)) ∙ is))

pub returns-in-Err-clause-does : goal.returns-in-Err-clause-does
returns-in-Err-clause-does g c =
    let there = c.in_ok-check_alter.ensures.fits in
    let m = c.args.memory.now in
    let rows = c.replace_row.new.rows in
    let within = row_there c.args.state.now (lent_by m) c.args.firewall c.args.position there _ _ c.total-used.ensures c.start-start.ensures in
    alter_undone g.A.Kind g.R.Kind c.args.state.now (lent_by m) m.rules.now rows m.blocks.now m.properties.now
    c.args.firewall c.args.position c.args.rule there refl
    (chosen _ _ _ _ c.replace_row.ensures.there within c.replace_row.ensures.after ∙ (λ i. set m.rules.now (c.start-start.ensures i + c.args.position) (c.rule_row.ensures i)))
    c.in_ok-check_alter.ensures.right c.in-Err.refusal
    (λ t rs stands is. c.in-Err.ensures t rs stands (c.rows_from.ensures ∙ (λ i. take (c.length-size.ensures i) (drop (c.start-start.ensures i) rows)) ∙ is))
    c.unwrap-old.result (subst (λ n. slice_get m.rules.now (n + c.args.position) ≡ Some c.unwrap-old.result) c.start-start.ensures (row_answered m.rules.now (c.start-start.result + c.args.position) _ _ c.unwrap-old.ensures c.replace_row.ensures.before))
    c.replace_row-in-Err.new.rows
    (chosen _ _ _ _ c.replace_row-in-Err.ensures.there (within.0, omega (arith, within.1, c.replace_row.auto.rows)) c.replace_row-in-Err.ensures.after
    ∙ (λ i. set rows (c.start-start.ensures i + c.args.position) c.unwrap-old.result))
