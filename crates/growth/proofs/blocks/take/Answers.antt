use Rattle.std.proofs.Common.{refl, arith}
use Rattle.model.specs.declared.answers.Answer.TheVariants.{Done}
use Rattle.model.specs.declared.calls.Call.TheVariants.{Take}
use Rattle.state.specs.Memory.{lent_by, tables_of}
use Rattle.state.proofs.Lent.{lent_enough}
use Rattle.state.proofs.Tries.{tried_exit_short, chosen, row_answered}
use Rattle.growth.proofs.Giving.{taken, take_undone}
use Rattle.growth.proofs.blocks.take.Goals as goal

pub returns-in_err-check_lengths-clause-does : goal.returns-in_err-check_lengths-clause-does
returns-in_err-check_lengths-clause-does g c =
    let cause = c.in_err-check_lengths.ensures in
    tried_exit_short g.A.Kind g.R.Kind (Take c.args.block) (lent_by c.args.memory.now) (λ _. Done) c.args.state.now (tables_of c.args.memory.now) _ cause.0 c.from_residual.result c.from_residual.ensures.1 cause.1

pub returns-in-Ok-clause-does : goal.returns-in-Ok-clause-does
returns-in-Ok-clause-does g c =
    let s = tables_of c.args.memory.now in
    let was = c.args.state.now in
    let long = lent_enough (lent_by c.args.memory.now) c.in_ok-check_lengths.ensures in
    let within = c.in_ok-check_number.ensures in
    let few = was.blocks in
    let sizes = c.requires in
    taken g.A.Kind g.R.Kind was s (lent_by c.args.memory.now) c.in_ok-check_lengths.ensures c.args.block within refl
    c.remove_row.new.rows (chosen _ _ _ _ c.remove_row.ensures.there (omega arith, omega arith) c.remove_row.ensures.after)
    tt _ (record { addresses = refl; rests_same = refl; tree = refl; lists = refl; count = refl; property_count = refl }) c.in-Ok.ensures

pub returns-in-Err-clause-does : goal.returns-in-Err-clause-does
returns-in-Err-clause-does g c =
    let s = tables_of c.args.memory.now in
    let was = c.args.state.now in
    let long = lent_enough (lent_by c.args.memory.now) c.in_ok-check_lengths.ensures in
    let within = c.in_ok-check_number.ensures in
    let few = was.blocks in
    let sizes = c.requires in
    let kept = c.remove_row.auto.rows in
    take_undone g.A.Kind g.R.Kind was s (lent_by c.args.memory.now) c.in_ok-check_lengths.ensures c.args.block within refl
    c.remove_row.new.rows (chosen _ _ _ _ c.remove_row.ensures.there (omega arith, omega arith) c.remove_row.ensures.after)
    c.in-Err.refusal was refl c.unwrap-row.result (row_answered s.blocks c.args.block _ _ c.unwrap-row.ensures c.remove_row.ensures.row)
    c.insert_row.new.rows (chosen _ _ _ _ c.insert_row.ensures.room (omega arith, omega arith) c.insert_row.ensures.after) c.in-Err.ensures
