use Rattle.std.proofs.Common.{set, refl, ap, ◌∙◌, arith}
use Rattle.model.specs.declared.answers.Answer.TheVariants.{Done}
use Rattle.model.specs.declared.answers.Refusal.TheVariants.{NoSuch, Full, Outside}
use Rattle.model.specs.declared.calls.Call.TheVariants.{Give}
use Rattle.state.specs.Memory.{lent_by, tables_of}
use Rattle.state.proofs.Lent.{lent_enough}
use Rattle.state.proofs.Tries.{tried_exit, tried_exit_short, chosen, row_answered}
use Rattle.growth.proofs.Giving.{tried_overlap, give_no_such, give_full, give_outside, given, give_undone}
use Rattle.growth.proofs.blocks.give.Goals as goal

pub returns-in_err-check_lengths-clause-does : goal.returns-in_err-check_lengths-clause-does
returns-in_err-check_lengths-clause-does g c =
    let cause = c.in_err-check_lengths.ensures in
    tried_exit_short g.A.Kind g.R.Kind (Give c.args.domain c.args.region) (lent_by c.args.memory.now) (λ _. Done) c.args.state.now (tables_of c.args.memory.now) _ cause.0 c.from_residual.result c.from_residual.ensures.1 cause.1

pub returns-in_err-check_owner-clause-does : goal.returns-in_err-check_owner-clause-does
returns-in_err-check_owner-clause-does g c =
    let s = tables_of c.args.memory.now in
    let long = c.in_ok-check_lengths.ensures in
    let cause = c.in_err-check_owner.ensures in
    tried_exit g.A.Kind g.R.Kind (Give c.args.domain c.args.region) (lent_by c.args.memory.now) (λ _. Done) c.args.state.now s _ NoSuch cause.0 c.from_residual-in_err-check_owner.result c.from_residual-in_err-check_owner.ensures.1 long
    (λ t reached pic. give_no_such g.A.Kind g.R.Kind c.args.state.now s (lent_by c.args.memory.now) long c.args.domain c.args.region t pic cause.1)

pub returns-in_err-check_room-clause-does : goal.returns-in_err-check_room-clause-does
returns-in_err-check_room-clause-does g c =
    let s = tables_of c.args.memory.now in
    let long = c.in_ok-check_lengths.ensures in
    let cause = c.in_err-check_room.ensures in
    tried_exit g.A.Kind g.R.Kind (Give c.args.domain c.args.region) (lent_by c.args.memory.now) (λ _. Done) c.args.state.now s _ Full cause.0 c.from_residual-in_err-check_room.result c.from_residual-in_err-check_room.ensures.1 long
    (λ t reached pic. give_full g.A.Kind g.R.Kind c.args.state.now s (lent_by c.args.memory.now) long c.args.domain c.args.region t pic c.in_ok-check_owner.ensures cause.1)

pub returns-in_err-check_inside-clause-does : goal.returns-in_err-check_inside-clause-does
returns-in_err-check_inside-clause-does g c =
    let s = tables_of c.args.memory.now in
    let long = c.in_ok-check_lengths.ensures in
    let cause = c.in_err-check_inside.ensures in
    tried_exit g.A.Kind g.R.Kind (Give c.args.domain c.args.region) (lent_by c.args.memory.now) (λ _. Done) c.args.state.now s _ Outside cause.0 c.from_residual-in_err-check_inside.result c.from_residual-in_err-check_inside.ensures.1 long
    (λ t reached pic. give_outside g.A.Kind g.R.Kind c.args.state.now s (lent_by c.args.memory.now) long c.args.domain c.args.region t pic c.in_ok-check_owner.ensures c.in_ok-check_room.ensures cause.1)

pub returns-in_err-check_apart-clause-does : goal.returns-in_err-check_apart-clause-does
returns-in_err-check_apart-clause-does g c =
    let s = tables_of c.args.memory.now in
    tried_overlap g.A.Kind g.R.Kind c.args.state.now s (lent_by c.args.memory.now) c.in_ok-check_lengths.ensures c.args.domain c.args.region
    c.in_ok-check_owner.ensures c.in_ok-check_room.ensures c.in_ok-check_inside.ensures c.from_residual-in_err-check_apart.result _ c.from_residual-in_err-check_apart.ensures.1 c.in_err-check_apart.ensures

pub unwrap-old-requires : goal.unwrap-old-requires
unwrap-old-requires g c =
    let long = lent_enough (lent_by c.args.memory.now) c.in_ok-check_lengths.ensures in
    let room = c.in_ok-check_room.ensures in
    c.replace_row.ensures.there.1 (omega arith, omega arith)

pub unwrap-requires : goal.unwrap-requires
unwrap-requires g c =
    let long = lent_enough (lent_by c.args.memory.now) c.in_ok-check_lengths.ensures in
    let room = c.in_ok-check_room.ensures in
    let kept = c.replace_row.auto.rows in
    c.replace_row-in-Err.ensures.there.1 (omega arith, omega arith)

pub returns-in-Ok-clause-does : goal.returns-in-Ok-clause-does
returns-in-Ok-clause-does g c =
    let s = tables_of c.args.memory.now in
    let long = lent_enough (lent_by c.args.memory.now) c.in_ok-check_lengths.ensures in
    let room = c.in_ok-check_room.ensures in
    given g.A.Kind g.R.Kind c.args.state.now s (lent_by c.args.memory.now) c.in_ok-check_lengths.ensures c.args.domain c.args.region
    c.in_ok-check_owner.ensures room c.in_ok-check_inside.ensures c.in_ok-check_apart.ensures refl
    c.replace_row.new.rows (chosen _ _ _ _ c.replace_row.ensures.there (omega arith, omega arith) c.replace_row.ensures.after ∙ ap (set s.blocks c.args.state.now.block_count) c.block_row-row.ensures)
    tt _ (record { addresses = refl; rests_same = refl; tree = refl; lists = refl; count = refl; property_count = refl }) c.in-Ok.ensures

pub returns-in-Err-clause-does : goal.returns-in-Err-clause-does
returns-in-Err-clause-does g c =
    let s = tables_of c.args.memory.now in
    let long = lent_enough (lent_by c.args.memory.now) c.in_ok-check_lengths.ensures in
    let room = c.in_ok-check_room.ensures in
    let kept = c.replace_row.auto.rows in
    give_undone g.A.Kind g.R.Kind c.args.state.now s (lent_by c.args.memory.now) c.in_ok-check_lengths.ensures c.args.domain c.args.region
    c.in_ok-check_owner.ensures room c.in_ok-check_inside.ensures c.in_ok-check_apart.ensures refl
    c.replace_row.new.rows (chosen _ _ _ _ c.replace_row.ensures.there (omega arith, omega arith) c.replace_row.ensures.after ∙ ap (set s.blocks c.args.state.now.block_count) c.block_row-row.ensures)
    c.in-Err.refusal c.args.state.now refl c.unwrap-old.result (row_answered s.blocks c.args.state.now.block_count _ _ c.unwrap-old.ensures c.replace_row.ensures.before)
    c.replace_row-in-Err.new.rows (chosen _ _ _ _ c.replace_row-in-Err.ensures.there (omega arith, omega arith) c.replace_row-in-Err.ensures.after) c.in-Err.ensures
