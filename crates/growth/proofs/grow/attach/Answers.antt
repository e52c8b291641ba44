use Rattle.std.specs.Option.{is_some}
use Rattle.std.specs.Result.{is_ok}
use Rattle.std.proofs.Common.{refl, ap, ◌∙◌, inl, inr}
use Rattle.model.specs.Limits.{max_rules}
use Rattle.model.specs.Shape.{attached}
use Rattle.model.specs.declared.answers.Refusal.TheVariants.{Full}
use Rattle.model.specs.declared.calls.Call.TheVariants.{Attach}
use Rattle.state.specs.Rows.{rule_count, with_rules}
use Rattle.state.specs.Memory.{lent_by, tables_of}
use Rattle.state.proofs.Tries.{chosen, tried_exit, tried_exit_short, reached_grown}
use Rattle.growth.specs.Attached.{attached_as}
use Rattle.growth.proofs.Attaching.{attach_full, attach_right, attach_sure, attach_lists, attach_room, attach_rows, domain_there, interfaces_apart, room_for_one}
use Rattle.growth.proofs.grow.attach.Goals as goal

pub returns-in_err-check_lengths-clause-does : goal.returns-in_err-check_lengths-clause-does
returns-in_err-check_lengths-clause-does g c =
    let cause = c.in_err-check_lengths.ensures in
    tried_exit_short g.A.Kind g.R.Kind (Attach c.args.domain c.args.upper c.args.lower c.args.decision) (lent_by c.args.memory.now) attached_as
    c.args.state.now (tables_of c.args.memory.now) _ cause.0 c.from_residual.result c.from_residual.ensures.1 cause.1

pub returns-in_err-check_attach_room-clause-does : goal.returns-in_err-check_attach_room-clause-does
returns-in_err-check_attach_room-clause-does g c =
    let cause = c.in_err-check_attach_room.ensures in
    let long = c.in_ok-check_lengths.ensures in
    let there = c.in_ok-check_domain.ensures in
    let apart = c.in_ok-check_interfaces.ensures in
    let s = tables_of c.args.memory.now in
    tried_exit g.A.Kind g.R.Kind (Attach c.args.domain c.args.upper c.args.lower c.args.decision) (lent_by c.args.memory.now) attached_as
    c.args.state.now s _ Full cause.0 c.from_residual-in_err-check_attach_room.result c.from_residual-in_err-check_attach_room.ensures.1 long
    (λ t reached pic. attach_full g.A.Kind g.R.Kind c.args.state.now s t pic c.args.domain c.args.upper c.args.lower c.args.decision (lent_by c.args.memory.now) long there apart cause.1)

pub returns-in_err-made-clause-does : goal.returns-in_err-made-clause-does
returns-in_err-made-clause-does g c =
    let tree = c.args.state.now.tree in
    absurd (attach_sure tree c.attach.new.self c.args.domain c.args.upper c.args.lower c.in_err-made.field-0.0 (domain_there tree c.args.domain c.in_ok-check_domain.ensures)
    (interfaces_apart c.args.upper c.args.lower c.in_ok-check_interfaces.ensures) (λ h. c.in_ok-check_attach_room.ensures (inl h)) c.in_err-made.ensures)

pub returns-clause-does : goal.returns-clause-does
returns-clause-does g c =
    let long = c.in_ok-check_lengths.ensures in
    let there = c.in_ok-check_domain.ensures in
    let apart = c.in_ok-check_interfaces.ensures in
    let room = c.in_ok-check_attach_room.ensures in
    let was = c.args.state.now in
    let s = tables_of c.args.memory.now in
    let w = c.args.decision in
    let a = c.in_ok-made.ensures in
    let written = attach_rows g.A.Kind.plain g.R.Kind.plain was w (lent_by c.args.memory.now) long (λ h. room (inr h)) c.args.memory.now.rules.now c.replace_row.new.rows refl c.total-total.result c.rule_row-row.result c.catch_all.result
    c.total-total.ensures c.rule_row-row.ensures c.catch_all.ensures (is_some c.replace_row.result) c.replace_row.ensures.there c.replace_row.ensures.after in
    record {
      turns = λ t reached pic.
          let grown = reached_grown g.A.Kind.holds g.R.Kind.holds t reached in
          let free = attach_room g.A.Kind g.R.Kind was s t pic c.args.domain c.args.upper c.args.lower w (lent_by c.args.memory.now) long grown (λ h. room (inl h)) in
          let lens = chosen (is_ok c.add.result) _ _ _ c.add.ensures.room (free, room_for_one max_rules (rule_count was) (λ h. room (inr h))) c.add.ensures.after in (
            attach_right g.A.Kind g.R.Kind was s t pic c.args.domain c.args.upper c.args.lower w (lent_by c.args.memory.now) long there apart room c.in_ok-made.made c.attach.new.self a,
            record {
              addresses = pic.addresses;
              rests = pic.rests;
              shape = a.5 ∙ ap (λ z. attached z c.args.domain c.args.upper c.args.lower) pic.shape;
              lists = attach_lists g.A.Kind g.R.Kind was s t pic c.args.domain c.args.upper c.args.lower w (lent_by c.args.memory.now) long _ c.replace_row.new.rows refl (λ h. room (inr h)) lens written;
              block_count = pic.block_count;
              blocks = pic.blocks;
              property_count = pic.property_count;
              properties = pic.properties;
            },
          );
      state = tt;
      tables = ap (with_rules s) written;
      short = λ x. absurd (long x);
    }
