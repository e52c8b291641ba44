use Rattle.std.specs.Option.{is_some}
use Rattle.std.proofs.Common.{refl, ap, arith}
use Rattle.model.specs.declared.answers.Answer.TheVariants.{Done}
use Rattle.model.specs.declared.calls.Call.TheVariants.{Withdraw}
use Rattle.state.specs.Rows.{with_properties}
use Rattle.state.specs.Memory.{lent_by, tables_of}
use Rattle.state.proofs.Lent.{lent_enough}
use Rattle.state.proofs.Tries.{tried_exit_short}
use Rattle.offers.proofs.Standing.{withdraw_rows, withdraw_right, withdraw_count, withdraw_pictures}
use Rattle.offers.proofs.properties.withdraw.Goals as goal

pub returns-in_err-check_lengths-clause-does : goal.returns-in_err-check_lengths-clause-does
returns-in_err-check_lengths-clause-does g c =
    let cause = c.in_err-check_lengths.ensures in
    tried_exit_short g.A.Kind g.R.Kind (Withdraw c.args.property) (lent_by c.args.memory.now) (λ _. Done)
    c.args.state.now (tables_of c.args.memory.now) _ cause.0 c.from_residual.result c.from_residual.ensures.1 cause.1

pub returns-clause-does : goal.returns-clause-does
returns-clause-does g c =
    let long = c.in_ok-check_lengths.ensures in
    let there = c.in_ok-check_number.ensures in
    let was = c.args.state.now in
    let n = c.args.property in
    let s = tables_of c.args.memory.now in
    let written = withdraw_rows was n (lent_by c.args.memory.now) long there c.args.memory.now.properties.now c.remove_row.new.rows refl (is_some c.remove_row.result) c.remove_row.ensures.there c.remove_row.ensures.after in
    record {
      turns = λ t reached pic. (
        withdraw_right g.A.Kind g.R.Kind was s t pic (lent_by c.args.memory.now) long n there,
        record {
          addresses = pic.addresses;
          rests = pic.rests;
          shape = pic.shape;
          lists = pic.lists;
          block_count = pic.block_count;
          blocks = pic.blocks;
          property_count = withdraw_count g.A.Kind g.R.Kind was s t pic (lent_by c.args.memory.now) long n there;
          properties = withdraw_pictures g.A.Kind g.R.Kind was s t pic (lent_by c.args.memory.now) long n there c.remove_row.new.rows
              (let enough = lent_enough (lent_by c.args.memory.now) long in let few = was.properties in omega arith) written;
        },
      );
      state = tt;
      tables = ap (with_properties s) written;
      short = λ x. absurd (long x);
    }
