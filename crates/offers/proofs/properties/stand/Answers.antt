use Rattle.std.specs.Option.{is_some}
use Rattle.std.proofs.Common.{refl, ap, arith}
use Rattle.model.specs.declared.answers.Answer.TheVariants.{Done}
use Rattle.model.specs.declared.calls.Call.TheVariants.{Stand}
use Rattle.checks.specs.Rows.{property_row}
use Rattle.state.specs.Rows.{with_properties}
use Rattle.state.specs.Memory.{lent_by, tables_of}
use Rattle.state.proofs.Lent.{lent_enough}
use Rattle.state.proofs.Tries.{tried_exit_short, tried_exit_right, reached_grown}
use Rattle.offers.proofs.Asking.{blocks_are}
use Rattle.offers.proofs.Standing.{stand_misfits, stand_breaks, stand_right, stand_rows, stand_pictures, stand_count}
use Rattle.offers.proofs.properties.stand.Goals as goal

pub returns-in_err-check_lengths-clause-does : goal.returns-in_err-check_lengths-clause-does
returns-in_err-check_lengths-clause-does g c =
    let cause = c.in_err-check_lengths.ensures in
    tried_exit_short g.A.Kind g.R.Kind (Stand c.args.property) (lent_by c.args.memory.now) (λ _. Done)
    c.args.state.now (tables_of c.args.memory.now) _ cause.0 c.from_residual.result c.from_residual.ensures.1 cause.1

pub returns-in_err-check_offer-clause-does : goal.returns-in_err-check_offer-clause-does
returns-in_err-check_offer-clause-does g c =
    let long = c.in_ok-check_lengths.ensures in
    let was = c.args.state.now in
    let s = tables_of c.args.memory.now in
    tried_exit_right g.A.Kind g.R.Kind (Stand c.args.property) (lent_by c.args.memory.now) (λ _. Done) was s _ c.from_residual-in_err-check_offer.result c.from_residual-in_err-check_offer.ensures.1 long
    (λ t reached pic.
    let grown = reached_grown g.A.Kind.holds g.R.Kind.holds t reached in
    let misfit = c.in_err-check_offer.ensures t pic.addresses pic.rests pic.shape (blocks_are g.A.Kind g.R.Kind was s t pic grown) in
    stand_misfits g.A.Kind g.R.Kind was s t pic c.args.property (lent_by c.args.memory.now) long c.in_ok-check_between.ensures c.in_ok-check_room.ensures _ misfit)

pub returns-in_err-check_offer_kept-clause-does : goal.returns-in_err-check_offer_kept-clause-does
returns-in_err-check_offer_kept-clause-does g c =
    let long = c.in_ok-check_lengths.ensures in
    let was = c.args.state.now in
    let s = tables_of c.args.memory.now in
    tried_exit_right g.A.Kind g.R.Kind (Stand c.args.property) (lent_by c.args.memory.now) (λ _. Done) was s _ c.from_residual-in_err-check_offer_kept.result c.from_residual-in_err-check_offer_kept.ensures.1 long
    (λ t reached pic.
    let grown = reached_grown g.A.Kind.holds g.R.Kind.holds t reached in
    let fits = c.in_ok-check_offer.ensures t pic.addresses pic.rests pic.shape (blocks_are g.A.Kind g.R.Kind was s t pic grown) in
    let (f, k, is, b) = c.in_err-check_offer_kept.ensures t pic.shape pic.lists in
    stand_breaks g.A.Kind g.R.Kind was s t pic c.args.property (lent_by c.args.memory.now) long c.in_ok-check_between.ensures c.in_ok-check_room.ensures fits _ f k is b)

pub unwrap-requires : goal.unwrap-requires
unwrap-requires g c =
    let long = lent_enough (lent_by c.args.memory.now) c.in_ok-check_lengths.ensures in
    let room = c.in_ok-check_room.ensures in
    c.replace_row.ensures.there.1 (omega arith, omega arith)

pub returns-clause-does : goal.returns-clause-does
returns-clause-does g c =
    let long = c.in_ok-check_lengths.ensures in
    let between = c.in_ok-check_between.ensures in
    let room = c.in_ok-check_room.ensures in
    let was = c.args.state.now in
    let p = c.args.property in
    let s = tables_of c.args.memory.now in
    let written = stand_rows was (lent_by c.args.memory.now) long room c.args.memory.now.properties.now c.replace_row.new.rows refl c.property_row.result (property_row g.A.Kind.plain g.R.Kind.plain p) c.property_row.ensures
    (is_some c.replace_row.result) c.replace_row.ensures.there c.replace_row.ensures.after in
    record {
      turns = λ t reached pic.
          let grown = reached_grown g.A.Kind.holds g.R.Kind.holds t reached in
          let fits = c.in_ok-check_offer.ensures t pic.addresses pic.rests pic.shape (blocks_are g.A.Kind g.R.Kind was s t pic grown) in (
            stand_right g.A.Kind g.R.Kind was s t pic p (lent_by c.args.memory.now) long between room fits (c.in_ok-check_offer_kept.ensures t pic.shape pic.lists),
            record {
              addresses = pic.addresses;
              rests = pic.rests;
              shape = pic.shape;
              lists = pic.lists;
              block_count = pic.block_count;
              blocks = pic.blocks;
              property_count = stand_count g.A.Kind g.R.Kind was s t pic p (lent_by c.args.memory.now) long between room;
              properties = stand_pictures g.A.Kind g.R.Kind was s t pic p (lent_by c.args.memory.now) long between room c.replace_row.new.rows refl written;
            },
          );
      state = tt;
      tables = ap (with_properties s) written;
      short = λ x. absurd (long x);
    }
