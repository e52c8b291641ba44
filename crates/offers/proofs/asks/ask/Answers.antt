use Rattle.std.proofs.Common.{refl}
use Rattle.model.specs.declared.calls.Call.TheVariants.{Ask}
use Rattle.state.specs.Memory.{lent_by, tables_of}
use Rattle.state.proofs.Tries.{tried_exit_short, tried_exit_right, reached_grown}
use Rattle.offers.specs.Asked.{asked_as}
use Rattle.offers.proofs.Asking.{blocks_are, ask_misfits, ask_turns}
use Rattle.offers.proofs.asks.ask.Goals as goal

pub returns-in_err-check_lengths-clause-does : goal.returns-in_err-check_lengths-clause-does
returns-in_err-check_lengths-clause-does g c =
    let cause = c.in_err-check_lengths.ensures in
    tried_exit_short g.A.Kind g.R.Kind (Ask c.args.property) (lent_by c.args.memory.now) asked_as
    c.args.state.now (tables_of c.args.memory.now) _ cause.0 c.from_residual.result c.from_residual.ensures.1 cause.1

pub returns-in_err-check_offer-clause-does : goal.returns-in_err-check_offer-clause-does
returns-in_err-check_offer-clause-does g c =
    let long = c.in_ok-check_lengths.ensures in
    let was = c.args.state.now in
    let s = tables_of c.args.memory.now in
    tried_exit_right g.A.Kind g.R.Kind (Ask c.args.property) (lent_by c.args.memory.now) asked_as was s _ c.from_residual-in_err-check_offer.result c.from_residual-in_err-check_offer.ensures.1 long
    (λ t reached pic.
    let grown = reached_grown g.A.Kind.holds g.R.Kind.holds t reached in
    let misfit = c.in_err-check_offer.ensures t pic.addresses pic.rests pic.shape (blocks_are g.A.Kind g.R.Kind was s t pic grown) in
    ask_misfits g.A.Kind g.R.Kind was s t pic c.args.property (lent_by c.args.memory.now) long c.in_ok-check_between.ensures _ misfit)

pub returns-clause-does : goal.returns-clause-does
returns-clause-does g c =
    let long = c.in_ok-check_lengths.ensures in
    let was = c.args.state.now in
    let s = tables_of c.args.memory.now in
    record {
      turns = λ t reached pic.
          let grown = reached_grown g.A.Kind.holds g.R.Kind.holds t reached in
          let fits = c.in_ok-check_offer.ensures t pic.addresses pic.rests pic.shape (blocks_are g.A.Kind g.R.Kind was s t pic grown) in
          ask_turns g.A.Kind g.R.Kind was s t pic c.args.property (lent_by c.args.memory.now) long c.in_ok-check_between.ensures fits c.first_break.result (c.first_break.ensures t pic.shape pic.lists);
      state = tt;
      tables = refl;
      short = λ x. absurd (long x);
    }
