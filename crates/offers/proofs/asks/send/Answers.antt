use Rattle.std.proofs.Common.{refl, ◌∙◌}
use Rattle.state.specs.Memory.{lent_by, tables_of}
use Rattle.state.proofs.Tries.{reached_grown}
use Rattle.offers.proofs.Asking.{drawn}
use Rattle.offers.proofs.Sending.{send_turns}
use Rattle.offers.proofs.asks.send.Goals as goal

pub returns : goal.returns
returns g c =
    let long = c.in_ok-check_lengths.ensures in
    let was = c.args.state.now in
    let s = tables_of c.args.memory.now in
    record {
      turns = λ t reached pic.
          let grown = reached_grown g.A.Kind.holds g.R.Kind.holds t reached in
          send_turns g.A.Kind g.R.Kind was s t pic c.args.header (lent_by c.args.memory.now) long c.in_ok-check_header_inside.ensures c.first_stop.result
          (c.first_stop.ensures t (drawn g.A.Kind.plain g.R.Kind.plain t _ _ _ _ c.network.ensures pic.shape pic.lists) (c.used_rows-used.ensures ∙ pic.blocks) (λ k b e. (grown.owned k b e).1));
      state = tt;
      tables = refl;
      short = λ x. absurd (long x);
    }
