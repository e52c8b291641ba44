use Rattle.std.proofs.Common.{inl}
use Rattle.std.proofs.lemmas.Result.{err_from_is_err_and}
use Rattle.edits.proofs.Edits.{then_kept}
use Rattle.edits.proofs.rules.check_edited.Goals as goal

pub returns-in_err-check_complete : goal.returns-in_err-check_complete
returns-in_err-check_complete g c t rs s is =
    let p = err_from_is_err_and c.from_residual.result c.from_residual.ensures.1 in
    rw (p.1, p.2) (inl (c.in_err-check_complete.ensures t rs s.all_addresses s.all_rests is))

pub returns : goal.returns
returns g c t rs s is =
    let all = c.in_ok-check_complete.ensures t rs s.all_addresses s.all_rests is in
    then_kept g.A.Kind.holds g.R.Kind.holds t rs c.args.firewall all c.check_kept.result (c.check_kept.ensures t rs s is)
