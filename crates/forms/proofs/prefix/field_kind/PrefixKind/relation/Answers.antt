use Rattle.std.proofs.Common.{◌-◌, refl, arith}
use Rattle.forms.proofs.Halves.{crossing_in}
use Rattle.forms.proofs.prefix.field_kind.PrefixKind.relation.Goals as goal

pub returns-then-has-2 : goal.returns-then-has-2
returns-then-has-2 c =
    let x = c.args.self in
    let y = c.args.other in
    crossing_in x.address y.address (32 - x.length) (32 - x.length - 1) (32 - y.length) (omega arith) (omega arith) x.clean (c.if-has-2.ensures.0 refl)
