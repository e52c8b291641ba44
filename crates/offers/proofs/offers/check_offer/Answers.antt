use Rattle.std.proofs.Common.{length, ap, ◌∙◌, arith, length-take}
use Rattle.tree.specs.Table.{shape_of}
use Rattle.checks.specs.Addresses.{BlocksAre}
use Rattle.offers.proofs.Offering.{unjoined_exit, source_exit, last_check}
use Rattle.offers.proofs.offers.check_offer.Goals as goal

pub returns-in_err-check_joined : goal.returns-in_err-check_joined
returns-in_err-check_joined g c t whole rest shape blocks =
    let was = c.args.state.now in
    unjoined_exit g.A.Kind.holds g.R.Kind.holds t c.args.property was.addresses was.rests whole rest (shape_of was.tree) shape c.in_ok-check_regions_inside.ensures
    _ c.from_residual-in_err-check_joined.result c.from_residual-in_err-check_joined.ensures.1 c.in_err-check_joined.ensures

pub returns-in_err-check_source : goal.returns-in_err-check_source
returns-in_err-check_source g c t whole rest shape blocks =
    let was = c.args.state.now in
    source_exit g.A.Kind.holds g.R.Kind.holds t c.args.property was.addresses was.rests whole rest (shape_of was.tree) shape c.in_ok-check_regions_inside.ensures c.in_ok-check_joined.ensures
    _ c.from_residual-in_err-check_source.result c.from_residual-in_err-check_source.ensures.1 (c.in_err-check_source.ensures t (record { same = c.used_rows-used.ensures ∙ blocks.same; owned = blocks.owned }))

pub check_source-requires : goal.check_source-requires
check_source-requires g c =
    let is = ap length c.used_rows-used.ensures in
    let size = length-take c.args.state.now.block_count c.args.blocks.now in
    omega (arith, c.requires)

pub check_destination-requires : goal.check_destination-requires
check_destination-requires g c =
    let is = ap length c.used_rows-used.ensures in
    let size = length-take c.args.state.now.block_count c.args.blocks.now in
    let same = c.check_source.auto.frames in
    omega (arith, c.requires)

pub returns : goal.returns
returns g c t whole rest shape blocks =
    let was = c.args.state.now in
    let used : BlocksAre g.A.Kind c.used_rows-used.result.now t = record { same = c.used_rows-used.ensures ∙ blocks.same; owned = blocks.owned } in
    last_check g.A.Kind.holds g.R.Kind.holds t c.args.property was.addresses was.rests whole rest (shape_of was.tree) shape c.in_ok-check_regions_inside.ensures c.in_ok-check_joined.ensures
    (c.in_ok-check_source.ensures t used) c.check_destination.result (c.check_destination.ensures t used)
