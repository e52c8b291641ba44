use Rattle.tree.specs.Table.{shape_of}
use Rattle.listing.proofs.DomainLines.{domain_read}
use Rattle.listing.proofs.domains.lower_uplink.Goals as goal

pub returns : goal.returns
returns c = domain_read (shape_of c.args.tree.now) c.args.line c.requires c.domain_uplink.result c.domain_uplink.ensures
