use Rattle.std.proofs.Common.{◌≡◌, ap, sym, ◌∙◌, rules}
use Rattle.std.specs.Option.{option_map}
use Rattle.std.proofs.lemmas.Option.{slice_get-map}
use Rattle.checks.proofs.PropertyRows.{property_reread}
use Rattle.checks.specs.Rows.{property_row, property_of}
use Rattle.rebuild.specs.Listing.{property_call}
use Rattle.listing.proofs.RowLines.{row_read}
use Rattle.listing.proofs.rows.property_call.Goals as goal

pub returns : goal.returns
returns g c ps e =
    let made : c.map.result ≡ option_map property_call c.read_property.result = search rules in
    let read = row_read (property_row g.A.Kind.plain g.R.Kind.plain) ps c.args.rows.now e c.args.line c.in_ok-row.row c.in_ok-row.ensures c.read_property.result
    (λ p is. c.read_property.ensures ∙ ap (property_of g.A.Kind.region g.R.Kind.region) is ∙ property_reread g.A.Kind.plain g.R.Kind.plain g.A.Kind.region g.R.Kind.region g.met.A.Kind.rereads g.met.R.Kind.rereads p) in
    made ∙ ap (option_map property_call) read ∙ sym (slice_get-map property_call ps c.args.line)
