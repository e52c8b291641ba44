use Rattle.std.proofs.Common.{◌≡◌, ℕ, Option, ap, sym, ◌∙◌, rules, ap₂}
use Rattle.std.proofs.lemmas.Option.{slice_get-map}
use Rattle.std.specs.Option.{option_map}
use Rattle.model.specs.Tree.{Block}
use Rattle.checks.specs.Rows.{block_entry}
use Rattle.rebuild.specs.Listing.{block_call}
use Rattle.listing.proofs.RowLines.{row_read}
use Rattle.listing.proofs.rows.block_call.Goals as goal

abbrev given : {A : Type 0} → Option A → ℕ → Option (Block A)
given region domain = option_map (λ x. record { region = x; domain = domain }) region

pub returns : goal.returns
returns g c bs e =
    let block = given c.reread.result c.in_ok-row.row.outcome in
    let made : c.map.result ≡ option_map block_call block = search rules in
    let read = row_read (block_entry g.A.Kind.plain) bs c.args.rows.now e c.args.line c.in_ok-row.row c.in_ok-row.ensures block
    (λ b is. ap₂ given (c.reread.ensures b.region (ap (λ w. w.row) is)) (ap (λ w. w.outcome) is)) in
    made ∙ ap (option_map block_call) read ∙ sym (slice_get-map block_call bs c.args.line)
