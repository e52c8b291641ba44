use Rattle.std.proofs.Common.{◌-◌, ◌∙◌, ap, [], length, arith}
use Rattle.std.specs.List.{slice_get}
use Rattle.lists.proofs.Laid.{laid_total}
use Rattle.rebuild.specs.Listing.{domain_calls}
use Rattle.listing.proofs.ListingParts.{domain_part, block_part, rule_part, property_part}
use Rattle.listing.proofs.line.listed.Goals as goal

pub returns-then-number-domains : goal.returns-then-number-domains
returns-then-number-domains g c t pic =
    let count = ap (λ s. length s.domains) pic.shape in
    c.domain_call.ensures ∙ ap (λ s. slice_get (domain_calls s [] s.domains) c.args.number) pic.shape ∙ domain_part _ _ t c.args.number (omega arith)

pub returns-then-line-state : goal.returns-then-line-state
returns-then-line-state g c t pic =
    let count = ap (λ s. length s.domains) pic.shape in
    let blocks = pic.block_count in
    c.block_call.ensures t.blocks (c.used_rows.ensures ∙ pic.blocks) ∙ block_part _ _ t c.args.number (c.args.number - (c.domain_count-domains.result - 1)) (omega arith) (omega arith)

pub returns-then-line-rules : goal.returns-then-line-rules
returns-then-line-rules g c t pic =
    let count = ap (λ s. length s.domains) pic.shape in
    let blocks = pic.block_count in
    let rules = laid_total pic.lists in
    let line = c.args.number - (c.domain_count-domains.result - 1) in
    c.rule_call.ensures t.lists pic.lists ∙ rule_part _ _ t c.args.number line (omega arith) (line - c.args.state.now.block_count) (omega arith) (omega arith)

pub returns : goal.returns
returns g c t pic =
    let count = ap (λ s. length s.domains) pic.shape in
    let blocks = pic.block_count in
    let rules = laid_total pic.lists in
    let line = c.args.number - (c.domain_count-domains.result - 1) in
    let behind = line - c.args.state.now.block_count in
    c.property_call.ensures t.properties (c.used_rows-2.ensures ∙ pic.properties) ∙ property_part _ _ t c.args.number line (omega arith) behind (omega arith) (behind - c.total-rules.result) (omega arith)
