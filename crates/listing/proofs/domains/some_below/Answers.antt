use Rattle.std.proofs.Common.{◌==◌, ◌∙◌, rules, tests, arith}
use Rattle.std.proofs.lemmas.Iterator.{YieldsList-from_range}
use Rattle.std.proofs.lemmas.Iterator.Search.{any_from_yields_List}
use Rattle.tree.specs.Rules.{node_at}
use Rattle.tree.specs.Table.{shape_of}
use Rattle.listing.proofs.DomainLines.{asked_below}
use Rattle.listing.proofs.domains.some_below.Goals as goal

pub returns : goal.returns
returns c =
    let us = (shape_of c.args.tree.now).domains in
    let line = c.args.line in
    any_from_yields_List (λ k. node_at us k == c.args.firewall) _ _ _ c.any.ensures.ran (YieldsList-from_range 0 line line (search rules) (omega arith)) (λ x b q k. search (rules, tests))
    ∙ asked_below us c.args.firewall line 0 (omega arith)
