use Rattle.std.proofs.Common.{refl, ◌∙◌}
use Rattle.growth.proofs.blocks.check_apart.Goals as goal

pub returns-in-Some : goal.returns-in-Some
returns-in-Some g c bs is = let (b, first) = c.in-Some.ensures bs (c.used_rows.ensures ∙ is) in (c.in-Some.block, b, refl, first)
