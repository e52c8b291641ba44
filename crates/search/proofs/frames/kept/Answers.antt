use Rattle.std.proofs.Common.{sym, ◌∙◌}
use Rattle.search.proofs.Positions.{nth_get_or, nth_within}
use Rattle.search.proofs.frames.kept.Goals as goal

pub returns : goal.returns
returns g c =
    let (d, f) = c.requires in
    (c.index-frames-at.result, nth_get_or c.args.frames.now c.args.at _ (nth_within c.args.frames.now c.args.at f.0 f.1) c.index-frames-at.is, sym c.read.ensures ∙ c.in-Some.is)
