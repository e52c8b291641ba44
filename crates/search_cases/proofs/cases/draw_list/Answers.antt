use Rattle.std.proofs.Common.{ℕ, ◌≡◌, ◌-◌, ◌≤◌, ap, vec_len, arith}
use Rattle.std.proofs.lemmas.Result.{IfOk-weaker}
use Rattle.std.proofs.iter.runs.Sources.{range_runs}
use Rattle.std.specs.declared.ops.Range.{Range}
use Rattle.search_cases.proofs.cases.draw_list.Goals as goal

-- as many entries are collected as the range has numbers
pub returns : goal.returns
returns g c = IfOk-weaker c.collect.result _ (λ list. vec_len list ≤ 24) (λ list h.
    let p = h tt in
    let q = c.map.ensures.runs p.0 p.0.seen p.1 in
    let counted = range_runs q.0 q.0.seen in
    let from : q.0.from.end - q.0.from.start ≡ c.below_u32-count.result - 0 = ap (λ (r : Range ℕ). r.end - r.start) q.1 in
    omega (arith, p.3.1, p.0.long, q.2.1, counted.0)) c.collect.ensures.runs
