use Rattle.std.proofs.Common.{suc, ◌+◌, ◌≡◌, refl, ◌∙◌, subst, arith}
use Rattle.state.specs.Memory.{tables_of}
use Rattle.restore.specs.Restored.{Steps, Reached}
use Rattle.restore.proofs.Whole.{same_self, same_on, set_out, begins, all_again, reads_now}
use Rattle.restore.proofs.again.restore.Goals as goal

pub loop-line-init : goal.loop-line-init
loop-line-init c = (refl, refl, same_self _, same_self _, λ x y es sets. (omega arith, begins x y es c.new-console.result _ sets.wholes c.new-console.ensures))

pub returns-in-Ended-clause-restores : goal.returns-in-Ended-clause-restores
returns-in-Ended-clause-restores c = let (same_g, same_s, same_a, same_c, lines) = c.loop-line.invariant in record {
  kept = (c.read_on.ensures.kept.0 ∙ same_g, c.read_on.ensures.kept.1 ∙ same_s);
  again = λ x y es wholes told first second.
      let sets = set_out x y es c.listings_rebuild.ensures c.args.first.now _ _ _ wholes told first second in
      let (few, reached) = lines x y es sets in
      let steps = reads_now x y es _ _ _ _ _ _ _ _ same_g same_s same_a same_c _ _ _ _ _ _ c.read_on.ensures.reads sets reached in
      all_again x y es _ _ _ _ _ _ _ sets (subst (λ q. Steps x y es c.loop-line.line q c.read_on.new.console (tables_of c.read_on.new.memory)) c.in-Ended.is steps);
}

pub returns-in-Ended-clause-same_told : goal.returns-in-Ended-clause-same_told
returns-in-Ended-clause-same_told c = let (same_g, same_s, same_a, same_c, lines) = c.loop-line.invariant in same_on _ _ _ same_a c.read_on.ensures.same_told

pub returns-in-Ended-clause-same : goal.returns-in-Ended-clause-same
returns-in-Ended-clause-same c = let (same_g, same_s, same_a, same_c, lines) = c.loop-line.invariant in same_on _ _ _ same_c c.read_on.ensures.same

pub returns-in-Refused-clause-restores : goal.returns-in-Refused-clause-restores
returns-in-Refused-clause-restores c = let (same_g, same_s, same_a, same_c, lines) = c.loop-line.invariant in record {
  kept = (c.read_on.ensures.kept.0 ∙ same_g, c.read_on.ensures.kept.1 ∙ same_s);
  again = λ x y es wholes told first second.
      let sets = set_out x y es c.listings_rebuild.ensures c.args.first.now _ _ _ wholes told first second in
      let (few, reached) = lines x y es sets in
      let steps = reads_now x y es _ _ _ _ _ _ _ _ same_g same_s same_a same_c _ _ _ _ _ _ c.read_on.ensures.reads sets reached in
      subst (λ q. Steps x y es c.loop-line.line q c.read_on.new.console (tables_of c.read_on.new.memory)) c.in-Refused.is steps;
}

pub returns-in-Refused-clause-same_told : goal.returns-in-Refused-clause-same_told
returns-in-Refused-clause-same_told c = let (same_g, same_s, same_a, same_c, lines) = c.loop-line.invariant in same_on _ _ _ same_a c.read_on.ensures.same_told

pub returns-in-Refused-clause-same : goal.returns-in-Refused-clause-same
returns-in-Refused-clause-same c = let (same_g, same_s, same_a, same_c, lines) = c.loop-line.invariant in same_on _ _ _ same_c c.read_on.ensures.same

pub loop-line-preserved : goal.loop-line-preserved
loop-line-preserved c = let (same_g, same_s, same_a, same_c, lines) = c.loop-line.invariant in (
  c.read_on.ensures.kept.0 ∙ same_g,
  c.read_on.ensures.kept.1 ∙ same_s,
  same_on _ _ _ same_a c.read_on.ensures.same_told,
  same_on _ _ _ same_c c.read_on.ensures.same,
  λ x y es sets.
      let (few, reached) = lines x y es sets in
      let steps = reads_now x y es _ _ _ _ _ _ _ _ same_g same_s same_a same_c _ _ _ _ _ _ c.read_on.ensures.reads sets reached in
      let (there, next) = subst (λ q. Steps x y es c.loop-line.line q c.read_on.new.console (tables_of c.read_on.new.memory)) c.in-Taken.is steps in
      let more : suc c.loop-line.line ≡ c.loop-line.line + 1 = omega arith in
      (omega arith, subst (λ k. Reached x y es k c.read_on.new.console (tables_of c.read_on.new.memory)) more next),
)

pub returns-clause-restores : goal.returns-clause-restores
returns-clause-restores c = let (same_g, same_s, same_a, same_c, lines) = c.loop-line.invariant in record {
  kept = (same_g, same_s);
  again = λ x y es wholes told first second.
      let sets = set_out x y es c.listings_rebuild.ensures c.args.first.now _ _ _ wholes told first second in
      let (few, reached) = lines x y es sets in
      let all = sets.rebuilds.few in
      omega arith;
}

pub returns-clause-same_told : goal.returns-clause-same_told
returns-clause-same_told c = let (same_g, same_s, same_a, same_c, lines) = c.loop-line.invariant in same_a

pub returns-clause-same : goal.returns-clause-same
returns-clause-same c = let (same_g, same_s, same_a, same_c, lines) = c.loop-line.invariant in same_c
