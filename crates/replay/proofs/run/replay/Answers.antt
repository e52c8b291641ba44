use Rattle.std.proofs.Common.{◌≡◌, suc, ◌+◌, [], ◌∷◌, ◌++◌, map, take, sym, ap, subst, ◌∙◌, arith, take-suc, take_all}
use Rattle.std.proofs.lemmas.List.{map-append}
use Rattle.register.specs.Promise.{Tells}
use Rattle.replay.specs.Replay.{step_of, tables_in}
use Rattle.replay.proofs.Told.{told_longer}
use Rattle.replay.proofs.run.replay.Goals as goal

pub loop-step-init : goal.loop-step-init
loop-step-init g c =
    let none = c.in_ok-record.ensures.items in
    (subst (λ es. Tells g.A.Kind g.R.Kind c.args.addresses c.args.rests es c.new-register.result (tables_in c.args.stores)) (sym none) (c.new-register.ensures (tables_in c.args.stores)), ap (map step_of) none)

pub loop-step-preserved : goal.loop-step-preserved
loop-step-preserved g c =
    let told = c.loop-step.invariant.0 in
    let es = c.loop-step.record.items in
    let reached = told_longer g.A.Kind g.R.Kind c.loop-step.register c.args.addresses c.args.rests es c.loop-step.stores c.lengthen_all.new.stores c.in_ok-lengthen_all.ensures.kept told in
    let further = c.make_call-answer.ensures c.args.addresses c.args.rests es reached in
    let all = c.in_ok-push.ensures.items ∙ ap (λ e. es ++ (e ∷ [])) c.answered.ensures in
    let index = c.loop-step.step-index in
    let steps = c.args.steps.now in
    let step = c.step-item.result in
    let one : index + 1 ≡ suc index = omega arith in
    let next : take (index + 1) steps ≡ take index steps ++ (step ∷ []) =
    ap (λ n. take n steps) one ∙ take-suc steps index step (omega (arith, c.loop-step-test.true)) ∙ ap (λ s. take index steps ++ (s ∷ [])) (sym c.step-item.is) in (
      subst (λ l. Tells g.A.Kind g.R.Kind c.args.addresses c.args.rests l c.make_call-answer.new.register (tables_in c.make_call-answer.new.stores)) (sym all) further,
      ap (map step_of) all ∙ map-append step_of es _ ∙ ap (λ l. l ++ (step ∷ [])) c.loop-step.invariant.1 ∙ sym next,
    )

pub returns : goal.returns
returns g c = record { entries = c.loop-step.invariant.1 ∙ take_all _ _ (omega (arith, c.loop-step-test.false)); lawful = c.loop-step.invariant.0.lawful }
