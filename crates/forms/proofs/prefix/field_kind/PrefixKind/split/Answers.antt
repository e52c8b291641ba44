use Rattle.std.proofs.Common.{◌+◌, ◌-◌, ◌^◌, ◌<◌, refl, inl, arith, rules}
use Rattle.std.proofs.lemmas.Nat.{one_shl}
use Rattle.std.proofs.lemmas.Bool.Decides.{not_from_Decides}
use Rattle.forms.proofs.Halves.{parted_at, unsplit_in, disjoint_in, half_fits, clean_low, clean_high}
use Rattle.forms.proofs.prefix.field_kind.PrefixKind.split.Goals as goal
use Rattle.forms.proofs.prefix.field_kind.PrefixKind.split.Goals.{else-self-other-via-then-self-other+else-has as then-self-other·else-has, else-self-other-via-else-self-other as else-self-other}

pub overflow_add-upper : goal.overflow_add-upper
overflow_add-upper c =
    let x = c.args.self in
    let half = one_shl (32 - (x.length + 1)) 32 (omega arith) in
    let small : x.address < 2 ^ 32 = search rules in
    let sum = half_fits x.address (32 - x.length) (32 - (x.length + 1)) (omega arith) (omega arith) small x.clean in
    search rules

pub invariant_of-result : goal.invariant_of-result
invariant_of-result c =
    let x = c.args.self in
    record { short = omega arith; clean = clean_low x.address (32 - x.length) (32 - (x.length + 1)) (omega arith) x.clean }

pub invariant_of-result-then-has : goal.invariant_of-result-then-has
invariant_of-result-then-has c =
    let x = c.args.self in
    let half = one_shl (32 - (x.length + 1)) 32 (omega arith) in
    record { short = omega arith; clean = clean_high x.address (32 - x.length) (32 - (x.length + 1)) _ (omega arith) half x.clean }

pub returns-then-has : goal.returns-then-has
returns-then-has c =
    let x = c.args.self in
    let y = c.args.other in
    let half = one_shl (32 - (x.length + 1)) 32 (omega arith) in
    parted_at x.address y.address (32 - x.length) (32 - (x.length + 1)) (32 - y.length) _ (omega arith) half (omega arith) x.clean (c.if-has.ensures.0 refl)

pub returns-else-self-other : goal.returns-else-self-other
returns-else-self-other c =
    let x = c.args.self in
    let y = c.args.other in
    elim c.else-self-other.branch [
      | then-self-other·else-has w ↦ inl (disjoint_in x.address y.address (32 - x.length) (32 - y.length) (omega (arith, w.if-self-other.true)) (not_from_Decides _ w.has.ensures w.if-has.false))
      | else-self-other w ↦ unsplit_in x.address y.address (32 - x.length) (32 - y.length) (omega (arith, w.if-self-other.false))
    ]
