-- Numbers mean one thing only.
use Rattle.std.proofs.Common.{◌≡◌, ℕ, ◌-◌, ◌%◌, ◌^◌, ◌<◌, ◌≤◌, List, [], ◌∷◌, Some, Ok, Err, Result, sym, refl, ap, ap₂, ◌∙◌, subst, inl, inr, arith}
use Rattle.std.specs.List.{slice_index}
use Rattle.std.proofs.lemmas.Option.{same_Some}
use Rattle.std.proofs.Math.Bridge.{le_prop}
use Rattle.std.proofs.Math.Nat.{ℕ_set}
use mathlib.Core.HLevel.{×_prop}
use Rattle.kinds.specs.Makes.{provided_yes}
use Rattle.forms.specs.Prefix.{prefix_of}
use Rattle.forms.specs.Range.{range_of}
use Rattle.kinds.specs.Set.{set_of}
use Rattle.forms.specs.declared.prefix.Prefix.{Prefix}
use Rattle.forms.specs.declared.range.Range.{Range}
use Rattle.kinds.specs.declared.set.Set.{Set}
use Rattle.model.specs.declared.rules.Decision.{Decision}
use Rattle.model.specs.declared.rules.Decision.TheVariants.{Accept, Discard}
use Rattle.spelling.specs.Letters.{IsMaskText, SetOf, letter}
use Rattle.spelling.specs.Meanings.{NumberOf, AddressOf, PrefixOf, RangeOf}
use Rattle.spelling.specs.declared.fault.Problem.{Problem}

pub number_once : (most : ℕ) (ns : List ℕ) (r q : Result ℕ Problem) → NumberOf most ns r → NumberOf most ns q → r ≡ q
number_once most ns (Ok n) (Ok m) (is, small) (same, low) = let e : n ≡ m = cc in ap Ok e
number_once most ns (Ok n) (Err p) (is, small) (same, large) = absurd (large small)
number_once most ns (Err p) (Ok m) (is, large) (same, small) = absurd (large small)
number_once most ns (Err p) (Err q) (is, large) (same, high) = ap Err (is ∙ sym same)

pub address_once : (ns : List ℕ) (r q : Result ℕ Problem) → AddressOf ns r → AddressOf ns q → r ≡ q
address_once ns (Ok n) (Ok m) (small, is) (low, same) = ap Ok (is ∙ sym same)
address_once ns (Ok n) (Err p) (small, is) (same, large) = absurd (large small)
address_once ns (Err p) (Ok m) (is, large) (small, same) = absurd (large small)
address_once ns (Err p) (Err q) (is, large) (same, high) = ap Err (is ∙ sym same)

same_prefix : (x y : Prefix) → x.address ≡ y.address → x.length ≡ y.length → x ≡ y
same_prefix x y a l =
    let made : (z : Prefix) → prefix_of z.address z.length ≡ Some z = λ z. provided_yes _ _ (×_prop le_prop (ℕ_set _ _)) (z.short, z.clean) in
    same_Some x y (sym (made x) ∙ ap₂ prefix_of a l ∙ made y)

no_prefix : {P : Type 0} (ns : List ℕ) (x : Prefix) (p : Problem) → PrefixOf ns (Ok x) → PrefixOf ns (Err p) → P
no_prefix ns x p (address, length) (inl (is, large)) = absurd (large (address.0, subst (λ l. l ≤ 32) length x.short))
no_prefix ns x p (address, length) (inr (is, small, short, dirty)) = absurd (dirty (ap₂ (λ a l. a % 2 ^ (32 - l)) (sym address.1) (sym length) ∙ x.clean))

pub prefix_once : (ns : List ℕ) (r q : Result Prefix Problem) → PrefixOf ns r → PrefixOf ns q → r ≡ q
prefix_once ns (Ok x) (Ok y) (a, l) (b, m) = ap Ok (same_prefix x y (a.1 ∙ sym b.1) (l ∙ sym m))
prefix_once ns (Ok x) (Err p) a b = no_prefix ns x p a b
prefix_once ns (Err p) (Ok y) a b = no_prefix ns y p b a
prefix_once ns (Err p) (Err q) (inl (is, large)) (inl (same, high)) = ap Err (is ∙ sym same)
prefix_once ns (Err p) (Err q) (inl (is, large)) (inr (same, small, short, dirty)) = absurd (large (small, short))
prefix_once ns (Err p) (Err q) (inr (is, small, short, dirty)) (inl (same, large)) = absurd (large (small, short))
prefix_once ns (Err p) (Err q) (inr a) (inr b) = ap Err (a.0 ∙ sym b.0)

same_range : (x y : Range) → x.lo ≡ y.lo → x.hi ≡ y.hi → x ≡ y
same_range x y l h =
    let made : (z : Range) → range_of z.lo z.hi ≡ Some z = λ z. provided_yes _ _ le_prop z.ordered in
    same_Some x y (sym (made x) ∙ ap₂ range_of l h ∙ made y)

no_range : {P : Type 0} (most : ℕ) (ns : List ℕ) (x : Range) (p : Problem) → RangeOf most ns (Ok x) → RangeOf most ns (Err p) → P
no_range most ns x p (is, small) (inl (same, large)) = absurd (large small)
no_range most ns x p (is, small) (inr (same, low, back)) =
    let ordered = x.ordered in
    let turned = subst (λ l. slice_index l 1 < slice_index l 0) is back in
    absurd (omega arith)

pub range_once : (most : ℕ) (ns : List ℕ) (r q : Result Range Problem) → RangeOf most ns r → RangeOf most ns q → r ≡ q
range_once most ns (Ok x) (Ok y) (is, small) (same, low) = ap Ok (same_range x y (let e : x.lo ≡ y.lo = cc in e) (let e : x.hi ≡ y.hi = cc in e))
range_once most ns (Ok x) (Err p) a b = no_range most ns x p a b
range_once most ns (Err p) (Ok y) a b = no_range most ns y p b a
range_once most ns (Err p) (Err q) (inl (is, large)) (inl (same, high)) = ap Err (is ∙ sym same)
range_once most ns (Err p) (Err q) (inl (is, large)) (inr (same, small, back)) = absurd (large small)
range_once most ns (Err p) (Err q) (inr (is, small, back)) (inl (same, large)) = absurd (large small)
range_once most ns (Err p) (Err q) (inr a) (inr b) = ap Err (a.0 ∙ sym b.0)

same_set : (x y : Set) → x.mask ≡ y.mask → x ≡ y
same_set x y m =
    let made : (z : Set) → set_of z.mask ≡ Some z = λ z. provided_yes _ _ (×_prop le_prop le_prop) (z.some, z.few) in
    same_Some x y (sym (made x) ∙ ap set_of m ∙ made y)

pub set_text_right : (text : List ℕ) (r : Result Set Problem) → SetOf text r → IsMaskText text
set_text_right text (Ok x) s = s.0
set_text_right text (Err p) s = s.0

pub set_once : (text : List ℕ) (r q : Result Set Problem) → SetOf text r → SetOf text q → r ≡ q
set_once text (Ok x) (Ok y) (right, is) (_, same) = ap Ok (same_set x y (is ∙ sym same))
set_once text (Ok x) (Err p) (right, is) (_, none, same) = absurd (let some = x.some in omega arith)
set_once text (Err p) (Ok y) (right, none, is) (_, same) = absurd (let some = y.some in omega arith)
set_once text (Err p) (Err q) (right, none, is) (_, zero', same) = ap Err (is ∙ sym same)

same_letter : (c d : Decision) → letter c ≡ letter d → c ≡ d
same_letter Accept Accept e = refl
same_letter Accept Discard e = absurd (omega arith)
same_letter Discard Accept e = absurd (omega arith)
same_letter Discard Discard e = refl

pub decision_once : (text : List ℕ) (c d : Decision) → text ≡ letter c ∷ [] → text ≡ letter d ∷ [] → c ≡ d
decision_once text c d a b = same_letter c d (let e : letter c ≡ letter d = cc in e)
