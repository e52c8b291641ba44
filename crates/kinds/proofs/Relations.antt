-- What meet and split tell of how two regions lie to each other.
use Rattle.std.proofs.Common.{◌≡◌, ◌⊎◌, true, false, Some, None, Option, Decides, refl, subst, inl, inr}
use Rattle.std.proofs.lemmas.Bool.{false≢true}
use Rattle.kinds.specs.Related.{Related}
use Rattle.kinds.specs.declared.relation.Relation as relation
use Rattle.kinds.specs.declared.relation.Relation.{Relation}
use Rattle.kinds.specs.Words.{Share, Inside, Disjoint, Common, Parted, Inhabited, Exactly, MeetOf, SplitOf, CommonAround}

pub tells_yes : {P : Type 0} → P → Decides true P
tells_yes h = (λ _. h, λ _. refl)

pub tells_no : {P : Type 0} → (P → ⊥) → Decides false P
tells_no n = (λ e. absurd (false≢true e), λ h. absurd (n h))

module _ {V : Type 0} (p q : V → Type 0) where
  pub share_inside : Inhabited p → Inside p q → Share p q
  share_inside v i = (v.0, v.1, i v.0 v.1)

  pub not_apart : Share p q → Disjoint p q → ⊥
  not_apart s d = d s.0 s.1 s.2

  -- a part of p that shares nothing with q holds a value, so p does not lie inside q
  pub not_inside_parted : {a b : V → Type 0} → Inhabited a → Inhabited b → Parted p q a b → Inside p q → ⊥
  not_inside_parted v w c i = elim c.one [
    | inl o ↦ o.1 w.0 w.1 (i w.0 (c.second w.0 w.1))
    | inr o ↦ o.0 v.0 v.1 (i v.0 (c.first v.0 v.1))
  ]

  pub shares_told : Inhabited p → (r : Relation) → Related p q r → (r ≡ relation.TheVariants.Inside) ⊎ (r ≡ relation.TheVariants.Crossing) → Share p q
  shares_told v r told (inl e) = share_inside v (subst (Related p q) e told)
  shares_told v r told (inr e) = (subst (Related p q) e told).0

  pub not_inside_told : Inhabited p → (r : Relation) → Related p q r → (r ≡ relation.TheVariants.Apart) ⊎ (r ≡ relation.TheVariants.Crossing) → Inside p q → ⊥
  not_inside_told v r told (inl e) i = not_apart (share_inside v i) (subst (Related p q) e told)
  not_inside_told v r told (inr e) i = (subst (Related p q) e told).1 i

-- what two regions have in common, where r lies in both
pub common_told : {X V : Type 0} (holds : X → V → Type 0) (r p q : V → Type 0) → Inhabited r → Inside r p → Inside r q → (o : Option X) → MeetOf holds p q o → CommonAround holds r p q o
common_told holds r p q v i j None d = absurd (d v.0 (i v.0 v.1) (j v.0 v.1))
common_told holds r p q v i j (Some m) c = (i, j, c)

module _ {X V : Type 0} (holds : X → V → Type 0) (inhabited : (x : X) → Inhabited (holds x)) (p q : V → Type 0) where
  -- what meet has to answer where the common values are known
  pub meet_known : (c : V → Type 0) → Common p q c → Inhabited c → (r : Option X) → MeetOf holds p q r → (m : X) × (r ≡ Some m) × Exactly (holds m) c
  meet_known c common some None d = absurd (d some.0 (common.left some.0 some.1) (common.right some.0 some.1))
  meet_known c common some (Some m) k = (m, refl, (λ v h. common.all v (k.left v h) (k.right v h), λ v h. k.all v (common.left v h) (common.right v h)))

  pub meet_nothing : Disjoint p q → (r : Option X) → MeetOf holds p q r → r ≡ None
  meet_nothing d None k = refl
  meet_nothing d (Some m) k = absurd (let v = inhabited m in d v.0 (k.left v.0 v.1) (k.right v.0 v.1))

  pub split_nothing : Inside p q → (r : Option (X × X)) → SplitOf holds p q r → r ≡ None
  split_nothing i None k = refl
  split_nothing i (Some ab) k = absurd (not_inside_parted p q (inhabited ab.0) (inhabited ab.1) k i)
