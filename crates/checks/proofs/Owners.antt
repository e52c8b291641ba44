-- What the rows of the blocks say of addresses.
use Rattle.std.proofs.Common.{◌≡◌, ℕ, List, map, Some, None, Option, sym, refl, ap, ◌∙◌, subst, inl, inr, arith, MatchOption}
use native.Mathlib.Decide.{ℕ_discrete}
use Rattle.std.specs.List.{slice_get}
use Rattle.kinds.specs.Words.{Inside}
use Rattle.search.specs.Answer.{Answered}
use Rattle.search.specs.List.{row_holds, Says, outcome}
use Rattle.search.specs.declared.answer.Found.{Found}
use Rattle.search.specs.declared.list.Entry.{Entry}
use Rattle.search.specs.declared.list.Match.{Match}
use Rattle.search.specs.declared.list.Wish.TheVariants.{IsNot}
use Rattle.model.specs.Properties.{Of}
use Rattle.model.specs.Tree.{Tree, Block}
use Rattle.model.proofs.Firsts.{first_or_none}
use Rattle.model.proofs.Meanings.{of_one}
use Rattle.checks.specs.Addresses.{OwnedApart, AstrayFound, Covers, CoversAt, Home, domain_in}
use Rattle.checks.specs.Rows.{block_entry}
use Rattle.search.proofs.Mapped.{nth_map, first_map, first_unmap, nowhere_map, nowhere_unmap}

-- the value that a search has found
abbrev pub value_in : {V : Type 0} → Option (Found V) → Option V
value_in None = None
value_in (Some f) = Some f.value

module _ {A R V W X : Type 0} (addr : A → V → Type 0) (rests : R → W → Type 0) (pa : A → X) (ra : X → Option A) (reads : (x : A) → ra (pa x) ≡ Some x) (t : Tree A R) where
  abbrev Rows : X → V → Type 0
  Rows = row_holds addr ra

  into : (v : V) (b : Block A) → addr b.region v → Rows (pa b.region) v
  into v b h = subst (λ o. MatchOption o ⊥ (λ x. addr x v)) (sym (reads b.region)) h

  out : (v : V) (b : Block A) → Rows (pa b.region) v → addr b.region v
  out v b h = subst (λ o. MatchOption o ⊥ (λ x. addr x v)) (reads b.region) h

  -- a match in the rows is the domain of the address
  pub says_of : (v : V) (m : Option Match) → Says Rows (map (block_entry pa) t.blocks) v m → Of addr rests t v (domain_in m)
  says_of v (Some m) (e, f, o) =
      let (b, first, is) = first_unmap (block_entry pa) (λ (c : Block A). addr c.region v) (λ (x : Entry X). Rows x.row v) (into v) (out v) t.blocks m.position e f in
      inl (m.position, b, first.here, first.fit, sym (ap (λ (x : Entry X). x.outcome) is) ∙ o)
  says_of v None none =
      inr (refl, nowhere_unmap (block_entry pa) (λ (c : Block A). addr c.region v) (λ (x : Entry X). Rows x.row v) (into v) (out v) t.blocks none)

  -- the same, of rows as a call has them
  pub called_of : (es : List (Entry X)) → es ≡ map (block_entry pa) t.blocks → (v : V) (m : Option Match) → Says Rows es v m → Of addr rests t v (domain_in m)
  called_of es is v m says = says_of v m (subst (λ l. Says Rows l v m) is says)

  -- where the block of one address holds all of a region, all of it is of that block's domain
  pub covered_of : (es : List (Entry X)) → es ≡ map (block_entry pa) t.blocks → (v : V) (m : Match) → Says Rows es v (Some m) → (x : A) → CoversAt addr ra es m.position x → Inside (addr x) (λ (a : V). Of addr rests t a m.outcome)
  covered_of es is v m says x covers =
      let (e, f, o) = subst (λ l. Says Rows l v (Some m)) is says in
      let (b, first, same) = first_unmap (block_entry pa) (λ (c : Block A). addr c.region v) (λ (y : Entry X). Rows y.row v) (into v) (out v) t.blocks m.position e f in
      let at : slice_get es m.position ≡ Some (block_entry pa b) = ap (λ l. slice_get l m.position) is ∙ nth_map (block_entry pa) t.blocks m.position b first.here in
      let inside : Covers addr ra (pa b.region) x = subst (λ r. MatchOption r ⊥ (λ (y : Entry X). Covers addr ra y.row x)) at covers in
      let held : Inside (addr x) (addr b.region) = subst (λ r. MatchOption r ⊥ (λ around. Inside (addr x) (addr around))) (reads b.region) inside in
      λ a h. inl (m.position, b, first.here, held a h, sym (ap (λ (y : Entry X). y.outcome) same) ∙ o)

  -- where an address can be told, the rows have a match for it
  pub says_some : ((x : A) (v : V) → Dec (addr x v)) → (v : V) → (m : Option Match) × Says Rows (map (block_entry pa) t.blocks) v m
  says_some tell v = elim (first_or_none (λ (b : Block A). addr b.region v) (λ b. tell b.region v) t.blocks) [
    | inl (k, b, f) ↦ (Some (record { position = k; outcome = b.domain }), (block_entry pa b, first_map (block_entry pa) (λ (c : Block A). addr c.region v) (λ (x : Entry X). Rows x.row v) (into v) (out v) t.blocks k b f, refl))
    | inr none ↦ (None, nowhere_map (block_entry pa) (λ (c : Block A). addr c.region v) (λ (x : Entry X). Rows x.row v) (into v) (out v) t.blocks none)
  ]

  module _ (ok : OwnedApart addr t.blocks) where
    -- a match of a block is not of domain 0
    says_owned : (v : V) (m : Match) → Says Rows (map (block_entry pa) t.blocks) v (Some m) → m.outcome ≡ 0 → ⊥
    says_owned v m (e, f, o) zero-d =
        let (b, first, is) = first_unmap (block_entry pa) (λ (c : Block A). addr c.region v) (λ (x : Entry X). Rows x.row v) (into v) (out v) t.blocks m.position e f in
        ok.owned m.position b first.here (sym (ap (λ (x : Entry X). x.outcome) is) ∙ o ∙ zero-d)

    -- an outcome is that of the domain exactly where the address is of it
    pub home_of : (v : V) (d : ℕ) (o : Option ℕ) (m : Option Match) → Home d o → Says Rows (map (block_entry pa) t.blocks) v m → domain_in m ≡ d → outcome m ≡ o
    home_of v d o (Some m) (inl (zero-d, is)) says same = absurd (says_owned v m says (same ∙ zero-d))
    home_of v d o (Some m) (inr (n, is)) says same = ap Some same ∙ sym is
    home_of v d o None (inl (zero-d, is)) says same = sym is
    home_of v d o None (inr (n, is)) says same = absurd (n (sym same))

    pub of_home : (v : V) (d : ℕ) (o : Option ℕ) (m : Option Match) → Home d o → outcome m ≡ o → domain_in m ≡ d
    of_home v d o (Some m) (inl (zero-d, is)) same = let z : ◌≡◌ {A = ℕ} 0 1 = cc in absurd (omega arith)
    of_home v d o (Some m) (inr (n, is)) same = cc
    of_home v d o None (inl (zero-d, is)) same = sym zero-d
    of_home v d o None (inr (n, is)) same = let z : ◌≡◌ {A = ℕ} 0 1 = cc in absurd (omega arith)

    pub astray_found : ((x : A) (v : V) → Dec (addr x v)) → (x : A) (d : ℕ) (o : Option ℕ) → Home d o → (r : Option (Found V))
        → Answered Rows (map (block_entry pa) t.blocks) (addr x) (IsNot o) r → AstrayFound addr rests t x d (value_in r)
    astray_found tell x d o at None none = λ v h.
        let (m, says) = says_some tell v in
        elim (ℕ_discrete (domain_in m) d) [
          | yes same ↦ subst (Of addr rests t v) same (says_of v m says)
          | no n ↦ absurd (none v m h says (λ same. n (of_home v d o m at same)))
        ]
    astray_found tell x d o at (Some f) w = (
      w.held,
      λ of. w.met (home_of f.value d o f.decided at w.says (of_one addr rests t ok.apart f.value _ d (says_of f.value f.decided w.says) of)),
    )

    pub called_astray : (es : List (Entry X)) → es ≡ map (block_entry pa) t.blocks → ((x : A) (v : V) → Dec (addr x v)) → (x : A) (d : ℕ) (o : Option ℕ) → Home d o → (r : Option (Found V))
        → Answered Rows es (addr x) (IsNot o) r → AstrayFound addr rests t x d (value_in r)
    called_astray es is tell x d o at r s = astray_found tell x d o at r (subst (λ l. Answered Rows l (addr x) (IsNot o) r) is s)
