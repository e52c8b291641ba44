-- Proofs of the theorems about lawful records.
use Rattle.std.proofs.Common.{◌≡◌, ℕ, ◌/◌, ◌%◌, ◌^◌, List, [], ◌∷◌, ◌++◌, Some, Option, unwrap_or, sym, refl, ap, ◌∙◌, subst, inl, inr, arith}
use native.Mathlib.Decide.{ℕ_discrete}
use Rattle.std.specs.List.{slice_get}
use Rattle.kinds.specs.Made.{dec_both}
use Rattle.kinds.specs.Words.{Share}
use Rattle.search.proofs.Positions.{nth_set_other}
use Rattle.search.proofs.Walks.{first_one}
use Rattle.model.specs.Packets.{Matches}
use Rattle.model.specs.Properties.{Of, Guarded, Against, BreaksIn}
use Rattle.model.specs.Record.{plain, then_tree, tree_from, Right, LawfulFrom}
use Rattle.model.specs.Shape.{Domain}
use Rattle.model.specs.Theorems.{OneDomain, OneDecision, CutShort, BreaksThereOnly}
use Rattle.model.specs.Tree.{Tree, Block, start, rules_of, with_rules}
use Rattle.model.specs.declared.answers.Recorded.{Recorded}
use Rattle.model.specs.declared.path.Hop.{Hop}
use Rattle.model.specs.declared.rules.Packet.{Packet}
use Rattle.model.specs.declared.rules.Property.{Property}
use Rattle.model.specs.declared.rules.Rule.{Rule}
use Rattle.model.proofs.Firsts.{first_or_none}
use Rattle.model.proofs.Grown.{Grown, grown_plain}

module _ {A R V W : Type 0} (addr : A → V → Type 0) (rests : R → W → Type 0) where
  guarded_first : (t : Tree A R) (es : List (Recorded A R V W)) → LawfulFrom addr rests t es → Guarded addr rests t
  guarded_first t [] law = law
  guarded_first t (e ∷ es) law = law.0

  pub guarded_last : (t : Tree A R) (es : List (Recorded A R V W)) → LawfulFrom addr rests t es → Guarded addr rests (tree_from t es)
  guarded_last t [] law = law
  guarded_last t (e ∷ es) law = guarded_last (then_tree t e) es law.2

  lawful_front : (t : Tree A R) (es fs : List (Recorded A R V W)) → LawfulFrom addr rests t (es ++ fs) → LawfulFrom addr rests t es
  lawful_front t [] fs law = guarded_first t fs law
  lawful_front t (e ∷ es) fs law = (law.0, law.1, lawful_front (then_tree t e) es fs law.2)

  pub cut_short : CutShort addr rests
  cut_short a r es fs law = lawful_front (start a r) es fs law

  -- one more entry, which is right and leaves what stands guarded
  pub lawful_more : (t : Tree A R) (es : List (Recorded A R V W)) (e : Recorded A R V W) → LawfulFrom addr rests t es → Right addr rests (tree_from t es) e.call e.lent e.answer
      → Guarded addr rests (then_tree (tree_from t es) e) → LawfulFrom addr rests t (es ++ (e ∷ [])) × (tree_from t (es ++ (e ∷ [])) ≡ then_tree (tree_from t es) e)
  lawful_more t [] e law right next = ((law, right, next), refl)
  lawful_more t (d ∷ es) e law right next =
      let more = lawful_more (then_tree t d) es e law.2 right next in
      ((law.0, law.1, more.0), more.1)

  -- another firewall's list is as it was
  rules_elsewhere : (t : Tree A R) (f g : ℕ) (l : List (Rule A R)) → (g ≡ f → ⊥) → rules_of (with_rules t f l) g ≡ rules_of t g
  rules_elsewhere t f g l apart = ap (λ (o : Option (List (Rule A R))). unwrap_or o []) (nth_set_other t.lists f g l apart)

  -- what breaks a property in a hop does so in any tree with the same list there
  pub breaks_in_carry : (t n : Tree A R) (p : Property A R) (h : Hop) (k : Packet V W) → rules_of n h.firewall ≡ rules_of t h.firewall → BreaksIn addr rests n p h k → BreaksIn addr rests t p h k
  breaks_in_carry t n p h k same b = record {
    source = b.source;
    destination = b.destination;
    rest = b.rest;
    entered = b.entered;
    against = subst (λ (rs : List (Rule A R)). Against addr rests p.sort rs k) same b.against;
  }

  pub breaks_there_only : BreaksThereOnly addr rests
  breaks_there_only t f l p kept g k b = elim (ℕ_discrete g f) [
    | yes same ↦ same
    | no apart ↦
        let elsewhere = rules_elsewhere t f b.hop.firewall l (λ e. apart (sym b.named ∙ e)) in
        absurd (kept g k (record {
          hops = b.hops;
          place = b.place;
          hop = b.hop;
          route = b.route;
          on = b.on;
          named = b.named;
          breaks = breaks_in_carry t (with_rules t f l) p b.hop k elsewhere b.breaks;
        }))
  ]

  -- an address is of one domain only
  pub of_one : (t : Tree A R) → ((j k : ℕ) (b c : Block A) → slice_get t.blocks j ≡ Some b → slice_get t.blocks k ≡ Some c → Share (addr b.region) (addr c.region) → j ≡ k) → (v : V) (d e : ℕ) → Of addr rests t v d → Of addr rests t v e → d ≡ e
  of_one t apart v d e (inl (j, b, here, held, is)) (inl (k, c, there, also, too)) =
      let same = apart j k b c here there (v, held, also) in
      let alike : b ≡ c = cc in
      sym is ∙ ap (λ (x : Block A). x.domain) alike ∙ too
  of_one t apart v d e (inl (j, b, here, held, is)) (inr (zero-e, none)) = absurd (none j b here held)
  of_one t apart v d e (inr (zero-d, none)) (inl (k, c, there, also, too)) = absurd (none k c there also)
  of_one t apart v d e (inr (zero-d, none)) (inr (zero-e, _)) = zero-d ∙ sym zero-e

  module _ (tell-addr : (x : A) (v : V) → Dec (addr x v)) where
    -- and it is of some domain
    pub of_some : (t : Tree A R) → Grown addr rests t → (v : V) → (d : ℕ) × Domain t.shape d × Of addr rests t v d
    of_some t g v = elim (first_or_none (λ (b : Block A). addr b.region v) (λ b. tell-addr b.region v) t.blocks) [
      | inl (k, b, f) ↦ (b.domain, (g.owned k b f.here).1, inl (k, b, f.here, f.fit, refl))
      | inr none ↦ (0, omega arith, inr (refl, none))
    ]

    pub one_domain : OneDomain addr rests
    one_domain a r es law v =
        let g = grown_plain addr rests a r es law in
        let (d, is, of) = of_some (plain a r es) g v in
        (d, is, of, λ e also. of_one (plain a r es) g.apart v e d also of)

    module _ (tell-rests : (x : R) (w : W) → Dec (rests x w)) where
      pub tell_matches : (p : Packet V W) (q : Rule A R) → Dec (Matches addr rests q p)
      tell_matches p q =
          elim (dec_both (ℕ_discrete (q.interfaces.mask / 2 ^ p.interface % 2) 1) (dec_both (tell-addr q.source p.source) (dec_both (tell-addr q.destination p.destination) (tell-rests q.rest p.rest)))) [
            | yes h ↦ yes (record { interface = h.0; source = h.1.0; destination = h.1.1.0; rest = h.1.1.1 })
            | no n ↦ no (λ m. n (m.interface, (m.source, (m.destination, m.rest))))
          ]

      pub one_decision : OneDecision addr rests
      one_decision t rs complete p whole =
          elim (first_or_none (λ (q : Rule A R). Matches addr rests q p) (tell_matches p) rs) [
            | inl (k, q, f) ↦ (
              k,
              q.decision,
              (q, f, refl),
              λ j x d.
                  let same = first_one _ rs j k d.0 q d.1 f in
                  (same.0, sym d.2 ∙ ap (λ (y : Rule A R). y.decision) same.1),
            )
            | inr none ↦ absurd (complete p whole none)
          ]
