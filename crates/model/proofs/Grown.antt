-- What every tree is that a lawful record gives.
use Rattle.std.proofs.Common.{◌≡◌, ℕ, suc, ◌+◌, ◌<◌, ◌≤◌, List, [], ◌∷◌, length, Some, None, Option, sym, refl, ap, ◌∙◌, subst, inl, inr, arith, length-set, MatchOption}
use native.Mathlib.Decide.{dec_le}
use Rattle.std.proofs.lemmas.List.{length_push}
use Rattle.std.specs.List.{slice_get}
use Rattle.kinds.specs.Words.{Share}
use Rattle.kinds.proofs.Provided.{none_some}
use Rattle.search.specs.First.{Nowhere}
use Rattle.model.specs.Limits.{max_interfaces}
use Rattle.model.specs.Record.{refused, Right, unless, then_tree, tree_from, plain, LawfulFrom, Lawful}
use Rattle.model.specs.Refusals.{Applies}
use Rattle.model.specs.Shape.{Domain, Sound}
use Rattle.model.specs.Tree.{Tree, Block, start, after}
use Rattle.model.specs.declared.answers.Lent.{Lent}
use Rattle.model.specs.declared.answers.Recorded.{Recorded}
use Rattle.model.specs.declared.answers.Refusal as refusal
use Rattle.model.specs.declared.answers.Refusal.{Refusal}
use Rattle.model.specs.declared.calls.Call.{Call}
use Rattle.model.specs.declared.calls.Call.TheVariants.{Attach, Branch, Give, Take, Place, Alter, Lift, Stand, Withdraw, Ask, Send}
use Rattle.model.proofs.Firsts.{nowhere_since}
use Rattle.model.proofs.Growth.{sound_bare, sound_attached, sound_branched}
use Rattle.model.proofs.Rows.{nth_push, skip, skip_one, nth_removed}

module _ {A R V W : Type 0} (addr : A → V → Type 0) (rests : R → W → Type 0) where
  -- the shape is sound, each firewall has a list, and blocks are disjoint and given to other domains than 0
  pub record Grown (t : Tree A R) : Type 0 where
    pub sound : Sound t.shape
    pub lists : length t.lists ≡ length t.shape.firewalls
    pub owned : (k : ℕ) (b : Block A) → slice_get t.blocks k ≡ Some b → (b.domain ≡ 0 → ⊥) × Domain t.shape b.domain
    pub apart : (j k : ℕ) (b c : Block A) → slice_get t.blocks j ≡ Some b → slice_get t.blocks k ≡ Some c → Share (addr b.region) (addr c.region) → j ≡ k

  pub grown_start : (a : A) (r : R) → Grown (start a r)
  grown_start a r = record { sound = sound_bare; lists = refl; owned = λ k b e. none_some e; apart = λ j k b c e. none_some e }

  -- a test on numbers that does not fail holds
  le_since : (m n : ℕ) → ((m ≤ n → ⊥) → ⊥) → m ≤ n
  le_since m n h = elim (dec_le m n) [ yes k ↦ k | no k ↦ absurd (h k) ]

  abbrev pub NoneApplies : Tree A R → Call A R V W → Lent → Type 0
  NoneApplies t c l = (r : Refusal V W) → Applies addr rests t c l r → ⊥

  share_swap : (b c : A) → Share (addr b) (addr c) → Share (addr c) (addr b)
  share_swap b c s = (s.0, s.2, s.1)

  pub grown_give : (t : Tree A R) (d : ℕ) (x : A) → Grown t → (d ≡ 0 → ⊥) → Domain t.shape d → Nowhere (λ (z : Block A). Share (addr z.region) (addr x)) t.blocks → Grown (after {V = V} {W = W} t (Give d x))
  grown_give t d x g not-0 is free = record {
    sound = g.sound;
    lists = g.lists;
    owned = λ k b e. elim (nth_push t.blocks _ b k e) [
      | inl old ↦ g.owned k b old
      | inr (at, new) ↦ subst (λ (y : Block A). (y.domain ≡ 0 → ⊥) × Domain t.shape y.domain) (sym new) (not-0, is)
    ];
    apart = λ j k b c e f s. elim (nth_push t.blocks _ b j e) [
      | inl old ↦ elim (nth_push t.blocks _ c k f) [
        | inl too ↦ g.apart j k b c old too s
        | inr (at, new) ↦ absurd (free j b old (subst (λ (y : Block A). Share (addr b.region) (addr y.region)) new s))
      ]
      | inr (at, new) ↦ elim (nth_push t.blocks _ c k f) [
        | inl old ↦ absurd (free k c old (subst (λ (y : Block A). Share (addr c.region) (addr y.region)) new (share_swap b.region c.region s)))
        | inr (also, _) ↦ at ∙ sym also
      ]
    ];
  }

  pub grown_take : (t : Tree A R) (b : ℕ) → Grown t → Grown (after {V = V} {W = W} t (Take b))
  grown_take t b g = record {
    sound = g.sound;
    lists = g.lists;
    owned = λ k y e. g.owned (skip b k) y (sym (nth_removed t.blocks b k) ∙ e);
    apart = λ j k y z e f s. skip_one b j k (g.apart (skip b j) (skip b k) y z (sym (nth_removed t.blocks b j) ∙ e) (sym (nth_removed t.blocks b k) ∙ f) s);
  }

  -- a call to which no refusal applies keeps it so
  pub grown_after : (t : Tree A R) (c : Call A R V W) (l : Lent) → Grown t → NoneApplies t c l → Grown (after t c)
  grown_after t (Attach d i j w) l g none =
      let interface : (n : ℕ) → ((max_interfaces ≤ n) → ⊥) → n < max_interfaces = λ n h. omega arith in
      record {
        sound = sound_attached t.shape g.sound d i j (le_since d _ (none refusal.TheVariants.NoSuch))
            (interface i (λ h. none refusal.TheVariants.BadInterface (inl h))) (interface j (λ h. none refusal.TheVariants.BadInterface (inr (inl h))))
            (λ h. none refusal.TheVariants.BadInterface (inr (inr h)));
        lists = length_push t.lists _ ∙ ap (λ n. n + 1) g.lists ∙ sym (length_push t.shape.firewalls _);
        owned = λ k b e. let o = g.owned k b e in (o.0, let more = length_push t.shape.domains (record { node = length t.shape.firewalls; interface = j }) in omega (arith, o.1));
        apart = g.apart;
      }
  grown_after t (Branch f i) l g none =
      record {
        sound = sound_branched t.shape g.sound f i (le_since (suc f) _ (none refusal.TheVariants.NoSuch))
            (let h : (max_interfaces ≤ i) → ⊥ = λ h. none refusal.TheVariants.BadInterface (inl h) in omega arith) (λ d h. none refusal.TheVariants.BadInterface (inr (d, h)));
        lists = g.lists;
        owned = λ k b e. let o = g.owned k b e in (o.0, let more = length_push t.shape.domains (record { node = f; interface = i }) in omega (arith, o.1));
        apart = g.apart;
      }
  grown_after t (Give d x) l g none =
      grown_give t d x g (λ h. none refusal.TheVariants.NoSuch (inl h)) (le_since d _ (λ h. none refusal.TheVariants.NoSuch (inr h)))
      (nowhere_since _ t.blocks (λ k b f. none (refusal.TheVariants.Overlap k) (b, f)))
  grown_after t (Take b) l g none = grown_take t b g
  grown_after t (Place f p r) l g none = record { sound = g.sound; lists = length-set t.lists f _ ∙ g.lists; owned = g.owned; apart = g.apart }
  grown_after t (Alter f p r) l g none = record { sound = g.sound; lists = length-set t.lists f _ ∙ g.lists; owned = g.owned; apart = g.apart }
  grown_after t (Lift f p) l g none = record { sound = g.sound; lists = length-set t.lists f _ ∙ g.lists; owned = g.owned; apart = g.apart }
  grown_after t (Stand p) l g none = record { sound = g.sound; lists = g.lists; owned = g.owned; apart = g.apart }
  grown_after t (Withdraw n) l g none = record { sound = g.sound; lists = g.lists; owned = g.owned; apart = g.apart }
  grown_after t (Ask p) l g none = g
  grown_after t (Send h) l g none = g

  grown_unless : (t : Tree A R) (c : Call A R V W) (l : Lent) (S : Type 0) (Q : Refusal V W → Type 0) (o : Option (Refusal V W)) → Grown t → MatchOption o (NoneApplies t c l × S) Q → Grown (unless o t (after t c))
  grown_unless t c l S Q None g right = grown_after t c l g right.0
  grown_unless t c l S Q (Some r) g right = g

  pub grown_then : (t : Tree A R) (e : Recorded A R V W) → Grown t → Right addr rests t e.call e.lent e.answer → Grown (then_tree t e)
  grown_then t e g right = grown_unless t e.call e.lent _ _ (refused e.answer) g right

  pub grown_from : (t : Tree A R) (es : List (Recorded A R V W)) → Grown t → LawfulFrom addr rests t es → Grown (tree_from t es)
  grown_from t [] g law = g
  grown_from t (e ∷ es) g law = grown_from (then_tree t e) es (grown_then t e g law.1) law.2

  pub grown_plain : (a : A) (r : R) (es : List (Recorded A R V W)) → Lawful addr rests a r es → Grown (plain a r es)
  grown_plain a r es law = grown_from (start a r) es (grown_start a r) law
