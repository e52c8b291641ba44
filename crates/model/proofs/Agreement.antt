-- Refusals of one call with one number agree in what is not free.
use Rattle.std.proofs.Common.{◌≡◌, ℕ, [], ◌∷◌, Some, None, Option, sym, refl, ap, ◌∙◌, subst, arith, MatchOption}
use Rattle.kinds.specs.Words.{Share}
use Rattle.search.specs.First.{First}
use Rattle.search.proofs.Walks.{first_one}
use Rattle.model.specs.Properties.{BrokenIn, BreaksFirst}
use Rattle.model.specs.Record.{plain}
use Rattle.model.specs.Refusals.{number, given, Misplaces, WouldMisplace, BreaksOne, WouldBreak, Applies}
use Rattle.model.specs.Shape.{Sound}
use Rattle.model.specs.Theorems.{settled_values, OneRefusal, OneRoute}
use Rattle.model.specs.Tree.{Tree, Block, after}
use Rattle.model.specs.declared.answers.Refusal.{Refusal}
use Rattle.model.specs.declared.answers.Refusal.TheVariants.{TooShort, NoSuch, BadInterface, Full, Outside, Overlap, Unjoined, SourceAstray, DestinationAstray, Unmatched, Misplaced, Breaks}
use Rattle.model.specs.declared.calls.Call.{Call}
use Rattle.model.specs.declared.calls.Call.TheVariants.{Attach, Branch, Give, Take, Place, Alter, Lift, Stand, Withdraw, Ask, Send}
use Rattle.model.specs.declared.path.Hop.{Hop}
use Rattle.model.specs.declared.rules.Packet.{Packet}
use Rattle.model.specs.declared.rules.Property.{Property}
use Rattle.model.proofs.Grown.{grown_plain}
use Rattle.model.proofs.Routes.{route_one, route_exists, route_back}

module _ {V W : Type 0} where
  -- a number other than 6, 11 and 12 shows nothing that is not free
  no_values : (q : Refusal V W) → (number q ≡ 6 → ⊥) → (number q ≡ 11 → ⊥) → (number q ≡ 12 → ⊥) → settled_values q ≡ []
  no_values TooShort a b c = refl
  no_values NoSuch a b c = refl
  no_values BadInterface a b c = refl
  no_values Full a b c = refl
  no_values Outside a b c = refl
  no_values (Overlap k) a b c = absurd (a refl)
  no_values Unjoined a b c = refl
  no_values (SourceAstray k) a b c = refl
  no_values (DestinationAstray k) a b c = refl
  no_values (Unmatched k) a b c = refl
  no_values (Misplaced n k) a b c = absurd (b refl)
  no_values (Breaks n f k) a b c = absurd (c refl)

  is_overlap : (q : Refusal V W) → number q ≡ 6 → (b : ℕ) × (q ≡ Overlap b)
  is_overlap TooShort e = absurd (omega arith)
  is_overlap NoSuch e = absurd (omega arith)
  is_overlap BadInterface e = absurd (omega arith)
  is_overlap Full e = absurd (omega arith)
  is_overlap Outside e = absurd (omega arith)
  is_overlap (Overlap k) e = (k, refl)
  is_overlap Unjoined e = absurd (omega arith)
  is_overlap (SourceAstray k) e = absurd (omega arith)
  is_overlap (DestinationAstray k) e = absurd (omega arith)
  is_overlap (Unmatched k) e = absurd (omega arith)
  is_overlap (Misplaced n k) e = absurd (omega arith)
  is_overlap (Breaks n f k) e = absurd (omega arith)

  is_misplaced : (q : Refusal V W) → number q ≡ 11 → (n : ℕ) × (a : V) × (q ≡ Misplaced n a)
  is_misplaced TooShort e = absurd (omega arith)
  is_misplaced NoSuch e = absurd (omega arith)
  is_misplaced BadInterface e = absurd (omega arith)
  is_misplaced Full e = absurd (omega arith)
  is_misplaced Outside e = absurd (omega arith)
  is_misplaced (Overlap k) e = absurd (omega arith)
  is_misplaced Unjoined e = absurd (omega arith)
  is_misplaced (SourceAstray k) e = absurd (omega arith)
  is_misplaced (DestinationAstray k) e = absurd (omega arith)
  is_misplaced (Unmatched k) e = absurd (omega arith)
  is_misplaced (Misplaced n k) e = (n, k, refl)
  is_misplaced (Breaks n f k) e = absurd (omega arith)

  is_breaks : (q : Refusal V W) → number q ≡ 12 → (n : ℕ) × (f : ℕ) × (k : Packet V W) × (q ≡ Breaks n f k)
  is_breaks TooShort e = absurd (omega arith)
  is_breaks NoSuch e = absurd (omega arith)
  is_breaks BadInterface e = absurd (omega arith)
  is_breaks Full e = absurd (omega arith)
  is_breaks Outside e = absurd (omega arith)
  is_breaks (Overlap k) e = absurd (omega arith)
  is_breaks Unjoined e = absurd (omega arith)
  is_breaks (SourceAstray k) e = absurd (omega arith)
  is_breaks (DestinationAstray k) e = absurd (omega arith)
  is_breaks (Unmatched k) e = absurd (omega arith)
  is_breaks (Misplaced n k) e = absurd (omega arith)
  is_breaks (Breaks n f k) e = (n, f, k, refl)

module _ {A R V W : Type 0} (addr : A → V → Type 0) (rests : R → W → Type 0) where
  overlaps_one : (t : Tree A R) (o : Option A) (b c : ℕ)
      → MatchOption o ⊥ (λ x. (y : Block A) × First (λ (z : Block A). Share (addr z.region) (addr x)) t.blocks b y)
      → MatchOption o ⊥ (λ x. (y : Block A) × First (λ (z : Block A). Share (addr z.region) (addr x)) t.blocks c y) → b ≡ c
  overlaps_one t None b c p q = absurd p
  overlaps_one t (Some x) b c p q = (first_one _ t.blocks b c p.0 q.0 p.1 q.1).0

  misplaces_one : (t : Tree A R) (n m : ℕ) (a b : V) → Misplaces addr rests t n a → Misplaces addr rests t m b → n ≡ m
  misplaces_one t n m a b p q = (first_one _ t.properties n m p.0 q.0 p.1 q.1).0

  would_misplace_one : (t : Tree A R) (c : Call A R V W) (n m : ℕ) (a b : V) → WouldMisplace addr rests t c n a → WouldMisplace addr rests t c m b → n ≡ m
  would_misplace_one t (Attach d i j w) n m a b p q = absurd p
  would_misplace_one t (Branch f i) n m a b p q = absurd p
  would_misplace_one t (Give d x) n m a b p q = misplaces_one (after {V = V} {W = W} t (Give d x)) n m a b p q
  would_misplace_one t (Take k) n m a b p q = misplaces_one (after {V = V} {W = W} t (Take k)) n m a b p q
  would_misplace_one t (Place f k r) n m a b p q = absurd p
  would_misplace_one t (Alter f k r) n m a b p q = absurd p
  would_misplace_one t (Lift f k) n m a b p q = absurd p
  would_misplace_one t (Stand x) n m a b p q = absurd p
  would_misplace_one t (Withdraw k) n m a b p q = absurd p
  would_misplace_one t (Ask x) n m a b p q = absurd p
  would_misplace_one t (Send h) n m a b p q = absurd p

  abbrev Alike : ℕ → ℕ → Packet V W → ℕ → ℕ → Packet V W → Type 0
  Alike n f k m g l = (n ≡ m) × (f ≡ g) × (k.interface ≡ l.interface)

  pub breaks_first_one : (t : Tree A R) → Sound t.shape → (p : Property A R) (f g : ℕ) (k l : Packet V W) → BreaksFirst addr rests t p f k → BreaksFirst addr rests t p g l → (f ≡ g) × (k.interface ≡ l.interface)
  breaks_first_one t s p f g k l b c =
      let same = route_one t.shape s p.from p.to b.hops c.hops b.route c.route in
      let there = subst (λ hs. First (BrokenIn addr rests t p) hs b.place b.hop) same b.first in
      let hop = (first_one _ c.hops b.place c.place b.hop c.hop there c.first).1 in
      (sym b.named ∙ ap (λ (h : Hop). h.firewall) hop ∙ c.named, b.breaks.entered ∙ ap (λ (h : Hop). h.entered) hop ∙ sym c.breaks.entered)

  breaks_one_one : (t : Tree A R) → Sound t.shape → (n m f g : ℕ) (k l : Packet V W) → BreaksOne addr rests t n f k → BreaksOne addr rests t m g l → Alike n f k m g l
  breaks_one_one t s n m f g k l p q =
      let same = first_one _ t.properties n m p.0 q.0 p.1 q.1 in
      let rest = breaks_first_one t s q.0 f g k l (subst (λ (x : Property A R). BreaksFirst addr rests t x f k) same.1 p.2) q.2 in
      (same.0, rest.0, rest.1)

  would_break_one : (t : Tree A R) → Sound t.shape → (c : Call A R V W) (n m f g : ℕ) (k l : Packet V W) → WouldBreak addr rests t c n f k → WouldBreak addr rests t c m g l → Alike n f k m g l
  would_break_one t s (Attach d i j w) n m f g k l p q = absurd p
  would_break_one t s (Branch h i) n m f g k l p q = absurd p
  would_break_one t s (Give d x) n m f g k l p q = absurd p
  would_break_one t s (Take b) n m f g k l p q = absurd p
  would_break_one t s (Place h b r) n m f g k l p q = breaks_one_one (after {V = V} {W = W} t (Place h b r)) s n m f g k l p q
  would_break_one t s (Alter h b r) n m f g k l p q = breaks_one_one (after {V = V} {W = W} t (Alter h b r)) s n m f g k l p q
  would_break_one t s (Lift h b) n m f g k l p q = breaks_one_one (after {V = V} {W = W} t (Lift h b)) s n m f g k l p q
  would_break_one t s (Stand x) n m f g k l p q = let rest = breaks_first_one (after {V = V} {W = W} t (Stand x)) s x f g k l p.1 q.1 in (p.0 ∙ sym q.0, rest.0, rest.1)
  would_break_one t s (Withdraw b) n m f g k l p q = absurd p
  would_break_one t s (Ask x) n m f g k l p q = absurd p
  would_break_one t s (Send h) n m f g k l p q = absurd p

  pub one_refusal : OneRefusal addr rests
  one_refusal a r es law c l TooShort q p y e = sym (no_values q (λ x. omega arith) (λ x. omega arith) (λ x. omega arith))
  one_refusal a r es law c l NoSuch q p y e = sym (no_values q (λ x. omega arith) (λ x. omega arith) (λ x. omega arith))
  one_refusal a r es law c l BadInterface q p y e = sym (no_values q (λ x. omega arith) (λ x. omega arith) (λ x. omega arith))
  one_refusal a r es law c l Full q p y e = sym (no_values q (λ x. omega arith) (λ x. omega arith) (λ x. omega arith))
  one_refusal a r es law c l Outside q p y e = sym (no_values q (λ x. omega arith) (λ x. omega arith) (λ x. omega arith))
  one_refusal a r es law c l (Overlap b) q p y e =
      let (d, is) = is_overlap q (sym e) in
      let same = overlaps_one (plain a r es) (given c) b d p (subst (λ (x : Refusal V W). Applies addr rests (plain a r es) c l x) is y) in
      ap (λ n. n ∷ []) same ∙ sym (ap settled_values is)
  one_refusal a r es law c l Unjoined q p y e = sym (no_values q (λ x. omega arith) (λ x. omega arith) (λ x. omega arith))
  one_refusal a r es law c l (SourceAstray v) q p y e = sym (no_values q (λ x. omega arith) (λ x. omega arith) (λ x. omega arith))
  one_refusal a r es law c l (DestinationAstray v) q p y e = sym (no_values q (λ x. omega arith) (λ x. omega arith) (λ x. omega arith))
  one_refusal a r es law c l (Unmatched k) q p y e = sym (no_values q (λ x. omega arith) (λ x. omega arith) (λ x. omega arith))
  one_refusal a r es law c l (Misplaced n v) q p y e =
      let (m, w, is) = is_misplaced q (sym e) in
      let same = would_misplace_one (plain a r es) c n m v w p (subst (λ (x : Refusal V W). Applies addr rests (plain a r es) c l x) is y) in
      ap (λ i. i ∷ []) same ∙ sym (ap settled_values is)
  one_refusal a r es law c l (Breaks n f k) q p y e =
      let (m, g, j, is) = is_breaks q (sym e) in
      let sound = (grown_plain addr rests a r es law).sound in
      let same = would_break_one (plain a r es) sound c n m f g k j p (subst (λ (x : Refusal V W). Applies addr rests (plain a r es) c l x) is y) in
      (λ i. same.0 i ∷ (same.1 i ∷ (same.2 i ∷ []))) ∙ sym (ap settled_values is)

  pub one_route : OneRoute addr rests
  one_route a r es law u v is-u is-v =
      let sound = (grown_plain addr rests a r es law).sound in
      let s = (plain a r es).shape in
      let (hs, route) = route_exists s sound u v is-u is-v in
      (hs, route, λ ks other. route_one s sound u v ks hs other route, route_back s u v hs route)
