-- Between two domains of a sound tree there is one route.
use Rattle.std.proofs.Common.{◌≡◌, ℕ, zero, suc, ◌+◌, ◌≤◌, ◌⊎◌, List, [], ◌∷◌, ◌++◌, map, length, sym, refl, ap, ◌∙◌, subst, inl, inr, arith}
use native.Mathlib.Decide.{ℕ_discrete}
use Rattle.model.specs.Shape.{Shape, Domain, Hangs, Lies, Joined, Walk, Absent, Distinct, firewalls_on, domains_on, Route, Sound, back}
use Rattle.model.specs.Subtree.{Sub, self, Way, up, across, down}
use Rattle.model.specs.declared.path.Hop.{Hop}
use Rattle.model.proofs.Subtrees.{hangs_one, lies_one, sub_up, above_less, sub_le, parent, crossing, walk_in, walk_out, child_one, branch_one, sub_root, sub_dec, under_dec, child}

pub hop_path : (h k : Hop) → h.firewall ≡ k.firewall → h.entered ≡ k.entered → h.left ≡ k.left → h.reached ≡ k.reached → h ≡ k
hop_path h k a b c d = λ i. record { firewall = a i; entered = b i; left = c i; reached = d i }

-- A list of hops, each on the way to v.
abbrev pub Led : Shape → ℕ → List Hop → ℕ → Type 0
Led s u [] v = u ≡ v
Led s u (h ∷ hs) v = Way s u v h × Led s h.reached hs v

-- A domain below g has just one of x and v in its subtree.
abbrev pub Separates : Shape → ℕ → ℕ → ℕ → Type 0
Separates s g x v = (e : ℕ) × (i : ℕ) × Lies s e g i × ((Sub s e x × (Sub s e v → ⊥)) ⊎ ((Sub s e x → ⊥) × Sub s e v))

pub route_rest : (s : Shape) (u v : ℕ) (h : Hop) (hs : List Hop) → Route s u v (h ∷ hs) → Route s h.reached v hs
route_rest s u v h hs r = record { walk = r.walk.2; firewalls_once = r.firewalls_once.1; domains_once = r.domains_once.1 }

module _ (s : Shape) (ok : Sound s) where
  module _ (u v : ℕ) where
    way_of' : (h : Hop) (hs : List Hop) → Joined s h.firewall u h.entered → Joined s h.firewall h.reached h.left → Walk s h.reached hs v → Absent h.firewall (firewalls_on hs) → (u ≡ h.reached → ⊥) → Way s u v h
    way_of' h hs (inl a) (inl b) walk away moved = absurd (moved (hangs_one s h.firewall u h.entered h.reached h.left a b).0)
    way_of' h hs (inl a) (inr b) walk away moved = down a b (walk_in s ok h.reached h.firewall h.left b hs h.reached v away walk (self refl))
    way_of' h hs (inr a) (inr b) walk away moved =
        across a b (λ e. moved (sym e)) (walk_in s ok h.reached h.firewall h.left b hs h.reached v away walk (self refl))
    way_of' h hs (inr a) (inl b) walk away moved =
        up a b (λ e i l r.
        let low = sub_le s ok e h.reached (walk_out s ok e h.firewall i l hs h.reached v away walk r) in
        let less = above_less s ok e h.firewall i h.reached h.left l b in
        omega arith)

    pub way_of : (h : Hop) (hs : List Hop) → Route s u v (h ∷ hs) → Way s u v h
    way_of h hs r = way_of' h hs r.walk.0 r.walk.1 r.walk.2 r.firewalls_once.0 r.domains_once.0.0

    -- who is above the first firewall has v in its own subtree
    down_sub : (h : Hop) → Hangs s h.firewall u h.entered → Lies s h.reached h.firewall h.left → Sub s h.reached v → Sub s u v
    down_sub h a b r = sub_up s h.reached h.firewall h.left u h.entered v b a r

    pub way_one : (h k : Hop) → Way s u v h → Way s u v k → h ≡ k
    way_one h k (up a b none) (up p q nope) =
        let (f, i) = lies_one s u h.firewall h.entered k.firewall k.entered a p in
        let (w, j) = hangs_one s k.firewall h.reached h.left k.reached k.left (subst (λ x. Hangs s x h.reached h.left) f b) q in
        hop_path h k f i j w
    way_one h k (up a b none) (across p q other r) =
        let (f, i) = lies_one s u k.firewall k.entered h.firewall h.entered p a in
        absurd (none k.reached k.left (subst (λ x. Lies s k.reached x k.left) f q) r)
    way_one h k (up a b none) (down p q r) = absurd (none u h.entered a (down_sub k p q r))
    way_one h k (across a b other r) (up p q none) =
        let (f, i) = lies_one s u h.firewall h.entered k.firewall k.entered a p in
        absurd (none h.reached h.left (subst (λ x. Lies s h.reached x h.left) f b) r)
    way_one h k (across a b other r) (across p q differ t) =
        let (f, i) = lies_one s u h.firewall h.entered k.firewall k.entered a p in
        let there = subst (λ x. Lies s h.reached x h.left) f b in
        let w = branch_one s ok k.firewall h.reached h.left k.reached k.left v there q r t in
        let (g, j) = lies_one s k.reached k.firewall h.left k.firewall k.left (subst (λ x. Lies s x k.firewall h.left) w there) q in
        hop_path h k f i j w
    way_one h k (across a b other r) (down p q t) =
        absurd (other (branch_one s ok h.firewall h.reached h.left u h.entered v b a r (down_sub k p q t)))
    way_one h k (down a b r) (up p q none) = absurd (none u k.entered p (down_sub h a b r))
    way_one h k (down a b r) (across p q other t) =
        absurd (other (branch_one s ok k.firewall k.reached k.left u k.entered v q p t (down_sub h a b r)))
    way_one h k (down a b r) (down p q t) =
        let w = child_one s ok h.reached h.firewall h.left k.reached k.firewall k.left u h.entered k.entered v b a q p r t in
        let (f, j) = lies_one s k.reached h.firewall h.left k.firewall k.left (subst (λ x. Lies s x h.firewall h.left) w b) q in
        let (same, i) = hangs_one s k.firewall u h.entered u k.entered (subst (λ x. Hangs s x u h.entered) f a) p in
        hop_path h k f i j w

    -- at v itself no hop is on the way
    pub way_not : (h : Hop) → Way s u v h → u ≡ v → ⊥
    way_not h (up a b none) e = none u h.entered a (self (sym e))
    way_not h (across a b other r) e = other (branch_one s ok h.firewall h.reached h.left u h.entered v b a r (self (sym e)))
    way_not h (down a b r) e =
        let low = sub_le s ok h.reached v r in
        let less = above_less s ok h.reached h.firewall h.left u h.entered b a in
        omega arith

    pub way_joined : (h : Hop) → Way s u v h → Joined s h.firewall u h.entered × Joined s h.firewall h.reached h.left
    way_joined h (up a b none) = (inr a, inl b)
    way_joined h (across a b other r) = (inr a, inr b)
    way_joined h (down a b r) = (inl a, inr b)

    pub way_separates : (h : Hop) → Way s u v h → Separates s h.firewall u v
    way_separates h (up a b none) = (u, h.entered, a, inl (self refl, none u h.entered a))
    way_separates h (across a b other r) =
        (u, h.entered, a, inl (self refl, λ t. other (branch_one s ok h.firewall h.reached h.left u h.entered v b a r t)))
    way_separates h (down a b r) = (
      h.reached,
      h.left,
      b,
      inr (
        λ t.
            let low = sub_le s ok h.reached u t in
            let less = above_less s ok h.reached h.firewall h.left u h.entered b a in
            omega arith,
        r,
      ),
    )

    -- e below the firewall of w has both w and v in its subtree or neither
    beside : (w f j e i : ℕ) → Lies s w f j → Sub s w v → Lies s e f i → ((Sub s e w × (Sub s e v → ⊥)) ⊎ ((Sub s e w → ⊥) × Sub s e v)) → ⊥
    beside w f j e i b r l (inl (t, not)) = not (subst (λ x. Sub s x v) (branch_one s ok f w j e i w b l (self refl) t) r)
    beside w f j e i b r l (inr (not, t)) = not (self (branch_one s ok f w j e i v b l r t))

    pub way_done : (h : Hop) → Way s u v h → Separates s h.firewall h.reached v → ⊥
    way_done h (up a b none) (e, i, l, inl (t, not)) =
        let low = sub_le s ok e h.reached t in
        let less = above_less s ok e h.firewall i h.reached h.left l b in
        omega arith
    way_done h (up a b none) (e, i, l, inr (not, t)) = none e i l t
    way_done h (across a b other r) (e, i, l, sides) = beside h.reached h.firewall h.left e i b r l sides
    way_done h (down a b r) (e, i, l, sides) = beside h.reached h.firewall h.left e i b r l sides

    -- a hop through another firewall changes nothing for f
    pub way_keeps : (h : Hop) → Way s u v h → (f : ℕ) → (f ≡ h.firewall → ⊥) → Separates s f h.reached v → Separates s f u v
    way_keeps h way f other (e, i, l, sides) =
        let (a, b) = way_joined h way in
        let out : Sub s e h.reached → Sub s e u = crossing s ok e f i h.firewall h.reached h.left u h.entered l (λ q. other (sym q)) b a in
        let into : Sub s e u → Sub s e h.reached = crossing s ok e f i h.firewall u h.entered h.reached h.left l (λ q. other (sym q)) a b in
        (e, i, l, elim sides [ inl (t, not) ↦ inl (out t, not) | inr (not, t) ↦ inr (λ r. not (into r), t) ])

  module _ (v : ℕ) where
    led_absent : (f : ℕ) (hs : List Hop) (x : ℕ) → Led s x hs v → (Separates s f x v → ⊥) → Absent f (firewalls_on hs)
    led_absent f [] x led not = tt
    led_absent f (h ∷ hs) x (way, led) not =
        let other : f ≡ h.firewall → ⊥ = λ e. not (subst (λ g. Separates s g x v) (sym e) (way_separates x v h way)) in
        (other, led_absent f hs h.reached led (λ t. not (way_keeps x v h way f other t)))

    led_once : (hs : List Hop) (x : ℕ) → Led s x hs v → Distinct (firewalls_on hs)
    led_once [] x led = tt
    led_once (h ∷ hs) x (way, led) = (led_absent h.firewall hs h.reached led (way_done x v h way), led_once hs h.reached led)

    -- once past g, no domain that g parts from v
    led_away : (g u : ℕ) → Separates s g u v → (hs : List Hop) (x : ℕ) → Led s x hs v → (Separates s g x v → ⊥) → Absent u (x ∷ domains_on hs)
    led_away g u apart [] x led not = (λ e. not (subst (λ y. Separates s g y v) e apart), tt)
    led_away g u apart (h ∷ hs) x (way, led) not =
        let other : g ≡ h.firewall → ⊥ = λ e. not (subst (λ f. Separates s f x v) (sym e) (way_separates x v h way)) in
        (λ e. not (subst (λ y. Separates s g y v) e apart), led_away g u apart hs h.reached led (λ t. not (way_keeps x v h way g other t)))

    led_domains : (hs : List Hop) (x : ℕ) → Led s x hs v → Distinct (x ∷ domains_on hs)
    led_domains [] x led = (tt, tt)
    led_domains (h ∷ hs) x (way, led) =
        (led_away h.firewall x (way_separates x v h way) hs h.reached led (way_done x v h way), led_domains hs h.reached led)

    led_walk : (hs : List Hop) (x : ℕ) → Led s x hs v → Walk s x hs v
    led_walk [] x led = led
    led_walk (h ∷ hs) x (way, led) = let (a, b) = way_joined x v h way in (a, b, led_walk hs h.reached led)

    pub led_route : (hs : List Hop) (x : ℕ) → Led s x hs v → Route s x v hs
    led_route hs x led = record { walk = led_walk hs x led; firewalls_once = led_once hs x led; domains_once = led_domains hs x led }

  pub route_led : (u v : ℕ) (hs : List Hop) → Route s u v hs → Led s u hs v
  route_led u v [] r = r.walk
  route_led u v (h ∷ hs) r = (way_of u v h hs r, route_led h.reached v hs (route_rest s u v h hs r))

  pub route_one : (u v : ℕ) (hs ks : List Hop) → Route s u v hs → Route s u v ks → hs ≡ ks
  route_one u v [] [] r t = refl
  route_one u v [] (k ∷ ks) r t = absurd (way_not u v k (way_of u v k ks t) r.walk)
  route_one u v (h ∷ hs) [] r t = absurd (way_not u v h (way_of u v h hs r) t.walk)
  route_one u v (h ∷ hs) (k ∷ ks) r t =
      let same = way_one u v h k (way_of u v h hs r) (way_of u v k ks t) in
      let rest = route_one k.reached v hs ks (subst (λ (x : Hop). Route s x.reached v hs) same (route_rest s u v h hs r)) (route_rest s u v k ks t) in
      λ i. same i ∷ rest i

  -- the first hop of a route is the one on the way
  pub way_first : (u v : ℕ) (h : Hop) (hs : List Hop) → Way s u v h → Route s u v hs → (ks : List Hop) × (hs ≡ h ∷ ks) × Route s h.reached v ks
  way_first u v h [] way r = absurd (way_not u v h way r.walk)
  way_first u v h (k ∷ ks) way r =
      let same = way_one u v k h (way_of u v k ks r) way in
      (ks, ap (λ (x : Hop). x ∷ ks) same, subst (λ (x : Hop). Route s x.reached v ks) same (route_rest s u v k ks r))

  pub hop_down : (u v f i j w : ℕ) (hs : List Hop) → Hangs s f u i → Lies s w f j → Sub s w v → Route s u v hs → (ks : List Hop) × (hs ≡ record { firewall = f; entered = i; left = j; reached = w } ∷ ks) × Route s w v ks
  hop_down u v f i j w hs h l r = way_first u v (record { firewall = f; entered = i; left = j; reached = w }) hs (down h l r)

  pub hop_across : (u v f i j w : ℕ) (hs : List Hop) → Lies s u f i → Lies s w f j → (w ≡ u → ⊥) → Sub s w v → Route s u v hs → (ks : List Hop) × (hs ≡ record { firewall = f; entered = i; left = j; reached = w } ∷ ks) × Route s w v ks
  hop_across u v f i j w hs l m other r = way_first u v (record { firewall = f; entered = i; left = j; reached = w }) hs (across l m other r)

  pub hop_up : (u v f i j c : ℕ) (hs : List Hop) → Lies s u f i → Hangs s f c j → ((e k : ℕ) → Lies s e f k → Sub s e v → ⊥) → Route s u v hs → (ks : List Hop) × (hs ≡ record { firewall = f; entered = i; left = j; reached = c } ∷ ks) × Route s c v ks
  hop_up u v f i j c hs l h none = way_first u v (record { firewall = f; entered = i; left = j; reached = c }) hs (up l h none)

  descend : (n u v : ℕ) → v ≤ u + n → Sub s u v → (hs : List Hop) × Led s u hs v × (length hs + u ≤ v)
  descend zero u v le r = let low = sub_le s ok u v r in ([], omega arith, omega arith)
  descend (suc n) u v le r = elim (ℕ_discrete v u) [
    | yes same ↦ ([], sym same, omega arith)
    | no other ↦
        let (w, f, i, j, l, h, t) = child s ok u v other r in
        let less = above_less s ok w f i u j l h in
        let (hs, led, short) = descend n w v (omega arith) t in
        (record { firewall = f; entered = j; left = i; reached = w } ∷ hs, (down h l t, led), omega arith)
  ]

  -- the way is up until v is below a domain of the firewall above, and then down
  climbing : (n u v : ℕ) → u ≤ n → Domain s u → Domain s v → (hs : List Hop) × Led s u hs v × (length hs ≤ u + v)
  climbing zero u v le in-u in-v =
      let (hs, led, short) = descend v u v (omega arith) (subst (λ x. Sub s x v) (omega arith) (sub_root s ok v in-v)) in
      (hs, led, omega arith)
  climbing (suc n) u v le in-u in-v = elim (sub_dec s ok u v in-v) [
    | yes r ↦ let (hs, led, short) = descend v u v (omega arith) r in (hs, led, omega arith)
    | no not ↦
        let (f, i, c, j, l, h, less) = parent s ok u in-u (λ none. not (subst (λ x. Sub s x v) (sym none) (sub_root s ok v in-v))) in
        elim (under_dec s ok f v in-v) [
          | inl (w, k, m, r) ↦
              let lower = above_less s ok w f k c j m h in
              let (hs, led, short) = descend v w v (omega arith) r in
              (record { firewall = f; entered = i; left = k; reached = w } ∷ hs, (across l m (λ same. not (subst (λ x. Sub s x v) same r)) r, led), omega arith)
          | inr none ↦
              let (hs, led, short) = climbing n c v (omega arith) (omega arith) in-v in
              (record { firewall = f; entered = i; left = j; reached = c } ∷ hs, (up l h none, led), omega arith)
        ]
  ]

  -- the route has no more hops than the numbers of its ends together
  pub route_within : (u v : ℕ) → Domain s u → Domain s v → (hs : List Hop) × Route s u v hs × (length hs ≤ u + v)
  route_within u v in-u in-v =
      let (hs, led, short) = climbing u u v (omega arith) in-u in-v in
      (hs, led_route v hs u led, short)

  pub route_exists : (u v : ℕ) → Domain s u → Domain s v → (hs : List Hop) × Route s u v hs
  route_exists u v in-u in-v = let (hs, route, short) = route_within u v in-u in-v in (hs, route)

-- The way back.
abbrev turned : ℕ → Hop → Hop
turned u h = record { firewall = h.firewall; entered = h.left; left = h.entered; reached = u }

walk_last : (s : Shape) (hs : List Hop) (u w v : ℕ) (h : Hop) → Walk s u hs w → Joined s h.firewall w h.entered → Joined s h.firewall h.reached h.left → h.reached ≡ v → Walk s u (hs ++ (h ∷ [])) v
walk_last s [] u w v h walk a b e = (subst (λ x. Joined s h.firewall x h.entered) (sym walk) a, b, e)
walk_last s (k ∷ hs) u w v h walk a b e = (walk.0, walk.1, walk_last s hs k.reached w v h walk.2 a b e)

walk_back : (s : Shape) (hs : List Hop) (u v : ℕ) → Walk s u hs v → Walk s v (back u hs) u
walk_back s [] u v walk = sym walk
walk_back s (h ∷ hs) u v walk = walk_last s (back h.reached hs) v h.reached u (turned u h) (walk_back s hs h.reached v walk.2) walk.1 walk.0 refl

module _ (key : Hop → ℕ) where
  absent_last : (x : ℕ) (hs : List Hop) (h : Hop) → Absent x (map key hs) → (x ≡ key h → ⊥) → Absent x (map key (hs ++ (h ∷ [])))
  absent_last x [] h none not = (not, tt)
  absent_last x (k ∷ hs) h none not = (none.0, absent_last x hs h none.1 not)

  distinct_last : (hs : List Hop) (h : Hop) → Distinct (map key hs) → Absent (key h) (map key hs) → Distinct (map key (hs ++ (h ∷ [])))
  distinct_last [] h once none = (tt, tt)
  distinct_last (k ∷ hs) h once none = (absent_last (key k) hs h once.0 (λ e. none.0 (sym e)), distinct_last hs h once.1 none.1)

  -- the same with one more in front
  distinct_more : (v : ℕ) (hs : List Hop) (h : Hop) → Distinct (v ∷ map key hs) → Absent (key h) (v ∷ map key hs) → Distinct (v ∷ map key (hs ++ (h ∷ [])))
  distinct_more v hs h once none = (absent_last v hs h once.0 (λ e. none.0 (sym e)), distinct_last hs h once.1 none.1)

absent_back : (f : ℕ) (hs : List Hop) (u : ℕ) → Absent f (firewalls_on hs) → Absent f (firewalls_on (back u hs))
absent_back f [] u none = tt
absent_back f (h ∷ hs) u none = absent_last (λ (k : Hop). k.firewall) f (back h.reached hs) (turned u h) (absent_back f hs h.reached none.1) none.0

firewalls_back : (hs : List Hop) (u : ℕ) → Distinct (firewalls_on hs) → Distinct (firewalls_on (back u hs))
firewalls_back [] u once = tt
firewalls_back (h ∷ hs) u once =
    distinct_last (λ (k : Hop). k.firewall) (back h.reached hs) (turned u h) (firewalls_back hs h.reached once.1) (absent_back h.firewall hs h.reached once.0)

module _ (s : Shape) (v : ℕ) where
  away_back : (x : ℕ) (hs : List Hop) (u : ℕ) → Walk s u hs v → Absent x (u ∷ domains_on hs) → Absent x (v ∷ domains_on (back u hs))
  away_back x [] u walk none = (λ e. none.0 (e ∙ sym walk), tt)
  away_back x (h ∷ hs) u walk none =
      let rest = away_back x hs h.reached walk.2 none.1 in
      (rest.0, absent_last (λ (k : Hop). k.reached) x (back h.reached hs) (turned u h) rest.1 none.0)

  domains_back : (hs : List Hop) (u : ℕ) → Walk s u hs v → Distinct (u ∷ domains_on hs) → Distinct (v ∷ domains_on (back u hs))
  domains_back [] u walk once = (tt, tt)
  domains_back (h ∷ hs) u walk once =
      distinct_more (λ (k : Hop). k.reached) v (back h.reached hs) (turned u h) (domains_back hs h.reached walk.2 once.1) (away_back u hs h.reached walk.2 once.0)

pub route_back : (s : Shape) (u v : ℕ) (hs : List Hop) → Route s u v hs → Route s v u (back u hs)
route_back s u v hs r = record {
  walk = walk_back s hs u v r.walk;
  firewalls_once = firewalls_back hs u r.firewalls_once;
  domains_once = domains_back s v hs u r.walk r.domains_once;
}
