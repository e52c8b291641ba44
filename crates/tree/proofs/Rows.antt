-- One row more in a table keeps the rules.
use Rattle.std.proofs.Common.{◌≡◌, ℕ, ◌+◌, ◌<◌, ◌≤◌, List, [], ◌∷◌, ◌++◌, length, get_or, ap, sym, ◌∙◌, arith, length-append}
use Rattle.std.specs.Prelude.{◌↔◌, Result, Ok, Err, IsOk, OnOk}
use Rattle.std.proofs.lemmas.List.{get_or_append_left, get_or-append-add}
use native.Mathlib.Decide.{ℕ_discrete}
use Rattle.model.specs.declared.path.Uplink.{Uplink}
use Rattle.tree.specs.Rules.{no_uplink, node_at, interface_at, Low, Hung, Below, Falling, Single, Lower}

-- what the rows of the firewalls and those of the domains keep together
pub record Ruled (fs ds : List Uplink) : Type 0 where
  pub fewer : length fs ≤ length ds
  pub hung : Hung fs (length fs) (length ds)
  pub below : Below ds (length ds) (length fs)
  pub falling : Falling fs ds (length ds)
  pub single : Single ds (length ds)
  pub lower : Lower fs ds (length ds)
  pub low : Low fs (length fs)
  pub lowest : Low ds (length ds)

module _ (us : List Uplink) (u : Uplink) where
  abbrev pub more : List Uplink
  more = us ++ (u ∷ [])

  pub length_more : length more ≡ length us + 1
  length_more = length-append us (u ∷ [])

  pub row_new : (k : ℕ) → k ≡ length us → get_or more k no_uplink ≡ u
  row_new k e = let last : k ≡ length us + 0 = omega arith in ap (λ n. get_or more n no_uplink) last ∙ get_or-append-add us (u ∷ []) 0 no_uplink

  pub row_old : (k : ℕ) → k < length us → get_or more k no_uplink ≡ get_or us k no_uplink
  row_old k less = get_or_append_left us (u ∷ []) no_uplink k less

  pub node_new : (k : ℕ) → k ≡ length us → node_at more k ≡ u.node
  node_new k e = ap (λ (x : Uplink). x.node) (row_new k e)

  pub node_old : (k : ℕ) → k < length us → node_at more k ≡ node_at us k
  node_old k less = ap (λ (x : Uplink). x.node) (row_old k less)

  pub interface_new : (k : ℕ) → k ≡ length us → interface_at more k ≡ u.interface
  interface_new k e = ap (λ (x : Uplink). x.interface) (row_new k e)

  pub interface_old : (k : ℕ) → k < length us → interface_at more k ≡ interface_at us k
  interface_old k less = ap (λ (x : Uplink). x.interface) (row_old k less)

  pub low_more : Low us (length us) → u.interface < 32 → Low more (length more)
  low_more low new k less = elim (ℕ_discrete k (length us)) [
    | yes same ↦ omega (arith, interface_new k same)
    | no other ↦ let old : k < length us = omega (arith, length_more) in let was = low k old in omega (arith, interface_old k old)
  ]

  -- the new row is of another node than each old one, or its interface is new there
  pub single_more : Single us (length us) → ((k : ℕ) → k < length us → node_at us k ≡ u.node → interface_at us k ≡ u.interface → ⊥) → Single more (length more)
  single_more single new k m (less, low, nodes, interfaces) =
      let size = length_more in
      let k-old : k < length us = omega arith in
      let k-node = node_old k k-old in
      let k-face = interface_old k k-old in
      elim (ℕ_discrete m (length us)) [
        | yes same ↦ let m-node = node_new m same in let m-face = interface_new m same in new k k-old (omega arith) (omega arith)
        | no other ↦
            let m-old : m < length us = omega arith in
            let m-node = node_old m m-old in
            let m-face = interface_old m m-old in
            single k m (less, m-old, omega arith, omega arith)
      ]

  pub hung_more : (d e : ℕ) → Hung us (length us) d → d ≤ e → u.node ≤ e → Hung more (length more) e
  hung_more d e hung le new f less = elim (ℕ_discrete f (length us)) [
    | yes same ↦ omega (arith, node_new f same)
    | no other ↦ let old : f < length us = omega (arith, length_more) in let was = hung f old in omega (arith, node_old f old)
  ]

  pub below_more : (d e : ℕ) → Below us (length us) d → d ≤ e → u.node < e → Below more (length more) e
  below_more d e below le new f less = elim (ℕ_discrete f (length us)) [
    | yes same ↦ omega (arith, node_new f same)
    | no other ↦ let old : f < length us = omega (arith, length_more) in let was = below f old in omega (arith, node_old f old)
  ]

module _ (fs ds : List Uplink) (u : Uplink) where
  -- a domain more below a firewall that there is
  pub falling_more : Falling fs ds (length ds) → node_at fs u.node ≤ length ds → Falling fs (more ds u) (length (more ds u))
  falling_more falling new k less = elim (ℕ_discrete k (length ds)) [
    | yes same ↦ omega (arith, ap (node_at fs) (node_new ds u k same))
    | no other ↦ let old : k < length ds = omega (arith, length_more ds u) in let was = falling k old in omega (arith, ap (node_at fs) (node_old ds u k old))
  ]

  pub lower_more : Lower fs ds (length ds) → (u.interface ≡ interface_at fs u.node → ⊥) → Lower fs (more ds u) (length (more ds u))
  lower_more lower new k less e = elim (ℕ_discrete k (length ds)) [
    | yes same ↦ let face = interface_new ds u k same in let up = ap (interface_at fs) (node_new ds u k same) in new (sym face ∙ e ∙ up)
    | no other ↦
        let old : k < length ds = omega (arith, length_more ds u) in
        let face = interface_old ds u k old in
        let up = ap (interface_at fs) (node_old ds u k old) in
        lower k old (sym face ∙ e ∙ up)
  ]

module _ (fs ds : List Uplink) (u : Uplink) (below : Below ds (length ds) (length fs)) where
  -- a firewall more that no domain lies below
  pub falling_kept : Falling fs ds (length ds) → Falling (more fs u) ds (length ds)
  falling_kept falling k less = let was = falling k less in omega (arith, node_old fs u (node_at ds k) (below k less))

  pub lower_kept : Lower fs ds (length ds) → Lower (more fs u) ds (length ds)
  lower_kept lower k less e = lower k less (e ∙ interface_old fs u (node_at ds k) (below k less))

module _ (fs ds : List Uplink) (ruled : Ruled fs ds) where
  -- a firewall n below domain d by interface i, and a domain below that by j
  pub attached_ruled : (d i n j : ℕ) → n ≡ length fs → d ≤ length ds → i < 32 → j < 32 → (i ≡ j → ⊥) → Ruled (more fs (record { node = d; interface = i })) (more ds (record { node = n; interface = j }))
  attached_ruled d i n j next old i-low j-low apart =
      let upper : Uplink = record { node = d; interface = i } in
      let lower : Uplink = record { node = n; interface = j } in
      let firewalls = length_more fs upper in
      let domains = length_more ds lower in
      let fewer = ruled.fewer in
      let top = node_new fs upper n next in
      let by = interface_new fs upper n next in
      record {
        fewer = omega arith;
        hung = hung_more fs upper (length ds) (length (more ds lower)) ruled.hung (omega arith) (omega arith);
        below = below_more ds lower (length fs) (length (more fs upper)) ruled.below (omega arith) (omega arith);
        falling = falling_more (more fs upper) ds lower (falling_kept fs ds upper ruled.below ruled.falling) (omega arith);
        single = single_more ds lower ruled.single (λ k less same through. let was = ruled.below k less in omega arith);
        lower = lower_more (more fs upper) ds lower (lower_kept fs ds upper ruled.below ruled.lower) (λ e. omega arith);
        low = low_more fs upper ruled.low i-low;
        lowest = low_more ds lower ruled.lowest j-low;
      }

  -- a domain below firewall f by an interface i that is not used there
  pub branched_ruled : (f i : ℕ) → f < length fs → i < 32 → (i ≡ interface_at fs f → ⊥) → ((k : ℕ) → k < length ds → node_at ds k ≡ f → interface_at ds k ≡ i → ⊥) → Ruled fs (more ds (record { node = f; interface = i }))
  branched_ruled f i here low up down =
      let lower : Uplink = record { node = f; interface = i } in
      let domains = length_more ds lower in
      let fewer = ruled.fewer in
      let high = ruled.hung f here in
      record {
        fewer = omega arith;
        hung = λ g less. let was = ruled.hung g less in omega arith;
        below = below_more ds lower (length fs) (length fs) ruled.below (omega arith) here;
        falling = falling_more fs ds lower ruled.falling high;
        single = single_more ds lower ruled.single down;
        lower = lower_more fs ds lower ruled.lower up;
        low = ruled.low;
        lowest = low_more ds lower ruled.lowest low;
      }

-- what a push that had room did
pub pushed : {T E : Type 0} {P Q : Type 0} (r : Result T E) → IsOk r ↔ Q → Q → OnOk r P → P
pushed (Ok x) same room after = after
pushed (Err e) same room after = let e = same.1 room in cc
