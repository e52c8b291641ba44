-- The tree of a table is sound, and its links are the table's rows.
use Rattle.std.proofs.Common.{◌≡◌, ℕ, ◌-◌, suc, ◌<◌, length, Some, sym, refl, ap, ◌∙◌, subst, inl, inr, arith}
use Rattle.std.proofs.lemmas.Bool.{cases_order}
use Rattle.std.proofs.lemmas.Option.{slice_get-get_or, slice_get_within, get_or_from_slice_get}
use Rattle.model.specs.Shape.{Domain, Hangs, Lies, Joined, Sound}
use Rattle.model.specs.declared.path.Uplink.{Uplink}
use Rattle.model.proofs.Subtrees.{hangs_one}
use Rattle.tables.specs.FixedVec.{used}
use Rattle.tree.specs.Rules.{no_uplink, node_at, interface_at}
use Rattle.tree.specs.Table.{shape_of}
use Rattle.tree.proofs.Rows.{Ruled}
use Rattle.tree.specs.declared.table.TreeTable.{TreeTable}

module _ (t : TreeTable) where
  pub hangs_at : (f : ℕ) → f < length (used t.firewalls) → Hangs (shape_of t) f (node_at (used t.firewalls) f) (interface_at (used t.firewalls) f)
  hangs_at f less = slice_get-get_or (used t.firewalls) f no_uplink less

  -- what the rows say of a domain other than 0, and of the firewall above it
  pub lies_before : (d : ℕ) → 0 < d → Domain (shape_of t) d → Lies (shape_of t) d (node_at (used t.domains) (d - 1)) (interface_at (used t.domains) (d - 1))
  lies_before d some in-t = (d - 1, omega arith, slice_get-get_or (used t.domains) (d - 1) no_uplink (omega arith))

  pub above_before : (d : ℕ) → 0 < d → Domain (shape_of t) d → Hangs (shape_of t) (node_at (used t.domains) (d - 1)) (node_at (used t.firewalls) (node_at (used t.domains) (d - 1))) (interface_at (used t.firewalls) (node_at (used t.domains) (d - 1)))
  above_before d some in-t = hangs_at (node_at (used t.domains) (d - 1)) (t.below (d - 1) (omega arith))

  pub hangs_is : (f d i : ℕ) → Hangs (shape_of t) f d i → (f < length (used t.firewalls)) × (node_at (used t.firewalls) f ≡ d) × (interface_at (used t.firewalls) f ≡ i)
  hangs_is f d i h =
      let e = get_or_from_slice_get (used t.firewalls) f _ no_uplink h in
      (slice_get_within (used t.firewalls) f _ h, ap (λ (u : Uplink). u.node) e, ap (λ (u : Uplink). u.interface) e)

  pub lies_is : (d f i : ℕ) → Lies (shape_of t) d f i → (k : ℕ) × (d ≡ suc k) × (k < length (used t.domains)) × (node_at (used t.domains) k ≡ f) × (interface_at (used t.domains) k ≡ i)
  lies_is d f i (k, e, at) =
      let q = get_or_from_slice_get (used t.domains) k _ no_uplink at in
      (k, e, slice_get_within (used t.domains) k _ at, ap (λ (u : Uplink). u.node) q, ap (λ (u : Uplink). u.interface) q)

  lower_apart : (f d e i : ℕ) → Hangs (shape_of t) f d i → Lies (shape_of t) e f i → ⊥
  lower_apart f d e i h l =
      let (less, to, by) = hangs_is f d i h in
      let (k, is, low, at, through) = lies_is e f i l in
      t.lower k low (through ∙ sym by ∙ sym (ap (interface_at (used t.firewalls)) at))

  one_apart : (f d e i : ℕ) → Joined (shape_of t) f d i → Joined (shape_of t) f e i → d ≡ e
  one_apart f d e i (inl a) (inl b) = (hangs_one (shape_of t) f d i e i a b).0
  one_apart f d e i (inl a) (inr b) = absurd (lower_apart f d e i a b)
  one_apart f d e i (inr a) (inl b) = absurd (lower_apart f e d i b a)
  one_apart f d e i (inr a) (inr b) =
      let (k, k-is, k-low, k-at, k-by) = lies_is d f i a in
      let (m, m-is, m-low, m-at, m-by) = lies_is e f i b in
      elim (cases_order k m) [
        | inl same ↦ omega arith
        | inr (inl less) ↦ absurd (t.single k m (less, m-low, k-at ∙ sym m-at, k-by ∙ sym m-by))
        | inr (inr more) ↦ absurd (t.single m k (more, k-low, m-at ∙ sym k-at, m-by ∙ sym k-by))
      ]

  low_apart : (f d i : ℕ) → Joined (shape_of t) f d i → i < 32
  low_apart f d i (inl h) = let (less, to, by) = hangs_is f d i h in let low = t.low f less in omega arith
  low_apart f d i (inr l) = let (k, is, less, at, by) = lies_is d f i l in let low = t.lowest k less in omega arith

  pub sound_of : Sound (shape_of t)
  sound_of = record {
    hangs = λ f d i h.
        let (less, to, by) = hangs_is f d i h in
        let high = t.hung f less in
        omega arith;
    falls = λ d f i l.
        let (k, is, less, at, by) = lies_is d f i l in
        let falls = t.falling k less in
        let up = ap (node_at (used t.firewalls)) at in
        let under = t.below k less in
        (node_at (used t.firewalls) f, interface_at (used t.firewalls) f, hangs_at f (omega arith), omega arith);
    one = one_apart;
    low = low_apart;
  }

-- a link of the tree, where a row says it
pub lies_by : (t : TreeTable) (k f i : ℕ) → k < length (used t.domains) → node_at (used t.domains) k ≡ f → interface_at (used t.domains) k ≡ i → Lies (shape_of t) (suc k) f i
lies_by t k f i less at by =
    let row = slice_get-get_or (used t.domains) k no_uplink less in
    (k, refl, row ∙ ap Some (λ x. record { node = at x; interface = by x }))

pub hangs_by : (t : TreeTable) (f i : ℕ) → f < length (used t.firewalls) → interface_at (used t.firewalls) f ≡ i → Hangs (shape_of t) f (node_at (used t.firewalls) f) i
hangs_by t f i less by = subst (λ x. Hangs (shape_of t) f (node_at (used t.firewalls) f) x) by (hangs_at t f less)

-- the rules that the rows of a table keep
pub ruled_of : (t : TreeTable) → Ruled (used t.firewalls) (used t.domains)
ruled_of t = record {
  fewer = t.fewer;
  hung = t.hung;
  below = t.below;
  falling = t.falling;
  single = t.single;
  lower = t.lower;
  low = t.low;
  lowest = t.lowest;
}
