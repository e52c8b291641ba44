-- The calls that give the blocks of a tree again.
use Rattle.std.proofs.Common.{◌≡◌, ℕ, ◌≤◌, List, [], ◌∷◌, ◌++◌, map, length, Some, sym, ap, ◌∙◌, arith, append_assoc, length-append}
use Rattle.std.proofs.lemmas.List.{append-nil}
use Rattle.std.specs.List.{slice_get}
use Rattle.kinds.specs.Words.{Inside, Share}
use Rattle.search.specs.First.{Nowhere}
use Rattle.search.proofs.Positions.{nth_within}
use Rattle.model.specs.Limits.{max_blocks}
use Rattle.model.specs.Shape.{Domain}
use Rattle.model.specs.Tree.{Tree, Block, with_blocks}
use Rattle.model.proofs.Growth.{nth_old}
use Rattle.rebuild.specs.Listing.{block_call}
use Rattle.rebuild.proofs.Accepting.{accepted_give}
use Rattle.rebuild.proofs.Behind.{nth_behind}
use Rattle.rebuild.proofs.Each.{Each}
use Rattle.rebuild.proofs.Leads.{Leads}

module _ {A R V W : Type 0} (addr : A → V → Type 0) (rests : R → W → Type 0) (t : Tree A R) (none : t.properties ≡ []) (all : List (Block A)) (room : length all ≤ max_blocks)
    (inside : Each (λ (b : Block A). Inside (addr b.region) (addr t.addresses)) all)
    (owned : (k : ℕ) (b : Block A) → slice_get all k ≡ Some b → (b.domain ≡ 0 → ⊥) × Domain t.shape b.domain)
    (apart : (j k : ℕ) (b c : Block A) → slice_get all j ≡ Some b → slice_get all k ≡ Some c → Share (addr b.region) (addr c.region) → j ≡ k) where
  -- where the first blocks are given, the calls for those behind give the rest
  pub blocks_lead : (given behind : List (Block A)) → all ≡ given ++ behind → Leads {V = V} {W = W} addr rests (with_blocks t given) (map block_call behind) (with_blocks t all)
  blocks_lead given [] e = ap (with_blocks t) (sym (append-nil given) ∙ sym e)
  blocks_lead given (b ∷ behind) e =
      let at : slice_get all (length given) ≡ Some b = ap (λ bs. slice_get bs (length given)) e ∙ nth_behind given b behind in
      let (not-0, is) = owned (length given) b at in
      let free : Nowhere (λ (z : Block A). Share (addr z.region) (addr b.region)) given = λ k z here share.
      let less = nth_within given k z here in
      let same = apart k (length given) z b (ap (λ bs. slice_get bs k) e ∙ nth_old given (b ∷ behind) k z here) at share in
      omega arith in (
        accepted_give addr rests (with_blocks t given) none b.domain b.region not-0 is (omega (arith, ap length e, length-append given (b ∷ behind))) (inside (length given) b at) free,
        blocks_lead (given ++ (b ∷ [])) behind (e ∙ sym (append_assoc given (b ∷ []) behind)),
      )
