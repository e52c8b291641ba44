-- Where each part of the listing lies.
use Rattle.std.proofs.Common.{◌≡◌, ℕ, ◌+◌, ◌<◌, List, [], ◌++◌, map, length, sym, ◌∙◌, arith}
use Rattle.std.proofs.lemmas.List.{length-map}
use Rattle.std.specs.List.{slice_get}
use Rattle.model.specs.Tree.{Tree, count_rules}
use Rattle.model.specs.declared.calls.Call.{Call}
use Rattle.rebuild.specs.Listing.{domain_calls, block_call, list_calls, property_call, listing}
use Rattle.listing.proofs.JoinedLines.{nth_front, nth_back}
use Rattle.listing.proofs.DomainLines.{length_domain_calls}
use Rattle.listing.proofs.RuleLines.{length_list_calls}

module _ {A R : Type 0} (V W : Type 0) (t : Tree A R) where
  abbrev domains : List (Call A R V W)
  domains = domain_calls t.shape [] t.shape.domains

  abbrev blocks : List (Call A R V W)
  blocks = map block_call t.blocks

  abbrev rules : List (Call A R V W)
  rules = list_calls 0 t.lists

  abbrev properties : List (Call A R V W)
  properties = map property_call t.properties

  abbrev all : List (Call A R V W)
  all = listing t

  long_domains : length domains ≡ length t.shape.domains
  long_domains = length_domain_calls A R V W t.shape [] t.shape.domains

  long_blocks : length blocks ≡ length t.blocks
  long_blocks = length-map t.blocks block_call

  long_rules : length rules ≡ count_rules t.lists
  long_rules = length_list_calls V W 0 t.lists

  pub domain_part : (n : ℕ) → n < length t.shape.domains → slice_get domains n ≡ slice_get all n
  domain_part n less = sym (nth_front domains (blocks ++ (rules ++ properties)) n (omega (arith, long_domains)))

  -- line k behind the domains is line n of the listing
  module _ (n k : ℕ) (at : n ≡ length t.shape.domains + k) where
    behind_domains : slice_get (blocks ++ (rules ++ properties)) k ≡ slice_get all n
    behind_domains = sym (nth_back domains (blocks ++ (rules ++ properties)) n k (omega (arith, long_domains)))

    pub block_part : k < length t.blocks → slice_get blocks k ≡ slice_get all n
    block_part less = sym (nth_front blocks (rules ++ properties) k (omega (arith, long_blocks))) ∙ behind_domains

    -- line m behind the blocks
    module _ (m : ℕ) (next : k ≡ length t.blocks + m) where
      behind_blocks : slice_get (rules ++ properties) m ≡ slice_get all n
      behind_blocks = sym (nth_back blocks (rules ++ properties) k m (omega (arith, long_blocks))) ∙ behind_domains

      pub rule_part : m < count_rules t.lists → slice_get rules m ≡ slice_get all n
      rule_part less = sym (nth_front rules properties m (omega (arith, long_rules))) ∙ behind_blocks

      pub property_part : (i : ℕ) → m ≡ count_rules t.lists + i → slice_get properties i ≡ slice_get all n
      property_part i last = sym (nth_back rules properties m i (omega (arith, long_rules))) ∙ behind_blocks
