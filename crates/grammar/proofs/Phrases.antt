-- Values behind commas, one after another.
use Rattle.std.proofs.Common.{◌≡◌, ℕ, ◌+◌, ◌<◌, List, [], ◌∷◌, ◌++◌, length, drop, get_or, sym, ap, ◌∙◌, subst}
use Rattle.std.proofs.lemmas.List.{drop_more}
use Rattle.spelling.specs.Writes.{Wrote}
use Rattle.spelling.proofs.Writing.{Going, put_next}
use Rattle.grammar.specs.Texts.{comma, value_text, behind_commas, widest, longest}
use Rattle.grammar.specs.declared.value.Value.{Value}

module _ (vs : List Value) (i : ℕ) (v : Value) (here : i < length vs) (is : v ≡ get_or vs i v) where
  value_next : drop i vs ≡ v ∷ drop (i + 1) vs
  value_next = drop_more vs i v here ∙ ap (λ w. w ∷ drop (i + 1) vs) (sym is)

  pub longest_next : longest (drop i vs) ≡ 1 + widest v + longest (drop (i + 1) vs)
  longest_next = ap longest value_next

  -- a comma is written, and its value is next
  pub comma_put : (old now new : List ℕ) (start : ℕ) (text : List ℕ) (at end : ℕ) → Going old now start text (behind_commas (drop i vs)) at → Wrote now new at (comma ∷ []) end
      → Going old new start text (value_text v ++ behind_commas (drop (i + 1) vs)) end
  comma_put old now new start text at end g w =
      put_next old now start text (comma ∷ []) (value_text v ++ behind_commas (drop (i + 1) vs)) at (subst (λ t. Going old now start text t at) (ap behind_commas value_next) g) new end w
