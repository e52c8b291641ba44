-- Misfits: how one is found, and that there is one at most.
use Rattle.std.proofs.Common.{◌≡◌, ℕ, ◌+◌, ◌-◌, ◌<◌, ◌≤◌, ◌⊎◌, List, [], ◌∷◌, ◌++◌, length, take, drop, sym, refl, ap, ◌∙◌, subst, inl, inr, append_assoc, arith}
use Rattle.std.proofs.lemmas.List.{length-drop, take-append-drop}
use Rattle.std.proofs.lemmas.Bool.{cases_order}
use Rattle.spelling.specs.Misfit.{CanGoOn, Misfit}
use Rattle.spelling.proofs.Parts.{SameFirst, take_sum}

head_cases : (xs : List ℕ) → (xs ≡ []) ⊎ ((b : ℕ) × (rest : List ℕ) × (xs ≡ b ∷ rest))
head_cases [] = inl refl
head_cases (b ∷ rest) = inr (b, rest, refl)

module _ (L : List ℕ → Type 0) (text : List ℕ) where
  -- a place up to which all can go on, where no right text goes on with the byte that stands there, or its end
  pub misfit_at : (i : ℕ) → i ≤ length text → CanGoOn L (take i text) → ((y : List ℕ) → SameFirst (drop i text) y → L (take i text ++ y) → ⊥) → Misfit L text i
  misfit_at i within before never =
      let whole = take-append-drop i text in
      let size = length-drop i text in
      record {
        within = within;
        before = before;
        here = elim (head_cases (drop i text)) [
          | inl e ↦ inl (let none = ap length e in omega arith, λ right. never [] (subst (λ d. SameFirst d []) (sym e) refl) (subst L (sym (ap (λ d. take i text ++ d) (sym e) ∙ whole)) right))
          | inr (b, rest, e) ↦ inr (
            let some = ap length e in omega arith,
            λ (y, right). never (b ∷ y) (subst (λ d. SameFirst d (b ∷ y)) (sym e) (y, refl))
                (subst L (ap (λ t. t ++ y) (take_sum i 1 text ∙ ap (λ d. take i text ++ take 1 d) e) ∙ append_assoc (take i text) (b ∷ []) y) right),
          )
        ];
      }

  -- a right text has no misfit
  pub right_fits : (i : ℕ) → L text → Misfit L text i → ⊥
  right_fits i right m = elim m.here [
    | inl h ↦ h.1 right
    | inr h ↦ h.1 (drop (i + 1) text, subst L (sym (take-append-drop (i + 1) text)) right)
  ]

  not_sooner : (i j : ℕ) → Misfit L text i → Misfit L text j → i < j → ⊥
  not_sooner i j m n less = elim m.here [
    | inl h ↦ let within = n.within in let end = h.0 in omega arith
    | inr h ↦
        let sum : i + 1 + (j - (i + 1)) ≡ j = omega arith in
        let more = take (j - (i + 1)) (drop (i + 1) text) in
        let cut : take j text ≡ take (i + 1) text ++ more = ap (λ k. take k text) (sym sum) ∙ take_sum (i + 1) (j - (i + 1)) text in
        h.1 (more ++ n.before.0, subst L (ap (λ t. t ++ n.before.0) cut ∙ append_assoc (take (i + 1) text) more n.before.0) n.before.1)
  ]

  -- and a text has one at most
  pub one_misfit : (i j : ℕ) → Misfit L text i → Misfit L text j → i ≡ j
  one_misfit i j m n = elim (cases_order i j) [
    | inl same ↦ same
    | inr (inl less) ↦ absurd (not_sooner i j m n less)
    | inr (inr less) ↦ absurd (not_sooner j i n m less)
  ]
