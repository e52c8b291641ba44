-- What a list says of a value.
use Rattle.std.proofs.Common.{◌≡◌, ℕ, List, Some, None, Option, sym, refl, ap, ◌∙◌, inl, inr}
use Rattle.std.proofs.lemmas.Bool.{cases_order}
use Rattle.search.specs.First.{First}
use Rattle.search.specs.List.{Says}
use Rattle.search.specs.declared.list.Entry.{Entry}
use Rattle.search.specs.declared.list.Match.{Match}

abbrev pub matched : ℕ → ℕ → Option Match
matched p o = Some (record { position = p; outcome = o })

-- two firsts of a list are one
pub first_one : {X : Type 0} (fits : X → Type 0) (xs : List X) (p q : ℕ) (x y : X) → First fits xs p x → First fits xs q y → (p ≡ q) × (x ≡ y)
first_one fits xs p q x y f g = elim (cases_order p q) [
  | inl e ↦ (e, let at = f.here in let bt = g.here in cc)
  | inr (inl lt) ↦ absurd (g.before p x lt f.here f.fit)
  | inr (inr gt) ↦ absurd (f.before q y gt g.here g.fit)
]

module _ {V W : Type 0} (rows : W → V → Type 0) (es : List (Entry W)) where
  abbrev Holds : V → Entry W → Type 0
  Holds v e = rows e.row v

  -- a list says one thing of a value
  pub says_one : (v : V) (m n : Option Match) → Says rows es v m → Says rows es v n → m ≡ n
  says_one v (Some m) (Some n) (e, f, a) (d, g, b) =
      let same = first_one (Holds v) es m.position n.position e d f g in
      λ i. Some (record { position = same.0 i; outcome = (sym a ∙ ap (λ (x : Entry W). x.outcome) same.1 ∙ b) i })
  says_one v (Some m) None s n = absurd (n m.position s.0 s.1.here s.1.fit)
  says_one v None (Some n) m s = absurd (m n.position s.0 s.1.here s.1.fit)
  says_one v None None s n = refl
