-- The front of a line that is too long means what the line means.
use Rattle.std.proofs.Common.{◌≡◌, ℕ, zero, suc, ◌<◌, ◌≤◌, ◌⊎◌, List, [], ◌∷◌, ◌++◌, length, take, Ok, Err, Result, IsOk, OnOk, OnErr, ◌↔◌, refl, sym, ap, ◌∙◌, subst, inl, inr, arith, length-append, length-take}
use Rattle.std.proofs.lemmas.Bool.{cases_lt, true≢false}
use Rattle.std.proofs.lemmas.List.{take_all, take-append-le, length-take-le}
use Rattle.std.specs.List.{AllByRecursion, slice_get}
use Rattle.grammar.specs.Limits.{max_line}
use Rattle.grammar.specs.Reading.{ReadsLine, Clean, Printed}
use Rattle.grammar.specs.declared.fault.LineFault.{LineFault}
use Rattle.grammar.specs.declared.line.Line.{Line}
use Rattle.lines.specs.Intake.{max_kept}

take_less : {X : Type 0} (i n : ℕ) (xs : List X) → i ≤ n → take i (take n xs) ≡ take i xs
take_less zero n xs le = refl
take_less (suc i) zero xs le = absurd (omega arith)
take_less (suc i) (suc n) [] le = refl
take_less (suc i) (suc n) (x ∷ xs) le = ap (λ ys. x ∷ ys) (take_less i n xs (omega arith))

get_within : {X : Type 0} (i n : ℕ) (xs : List X) → i < n → slice_get (take n xs) i ≡ slice_get xs i
get_within i zero xs less = absurd (omega arith)
get_within i (suc n) [] less = refl
get_within zero (suc n) (x ∷ xs) less = refl
get_within (suc i) (suc n) (x ∷ xs) less = get_within i n xs (omega arith)

pub err_ap : {T E X Y : Type 0} (f : X → Y) (r : Result T E) (a b : X) → OnErr r (a ≡ b) → OnErr r (f a ≡ f b)
err_ap f (Ok u) a b same = same
err_ap f (Err e) a b same = ap f same

-- a byte is put behind the others where there is room
pub room_or_full : {T E : Type 0} (r : Result T E) (front next : List ℕ) (byte : ℕ) → (IsOk r ↔ (length front < max_kept)) → OnOk r (next ≡ front ++ (byte ∷ [])) → OnErr r (next ≡ front)
    → ((length front < max_kept) × (next ≡ front ++ (byte ∷ []))) ⊎ ((max_kept ≤ length front) × (next ≡ front))
room_or_full (Ok u) front next byte room after same = inl (room.0 refl, after)
room_or_full (Err e) front next byte room after same = elim (cases_lt (length front) max_kept) [
  | inl less ↦ absurd (true≢false (sym (room.1 less)))
  | inr le ↦ inr (le, same)
]

-- one byte more, of which there is room for in what is held or not
pub front_pushed : (text front next : List ℕ) (byte : ℕ) → front ≡ take max_kept text → ((length front < max_kept) × (next ≡ front ++ (byte ∷ []))) ⊎ ((max_kept ≤ length front) × (next ≡ front))
    → next ≡ take max_kept (text ++ (byte ∷ []))
front_pushed text front next byte held (inl (room, is)) =
    let few : length text < max_kept = omega (arith, ap length held, length-take max_kept text) in
    let whole : front ≡ text = held ∙ take_all max_kept text (omega arith) in
    is ∙ ap (λ t. t ++ (byte ∷ [])) whole ∙ sym (take_all max_kept (text ++ (byte ∷ [])) (omega (arith, length-append text (byte ∷ []))))
front_pushed text front next byte held (inr (full, is)) =
    let many : max_kept ≤ length text = omega (arith, ap length held, length-take max_kept text) in
    is ∙ held ∙ sym (take-append-le max_kept text (byte ∷ []) many)

module _ (text : List ℕ) (long : max_kept < length text) where
  size : length (take max_kept text) ≡ max_kept
  size = length-take-le max_kept text (omega arith)

  never_clean : Clean (take max_kept text) → ⊥
  never_clean clean = let few = clean.0 in omega (arith, size)

  too_long_means : (m : Result Line LineFault) → ReadsLine (take max_kept text) m → ReadsLine text m
  too_long_means (Ok l) (clean, ts, begins, all) = absurd (never_clean clean)
  too_long_means (Err e) (inl ((less, printed, b, at, wrong), is)) =
      inl ((less, subst (AllByRecursion Printed) (take_less e.byte max_kept text (omega arith)) printed, b, sym (get_within e.byte max_kept text (omega arith)) ∙ at, wrong), is)
  too_long_means (Err e) (inr (inl ((more, printed), is))) = inr (inl ((omega arith, subst (AllByRecursion Printed) (take_less max_line max_kept text (omega arith)) printed), is))
  too_long_means (Err e) (inr (inr (inl (clean, unnamed, is)))) = absurd (never_clean clean)
  too_long_means (Err e) (inr (inr (inr (inl (clean, v, ts, begins, count, is))))) = absurd (never_clean clean)
  too_long_means (Err e) (inr (inr (inr (inr (clean, v, ts, begins, count, first))))) = absurd (never_clean clean)

pub front_means : (text : List ℕ) (m : Result Line LineFault) → ReadsLine (take max_kept text) m → ReadsLine text m
front_means text m reads = elim (cases_lt max_kept (length text)) [
  | inl long ↦ too_long_means text long m reads
  | inr le ↦ subst (λ t. ReadsLine t m) (take_all max_kept text le) reads
]
