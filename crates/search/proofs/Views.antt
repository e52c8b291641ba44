-- The view of a list with a wish says of each value what the list says.
use Rattle.std.proofs.Common.{◌≡◌, ℕ, ◌≤◌, Bool, true, false, not, List, length, Some, None, Option, MatchOption, refl, ap, ◌∙◌, subst, inl, inr, arith}
use Rattle.std.proofs.lemmas.Bool.{false≢true, eqb-true, eq-eqb}
use Rattle.std.proofs.lemmas.List.{length-map}
use Rattle.search.specs.First.{First}
use Rattle.search.specs.List.{row_holds, Says, Meets, outcome}
use Rattle.search.specs.View.{Holds, WellDecided, is_same, is_wanted, sight_with, sight_of, sights_of, end_of, regions_of}
use Rattle.search.specs.declared.list.Entry.{Entry}
use Rattle.search.specs.declared.list.Match.{Match}
use Rattle.search.specs.declared.list.Wish.{Wish}
use Rattle.search.specs.declared.list.Wish.TheVariants.{Is, IsNot}
use Rattle.search.specs.declared.sight.Sight.{Sight}
use Rattle.search.specs.declared.sight.Sight.TheVariants.{Good}
use Rattle.search.proofs.Mapped.{first_map, first_unmap, nowhere_map, nowhere_unmap}
use Rattle.search.proofs.Sights.{regions_few}
use Rattle.search.proofs.Walks.{matched, says_one}

-- the two ways of telling the same outcome
same_told : (a b : Option ℕ) → is_same a b ≡ true → a ≡ b
same_told None None e = refl
same_told None (Some n) e = absurd (false≢true e)
same_told (Some m) None e = absurd (false≢true e)
same_told (Some m) (Some n) e = ap Some (eqb-true m n e)

told_same : (a b : Option ℕ) → a ≡ b → is_same a b ≡ true
told_same None None e = refl
told_same None (Some n) e = let z : ◌≡◌ {A = ℕ} 0 1 = cc in absurd (omega arith)
told_same (Some m) None e = let z : ◌≡◌ {A = ℕ} 0 1 = cc in absurd (omega arith)
told_same (Some m) (Some n) e = eq-eqb m n cc

pub wanted_meets : (wish : Wish) (m : Option Match) → is_wanted wish (outcome m) ≡ true → Meets wish m
wanted_meets (Is o) m e = same_told (outcome m) o e
wanted_meets (IsNot o) m e = λ same. not_both (is_same (outcome m) o) e (told_same (outcome m) o same)
  where
    not_both : (b : Bool) → not b ≡ true → b ≡ true → ⊥
    not_both true e f = false≢true e
    not_both false e f = false≢true f

pub meets_wanted : (wish : Wish) (m : Option Match) → Meets wish m → is_wanted wish (outcome m) ≡ true
meets_wanted (Is o) m met = told_same (outcome m) o met
meets_wanted (IsNot o) m met = other (is_same (outcome m) o) (λ e. met (same_told (outcome m) o e))
  where
    other : (b : Bool) → (b ≡ true → ⊥) → not b ≡ true
    other true n = absurd (n refl)
    other false n = refl

module _ {X V W : Type 0} (holds : X → V → Type 0) (region : W → Option X) (wish : Wish) (es : List (Entry W)) where
  abbrev pub seen : List (Sight X)
  seen = sights_of region wish es

  -- an entry of the view holds what the entry of the list holds
  row_seen : (v : V) (e : Entry W) → row_holds holds region e.row v → Holds holds v (sight_of region wish e)
  row_seen v e h = go (region e.row) (is_wanted wish (Some e.outcome)) h
    where
      go : (o : Option X) (b : Bool) → MatchOption o ⊥ (λ x. holds x v) → Holds holds v (sight_with o b)
      go None b h = absurd h
      go (Some x) true h = h
      go (Some x) false h = h

  seen_row : (v : V) (e : Entry W) → Holds holds v (sight_of region wish e) → row_holds holds region e.row v
  seen_row v e h = go (region e.row) (is_wanted wish (Some e.outcome)) h
    where
      go : (o : Option X) (b : Bool) → Holds holds v (sight_with o b) → MatchOption o ⊥ (λ x. holds x v)
      go None b h = absurd h
      go (Some x) true h = h
      go (Some x) false h = h

  -- a good entry is one whose outcome is wished
  good_wanted : (x : X) (o : Option X) (b : Bool) → Good x ≡ sight_with o b → b ≡ true
  good_wanted x None b e = let z : ◌≡◌ {A = ℕ} 0 1 = cc in absurd (omega arith)
  good_wanted x (Some y) true e = refl
  good_wanted x (Some y) false e = let z : ◌≡◌ {A = ℕ} 0 1 = cc in absurd (omega arith)

  wanted_good : (v : V) (o : Option X) (b : Bool) → b ≡ true → Holds holds v (sight_with o b) → (x : X) × (sight_with o b ≡ Good x)
  wanted_good v None b e h = absurd h
  wanted_good v (Some x) true e h = (x, refl)
  wanted_good v (Some x) false e h = absurd (false≢true e)

  -- what the list says of a value that is well decided is wished
  pub well_met : (v : V) (m : Option Match) → Says (row_holds holds region) es v m → WellDecided holds seen (end_of wish) v → Meets wish m
  well_met v m says (inl (k, x, first)) =
      let (e, at, is) = first_unmap (sight_of region wish) (λ (f : Entry W). row_holds holds region f.row v) (Holds holds v) (row_seen v) (seen_row v) es k (Good x) first in
      let wanted = good_wanted x (region e.row) (is_wanted wish (Some e.outcome)) is in
      subst (Meets wish) (says_one (row_holds holds region) es v (matched k e.outcome) m (e, at, refl) says) (wanted_meets wish (matched k e.outcome) wanted)
  well_met v m says (inr (none, good)) =
      let nowhere = nowhere_unmap (sight_of region wish) (λ (f : Entry W). row_holds holds region f.row v) (Holds holds v) (row_seen v) (seen_row v) es none in
      subst (Meets wish) (says_one (row_holds holds region) es v None m nowhere says) (wanted_meets wish None good)

  -- a value of which the list says what is wished is well decided
  pub met_well : (v : V) (m : Option Match) → Says (row_holds holds region) es v m → Meets wish m → WellDecided holds seen (end_of wish) v
  met_well v (Some m) (e, first, same) met =
      let wanted = ap (λ o. is_wanted wish (Some o)) same ∙ meets_wanted wish (Some m) met in
      let here = first_map (sight_of region wish) (λ (f : Entry W). row_holds holds region f.row v) (Holds holds v) (row_seen v) (seen_row v) es m.position e first in
      let (x, good) = wanted_good v (region e.row) (is_wanted wish (Some e.outcome)) wanted (row_seen v e first.fit) in
      inl (m.position, x, subst (First (Holds holds v) seen m.position) good here)
  met_well v None none met = inr (nowhere_map (sight_of region wish) (λ (f : Entry W). row_holds holds region f.row v) (Holds holds v) (row_seen v) (seen_row v) es none, meets_wanted wish None met)

  -- a question about the list cuts along no more regions than it has entries
  pub cutters_few : length (regions_of seen) ≤ length es
  cutters_few = let few = regions_few seen in let same = length-map es (sight_of region wish) in omega arith
