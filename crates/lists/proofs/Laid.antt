-- What lies where in a table of rows, and how an edit of one list moves it.
use Rattle.std.proofs.Common.{◌≡◌, ℕ, suc, ◌+◌, ◌-◌, ◌<◌, ◌≤◌, List, [], ◌∷◌, ◌++◌, map, length, get_or, take, drop, set, sum, sym, refl, ap, ◌∙◌, subst, ap₂, inl, inr, append_assoc, arith, length-append, length-set, length-take, length-take-le, take_all}
use mathlib.Core.List.{map-append}
use lib.ListN.{get_or-map, length-map}
use lib.Seq.{split_at, set_split, map-set, set-get_or, take-set-lt}
use Rattle.std.specs.List.{insert, remove}
use Rattle.std.proofs.lemmas.List.Edits.{length-insert, length-remove}
use Rattle.std.proofs.lemmas.List.{get_or_past, drop_all, take-map}
use Rattle.std.proofs.lemmas.List.Sums.{sum_by_push, sum_by-set, sum_by-cons, sum_by_more, sum_by-take-le}
use Rattle.std.proofs.lemmas.Bool.{cases_lt}
use Rattle.std.proofs.lemmas.Option.{unwrap_or-slice_get}
use Rattle.model.specs.Tree.{count_rules}
use Rattle.model.specs.declared.rules.Rule.{Rule}
use Rattle.lists.specs.Layout.{joined, list_at, Laid}
use Rattle.lists.specs.Laws.{Known, LayoutLaws}
use Rattle.lists.specs.Lengths.{length_at, start_of}
use Rattle.lists.proofs.Between.{part_between, inserted_between, removed_between, set_between, map_inserted, map_removed}

-- where a list ends
pub start_within : (lens : List ℕ) (f : ℕ) → start_of lens f + length_at lens f ≤ sum lens
start_within lens f = elim (cases_lt f (length lens)) [
  | inl less ↦ let more = sum_by_more (λ n. n) lens f 0 less in let le = sum_by-take-le (λ n. n) lens (f + 1) in omega arith
  | inr past ↦ let none = get_or_past lens f 0 past in let le = sum_by-take-le (λ n. n) lens f in omega arith
]

module _ {X : Type 0} where
  pub joined_append : (ks ls : List (List X)) → joined (ks ++ ls) ≡ joined ks ++ joined ls
  joined_append [] ls = refl
  joined_append (k ∷ ks) ls = ap (λ (l : List X). k ++ l) (joined_append ks ls) ∙ sym (append_assoc k (joined ks) (joined ls))

  pub length_joined : (ls : List (List X)) → length (joined ls) ≡ sum (map length ls)
  length_joined [] = refl
  length_joined (l ∷ ls) = length-append l (joined ls) ∙ ap (λ n. length l + n) (length_joined ls) ∙ sym (sum_by-cons (λ n. n) (length l) (map length ls))

  list_get_or : (ls : List (List X)) (f : ℕ) → list_at ls f ≡ get_or ls f []
  list_get_or ls f = unwrap_or-slice_get ls f []

  list_past : (ls : List (List X)) (f : ℕ) → length ls ≤ f → list_at ls f ≡ []
  list_past ls f past = list_get_or ls f ∙ get_or_past ls f [] past

  length_list : (ls : List (List X)) (f : ℕ) → length_at (map length ls) f ≡ length (list_at ls f)
  length_list ls f = get_or-map length ls f [] ∙ ap length (sym (list_get_or ls f))

  pub joined_split : (ls : List (List X)) (f : ℕ) → f < length ls → joined ls ≡ joined (take f ls) ++ (list_at ls f ++ joined (drop (suc f) ls))
  joined_split ls f less =
      ap joined (split_at ls f [] less)
      ∙ joined_append (take f ls) (get_or ls f [] ∷ drop (suc f) ls)
      ∙ ap (λ (l : List X). joined (take f ls) ++ (l ++ joined (drop (suc f) ls))) (sym (list_get_or ls f))

  pub joined_set : (ls : List (List X)) (f : ℕ) (l : List X) → f < length ls → joined (set ls f l) ≡ joined (take f ls) ++ (l ++ joined (drop (suc f) ls))
  joined_set ls f l less = ap joined (set_split ls f l less) ∙ joined_append (take f ls) (l ∷ drop (suc f) ls)

  pub start_joined : (ls : List (List X)) (f : ℕ) → length (joined (take f ls)) ≡ start_of (map length ls) f
  start_joined ls f = length_joined (take f ls) ∙ ap sum (sym (take-map length f ls))

pub laid_none : {X Y : Type 0} (row : X → Y) (table : List Y) → Laid row [] table []
laid_none row table = record { lengths = refl; rows = refl }

module _ {X Y : Type 0} {row : X → Y} {lens : List ℕ} {table : List Y} {ls : List (List X)} (laid : Laid row lens table ls) where
  pub laid_count : length lens ≡ length ls
  laid_count = ap length laid.lengths ∙ length-map ls length

  pub laid_length : (f : ℕ) → length_at lens f ≡ length (list_at ls f)
  laid_length f = ap (λ ns. length_at ns f) laid.lengths ∙ length_list ls f

  pub laid_sum : sum lens ≡ length (joined ls)
  laid_sum = ap sum laid.lengths ∙ sym (length_joined ls)

  -- there is a row for each rule
  pub laid_within : sum lens ≤ length table
  laid_within = let size = sym (length-take (sum lens) table) ∙ ap length laid.rows ∙ length-map (joined ls) row in let all = laid_sum in omega arith

  module _ (f : ℕ) where
    front : List Y
    front = map row (joined (take f ls))

    back : List Y
    back = map row (joined (drop (suc f) ls))

    long_front : length front ≡ start_of lens f
    unfolding front
    long_front = length-map (joined (take f ls)) row ∙ start_joined ls f ∙ ap (λ ns. start_of ns f) (sym laid.lengths)

    long_part : length (map row (list_at ls f)) ≡ length_at lens f
    long_part = length-map (list_at ls f) row ∙ sym (laid_length f)

    around : (l : List X) → map row (joined (take f ls) ++ (l ++ joined (drop (suc f) ls))) ≡ front ++ (map row l ++ back)
    unfolding front back
    around l = map-append row (joined (take f ls)) (l ++ joined (drop (suc f) ls)) ∙ ap (λ (k : List Y). map row (joined (take f ls)) ++ k) (map-append row l (joined (drop (suc f) ls)))

    module _ (there : f < length ls) where
      split : take (sum lens) table ≡ front ++ (map row (list_at ls f) ++ back)
      split = laid.rows ∙ ap (map row) (joined_split ls f there) ∙ around (list_at ls f)

      -- what the table holds once the list of f is another
      laid_edited : (l : List X) (after : List Y) (n : ℕ) → n + length_at lens f ≡ sum lens + length l → take n after ≡ front ++ (map row l ++ back) → Laid row (set lens f (length l)) after (set ls f l)
      laid_edited l after n size is =
          let count = laid_count in
          let all = sum_by-set (λ k. k) lens f (length l) 0 (omega arith) in
          let same : sum (set lens f (length l)) ≡ n = omega arith in
          record {
            lengths = ap (λ ns. set ns f (length l)) laid.lengths ∙ sym (map-set length ls f l);
            rows = ap (λ k. take k after) same ∙ is ∙ sym (around l) ∙ ap (map row) (sym (joined_set ls f l there));
          }

      list_there : take (length_at lens f) (drop (start_of lens f) table) ≡ map row (list_at ls f)
      list_there = part_between table front (map row (list_at ls f)) back (sum lens) (start_of lens f) (length_at lens f) split long_front long_part

      module _ (x : X) (p : ℕ) (after : List Y) (at : p ≤ length (list_at ls f)) (is : take (sum lens + 1) after ≡ insert (take (sum lens) table) (start_of lens f + p) (row x)) where
        placed_rows : take (sum lens + 1) after ≡ front ++ (map row (insert (list_at ls f) p x) ++ back)
        placed_rows =
            let size = length-map (list_at ls f) row in
            is ∙ ap₂ (λ t s. insert t (s + p) (row x)) split (sym long_front)
            ∙ inserted_between front (map row (list_at ls f)) back p (row x) (omega arith)
            ∙ ap (λ (k : List Y). front ++ (k ++ back)) (sym (map_inserted row (list_at ls f) p x))

        placed_length : length (insert (list_at ls f) p x) ≡ suc (length_at lens f)
        placed_length = let old = laid_length f in let new = length-insert (list_at ls f) p x at in omega arith

        pub laid_placed : Laid row (set lens f (suc (length_at lens f))) after (set ls f (insert (list_at ls f) p x))
        laid_placed =
            let size = placed_length in
            subst (λ n. Laid row (set lens f n) after (set ls f (insert (list_at ls f) p x))) size (laid_edited (insert (list_at ls f) p x) after (sum lens + 1) (omega arith) placed_rows)

        pub placed_list : take (suc (length_at lens f)) (drop (start_of lens f) after) ≡ map row (insert (list_at ls f) p x)
        placed_list = part_between after front (map row (insert (list_at ls f) p x)) back (sum lens + 1) (start_of lens f) (suc (length_at lens f)) placed_rows long_front (length-map (insert (list_at ls f) p x) row ∙ placed_length)

      module _ (x : X) (p : ℕ) (after : List Y) (at : p < length (list_at ls f)) (is : after ≡ set table (start_of lens f + p) (row x)) where
        altered_rows : take (sum lens) after ≡ front ++ (map row (set (list_at ls f) p x) ++ back)
        altered_rows =
            let size = length-map (list_at ls f) row in
            let old = laid_length f in
            let end = start_within lens f in
            ap (take (sum lens)) is ∙ take-set-lt (sum lens) table (start_of lens f + p) (row x) (omega arith)
            ∙ ap₂ (λ t s. set t (s + p) (row x)) split (sym long_front)
            ∙ set_between front (map row (list_at ls f)) back p (row x) (omega arith)
            ∙ ap (λ (k : List Y). front ++ (k ++ back)) (sym (map-set row (list_at ls f) p x))

        altered_length : length (set (list_at ls f) p x) ≡ length_at lens f
        altered_length = length-set (list_at ls f) p x ∙ sym (laid_length f)

        pub laid_altered : Laid row lens after (set ls f (set (list_at ls f) p x))
        laid_altered =
            let size = altered_length in
            subst (λ ns. Laid row ns after (set ls f (set (list_at ls f) p x))) (ap (set lens f) size ∙ set-get_or lens f 0) (laid_edited (set (list_at ls f) p x) after (sum lens) (omega arith) altered_rows)

        pub altered_list : take (length_at lens f) (drop (start_of lens f) after) ≡ map row (set (list_at ls f) p x)
        altered_list = part_between after front (map row (set (list_at ls f) p x)) back (sum lens) (start_of lens f) (length_at lens f) altered_rows long_front (length-map (set (list_at ls f) p x) row ∙ altered_length)

      module _ (p : ℕ) (after : List Y) (at : p < length (list_at ls f)) (is : take (sum lens - 1) after ≡ remove (take (sum lens) table) (start_of lens f + p)) where
        lifted_rows : take (sum lens - 1) after ≡ front ++ (map row (remove (list_at ls f) p) ++ back)
        lifted_rows =
            let size = length-map (list_at ls f) row in
            is ∙ ap₂ (λ t s. remove t (s + p)) split (sym long_front)
            ∙ removed_between front (map row (list_at ls f)) back p (omega arith)
            ∙ ap (λ (k : List Y). front ++ (k ++ back)) (sym (map_removed row (list_at ls f) p))

        lifted_length : length (remove (list_at ls f) p) ≡ length_at lens f - 1
        lifted_length = let old = laid_length f in let new = length-remove (list_at ls f) p at in omega arith

        pub laid_lifted : Laid row (set lens f (length_at lens f - 1)) after (set ls f (remove (list_at ls f) p))
        laid_lifted =
            let size = lifted_length in
            let old = laid_length f in
            let end = start_within lens f in
            subst (λ n. Laid row (set lens f n) after (set ls f (remove (list_at ls f) p))) size (laid_edited (remove (list_at ls f) p) after (sum lens - 1) (omega arith) lifted_rows)

        pub lifted_list : take (length_at lens f - 1) (drop (start_of lens f) after) ≡ map row (remove (list_at ls f) p)
        lifted_list = part_between after front (map row (remove (list_at ls f) p)) back (sum lens - 1) (start_of lens f) (length_at lens f - 1) lifted_rows long_front (length-map (remove (list_at ls f) p) row ∙ lifted_length)

  -- a list past the last has no rows
  pub laid_list : (f : ℕ) → take (length_at lens f) (drop (start_of lens f) table) ≡ map row (list_at ls f)
  laid_list f = elim (cases_lt f (length ls)) [
    | inl less ↦ list_there f less
    | inr past ↦
        let none = list_past ls f past in
        let short = laid_length f ∙ ap length none in
        ap (λ n. take n (drop (start_of lens f) table)) short ∙ ap (map row) (sym none)
  ]

  pub laid_added : (x : X) (after : List Y) → take (sum lens + 1) after ≡ take (sum lens) table ++ (row x ∷ []) → Laid row (lens ++ (1 ∷ [])) after (ls ++ ((x ∷ []) ∷ []))
  laid_added x after is = record {
    lengths = ap (λ (ns : List ℕ). ns ++ (1 ∷ [])) laid.lengths ∙ sym (map-append length ls ((x ∷ []) ∷ []));
    rows = ap (λ n. take n after) (sum_by_push (λ n. n) lens 1) ∙ is ∙ ap (λ (k : List Y). k ++ (row x ∷ [])) laid.rows ∙ sym (map-append row (joined ls) (x ∷ [])) ∙ ap (map row) (sym (joined_append ls ((x ∷ []) ∷ [])));
  }

  -- the same, with the new row put in behind the used ones
  pub laid_appended : (x : X) (after : List Y) → take (sum lens + 1) after ≡ insert (take (sum lens) table) (sum lens) (row x) → Laid row (lens ++ (1 ∷ [])) after (ls ++ ((x ∷ []) ∷ []))
  laid_appended x after is =
      let size = length-take-le (sum lens) table laid_within in
      laid_added x after (is ∙ ap₂ (λ a b. a ++ row x ∷ b) (take_all (sum lens) (take (sum lens) table) (omega arith)) (drop_all (sum lens) (take (sum lens) table) (omega arith)))

joined_rules : {A R : Type 0} (ls : List (List (Rule A R))) → length (joined ls) ≡ count_rules ls
joined_rules [] = refl
joined_rules (l ∷ ls) = length-append l (joined ls) ∙ ap (λ n. length l + n) (joined_rules ls)

pub laid_total : {A R Y : Type 0} {row : Rule A R → Y} {lens : List ℕ} {table : List Y} {ls : List (List (Rule A R))} → Laid row lens table ls → sum lens ≡ count_rules ls
laid_total {ls = ls} laid = laid_sum laid ∙ joined_rules ls

pub known : {X Y : Type 0} {row : X → Y} {lens : List ℕ} {table : List Y} {ls : List (List X)} → Laid row lens table ls → Known row lens table ls
known {lens = lens} laid = record {
  count = laid_count laid;
  size = laid_length laid;
  list = laid_list laid;
  end = start_within lens;
  within = laid_within laid;
  adds = laid_added laid;
  places = λ f there x p after at is. record { laid = laid_placed laid f there x p after at is; list = placed_list laid f there x p after at is };
  alters = λ f there x p after at is. (laid_altered laid f there x p after at is, altered_list laid f there x p after at is);
  lifts = λ f there p after at is. record { laid = laid_lifted laid f there p after at is; list = lifted_list laid f there p after at is };
}

pub layout_laws : {A R Y : Type 0} → LayoutLaws A R Y
layout_laws = (laid_none, λ row lens table ls laid. (known laid, laid_total laid))
