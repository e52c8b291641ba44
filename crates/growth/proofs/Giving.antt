-- Blocks given and taken: each answer is right, and the rows picture the tree after it.
use Rattle.std.proofs.Common.{IsErrAnd, ◌≡◌, ℕ, ◌+◌, ◌-◌, ◌<◌, ◌≤◌, ◌⊎◌, List, [], ◌∷◌, ◌++◌, map, length, take, set, Some, Ok, Err, Result, sym, refl, ap, ◌∙◌, subst, inl, inr, arith}
use native.Mathlib.Decide.{dec_le}
use Rattle.std.proofs.lemmas.List.{length_push, map_push, take_more_set}
use Rattle.std.proofs.lemmas.List.Edits.{length-remove}
use Rattle.std.specs.List.{slice_get, remove}
use Rattle.kinds.specs.declared.kind.Kind.{Ghosts}
use Rattle.kinds.specs.Words.{Inside}
use Rattle.search.specs.First.{First, Nowhere}
use Rattle.search.specs.declared.list.Entry.{Entry}
use Rattle.model.specs.Limits.{max_blocks}
use Rattle.model.specs.Record.{Right}
use Rattle.model.specs.Refusals.{IsTooShort, SomeAstray, Misplaces}
use Rattle.model.specs.Shape.{Domain}
use Rattle.model.specs.Tree as tree
use Rattle.model.specs.Tree.{Tree, Block, after}
use Rattle.model.specs.declared.answers.Answer.TheVariants.{Done, Refused}
use Rattle.model.specs.declared.answers.Lent.{Lent}
use Rattle.model.specs.declared.answers.Refusal.{Refusal}
use Rattle.model.specs.declared.answers.Refusal.TheVariants.{NoSuch, Full, Outside, Overlap, Misplaced}
use Rattle.model.specs.declared.calls.Call.TheVariants.{Give, Take}
use Rattle.model.proofs.Grown.{Grown, grown_give, grown_take}
use Rattle.tree.specs.Table.{shape_of}
use Rattle.tables.specs.Rows.{row_in, row_out}
use Rattle.tables.proofs.Rows.{take_row_out, undo_out, undo_set}
use Rattle.lists.proofs.Between.{map_removed}
use Rattle.checks.specs.Addresses.{BlocksAre, OwnedApart}
use Rattle.lists.specs.Layout.{Laid}
use Rattle.lists.specs.Lengths.{lengths_of}
use Rattle.checks.specs.Rows.{rule_entry, block_entry, property_row}
use Rattle.verdicts.specs.Overlap.{Shares}
use Rattle.state.specs.Picture.{Pictures, Reached, Tried}
use Rattle.state.specs.Rows.{Stored, with_blocks}
use Rattle.state.specs.declared.state.State.{State}
use Rattle.state.proofs.Lent.{lent_enough}
use Rattle.state.proofs.Order.{Cause, Below, below_one, more, none, refuse}
use Rattle.state.proofs.Tries.{owned_apart, reached_grown, tried_exit_right, tried_refused}
use Rattle.growth.specs.Blocks.{ApartFrom, AllPlaced}

module _ {A R V W X Y : Type 0} (ka : Ghosts A V X) (kr : Ghosts R W Y) (g : State A R) (s : Stored X Y) (l : Lent) (long : IsTooShort l → ⊥) where
  -- what the search over these rows of the blocks says of every tree that they picture
  abbrev Searched : {B : Type 0} → List (Entry X) → Result B (Refusal V W) → Type 0
  Searched rows r = (t : Tree A R) → BlocksAre ka rows t → take g.property_count s.properties ≡ map (property_row ka.plain kr.plain) t.properties → AllPlaced ka.holds kr.holds t r

  -- a state that differs from g in the number of blocks only
  pub record Counted (h : State A R) (n : ℕ) : Type 0 where
    pub addresses : h.addresses ≡ g.addresses
    pub rests_same : h.rests ≡ g.rests
    pub tree : h.tree ≡ g.tree
    pub lists : h.lists ≡ g.lists
    pub count : h.block_count ≡ n
    pub property_count : h.property_count ≡ g.property_count

  -- the tree with other blocks is pictured by their rows
  pictured : (t : Tree A R) → Pictures ka.plain kr.plain g s t → (bs : List (Block A)) (h : State A R) (rows : List (Entry X)) → Counted h (length bs) → take (length bs) rows ≡ map (block_entry ka.plain) bs
      → Pictures ka.plain kr.plain h (with_blocks s rows) (tree.with_blocks t bs)
  pictured t pic bs h rows same are = record {
    addresses = same.addresses ∙ pic.addresses;
    rests = same.rests_same ∙ pic.rests;
    shape = ap shape_of same.tree ∙ pic.shape;
    lists = subst (λ ls. Laid (rule_entry ka.plain kr.plain) (lengths_of ls) s.rules t.lists) (sym same.lists) pic.lists;
    block_count = same.count;
    blocks = ap (λ n. take n rows) same.count ∙ are;
    property_count = same.property_count ∙ pic.property_count;
    properties = ap (λ n. take n s.properties) same.property_count ∙ pic.properties;
  }

  module _ (d : ℕ) (x : A) where
    -- the domain is 0, or there is none with this number
    abbrev NoOwner : Type 0
    NoOwner = (d ≡ 0) ⊎ (Domain (shape_of g.tree) d → ⊥)

    module _ (t : Tree A R) (pic : Pictures ka.plain kr.plain g s t) where
      abbrev Under : ℕ → Type 0
      Under n = Below ka.holds kr.holds t (Give d x) l n

      next : (n : ℕ) → Under n → (Cause ka.holds kr.holds t (Give d x) l n → ⊥) → Under (n + 1)
      next = more ka.holds kr.holds t (Give d x) l

      below_two : Under 2
      below_two = next 1 (below_one ka.holds kr.holds t (Give d x) l) long

      pub give_no_such : NoOwner → Right ka.holds kr.holds t (Give d x) l (Refused NoSuch)
      give_no_such missing = refuse ka.holds kr.holds t (Give d x) l NoSuch below_two (subst (λ z. (d ≡ 0) ⊎ (Domain z d → ⊥)) pic.shape missing)

      module _ (owner : NoOwner → ⊥) where
        below_four : Under 4
        below_four = next 3 (next 2 below_two (λ missing. owner (subst (λ z. (d ≡ 0) ⊎ (Domain z d → ⊥)) (sym pic.shape) missing))) (λ x. x)

        pub give_full : max_blocks < g.block_count + 1 → Right ka.holds kr.holds t (Give d x) l (Refused Full)
        give_full full = refuse ka.holds kr.holds t (Give d x) l Full below_four (subst (λ n. max_blocks < n + 1) pic.block_count full)

        module _ (room : max_blocks < g.block_count + 1 → ⊥) where
          below_five : Under 5
          below_five = next 4 below_four (λ full. room (subst (λ n. max_blocks < n + 1) (sym pic.block_count) full))

          pub give_outside : (Inside (ka.holds x) (ka.holds g.addresses) → ⊥) → Right ka.holds kr.holds t (Give d x) l (Refused Outside)
          give_outside out = refuse ka.holds kr.holds t (Give d x) l Outside below_five (subst (λ (z : A). Inside (ka.holds x) (ka.holds z) → ⊥) pic.addresses out)

          module _ (inside : (Inside (ka.holds x) (ka.holds g.addresses) → ⊥) → ⊥) where
            below_six : Under 6
            below_six = next 5 below_five (λ out. inside (subst (λ (z : A). Inside (ka.holds x) (ka.holds z) → ⊥) (sym pic.addresses) out))

            pub give_overlap : (k : ℕ) (b : Block A) → First (Shares ka.holds x) t.blocks k b → Right ka.holds kr.holds t (Give d x) l (Refused (Overlap k))
            give_overlap k b first = refuse ka.holds kr.holds t (Give d x) l (Overlap k) below_six (b, first)

            module _ (free : Nowhere (Shares ka.holds x) t.blocks) where
              below_eleven : Under 11
              below_eleven =
                  let seven = next 6 below_six (λ (k, (b, first)). free k b first.here first.fit) in
                  next 10 (next 9 (next 8 (next 7 seven (λ x. x)) (λ x. x.1)) (λ x. x.1)) (λ x. x.1)

              pub give_misplaced : (n : ℕ) (a : V) → Misplaces ka.holds kr.holds (after {V = V} {W = W} t (Give d x)) n a → Right ka.holds kr.holds t (Give d x) l (Refused (Misplaced n a))
              give_misplaced n a astray = refuse ka.holds kr.holds t (Give d x) l (Misplaced n a) below_eleven astray

              pub give_right : Nowhere (SomeAstray ka.holds kr.holds (after {V = V} {W = W} t (Give d x))) t.properties → Right ka.holds kr.holds t (Give d x) l Done
              give_right placed =
                  let twelve = next 11 below_eleven (λ (n, a, (p, first, astray)). placed n p first.here first.fit) in
                  (none ka.holds kr.holds t (Give d x) l (next 12 twelve (λ x. x.3)), refl)

      -- the tree as it would stand
      owner_there : (NoOwner → ⊥) → Domain t.shape d
      owner_there owner = elim (dec_le d (length (shape_of g.tree).domains)) [
        | yes there ↦ subst (λ z. Domain z d) pic.shape there
        | no missing ↦ absurd (owner (inr missing))
      ]

      pub give_apart : Grown ka.holds kr.holds t → (NoOwner → ⊥) → Nowhere (Shares ka.holds x) t.blocks → OwnedApart ka.holds (after {V = V} {W = W} t (Give d x)).blocks
      give_apart grown owner free = owned_apart ka.holds kr.holds (after {V = V} {W = W} t (Give d x)) (grown_give ka.holds kr.holds t d x grown (λ zero. owner (inl zero)) (owner_there owner) free)

      -- the rows of the blocks as they would stand
      pub give_rows : g.block_count < length s.blocks → take (g.block_count + 1) (set s.blocks g.block_count (block_entry ka.plain (record { region = x; domain = d })))
          ≡ map (block_entry ka.plain) (after {V = V} {W = W} t (Give d x)).blocks
      give_rows there =
          take_more_set s.blocks g.block_count (block_entry ka.plain (record { region = x; domain = d })) there
          ∙ ap (λ (rows : List _). rows ++ (block_entry ka.plain (record { region = x; domain = d }) ∷ [])) pic.blocks
          ∙ sym (map_push (block_entry ka.plain) t.blocks (record { region = x; domain = d }))

    module _ (owner : NoOwner → ⊥) (room : max_blocks < g.block_count + 1 → ⊥) (inside : (Inside (ka.holds x) (ka.holds g.addresses) → ⊥) → ⊥) where
      -- a block shares an address with the region
      pub tried_overlap : {B : Type 0} (r : Result B (Refusal V W)) (q : Refusal V W) → IsErrAnd r (λ y. y ≡ q) → ((bs : List (Block A)) → take g.block_count s.blocks ≡ map (block_entry ka.plain) bs → ApartFrom {X = B} ka.holds bs x (Err q))
          → Tried ka kr g s (Give d x) l (λ _. Done) r g s
      tried_overlap r q is found = tried_exit_right ka kr (Give d x) l (λ _. Done) g s q r is long (λ t reached pic.
          let (k, b, named, first) = found t.blocks pic.blocks in
          subst (λ e. Right ka.holds kr.holds t (Give d x) l (Refused e)) (sym named) (give_overlap t pic owner room inside k b first))

      module _ (free : (bs : List (Block A)) → take g.block_count s.blocks ≡ map (block_entry ka.plain) bs → Nowhere (Shares ka.holds x) bs) (size : l.blocks ≡ length s.blocks)
          (rows : List (Entry X)) (are : rows ≡ set s.blocks g.block_count (block_entry ka.plain (record { region = x; domain = d }))) where
        there : g.block_count < length s.blocks
        there = let long_enough = lent_enough l long in omega arith

        module _ (t : Tree A R) (reached : Reached {V = V} {W = W} ka.holds kr.holds t) (pic : Pictures ka.plain kr.plain g s t) where
          free_here : Nowhere (Shares ka.holds x) t.blocks
          free_here = free t.blocks pic.blocks

          rows_here : take (g.block_count + 1) rows ≡ map (block_entry ka.plain) (after {V = V} {W = W} t (Give d x)).blocks
          rows_here = ap (take (g.block_count + 1)) are ∙ give_rows t pic there

          searched : {B : Type 0} (r : Result B (Refusal V W)) → Searched (take (g.block_count + 1) rows) r → AllPlaced ka.holds kr.holds (after {V = V} {W = W} t (Give d x)) r
          searched r found = found (after {V = V} {W = W} t (Give d x)) (record { same = rows_here; owned = give_apart t pic (reached_grown ka.holds kr.holds t reached) owner free_here }) pic.properties

        pub given : {B : Type 0} (u : B) (h : State A R) → Counted h (g.block_count + 1) → Searched (take (g.block_count + 1) rows) (Ok u) → Tried ka kr g s (Give d x) l (λ _. Done) (Ok u) h (with_blocks s rows)
        given u h same found = record {
          turns = λ t reached pic. (
            give_right t pic owner room inside (free_here t reached pic) (searched t reached pic (Ok u) found),
            let size : g.block_count + 1 ≡ length (after {V = V} {W = W} t (Give d x)).blocks = ap (λ n. n + 1) pic.block_count ∙ sym (length_push t.blocks (record { region = x; domain = d })) in
                pictured t pic (after {V = V} {W = W} t (Give d x)).blocks h rows (subst (Counted h) size same) (subst (λ n. take n rows ≡ map (block_entry ka.plain) (after {V = V} {W = W} t (Give d x)).blocks) size (rows_here t reached pic)),
          );
          state = tt;
          tables = ap (with_blocks s) are;
          short = λ x. absurd (long x);
        }

        pub give_undone : {B : Type 0} (q : Refusal V W) (h : State A R) → h ≡ g → (old : Entry X) → slice_get s.blocks g.block_count ≡ Some old → (back : List (Entry X)) → back ≡ set rows g.block_count old
            → Searched {B = B} (take (g.block_count + 1) rows) (Err q) → Tried ka kr g s (Give d x) l (λ (u : B). Done) (Err q) h (with_blocks s back)
        give_undone {B} q h same old was back put found =
            let kept = put ∙ ap (λ (z : List (Entry X)). set z g.block_count old) are ∙ undo_set s.blocks g.block_count (block_entry ka.plain (record { region = x; domain = d })) old was in
            tried_refused ka kr (Give d x) l (λ _. Done) g h s (with_blocks s back) long q same (ap (with_blocks s) kept) (λ t reached pic.
            let (n, a, is, astray) = searched t reached pic {B = B} (Err q) found in
            subst (λ e. Right ka.holds kr.holds t (Give d x) l (Refused e)) (sym is) (give_misplaced t pic owner room inside (free_here t reached pic) n a astray))

  module _ (b : ℕ) where
    module _ (t : Tree A R) (pic : Pictures ka.plain kr.plain g s t) where
      abbrev UnderTake : ℕ → Type 0
      UnderTake n = Below ka.holds kr.holds t (Take b) l n

      then : (n : ℕ) → UnderTake n → (Cause ka.holds kr.holds t (Take b) l n → ⊥) → UnderTake (n + 1)
      then = more ka.holds kr.holds t (Take b) l

      take_two : UnderTake 2
      take_two = then 1 (below_one ka.holds kr.holds t (Take b) l) long

      pub take_no_such : g.block_count ≤ b → Right ka.holds kr.holds t (Take b) l (Refused NoSuch)
      take_no_such past = refuse ka.holds kr.holds t (Take b) l NoSuch take_two (subst (λ n. n ≤ b) pic.block_count past)

      module _ (within : g.block_count ≤ b → ⊥) where
        take_eleven : UnderTake 11
        take_eleven =
            let three = then 2 take_two (λ past. within (subst (λ n. n ≤ b) (sym pic.block_count) past)) in
            let six = then 5 (then 4 (then 3 three (λ x. x)) (λ x. x)) (λ x. x tt) in
            then 10 (then 9 (then 8 (then 7 (then 6 six (λ x. x.1)) (λ x. x)) (λ x. x.1)) (λ x. x.1)) (λ x. x.1)

        pub take_misplaced : (n : ℕ) (a : V) → Misplaces ka.holds kr.holds (after {V = V} {W = W} t (Take b)) n a → Right ka.holds kr.holds t (Take b) l (Refused (Misplaced n a))
        take_misplaced n a astray = refuse ka.holds kr.holds t (Take b) l (Misplaced n a) take_eleven astray

        pub take_right : Nowhere (SomeAstray ka.holds kr.holds (after {V = V} {W = W} t (Take b))) t.properties → Right ka.holds kr.holds t (Take b) l Done
        take_right placed =
            let twelve = then 11 take_eleven (λ (n, a, (p, first, astray)). placed n p first.here first.fit) in
            (none ka.holds kr.holds t (Take b) l (then 12 twelve (λ x. x.3)), refl)

    module _ (within : g.block_count ≤ b → ⊥) (size : l.blocks ≡ length s.blocks) (rows : List (Entry X)) (are : rows ≡ row_out g.block_count b s.blocks) where
      low : b < g.block_count
      low = omega arith

      enough : g.block_count ≤ length s.blocks
      enough = let long_enough = lent_enough l long in let few = g.blocks in omega arith

      module _ (t : Tree A R) (reached : Reached {V = V} {W = W} ka.holds kr.holds t) (pic : Pictures ka.plain kr.plain g s t) where
        rows_left : take (g.block_count - 1) rows ≡ map (block_entry ka.plain) (after {V = V} {W = W} t (Take b)).blocks
        rows_left =
            ap (take (g.block_count - 1)) are ∙ take_row_out g.block_count b s.blocks low enough
            ∙ ap (λ (k : List (Entry X)). remove k b) pic.blocks ∙ sym (map_removed (block_entry ka.plain) t.blocks b)

        left_searched : {B : Type 0} (r : Result B (Refusal V W)) → Searched (take (g.block_count - 1) rows) r → AllPlaced ka.holds kr.holds (after {V = V} {W = W} t (Take b)) r
        left_searched r found = found (after {V = V} {W = W} t (Take b)) (record { same = rows_left; owned = owned_apart ka.holds kr.holds (after {V = V} {W = W} t (Take b)) (grown_take ka.holds kr.holds t b (reached_grown ka.holds kr.holds t reached)) }) pic.properties

      pub taken : {B : Type 0} (u : B) (h : State A R) → Counted h (g.block_count - 1) → Searched (take (g.block_count - 1) rows) (Ok u) → Tried ka kr g s (Take b) l (λ _. Done) (Ok u) h (with_blocks s rows)
      taken u h same found = record {
        turns = λ t reached pic. (
          take_right t pic within (left_searched t reached pic (Ok u) found),
          let less = low in
              let count = pic.block_count in
              let left : g.block_count - 1 ≡ length (after {V = V} {W = W} t (Take b)).blocks = let one = length-remove t.blocks b (omega arith) in omega arith in
              pictured t pic (after {V = V} {W = W} t (Take b)).blocks h rows (subst (Counted h) left same) (subst (λ n. take n rows ≡ map (block_entry ka.plain) (after {V = V} {W = W} t (Take b)).blocks) left (rows_left t reached pic)),
        );
        state = tt;
        tables = ap (with_blocks s) are;
        short = λ x. absurd (long x);
      }

      pub take_undone : {B : Type 0} (q : Refusal V W) (h : State A R) → h ≡ g → (old : Entry X) → slice_get s.blocks b ≡ Some old → (back : List (Entry X)) → back ≡ row_in (g.block_count - 1) b old rows
          → Searched {B = B} (take (g.block_count - 1) rows) (Err q) → Tried ka kr g s (Take b) l (λ (u : B). Done) (Err q) h (with_blocks s back)
      take_undone {B} q h same old was back put found =
          let kept = put ∙ ap (row_in (g.block_count - 1) b old) are ∙ undo_out g.block_count b s.blocks low enough old was in
          tried_refused ka kr (Take b) l (λ _. Done) g h s (with_blocks s back) long q same (ap (with_blocks s) kept) (λ t reached pic.
          let (n, a, is, astray) = left_searched t reached pic {B = B} (Err q) found in
          subst (λ e. Right ka.holds kr.holds t (Take b) l (Refused e)) (sym is) (take_misplaced t pic within n a astray))
