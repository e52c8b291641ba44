-- An edit of one firewall's list: that its answer is right, and what is pictured after it.
use Rattle.std.proofs.Common.{◌≡◌, ℕ, zero, suc, ◌+◌, ◌-◌, ◌<◌, ◌≤◌, Bool, cond, ◌⊎◌, List, [], map, length, take, drop, set, Some, None, Ok, Err, Decides, Option, Result, unwrap_or, sym, refl, ap, ◌∙◌, subst, subst₂, inl, inr, add-one, arith, length-take}
use native.Mathlib.Decide.{dec_lt}
use Rattle.std.specs.List.{slice_get, insert, remove}
use Rattle.kinds.specs.declared.kind.Kind.{Ghosts}
use Rattle.kinds.specs.declared.pair.Pair.{Pair}
use Rattle.kinds.specs.declared.set.SetRow.{SetRow}
use Rattle.search.specs.declared.list.Entry.{Entry}
use Rattle.search.proofs.Positions.{nth_set_same}
use Rattle.model.specs.Packets.{InWhole, Unmatched, Complete}
use Rattle.model.specs.Record.{Right, Said}
use Rattle.model.specs.Limits.{max_list, max_rules, max_properties}
use Rattle.model.specs.Refusals.{BreaksOne, WouldBreak, LeavesUnmatched, RuleInside, IsTooShort, NoFirewall, given, offered}
use Rattle.model.specs.Shape.{Shape, Firewall}
use Rattle.model.specs.Tree.{Tree, rules_of, with_rules, with_lists, after}
use Rattle.model.specs.declared.answers.Answer.TheVariants.{Done, Refused}
use Rattle.model.specs.declared.answers.Lent.{Lent}
use Rattle.model.specs.declared.answers.Refusal.{Refusal}
use Rattle.model.specs.declared.answers.Refusal.TheVariants.{TooShort, NoSuch, BadInterface, Full, Outside, Overlap, Unjoined, SourceAstray, DestinationAstray, Unmatched as LeftUnmatched, Misplaced, Breaks}
use Rattle.model.specs.declared.calls.Call.{Call}
use Rattle.model.specs.declared.calls.Call.TheVariants.{Place, Alter, Lift}
use Rattle.model.specs.declared.rules.Packet.{Packet}
use Rattle.model.specs.declared.rules.Rule.{Rule}
use Rattle.tree.specs.Table.{shape_of}
use Rattle.tables.specs.Rows.{row_in, row_out}
use Rattle.tables.proofs.Rows.{take_row_in, take_row_out, undo_in, undo_out, undo_set}
use Rattle.lists.specs.Layout.{Laid}
use Rattle.lists.specs.Lengths.{lengths_of, start_of}
use Rattle.lists.proofs.Bounds.{length_max, sum_max}
use Rattle.lists.proofs.Laid.{laid_length, laid_total, laid_count, laid_placed, placed_list, laid_altered, altered_list, laid_lifted, lifted_list, start_within}
use Rattle.checks.specs.Rows.{rule_entry}
use Rattle.checks.specs.declared.rows.PropertyRow.{PropertyRow}
use Rattle.state.specs.Order.{Passed, Demands, Refuses, RegionsInside}
use Rattle.state.specs.Picture.{Pictures, Reached, Tried, answered}
use Rattle.state.specs.Rows.{Stored, stored, rule_count, row_at}
use Rattle.state.specs.declared.state.State.{State}
use Rattle.state.proofs.Lent.{lent_enough}
use Rattle.state.proofs.Order.{Cause, Below, below_one, more, none, refuse, passed}
use Rattle.state.proofs.Tries.{reached_grown, reached_guarded, tried_refused}
use Rattle.edits.specs.Edits.{Opened, Stands, Room, There, list_length, KeptJudged, EditJudged, NoneBroken}

-- what was seen of a complete list, and then of what it breaks
pub then_kept : {A R V W B : Type 0} (addr : A → V → Type 0) (rests : R → W → Type 0) (t : Tree A R) (rs : List (Rule A R)) (f : ℕ) → Complete {V = V} {W = W} addr rests t rs
    → (r : Result B (Refusal V W)) → KeptJudged addr rests t rs f r → EditJudged addr rests t rs f r
then_kept addr rests t rs f all (Ok x) kept = (all, kept)
then_kept addr rests t rs f all (Err q) broken = inr (all, broken)

module _ {A R V W : Type 0} (addr : A → V → Type 0) (rests : R → W → Type 0) (t : Tree A R) (c : Call A R V W) (l : Lent) where
  -- where no refusal with a number below n applies, no number below n has a cause
  pub under : (n : ℕ) → Passed addr rests t c l n → Below addr rests t c l n
  under n all zero less x = x
  under n all (suc zero) less x = all TooShort less x
  under n all (suc (suc zero)) less x = all NoSuch less x
  under n all (suc (suc (suc zero))) less x = all BadInterface less x
  under n all (suc (suc (suc (suc zero)))) less x = all Full less x
  under n all (suc (suc (suc (suc (suc zero))))) less x = all Outside less x
  under n all (suc (suc (suc (suc (suc (suc zero)))))) less x = all (Overlap x.0) less x.1
  under n all (suc (suc (suc (suc (suc (suc (suc zero))))))) less x = all Unjoined less x
  under n all (suc (suc (suc (suc (suc (suc (suc (suc zero)))))))) less x = all (SourceAstray x.0) less x.1
  under n all (suc (suc (suc (suc (suc (suc (suc (suc (suc zero))))))))) less x = all (DestinationAstray x.0) less x.1
  under n all (suc (suc (suc (suc (suc (suc (suc (suc (suc (suc zero)))))))))) less x = all (LeftUnmatched x.0) less x.1
  under n all (suc (suc (suc (suc (suc (suc (suc (suc (suc (suc (suc zero))))))))))) less x = all (Misplaced x.0 x.1) less x.2
  under n all (suc (suc (suc (suc (suc (suc (suc (suc (suc (suc (suc (suc zero)))))))))))) less x = all (Breaks x.0 x.1 x.2) less x.3
  under n all (suc (suc (suc (suc (suc (suc (suc (suc (suc (suc (suc (suc (suc k))))))))))))) less x = x

  -- the call gives firewall f the list rs
  module _ (f : ℕ) (rs : List (Rule A R)) (said : Said addr rests t c Done)
      (gives : (n g : ℕ) (k : Packet V W) → WouldBreak addr rests t c n g k → BreaksOne addr rests (with_rules t f rs) n g k)
      (takes : (n : ℕ) (k : Packet V W) → BreaksOne addr rests (with_rules t f rs) n f k → WouldBreak addr rests t c n f k) where
    -- a property that breaks is not among none
    unbroken : NoneBroken {V = V} {W = W} addr rests t rs f → Cause addr rests t c l 12 → ⊥
    unbroken free (n, g, k, b) = let (p, first, breaks) = gives n g k b in free n p first.here first.fit

    pub kept_right : {B : Type 0} → Below addr rests t c l 12 → (r : Result B (Refusal V W)) → KeptJudged addr rests t rs f r → Right addr rests t c l (answered (λ x. Done) r)
    kept_right below (Ok x) free = (none addr rests t c l (more addr rests t c l 12 below (unbroken free)), said)
    kept_right below (Err q) (n, k, is, breaks) = subst (λ e. Right addr rests t c l (Refused e)) (sym is) (refuse addr rests t c l (Breaks n f k) below (takes n k breaks))

    -- the call is one that can leave a packet unmatched, and does not move addresses
    module _ (there : f < length t.lists) (loses : (k : Packet V W) → LeavesUnmatched addr rests t c k → InWhole addr rests t k × Unmatched addr rests (rules_of (with_rules t f rs) f) k)
        (lost : (k : Packet V W) → InWhole addr rests t k × Unmatched addr rests (rules_of (with_rules t f rs) f) k → LeavesUnmatched addr rests t c k)
        (still : Cause addr rests t c l 11 → ⊥) where
      rules_there : rules_of (with_rules t f rs) f ≡ rs
      rules_there = ap (λ (o : Option (List (Rule A R))). unwrap_or o []) (nth_set_same t.lists f rs there)

      below_twelve : Below addr rests t c l 10 → Complete {V = V} {W = W} addr rests t rs → Below addr rests t c l 12
      below_twelve below all =
          more addr rests t c l 11 (more addr rests t c l 10 below (λ x.
          let (k, leaves) = x in let (inside, loose) = loses k leaves in all k inside (subst (λ ls. Unmatched addr rests ls k) rules_there loose))) still

      pub edit_right : {B : Type 0} → Below addr rests t c l 10 → (r : Result B (Refusal V W)) → EditJudged addr rests t rs f r → Right addr rests t c l (answered (λ x. Done) r)
      edit_right {B} below (Ok x) (all, free) = kept_right {B = B} (below_twelve below all) (Ok x) free
      edit_right {B} below (Err q) found = elim found [
        | inl (k, is, (inside, loose)) ↦
            subst (λ e. Right addr rests t c l (Refused e)) (sym is) (refuse addr rests t c l (LeftUnmatched k) below (lost k (inside, subst (λ ls. Unmatched addr rests ls k) (sym rules_there) loose)))
        | inr (all, broken) ↦ kept_right {B = B} (below_twelve below all) (Err q) broken
      ]

  -- a call that gives no block and offers no property passes 6 to 9
  pub to_ten : given c ≡ None → offered c ≡ None → Below addr rests t c l 6 → Below addr rests t c l 10
  to_ten no_block no_property six =
      let seven = more addr rests t c l 6 six (λ x. rw no_block at x.1) in
      let eight = more addr rests t c l 7 seven (λ x. rw no_property at x) in
      let nine = more addr rests t c l 8 eight (λ x. rw no_property at x.1) in
      more addr rests t c l 9 nine (λ x. rw no_property at x.1)

-- the causes of 2, with n positions, and of 4, as they are checked
abbrev Missing : {A R : Type 0} → State A R → ℕ → ℕ → ℕ → Type 0
Missing g f n p = (Firewall (shape_of g.tree) f → ⊥) ⊎ (n ≤ p)

abbrev Crowded : {A R : Type 0} → State A R → ℕ → Type 0
Crowded g f = (max_list ≤ list_length g f) ⊎ (max_rules ≤ rule_count g)

pub there_since : {A R : Type 0} (g : State A R) (l : Lent) → (IsTooShort l → ⊥) → (f n p : ℕ) → (Missing g f n p → ⊥) → There g l f n p
there_since g l long f n p such = record {
  long = long;
  firewall = elim (dec_lt f (length (shape_of g.tree).firewalls)) [ yes less ↦ less | no gone ↦ absurd (such (inl gone)) ];
  position = let past : (n ≤ p) → ⊥ = λ z. such (inr z) in omega arith;
}

pub room_since : {A R : Type 0} (g : State A R) (f : ℕ) → (Crowded g f → ⊥) → Room g f
room_since g f free = record {
  list = let past : (max_list ≤ list_length g f) → ⊥ = λ z. free (inl z) in omega arith;
  all = let past : (max_rules ≤ rule_count g) → ⊥ = λ z. free (inr z) in omega arith;
}

-- 2, as the tree has it; P says that the position is too high
module _ {A R : Type 0} (g : State A R) (t : Tree A R) (shape : shape_of g.tree ≡ t.shape) (f n p : ℕ) {P : Type 0} where
  missing : (n ≤ p → P) → Missing g f n p → NoFirewall t f ⊎ P
  missing past x = elim x [ inl gone ↦ inl (λ z. gone (subst (λ w. Firewall w f) (sym shape) z)) | inr high ↦ inr (past high) ]

  not_missing : (P → n ≤ p) → (Missing g f n p → ⊥) → NoFirewall t f ⊎ P → ⊥
  not_missing past such x = elim x [ inl gone ↦ such (inl (λ z. gone (subst (λ w. Firewall w f) shape z))) | inr high ↦ such (inr (past high)) ]

module _ {A R V W X Y : Type 0} (ka : Ghosts A V X) (kr : Ghosts R W Y) (g : State A R) (l : Lent) (long : IsTooShort l → ⊥) where
  -- a refusal before the edit, of a call that was lent enough
  pub opened_refused : {B : Type 0} (c : Call A R V W) (n : ℕ) (known : Type 0) (q e : Refusal V W) → q ≡ e → ((s : Stored X Y) (t : Tree A R) → Pictures ka.plain kr.plain g s t → Right ka.holds kr.holds t c l (Refused e))
      → Opened ka kr {B = B} g c l n known (Err q)
  opened_refused c n known q e is right = record { right = λ s t reached pic. subst (λ z. Right ka.holds kr.holds t c l (Refused z)) (sym is) (right s t pic); fits = tt; short = λ x. absurd (long x) }

  module _ (f p : ℕ) (rule : Rule A R) where
    -- the regions of the rule in the wholes, as they are checked and as the tree has them
    abbrev Regions : Type 0
    Regions = RegionsInside ka.holds kr.holds g.addresses g.rests rule.source rule.destination rule.rest

    rule_inside : {s : Stored X Y} (t : Tree A R) → Pictures ka.plain kr.plain g s t → Regions → RuleInside ka.holds kr.holds t rule
    rule_inside t pic h =
        let k = subst₂ (λ a r. RegionsInside ka.holds kr.holds a r rule.source rule.destination rule.rest) pic.addresses pic.rests h in
        record { source = k.0; destination = k.1.0; rest = k.1.1 }

    regions_inside : {s : Stored X Y} (t : Tree A R) → Pictures ka.plain kr.plain g s t → RuleInside ka.holds kr.holds t rule → Regions
    regions_inside t pic i = subst₂ (λ a r. RegionsInside ka.holds kr.holds a r rule.source rule.destination rule.rest) (sym pic.addresses) (sym pic.rests) (i.source, (i.destination, i.rest))

    -- the checks of place, one after the other
    module _ (s : Stored X Y) (t : Tree A R) (pic : Pictures ka.plain kr.plain g s t) where
      place_two : Below {V = V} {W = W} ka.holds kr.holds t (Place f p rule) l 2
      place_two = more ka.holds kr.holds t (Place f p rule) l 1 (below_one ka.holds kr.holds t (Place f p rule) l) long

      place_three : (Missing g f (list_length g f + 1) p → ⊥) → Below {V = V} {W = W} ka.holds kr.holds t (Place f p rule) l 3
      place_three such =
          let size = laid_length pic.lists f in
          more ka.holds kr.holds t (Place f p rule) l 2 place_two (not_missing g t pic.shape f (list_length g f + 1) p (λ z. omega arith) such)

      place_four : (Missing g f (list_length g f + 1) p → ⊥) → Below {V = V} {W = W} ka.holds kr.holds t (Place f p rule) l 4
      place_four such = more ka.holds kr.holds t (Place f p rule) l 3 (place_three such) (λ x. x)

      place_five : (Missing g f (list_length g f + 1) p → ⊥) → (Crowded g f → ⊥) → Below {V = V} {W = W} ka.holds kr.holds t (Place f p rule) l 5
      place_five such free =
          let size = laid_length pic.lists f in
          let all = laid_total pic.lists in
          more ka.holds kr.holds t (Place f p rule) l 4 (place_four such) (λ x. elim x [ inl many ↦ free (inl (omega arith)) | inr many ↦ free (inr (omega arith)) ])

    pub place_missing : {B : Type 0} (known : Type 0) (q : Refusal V W) → q ≡ NoSuch → Missing g f (list_length g f + 1) p → Opened ka kr {B = B} g (Place f p rule) l 12 known (Err q)
    place_missing known q is gone = opened_refused (Place f p rule) 12 known q NoSuch is (λ s t pic.
        let size = laid_length pic.lists f in
        refuse ka.holds kr.holds t (Place f p rule) l NoSuch (place_two s t pic) (missing g t pic.shape f (list_length g f + 1) p (λ z. omega arith) gone))

    pub place_crowded : {B : Type 0} (known : Type 0) (q : Refusal V W) → (Missing g f (list_length g f + 1) p → ⊥) → q ≡ Full → Crowded g f → Opened ka kr {B = B} g (Place f p rule) l 12 known (Err q)
    place_crowded known q such is many = opened_refused (Place f p rule) 12 known q Full is (λ s t pic.
        let size = laid_length pic.lists f in
        let all = laid_total pic.lists in
        refuse ka.holds kr.holds t (Place f p rule) l Full (place_four s t pic such) (elim many [ inl high ↦ inl (omega arith) | inr high ↦ inr (omega arith) ]))

    pub place_opened : {B : Type 0} → (Missing g f (list_length g f + 1) p → ⊥) → (Crowded g f → ⊥) → (r : Result B (Refusal V W))
        → Demands r Outside Regions
        → Opened ka kr g (Place f p rule) l 12 (There g l f (list_length g f + 1) p × Room g f) r
    place_opened such free (Ok x) inside = record {
      right = λ s t reached pic.
          let six = more ka.holds kr.holds t (Place f p rule) l 5 (place_five s t pic such free) (λ out. out (rule_inside t pic inside)) in
          let ten = to_ten ka.holds kr.holds t (Place f p rule) l refl refl six in
          passed ka.holds kr.holds t (Place f p rule) l 12 (more ka.holds kr.holds t (Place f p rule) l 11 (more ka.holds kr.holds t (Place f p rule) l 10 ten (λ x. x.1)) (λ x. x.2));
      fits = (there_since g l long f (list_length g f + 1) p such, room_since g f free);
      short = λ x. absurd (long x);
    }
    place_opened such free (Err q) outside = record {
      right = λ s t reached pic.
          subst (λ z. Right ka.holds kr.holds t (Place f p rule) l (Refused z)) (sym outside.0) (refuse ka.holds kr.holds t (Place f p rule) l Outside (place_five s t pic such free) (λ i. outside.1 (regions_inside t pic i)));
      fits = tt;
      short = λ x. absurd (long x);
    }

    -- the checks of alter
    module _ (s : Stored X Y) (t : Tree A R) (pic : Pictures ka.plain kr.plain g s t) where
      alter_two : Below {V = V} {W = W} ka.holds kr.holds t (Alter f p rule) l 2
      alter_two = more ka.holds kr.holds t (Alter f p rule) l 1 (below_one ka.holds kr.holds t (Alter f p rule) l) long

      alter_five : (Missing g f (list_length g f) p → ⊥) → Below {V = V} {W = W} ka.holds kr.holds t (Alter f p rule) l 5
      alter_five such =
          let size = laid_length pic.lists f in
          let three = more ka.holds kr.holds t (Alter f p rule) l 2 alter_two (not_missing g t pic.shape f (list_length g f) p (λ z. omega arith) such) in
          more ka.holds kr.holds t (Alter f p rule) l 4 (more ka.holds kr.holds t (Alter f p rule) l 3 three (λ x. x)) (λ x. x)

    pub alter_missing : {B : Type 0} (known : Type 0) (q : Refusal V W) → q ≡ NoSuch → Missing g f (list_length g f) p → Opened ka kr {B = B} g (Alter f p rule) l 10 known (Err q)
    alter_missing known q is gone = opened_refused (Alter f p rule) 10 known q NoSuch is (λ s t pic.
        let size = laid_length pic.lists f in
        refuse ka.holds kr.holds t (Alter f p rule) l NoSuch (alter_two s t pic) (missing g t pic.shape f (list_length g f) p (λ z. omega arith) gone))

    pub alter_opened : {B : Type 0} → (Missing g f (list_length g f) p → ⊥) → (r : Result B (Refusal V W))
        → Demands r Outside Regions
        → Opened ka kr g (Alter f p rule) l 10 (There g l f (list_length g f) p) r
    alter_opened such (Ok x) inside = record {
      right = λ s t reached pic.
          let six = more ka.holds kr.holds t (Alter f p rule) l 5 (alter_five s t pic such) (λ out. out (rule_inside t pic inside)) in
          passed ka.holds kr.holds t (Alter f p rule) l 10 (to_ten ka.holds kr.holds t (Alter f p rule) l refl refl six);
      fits = there_since g l long f (list_length g f) p such;
      short = λ x. absurd (long x);
    }
    alter_opened such (Err q) outside = record {
      right = λ s t reached pic.
          subst (λ z. Right ka.holds kr.holds t (Alter f p rule) l (Refused z)) (sym outside.0) (refuse ka.holds kr.holds t (Alter f p rule) l Outside (alter_five s t pic such) (λ i. outside.1 (regions_inside t pic i)));
      fits = tt;
      short = λ x. absurd (long x);
    }

  -- the checks of lift
  module _ (f p : ℕ) where
    lift_two : (t : Tree A R) → Below {V = V} {W = W} ka.holds kr.holds t (Lift f p) l 2
    lift_two t = more ka.holds kr.holds t (Lift f p) l 1 (below_one ka.holds kr.holds t (Lift f p) l) long

    pub lift_opened : {B : Type 0} (r : Result B (Refusal V W)) → Refuses r NoSuch (Missing g f (list_length g f) p) → Opened ka kr g (Lift f p) l 10 (There g l f (list_length g f) p) r
    lift_opened (Ok x) such = record {
      right = λ s t reached pic.
          let size = laid_length pic.lists f in
          let three = more ka.holds kr.holds t (Lift f p) l 2 (lift_two t) (not_missing g t pic.shape f (list_length g f) p (λ z. omega arith) such) in
          let five = more ka.holds kr.holds t (Lift f p) l 4 (more ka.holds kr.holds t (Lift f p) l 3 three (λ x. x)) (λ x. x) in
          passed ka.holds kr.holds t (Lift f p) l 10 (to_ten ka.holds kr.holds t (Lift f p) l refl refl (more ka.holds kr.holds t (Lift f p) l 5 five (λ x. x tt)));
      fits = there_since g l long f (list_length g f) p such;
      short = λ x. absurd (long x);
    }
    lift_opened (Err q) (is, gone) = opened_refused (Lift f p) 10 (There g l f (list_length g f) p) q NoSuch is (λ s t pic.
        let size = laid_length pic.lists f in
        refuse ka.holds kr.holds t (Lift f p) l NoSuch (lift_two t) (missing g t pic.shape f (list_length g f) p (λ z. omega arith) gone))

-- the rows of an edit are within the used ones, and these within the table
pub record RowsWithin {A R : Type 0} (g : State A R) (l : Lent) (f : ℕ) : Type 0 where
  pub end : start_of (lengths_of g.lists) f + list_length g f ≤ rule_count g
  pub short : list_length g f ≤ max_list
  pub used : rule_count g ≤ max_rules
  pub rows : max_rules ≤ l.rules
  pub properties : max_properties ≤ l.properties

pub rows_within : {A R : Type 0} (g : State A R) (l : Lent) → (IsTooShort l → ⊥) → (f : ℕ) → RowsWithin g l f
rows_within g l long f = record {
  end = start_within (lengths_of g.lists) f;
  short = length_max g.lists f;
  used = sum_max g.lists;
  rows = (lent_enough l long).rules;
  properties = (lent_enough l long).properties;
}

-- a list that is not too long has fewer rows than frames are lent
pub frames_enough : {T : Type 0} (l : Lent) → (IsTooShort l → ⊥) → (n : ℕ) → n ≤ max_list → (rows : List T) → length (take n rows) < l.packet_frames
frames_enough l long n few rows = let enough = lent_enough l long in let size = length-take n rows in omega arith

-- a position in the list of f is a used row of a table that is long enough, and so is one to put a rule at, where there is room
pub row_there : {A R : Type 0} (g : State A R) (l : Lent) (f p : ℕ) → There g l f (list_length g f) p → (used start : ℕ) → used ≡ rule_count g → start ≡ start_of (lengths_of g.lists) f
    → (start + p < used) × (used ≤ l.rules)
row_there g l f p there used start all first =
    let fits = rows_within g l there.long f in
    let at = there.position in
    (omega arith, omega arith)

pub place_there : {A R : Type 0} (g : State A R) (l : Lent) (f p : ℕ) → There g l f (list_length g f + 1) p × Room g f → (used start : ℕ) → used ≡ rule_count g → start ≡ start_of (lengths_of g.lists) f
    → (start + p ≤ used) × (used < l.rules)
place_there g l f p (there, room) used start all first =
    let fits = rows_within g l there.long f in
    let at = there.position in
    let free = room.all in
    (omega arith, omega arith)

-- h is the state g but for the lengths of its lists
pub record Relisted {A R : Type 0} (g h : State A R) : Type 0 where
  pub addresses : h.addresses ≡ g.addresses
  pub rests : h.rests ≡ g.rests
  pub tree : h.tree ≡ g.tree
  pub block_count : h.block_count ≡ g.block_count
  pub property_count : h.property_count ≡ g.property_count

module _ {A R V W X Y : Type 0} (ka : Ghosts A V X) (kr : Ghosts R W Y) (g : State A R) (l : Lent) where
  -- a call that is refused before the edit
  pub opened_tried : {B : Type 0} (c : Call A R V W) (n : ℕ) (known : Type 0) (q : Refusal V W) → Opened ka kr {B = B} g c l n known (Err q) → (s : Stored X Y) → Tried ka kr {B = B} g s c l (λ x. Done) (Err q) g s
  opened_tried c n known q opened s = record { turns = λ t reached pic. (opened.right s t reached pic, pic); state = refl; tables = refl; short = opened.short }

  -- the firewall is in the tree, and what stands there is kept
  pub in_lists : (s : Stored X Y) (t : Tree A R) → Reached {V = V} {W = W} ka.holds kr.holds t → Pictures ka.plain kr.plain g s t → (f : ℕ) → Firewall (shape_of g.tree) f → f < length t.lists
  in_lists s t reached pic f there = let each = (reached_grown ka.holds kr.holds t reached).lists in let all = ap (λ (z : Shape). length z.firewalls) pic.shape in omega arith

  pub stands : (s : Stored X Y) (t : Tree A R) → Reached {V = V} {W = W} ka.holds kr.holds t → Pictures ka.plain kr.plain g s t → (f : ℕ) → Firewall (shape_of g.tree) f → Stands {V = V} {W = W} ka kr g s.properties f t
  stands s t reached pic f there = record {
    all_addresses = sym pic.addresses;
    all_rests = sym pic.rests;
    shape = pic.shape;
    firewall = in_lists s t reached pic f there;
    properties = pic.properties;
    kept = λ n p at. (reached_guarded ka.holds kr.holds t reached n p at).1;
  }

  module _ (rules rules-after : List (Entry (Pair SetRow (Pair X (Pair X Y))))) (blocks : List (Entry X)) (properties : List (PropertyRow X Y)) where
    -- the tree with other lists is pictured by a table in which these lie
    pictured : (t : Tree A R) (h : State A R) (ls : List (List (Rule A R))) → Pictures ka.plain kr.plain g (stored rules blocks properties) t → Relisted g h → Laid (rule_entry ka.plain kr.plain) (lengths_of h.lists) rules-after ls
        → Pictures ka.plain kr.plain h (stored rules-after blocks properties) (with_lists t ls)
    pictured t h ls pic same laid = record {
      addresses = same.addresses ∙ pic.addresses;
      rests = same.rests ∙ pic.rests;
      shape = ap shape_of same.tree ∙ pic.shape;
      lists = laid;
      block_count = same.block_count ∙ pic.block_count;
      blocks = ap (λ n. take n blocks) same.block_count ∙ pic.blocks;
      property_count = same.property_count ∙ pic.property_count;
      properties = ap (λ n. take n properties) same.property_count ∙ pic.properties;
    }

    -- place: the rows after it, in a table that is long enough
    module _ (f p : ℕ) (rule : Rule A R) (there : There g l f (list_length g f + 1) p) (room : Room g f) (long : l.rules ≡ length rules)
        (is : rules-after ≡ row_in (rule_count g) (row_at g f p) (rule_entry ka.plain kr.plain rule) rules)
        (passes : (s : Stored X Y) (t : Tree A R) → Reached {V = V} {W = W} ka.holds kr.holds t → Pictures ka.plain kr.plain g s t → Passed ka.holds kr.holds t (Place f p rule) l 12) where
      placed_rows : take (rule_count g + 1) rules-after ≡ insert (take (rule_count g) rules) (row_at g f p) (rule_entry ka.plain kr.plain rule)
      placed_rows =
          let fits = rows_within g l there.long f in
          let at = there.position in
          let free = room.all in
          ap (take (rule_count g + 1)) is ∙ take_row_in (rule_count g) (row_at g f p) (rule_entry ka.plain kr.plain rule) rules (omega arith) (omega arith)

      abbrev PlaceJudged : {B : Type 0} → Result B (Refusal V W) → Type 0
      PlaceJudged r =
          (t : Tree A R) (rs : List (Rule A R)) → Stands {V = V} {W = W} ka kr g properties f t → take (list_length g f + 1) (drop (start_of (lengths_of g.lists) f) rules-after) ≡ map (rule_entry ka.plain kr.plain) rs
          → KeptJudged ka.holds kr.holds t rs f r

      module _ (t : Tree A R) (reached : Reached {V = V} {W = W} ka.holds kr.holds t) (pic : Pictures ka.plain kr.plain g (stored rules blocks properties) t) where
        placed_at : p ≤ length (rules_of t f)
        placed_at = let size = laid_length pic.lists f in let at = there.position in omega arith

        place_right : {B : Type 0} (r : Result B (Refusal V W)) → PlaceJudged r → Right ka.holds kr.holds t (Place f p rule) l (answered (λ x. Done) r)
        place_right r judged =
            let s = stored rules blocks properties in
            let inside = in_lists s t reached pic f there.firewall in
            let list = placed_list pic.lists f inside rule p rules-after placed_at placed_rows in
            kept_right ka.holds kr.holds t (Place f p rule) l f (insert (rules_of t f) p rule) refl (λ n g k b. b) (λ n k b. b)
            (under ka.holds kr.holds t (Place f p rule) l 12 (passes s t reached pic)) r
            (judged t (insert (rules_of t f) p rule) (stands s t reached pic f there.firewall) (ap (λ n. take n (drop (start_of (lengths_of g.lists) f) rules-after)) (add-one (list_length g f)) ∙ list))

        placed_pictured : (h : State A R) → Relisted g h → (done : Bool) → Decides done ((f < length (lengths_of g.lists)) × (list_length g f < max_list) × (rule_count g < max_rules))
            → lengths_of h.lists ≡ cond done (set (lengths_of g.lists) f (suc (list_length g f))) (lengths_of g.lists)
            → Pictures ka.plain kr.plain h (stored rules-after blocks properties) (after {V = V} {W = W} t (Place f p rule))
        placed_pictured h same done fit grown =
            let inside = in_lists (stored rules blocks properties) t reached pic f there.firewall in
            let count = laid_count pic.lists in
            let was = fit.1 (omega arith, room.list, room.all) in
            let ls = set t.lists f (insert (rules_of t f) p rule) in
            let sizes = grown ∙ ap (λ b. cond b (set (lengths_of g.lists) f (suc (list_length g f))) (lengths_of g.lists)) was in
            pictured t h ls pic same (subst (λ ns. Laid (rule_entry ka.plain kr.plain) ns rules-after ls) (sym sizes) (laid_placed pic.lists f inside rule p rules-after placed_at placed_rows))

      pub place_done : {B : Type 0} (x : B) → PlaceJudged (Ok x) → (h : State A R) → Relisted g h → (done : Bool) → Decides done ((f < length (lengths_of g.lists)) × (list_length g f < max_list) × (rule_count g < max_rules))
          → lengths_of h.lists ≡ cond done (set (lengths_of g.lists) f (suc (list_length g f))) (lengths_of g.lists)
          → Tried ka kr g (stored rules blocks properties) (Place f p rule) l (λ x. Done) (Ok x) h (stored rules-after blocks properties)
      place_done x judged h same done fit grown = record {
        turns = λ t reached pic. (place_right t reached pic (Ok x) judged, placed_pictured t reached pic h same done fit grown);
        state = tt;
        tables = ap (λ z. stored z blocks properties) is;
        short = λ z. absurd (there.long z);
      }

      pub place_undone : {B : Type 0} (q : Refusal V W) → PlaceJudged {B = B} (Err q) → (behind : Entry (Pair SetRow (Pair X (Pair X Y)))) → slice_get rules (rule_count g) ≡ Some behind
          → (end : List (Entry (Pair SetRow (Pair X (Pair X Y))))) → end ≡ set (row_out (rule_count g + 1) (row_at g f p) rules-after) (rule_count g) behind
          → Tried ka kr {B = B} g (stored rules blocks properties) (Place f p rule) l (λ x. Done) (Err q) g (stored end blocks properties)
      place_undone {B} q judged behind kept end undone =
          let fits = rows_within g l there.long f in
          let at = there.position in
          let free = room.all in
          let row = rule_entry ka.plain kr.plain rule in
          let back = undone ∙ ap (λ z. set (row_out (rule_count g + 1) (row_at g f p) z) (rule_count g) behind) is ∙ undo_in (rule_count g) (row_at g f p) row rules (omega arith) (omega arith) behind kept in
          tried_refused ka kr (Place f p rule) l (λ x. Done) g g (stored rules blocks properties) (stored end blocks properties) there.long q refl (ap (λ z. stored z blocks properties) back)
          (λ t reached pic. place_right t reached pic {B = B} (Err q) judged)

    -- alter and lift: rows of this size are searched, where the list of f would stand
    module _ (c : Call A R V W) (f size : ℕ) (there : Firewall (shape_of g.tree) f)
        (passes : (s : Stored X Y) (t : Tree A R) → Reached {V = V} {W = W} ka.holds kr.holds t → Pictures ka.plain kr.plain g s t → Passed ka.holds kr.holds t c l 10) where
      abbrev ThinJudged : {B : Type 0} → Result B (Refusal V W) → Type 0
      ThinJudged r =
          (t : Tree A R) (rs : List (Rule A R)) → Stands {V = V} {W = W} ka kr g properties f t → take size (drop (start_of (lengths_of g.lists) f) rules-after) ≡ map (rule_entry ka.plain kr.plain) rs
          → EditJudged ka.holds kr.holds t rs f r

      thin_right : (t : Tree A R) → Reached {V = V} {W = W} ka.holds kr.holds t → Pictures ka.plain kr.plain g (stored rules blocks properties) t → (rs : List (Rule A R))
          → take size (drop (start_of (lengths_of g.lists) f) rules-after) ≡ map (rule_entry ka.plain kr.plain) rs
          → Said ka.holds kr.holds t c Done
          → ((n g : ℕ) (k : Packet V W) → WouldBreak ka.holds kr.holds t c n g k → BreaksOne ka.holds kr.holds (with_rules t f rs) n g k)
          → ((n : ℕ) (k : Packet V W) → BreaksOne ka.holds kr.holds (with_rules t f rs) n f k → WouldBreak ka.holds kr.holds t c n f k)
          → ((k : Packet V W) → LeavesUnmatched ka.holds kr.holds t c k → InWhole ka.holds kr.holds t k × Unmatched ka.holds kr.holds (rules_of (with_rules t f rs) f) k)
          → ((k : Packet V W) → InWhole ka.holds kr.holds t k × Unmatched ka.holds kr.holds (rules_of (with_rules t f rs) f) k → LeavesUnmatched ka.holds kr.holds t c k)
          → (Cause ka.holds kr.holds t c l 11 → ⊥)
          → {B : Type 0} (r : Result B (Refusal V W)) → ThinJudged r → Right ka.holds kr.holds t c l (answered (λ x. Done) r)
      thin_right t reached pic rs list said gives takes loses lost still r judged =
          let s = stored rules blocks properties in
          edit_right ka.holds kr.holds t c l f rs said gives takes (in_lists s t reached pic f there) loses lost still (under ka.holds kr.holds t c l 10 (passes s t reached pic)) r
          (judged t rs (stands s t reached pic f there) list)

    -- alter
    module _ (f p : ℕ) (rule : Rule A R) (there : There g l f (list_length g f) p) (long : l.rules ≡ length rules)
        (is : rules-after ≡ set rules (row_at g f p) (rule_entry ka.plain kr.plain rule))
        (passes : (s : Stored X Y) (t : Tree A R) → Reached {V = V} {W = W} ka.holds kr.holds t → Pictures ka.plain kr.plain g s t → Passed ka.holds kr.holds t (Alter f p rule) l 10) where
      abbrev AlterJudged : {B : Type 0} → Result B (Refusal V W) → Type 0
      AlterJudged r =
          (t : Tree A R) (rs : List (Rule A R)) → Stands {V = V} {W = W} ka kr g properties f t → take (list_length g f) (drop (start_of (lengths_of g.lists) f) rules-after) ≡ map (rule_entry ka.plain kr.plain) rs
          → EditJudged ka.holds kr.holds t rs f r

      module _ (t : Tree A R) (reached : Reached {V = V} {W = W} ka.holds kr.holds t) (pic : Pictures ka.plain kr.plain g (stored rules blocks properties) t) where
        altered_at : p < length (rules_of t f)
        altered_at = let size = laid_length pic.lists f in let at = there.position in omega arith

        alter_right : {B : Type 0} (r : Result B (Refusal V W)) → AlterJudged r → Right ka.holds kr.holds t (Alter f p rule) l (answered (λ x. Done) r)
        alter_right r judged =
            let inside = in_lists (stored rules blocks properties) t reached pic f there.firewall in
            thin_right (Alter f p rule) f (list_length g f) there.firewall passes t reached pic (set (rules_of t f) p rule)
            (altered_list pic.lists f inside rule p rules-after altered_at is) refl (λ n g k b. b) (λ n k b. b) (λ k x. x) (λ k x. x) (λ x. x.2) r judged

        altered_pictured : Pictures ka.plain kr.plain g (stored rules-after blocks properties) (after {V = V} {W = W} t (Alter f p rule))
        altered_pictured =
            let inside = in_lists (stored rules blocks properties) t reached pic f there.firewall in
            pictured t g (set t.lists f (set (rules_of t f) p rule)) pic (record { addresses = refl; rests = refl; tree = refl; block_count = refl; property_count = refl })
            (laid_altered pic.lists f inside rule p rules-after altered_at is)

      pub alter_done : {B : Type 0} (x : B) → AlterJudged (Ok x)
          → Tried ka kr g (stored rules blocks properties) (Alter f p rule) l (λ x. Done) (Ok x) g (stored rules-after blocks properties)
      alter_done x judged = record {
        turns = λ t reached pic. (alter_right t reached pic (Ok x) judged, altered_pictured t reached pic);
        state = tt;
        tables = ap (λ z. stored z blocks properties) is;
        short = λ z. absurd (there.long z);
      }

      pub alter_undone : {B : Type 0} (q : Refusal V W) → AlterJudged {B = B} (Err q) → (old : Entry (Pair SetRow (Pair X (Pair X Y)))) → slice_get rules (row_at g f p) ≡ Some old
          → (end : List (Entry (Pair SetRow (Pair X (Pair X Y))))) → end ≡ set rules-after (row_at g f p) old
          → Tried ka kr {B = B} g (stored rules blocks properties) (Alter f p rule) l (λ x. Done) (Err q) g (stored end blocks properties)
      alter_undone {B} q judged old kept end undone =
          let back = undone ∙ ap (λ z. set z (row_at g f p) old) is ∙ undo_set rules (row_at g f p) (rule_entry ka.plain kr.plain rule) old kept in
          tried_refused ka kr (Alter f p rule) l (λ x. Done) g g (stored rules blocks properties) (stored end blocks properties) there.long q refl (ap (λ z. stored z blocks properties) back)
          (λ t reached pic. alter_right t reached pic {B = B} (Err q) judged)

    -- lift
    module _ (f p : ℕ) (there : There g l f (list_length g f) p) (long : l.rules ≡ length rules)
        (is : rules-after ≡ row_out (rule_count g) (row_at g f p) rules)
        (passes : (s : Stored X Y) (t : Tree A R) → Reached {V = V} {W = W} ka.holds kr.holds t → Pictures ka.plain kr.plain g s t → Passed ka.holds kr.holds t (Lift f p) l 10) where
      abbrev LiftJudged : {B : Type 0} → Result B (Refusal V W) → Type 0
      LiftJudged r =
          (t : Tree A R) (rs : List (Rule A R)) → Stands {V = V} {W = W} ka kr g properties f t → take (list_length g f - 1) (drop (start_of (lengths_of g.lists) f) rules-after) ≡ map (rule_entry ka.plain kr.plain) rs
          → EditJudged ka.holds kr.holds t rs f r

      lifted_rows : take (rule_count g - 1) rules-after ≡ remove (take (rule_count g) rules) (row_at g f p)
      lifted_rows =
          let fits = rows_within g l there.long f in
          let at = there.position in
          ap (take (rule_count g - 1)) is ∙ take_row_out (rule_count g) (row_at g f p) rules (omega arith) (omega arith)

      module _ (t : Tree A R) (reached : Reached {V = V} {W = W} ka.holds kr.holds t) (pic : Pictures ka.plain kr.plain g (stored rules blocks properties) t) where
        lifted_at : p < length (rules_of t f)
        lifted_at = let size = laid_length pic.lists f in let at = there.position in omega arith

        lift_right : {B : Type 0} (r : Result B (Refusal V W)) → LiftJudged r → Right ka.holds kr.holds t (Lift f p) l (answered (λ x. Done) r)
        lift_right r judged =
            let inside = in_lists (stored rules blocks properties) t reached pic f there.firewall in
            thin_right (Lift f p) f (list_length g f - 1) there.firewall passes t reached pic (remove (rules_of t f) p)
            (lifted_list pic.lists f inside p rules-after lifted_at lifted_rows) refl (λ n g k b. b) (λ n k b. b) (λ k x. x) (λ k x. x) (λ x. x.2) r judged

        lifted_pictured : (h : State A R) → Relisted g h → (done : Bool) → Decides done (0 < list_length g f)
            → lengths_of h.lists ≡ cond done (set (lengths_of g.lists) f (list_length g f - 1)) (lengths_of g.lists)
            → Pictures ka.plain kr.plain h (stored rules-after blocks properties) (after {V = V} {W = W} t (Lift f p))
        lifted_pictured h same done some shrunk =
            let inside = in_lists (stored rules blocks properties) t reached pic f there.firewall in
            let at = there.position in
            let was = some.1 (omega arith) in
            let ls = set t.lists f (remove (rules_of t f) p) in
            let sizes = shrunk ∙ ap (λ b. cond b (set (lengths_of g.lists) f (list_length g f - 1)) (lengths_of g.lists)) was in
            pictured t h ls pic same (subst (λ ns. Laid (rule_entry ka.plain kr.plain) ns rules-after ls) (sym sizes) (laid_lifted pic.lists f inside p rules-after lifted_at lifted_rows))

      pub lift_done : {B : Type 0} (x : B) → LiftJudged (Ok x) → (h : State A R) → Relisted g h → (done : Bool) → Decides done (0 < list_length g f)
          → lengths_of h.lists ≡ cond done (set (lengths_of g.lists) f (list_length g f - 1)) (lengths_of g.lists)
          → Tried ka kr g (stored rules blocks properties) (Lift f p) l (λ x. Done) (Ok x) h (stored rules-after blocks properties)
      lift_done x judged h same done some shrunk = record {
        turns = λ t reached pic. (lift_right t reached pic (Ok x) judged, lifted_pictured t reached pic h same done some shrunk);
        state = tt;
        tables = ap (λ z. stored z blocks properties) is;
        short = λ z. absurd (there.long z);
      }

      pub lift_undone : {B : Type 0} (q : Refusal V W) → LiftJudged {B = B} (Err q) → (row : Entry (Pair SetRow (Pair X (Pair X Y)))) → slice_get rules (row_at g f p) ≡ Some row
          → (end : List (Entry (Pair SetRow (Pair X (Pair X Y))))) → end ≡ row_in (rule_count g - 1) (row_at g f p) row rules-after
          → Tried ka kr {B = B} g (stored rules blocks properties) (Lift f p) l (λ x. Done) (Err q) g (stored end blocks properties)
      lift_undone {B} q judged row kept end undone =
          let fits = rows_within g l there.long f in
          let at = there.position in
          let back = undone ∙ ap (row_in (rule_count g - 1) (row_at g f p) row) is ∙ undo_out (rule_count g) (row_at g f p) rules (omega arith) (omega arith) row kept in
          tried_refused ka kr (Lift f p) l (λ x. Done) g g (stored rules blocks properties) (stored end blocks properties) there.long q refl (ap (λ z. stored z blocks properties) back)
          (λ t reached pic. lift_right t reached pic {B = B} (Err q) judged)
