-- Properties that stand, and are taken away.
use Rattle.std.proofs.Common.{◌≡◌, ℕ, ◌+◌, ◌-◌, ◌<◌, ◌≤◌, Bool, cond, List, [], ◌∷◌, ◌++◌, map, length, take, set, Decides, sym, refl, ap, ◌∙◌, subst, arith}
use mathlib.Core.List.{map-append}
use Rattle.std.specs.List.{remove}
use Rattle.std.proofs.lemmas.List.Edits.{length-remove}
use Rattle.std.proofs.lemmas.List.{length_push, take_more_set}
use Rattle.kinds.specs.declared.kind.Kind.{Ghosts}
use Rattle.model.specs.Limits.{max_properties}
use Rattle.model.specs.Properties.{Kept, BreaksFirst}
use Rattle.model.specs.Record.{Right}
use Rattle.model.specs.Refusals.{IsTooShort}
use Rattle.model.specs.Tree.{Tree, with_properties}
use Rattle.model.specs.declared.answers.Answer.TheVariants.{Done, Refused}
use Rattle.model.specs.declared.answers.Lent.{Lent}
use Rattle.model.specs.declared.answers.Refusal.{Refusal}
use Rattle.model.specs.declared.answers.Refusal.TheVariants.{NoSuch, Full, Breaks}
use Rattle.model.specs.declared.calls.Call.{Call}
use Rattle.model.specs.declared.calls.Call.TheVariants.{Stand, Withdraw}
use Rattle.model.specs.declared.rules.Packet.{Packet}
use Rattle.model.specs.declared.rules.Property.{Property}
use Rattle.model.proofs.Meanings.{breaks_in_carry}
use Rattle.tables.specs.Rows.{row_out}
use Rattle.tables.proofs.Rows.{take_row_out}
use Rattle.lists.proofs.Between.{map_removed}
use Rattle.checks.specs.Rows.{property_row}
use Rattle.checks.specs.declared.rows.PropertyRow.{PropertyRow}
use Rattle.state.specs.Picture.{Pictures}
use Rattle.state.specs.Rows.{Stored}
use Rattle.state.specs.declared.state.State.{State}
use Rattle.state.proofs.Lent.{lent_enough}
use Rattle.state.proofs.Order.{Below, below_one, more, none, refuse}
use Rattle.state.proofs.Tries.{chosen}
use Rattle.offers.specs.Offers.{Fits, Misfits}
use Rattle.offers.proofs.Asking.{NowhereBetween, nowhere_there, nowhere_here, misfit_right, fits_below}

-- the table of properties after one is taken out
pub withdraw_rows : {A R X Y : Type 0} (g : State A R) (n : ℕ) (l : Lent) → (IsTooShort l → ⊥) → (g.property_count ≤ n → ⊥) → (before after : List (PropertyRow X Y)) → l.properties ≡ length before
    → (r : Bool) → Decides r ((n < g.property_count) × (g.property_count ≤ length before)) → after ≡ cond r (row_out g.property_count n before) before → after ≡ row_out g.property_count n before
withdraw_rows g n l long there before after size r tells next =
    let few = g.properties in
    let enough = lent_enough l long in
    chosen r (row_out g.property_count n before) before after tells (omega arith, omega arith) next

module _ {A R V W X Y : Type 0} (ka : Ghosts A V X) (kr : Ghosts R W Y) (g : State A R) (s : Stored X Y) (t : Tree A R) (pic : Pictures ka.plain kr.plain g s t) (l : Lent) (long : IsTooShort l → ⊥) where
  module _ (n : ℕ) where
    abbrev out : Call A R V W
    out = Withdraw n

    out_two : Below ka.holds kr.holds t out l 2
    out_two = more ka.holds kr.holds t out l 1 (below_one ka.holds kr.holds t out l) long

    pub withdraw_nothing : g.property_count ≤ n → Right ka.holds kr.holds t out l (Refused NoSuch)
    withdraw_nothing past = refuse ka.holds kr.holds t out l NoSuch out_two (let count = pic.property_count in omega arith)

    module _ (there : g.property_count ≤ n → ⊥) where
      pub withdraw_right : Right ka.holds kr.holds t out l Done
      withdraw_right =
          let up = more ka.holds kr.holds t out l in
          let three = up 2 out_two (λ x. there (let count = pic.property_count in omega arith)) in
          let eight = up 7 (up 6 (up 5 (up 4 (up 3 three (λ x. x)) (λ x. x)) (λ x. x tt)) (λ x. x.1)) (λ x. x) in
          let all = up 12 (up 11 (up 10 (up 9 (up 8 eight (λ x. x.1)) (λ x. x.1)) (λ x. x.1)) (λ x. x.2)) (λ x. x.3) in
          (none ka.holds kr.holds t out l all, refl)

      pub withdraw_count : g.property_count - 1 ≡ length (remove t.properties n)
      withdraw_count =
          let count = pic.property_count in
          omega (arith, length-remove t.properties n (omega arith))

      pub withdraw_pictures : (after : List (PropertyRow X Y)) → g.property_count ≤ length s.properties → after ≡ row_out g.property_count n s.properties → take (g.property_count - 1) after ≡ map (property_row ka.plain kr.plain) (remove t.properties n)
      withdraw_pictures after size is =
          ap (take (g.property_count - 1)) is ∙ take_row_out g.property_count n s.properties (omega arith) size
          ∙ ap (λ ps. remove ps n) pic.properties ∙ sym (map_removed (property_row ka.plain kr.plain) t.properties n)

module _ {A R V W : Type 0} (addr : A → V → Type 0) (rests : R → W → Type 0) (t : Tree A R) (ps : List (Property A R)) (p : Property A R) where
  -- what stands does not change what breaks a property
  pub breaks_with : (f : ℕ) (k : Packet V W) → BreaksFirst addr rests t p f k → BreaksFirst addr rests (with_properties t ps) p f k
  breaks_with f k b = record {
    hops = b.hops;
    place = b.place;
    hop = b.hop;
    route = b.route;
    first = record {
      here = b.first.here;
      fit = (b.first.fit.0, breaks_in_carry addr rests (with_properties t ps) t p b.hop b.first.fit.0 refl b.first.fit.1);
      before = λ j h less at broken. b.first.before j h less at (broken.0, breaks_in_carry addr rests t (with_properties t ps) p h broken.0 refl broken.1);
    };
    named = b.named;
    breaks = breaks_in_carry addr rests (with_properties t ps) t p b.hop k refl b.breaks;
  }

  pub kept_with : Kept addr rests t p → (f : ℕ) (k : Packet V W) → BreaksFirst addr rests (with_properties t ps) p f k → ⊥
  kept_with kept f k b = kept f k (record {
    hops = b.hops;
    place = b.place;
    hop = b.hop;
    route = b.route;
    on = b.first.here;
    named = b.named;
    breaks = breaks_in_carry addr rests t (with_properties t ps) p b.hop k refl b.breaks;
  })

-- the table of properties after one is written behind the used rows
pub stand_rows : {A R X Y : Type 0} (g : State A R) (l : Lent) → (IsTooShort l → ⊥) → (max_properties < g.property_count + 1 → ⊥) → (before after : List (PropertyRow X Y)) → l.properties ≡ length before
    → (row new : PropertyRow X Y) → row ≡ new → (r : Bool) → Decides r ((g.property_count < g.property_count + 1) × (g.property_count + 1 ≤ length before)) → after ≡ cond r (set before g.property_count row) before → after ≡ set before g.property_count new
stand_rows g l long room before after size row new is r tells next =
    let enough = lent_enough l long in
    chosen r (set before g.property_count row) before after tells (omega arith, omega arith) next ∙ ap (set before g.property_count) is

module _ {A R V W X Y : Type 0} (ka : Ghosts A V X) (kr : Ghosts R W Y) (g : State A R) (s : Stored X Y) (t : Tree A R) (pic : Pictures ka.plain kr.plain g s t) (p : Property A R) (l : Lent) (long : IsTooShort l → ⊥) where
  abbrev stand : Call A R V W
  stand = Stand p

  stand_two : Below ka.holds kr.holds t stand l 2
  stand_two = more ka.holds kr.holds t stand l 1 (below_one ka.holds kr.holds t stand l) long

  pub stand_nowhere : NowhereBetween ka kr g s t pic p stand l → Right ka.holds kr.holds t stand l (Refused NoSuch)
  stand_nowhere none = refuse ka.holds kr.holds t stand l NoSuch stand_two (nowhere_there ka kr g s t pic p stand l none)

  module _ (between : NowhereBetween ka kr g s t pic p stand l → ⊥) where
    stand_four : Below ka.holds kr.holds t stand l 4
    stand_four = more ka.holds kr.holds t stand l 3 (more ka.holds kr.holds t stand l 2 stand_two (λ x. between (nowhere_here ka kr g s t pic p stand l x))) (λ x. x)

    pub stand_full : max_properties < g.property_count + 1 → Right ka.holds kr.holds t stand l (Refused Full)
    stand_full full = refuse ka.holds kr.holds t stand l Full stand_four (let count = pic.property_count in omega arith)

    module _ (room : max_properties < g.property_count + 1 → ⊥) where
      stand_five : Below ka.holds kr.holds t stand l 5
      stand_five = more ka.holds kr.holds t stand l 4 stand_four (λ x. room (let count = pic.property_count in omega arith))

      pub stand_misfits : (q : Refusal V W) → Misfits ka.holds kr.holds t p q → Right ka.holds kr.holds t stand l (Refused q)
      stand_misfits = misfit_right ka kr g s t pic p stand l stand_five refl (λ b x. x) (λ h. h) (λ h. h)

      module _ (fits : Fits ka.holds kr.holds t p) where
        stand_twelve : Below ka.holds kr.holds t stand l 12
        stand_twelve =
            let up = more ka.holds kr.holds t stand l in
            up 11 (up 10 (fits_below ka kr g s t pic p stand l stand_five refl (λ b x. x) (λ h. h) (λ h. h) fits) (λ x. x.1)) (λ x. x.2)

        pub stand_breaks : (q : Refusal V W) (f : ℕ) (k : Packet V W) → q ≡ Breaks g.property_count f k → BreaksFirst ka.holds kr.holds t p f k → Right ka.holds kr.holds t stand l (Refused q)
        stand_breaks q f k is b =
            subst (λ z. Right ka.holds kr.holds t stand l (Refused z)) (sym is) (refuse ka.holds kr.holds t stand l (Breaks g.property_count f k) stand_twelve (pic.property_count, breaks_with ka.holds kr.holds t (t.properties ++ (p ∷ [])) p f k b))

        pub stand_right : Kept ka.holds kr.holds t p → Right ka.holds kr.holds t stand l Done
        stand_right kept =
            (none ka.holds kr.holds t stand l (more ka.holds kr.holds t stand l 12 stand_twelve (λ x. kept_with ka.holds kr.holds t (t.properties ++ (p ∷ [])) p kept x.1 x.2 x.3.1)), refl)

      pub stand_pictures : (after : List (PropertyRow X Y)) → l.properties ≡ length s.properties → after ≡ set s.properties g.property_count (property_row ka.plain kr.plain p) → take (g.property_count + 1) after ≡ map (property_row ka.plain kr.plain) (t.properties ++ (p ∷ []))
      stand_pictures after size is =
          let enough = lent_enough l long in
          ap (take (g.property_count + 1)) is ∙ take_more_set s.properties g.property_count (property_row ka.plain kr.plain p) (omega arith)
          ∙ ap (λ ps. ps ++ (property_row ka.plain kr.plain p ∷ [])) pic.properties ∙ sym (map-append (property_row ka.plain kr.plain) t.properties (p ∷ []))

      pub stand_count : g.property_count + 1 ≡ length (t.properties ++ (p ∷ []))
      stand_count = ap (λ n. n + 1) pic.property_count ∙ sym (length_push t.properties p)
