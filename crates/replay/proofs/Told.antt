-- What a call does to tables of which only the first rows are lent to it.
use Rattle.std.proofs.Common.{◌≡◌, ℕ, ◌≤◌, List, [], ◌∷◌, ◌++◌, IfSome, MatchOption, map, length, take, drop, inl, inr, sym, ap, ◌∙◌, subst, subst₂, arith, take-take, length-take}
use lib.ListN.{length-map}
use Rattle.std.proofs.lemmas.List.{take-append-le, take-append-drop}
use Rattle.kinds.specs.declared.kind.Kind.{Ghosts}
use Rattle.kinds.specs.Words.{Inhabited}
use Rattle.checks.specs.Rows.{block_entry, property_row}
use Rattle.lists.proofs.Bounds.{sum_max}
use Rattle.lists.proofs.Laid.{laid_within}
use Rattle.model.specs.Record.{refused, plain}
use Rattle.model.specs.Refusals.{IsTooShort}
use Rattle.model.specs.declared.answers.Answer.{Answer}
use Rattle.model.specs.declared.answers.Answer.TheVariants.{Refused}
use Rattle.model.specs.declared.answers.Lent.{Lent}
use Rattle.model.specs.declared.answers.Recorded.{Recorded}
use Rattle.model.specs.declared.answers.Refusal.TheVariants.{TooShort}
use Rattle.model.specs.declared.calls.Call.{Call}
use Rattle.model.proofs.Guarding.{right_more}
use Rattle.state.specs.Picture.{Pictures}
use Rattle.register.specs.Promise.{Tells, Promise}
use Rattle.state.specs.Rows.{Stored, stored, rule_count, stored_after}
use Rattle.register.specs.declared.register.Register.{Register}
use Rattle.state.proofs.Lent.{Enough, short_or_enough}
use Rattle.state.proofs.Order.{below_one, refuse}
use Rattle.replay.specs.Replay.{Longer, tables_in}
use Rattle.replay.specs.declared.stores.Stores.{Stores}

-- two states of the tables with the same used rows
pub record SameUsed {A R X Y : Type 0} (g : Register A R) (s z : Stored X Y) : Type 0 where
  pub rules : take (rule_count g.state) z.rules ≡ take (rule_count g.state) s.rules
  pub blocks : take g.state.block_count z.blocks ≡ take g.state.block_count s.blocks
  pub properties : take g.state.property_count z.properties ≡ take g.state.property_count s.properties

-- the rows that are lent, and the tables once these rows are p
abbrev pub lent_rows : {X Y : Type 0} → Lent → Stored X Y → Stored X Y
lent_rows l s = stored (take l.rules s.rules) (take l.blocks s.blocks) (take l.properties s.properties)

abbrev pub rejoined : {X Y : Type 0} → Lent → Stored X Y → Stored X Y → Stored X Y
rejoined l s p = stored (p.rules ++ drop l.rules s.rules) (p.blocks ++ drop l.blocks s.blocks) (p.properties ++ drop l.properties s.properties)

module _ {A R X Y : Type 0} (g : Register A R) (l : Lent) (enough : Enough l) where
  lent_used : (s : Stored X Y) → SameUsed g s (lent_rows l s)
  lent_used s = record {
    rules = let few = sum_max g.state.lists in take-take (rule_count g.state) l.rules s.rules (omega (arith, few, enough.rules));
    blocks = take-take g.state.block_count l.blocks s.blocks (omega (arith, g.state.blocks, enough.blocks));
    properties = take-take g.state.property_count l.properties s.properties (omega (arith, g.state.properties, enough.properties));
  }

  rejoined_used : (s p : Stored X Y) → length p.rules ≡ l.rules → length p.blocks ≡ l.blocks → length p.properties ≡ l.properties → SameUsed g p (rejoined l s p)
  rejoined_used s p rules blocks properties = record {
    rules = let few = sum_max g.state.lists in take-append-le (rule_count g.state) p.rules (drop l.rules s.rules) (omega (arith, few, enough.rules, rules));
    blocks = take-append-le g.state.block_count p.blocks (drop l.blocks s.blocks) (omega (arith, g.state.blocks, enough.blocks, blocks));
    properties = take-append-le g.state.property_count p.properties (drop l.properties s.properties) (omega (arith, g.state.properties, enough.properties, properties));
  }

rejoined_same : {X Y : Type 0} (l : Lent) (s : Stored X Y) → rejoined l s (lent_rows l s) ≡ s
rejoined_same l s = λ i. stored (take-append-drop l.rules s.rules i) (take-append-drop l.blocks s.blocks i) (take-append-drop l.properties s.properties i)

module _ {A R V W X Y : Type 0} (ka : Ghosts A V X) (kr : Ghosts R W Y) where
  pub told_too : (g : Register A R) (s z : Stored X Y) (x : A) (y : R) (es : List (Recorded A R V W)) → SameUsed g s z → Tells ka kr x y es g s → Tells ka kr x y es g z
  told_too g s z x y es same told = record {
    pictures = record {
      addresses = told.pictures.addresses;
      rests = told.pictures.rests;
      shape = told.pictures.shape;
      lists = record { lengths = told.pictures.lists.lengths; rows = same.rules ∙ told.pictures.lists.rows };
      block_count = told.pictures.block_count;
      blocks = same.blocks ∙ told.pictures.blocks;
      property_count = told.pictures.property_count;
      properties = same.properties ∙ told.pictures.properties;
    };
    lawful = told.lawful;
  }

  module _ (tell : (x : A) (v : V) → Dec (ka.holds x v)) (some : (x : A) → Inhabited (ka.holds x)) (g h : Register A R) (s p : Stored X Y) (c : Call A R V W) (l : Lent)
      (x : A) (y : R) (es : List (Recorded A R V W)) (told : Tells ka kr x y es g s) where
    -- slices that are too short change nothing
    told_short : IsTooShort l → Tells ka kr x y (es ++ (record { call = c; lent = l; answer = Refused TooShort } ∷ [])) g s
    told_short short =
        let t = plain x y es in
        let right = refuse ka.holds kr.holds t c l TooShort (below_one ka.holds kr.holds t c l) short in
        let next = right_more ka.holds kr.holds tell some x y es (record { call = c; lent = l; answer = Refused TooShort }) told.lawful right in
        record { pictures = subst (Pictures ka.plain kr.plain g.state s) (sym next.1) told.pictures; lawful = next.0 }

    -- a call to which the first rows are lent goes on from what all of them tell
    pub told_further : (a : Answer V W) → Promise ka kr g (lent_rows l s) c l a h p → length p.rules ≡ l.rules → length p.blocks ≡ l.blocks → length p.properties ≡ l.properties
        → Tells ka kr x y (es ++ (record { call = c; lent = l; answer = a } ∷ [])) h (rejoined l s p)
    told_further a promise rules blocks properties = elim (short_or_enough l) [
      | inl short ↦
          let is = promise.short short in
          let kept = subst (λ b. IfSome (refused b) (λ q. h ≡ g)) is promise.kept in
          let rows = subst (λ b. MatchOption (refused b) (p ≡ stored_after ka.plain kr.plain g.state (lent_rows l s) c) (λ q. p ≡ lent_rows l s)) is promise.rows in
          let same : rejoined l s p ≡ s = ap (rejoined l s) rows ∙ rejoined_same l s in
          subst (λ b. Tells ka kr x y (es ++ (record { call = c; lent = l; answer = b } ∷ [])) h (rejoined l s p)) (sym is)
          (subst₂ (λ k z. Tells ka kr x y (es ++ (record { call = c; lent = l; answer = Refused TooShort } ∷ [])) k z) (sym kept) (sym same) (told_short short))
      | inr enough ↦
          let before = told_too g s (lent_rows l s) x y es (lent_used g l enough s) told in
          told_too h p (rejoined l s p) x y _ (rejoined_used h l enough s p rules blocks properties) (promise.tells x y es before)
    ]

-- where as many rows as there are things stand for them, so many rows are there
rows_there : {T U : Type 0} (row : T → U) (n : ℕ) (rows : List U) (things : List T) → n ≡ length things → take n rows ≡ map row things → n ≤ length rows
rows_there row n rows things count is =
    let size = sym (length-take n rows) ∙ ap length is ∙ length-map things row in
    omega (arith, size, count)

module _ {A R V W X Y : Type 0} (ka : Ghosts A V X) (kr : Ghosts R W Y) (g : Register A R) (x : A) (y : R) (es : List (Recorded A R V W)) where
  -- tables with more rows behind their own tell the same
  pub told_longer : (s z : Stores X Y) → Longer s z → Tells ka kr x y es g (tables_in s) → Tells ka kr x y es g (tables_in z)
  told_longer s z longer told =
      let p = told.pictures in
      let t = plain x y es in
      let blocks = rows_there (block_entry ka.plain) g.state.block_count s.blocks.items t.blocks p.block_count p.blocks in
      let properties = rows_there (property_row ka.plain kr.plain) g.state.property_count s.properties.items t.properties p.property_count p.properties in
      told_too ka kr g (tables_in s) (tables_in z) x y es (record {
        rules = longer.rules (rule_count g.state) (laid_within p.lists);
        blocks = longer.blocks g.state.block_count blocks;
        properties = longer.properties g.state.property_count properties;
      }) told
