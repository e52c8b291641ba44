-- What every call of the register promises.
use Rattle.std.specs.Prelude.{◌≡◌, List, [], ◌∷◌, ◌++◌, IfSome, MatchOption}
use Rattle.kinds.specs.declared.kind.Kind.{Ghosts}
use Rattle.model.specs.Record.{refused, plain, Lawful}
use Rattle.model.specs.Refusals.{IsTooShort}
use Rattle.model.specs.declared.answers.Answer.{Answer}
use Rattle.model.specs.declared.answers.Answer.TheVariants.{Refused}
use Rattle.model.specs.declared.answers.Lent.{Lent}
use Rattle.model.specs.declared.answers.Recorded.{Recorded}
use Rattle.model.specs.declared.answers.Refusal.TheVariants.{TooShort}
use Rattle.model.specs.declared.calls.Call.{Call}
use Rattle.state.specs.Picture.{Pictures}
use Rattle.state.specs.Rows.{Stored, stored_after}
use Rattle.register.specs.declared.register.Register.{Register}

module _ {A R V W X Y : Type 0} (ka : Ghosts A V X) (kr : Ghosts R W Y) where
  -- register and tables stand as the record leaves them, and the record is lawful: each of its answers is right in the plain tree
  -- just before it, and after each entry every standing property is well placed and no packet breaks it
  pub record Tells (a : A) (r : R) (es : List (Recorded A R V W)) (g : Register A R) (s : Stored X Y) : Type 0 where
    pub pictures : Pictures ka.plain kr.plain g.state s (plain a r es)
    pub lawful : Lawful ka.holds kr.holds a r es

  -- what a call does to register g and tables s, with these lengths lent: it answers a, and leaves h and z
  pub record Promise (g : Register A R) (s : Stored X Y) (c : Call A R V W) (l : Lent) (a : Answer V W) (h : Register A R) (z : Stored X Y) : Type 0 where
    -- for every record: where they stand as it leaves them, they stand then as it leaves them with this entry added, and it is lawful still
    pub tells : (x : A) (y : R) (es : List (Recorded A R V W)) → Tells x y es g s → Tells x y (es ++ (record { call = c; lent = l; answer = a } ∷ [])) h z
    -- whatever the tables are: a refusal leaves the register as it was
    pub kept : IfSome (refused a) (λ q. h ≡ g)
    -- and the tables; any other answer leaves them so, row by row
    pub rows : MatchOption (refused a) (z ≡ stored_after ka.plain kr.plain g.state s c) (λ q. z ≡ s)
    -- slices that are too short are always refused as that
    pub short : IsTooShort l → a ≡ Refused TooShort
