-- What is proved of a call in every tree is its promise for every record.
use Rattle.std.proofs.Common.{◌≡◌, ℕ, List, [], ◌∷◌, ◌++◌, IfSome, Some, None, Ok, Err, Option, Result, sym, refl, subst, arith, MatchOption}
use Rattle.kinds.specs.declared.kind.Kind.{Ghosts}
use Rattle.kinds.specs.Words.{Inhabited}
use Rattle.model.specs.Record.{refused, plain}
use Rattle.model.specs.declared.answers.Answer.{Answer}
use Rattle.model.specs.declared.answers.Answer.TheVariants.{Refused}
use Rattle.model.specs.declared.answers.Lent.{Lent}
use Rattle.model.specs.declared.answers.Recorded.{Recorded}
use Rattle.model.specs.declared.answers.Refusal.{Refusal}
use Rattle.model.specs.declared.calls.Call.{Call}
use Rattle.model.proofs.Guarding.{right_more}
use Rattle.verdicts.specs.Passage.{passage_answer}
use Rattle.verdicts.specs.declared.passage.Stop.{Stop}
use Rattle.verdicts.specs.declared.route.Break.{Break}
use Rattle.state.specs.Picture.{Pictures, Turns, Tried, answered}
use Rattle.state.specs.Rows.{Stored, stored_after}
use Rattle.offers.specs.Asked.{asked_as}
use Rattle.register.specs.Answers.{Answers}
use Rattle.register.specs.Promise.{Tells, Promise}
use Rattle.register.specs.declared.register.Register.{Register}

-- the answers of ask and send refuse nothing
pub asked_plain : {V W : Type 0} (found : Option (Break V W)) → refused (asked_as found) ≡ None
asked_plain None = refl
asked_plain (Some b) = refl

pub sent_plain : {V W : Type 0} (p : Option Stop) → refused {V = V} {W = W} (passage_answer p) ≡ None
sent_plain None = refl
sent_plain (Some stop) = refl

module _ {A R V W X Y : Type 0} (ka : Ghosts A V X) (kr : Ghosts R W Y) (tell : (x : A) (v : V) → Dec (ka.holds x v)) (some : (x : A) → Inhabited (ka.holds x))
    (g h : Register A R) (s z : Stored X Y) (c : Call A R V W) (l : Lent) where
  -- the record that register and tables tell goes on by this entry
  pub tells_more : (a : Answer V W) → Turns ka kr g.state s c l a h.state z → (x : A) (y : R) (es : List (Recorded A R V W)) → Tells ka kr x y es g s → Tells ka kr x y (es ++ (record { call = c; lent = l; answer = a } ∷ [])) h z
  tells_more a turns x y es told =
      let did = turns (plain x y es) (x, y, es, told.lawful, refl) told.pictures in
      let next = right_more ka.holds kr.holds tell some x y es (record { call = c; lent = l; answer = a }) told.lawful did.0 in
      record { pictures = subst (Pictures ka.plain kr.plain h.state z) (sym next.1) did.1; lawful = next.0 }

  tried_promise : {B : Type 0} (say : B → Answer V W) (r : Result B (Refusal V W)) → ((x : B) → refused (say x) ≡ None) → Tried ka kr g.state s c l say r h.state z → Promise ka kr g s c l (answered say r) h z
  tried_promise say (Ok x) plainly tried = record {
    tells = tells_more (say x) tried.turns;
    kept = subst (λ o. IfSome o (λ q. h ≡ g)) (sym (plainly x)) tt;
    rows = subst (λ o. MatchOption o (z ≡ stored_after ka.plain kr.plain g.state s c) (λ q. z ≡ s)) (sym (plainly x)) tried.tables;
    short = λ e. let wrong = tried.short e in let k : ◌≡◌ {A = ℕ} 0 1 = cc in absurd (omega arith);
  }
  tried_promise say (Err q) plainly tried = record {
    tells = tells_more (Refused q) tried.turns;
    kept = λ i. record { state = tried.state i };
    rows = tried.tables;
    short = λ e. let is = tried.short e in cc;
  }

  -- the promise of a call, by what its inner function answered, and what is said of that
  pub promised : {B : Type 0} (say : B → Answer V W) → ((x : B) → refused (say x) ≡ None) → {says : B → Answer V W → Type 0} → ((x : B) (a : Answer V W) → says x a → a ≡ say x)
      → (r : Result B (Refusal V W)) (a : Answer V W) → Answers says r a → Tried ka kr g.state s c l say r h.state z → Promise ka kr g s c l a h z
  promised say plainly means (Ok x) a is tried = subst (λ b. Promise ka kr g s c l b h z) (sym (means x a is)) (tried_promise say (Ok x) plainly tried)
  promised say plainly means (Err e) a is tried = subst (λ b. Promise ka kr g s c l b h z) (sym is) (tried_promise say (Err e) plainly tried)
