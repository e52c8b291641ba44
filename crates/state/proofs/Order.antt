-- Down the refusal table, one number after the other.
use Rattle.std.proofs.Common.{ℕ, zero, suc, ◌+◌, ◌<◌, subst, arith, MatchOption}
use native.Mathlib.Decide.{ℕ_discrete}
use Rattle.model.specs.Properties.{IsSourceAstray, IsDestinationAstray}
use Rattle.model.specs.Record.{Right}
use Rattle.model.specs.Refusals.{number, Applies, IsTooShort, NamesNoSuch, HasBadInterface, Full, AllInside, Overlaps, Misjoined, LeavesUnmatched, WouldMisplace, WouldBreak, offered}
use Rattle.model.specs.Tree.{Tree}
use Rattle.model.specs.declared.answers.Answer as answer
use Rattle.model.specs.declared.answers.Lent.{Lent}
use Rattle.model.specs.declared.answers.Refusal.{Refusal}
use Rattle.model.specs.declared.answers.Refusal.TheVariants.{TooShort, NoSuch, BadInterface, Full as IsFull, Outside, Overlap, Unjoined, SourceAstray, DestinationAstray, Unmatched, Misplaced, Breaks}
use Rattle.model.specs.declared.calls.Call.{Call}
use Rattle.model.specs.declared.rules.Packet.{Packet}
use Rattle.state.specs.Order.{Passed}

module _ {A R V W : Type 0} (addr : A → V → Type 0) (rests : R → W → Type 0) (t : Tree A R) (c : Call A R V W) (l : Lent) where
  -- a refusal with this number applies
  abbrev pub Cause : ℕ → Type 0
  Cause zero = ⊥
  Cause (suc zero) = IsTooShort l
  Cause (suc (suc zero)) = NamesNoSuch t c
  Cause (suc (suc (suc zero))) = HasBadInterface t c
  Cause (suc (suc (suc (suc zero)))) = Full t c
  Cause (suc (suc (suc (suc (suc zero))))) = AllInside addr rests t c → ⊥
  Cause (suc (suc (suc (suc (suc (suc zero)))))) = (b : ℕ) × Overlaps addr rests t c b
  Cause (suc (suc (suc (suc (suc (suc (suc zero))))))) = MatchOption (offered c) ⊥ (λ p. Misjoined t.shape p)
  Cause (suc (suc (suc (suc (suc (suc (suc (suc zero)))))))) = (a : V) × MatchOption (offered c) ⊥ (λ p. IsSourceAstray addr rests t p a)
  Cause (suc (suc (suc (suc (suc (suc (suc (suc (suc zero))))))))) = (a : V) × MatchOption (offered c) ⊥ (λ p. IsDestinationAstray addr rests t p a)
  Cause (suc (suc (suc (suc (suc (suc (suc (suc (suc (suc zero)))))))))) = (k : Packet V W) × LeavesUnmatched addr rests t c k
  Cause (suc (suc (suc (suc (suc (suc (suc (suc (suc (suc (suc zero))))))))))) = (n : ℕ) × (a : V) × WouldMisplace addr rests t c n a
  Cause (suc (suc (suc (suc (suc (suc (suc (suc (suc (suc (suc (suc zero)))))))))))) = (n : ℕ) × (f : ℕ) × (k : Packet V W) × WouldBreak addr rests t c n f k
  Cause (suc (suc (suc (suc (suc (suc (suc (suc (suc (suc (suc (suc (suc n))))))))))))) = ⊥

  pub cause : (q : Refusal V W) → Applies addr rests t c l q → Cause (number q)
  cause TooShort a = a
  cause NoSuch a = a
  cause BadInterface a = a
  cause IsFull a = a
  cause Outside a = a
  cause (Overlap b) a = (b, a)
  cause Unjoined a = a
  cause (SourceAstray v) a = (v, a)
  cause (DestinationAstray v) a = (v, a)
  cause (Unmatched k) a = (k, a)
  cause (Misplaced n v) a = (n, v, a)
  cause (Breaks n f k) a = (n, f, k, a)

  -- no number below n has a cause
  abbrev pub Below : ℕ → Type 0
  Below n = (k : ℕ) → k < n → Cause k → ⊥

  pub below_one : Below 1
  below_one zero less x = x
  below_one (suc k) less x = omega arith

  pub more : (n : ℕ) → Below n → (Cause n → ⊥) → Below (n + 1)
  more n below here k less x = elim (ℕ_discrete k n) [ yes same ↦ here (subst Cause same x) | no other ↦ below k (omega arith) x ]

  pub passed : (n : ℕ) → Below n → Passed addr rests t c l n
  passed n below q less a = below (number q) less (cause q a)

  -- a refusal that applies, where none before it does, is the right answer
  pub refuse : (q : Refusal V W) → Below (number q) → Applies addr rests t c l q → Right addr rests t c l (answer.TheVariants.Refused q)
  refuse q below a = (a, passed (number q) below)

  number_max : (q : Refusal V W) → number q < 13
  number_max TooShort = omega arith
  number_max NoSuch = omega arith
  number_max BadInterface = omega arith
  number_max IsFull = omega arith
  number_max Outside = omega arith
  number_max (Overlap b) = omega arith
  number_max Unjoined = omega arith
  number_max (SourceAstray v) = omega arith
  number_max (DestinationAstray v) = omega arith
  number_max (Unmatched k) = omega arith
  number_max (Misplaced n v) = omega arith
  number_max (Breaks n f k) = omega arith

  -- no refusal applies at all
  pub none : Below 13 → (q : Refusal V W) → Applies addr rests t c l q → ⊥
  none below q a = below (number q) (number_max q) (cause q a)
