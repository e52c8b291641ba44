-- Which sorts of calls a refusal can have.
use Rattle.std.proofs.Common.{ℕ, [], ◌∷◌, refl, inl, inr}
use Rattle.examples.specs.Samples.{Only, Sorts}
use Rattle.model.specs.declared.answers.Refusal.TheVariants.{BadInterface, Full, Outside, Overlap, Unjoined, SourceAstray, DestinationAstray, Unmatched, Misplaced, Breaks}
use Rattle.model.specs.declared.calls.Call.TheVariants.{Attach, Branch, Give, Take, Place, Alter, Lift, Stand, Withdraw, Ask, Send}
use Rattle.model.specs.declared.rules.Packet.{Packet}

only_interfaces : Only BadInterface (1 ∷ (2 ∷ []))
only_interfaces t (Attach d i j w) y = inl refl
only_interfaces t (Branch f i) y = inr (inl refl)
only_interfaces t (Give d x) y = absurd y
only_interfaces t (Take e) y = absurd y
only_interfaces t (Place f p r) y = absurd y
only_interfaces t (Alter f p r) y = absurd y
only_interfaces t (Lift f p) y = absurd y
only_interfaces t (Stand p) y = absurd y
only_interfaces t (Withdraw n) y = absurd y
only_interfaces t (Ask p) y = absurd y
only_interfaces t (Send h) y = absurd y

only_full : Only Full (1 ∷ (2 ∷ (3 ∷ (5 ∷ (8 ∷ [])))))
only_full t (Attach d i j w) y = inl refl
only_full t (Branch f i) y = inr (inl refl)
only_full t (Give d x) y = inr (inr (inl refl))
only_full t (Take e) y = absurd y
only_full t (Place f p r) y = inr (inr (inr (inl refl)))
only_full t (Alter f p r) y = absurd y
only_full t (Lift f p) y = absurd y
only_full t (Stand p) y = inr (inr (inr (inr (inl refl))))
only_full t (Withdraw n) y = absurd y
only_full t (Ask p) y = absurd y
only_full t (Send h) y = absurd y

only_outside : Only Outside (3 ∷ (5 ∷ (6 ∷ (8 ∷ (10 ∷ (11 ∷ []))))))
only_outside t (Attach d i j w) y = absurd (y tt)
only_outside t (Branch f i) y = absurd (y tt)
only_outside t (Give d x) y = inl refl
only_outside t (Take e) y = absurd (y tt)
only_outside t (Place f p r) y = inr (inl refl)
only_outside t (Alter f p r) y = inr (inr (inl refl))
only_outside t (Lift f p) y = absurd (y tt)
only_outside t (Stand p) y = inr (inr (inr (inl refl)))
only_outside t (Withdraw n) y = absurd (y tt)
only_outside t (Ask p) y = inr (inr (inr (inr (inl refl))))
only_outside t (Send h) y = inr (inr (inr (inr (inr (inl refl)))))

only_overlap : (b : ℕ) → Only (Overlap b) (3 ∷ [])
only_overlap b t (Attach d i j w) y = absurd y
only_overlap b t (Branch f i) y = absurd y
only_overlap b t (Give d x) y = inl refl
only_overlap b t (Take e) y = absurd y
only_overlap b t (Place f p r) y = absurd y
only_overlap b t (Alter f p r) y = absurd y
only_overlap b t (Lift f p) y = absurd y
only_overlap b t (Stand p) y = absurd y
only_overlap b t (Withdraw n) y = absurd y
only_overlap b t (Ask p) y = absurd y
only_overlap b t (Send h) y = absurd y

only_unjoined : Only Unjoined (8 ∷ (10 ∷ []))
only_unjoined t (Attach d i j w) y = absurd y
only_unjoined t (Branch f i) y = absurd y
only_unjoined t (Give d x) y = absurd y
only_unjoined t (Take e) y = absurd y
only_unjoined t (Place f p r) y = absurd y
only_unjoined t (Alter f p r) y = absurd y
only_unjoined t (Lift f p) y = absurd y
only_unjoined t (Stand p) y = inl refl
only_unjoined t (Withdraw n) y = absurd y
only_unjoined t (Ask p) y = inr (inl refl)
only_unjoined t (Send h) y = absurd y

only_source : (a : ℕ) → Only (SourceAstray a) (8 ∷ (10 ∷ []))
only_source a t (Attach d i j w) y = absurd y
only_source a t (Branch f i) y = absurd y
only_source a t (Give d x) y = absurd y
only_source a t (Take e) y = absurd y
only_source a t (Place f p r) y = absurd y
only_source a t (Alter f p r) y = absurd y
only_source a t (Lift f p) y = absurd y
only_source a t (Stand p) y = inl refl
only_source a t (Withdraw n) y = absurd y
only_source a t (Ask p) y = inr (inl refl)
only_source a t (Send h) y = absurd y

only_destination : (a : ℕ) → Only (DestinationAstray a) (8 ∷ (10 ∷ []))
only_destination a t (Attach d i j w) y = absurd y
only_destination a t (Branch f i) y = absurd y
only_destination a t (Give d x) y = absurd y
only_destination a t (Take e) y = absurd y
only_destination a t (Place f p r) y = absurd y
only_destination a t (Alter f p r) y = absurd y
only_destination a t (Lift f p) y = absurd y
only_destination a t (Stand p) y = inl refl
only_destination a t (Withdraw n) y = absurd y
only_destination a t (Ask p) y = inr (inl refl)
only_destination a t (Send h) y = absurd y

only_unmatched : (k : Packet ℕ ℕ) → Only (Unmatched k) (6 ∷ (7 ∷ []))
only_unmatched k t (Attach d i j w) y = absurd y
only_unmatched k t (Branch f i) y = absurd y
only_unmatched k t (Give d x) y = absurd y
only_unmatched k t (Take e) y = absurd y
only_unmatched k t (Place f p r) y = absurd y
only_unmatched k t (Alter f p r) y = inl refl
only_unmatched k t (Lift f p) y = inr (inl refl)
only_unmatched k t (Stand p) y = absurd y
only_unmatched k t (Withdraw n) y = absurd y
only_unmatched k t (Ask p) y = absurd y
only_unmatched k t (Send h) y = absurd y

only_misplaced : (m : ℕ) (a : ℕ) → Only (Misplaced m a) (3 ∷ (4 ∷ []))
only_misplaced m a t (Attach d i j w) y = absurd y
only_misplaced m a t (Branch f i) y = absurd y
only_misplaced m a t (Give d x) y = inl refl
only_misplaced m a t (Take e) y = inr (inl refl)
only_misplaced m a t (Place f p r) y = absurd y
only_misplaced m a t (Alter f p r) y = absurd y
only_misplaced m a t (Lift f p) y = absurd y
only_misplaced m a t (Stand p) y = absurd y
only_misplaced m a t (Withdraw n) y = absurd y
only_misplaced m a t (Ask p) y = absurd y
only_misplaced m a t (Send h) y = absurd y

only_breaks : (m : ℕ) (g : ℕ) (k : Packet ℕ ℕ) → Only (Breaks m g k) (5 ∷ (6 ∷ (7 ∷ (8 ∷ []))))
only_breaks m g k t (Attach d i j w) y = absurd y
only_breaks m g k t (Branch f i) y = absurd y
only_breaks m g k t (Give d x) y = absurd y
only_breaks m g k t (Take e) y = absurd y
only_breaks m g k t (Place f p r) y = inl refl
only_breaks m g k t (Alter f p r) y = inr (inl refl)
only_breaks m g k t (Lift f p) y = inr (inr (inl refl))
only_breaks m g k t (Stand p) y = inr (inr (inr (inl refl)))
only_breaks m g k t (Withdraw n) y = absurd y
only_breaks m g k t (Ask p) y = absurd y
only_breaks m g k t (Send h) y = absurd y

pub sorts : Sorts
sorts = record {
  interfaces = only_interfaces;
  full = only_full;
  outside = only_outside;
  overlap = only_overlap;
  unjoined = only_unjoined;
  source = only_source;
  destination = only_destination;
  unmatched = only_unmatched;
  misplaced = only_misplaced;
  breaks = only_breaks;
}
