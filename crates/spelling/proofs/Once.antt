-- A text is scanned in one way only.
use Rattle.std.proofs.Common.{◌≡◌, ℕ, List, ◌∷◌, drop, Ok, Err, Result, sym, refl, ap, ap₂, ◌∙◌, subst, inl, inr}
use Rattle.spelling.specs.Forms.{Spelled, DigitBefore, Explains, Only, Scanned}
use Rattle.spelling.specs.Letters.{IsMaskText, SetOf, ReadsSet, IsDecisionText, ReadsDecision}
use Rattle.spelling.specs.Numbers.{DigitFirst}
use Rattle.spelling.specs.Reads.{Reads, Means, ReadsForm}
use Rattle.model.specs.declared.rules.Decision.{Decision}
use Rattle.spelling.specs.declared.decision.NoDecision.{NoDecision}
use Rattle.spelling.specs.declared.fault.Fault.{Fault}
use Rattle.spelling.specs.declared.fault.Problem.{Problem}
use Rattle.spelling.specs.declared.fault.Problem.TheVariants.{Number, Region}
use Rattle.spelling.specs.declared.fault.NumberFault.TheVariants.{NoDigit, TooManyDigits, TooLarge}
use Rattle.spelling.specs.declared.fault.RegionFault.TheVariants.{Unfit, HostBits, LoAboveHi, Empty}
use Rattle.spelling.specs.declared.form.Mark.{Mark}
use Rattle.spelling.specs.declared.form.Numbers.{Numbers}
use Rattle.spelling.proofs.Back.{spells_once}
use Rattle.kinds.specs.declared.set.Set.{Set}
use Rattle.spelling.proofs.Meant.{set_text_right, set_once, decision_once}
use Rattle.spelling.proofs.Misfits.{right_fits, one_misfit}

same_fault : {X : Type 0} (f g : Fault) → f.problem ≡ g.problem → f.byte ≡ g.byte → ◌≡◌ {A = Result X Fault} (Err f) (Err g)
same_fault f g p b = let whole : f ≡ g = ap₂ (λ q i. record { problem = q; byte = i }) p b in ap Err whole

-- the three problems of a form, by the bytes before and at the place
data Form (text : List ℕ) (i : ℕ) (p : Problem) : Type 0 where
  none : p ≡ Number NoDigit → (DigitBefore text i → ⊥) → (DigitFirst (drop i text) → ⊥) → Form text i p
  many : p ≡ Number TooManyDigits → DigitFirst (drop i text) → Form text i p
  other : p ≡ Region Unfit → DigitBefore text i → (DigitFirst (drop i text) → ⊥) → Form text i p

form_of : (text : List ℕ) (i : ℕ) (p : Problem) → Explains text i p → Form text i p
form_of text i (Number NoDigit) e = none refl e.0 e.1
form_of text i (Number TooManyDigits) e = many refl e
form_of text i (Number TooLarge) e = absurd e
form_of text i (Region Unfit) e = other refl e.0 e.1
form_of text i (Region HostBits) e = absurd e
form_of text i (Region LoAboveHi) e = absurd e
form_of text i (Region Empty) e = absurd e

same_form : (text : List ℕ) (i : ℕ) (p q : Problem) → Form text i p → Form text i q → p ≡ q
same_form text i p q (none e b n) (none f c m) = e ∙ sym f
same_form text i p q (none e b n) (many f d) = absurd (n d)
same_form text i p q (none e b n) (other f d m) = absurd (b d)
same_form text i p q (many e d) (none f c m) = absurd (m d)
same_form text i p q (many e d) (many f c) = e ∙ sym f
same_form text i p q (many e d) (other f c m) = absurd (m d)
same_form text i p q (other e b n) (none f c m) = absurd (c b)
same_form text i p q (other e b n) (many f d) = absurd (n d)
same_form text i p q (other e b n) (other f c m) = e ∙ sym f

pub explained_once : (text : List ℕ) (i : ℕ) (p q : Problem) → Explains text i p → Explains text i q → p ≡ q
explained_once text i p q a b = same_form text i p q (form_of text i p a) (form_of text i q b)

pub scanned_once : {N : ℕ} (marks : List Mark) (text : List ℕ) (r q : Result (Numbers N) Fault) → Scanned marks text r → Scanned marks text q → r ≡ q
scanned_once {N} marks text (Ok n) (Ok m) a b =
    let same = spells_once marks (n.first ∷ n.later) (m.first ∷ m.later) text a b in
    let first : n.first ≡ m.first = cc in
    let later : n.later ≡ m.later = cc in
    let whole : n ≡ m = ap₂ (λ f l. record { first = f; later = l }) first later in
    ap Ok whole
scanned_once marks text (Ok n) (Err f) a b = absurd (right_fits (Spelled marks) text f.byte (n.first ∷ n.later, a) b.0)
scanned_once marks text (Err f) (Ok n) a b = absurd (right_fits (Spelled marks) text f.byte (n.first ∷ n.later, b) a.0)
scanned_once marks text (Err f) (Err g) a b =
    let byte = one_misfit (Spelled marks) text f.byte g.byte a.0 b.0 in
    let problem = explained_once text g.byte f.problem g.problem (subst (λ i. Explains text i f.problem) byte a.1) b.1 in
    same_fault f g problem byte

pub alone_scanned : {N : ℕ} (marks : List Mark) (text : List ℕ) (r : Result (Numbers N) Fault) → Scanned marks text r → Only (Scanned marks text) r
alone_scanned marks text r a = (a, λ q b. scanned_once marks text q r b a)

-- what a reader answers is one thing only, if that is so of what the right texts mean and of what is wrong with the others
reads_once : {X : Type 0} (L : List ℕ → Type 0) (explains : List ℕ → ℕ → Problem → Type 0) (means : List ℕ → Result X Problem → Type 0) (text : List ℕ)
    → ((r : Result X Problem) → means text r → L text) → ((i : ℕ) (p q : Problem) → explains text i p → explains text i q → p ≡ q)
    → ((r q : Result X Problem) → means text r → means text q → r ≡ q) → (r q : Result X Fault) → Reads L explains means text r → Reads L explains means text q → r ≡ q
reads_once {X} L explains means text right form once (Ok x) (Ok y) a b =
    let same : ◌≡◌ {A = Result X Problem} (Ok x) (Ok y) = once (Ok x) (Ok y) a b in ap Ok (let e : x ≡ y = cc in e)
reads_once L explains means text right form once (Ok x) (Err g) a (inl b) = absurd (right_fits L text g.byte (right (Ok x) a) b.0)
reads_once {X} L explains means text right form once (Ok x) (Err g) a (inr b) =
    let same : ◌≡◌ {A = Result X Problem} (Ok x) (Err g.problem) = once (Ok x) (Err g.problem) a b.1 in cc
reads_once L explains means text right form once (Err f) (Ok y) (inl a) b = absurd (right_fits L text f.byte (right (Ok y) b) a.0)
reads_once {X} L explains means text right form once (Err f) (Ok y) (inr a) b =
    let same : ◌≡◌ {A = Result X Problem} (Err f.problem) (Ok y) = once (Err f.problem) (Ok y) a.1 b in cc
reads_once L explains means text right form once (Err f) (Err g) (inl a) (inl b) =
    let byte = one_misfit L text f.byte g.byte a.0 b.0 in
    same_fault f g (form g.byte f.problem g.problem (subst (λ i. explains text i f.problem) byte a.1) b.1) byte
reads_once L explains means text right form once (Err f) (Err g) (inl a) (inr b) = absurd (right_fits L text f.byte (right (Err g.problem) b.1) a.0)
reads_once L explains means text right form once (Err f) (Err g) (inr a) (inl b) = absurd (right_fits L text g.byte (right (Err f.problem) a.1) b.0)
reads_once {X} L explains means text right form once (Err f) (Err g) (inr a) (inr b) =
    let same : ◌≡◌ {A = Result X Problem} (Err f.problem) (Err g.problem) = once (Err f.problem) (Err g.problem) a.1 b.1 in
    same_fault f g (let e : f.problem ≡ g.problem = cc in e) (a.0 ∙ sym b.0)

-- the same of a form, by what its numbers mean
pub alone : {X : Type 0} (marks : List Mark) (means : List ℕ → Result X Problem → Type 0) → ((ns : List ℕ) (r q : Result X Problem) → means ns r → means ns q → r ≡ q)
    → (text : List ℕ) (r : Result X Fault) → ReadsForm marks means text r → Only (ReadsForm marks means text) r
alone marks means once text r a = (
  a,
  λ q b. reads_once (Spelled marks) Explains (Means marks means) text (λ _ (ns, s, _). (ns, s)) (λ i p q. explained_once text i p q)
      (λ r q (ns, s, m) (ms, t, n). once ns r q m (subst (λ l. means l q) (spells_once marks ms ns text t s) n)) q r b a,
)

pub alone_set : (text : List ℕ) (r : Result Set Fault) → ReadsSet text r → Only (ReadsSet text) r
alone_set text r a = (
  a,
  λ q b. reads_once IsMaskText (λ t i p. p ≡ Region Unfit) SetOf text (set_text_right text) (λ i p q e f. e ∙ sym f) (set_once text) q r b a,
)

decisions_once : (text : List ℕ) (r q : Result Decision NoDecision) → ReadsDecision text r → ReadsDecision text q → r ≡ q
decisions_once text (Ok c) (Ok d) a b = ap Ok (decision_once text c d a b)
decisions_once text (Ok c) (Err e) a b = absurd (right_fits IsDecisionText text e.byte (c, a) b)
decisions_once text (Err e) (Ok d) a b = absurd (right_fits IsDecisionText text e.byte (d, b) a)
decisions_once text (Err e) (Err f) a b = let byte = one_misfit IsDecisionText text e.byte f.byte a b in let whole : e ≡ f = ap (λ i. record { byte = i }) byte in ap Err whole

pub alone_decision : (text : List ℕ) (r : Result Decision NoDecision) → ReadsDecision text r → Only (ReadsDecision text) r
alone_decision text r a = (a, λ q b. decisions_once text q r b a)
