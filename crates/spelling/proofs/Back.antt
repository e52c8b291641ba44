-- What is written is read back.
use Rattle.std.proofs.Common.{◌≡◌, ℕ, ◌^◌, ◌<◌, ◌≤◌, List, [], ◌∷◌, ◌++◌, length, Ok, sym, refl, ap, ap₂, ◌∙◌, subst, arith}
use Rattle.std.specs.Fmt.{decimal}
use Rattle.std.specs.Int.{w32, to_be_bytes}
use Rattle.std.specs.List.{AllByRecursion}
use Rattle.std.specs.Str.Parse.{digits_value}
use Rattle.std.proofs.lemmas.Fmt.{decimal_is_IsNumeral, length-decimal-le}
use Rattle.std.proofs.lemmas.List.{append-nil}
use Rattle.std.proofs.lemmas.Nat.{from_be_bytes-to_be_bytes_4}
use Rattle.forms.specs.declared.prefix.Prefix.{Prefix}
use Rattle.forms.specs.declared.range.Range.{Range}
use Rattle.spelling.specs.Forms.{mark_byte, Spells}
use Rattle.spelling.specs.Meanings.{AtMost, NumberOf, AddressOf, PrefixOf, RangeOf}
use Rattle.spelling.specs.Numbers.{IsNumber}
use Rattle.spelling.specs.Reads.{ReadsForm}
use Rattle.spelling.specs.Writes.{form_text, address_text, prefix_text, range_text}
use Rattle.spelling.specs.declared.form.Mark.{Mark}
use Rattle.spelling.specs.declared.form.TheConstants.{NUMBER, ADDRESS, PREFIX, RANGE}
use Rattle.spelling.proofs.Digits.{peel}
use Rattle.spelling.proofs.Left.{mark_no_digit}

-- a number below 10 ^ 10 is written with one to ten digits
decimal_number : (n : ℕ) → n < 10 ^ 10 → IsNumber (decimal n) × (digits_value 10 (decimal n) ≡ n)
decimal_number n few =
    let (numeral, value) = decimal_is_IsNumeral n (omega arith) in
    ((numeral.0, length-decimal-le 10 n (omega arith) few (omega arith), numeral.1), value)

-- what is written spells the numbers
form_spells : (marks : List Mark) (n : ℕ) (ns : List ℕ) → length ns ≡ length marks → n < 10 ^ 10 → AllByRecursion (λ k. k < 10 ^ 10) ns → Spells marks (n ∷ ns) (form_text marks (n ∷ ns))
form_spells [] n [] e few all =
    let (number, value) = decimal_number n few in
    let whole = append-nil (decimal n) in
    (subst IsNumber (sym whole) number, ap (λ k. k ∷ []) (sym value ∙ ap (digits_value 10) (sym whole)))
form_spells [] n (k ∷ ns) e few all = absurd (omega arith)
form_spells (m ∷ marks) n [] e few all = absurd (omega arith)
form_spells (m ∷ marks) n (k ∷ ns) e few all =
    let (number, value) = decimal_number n few in
    (decimal n, form_text marks (k ∷ ns), k ∷ ns, refl, number, ap (λ j. j ∷ k ∷ ns) (sym value), form_spells marks k ns (omega arith) all.0 all.1)

-- a text spells one list of numbers at most
pub spells_once : (marks : List Mark) (ns ms text : List ℕ) → Spells marks ns text → Spells marks ms text → ns ≡ ms
spells_once [] ns ms text a b = a.1 ∙ sym b.1
spells_once (m ∷ marks) ns ms text (ds, x, later, is, number, value, s) (es, y, other, same, count, worth, t) =
    let (digits, rest) = peel ds es (mark_byte m ∷ x) (mark_byte m ∷ y) number.2 count.2 (mark_no_digit m) (mark_no_digit m) (sym is ∙ same) in
    let tail : x ≡ y = cc in
    value ∙ ap₂ (λ k l. k ∷ l) (ap (digits_value 10) digits) (spells_once marks later other y (subst (Spells marks later) tail s) t) ∙ sym worth

-- the bytes of an address
bytes_small : (a : ℕ) → AtMost 255 (to_be_bytes w32 a)
bytes_small a = (omega arith, (omega arith, (omega arith, (omega arith, tt))))

pub number_back : (n : ℕ) → n < 10 ^ 10 → (most : ℕ) → n ≤ most → ReadsForm {X = ℕ} NUMBER (NumberOf most) (decimal n) (Ok n)
number_back n few most fits = (n ∷ [], subst (Spells NUMBER (n ∷ [])) (append-nil (decimal n)) (form_spells NUMBER n [] refl few tt), (refl, (fits, tt)))

pub address_back : (a : ℕ) → a < 2 ^ 32 → ReadsForm {X = ℕ} ADDRESS AddressOf (address_text a) (Ok a)
address_back a few = (
  to_be_bytes w32 a,
  form_spells ADDRESS _ _ refl (omega arith) (omega arith, (omega arith, (omega arith, tt))),
  (bytes_small a, sym (from_be_bytes-to_be_bytes_4 a few)),
)

pub prefix_back : (x : Prefix) → x.address < 2 ^ 32 → ReadsForm {X = Prefix} PREFIX PrefixOf (prefix_text x) (Ok x)
prefix_back x few =
    let short = x.short in (
      to_be_bytes w32 x.address ++ x.length ∷ [],
      form_spells PREFIX _ _ refl (omega arith) (omega arith, (omega arith, (omega arith, (omega arith, tt)))),
      ((bytes_small x.address, sym (from_be_bytes-to_be_bytes_4 x.address few)), refl),
    )

pub range_back : (x : Range) → x.hi < 2 ^ 32 → (most : ℕ) → x.hi ≤ most → ReadsForm {X = Range} RANGE (RangeOf most) (range_text x) (Ok x)
range_back x few most fits =
    let ordered = x.ordered in
    (x.lo ∷ x.hi ∷ [], form_spells RANGE x.lo (x.hi ∷ []) refl (omega arith) (omega arith, tt), (refl, (omega arith, (fits, tt))))
