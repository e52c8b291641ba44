-- How long the texts of fields can be.
use Rattle.std.proofs.Common.{ℕ, ◌+◌, ◌^◌, ◌<◌, ◌≤◌, List, [], ◌∷◌, ◌++◌, length, arith}
use Rattle.std.specs.Fmt.{decimal}
use Rattle.std.specs.Int.{w32, byte_at, to_be_bytes}
use Rattle.std.proofs.lemmas.Fmt.{length-decimal-le}
use Rattle.std.proofs.lemmas.List.{length-append}
use Rattle.forms.specs.declared.prefix.Prefix.{Prefix}
use Rattle.forms.specs.declared.range.Range.{Range}
use Rattle.spelling.specs.Writes.{marked_text, form_text, address_text, prefix_text, range_text}
use Rattle.spelling.specs.declared.form.Mark.{Mark}
use Rattle.spelling.specs.declared.form.Mark.TheVariants.{Dot, Slash}

pub number_short : (n : ℕ) → n < 2 ^ 64 → length (decimal n) ≤ 20
number_short n fits = length-decimal-le 20 n (omega arith) (omega arith) fits

-- a number of at most k digits, and what is behind it
number_first : (k most all n : ℕ) (rest : List ℕ) → 0 < k → n < 10 ^ k → n < 2 ^ 64 → length rest ≤ most → k + most ≤ all → length (decimal n ++ rest) ≤ all
number_first k most all n rest some few fits short sum =
    let digits = length-decimal-le k n some few fits in
    let size = length-append (decimal n) rest in
    omega arith

-- the same of a byte and its mark
byte_marked : (m : Mark) (marks : List Mark) (b : ℕ) (ns : List ℕ) (most : ℕ) → b < 256 → length (marked_text marks ns) ≤ most → length (marked_text (m ∷ marks) (b ∷ ns)) ≤ 4 + most
byte_marked m marks b ns most small short =
    let first = number_first 3 most (3 + most) b (marked_text marks ns) (omega arith) (omega arith) (omega arith) short (omega arith) in
    omega arith

-- the four bytes of an address, and what is behind them
address_first : (a : ℕ) (marks : List Mark) (ns : List ℕ) (most : ℕ) → length (marked_text marks ns) ≤ most → length (form_text (Dot ∷ Dot ∷ Dot ∷ marks) (to_be_bytes w32 a ++ ns)) ≤ 15 + most
address_first a marks ns most short =
    let fourth = byte_marked Dot marks (byte_at 0 a) ns most (omega arith) short in
    let third = byte_marked Dot (Dot ∷ marks) (byte_at 1 a) (byte_at 0 a ∷ ns) (4 + most) (omega arith) fourth in
    let second = byte_marked Dot (Dot ∷ Dot ∷ marks) (byte_at 2 a) (byte_at 1 a ∷ byte_at 0 a ∷ ns) (4 + (4 + most)) (omega arith) third in
    number_first 3 (4 + (4 + (4 + most))) (15 + most) (byte_at 3 a) _ (omega arith) (omega arith) (omega arith) second (omega arith)

pub address_short : (a : ℕ) → length (address_text a) ≤ 15
address_short a = address_first a [] [] 0 (omega arith)

pub prefix_short : (x : Prefix) → length (prefix_text x) ≤ 18
prefix_short x =
    let short = x.short in
    let length = number_first 2 0 2 x.length [] (omega arith) (omega arith) (omega arith) (omega arith) (omega arith) in
    address_first x.address (Slash ∷ []) (x.length ∷ []) 3 (omega arith)

pub range_short : (x : Range) → x.hi < 2 ^ 32 → length (range_text x) ≤ 21
range_short x few =
    let ordered = x.ordered in
    let high = number_first 10 0 10 x.hi [] (omega arith) (omega arith) (omega arith) (omega arith) (omega arith) in
    number_first 10 11 21 x.lo _ (omega arith) (omega arith) (omega arith) (omega arith) (omega arith)
