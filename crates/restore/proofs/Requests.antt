-- A request that is written is read back.
use Rattle.std.proofs.Common.{◌≡◌, ℕ, ◌≤◌, List, ◌++◌, length, take, drop, Ok, sym, ap, ◌∙◌, subst, arith}
use Rattle.std.proofs.Math.Seq.{take-append_seam}
use Rattle.spelling.specs.Writes.{Wrote}
use Rattle.grammar.specs.Limits.{max_number}
use Rattle.grammar.specs.Lines.{line_text}
use Rattle.grammar.specs.Reading.{ReadsLine}
use Rattle.grammar.specs.Sayable.{Sayable}
use Rattle.grammar.specs.declared.line.Line.TheVariants as line

-- what stands at the front
pub front_is : (old new text : List ℕ) (end : ℕ) → Wrote old new 0 text end → take end new ≡ text
front_is old new text end w =
    let size : end ≡ length text = omega (arith, w.end_is) in
    ap (take end) w.all ∙ ap (λ i. take i (text ++ drop end old)) size ∙ take-append_seam text (drop end old)

pub request_reads : (old new : List ℕ) (end k : ℕ) → k ≤ max_number → Wrote old new 0 (line_text (line.List k)) end → (Sayable (line.List k) → ReadsLine (line_text (line.List k)) (Ok (line.List k))) → ReadsLine (take end new) (Ok (line.List k))
request_reads old new end k low w back = subst (λ t. ReadsLine t (Ok (line.List k))) (sym (front_is old new (line_text (line.List k)) end w)) (back ((omega arith, low), tt))
