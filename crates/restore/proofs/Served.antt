-- What the console's call gives for lines that are known to say something.
use Rattle.std.proofs.Common.{◌≡◌, ℕ, ◌≤◌, List, [], ◌∷◌, ◌++◌, length, take, drop, Bool, true, Ok, sym, ap, ◌∙◌, subst, inl, inr, arith}
use Rattle.std.proofs.Math.Seq.{take-append_seam}
use Rattle.model.specs.Refusals.{IsTooShort}
use Rattle.model.specs.declared.answers.Lent.{Lent}
use Rattle.state.proofs.Lent.{Enough, short_or_enough}
use Rattle.grammar.specs.Reading.{ReadsLine}
use Rattle.grammar.specs.Texts.{behind_commas}
use Rattle.grammar.specs.declared.line.Line.{Line}
use Rattle.grammar.specs.declared.line.Line.TheVariants as line
use Rattle.replies.specs.Texts.{min_answer, line_feed, ok, answer_values, reply_text}
use Rattle.replies.specs.declared.reply.Reply.{Reply}
use Rattle.lines.specs.Kinds.{LongStored}
use Rattle.lines.specs.Serve.{Cramped, Replies, Serves}
use Rattle.lines.specs.declared.console.Console.{Console}
use Rattle.restore.specs.Restored.{Listed, Takes}

roomy : (l : Lent) (before : List ℕ) → (IsTooShort l → ⊥) → min_answer ≤ length before → Cramped l before → ⊥
roomy l before long room (inl short) = long short
roomy l before long room (inr little) = omega arith

not_short : (l : Lent) → Enough l → IsTooShort l → ⊥
not_short l e (inl a) = let h = e.rules in omega arith
not_short l e (inr (inl b)) = let h = e.blocks in omega arith
not_short l e (inr (inr (inl c))) = let h = e.properties in omega arith
not_short l e (inr (inr (inr (inl d)))) = let h = e.packet_frames in omega arith
not_short l e (inr (inr (inr (inr f)))) = let h = e.address_frames in omega arith

module _ (g h : Console) (s z : LongStored) (l : Lent) (text before after : List ℕ) (n : ℕ) (v : Serves g s l text before n h z after) (room : min_answer ≤ length before) where
  -- the reply to a line that says this
  said : (IsTooShort l → ⊥) → (ln : Line) → ReadsLine text (Ok ln) → (r : Reply) × Replies g s l (Ok ln) r h z × (n ≡ length (reply_text r)) × (after ≡ reply_text r ++ drop n before)
  said long ln reads =
      let (m, r, only, replies, size, all) = v.served (roomy l before long room) in
      (r, subst (λ k. Replies g s l k r h z) (sym (only.1 (Ok ln) reads)) replies, size, all)

  pub takes_served : (taken : Bool) → ((more : List ℕ) → after ≡ ok ++ more → taken ≡ true) → Takes g s l text taken h z
  takes_served taken starts = record {
    heading = λ long reads.
        let (r, (is, same, tables), size, all) = said long line.Heading reads in
        (starts (line_feed ∷ drop n before) (all ∙ ap (λ q. reply_text q ++ drop n before) is), same, tables);
    call = λ long c reads.
        let (r, (a, is, promise), size, all) = said long (line.Call c) reads in (
          a,
          promise,
          λ word. starts ((behind_commas (answer_values a) ++ (line_feed ∷ [])) ++ drop n before)
              (subst (λ w. after ≡ ((w ++ behind_commas (answer_values a)) ++ (line_feed ∷ [])) ++ drop n before) word (all ∙ ap (λ q. reply_text q ++ drop n before) is)),
        );
  }

  module _ (k : ℕ) (reads : ReadsLine text (Ok (line.List k))) where
    pub listed_served : Listed g s l k n after
    listed_served x y es told long =
        let (r, (is, same, tables), size, all) = said long (line.List k) reads in
        let shows = is x y es told in (
          size ∙ ap (λ q. length (reply_text q)) shows,
          ap (take n) all ∙ ap (λ i. take i (reply_text r ++ drop n before)) size ∙ take-append_seam (reply_text r) (drop n before) ∙ ap reply_text shows,
        )

    pub listed_kept : (h ≡ g) × (z ≡ s)
    listed_kept = elim (short_or_enough l) [
      | inl short ↦ let (none, same, kept, tables) = v.cramped (inl short) in (kept, tables)
      | inr enough ↦ let (r, (is, same, tables), size, all) = said (not_short l enough) (line.List k) reads in (same, tables)
    ]
