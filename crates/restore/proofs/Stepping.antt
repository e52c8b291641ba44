-- One line of a listing, read into the new console.
use Rattle.std.proofs.Common.{◌≡◌, ℕ, zero, suc, ◌-◌, ◌==◌, ◌<◌, List, [], ◌∷◌, ◌++◌, length, take, drop, Bool, true, false, Some, None, Option, Ok, refl, sym, ap, ◌∙◌, subst, arith, append_assoc, length-append}
use Rattle.std.proofs.Math.Seq.{take-append_seam}
use Rattle.std.proofs.lemmas.Bool.{true≢false}
use Rattle.std.proofs.lemmas.List.{take-append-drop}
use Rattle.std.specs.List.{AllByRecursion, slice_get, starts_with}
use Rattle.forms.specs.declared.prefix.Prefix.{Prefix}
use Rattle.search.proofs.Positions.{nth_within}
use Rattle.model.specs.Record.{Said, unless, plain}
use Rattle.model.specs.Refusals.{IsTooShort}
use Rattle.model.specs.Tree.{Tree, start, after}
use Rattle.model.specs.declared.answers.Answer.{Answer}
use Rattle.model.specs.declared.answers.Lent.{Lent}
use Rattle.model.specs.declared.answers.Recorded.{Recorded}
use Rattle.model.specs.declared.calls.Call.TheVariants as call
use Rattle.rebuild.specs.Again.{built, Accepted, Modest, Rebuilds}
use Rattle.register.specs.Promise.{Promise}
use Rattle.grammar.specs.Lines.{LongCall, LongRest, LongRestValue, letter, line_text, verb_of, values_of}
use Rattle.grammar.specs.Sayable.{Sayable, InType}
use Rattle.grammar.specs.Reading.{ReadsLine}
use Rattle.grammar.specs.Texts.{behind_commas}
use Rattle.grammar.specs.declared.line.Line.{Line}
use Rattle.grammar.specs.declared.line.Line.TheVariants as line
use Rattle.grammar.specs.declared.line.Verb.{Verb}
use Rattle.grammar.specs.declared.line.Verb.TheVariants as verb
use Rattle.grammar.proofs.Back.{line_back}
use Rattle.replies.specs.Texts.{line_feed, none, ok, answer_word, reply_text}
use Rattle.replies.specs.declared.reply.Reply.TheVariants as reply
use Rattle.lines.specs.Kinds.{address_kind, rest_kind, LongStored}
use Rattle.lines.specs.Serve.{called, listed_line}
use Rattle.lines.specs.declared.console.Console.{Console}
use Rattle.restore.specs.Restored.{LongRecord, listing_of, Takes, Reached, Steps}
use Rattle.restore.specs.declared.again.Step.TheVariants.{Taken, Ended}
use Rattle.restore.proofs.Records.{same_wholes, tree_more, built_next, split_at, none_behind, right_unrefused, last_right}

abbrev IsNone : List ℕ → Bool
IsNone text = starts_with (λ i j. i == j) text none

-- no letter begins `none`
line_not_none : (v : Verb) (more : List ℕ) → IsNone (letter v ∷ more) ≡ false
line_not_none verb.Heading more = refl
line_not_none verb.Attach more = refl
line_not_none verb.Branch more = refl
line_not_none verb.Give more = refl
line_not_none verb.Take more = refl
line_not_none verb.Place more = refl
line_not_none verb.Alter more = refl
line_not_none verb.Lift more = refl
line_not_none verb.Stand more = refl
line_not_none verb.Withdraw more = refl
line_not_none verb.Ask more = refl
line_not_none verb.Send more = refl
line_not_none verb.List more = refl

-- what stands in the buffer of a reply
module _ (n : ℕ) (buf text : List ℕ) (at : take n buf ≡ text) where
  with_rest : buf ≡ text ++ drop n buf
  with_rest = sym (take-append-drop n buf) ∙ ap (λ t. t ++ drop n buf) at

module _ (n : ℕ) (buf : List ℕ) (l : Line) (size : n ≡ length (reply_text (reply.Line l))) (at : take n buf ≡ reply_text (reply.Line l)) where
  not_none : IsNone buf ≡ false
  not_none = ap IsNone (with_rest n buf (reply_text (reply.Line l)) at) ∙ line_not_none (verb_of l) ((behind_commas (values_of l) ++ (line_feed ∷ [])) ++ drop n buf)

  -- without its line feed it is the line
  line_is : take (n - 1) buf ≡ line_text l
  line_is =
      let whole : buf ≡ line_text l ++ (line_feed ∷ drop n buf) = with_rest n buf (reply_text (reply.Line l)) at ∙ append_assoc (line_text l) (line_feed ∷ []) (drop n buf) in
      let less : n - 1 ≡ length (line_text l) = omega (arith, size, length-append (line_text l) (line_feed ∷ [])) in
      ap (take (n - 1)) whole ∙ ap (λ i. take i (line_text l ++ (line_feed ∷ drop n buf))) less ∙ take-append_seam (line_text l) (line_feed ∷ drop n buf)

-- a modest call that is not refused is answered by some ok
said_ok : (x : Prefix) (y : LongRest) (t : Tree Prefix LongRest) (c : LongCall) (a : Answer ℕ LongRestValue) → Modest address_kind.holds rest_kind.holds x y c → Said address_kind.holds rest_kind.holds t c a → answer_word a ≡ ok
said_ok x y t (call.Attach d i j w) a modest said = ap answer_word said
said_ok x y t (call.Branch f i) a modest said = ap answer_word said
said_ok x y t (call.Give d r) a modest said = ap answer_word said
said_ok x y t (call.Take b) a modest said = absurd modest
said_ok x y t (call.Place f p r) a modest said = ap answer_word said
said_ok x y t (call.Alter f p r) a modest said = ap answer_word said
said_ok x y t (call.Lift f p) a modest said = absurd modest
said_ok x y t (call.Stand p) a modest said = ap answer_word said
said_ok x y t (call.Withdraw n) a modest said = absurd modest
said_ok x y t (call.Ask p) a modest said = absurd modest
said_ok x y t (call.Send h) a modest said = absurd modest

module _ (x : Prefix) (y : LongRest) (es : LongRecord) (rebuilds : Rebuilds address_kind.holds rest_kind.holds (plain x y es)) (g h : Console) (s z : LongStored) (l : Lent) (long : IsTooShort l → ⊥) where
  -- the call of the next line is accepted
  accepted_next : (j : ℕ) (c : LongCall) → slice_get (listing_of x y es) j ≡ Some c → Accepted address_kind.holds rest_kind.holds (built (start x y) (take j (listing_of x y es))) c
  accepted_next j c at =
      let same = same_wholes (start x y) es in
      let first = rebuilds.accepted (take j (listing_of x y es)) c (drop (suc j) (listing_of x y es)) (split_at (listing_of x y es) j c at) in
      subst (λ r. Accepted address_kind.holds rest_kind.holds (built (start x r) (take j (listing_of x y es))) c) same.rests
      (subst (λ a. Accepted address_kind.holds rest_kind.holds (built (start a (plain x y es).rests) (take j (listing_of x y es))) c) same.addresses first)

  modest_next : (j : ℕ) (c : LongCall) → slice_get (listing_of x y es) j ≡ Some c → Modest address_kind.holds rest_kind.holds x y c
  modest_next j c at =
      let same = same_wholes (start x y) es in
      subst (λ r. Modest address_kind.holds rest_kind.holds x r c) same.rests (subst (λ a. Modest address_kind.holds rest_kind.holds a (plain x y es).rests c) same.addresses (rebuilds.modest j c at))

  call_taken : (j : ℕ) (c : LongCall) (a : Answer ℕ LongRestValue) → slice_get (listing_of x y es) j ≡ Some c → Promise address_kind rest_kind g.register s c l a h.register z → Reached x y es (suc j) g s
      → (answer_word a ≡ ok) × Reached x y es (suc (suc j)) h z
  call_taken j c a at promise reached =
      let e : Recorded Prefix LongRest ℕ LongRestValue = record { call = c; lent = l; answer = a } in
      let more = promise.tells x y reached.fs reached.told in
      let t = plain x y reached.fs in
      let right = last_right address_kind.holds rest_kind.holds (start x y) reached.fs e more.lawful in
      let free = subst (λ n. Accepted address_kind.holds rest_kind.holds n c) (sym reached.tree) (accepted_next j c at) in
      let (unrefused, said) = right_unrefused address_kind.holds rest_kind.holds t c l a (free l long) right in (
        said_ok x y t c a (modest_next j c at) said,
        record {
          fs = reached.fs ++ (e ∷ []);
          told = more;
          tree = tree_more (start x y) reached.fs e ∙ ap (λ o. unless o t (after t c)) unrefused ∙ ap (λ n. after n c) reached.tree ∙ sym (built_next (start x y) (listing_of x y es) j c at);
        },
      )

  module _ (speakable : (c : LongCall) → Modest address_kind.holds rest_kind.holds x y c → Sayable (line.Call c) × AllByRecursion InType (values_of (line.Call c)))
      (k n m : ℕ) (buf : List ℕ) (less : m ≡ n - 1) (size : n ≡ length (reply_text (listed_line (listing_of x y es) k))) (at : take n buf ≡ reply_text (listed_line (listing_of x y es) k)) (reached : Reached x y es k g s) where
    pub ends : IsNone buf ≡ true → Steps x y es k Ended g s
    ends is = (past k size at, reached)
      where
        behind : (j : ℕ) (o : Option LongCall) → slice_get (listing_of x y es) j ≡ o → n ≡ length (reply_text (called o)) → take n buf ≡ reply_text (called o) → length (listing_of x y es) < suc j
        behind j None missing size at = let le = none_behind (listing_of x y es) j missing in omega arith
        behind j (Some c) there size at = absurd (true≢false (sym is ∙ not_none n buf (line.Call c) size at))

        past : (k : ℕ) → n ≡ length (reply_text (listed_line (listing_of x y es) k)) → take n buf ≡ reply_text (listed_line (listing_of x y es) k) → length (listing_of x y es) < k
        past zero size at = absurd (true≢false (sym is ∙ not_none n buf line.Heading size at))
        past (suc j) size at = behind j (slice_get (listing_of x y es) j) refl size at

    heading_taken : (size : n ≡ length (reply_text (reply.Line line.Heading))) → take n buf ≡ reply_text (reply.Line line.Heading) → Reached x y es 0 g s → (taken : Bool) → Takes g s l (take m buf) taken h z
        → (taken ≡ true) × Reached x y es 1 h z
    heading_taken size at reached taken takes =
        let reads = line_back line.Heading (omega arith, tt) ((omega arith, omega arith), tt) in
        let (is, same, tables) = takes.heading long (subst (λ t. ReadsLine t (Ok line.Heading)) (sym (ap (λ i. take i buf) less ∙ line_is n buf line.Heading size at)) reads) in
        (is, subst (λ u. Reached x y es 1 u z) (sym same) (subst (λ w. Reached x y es 1 g w) (sym tables) (record { fs = reached.fs; told = reached.told; tree = reached.tree })))

    next_taken : (j : ℕ) (c : LongCall) → slice_get (listing_of x y es) j ≡ Some c → n ≡ length (reply_text (reply.Line (line.Call c))) → take n buf ≡ reply_text (reply.Line (line.Call c))
        → Reached x y es (suc j) g s → (taken : Bool) → Takes g s l (take m buf) taken h z → (taken ≡ true) × Reached x y es (suc (suc j)) h z
    next_taken j c there size at reached taken takes =
        let (say, types) = speakable c (modest_next j c there) in
        let reads = line_back (line.Call c) types say in
        let (a, promise, okay) = takes.call long c (subst (λ t. ReadsLine t (Ok (line.Call c))) (sym (ap (λ i. take i buf) less ∙ line_is n buf (line.Call c) size at)) reads) in
        let (word, next) = call_taken j c a there promise reached in
        (okay word, next)

    pub takes_next : IsNone buf ≡ false → (taken : Bool) → Takes g s l (take m buf) taken h z → (taken ≡ true) × Steps x y es k Taken h z
    takes_next is taken takes = by k size at reached
      where
        line_there : (j : ℕ) (o : Option LongCall) → slice_get (listing_of x y es) j ≡ o → n ≡ length (reply_text (called o)) → take n buf ≡ reply_text (called o) → Reached x y es (suc j) g s
            → (taken ≡ true) × Steps x y es (suc j) Taken h z
        line_there j None missing size at reached = absurd (true≢false (sym (ap IsNone (with_rest n buf (reply_text reply.End) at)) ∙ is))
        line_there j (Some c) there size at reached =
            let within = nth_within (listing_of x y es) j c there in
            let (is, next) = next_taken j c there size at reached taken takes in
            (is, (omega arith, next))

        by : (k : ℕ) → n ≡ length (reply_text (listed_line (listing_of x y es) k)) → take n buf ≡ reply_text (listed_line (listing_of x y es) k) → Reached x y es k g s
            → (taken ≡ true) × Steps x y es k Taken h z
        by zero size at reached = let (is, next) = heading_taken size at reached taken takes in (is, (omega arith, next))
        by (suc j) size at reached = line_there j (slice_get (listing_of x y es) j) refl size at reached
