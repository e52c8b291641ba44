-- One write after another.
use Rattle.std.proofs.Common.{◌≡◌, ℕ, ◌+◌, ◌<◌, ◌≤◌, List, [], ◌∷◌, ◌++◌, length, take, drop, get_or, sym, refl, ap, ap₂, ◌∙◌, subst, append_assoc, arith}
use Rattle.std.specs.Fmt.{decimal}
use Rattle.std.proofs.lemmas.List.{append-nil, length-append, length-drop, length-take-le, take_at, drop_at, take-take, drop-drop, drop_more, drop_all}
use Rattle.spelling.specs.Forms.{mark_byte}
use Rattle.spelling.specs.Writes.{Wrote, NoRoom, marked_text}
use Rattle.spelling.specs.declared.form.Mark.{Mark}
use Rattle.spelling.specs.declared.form.Mark.TheVariants.{Dot}

-- a part of the text is written, and `rest` is left to write from `at` on
pub record Going (old now : List ℕ) (start : ℕ) (text rest : List ℕ) (at : ℕ) : Type 0 where
  pub done : List ℕ
  pub split : text ≡ done ++ rest
  pub wrote : Wrote old now start done at

pub put_first : (old now : List ℕ) (start : ℕ) (piece rest : List ℕ) (end : ℕ) → Wrote old now start piece end → Going old now start (piece ++ rest) rest end
put_first old now start piece rest end w = record { done = piece; split = refl; wrote = w }

pub no_room_first : (old new : List ℕ) (start : ℕ) (piece rest : List ℕ) → NoRoom old new start piece → NoRoom old new start (piece ++ rest)
no_room_first old new start piece rest n =
    let size = length-append piece rest in
    let short = n.short in
    record { short = omega arith; same_length = n.same_length; front = n.front }

pub put_all : (old now : List ℕ) (start : ℕ) (text : List ℕ) (end : ℕ) → Going old now start text [] end → Wrote old now start text end
put_all old now start text end g = subst (λ t. Wrote old now start t end) (sym (g.split ∙ append-nil g.done)) g.wrote

module _ (old now : List ℕ) (start : ℕ) (text piece rest : List ℕ) (at : ℕ) (g : Going old now start text (piece ++ rest) at) where
  start_low : start ≤ length old
  start_low = let e = g.wrote.end_is in let r = g.wrote.room in omega arith

  front_size : length (take start old ++ g.done) ≡ at
  front_size =
      let e = g.wrote.end_is in
      let low = start_low in
      let size = length-take-le start old low in
      length-append (take start old) g.done ∙ omega arith

  whole : now ≡ (take start old ++ g.done) ++ drop at old
  whole = g.wrote.all ∙ sym (append_assoc (take start old) g.done (drop at old))

  same_size : length now ≡ length old
  same_size =
      let r = g.wrote.room in
      let front = front_size in
      let back = length-drop at old in
      ap length whole ∙ length-append (take start old ++ g.done) (drop at old) ∙ omega arith

  front_now : take at now ≡ take start old ++ g.done
  front_now = ap (take at) whole ∙ take_at (take start old ++ g.done) (drop at old) at front_size

  back_now : drop at now ≡ drop at old
  back_now = ap (drop at) whole ∙ drop_at (take start old ++ g.done) (drop at old) at front_size

  -- the next piece
  pub put_next : (new : List ℕ) (end : ℕ) → Wrote now new at piece end → Going old new start text rest end
  put_next new end w =
      let e = w.end_is in
      let r = w.room in
      let d = g.wrote.end_is in
      let same = same_size in
      let size = length-append g.done piece in
      let sum : at + length piece ≡ end = sym e in
      let back : drop end now ≡ drop end old =
      ap (λ k. drop k now) e ∙ sym (drop-drop (length piece) at now) ∙ ap (drop (length piece)) back_now ∙ drop-drop (length piece) at old ∙ ap (λ k. drop k old) sum in
      record {
        done = g.done ++ piece;
        split = g.split ∙ sym (append_assoc g.done piece rest);
        wrote = record {
          end_is = omega arith;
          room = omega arith;
          all = w.all ∙ ap₂ (λ f b. f ++ (piece ++ b)) front_now back ∙ append_assoc (take start old) g.done (piece ++ drop end old) ∙ ap (λ t. take start old ++ t) (sym (append_assoc g.done piece (drop end old)));
        };
      }

  -- there is no room for it
  pub put_stops : (new : List ℕ) → NoRoom now new at piece → NoRoom old new start text
  put_stops new n =
      let short = n.short in
      let d = g.wrote.end_is in
      let same = same_size in
      let size : length text ≡ length g.done + (length piece + length rest) = ap length g.split ∙ length-append g.done (piece ++ rest) ∙ ap (λ k. length g.done + k) (length-append piece rest) in
      let before : take start now ≡ take start old = ap (take start) (g.wrote.all) ∙ take_at (take start old) (g.done ++ drop at old) start (length-take-le start old start_low) in
      record {
        short = omega arith;
        same_length = n.same_length ∙ same;
        front = sym (take-take start at new (omega arith)) ∙ ap (take start) n.front ∙ take-take start at now (omega arith) ∙ before;
      }

-- the mark and the number that are next
pub next_marked : (marks : List Mark) (ns : List ℕ) (i : ℕ) → i < length marks → i < length ns
    → marked_text (drop i marks) (drop i ns) ≡ (mark_byte (get_or marks i Dot) ∷ []) ++ (decimal (get_or ns i 0) ++ marked_text (drop (i + 1) marks) (drop (i + 1) ns))
next_marked marks ns i m n = ap₂ marked_text (drop_more marks i Dot m) (drop_more ns i 0 n)

pub none_marked : (marks : List Mark) (ns : List ℕ) (i : ℕ) → length marks ≤ i → marked_text (drop i marks) (drop i ns) ≡ []
none_marked marks ns i m = ap (λ l. marked_text l (drop i ns)) (drop_all i marks m)

-- a mark is written, and its number is next
pub mark_put : (old now new : List ℕ) (start : ℕ) (text : List ℕ) (marks : List Mark) (ns : List ℕ) (i at end b : ℕ) → i < length marks → i < length ns
    → Going old now start text (marked_text (drop i marks) (drop i ns)) at → b ≡ mark_byte (get_or marks i Dot) → Wrote now new at (b ∷ []) end
    → Going old new start text (decimal (get_or ns i 0) ++ marked_text (drop (i + 1) marks) (drop (i + 1) ns)) end
mark_put old now new start text marks ns i at end b m n g is w =
    put_next old now start text (mark_byte (get_or marks i Dot) ∷ []) (decimal (get_or ns i 0) ++ marked_text (drop (i + 1) marks) (drop (i + 1) ns)) at
    (subst (λ t. Going old now start text t at) (next_marked marks ns i m n) g) new end (subst (λ c. Wrote now new at (c ∷ []) end) is w)
