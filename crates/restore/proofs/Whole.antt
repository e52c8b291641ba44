-- A listing read whole, line by line.
use Rattle.std.proofs.Common.{◌≡◌, ℕ, zero, suc, [], refl, sym, ap, ◌∙◌, subst, arith}
use Rattle.std.proofs.lemmas.List.{take_all}
use Rattle.forms.specs.declared.prefix.Prefix.{Prefix}
use Rattle.forms.specs.declared.prefix.PrefixRow.{PrefixRow}
use Rattle.model.specs.Record.{plain}
use Rattle.model.specs.Refusals.{IsTooShort}
use Rattle.model.specs.Tree.{start}
use Rattle.model.specs.declared.answers.Lent.{Lent}
use Rattle.rebuild.specs.Again.{built, ListingsRebuild}
use Rattle.state.specs.Memory.{SameMemory, lent_by}
use Rattle.state.specs.declared.memory.Memory.{Memory}
use Rattle.register.specs.Promise.{Tells}
use Rattle.grammar.specs.Lines.{LongRest, LongRestValue}
use Rattle.lines.specs.Kinds.{address_kind, rest_kind, LongRestRow, LongStored}
use Rattle.lines.specs.Wholes.{LongWholes}
use Rattle.lines.specs.declared.console.Console.{Console}
use Rattle.restore.specs.Restored.{LongRecord, listing_of, Sets, Reached, Steps, ReadsOn}
use Rattle.restore.specs.declared.again.Step.{Step}
use Rattle.restore.specs.declared.again.Step.TheVariants.{Ended}
use Rattle.restore.proofs.Records.{same_wholes}
use Rattle.restore.proofs.Wholes.{wholes_once}

module _ {X Y : Type 0} where
  pub same_self : (m : Memory X Y) → SameMemory m m
  same_self m = record { rules = (refl, refl); blocks = (refl, refl); properties = (refl, refl); packet_frames = (refl, refl); address_frames = (refl, refl) }

  pub same_on : (a b c : Memory X Y) → SameMemory a b → SameMemory b c → SameMemory a c
  same_on a b c s t = record {
    rules = (t.rules.0 ∙ s.rules.0, t.rules.1 ∙ s.rules.1);
    blocks = (t.blocks.0 ∙ s.blocks.0, t.blocks.1 ∙ s.blocks.1);
    properties = (t.properties.0 ∙ s.properties.0, t.properties.1 ∙ s.properties.1);
    packet_frames = (t.packet_frames.0 ∙ s.packet_frames.0, t.packet_frames.1 ∙ s.packet_frames.1);
    address_frames = (t.address_frames.0 ∙ s.address_frames.0, t.address_frames.1 ∙ s.address_frames.1);
  }

  same_lent : (a b : Memory X Y) → SameMemory a b → lent_by b ≡ lent_by a
  same_lent a b s = λ i. record {
    rules = s.rules.1 i;
    blocks = s.blocks.1 i;
    properties = s.properties.1 i;
    packet_frames = s.packet_frames.1 i;
    address_frames = s.address_frames.1 i;
  }

module _ (x : Prefix) (y : LongRest) (es : LongRecord) where
  pub set_out : ListingsRebuild {V = ℕ} {W = LongRestValue} address_kind.holds rest_kind.holds → (g : Console) (s : LongStored) (l m : Lent) → LongWholes x y → Tells address_kind rest_kind x y es g.register s
      → (IsTooShort l → ⊥) → (IsTooShort m → ⊥) → Sets x y es g s l m
  set_out law g s l m wholes told first second = record { wholes = wholes; told = told; rebuilds = law x y es told.lawful; first = first; second = second }

  -- a new console stands as no line of the listing leaves it
  pub begins : (h : Console) (z : LongStored) → LongWholes x y → ((a : Prefix) × (r : LongRest) × LongWholes a r × ((s : LongStored) → Tells address_kind rest_kind a r [] h.register s)) → Reached x y es 0 h z
  begins h z wholes (a, r, new, tells) =
      let (same_a, same_r) = wholes_once a x r y new wholes in
      record {
        fs = [];
        told = subst (λ q. Tells address_kind rest_kind x q [] h.register z) same_r (subst (λ b. Tells address_kind rest_kind b r [] h.register z) same_a (tells z));
        tree = refl;
      }

  -- past the end of the listing the tree is there again
  pub all_again : (g : Console) (s : LongStored) (l m : Lent) (k : ℕ) (h : Console) (z : LongStored) → Sets x y es g s l m → Steps x y es k Ended h z
      → (fs : LongRecord) × Tells address_kind rest_kind x y fs h.register z × (plain x y fs ≡ plain x y es)
  all_again g s l m zero h z sets (past, reached) = absurd (omega arith)
  all_again g s l m (suc j) h z sets (past, reached) =
      let same = same_wholes (start x y) es in
      let again = subst (λ r. built {V = ℕ} {W = LongRestValue} (start x r) (listing_of x y es) ≡ plain x y es) same.rests
      (subst (λ a. built {V = ℕ} {W = LongRestValue} (start a (plain x y es).rests) (listing_of x y es) ≡ plain x y es) same.addresses sets.rebuilds.again) in
      (reached.fs, reached.told, reached.tree ∙ ap (built {V = ℕ} {W = LongRestValue} (start x y)) (take_all j (listing_of x y es) (omega arith)) ∙ again)

  -- what is read on from where the consoles stand now, which is as at first for the one that is read
  pub reads_now : (g h : Console) (s t : LongStored) (a b c d : Memory PrefixRow LongRestRow) → h ≡ g → t ≡ s → SameMemory a b → SameMemory c d → (k : ℕ) (e f : Console) (u w : LongStored) (step : Step)
      → ReadsOn h t (lent_by b) (lent_by d) k e u step f w → Sets x y es g s (lent_by a) (lent_by c) → Reached x y es k e u → Steps x y es k step f w
  reads_now g h s t a b c d same_g same_s same_a same_c k e f u w step reads sets reached =
      let moved = subst (λ q. Sets x y es q s (lent_by a) (lent_by c)) (sym same_g) sets in
      let laid = subst (λ q. Sets x y es h q (lent_by a) (lent_by c)) (sym same_s) moved in
      let lent = subst (λ q. Sets x y es h t q (lent_by c)) (sym (same_lent a b same_a)) laid in
      reads x y es (subst (λ q. Sets x y es h t (lent_by b) q) (sym (same_lent c d same_c)) lent) reached
