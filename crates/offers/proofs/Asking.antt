-- Stand and ask: an offered property, down the refusal table.
use Rattle.std.proofs.Common.{◌≡◌, ℕ, ◌-◌, ◌⊎◌, List, map, take, Some, None, Option, sym, refl, ap, ◌∙◌, subst, subst₂, MatchOption}
use native.Mathlib.Nat.{sub-zero}
use Rattle.kinds.specs.declared.kind.Kind.{Ghosts}
use Rattle.model.specs.Properties.{IsSourceAstray, IsDestinationAstray}
use Rattle.model.specs.Record.{Right, then_tree}
use Rattle.model.specs.Refusals.{Applies, IsTooShort, PropertyInside, AllInside, Overlaps, Misjoined, offered}
use Rattle.model.specs.Shape.{Domain}
use Rattle.model.specs.Tree.{Tree}
use Rattle.model.specs.declared.answers.Answer.TheVariants.{Refused}
use Rattle.model.specs.declared.answers.Lent.{Lent}
use Rattle.model.specs.declared.answers.Refusal.{Refusal}
use Rattle.model.specs.declared.answers.Refusal.TheVariants.{NoSuch, Outside, Unjoined, SourceAstray, DestinationAstray}
use Rattle.model.specs.declared.calls.Call.{Call}
use Rattle.model.specs.declared.calls.Call.TheVariants.{Ask}
use Rattle.model.specs.declared.rules.Property.{Property}
use Rattle.model.proofs.Grown.{Grown}
use Rattle.tree.specs.Table.{shape_of}
use Rattle.checks.specs.Addresses.{BlocksAre}
use Rattle.checks.specs.Rows.{block_entry, rule_entry}
use Rattle.kinds.specs.declared.pair.Pair.{Pair}
use Rattle.kinds.specs.declared.set.SetRow.{SetRow}
use Rattle.lists.specs.Layout.{Laid}
use Rattle.lists.specs.Lengths.{lengths_of}
use Rattle.lists.specs.declared.table.ListTable.{ListTable}
use Rattle.search.specs.declared.list.Entry.{Entry}
use Rattle.tree.specs.declared.table.TreeTable.{TreeTable}
use Rattle.verdicts.specs.Network.{Draws}
use Rattle.verdicts.specs.declared.network.Network.{Network}
use Rattle.verdicts.specs.Asked.{AskedFound}
use Rattle.verdicts.specs.declared.route.Break.{Break}
use Rattle.state.specs.Picture.{Pictures}
use Rattle.state.specs.Rows.{Stored}
use Rattle.state.specs.declared.state.State.{State}
use Rattle.state.proofs.Tries.{owned_apart}
use Rattle.state.proofs.Order.{Below, below_one, more, none, refuse}
use Rattle.offers.specs.Offers.{Fits, Misfits}
use Rattle.offers.specs.Offers.Misfits.{outside, unjoined, source, destination}
use Rattle.offers.specs.Asked.{asked_as}

-- a network that is a state's stands for the tree that the state does
pub drawn : {A R V W X Y : Type 0} (pa : A → X) (pr : R → Y) (t : Tree A R) (n : Network A R V X W Y) (tree : TreeTable) (lists : ListTable) (rules : List (Entry (Pair SetRow (Pair X (Pair X Y)))))
    → (n.tree.now ≡ tree) × ((n.lists.now ≡ lists) × (n.rules.now ≡ rules)) → shape_of tree ≡ t.shape → Laid (rule_entry pa pr) (lengths_of lists) rules t.lists → Draws pa pr n t
drawn pa pr t n tree lists rules (same, (at, of)) shape laid = record {
  shape = ap shape_of same ∙ shape;
  lists = subst₂ (λ l r. Laid (rule_entry pa pr) (lengths_of l) r t.lists) (sym at) (sym of) laid;
}

module _ {A R V W X Y : Type 0} (ka : Ghosts A V X) (kr : Ghosts R W Y) (g : State A R) (s : Stored X Y) (t : Tree A R) (pic : Pictures ka.plain kr.plain g s t) where
  -- the used blocks, as a call has them
  pub blocks_used : take (g.block_count - 0) s.blocks ≡ map (block_entry ka.plain) t.blocks
  blocks_used = ap (λ n. take n s.blocks) (sub-zero g.block_count) ∙ pic.blocks

  pub blocks_are : Grown ka.holds kr.holds t → BlocksAre ka (take g.block_count s.blocks) t
  blocks_are grown = record { same = pic.blocks; owned = owned_apart ka.holds kr.holds t grown }

  module _ (p : Property A R) (c : Call A R V W) (l : Lent) where
    -- 2, which stand and ask have alike
    abbrev pub NowhereBetween : Type 0
    NowhereBetween = (Domain (shape_of g.tree) p.from → ⊥) ⊎ (Domain (shape_of g.tree) p.to → ⊥)

    pub nowhere_there : NowhereBetween → (Domain t.shape p.from → ⊥) ⊎ (Domain t.shape p.to → ⊥)
    nowhere_there h = subst (λ z. (Domain z p.from → ⊥) ⊎ (Domain z p.to → ⊥)) pic.shape h

    pub nowhere_here : (Domain t.shape p.from → ⊥) ⊎ (Domain t.shape p.to → ⊥) → NowhereBetween
    nowhere_here h = subst (λ z. (Domain z p.from → ⊥) ⊎ (Domain z p.to → ⊥)) (sym pic.shape) h

    -- 5 to 9, for a call that offers p
    module _ (five : Below ka.holds kr.holds t c l 5) (off : offered c ≡ Some p) (alone : (b : ℕ) → Overlaps ka.holds kr.holds t c b → ⊥) (to : AllInside ka.holds kr.holds t c → PropertyInside ka.holds kr.holds t p) (of : PropertyInside ka.holds kr.holds t p → AllInside ka.holds kr.holds t c) where
      offers : (P : Property A R → Type 0) → P p → MatchOption (offered c) ⊥ P
      offers P h = subst (λ o. MatchOption o ⊥ P) (sym off) h

      offers_back : (P : Property A R → Type 0) → MatchOption (offered c) ⊥ P → P p
      offers_back P h = subst (λ o. MatchOption o ⊥ P) off h

      seven : PropertyInside ka.holds kr.holds t p → Below ka.holds kr.holds t c l 7
      seven inside = more ka.holds kr.holds t c l 6 (more ka.holds kr.holds t c l 5 five (λ x. x (of inside))) (λ x. alone x.0 x.1)

      pub misfit_right : (q : Refusal V W) → Misfits ka.holds kr.holds t p q → Right ka.holds kr.holds t c l (Refused q)
      misfit_right q (outside is not) = subst (λ z. Right ka.holds kr.holds t c l (Refused z)) (sym is) (refuse ka.holds kr.holds t c l Outside five (λ h. not (to h)))
      misfit_right q (unjoined is inside bad) = subst (λ z. Right ka.holds kr.holds t c l (Refused z)) (sym is) (refuse ka.holds kr.holds t c l Unjoined (seven inside) (offers (λ x. Misjoined t.shape x) bad))
      misfit_right q (source v is inside joined astray) =
          let eight = more ka.holds kr.holds t c l 7 (seven inside) (λ x. joined (offers_back (λ y. Misjoined t.shape y) x)) in
          subst (λ z. Right ka.holds kr.holds t c l (Refused z)) (sym is) (refuse ka.holds kr.holds t c l (SourceAstray v) eight (offers (λ y. IsSourceAstray ka.holds kr.holds t y v) astray))
      misfit_right q (destination v is inside joined placed astray) =
          let eight = more ka.holds kr.holds t c l 7 (seven inside) (λ x. joined (offers_back (λ y. Misjoined t.shape y) x)) in
          let nine = more ka.holds kr.holds t c l 8 eight (λ x. placed x.0 (offers_back (λ y. IsSourceAstray ka.holds kr.holds t y x.0) x.1)) in
          subst (λ z. Right ka.holds kr.holds t c l (Refused z)) (sym is) (refuse ka.holds kr.holds t c l (DestinationAstray v) nine (offers (λ y. IsDestinationAstray ka.holds kr.holds t y v) astray))

      pub fits_below : Fits ka.holds kr.holds t p → Below ka.holds kr.holds t c l 10
      fits_below f =
          let eight = more ka.holds kr.holds t c l 7 (seven f.inside) (λ x. f.joined (offers_back (λ y. Misjoined t.shape y) x)) in
          let nine = more ka.holds kr.holds t c l 8 eight (λ x. f.source x.0 (offers_back (λ y. IsSourceAstray ka.holds kr.holds t y x.0) x.1)) in
          more ka.holds kr.holds t c l 9 nine (λ x. f.destination x.0 (offers_back (λ y. IsDestinationAstray ka.holds kr.holds t y x.0) x.1))

  -- ask
  module _ (p : Property A R) (l : Lent) (long : IsTooShort l → ⊥) where
    abbrev ask : Call A R V W
    ask = Ask p

    ask_two : Below ka.holds kr.holds t ask l 2
    ask_two = more ka.holds kr.holds t ask l 1 (below_one ka.holds kr.holds t ask l) long

    pub ask_nowhere : NowhereBetween p ask l → Right ka.holds kr.holds t ask l (Refused NoSuch)
    ask_nowhere none = refuse ka.holds kr.holds t ask l NoSuch ask_two (nowhere_there p ask l none)

    module _ (between : NowhereBetween p ask l → ⊥) where
      ask_five : Below ka.holds kr.holds t ask l 5
      ask_five = more ka.holds kr.holds t ask l 4 (more ka.holds kr.holds t ask l 3 (more ka.holds kr.holds t ask l 2 ask_two (λ x. between (nowhere_here p ask l x))) (λ x. x)) (λ x. x)

      pub ask_misfits : (q : Refusal V W) → Misfits ka.holds kr.holds t p q → Right ka.holds kr.holds t ask l (Refused q)
      ask_misfits = misfit_right p ask l ask_five refl (λ b x. x) (λ h. h) (λ h. h)

      ask_none : Fits ka.holds kr.holds t p → (q : Refusal V W) → Applies ka.holds kr.holds t ask l q → ⊥
      ask_none fits =
          let up = more ka.holds kr.holds t ask l in
          none ka.holds kr.holds t ask l (up 12 (up 11 (up 10 (fits_below p ask l ask_five refl (λ b x. x) (λ h. h) (λ h. h) fits) (λ x. x.1)) (λ x. x.2)) (λ x. x.3))

      pub ask_turns : Fits ka.holds kr.holds t p → (found : Option (Break V W)) → AskedFound ka.holds kr.holds t p found
          → Right ka.holds kr.holds t ask l (asked_as found) × Pictures ka.plain kr.plain g s (then_tree t (record { call = ask; lent = l; answer = asked_as found }))
      ask_turns fits None kept = ((ask_none fits, kept), pic)
      ask_turns fits (Some b) breaks = ((ask_none fits, breaks), pic)
