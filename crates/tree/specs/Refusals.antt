-- What a refusal of the tree is to the register.
use Rattle.model.specs.declared.answers.Refusal as refusal
use Rattle.model.specs.declared.answers.Refusal.{Refusal}
use Rattle.tree.specs.declared.refusal.TreeRefusal as tree
use Rattle.tree.specs.declared.refusal.TreeRefusal.{TreeRefusal}

-- the refusal that stands for one of the tree table
abbrev pub refusal_of : {V W : Type 0} → TreeRefusal → Refusal V W
refusal_of tree.TheVariants.NoSuch = refusal.TheVariants.NoSuch
refusal_of tree.TheVariants.BadInterface = refusal.TheVariants.BadInterface
refusal_of tree.TheVariants.Full = refusal.TheVariants.Full
