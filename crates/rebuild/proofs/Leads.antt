-- Calls that lead from one tree to another, each accepted where it comes.
use Rattle.std.proofs.Common.{◌≡◌, List, [], ◌∷◌, ◌++◌, sym, subst}
use Rattle.model.specs.Tree.{Tree, after}
use Rattle.model.specs.declared.calls.Call.{Call}
use Rattle.rebuild.specs.Again.{built, Accepted}

module _ {A R V W : Type 0} (addr : A → V → Type 0) (rests : R → W → Type 0) where
  abbrev pub Leads : Tree A R → List (Call A R V W) → Tree A R → Type 0
  Leads s [] n = s ≡ n
  Leads s (c ∷ cs) n = Accepted addr rests s c × Leads (after s c) cs n

  -- one call more in front, which is c and makes of s the tree m
  pub leads_by : (s m n : Tree A R) (b c : Call A R V W) (cs : List (Call A R V W)) → b ≡ c → Accepted addr rests s c → after s c ≡ m → Leads m cs n → Leads s (b ∷ cs) n
  leads_by s m n b c cs is accepted makes on = subst (λ x. Leads s (x ∷ cs) n) (sym is) (accepted, subst (λ x. Leads x cs n) (sym makes) on)

  pub leads_on : (s : Tree A R) (cs ds : List (Call A R V W)) (m n : Tree A R) → Leads s cs m → Leads m ds n → Leads s (cs ++ ds) n
  leads_on s [] ds m n e on = subst (λ x. Leads x ds n) (sym e) on
  leads_on s (c ∷ cs) ds m n leads on = (leads.0, leads_on (after s c) cs ds m n leads.1 on)

  pub leads_built : (s : Tree A R) (cs : List (Call A R V W)) (n : Tree A R) → Leads s cs n → built s cs ≡ n
  leads_built s [] n e = e
  leads_built s (c ∷ cs) n leads = leads_built (after s c) cs n leads.1

  pub leads_accepted : (s : Tree A R) (before : List (Call A R V W)) (c : Call A R V W) (behind : List (Call A R V W)) (n : Tree A R)
      → Leads s (before ++ (c ∷ behind)) n → Accepted addr rests (built s before) c
  leads_accepted s [] c behind n leads = leads.0
  leads_accepted s (b ∷ before) c behind n leads = leads_accepted (after s b) before c behind n leads.1
