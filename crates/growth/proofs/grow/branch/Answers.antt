use Rattle.std.proofs.Common.{refl, sym, ap, subst, ◌∙◌}
use Rattle.model.specs.Shape.{branched}
use Rattle.model.specs.declared.answers.Answer.TheVariants.{Branched}
use Rattle.model.specs.declared.calls.Call.TheVariants.{Branch}
use Rattle.tree.specs.Refusals.{refusal_of}
use Rattle.state.specs.Memory.{lent_by, tables_of}
use Rattle.state.specs.Picture.{Tried}
use Rattle.state.proofs.Tries.{tried_exit_right, state_same}
use Rattle.growth.proofs.Growing.{branch_right, branch_refused, branch_same}
use Rattle.growth.proofs.grow.branch.Goals as goal

pub returns : goal.returns
returns g c = record {
  turns = λ t reached pic.
      let made = c.in_ok-branch.ensures in
      let long = c.in_ok-check_lengths.ensures in (
        branch_right g.A.Kind.holds g.R.Kind.holds c.args.state.now.tree t pic.shape (lent_by c.args.memory.now) long c.args.firewall c.args.interface c.in_ok-branch.field-0 c.branch-state.new.self made,
        record {
          addresses = pic.addresses;
          rests = pic.rests;
          shape = made.4 ∙ ap (λ z. branched z c.args.firewall c.args.interface) pic.shape;
          lists = pic.lists;
          block_count = pic.block_count;
          blocks = pic.blocks;
          property_count = pic.property_count;
          properties = pic.properties;
        },
      );
  state = tt;
  tables = refl;
  short = λ x. absurd (c.in_ok-check_lengths.ensures x);
}

pub returns-in_err-branch : goal.returns-in_err-branch
returns-in_err-branch g c =
    let failed = c.in_err-branch.ensures in
    let long = c.in_ok-check_lengths.ensures in
    let was = c.args.state.now in
    let s = tables_of c.args.memory.now in
    let cause = c.in_err-branch.field-0.0 in
    let call = Branch c.args.firewall c.args.interface in
    subst (λ h. Tried g.A.Kind g.R.Kind was s call (lent_by c.args.memory.now) Branched c.from_residual-in_err-branch.result h s)
    (sym (state_same was _ refl refl (branch_same was.tree c.branch-state.new.self c.args.firewall c.args.interface cause failed) refl refl refl))
    (tried_exit_right g.A.Kind g.R.Kind call (lent_by c.args.memory.now) Branched was s (refusal_of cause) c.from_residual-in_err-branch.result c.from_residual-in_err-branch.ensures.1 long
    (λ t reached pic. branch_refused g.A.Kind.holds g.R.Kind.holds was.tree t pic.shape (lent_by c.args.memory.now) long c.args.firewall c.args.interface cause c.branch-state.new.self failed))
