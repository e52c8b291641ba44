use Rattle.std.proofs.Common.{refl, ap, ◌∙◌, arith}
use Rattle.tables.specs.Rows.{row_in}
use Rattle.tables.proofs.Rows.{take_row_in, drop_row_in}
use Rattle.tables.proofs.Shift.{inserted_rows}
use Rattle.tables.proofs.edit.insert_row.Goals as goal

pub returns-clause-after : goal.returns-clause-after
returns-clause-after g c =
    let rows = c.args.rows.now in
    let u = c.args.used in
    let at = c.args.at in
    inserted_rows rows u at _ c.replace-behind.new.dest c.rotate_right.new.self _ (omega arith) (omega arith) refl refl c.rotate_right.ensures.after ∙ ap (λ x. row_in u at x rows) c.replace-behind.ensures.after

pub returns-clause-used : goal.returns-clause-used
returns-clause-used g c = rw (returns-clause-after g c) (take_row_in c.args.used c.args.at c.args.row c.args.rows.now (omega arith) (omega arith))

pub returns-clause-past : goal.returns-clause-past
returns-clause-past g c = rw (returns-clause-after g c) (drop_row_in c.args.used c.args.at c.args.row c.args.rows.now (omega arith) (omega arith))
