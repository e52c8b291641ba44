use Rattle.std.proofs.Common.{refl}
use Rattle.tables.proofs.Rows.{take_row_out, nth_row_out, drop_row_out}
use Rattle.tables.proofs.Shift.{removed_rows}
use Rattle.tables.proofs.edit.remove_row.Goals as goal

pub returns-clause-after : goal.returns-clause-after
returns-clause-after g c =
    let there = c.in_ok-row.ensures.there.0 refl in
    removed_rows c.args.rows.now c.args.used c.args.at _ c.rotate_left.new.self _ there.0 there.1 refl refl c.rotate_left.ensures.after

pub returns-clause-used : goal.returns-clause-used
returns-clause-used g c =
    let there = c.in_ok-row.ensures.there.0 refl in
    rw (returns-clause-after g c) (take_row_out c.args.used c.args.at c.args.rows.now there.0 there.1)

pub returns-clause-last : goal.returns-clause-last
returns-clause-last g c =
    let there = c.in_ok-row.ensures.there.0 refl in
    rw (returns-clause-after g c) (nth_row_out c.args.used c.args.at c.args.rows.now there.0 there.1)

pub returns-clause-past : goal.returns-clause-past
returns-clause-past g c =
    let there = c.in_ok-row.ensures.there.0 refl in
    rw (returns-clause-after g c) (drop_row_out c.args.used c.args.at c.args.rows.now there.0 there.1)
