use Rattle.std.proofs.Common.{◌≡◌, ◌+◌, length, take, drop, set, Some, refl, ap, ◌∙◌, subst, arith}
use Rattle.std.specs.List.{slice_get}
use Rattle.std.specs.Result.{is_ok}
use Rattle.std.proofs.lemmas.Result.{err_from_is_err_and}
use Rattle.model.specs.declared.calls.Call.TheVariants.{Place}
use Rattle.tables.specs.Rows.{row_in, row_out}
use Rattle.state.specs.Memory.{lent_by, tables_of}
use Rattle.state.proofs.Tries.{chosen, row_answered}
use Rattle.edits.specs.Edits.{There, Room, list_length}
use Rattle.edits.proofs.Edits.{frames_enough, place_there, opened_tried, place_done, place_undone}
use Rattle.edits.proofs.rules.place.Goals as goal

pub returns-in_err-check_place-clause-does : goal.returns-in_err-check_place-clause-does
returns-in_err-check_place-clause-does g c =
    let e = err_from_is_err_and c.from_residual.result c.from_residual.ensures.1 in
    let was = c.args.state.now in
    let f = c.args.firewall in
    rw (e.1, e.2)
    (opened_tried g.A.Kind g.R.Kind was (lent_by c.args.memory.now) (Place f c.args.position c.args.rule) 12
    (There was (lent_by c.args.memory.now) f (list_length was f + 1) c.args.position × Room was f) _ c.in_err-check_place.ensures (tables_of c.args.memory.now))

pub unwrap-behind-requires : goal.unwrap-behind-requires
unwrap-behind-requires g c = c.insert_row.ensures.room.1 (place_there c.args.state.now (lent_by c.args.memory.now) c.args.firewall c.args.position c.in_ok-check_place.ensures.fits _ _ c.total-used.ensures c.start-start.ensures)

pub check_kept-requires : goal.check_kept-requires
check_kept-requires g c =
    let (there, room) = c.in_ok-check_place.ensures.fits in
    let free = room.list in
    let is = ap length c.rows_from.ensures in
    let less = frames_enough (lent_by c.args.memory.now) there.long (c.length-size.result + 1) (omega (arith, c.length-size.ensures)) (drop c.start-start.result c.insert_row.new.rows) in
    omega arith

pub returns-in-Ok-clause-does : goal.returns-in-Ok-clause-does
returns-in-Ok-clause-does g c =
    let (there, room) = c.in_ok-check_place.ensures.fits in
    let m = c.args.memory.now in
    let rows = c.insert_row.new.rows in
    let within = place_there c.args.state.now (lent_by m) c.args.firewall c.args.position c.in_ok-check_place.ensures.fits _ _ c.total-used.ensures c.start-start.ensures in
    place_done g.A.Kind g.R.Kind c.args.state.now (lent_by m) m.rules.now rows m.blocks.now m.properties.now
    c.args.firewall c.args.position c.args.rule there room refl
    (chosen _ _ _ _ c.insert_row.ensures.room within c.insert_row.ensures.after ∙ (λ i. row_in (c.total-used.ensures i) (c.start-start.ensures i + c.args.position) (c.rule_row.ensures i) m.rules.now))
    c.in_ok-check_place.ensures.right tt
    (λ t rs stands is. c.in-Ok.ensures t rs stands (c.rows_from.ensures ∙ (λ i. take (c.length-size.ensures i + 1) (drop (c.start-start.ensures i) rows)) ∙ is))
    _ (record { addresses = refl; rests = refl; tree = refl; block_count = refl; property_count = refl }) (is_ok c.grow.result) c.grow.ensures.room c.grow.ensures.after

pub returns-in-Err-clause-does : goal.returns-in-Err-clause-does
returns-in-Err-clause-does g c =
    let (there, room) = c.in_ok-check_place.ensures.fits in
    let m = c.args.memory.now in
    let rows = c.insert_row.new.rows in
    let used = c.total-used.ensures in
    let within = place_there c.args.state.now (lent_by m) c.args.firewall c.args.position c.in_ok-check_place.ensures.fits _ _ c.total-used.ensures c.start-start.ensures in
    let out = chosen _ _ _ _ c.remove_row.ensures.there (omega (arith, within.0), omega (arith, within.1, c.insert_row.auto.rows)) c.remove_row.ensures.after in
    let last = chosen _ _ _ _ c.replace_row.ensures.there (omega arith, omega (arith, within.1, c.insert_row.auto.rows, c.remove_row.auto.rows)) c.replace_row.ensures.after in
    place_undone g.A.Kind g.R.Kind c.args.state.now (lent_by m) m.rules.now rows m.blocks.now m.properties.now
    c.args.firewall c.args.position c.args.rule there room refl
    (chosen _ _ _ _ c.insert_row.ensures.room within c.insert_row.ensures.after ∙ (λ i. row_in (used i) (c.start-start.ensures i + c.args.position) (c.rule_row.ensures i) m.rules.now))
    c.in_ok-check_place.ensures.right c.in-Err.refusal
    (λ t rs stands is. c.in-Err.ensures t rs stands (c.rows_from.ensures ∙ (λ i. take (c.length-size.ensures i + 1) (drop (c.start-start.ensures i) rows)) ∙ is))
    c.unwrap-behind.result (subst (λ n. slice_get m.rules.now n ≡ Some c.unwrap-behind.result) used (row_answered m.rules.now c.total-used.result _ _ c.unwrap-behind.ensures c.insert_row.ensures.behind))
    c.replace_row.new.rows
    (last ∙ (λ i. set (out i) c.total-used.result c.unwrap-behind.result) ∙ (λ i. set (row_out (used i + 1) (c.start-start.ensures i + c.args.position) rows) (used i) c.unwrap-behind.result))
