use Rattle.std.proofs.Common.{Some, sym, ap, ◌∙◌, arith}
use Rattle.passify.specs.Pieces.{one_row}
use Rattle.passify.proofs.Wrotes.{wrote_as}
use Rattle.passify.proofs.RowParts.{left_falls, single_measurable, joined_fits}
use Rattle.passify.proofs.RowWrites.{writable_measurable, stop_written, from_same, room_same, single_writable, left_writable, left_measures, right_measured, left_side_room, right_writable, middle_some, right_side_room, row_room, joined_written}
use Rattle.passify.proofs.passing.+passify_row.Goals as goal

pub returns-in_default : goal.returns-in_default
returns-in_default t c =
    stop_written _ _ _ _ _ _ _ _ _ (record { measured = c.measure_stop.result; end = c.write_row.result }) c.in_default.is c.measure_stop.ensures
    (wrote_as (ap one_row c.plain.ensures) (c.write_row.ensures _))

pub passify_single-end-requires : goal.passify_single-end-requires
passify_single-end-requires t c =
    let w = room_same _ _ _ _ _ _ _ c.in-Some.is c.requires in
    let n = sym c.joint.ensures ∙ c.in_default-joint.is in
    single_writable _ _ _ _ _ _ _ _ n w

pub measure_single-measured-requires : goal.measure_single-measured-requires
measure_single-measured-requires t c =
    let w = room_same _ _ _ _ _ _ _ c.in-Some.is c.requires in
    let n = sym c.joint.ensures ∙ c.in_default-joint.is in
    (c.args.terms.now, single_measurable _ _ _ _ _ n (writable_measurable _ _ _ c.args.next _ _ _ (Some c.in-Some.m) w))

pub passify_row-requires : goal.passify_row-requires
passify_row-requires t c =
    let w = room_same _ _ _ _ _ _ _ c.in-Some.is c.requires in
    let s = sym c.joint.ensures ∙ c.in-Some-joint.is in
    let f = writable_measurable _ _ _ c.args.next _ _ _ (Some c.in-Some.m) w in
    (omega (arith, left_falls _ _ _ c.args.next c.in-Some.m _ s f, c.decreases), room_same _ _ _ _ _ _ _ (sym c.in-Some.is) (left_writable _ _ _ _ _ _ _ _ _ s w))

pub measure_row-requires : goal.measure_row-requires
measure_row-requires t c =
    let w = room_same _ _ _ _ _ _ _ c.in-Some.is c.requires in
    let s = sym c.joint.ensures ∙ c.in-Some-joint.is in
    (c.args.terms.now, right_measured _ _ _ _ _ _ _ _ _ s _ _ _ (from_same _ _ _ _ _ _ _ c.in-Some.is c.passify_row.ensures) _ (c.entry-start.ensures _ c.in-Some.is) w)

pub write_side-middle-requires : goal.write_side-middle-requires
write_side-middle-requires t c =
    let w = room_same _ _ _ _ _ _ _ c.in-Some.is c.requires in
    let s = sym c.joint.ensures ∙ c.in-Some-joint.is in
    let h = left_side_room _ _ _ _ _ _ _ _ _ s _ _ _ (from_same _ _ _ _ _ _ _ c.in-Some.is c.passify_row.ensures) _ (c.entry-start.ensures _ c.in-Some.is) _ (c.measure_row.ensures c.args.terms.now) _ c.left_exits.ensures w in
    record { names = h.names; behind = h.behind; room = h.room }

pub passify_row-requires-2 : goal.passify_row-requires-2
passify_row-requires-2 t c =
    let w = room_same _ _ _ _ _ _ _ c.in-Some.is c.requires in
    let s = sym c.joint.ensures ∙ c.in-Some-joint.is in
    let f = writable_measurable _ _ _ c.args.next _ _ _ (Some c.in-Some.m) w in (
      omega (arith, left_falls _ _ _ c.args.next c.in-Some.m _ s f, c.decreases),
      right_writable _ _ _ _ _ _ _ _ _ s _ _ _ (from_same _ _ _ _ _ _ _ c.in-Some.is c.passify_row.ensures) _ (c.entry-start.ensures _ c.in-Some.is) _ (c.measure_row.ensures c.args.terms.now) _ c.left_exits.ensures _ _ _ c.write_side-middle.ensures w,
    )

pub write_side-behind-requires : goal.write_side-behind-requires
write_side-behind-requires t c =
    let w = room_same _ _ _ _ _ _ _ c.in-Some.is c.requires in
    let s = sym c.joint.ensures ∙ c.in-Some-joint.is in
    let a = c.passify_row-2.ensures in
    let h = right_side_room _ _ _ _ _ _ _ _ _ s _ _ _ (from_same _ _ _ _ _ _ _ c.in-Some.is c.passify_row.ensures) _ (c.entry-start.ensures _ c.in-Some.is) _ (c.measure_row.ensures c.args.terms.now) _ c.left_exits.ensures _ _ _ c.write_side-middle.ensures _ _ _ a w in
    record { names = h.names; behind = h.behind; room = h.room }

pub overflow_sub-middle : goal.overflow_sub-middle
overflow_sub-middle t c =
    let w = room_same _ _ _ _ _ _ _ c.in-Some.is c.requires in
    let s = sym c.joint.ensures ∙ c.in-Some-joint.is in
    omega (arith, middle_some _ _ _ _ _ _ _ _ _ s _ _ _ (from_same _ _ _ _ _ _ _ c.in-Some.is c.passify_row.ensures) _ (c.entry-start.ensures _ c.in-Some.is) _ (c.measure_row.ensures c.args.terms.now) _ c.left_exits.ensures _ _ _ c.write_side-middle.ensures w)

pub measure_joined-requires : goal.measure_joined-requires
measure_joined-requires t c =
    let w = room_same _ _ _ _ _ _ _ c.in-Some.is c.requires in
    let s = sym c.joint.ensures ∙ c.in-Some-joint.is in
    joined_fits _ _ _ _ _ _ s _ (left_measures _ _ _ _ _ _ _ _ _ s _ _ _ (from_same _ _ _ _ _ _ _ c.in-Some.is c.passify_row.ensures) _ (c.entry-start.ensures _ c.in-Some.is)) _ (c.entry-start.ensures _ c.in-Some.is) _
    (c.measure_row.ensures c.args.terms.now) (writable_measurable _ _ _ c.args.next _ _ _ (Some c.in-Some.m) w)

pub write_row-requires-2 : goal.write_row-requires-2
write_row-requires-2 t c =
    let w = room_same _ _ _ _ _ _ _ c.in-Some.is c.requires in
    let s = sym c.joint.ensures ∙ c.in-Some-joint.is in
    let a = c.passify_row-2.ensures in
    let r = row_room _ _ _ _ _ _ _ _ _ s _ _ _ (from_same _ _ _ _ _ _ _ c.in-Some.is c.passify_row.ensures) _ (c.entry-start.ensures _ c.in-Some.is) _ (c.measure_row.ensures c.args.terms.now) _ c.left_exits.ensures _ _ _ c.write_side-middle.ensures _ _ _ a _ _ _ c.write_side-behind.ensures w in
    record { within = r.0; few = r.1 }

pub returns : goal.returns
returns t c =
    let w = room_same _ _ _ _ _ _ _ c.in-Some.is c.requires in
    let s = sym c.joint.ensures ∙ c.in-Some-joint.is in
    let a = c.passify_row-2.ensures in
    from_same _ _ _ _ _ _ _ (sym c.in-Some.is)
    (joined_written _ _ _ _ _ _ _ _ _ s _ _ _ (from_same _ _ _ _ _ _ _ c.in-Some.is c.passify_row.ensures) _ (c.entry-start.ensures _ c.in-Some.is) _ (c.measure_row.ensures c.args.terms.now) _ c.left_exits.ensures _ _ _ c.write_side-middle.ensures _ _ _ a _ _ _ c.write_side-behind.ensures _ _ _ _ w c.measure_joined.ensures c.joining-joined.ensures
    (c.write_row-2.ensures c.write_side-behind.new.terms))
