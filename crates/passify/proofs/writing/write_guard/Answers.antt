use Rattle.std.proofs.Common.{ap, arith}
use Rattle.passify.specs.Pieces.{one_row}
use Rattle.passify.specs.Writing.{renamings}
use Rattle.passify.proofs.Wrotes.{wrote_as}
use Rattle.passify.proofs.Behind.{guard_lets_room, none_guard, guard_row_room, some_guard}
use Rattle.passify.proofs.writing.write_guard.Goals as goal

pub write_renaming-lets-requires : goal.write_renaming-lets-requires
write_renaming-lets-requires c = record { names = c.requires.names; room = guard_lets_room _ _ _ (renamings c.args.a c.args.b c.args.next) c.requires.room }

pub returns-then-lets-at : goal.returns-then-lets-at
returns-then-lets-at c = record {
  wrote = none_guard _ _ _ _ _ _ _ c.write_renaming-lets.ensures.wrote c.if-lets-at.true;
  next = c.write_renaming-lets.ensures.next;
}

pub write_row-raise-requires : goal.write_row-raise-requires
write_row-raise-requires c =
    let r = guard_row_room _ _ _ _ _ _ _ c.write_renaming-lets.ensures.wrote c.if-lets-at.false c.requires.room in
    record { within = omega (arith, r.0); few = omega (arith, r.1) }

pub write_row-sequence-requires : goal.write_row-sequence-requires
write_row-sequence-requires c =
    let r = guard_row_room _ _ _ _ _ _ _ c.write_renaming-lets.ensures.wrote c.if-lets-at.false c.requires.room in
    let u = c.write_row-raise.ensures c.write_renaming-lets.new.terms in
    record { within = omega (arith, r.0, u.row_end); few = omega (arith, r.1, u.row_end) }

pub write_row-requires : goal.write_row-requires
write_row-requires c =
    let r = guard_row_room _ _ _ _ _ _ _ c.write_renaming-lets.ensures.wrote c.if-lets-at.false c.requires.room in
    let u = c.write_row-raise.ensures c.write_renaming-lets.new.terms in
    let w = c.write_row-sequence.ensures c.write_renaming-lets.new.terms in
    record { within = omega (arith, r.0, u.row_end, w.row_end); few = omega (arith, r.1, u.row_end, w.row_end) }

pub returns : goal.returns
returns c = record {
  wrote =
      some_guard _ _ _ _ _ _ _ c.write_renaming-lets.ensures.wrote c.if-lets-at.false _ _ _ _ _ _
      (wrote_as (ap one_row c.plain.ensures) (c.write_row-raise.ensures _))
      (wrote_as (ap one_row c.joining-joined.ensures) (c.write_row-sequence.ensures _))
      (wrote_as (ap one_row c.joining-caught.ensures) (c.write_row.ensures _))
      (omega (arith, c.requires.room.rows_room)) (omega (arith, c.requires.room.terms_room));
  next = c.write_renaming-lets.ensures.next;
}
