use Rattle.std.proofs.Common.{ap, arith}
use Rattle.passify.specs.Pieces.{one_row}
use Rattle.passify.specs.Writing.{renamings}
use Rattle.passify.proofs.Wrotes.{wrote_as}
use Rattle.passify.proofs.Behind.{tail_lets_room, none_tail, tail_row_room, some_tail}
use Rattle.passify.proofs.writing.write_tail.Goals as goal

pub write_renaming-lets-requires : goal.write_renaming-lets-requires
write_renaming-lets-requires c = record { names = c.requires.names; room = tail_lets_room _ _ _ (renamings c.args.a c.args.b c.args.next) c.requires.room }

pub returns-then-lets-at : goal.returns-then-lets-at
returns-then-lets-at c = record {
  wrote = none_tail _ _ _ _ _ _ _ c.write_renaming-lets.ensures.wrote c.if-lets-at.true;
  next = c.write_renaming-lets.ensures.next;
}

pub write_row-requires : goal.write_row-requires
write_row-requires c =
    let r = tail_row_room _ _ _ _ _ _ _ c.write_renaming-lets.ensures.wrote c.if-lets-at.false c.requires.room in
    record { within = omega (arith, r.rows_room); few = omega (arith, r.rows_few) }

pub returns : goal.returns
returns c = record {
  wrote =
      some_tail _ _ _ _ _ _ _ c.write_renaming-lets.ensures.wrote c.if-lets-at.false _ _
      (wrote_as (ap one_row c.joining-joined.ensures) (c.write_row.ensures _)) (omega (arith, c.requires.room.rows_room)) (omega (arith, c.requires.room.terms_room));
  next = c.write_renaming-lets.ensures.next;
}
