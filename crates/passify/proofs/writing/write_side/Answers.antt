use Rattle.std.proofs.Common.{◌+◌, ◌*◌, length, ap, arith}
use Rattle.passify.specs.Pieces.{tail_piece, guard_piece}
use Rattle.passify.specs.Writing.{renamings, next_after}
use Rattle.passify.proofs.Sizes.{merge_up}
use Rattle.passify.proofs.Wrotes.{room_first}
use Rattle.passify.proofs.Behind.{guard_room, side_written}
use Rattle.passify.proofs.writing.write_side.Goals as goal

pub write_tail-tail-requires : goal.write_tail-tail-requires
write_tail-tail-requires c =
    let n = renamings c.args.a.now.normal c.args.b.now.normal c.args.next in
    let k = next_after c.args.a.now.normal c.args.b.now.normal c.args.next in
    let x = renamings c.args.a.now.raised c.args.b.now.raised k in
    record {
      names = omega (arith, c.requires.names, merge_up c.args.a.now.raised c.args.b.now.raised k);
      behind = c.requires.behind;
      room =
          room_first (tail_piece n c.args.at.row c.args.at.term) (guard_piece x (c.args.at.row + 2 * length n) (c.args.at.term + length n)) c.requires.room;
    }

pub write_guard-requires : goal.write_guard-requires
write_guard-requires c = record {
  names = omega (arith, c.requires.names, ap (next_after c.args.a.now.raised c.args.b.now.raised) c.write_tail-tail.ensures.next);
  behind = omega (arith, c.requires.behind, c.write_tail-tail.ensures.wrote.row_end);
  room =
      guard_room c.args.a.now c.args.b.now c.args.next _ _ _ _ _ _ _ c.write_tail-tail.ensures.wrote
      c.write_tail-tail.ensures.next c.requires.room;
}

pub returns : goal.returns
returns c =
    side_written c.args.a.now c.args.b.now c.args.next _ _ _ _ _ _ _ c.write_tail-tail.ensures.wrote
    c.write_tail-tail.ensures.next _ _ _ c.write_guard.ensures.wrote (omega (arith, c.requires.room.rows_room)) (omega (arith, c.requires.room.terms_room))
