use Rattle.conditions.specs.Made.{sequence_made, choice_made, catch_made}
use Rattle.conditions.proofs.Frames.{grown_then}
use Rattle.conditions.proofs.RowLaws.{grew, or_and_grown}
use Rattle.conditions.proofs.rows.joint_nodes.Goals as goal

pub or_and-wrong-requires-clause-used : goal.or_and-wrong-requires-clause-used
or_and-wrong-requires-clause-used g c =
    let K = g.S.Value.Kind.kind in
    let M = g.S.Store.meaning in
    let steps = g.S.Store.steps in
    let lawful = g.met.S.Store.lawful in
    let sound = g.met.S.Store.sound in
    let grown = grown_then M (grew K M steps lawful sound c.make-normal.ensures) (or_and_grown K M steps lawful sound c.or_and-raised.ensures) in
    (grown.still_used _ c.requires.left.W, (grown.still_used _ c.requires.left.N, (grown.still_used _ c.requires.right.W, tt)))

pub returns-in-Sequence : goal.returns-in-Sequence
returns-in-Sequence g c = rw c.in-Sequence.is (sequence_made c.make-normal.ensures c.or_and-raised.ensures c.or_and-wrong.ensures)

pub returns-in-Choice : goal.returns-in-Choice
returns-in-Choice g c = rw c.in-Choice.is (choice_made c.make-normal-in-Choice.ensures c.make-raised.ensures c.make-wrong.ensures)

pub returns-in-Catch : goal.returns-in-Catch
returns-in-Catch g c = rw c.in-Catch.is (catch_made c.or_and-normal.ensures c.make-raised-in-Catch.ensures c.or_and-wrong-in-Catch.ensures)
