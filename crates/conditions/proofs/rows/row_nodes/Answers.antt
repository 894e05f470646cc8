use Rattle.std.proofs.Common.{arith, rules}
use Rattle.conditions.specs.Reading.{items}
use Rattle.conditions.specs.Made.{assert_made, assume_made, let_made, skip_made, raise_made, stop_made}
use Rattle.conditions.proofs.Frames.{grown_then, room_later, not_accepted, same_accepted}
use Rattle.conditions.proofs.TermLaws.{term_grown, term_used}
use Rattle.conditions.proofs.RowLaws.{made}
use Rattle.conditions.proofs.RowAsks.{made_as, room_as}
use Rattle.conditions.proofs.rows.row_nodes.Goals as goal

pub make-wrong-requires : goal.make-wrong-requires
make-wrong-requires g c =
    let K = g.S.Value.Kind.kind in
    let M = g.S.Store.meaning in
    let steps = g.S.Store.steps in
    let sound = g.met.S.Store.sound in
    let term = c.term_node-normal.ensures in
    let room = room_as c.args.row (items c.args.terms.now) c.try_from.ensures c.unwrap_or.ensures c.in-Assert.is M c.args.store.now c.requires.room in
    not_accepted K M c.term_node-normal.new.store c.term_node-normal.result (term_used K M steps sound term tt)
    (room_later M 1 _ (term_grown K M steps sound term) (omega arith) room)

pub make-requires : goal.make-requires
make-requires g c =
    let K = g.S.Value.Kind.kind in
    let M = g.S.Store.meaning in
    let steps = g.S.Store.steps in
    let lawful = g.met.S.Store.lawful in
    let sound = g.met.S.Store.sound in
    let named = made K M steps lawful sound c.make-name.ensures in
    let term = c.term_node-value.ensures in
    let grown = term_grown K M steps sound term in
    let room = room_as c.args.row (items c.args.terms.now) c.try_from.ensures c.unwrap_or.ensures c.in-Let.is M c.args.store.now c.requires.room in
    let name_used = grown.still_used _ named.used in
    let value_used = term_used K M steps sound term tt in
    same_accepted K M c.term_node-value.new.store _ _ (search rules) (search rules)
    (room_later M 1 _ (grown_then M named.grown grown) (omega arith) room)

pub returns-in-Assert : goal.returns-in-Assert
returns-in-Assert g c =
    made_as c.args.row (items c.args.terms.now) c.try_from.ensures c.unwrap_or.ensures c.in-Assert.is g.S.Store.steps _ _ _ _ _ (assert_made c.term_node-normal.ensures c.make-wrong.ensures)

pub returns-in-Assume : goal.returns-in-Assume
returns-in-Assume g c =
    made_as c.args.row (items c.args.terms.now) c.try_from.ensures c.unwrap_or.ensures c.in-Assume.is g.S.Store.steps _ _ _ _ _ (assume_made c.term_node.ensures)

pub returns-in-Skip : goal.returns-in-Skip
returns-in-Skip g c =
    made_as c.args.row (items c.args.terms.now) c.try_from.ensures c.unwrap_or.ensures c.in-Skip.is g.S.Store.steps _ _ _ _ _ (skip_made)

pub returns-in-Raise : goal.returns-in-Raise
returns-in-Raise g c =
    made_as c.args.row (items c.args.terms.now) c.try_from.ensures c.unwrap_or.ensures c.in-Raise.is g.S.Store.steps _ _ _ _ _ (raise_made)

pub returns-in-Let : goal.returns-in-Let
returns-in-Let g c =
    made_as c.args.row (items c.args.terms.now) c.try_from.ensures c.unwrap_or.ensures c.in-Let.is g.S.Store.steps _ _ _ _ _ (let_made c.make-name.ensures c.term_node-value.ensures c.make.ensures)

pub returns-in-Stop : goal.returns-in-Stop
returns-in-Stop g c =
    made_as c.args.row (items c.args.terms.now) c.try_from.ensures c.unwrap_or.ensures c.in-Stop.is g.S.Store.steps _ _ _ _ _ (stop_made)
