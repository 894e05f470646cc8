use Rattle.std.proofs.Common.{sym, subst, arith}
use Rattle.formula.specs.declared.stores.Making.TheVariants as making
use Rattle.conditions.specs.Made.{Ends}
use Rattle.conditions.specs.Valued.{EndsUsed}
use Rattle.conditions.proofs.Frames.{room_later, not_accepted}
use Rattle.conditions.proofs.RowTurns.{rows_grown, last_made_used}
use Rattle.conditions.proofs.forms.condition_node.Goals as goal

pub make-requires : goal.make-requires
make-requires g c =
    let K = g.S.Value.Kind.kind in
    let M = g.S.Store.meaning in
    let steps = g.S.Store.steps in
    let lawful = g.met.S.Store.lawful in
    let sound = g.met.S.Store.sound in
    let rows = c.form_nodes.ensures.made in
    not_accepted K M c.form_nodes.new.store c.form_nodes.result.2
    (subst (EndsUsed M c.form_nodes.new.store) (sym c.form_nodes.ensures.last) (last_made_used K M steps lawful sound rows)).W
    (room_later M 1 _ (rows_grown K M steps lawful sound rows) (omega arith) c.requires.room)

pub returns : goal.returns
returns g c = record {
  between = c.form_nodes.new.store;
  rows_made = c.form_nodes.ensures.made;
  last_made = subst (λ (e : Ends). g.S.Store.steps c.form_nodes.new.store (making.Not e.W) c.make.result c.make.new.store) c.form_nodes.ensures.last c.make.ensures;
}
