use Rattle.conditions.specs.Made.{literal_made, name_made, operation_made}
use Rattle.conditions.proofs.terms.item_node.Goals as goal

pub returns-in-Literal : goal.returns-in-Literal
returns-in-Literal g c = rw (c.in-Literal.is, c.push.ensures) (literal_made c.make.ensures)

pub returns-in-Reference : goal.returns-in-Reference
returns-in-Reference g c = rw (c.in-Reference.is, c.push-in-Reference.ensures) (name_made c.make-in-Reference.ensures)

pub returns-in-Operation : goal.returns-in-Operation
returns-in-Operation g c =
    rw (c.in-Operation.is, c.push-in-Operation.ensures, c.pop-q.ensures.popped, c.pop-p.ensures.popped)
    (operation_made c.make-in-Operation.ensures)
