use Rattle.std.proofs.Common.{Ok, sym, ap, ◌∙◌}
use Rattle.passify.proofs.SinglePieces.{assert_row, assume_row, assign_row}
use Rattle.passify.proofs.passing.single_row.Goals as goal

pub returns-in-Ok-Assert : goal.returns-in-Ok-Assert
returns-in-Ok-Assert c ts m =
    assert_row c.args.row c.args.next c.args.from c.with_term.result ts m
    (sym c.try_from.ensures ∙ (c.in-Ok-Assert.is ∙ ap Ok c.in-Ok-Assert.field-0-is)) c.with_term.ensures

pub returns-in-Ok-Assume : goal.returns-in-Ok-Assume
returns-in-Ok-Assume c ts m =
    assume_row c.args.row c.args.next c.args.from c.with_term-in-Ok-Assume.result ts m
    (sym c.try_from.ensures ∙ (c.in-Ok-Assume.is ∙ ap Ok c.in-Ok-Assume.field-0-is)) c.with_term-in-Ok-Assume.ensures

pub returns-in-Ok-Assign : goal.returns-in-Ok-Assign
returns-in-Ok-Assign c ts m =
    assign_row c.args.row c.args.next c.args.from c.with_term-in-Ok-Assign.result ts m
    (sym c.try_from.ensures ∙ (c.in-Ok-Assign.is ∙ ap Ok c.in-Ok-Assign.field-0-is)) c.with_term-in-Ok-Assign.ensures
