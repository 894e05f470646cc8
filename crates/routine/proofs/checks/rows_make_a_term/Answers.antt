use Rattle.std.proofs.Common.{sym, ◌∙◌}
use Rattle.std.proofs.lemmas.List.{at_drop_all}
use Rattle.routine.specs.Decoding.{well_formed}
use Rattle.routine.proofs.Terms.{term_turn}
use Rattle.routine.proofs.checks.rows_make_a_term.Goals as goal

pub loop-row-preserved : goal.loop-row-preserved
loop-row-preserved c =
    sym (term_turn _ _ _ _ _ _ _ c.loop-row-test.true (sym c.waiting_after_row.ensures ∙ c.in-Some.is)) ∙ c.loop-row.invariant

pub returns-in-None : goal.returns-in-None
returns-in-None c =
    sym (term_turn _ _ _ _ _ _ _ c.loop-row-test.true (sym c.waiting_after_row.ensures ∙ c.in-None.is)) ∙ c.loop-row.invariant

pub returns : goal.returns
returns c = sym (at_drop_all (well_formed c.args.v c.args.ops c.loop-row.waiting) _ _ c.loop-row-test.false) ∙ c.loop-row.invariant
