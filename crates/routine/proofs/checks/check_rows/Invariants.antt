use Rattle.routine.proofs.Finished.{Sofar}
use Rattle.routine.proofs.checks.check_rows.Given as goal

abbrev pub invariant-loop-i : goal.invariant-loop-i
invariant-loop-i l = Sofar l.v l.ops l.terms l.commands l.parts l.i
