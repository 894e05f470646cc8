use Rattle.std.proofs.Common.{length}
use Rattle.passify.proofs.LetTurns.{Sofar}
use Rattle.passify.proofs.writing.write_lets.Given as goal

abbrev pub invariant-loop-old : goal.invariant-loop-old
invariant-loop-old l = Sofar l.a l.b l.next l.start l.initial.rows l.initial.terms l.k (length l.yielded) l.at l.rows l.terms
