use Rattle.passify.proofs.MergeTurns.{Turned}
use Rattle.passify.proofs.maps.merge_present.Given as goal

abbrev pub invariant-loop-i : goal.invariant-loop-i
invariant-loop-i l = Turned l.a l.b l.both l.k l.renamed l.next l.i
