use Rattle.std.proofs.Common.{◌≡◌}
use Rattle.passive.specs.Passive.{names_from}
use Rattle.passify.proofs.maps.NameMap.first.Given as goal

abbrev pub invariant-loop-i : goal.invariant-loop-i
invariant-loop-i l = l.names ≡ names_from 0 l.i
