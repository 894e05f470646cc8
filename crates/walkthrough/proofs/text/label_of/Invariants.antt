use Rattle.std.proofs.Common.{◌≡◌, drop}
use Rattle.walkthrough.specs.Shown.{label_from}
use Rattle.walkthrough.proofs.text.label_of.Given as goal

abbrev pub invariant-loop-at : goal.invariant-loop-at
invariant-loop-at l = label_from l.at (drop l.at l.rows) l.node ≡ label_from 0 l.rows l.node
