use Rattle.std.proofs.Common.{◌≡◌, drop}
use Rattle.routine.specs.Decoding.{well_formed}
use Rattle.routine.proofs.checks.rows_make_a_term.Given as goal

-- what is left of the rows decides
abbrev pub invariant-loop-row : goal.invariant-loop-row
invariant-loop-row l = well_formed l.v l.ops l.waiting (drop l.row-index l.rows) ≡ well_formed l.v l.ops 0 l.rows
