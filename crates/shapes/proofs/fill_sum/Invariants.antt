use Rattle.std.proofs.Common.{◌≡◌, ℕ, ◌<◌, get_or}
use Rattle.worked.specs.Tables.{literal_row}
use Rattle.shapes.specs.Shapes.{sum_row}
use Rattle.shapes.proofs.fill_sum.Given as goal

abbrev pub invariant-loop-i : goal.invariant-loop-i
invariant-loop-i l = (k : ℕ) → k < l.i → get_or l.terms k (literal_row 0) ≡ sum_row l.rows k
