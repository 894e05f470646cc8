use Rattle.std.proofs.Common.{◌≡◌, ℕ, ◌%◌, ◌<◌, get_or}
use Rattle.worked.specs.Tables.{skip_row}
use Rattle.shapes.specs.Shapes.{chain_row}
use Rattle.shapes.proofs.fill_chains.Given as goal

abbrev pub invariant-loop-i : goal.invariant-loop-i
invariant-loop-i l = (k : ℕ) → k < l.i → get_or l.rows k skip_row ≡ chain_row l.inner (k % 65536)
