use Rattle.std.proofs.Common.{◌≡◌, drop}
use Rattle.shapes.specs.Shapes.{perfect, part_rows, tree_rows}
use Rattle.shapes.proofs.tree_rows.Given as goal

-- the sizes that are left decide
abbrev pub invariant-loop-size : goal.invariant-loop-size
invariant-loop-size l = part_rows (drop l.size-index perfect) l.n ≡ tree_rows l.initial.n
