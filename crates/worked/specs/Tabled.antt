-- How a routine of the code stands for rows.
use Rattle.std.specs.Prelude.{◌≡◌, ℕ, List}
use Rattle.routine.specs.declared.rows.TermRow.{TermRow}
use Rattle.routine.specs.declared.rows.CommandRow.{CommandRow}
use Rattle.worked.specs.declared.Routine.{Routine}

-- the number of variables, and the rows that stand in the slices
pub record Tabled (r : Routine) (v : ℕ) (commands : List CommandRow) (terms : List TermRow) : Type 0 where
  pub variables : r.v ≡ v
  pub rows : r.commands.now ≡ commands
  pub items : r.terms.now ≡ terms
