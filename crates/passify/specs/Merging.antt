-- What the merging of two maps answers.
use Rattle.std.specs.Prelude.{◌≡◌, ◌≤◌, length}
use Rattle.routine.specs.Limits.{most_variables}
use Rattle.passive.specs.Passive.{Merge}
use Rattle.passify.specs.declared.maps.Merging.{Merging as Answer}

-- the map of both, the next new name, and how many variables each side renames
pub record Merges (r : Answer) (m : Merge) : Type 0 where
  pub names : r.names ≡ m.names
  pub next : r.next ≡ m.next
  pub renamed : r.renamed ≡ length m.left
  pub few : r.renamed ≤ most_variables
