-- A routine as a tree of guarded commands.
use Rattle.std.specs.Prelude.{ℕ, ◌+◌, max, List, length}
use Rattle.kinds.specs.declared.numbered.Variable.{Variable}
use Rattle.routine.specs.declared.rows.Item.{Item}
use Rattle.routine.specs.declared.rows.Joint.{Joint}

-- a term in postfix order: R is what it may refer to, a variable here and a name in the passive form
abbrev pub Term : Type 0 → Type 0
Term R = List (Item R)

pub data Single : Type 0 where
  assert assume : Term Variable → Single
  assign : Variable → Term Variable → Single
  skip raise : Single

pub data Command : Type 0 where
  single : Single → Command
  join : Joint → Command → Command → Command

-- the command rows that a command takes
abbrev pub size : Command → ℕ
size (single c) = 1
size (join j a b) = size a + size b + 1

abbrev pub depth : Command → ℕ
depth (single c) = 1
depth (join j a b) = max (depth a) (depth b) + 1

-- the rows of all its terms
abbrev pub single_places : Single → ℕ
single_places (assert t) = length t
single_places (assume t) = length t
single_places (assign x t) = length t
single_places skip = 0
single_places raise = 0

abbrev pub places : Command → ℕ
places (single c) = single_places c
places (join j a b) = places a + places b
