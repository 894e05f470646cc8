-- What the making of nodes asks of a store and of rows, so that no call is refused.
use Rattle.std.specs.Prelude.{◌≡◌, ℕ, ◌+◌, ◌<◌, ◌≤◌, true, List, [], ◌∷◌, length, None}
use Rattle.kinds.specs.Kind.{KindOf}
use Rattle.kinds.specs.declared.numbered.Node.{Node}
use Rattle.kinds.specs.declared.numbered.Name.{Name}
use Rattle.routine.specs.Limits.{most_waiting}
use Rattle.routine.specs.declared.rows.Item.{Item}
use Rattle.routine.specs.declared.rows.Item.TheVariants.{Literal, Reference, Operation}
use Rattle.passive.specs.Outcomes.{single_nodes, joint_nodes}
use Rattle.passive.specs.Uses.{WorkableSingle}
use Rattle.passive.specs.declared.rows.PassiveTermRow.{PassiveTermRow}
use Rattle.passive.specs.declared.rows.PassiveRow.{PassiveRow}
use Rattle.formula.specs.declared.stores.Making.{Making}
use Rattle.formula.specs.Store.{Meaning, refused_by}
use Rattle.conditions.specs.Reading.{items, part, Reading, alone, joins, reading}
use Rattle.conditions.specs.Made.{Ends, ends}

-- the call is not refused
abbrev pub Accepted : {V : Type 0} {S : Type 0} → KindOf V → Meaning V S → S → Making → Type 0
Accepted K M s c = refused_by K M s c ≡ None

-- there is room for k more nodes
abbrev pub Room : {V : Type 0} {S : Type 0} → Meaning V S → S → ℕ → Type 0
Room M s k = M.count s + k ≤ M.capacity s

-- each of the nodes is in use
abbrev pub NodesUsed : {V : Type 0} {S : Type 0} → Meaning V S → S → List Node → Type 0
NodesUsed M s [] = Unit {0}
NodesUsed M s (n ∷ ns) = (M.in_use s n ≡ true) × NodesUsed M s ns

-- an item of a term may stand where w nodes wait
abbrev pub ItemWorkable : ℕ → ℕ → Item Name → ℕ → Type 0
ItemWorkable ops width (Literal n) w = w < most_waiting
ItemWorkable ops width (Reference f) w = (w < most_waiting) × (f.0 < width)
ItemWorkable ops width (Operation k) w = (2 ≤ w) × (k < ops)

-- the code's three nodes
abbrev pub ends_of : Node × Node × Node → Ends
ends_of e = ends e.0 e.1 e.2

-- how many nodes a row takes
abbrev pub reading_nodes : Reading → ℕ
reading_nodes (alone p) = single_nodes p
reading_nodes (joins j) = joint_nodes j

-- the names of a row are below the width, and its term can be worked out
abbrev pub ReadingWorkable : ℕ → ℕ → Reading → Type 0
ReadingWorkable ops width (alone p) = WorkableSingle ops width p
ReadingWorkable ops width (joins j) = Unit {0}

-- the left part of a joined row i ends before it; a row alone does not use `left`, which is a row of the table all the same
abbrev pub LeftBefore : ℕ → ℕ → Reading → Type 0
LeftBefore i left (alone p) = left ≤ i
LeftBefore i left (joins j) = left < i

-- row i is one of a passive form with these terms
pub record RowFits (ops width : ℕ) (terms : List PassiveTermRow) (i : ℕ) (r : PassiveRow) : Type 0 where
  pub within : r.from + r.count ≤ length terms
  pub workable : ReadingWorkable ops width (reading r (items (part terms r)))
  pub before : LeftBefore i r.left (reading r (items (part terms r)))

-- and so are the rows from row i on
abbrev pub RowsFit : ℕ → ℕ → List PassiveTermRow → ℕ → List PassiveRow → Type 0
RowsFit ops width terms i [] = Unit {0}
RowsFit ops width terms i (r ∷ rs) = RowFits ops width terms i r × RowsFit ops width terms (i + 1) rs

-- how many nodes the rows take
abbrev pub rows_nodes : List PassiveTermRow → List PassiveRow → ℕ
rows_nodes terms [] = 0
rows_nodes terms (r ∷ rs) = reading_nodes (reading r (items (part terms r))) + rows_nodes terms rs
