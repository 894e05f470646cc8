-- What the table store holds: a row for each node from 2 on, which says how the node was made.
use Rattle.std.specs.Prelude.{◌≡◌, ℕ, ◌-◌, true, cond, ◌&&◌, List, [], ◌∷◌, ◌++◌, length, get_or, take, Ok, Err, vec_items, Option, Result, ◌==◌, nat_le, slice_index_or}
use Rattle.kinds.specs.Kind.{KindOf}
use Rattle.kinds.specs.declared.numbered.Name.{Name}
use Rattle.kinds.specs.declared.numbered.Node.{Node}
use Rattle.kinds.specs.declared.refusals.Refusal.{Refusal}
use Rattle.kinds.specs.declared.refusals.Refusal.TheVariants.{NotInUse}
use Rattle.formula.specs.declared.stores.Making.{Making}
use Rattle.formula.specs.declared.stores.Making.TheVariants as making
use Rattle.formula.specs.Store.{stated, Meaning, unless, below}
use Rattle.formula.specs.Nodes.{room_of, no_place, NodeAdded, SameNodes}
use Rattle.formula.specs.declared.tables.NodeRow.{NodeRow}
use Rattle.formula.specs.declared.tables.TableStore.{TableStore}

-- rows

abbrev pub node_row : ℕ → ℕ → ℕ → ℕ → NodeRow
node_row tag operation first second = record { tag = tag; operation = operation; first = first; second = second }

-- the row of a making call
abbrev pub row_of : Making → NodeRow
row_of (making.Literal n) = node_row 1 0 n 0
row_of (making.Name f) = node_row 2 0 f.0 0
row_of (making.Operation op p q) = node_row 3 op p.0 q.0
row_of (making.Same p q) = node_row 4 0 p.0 q.0
row_of (making.Not p) = node_row 5 0 p.0 0
row_of (making.And p q) = node_row 6 0 p.0 q.0
row_of (making.Or p q) = node_row 7 0 p.0 q.0

abbrev pub first_name : NodeRow → Name
first_name row = record { 0 = row.first }

abbrev pub first_node : NodeRow → Node
first_node row = record { 0 = row.first }

abbrev pub second_node : NodeRow → Node
second_node row = record { 0 = row.second }

-- the making call of a row
abbrev pub making_of : NodeRow → Making
making_of row =
    cond (row.tag == 1) (making.Literal row.first)
    (cond (row.tag == 2) (making.Name (first_name row))
    (cond (row.tag == 3) (making.Operation row.operation (first_node row) (second_node row))
    (cond (row.tag == 4) (making.Same (first_node row) (second_node row))
    (cond (row.tag == 5) (making.Not (first_node row))
    (cond (row.tag == 6) (making.And (first_node row) (second_node row))
    (making.Or (first_node row) (second_node row)))))))

-- values

-- the values of the nodes before, and then of a node for each row, by the values before it
abbrev pub with_rows : {V : Type 0} → KindOf V → List V → List V → List NodeRow → List V
with_rows K a before [] = before
with_rows K a before (row ∷ rows) = with_rows K a (before ++ (stated K (λ n. get_or before n.0 K.no) a (making_of row) ∷ [])) rows

module _ {V : Type 0} where
  -- the rows of the nodes in use
  abbrev pub rows_used : TableStore V → List NodeRow
  rows_used s = take (s.nodes.count - 2) (vec_items s.nodes.items)

  -- the values of the nodes in use
  abbrev pub node_values : KindOf V → TableStore V → List V → List V
  node_values K s a = with_rows K a (K.no ∷ K.yes ∷ []) (rows_used s)

  -- a table store has the capacity of its rows and covers every assignment of its width
  abbrev pub table_meaning : KindOf V → Meaning V (TableStore V)
  table_meaning K = record {
    capacity = λ s. room_of s.nodes;
    width = λ s. s.width;
    count = λ s. s.nodes.count;
    in_use = λ s. below s.nodes.count;
    covers = λ s a. length a ≡ s.width;
    value = λ s n a. slice_index_or (node_values K s a) n.0 K.no;
  }

  -- what an accepted making call does: the next node gets its row, and the width stays
  abbrev pub table_steps : TableStore V → Making → Node → TableStore V → Type 0
  table_steps s c n t = NodeAdded s.nodes (row_of c) n t.nodes × (t.width ≡ s.width)

  -- whether a row of two nodes is refused, and why
  abbrev pub combine_refusal : TableStore V → Node → Node → Option Refusal
  combine_refusal s p q = unless (below s.nodes.count p && below s.nodes.count q) NotInUse (no_place s.nodes)

  -- the row of a node from 2 on
  abbrev pub row_asked : TableStore V → Node → Result NodeRow Refusal
  row_asked s n =
      cond (nat_le 2 n.0 && below s.nodes.count n)
      (Ok (slice_index_or (vec_items s.nodes.items) (n.0 - 2) (node_row 0 0 0 0)))
      (Err NotInUse)

  -- two table stores look alike: they have the same width, count and rows
  pub record SameTable (s s' : TableStore V) : Type 0 where
    pub nodes : SameNodes s.nodes s'.nodes
    pub width : s.width ≡ s'.width

-- the row asked of a node is that of the call that made it, now and after any later call
abbrev pub RowsStand : Type 0 → Type 0
RowsStand V =
    (s : TableStore V) (c : Making) (n : Node) (t : TableStore V) → table_steps s c n t →
    (row_asked t n ≡ Ok (row_of c)) × ((m : Node) → below s.nodes.count m ≡ true → row_asked t m ≡ row_asked s m)
