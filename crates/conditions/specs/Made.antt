-- Which making calls make the nodes of a passive form and its condition, in which order and on which nodes.
use Rattle.std.specs.Prelude.{ℕ, ◌-◌, List, [], ◌∷◌, ◌++◌, length, slice_index_or}
use Rattle.kinds.specs.declared.numbered.Name.{Name}
use Rattle.kinds.specs.declared.numbered.Node.{Node}
use Rattle.routine.specs.declared.rows.Item.{Item}
use Rattle.routine.specs.declared.rows.Item.TheVariants.{Literal, Reference, Operation}
use Rattle.routine.specs.declared.rows.Joint.{Joint}
use Rattle.routine.specs.declared.rows.Joint.TheVariants.{Sequence, Choice, Catch}
use Rattle.routine.specs.Commands.{Term}
use Rattle.passive.specs.Passive.{PassiveSingle, p_assert, p_assume, p_let, p_skip, p_raise, p_stop, Passive}
use Rattle.passive.specs.Layout.{plain_row, layout, term_rows}
use Rattle.passive.specs.declared.rows.PassiveTermRow.{PassiveTermRow}
use Rattle.passive.specs.declared.rows.PassiveRow.{PassiveRow}
use Rattle.formula.specs.declared.stores.Making.{Making}
use Rattle.formula.specs.declared.stores.Making.TheVariants as making
use Rattle.formula.specs.Store.{node_no, node_yes}
use Rattle.conditions.specs.Reading.{items, part, Reading, alone, joins, reading}

-- the nodes that say whether a form may end normally, raised or wrong
pub record Ends : Type 0 where
  pub N : Node
  pub X : Node
  pub W : Node

-- N, X and W in this order
abbrev pub ends : Node → Node → Node → Ends
ends n x w = record { N = n; X = x; W = w }

-- the nodes in a row
abbrev pub row_ends : PassiveRow → Ends
row_ends r = ends r.n r.x r.w

-- the row with these nodes in it
abbrev pub filled : PassiveRow → Ends → PassiveRow
filled r e = record { tag = r.tag; f = r.f; from = r.from; count = r.count; left = r.left; n = e.N; x = e.X; w = e.W }

-- the nodes in row i
abbrev pub ends_at : List PassiveRow → ℕ → Ends
ends_at rows i = row_ends (slice_index_or rows i (plain_row 0))

-- the nodes in the last row
abbrev pub last_ends : List PassiveRow → Ends
last_ends rows = ends_at rows (length rows - 1)

-- `steps s call n t`: the call answered n, and the store went from s to t
module _ {S : Type 0} (steps : S → Making → Node → S → Type 0) where
  -- one node for an item of a term, where nodes wait, the last first: an operation takes the last two, the earlier as first operand
  pub data ItemMade : S → List Node → Item Name → S → List Node → Type 0 where
    literal_made : {s t : S} {waiting : List Node} {k : ℕ} {n : Node}
        → steps s (making.Literal k) n t → ItemMade s waiting (Literal k) t (n ∷ waiting)
    name_made : {s t : S} {waiting : List Node} {f : Name} {n : Node}
        → steps s (making.Name f) n t → ItemMade s waiting (Reference f) t (n ∷ waiting)
    operation_made : {s t : S} {waiting : List Node} {k : ℕ} {p q n : Node}
        → steps s (making.Operation k p q) n t → ItemMade s (q ∷ (p ∷ waiting)) (Operation k) t (n ∷ waiting)

  -- one node for each item of a term, in order: the one that waits at the end is the term's node
  pub data TermMade : S → List Node → Term Name → S → Node → Type 0 where
    term_done : {s : S} {n : Node} → TermMade s (n ∷ []) [] s n
    term_more : {s u t : S} {waiting waiting' : List Node} {i : Item Name} {is : Term Name} {n : Node}
        → ItemMade s waiting i u waiting' → TermMade u waiting' is t n → TermMade s waiting (i ∷ is) t n

  -- the nodes of a row that stands alone
  pub data SingleMade : S → PassiveSingle → S → Ends → Type 0 where
    assert_made : {s u t : S} {is : Term Name} {n w : Node}
        → TermMade s [] is u n → steps u (making.Not n) w t → SingleMade s (p_assert is) t (ends n node_no w)
    assume_made : {s t : S} {is : Term Name} {n : Node}
        → TermMade s [] is t n → SingleMade s (p_assume is) t (ends n node_no node_no)
    let_made : {s u v t : S} {f : Name} {is : Term Name} {m k n : Node}
        → steps s (making.Name f) m u → TermMade u [] is v k → steps v (making.Same m k) n t
        → SingleMade s (p_let f is) t (ends n node_no node_no)
    skip_made : {s : S} → SingleMade s p_skip s (ends node_yes node_no node_no)
    raise_made : {s : S} → SingleMade s p_raise s (ends node_no node_yes node_no)
    stop_made : {s : S} → SingleMade s p_stop s (ends node_no node_no node_no)

  -- the node of p or (q and r): first the inner one
  pub data OrAndMade : S → Node → Node → Node → S → Node → Type 0 where
    or_and_made : {s u t : S} {p q r m n : Node}
        → steps s (making.And q r) m u → steps u (making.Or p m) n t → OrAndMade s p q r t n

  -- the nodes of a row that joins two parts, whose nodes are a and b
  pub data JointMade : S → Joint → Ends → Ends → S → Ends → Type 0 where
    -- N = NA and NB; X = XA or (NA and XB); W = WA or (NA and WB)
    sequence_made : {s u v t : S} {a b : Ends} {n x w : Node}
        → steps s (making.And a.N b.N) n u → OrAndMade u a.X a.N b.X v x → OrAndMade v a.W a.N b.W t w
        → JointMade s Sequence a b t (ends n x w)
    -- N = NA or (XA and NB); X = XA and XB; W = WA or (XA and WB)
    catch_made : {s u v t : S} {a b : Ends} {n x w : Node}
        → OrAndMade s a.N a.X b.N u n → steps u (making.And a.X b.X) x v → OrAndMade v a.W a.X b.W t w
        → JointMade s Catch a b t (ends n x w)
    -- N = NA or NB; X = XA or XB; W = WA or WB
    choice_made : {s u v t : S} {a b : Ends} {n x w : Node}
        → steps s (making.Or a.N b.N) n u → steps u (making.Or a.X b.X) x v → steps v (making.Or a.W b.W) w t
        → JointMade s Choice a b t (ends n x w)

  -- the nodes of a row that says this, where a is the row at `left` and b the row before
  abbrev pub RowMade : S → Reading → Ends → Ends → S → Ends → Type 0
  RowMade s (alone p) a b t e = SingleMade s p t e
  RowMade s (joins j) a b t e = JointMade s j a b t e

  -- the nodes of one row after another: `done` are the rows with their nodes so far, and `all` those at the end
  pub data RowsMade (terms : List PassiveTermRow) : S → List PassiveRow → List PassiveRow → S → List PassiveRow → Type 0 where
    rows_done : {s : S} {done : List PassiveRow} → RowsMade terms s done [] s done
    rows_more : {s u t : S} {done rest all : List PassiveRow} {r : PassiveRow} (e : Ends)
        → RowMade s (reading r (items (part terms r))) (ends_at done r.left) (last_ends done) u e
        → RowsMade terms u (done ++ (filled r e ∷ [])) rest t all
        → RowsMade terms s done (r ∷ rest) t all

  -- the rows get their nodes, and not W of the last row, the condition, is made last
  pub record TableMade (terms : List PassiveTermRow) (rows : List PassiveRow) (s : S) (all : List PassiveRow) (n : Node) (t : S) : Type 0 where
    pub between : S
    pub rows_made : RowsMade terms s [] rows between all
    pub last_made : steps between (making.Not (last_ends all).W) n t

  -- the same for a passive form, laid out from the front of the tables
  abbrev pub ConditionMade : Passive → S → List PassiveRow → Node → S → Type 0
  ConditionMade p s all n t = TableMade (term_rows p) (layout p 0 0) s all n t
