-- Table stores that look alike go on alike, and so do evaluators.
use Rattle.std.proofs.Common.{◌≡◌, ℕ, ◌+◌, ◌-◌, cond, eqb, List, get_or, take, set, sym, ap, ◌∙◌}
use Rattle.kinds.specs.Kind.{KindOf}
use Rattle.kinds.specs.declared.numbered.Node.{Node}
use Rattle.formula.specs.Store.{stated, Fixing}
use Rattle.formula.specs.Nodes.{NodeAdded, SameNodes}
use Rattle.formula.specs.declared.nodes.Nodes.{Nodes}
use Rattle.formula.specs.Tables.{row_of, table_steps, SameTable}
use Rattle.formula.specs.Evaluators.{evaluator_steps, SameValues}

same_node : {n n' : Node} → n.0 ≡ n'.0 → n ≡ n'
same_node e = λ i. record { 0 = e i }

-- the same item added
added_fixed : {T : Type 0} {s s' t t' : Nodes T} {x x' : T} {n n' : Node} → SameNodes s s' → x ≡ x' → NodeAdded s x n t → NodeAdded s' x' n' t'
    → (n ≡ n') × SameNodes t t'
added_fixed same item h h' = (
  same_node (h.next ∙ same.count ∙ sym h'.next),
  record {
    count = h.count ∙ ap (λ k. k + 1) same.count ∙ sym h'.count;
    front = h.front ∙ same.front ∙ sym h'.front;
    items = h.items ∙ (λ i. set (same.items i) (same.front i + (same.count i - 2)) (item i)) ∙ sym h'.items;
  },
)

pub table_fixing : {V : Type 0} → Fixing (SameTable {V = V}) table_steps
table_fixing s s' c n n' t t' same h h' =
    let fixed = added_fixed same.nodes (λ i. row_of c) h.0 h'.0 in (
      fixed.0,
      record { nodes = fixed.1; width = h.1 ∙ same.width ∙ sym h'.1 },
    )

module _ {V : Type 0} (K : KindOf V) where
  -- the value of a node, where the assignment has this width and these are all values
  abbrev value_in : ℕ → List V → Node → V
  value_in w vs n =
      cond (eqb n.0 0) K.no
      (cond (eqb n.0 1) K.yes
      (get_or vs (w + (n.0 - 2)) K.no))

  pub evaluator_fixing : Fixing SameValues (evaluator_steps K)
  evaluator_fixing s s' c n n' t t' same h h' =
      added_fixed same (λ i. stated K (value_in (same.front i) (same.items i)) (take (same.front i) (same.items i)) c) h h'
