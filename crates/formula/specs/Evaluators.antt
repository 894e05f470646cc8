-- What the evaluator holds: the values of one assignment, and after them the value of each node from 2 on.
use Rattle.std.specs.Prelude.{◌≡◌, true, cond, ◌&&◌, List, take, Ok, Err, vec_items, Result, ◌==◌, slice_index_or}
use Rattle.kinds.specs.Kind.{KindOf}
use Rattle.kinds.specs.declared.numbered.Node.{Node}
use Rattle.kinds.specs.declared.refusals.Refusal.{Refusal}
use Rattle.kinds.specs.declared.refusals.Refusal.TheVariants.{NotInUse}
use Rattle.formula.specs.declared.stores.Making.{Making}
use Rattle.formula.specs.Store.{stated, Meaning, below}
use Rattle.formula.specs.Nodes.{place_of, room_of, NodeAdded, SameNodes}
use Rattle.formula.specs.declared.evaluators.Evaluator.{Evaluator}

module _ {V : Type 0} where
  -- the assignment at the front of the values
  abbrev pub assignment : Evaluator V → List V
  assignment s = take s.nodes.front (vec_items s.nodes.items)

  -- the value of a node in use
  abbrev pub node_value : KindOf V → Evaluator V → Node → V
  node_value K s n =
      cond (n.0 == 0) K.no
      (cond (n.0 == 1) K.yes
      (slice_index_or (vec_items s.nodes.items) (place_of s.nodes n.0) K.no))

  -- an evaluator has the capacity of the values left and covers the one assignment
  abbrev pub evaluator_meaning : KindOf V → Meaning V (Evaluator V)
  evaluator_meaning K = record {
    capacity = λ s. room_of s.nodes;
    width = λ s. s.nodes.front;
    count = λ s. s.nodes.count;
    in_use = λ s. below s.nodes.count;
    covers = λ s a. a ≡ assignment s;
    value = λ s n a. node_value K s n;
  }

  -- what an accepted making call does
  abbrev pub evaluator_steps : KindOf V → Evaluator V → Making → Node → Evaluator V → Type 0
  evaluator_steps K s c n t = NodeAdded s.nodes (stated K (node_value K s) (assignment s) c) n t.nodes

  -- the value of any node in use, under the assignment at the front
  abbrev pub value_asked : KindOf V → Evaluator V → Node → Result V Refusal
  value_asked K s n =
      cond ((evaluator_meaning K).in_use s n)
      (Ok ((evaluator_meaning K).value s n (assignment s)))
      (Err NotInUse)

  -- the values of two nodes in use
  abbrev pub values_asked : KindOf V → Evaluator V → Node → Node → Result (V × V) Refusal
  values_asked K s p q = cond (below s.nodes.count p && below s.nodes.count q) (Ok (node_value K s p, node_value K s q)) (Err NotInUse)

  -- two evaluators look alike: they have the same count, width and values
  abbrev pub SameValues : Evaluator V → Evaluator V → Type 0
  SameValues s s' = SameNodes s.nodes s'.nodes

-- the value asked of a node is the one that the call which made it states, then and after any later call
abbrev pub ValuesStand : {V : Type 0} → KindOf V → Type 0
ValuesStand {V = V} K =
    (s : Evaluator V) (c : Making) (n : Node) (t : Evaluator V) → evaluator_steps K s c n t →
    (value_asked K t n ≡ Ok (stated K (node_value K s) (assignment s) c)) ×
    ((m : Node) → below s.nodes.count m ≡ true → value_asked K t m ≡ value_asked K s m)
