-- Stores of nodes: what a store means, when a making call is refused, and what an accepted one does.
use Rattle.std.specs.Prelude.{◌≡◌, ℕ, ◌+◌, ◌≤◌, min, Bool, true, false, cond, not, ◌&&◌, ◌||◌, ◌↔◌, List, [], ◌∷◌, length, Some, None, Ok, Err, Option, Result, ◌==◌, nat_lt, slice_index_or}
use Rattle.kinds.specs.Kind.{KindOf}
use Rattle.kinds.specs.declared.numbered.Node.{Node}
use Rattle.kinds.specs.declared.refusals.Refusal.{Refusal}
use Rattle.kinds.specs.declared.refusals.Refusal.TheVariants.{Term, Names, NotInUse, Places}
use Rattle.formula.specs.declared.stores.Making.{Making}
use Rattle.formula.specs.declared.stores.Making.TheVariants as making

-- what a store is: how many nodes it has room for, how many names an assignment has a value for, how many nodes are in
-- use and which, which assignments it covers, and the value of each node in use under each of these
pub record Meaning (V : Type 0) (S : Type 0) : Type 1 where
  pub capacity : S → ℕ
  pub width : S → ℕ
  pub count : S → ℕ
  pub in_use : S → Node → Bool
  pub covers : S → List V → Type 0
  pub value : S → Node → List V → V

-- what a call states

-- yes where b is true, and else no
abbrev pub yes_or_no : {V : Type 0} → KindOf V → Bool → V
yes_or_no K b = cond b K.yes K.no

-- the value that a making call states, where the nodes have the values `at` and the names those of the assignment a,
-- which has one for each name below the width
abbrev pub stated : {V : Type 0} → KindOf V → (Node → V) → List V → Making → V
stated K at a (making.Literal n) = K.literal n
stated K at a (making.Name f) = slice_index_or a f.0 K.no
stated K at a (making.Operation op p q) = K.operate op (at p) (at q)
stated K at a (making.Same p q) = yes_or_no K (K.same (at p) (at q))
stated K at a (making.Not p) = yes_or_no K (not (K.truth (at p)))
stated K at a (making.And p q) = yes_or_no K (K.truth (at p) && K.truth (at q))
stated K at a (making.Or p q) = yes_or_no K (K.truth (at p) || K.truth (at q))

-- when a call is refused

-- each operation that a call speaks of is one of the first `ops`
abbrev pub operation_known : ℕ → Making → Bool
operation_known ops (making.Literal n) = true
operation_known ops (making.Name f) = true
operation_known ops (making.Operation op p q) = nat_lt op ops
operation_known ops (making.Same p q) = true
operation_known ops (making.Not p) = true
operation_known ops (making.And p q) = true
operation_known ops (making.Or p q) = true

-- each name that a call speaks of is below the width
abbrev pub name_below : ℕ → Making → Bool
name_below width (making.Literal n) = true
name_below width (making.Name f) = nat_lt f.0 width
name_below width (making.Operation op p q) = true
name_below width (making.Same p q) = true
name_below width (making.Not p) = true
name_below width (making.And p q) = true
name_below width (making.Or p q) = true

-- each node that a call speaks of is in use
abbrev pub nodes_used : (Node → Bool) → Making → Bool
nodes_used used (making.Literal n) = true
nodes_used used (making.Name f) = true
nodes_used used (making.Operation op p q) = used p && used q
nodes_used used (making.Same p q) = used p && used q
nodes_used used (making.Not p) = used p
nodes_used used (making.And p q) = used p && used q
nodes_used used (making.Or p q) = used p && used q

-- this refusal, unless the test holds: then what comes next decides
abbrev pub unless : Bool → Refusal → Option Refusal → Option Refusal
unless test refusal next = cond test next (Some refusal)

-- refused where no place is free: the count is the capacity
abbrev pub free_place : {V : Type 0} {S : Type 0} → Meaning V S → S → Option Refusal
free_place M s = unless (nat_lt (M.count s) (M.capacity s)) Places None

-- whether a call is refused in a store, and why: by the first of four tests, in this order, that fails
abbrev pub refused_by : {V : Type 0} {S : Type 0} → KindOf V → Meaning V S → S → Making → Option Refusal
refused_by K M s c =
    unless (operation_known K.ops c) Term
    (unless (name_below (M.width s) c) Names
    (unless (nodes_used (M.in_use s) c) NotInUse
    (free_place M s)))

-- what holds of every store

-- whether the node is in the list
abbrev pub listed : Node → List Node → Bool
listed n [] = false
listed n (m ∷ ms) = n.0 == m.0 || listed n ms

-- no node is in the list twice
abbrev pub Once : List Node → Type 0
Once [] = Unit {0}
Once (n ∷ ns) = (listed n ns ≡ false) × Once ns

-- there are as many nodes in use as the count says
pub record Counted (used : Node → Bool) (count : ℕ) : Type 0 where
  pub nodes : List Node
  pub once : Once nodes
  pub all : (n : Node) → used n ≡ listed n nodes
  pub many : length nodes ≡ count

-- the nodes that stand for no and yes
abbrev pub node_no : Node
node_no = record { 0 = 0 }

abbrev pub node_yes : Node
node_yes = record { 0 = 1 }

-- what holds of every store at any time: the count is that of the nodes in use, from 2 to the capacity, node 0 is no,
-- node 1 is yes, and a covered assignment has a value for each name
pub record Lawful {V : Type 0} {S : Type 0} (K : KindOf V) (M : Meaning V S) (s : S) : Type 0 where
  pub counted : Counted (M.in_use s) (M.count s)
  pub two : 2 ≤ M.count s
  pub placed : M.count s ≤ M.capacity s
  pub no_used : M.in_use s node_no ≡ true
  pub yes_used : M.in_use s node_yes ≡ true
  pub zero_no : (a : List V) → M.covers s a → M.value s node_no a ≡ K.no
  pub one_yes : (a : List V) → M.covers s a → M.value s node_yes a ≡ K.yes
  pub wide : (a : List V) → M.covers s a → length a ≡ M.width s

-- what a call does

-- s became t: at most k more nodes are in use, and all else is as it was
pub record Grown {V : Type 0} {S : Type 0} (M : Meaning V S) (s : S) (k : ℕ) (t : S) : Type 0 where
  pub grows : M.count s ≤ M.count t
  pub few : M.count t ≤ M.count s + k
  pub capacity_same : M.capacity t ≡ M.capacity s
  pub width_same : M.width t ≡ M.width s
  pub covers_same : (a : List V) → M.covers t a ↔ M.covers s a
  pub still_used : (n : Node) → M.in_use s n ≡ true → M.in_use t n ≡ true
  pub kept : (n : Node) (a : List V) → M.in_use s n ≡ true → M.covers s a → M.value t n a ≡ M.value s n a

-- an accepted making call answered n, and s became t: n is in use and has the value that the call states
pub record Makes {V : Type 0} {S : Type 0} (K : KindOf V) (M : Meaning V S) (s : S) (c : Making) (n : Node) (t : S) : Type 0 where
  pub used : M.in_use t n ≡ true
  pub grown : Grown M s 1 t
  pub as_stated : (a : List V) → M.covers s a → M.value t n a ≡ stated K (λ m. M.value s m a) a c

-- a call answers a node where nothing refuses it, and did this; else it answers the refusal, and the store is as it was
abbrev pub DoneOrRefused : {S : Type 0} → Option Refusal → (Node → S → Type 0) → S → Result Node Refusal → S → Type 0
DoneOrRefused refusal done s (Ok n) t = (refusal ≡ None) × done n t
DoneOrRefused refusal done s (Err e) t = (refusal ≡ Some e) × (t ≡ s)

-- what a making call answers, and what became of the store
abbrev pub Answered : {V : Type 0} {S : Type 0} → KindOf V → Meaning V S → (S → Making → Node → S → Type 0) → S → Making → Result Node Refusal → S → Type 0
Answered K M steps s c r t = DoneOrRefused (refused_by K M s c) (steps s c) s r t

-- stores that look alike go on alike: the same call answers the same node, and they look alike again
abbrev pub Fixing : {S : Type 0} → (S → S → Type 0) → (S → Making → Node → S → Type 0) → Type 0
Fixing {S = S} Alike steps =
    (s s' : S) (c : Making) (n n' : Node) (t t' : S) → Alike s s' → steps s c n t → steps s' c n' t' →
    (n ≡ n') × Alike t t'

-- what the table store and the evaluator have in common

-- the capacity where this many places are given for nodes from 2 on
abbrev pub capacity_of : ℕ → ℕ
capacity_of places = min (2 + places) 1000000

-- the nodes in use are those below the count
abbrev pub below : ℕ → Node → Bool
below count n = nat_lt n.0 count
