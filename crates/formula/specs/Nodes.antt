-- The nodes of a store with an item for each from 2 on, and what adding one does.
use Rattle.std.specs.Prelude.{◌≡◌, ℕ, ◌+◌, ◌-◌, Option, None, vec_items, vec_len, nat_lt, slice_set}
use Rattle.kinds.specs.declared.numbered.Node.{Node}
use Rattle.kinds.specs.declared.refusals.Refusal.{Refusal}
use Rattle.kinds.specs.declared.refusals.Refusal.TheVariants.{Places}
use Rattle.formula.specs.Store.{unless, capacity_of}
use Rattle.formula.specs.declared.nodes.Nodes.{Nodes}

module _ {T : Type 0} where
  -- where the item of a node from 2 on stands
  abbrev pub place_of : Nodes T → ℕ → ℕ
  place_of s n = s.front + (n - 2)

  -- how many nodes there is room for
  abbrev pub room_of : Nodes T → ℕ
  room_of s = capacity_of (vec_len s.items - s.front)

  -- refused where no place is free
  abbrev pub no_place : Nodes T → Option Refusal
  no_place s = unless (nat_lt s.count (room_of s)) Places None

  -- the item became that of n, the next node, and nothing else changed
  pub record NodeAdded (s : Nodes T) (x : T) (n : Node) (t : Nodes T) : Type 0 where
    pub next : n.0 ≡ s.count
    pub count : t.count ≡ s.count + 1
    pub front : t.front ≡ s.front
    pub items : vec_items t.items ≡ slice_set (vec_items s.items) (place_of s s.count) x

  -- they look alike: they have the same count, front and items
  pub record SameNodes (s s' : Nodes T) : Type 0 where
    pub count : s.count ≡ s'.count
    pub front : s.front ≡ s'.front
    pub items : vec_items s.items ≡ vec_items s'.items
