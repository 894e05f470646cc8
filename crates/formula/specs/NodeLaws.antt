-- Which nodes are in use, and what adding one keeps.
use Rattle.std.specs.Prelude.{◌≡◌, ◌<◌, true, length, vec_items, vec_len}
use Rattle.std.proofs.Common.{ap, arith}
use Rattle.std.proofs.lemmas.List.{length-set}
use Rattle.std.proofs.lemmas.Bool.{lt-ltb, ltb-true}
use Rattle.kinds.specs.declared.numbered.Node.{Node}
use Rattle.formula.specs.Store.{below, node_no, node_yes}
use Rattle.formula.specs.Nodes.{place_of, room_of, NodeAdded}
use Rattle.formula.specs.declared.nodes.Nodes.{Nodes}

module _ {T : Type 0} (s : Nodes T) where
  pub no_below : below s.count node_no ≡ true
  no_below = lt-ltb 0 s.count (omega (arith, s.two))

  pub yes_below : below s.count node_yes ≡ true
  yes_below = lt-ltb 1 s.count (omega (arith, s.two))

module _ {T : Type 0} {s t : Nodes T} {x : T} {n : Node} (added : NodeAdded s x n t) where
  same_length : vec_len t.items ≡ vec_len s.items
  same_length = omega (arith, s.items.ok.0, t.items.ok.0, ap length added.items, length-set (vec_items s.items) (place_of s s.count) x)

  pub same_room : room_of t ≡ room_of s
  same_room = omega (arith, same_length, added.front)

  pub place_inside : place_of s s.count < length (vec_items s.items)
  place_inside = omega (arith, s.items.ok.0, same_length, t.placed, t.within, s.two, added.count, added.front)

  pub next_below : below t.count n ≡ true
  next_below = lt-ltb n.0 t.count (omega (arith, added.next, added.count))

  pub still_below : (m : Node) → below s.count m ≡ true → below t.count m ≡ true
  still_below m used = lt-ltb m.0 t.count (omega (arith, ltb-true m.0 s.count used, added.count))
