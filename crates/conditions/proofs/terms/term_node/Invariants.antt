use Rattle.std.proofs.Common.{[], drop}
use Rattle.kinds.specs.declared.numbered.Node.{Node}
use Rattle.formula.specs.Store.{Grown}
use Rattle.conditions.specs.Reading.{items}
use Rattle.conditions.specs.Made.{TermMade}
use Rattle.conditions.specs.Asks.{NodesUsed}
use Rattle.conditions.proofs.TermTurns.{WorkableFrom}
use Rattle.conditions.proofs.terms.term_node.Given as goal

-- what is left to make makes the term
abbrev pub invariant-loop-row : goal.invariant-loop-row
invariant-loop-row g l =
    let M = g.S.Store.meaning in
    let steps = g.S.Store.steps in
    let left = items (drop l.row-index l.terms) in
    ((t : g.row.S.Denot) (n : Node) → TermMade steps l.store l.stack left t n → TermMade steps l.initial.store [] (items l.terms) t n)
    × WorkableFrom g.S.Value.Kind.kind.ops (M.width l.store) l.stack left
    × NodesUsed M l.store l.stack
    × Grown M l.initial.store l.row-index l.store
