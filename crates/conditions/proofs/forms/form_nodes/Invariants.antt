use Rattle.std.proofs.Common.{◌≡◌, List, [], take, drop}
use Rattle.passive.specs.declared.rows.PassiveRow.{PassiveRow}
use Rattle.conditions.specs.Made.{last_ends, RowsMade}
use Rattle.conditions.specs.Valued.{RowsUsed}
use Rattle.conditions.specs.Asks.{Room, ends_of, RowsFit, rows_nodes}
use Rattle.conditions.proofs.forms.form_nodes.Given as goal

-- what is left to make makes the form
abbrev pub invariant-loop-i : goal.invariant-loop-i
invariant-loop-i g l =
    let K = g.S.Value.Kind.kind in
    let M = g.S.Store.meaning in
    let steps = g.S.Store.steps in
    let left = drop l.i l.rows in
    ((t : g.row.S.Denot) (all : List PassiveRow) → RowsMade steps l.terms l.store (take l.i l.rows) left t all
    → RowsMade steps l.terms l.initial.store [] l.initial.rows t all)
    × RowsFit K.ops (M.width l.store) l.terms l.i left
    × RowsUsed M l.store l.rows
    × Room M l.store (rows_nodes l.terms left)
    × (ends_of l.last ≡ last_ends (take l.i l.rows))
