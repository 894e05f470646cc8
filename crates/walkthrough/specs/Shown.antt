-- How a routine, its passive form and its condition are shown.
use Rattle.std.specs.Prelude.{ℕ, ◌+◌, cond, List, [], ◌∷◌, codes, ◌==◌}
use Rattle.kinds.specs.declared.numbered.Node.{Node}
use Rattle.passive.specs.declared.rows.PassiveRow.{PassiveRow}
use Rattle.walkthrough.specs.declared.text.Label.{Label}
use Rattle.walkthrough.specs.declared.text.Label.TheVariants.{Normal, Raised, Wrong, Numbered}

-- the sign of an operation of numbers
abbrev pub operator_sign : ℕ → List ℕ
operator_sign k =
    cond (k == 0) (codes "+")
    (cond (k == 1) (codes "-")
    (cond (k == 2) (codes "*")
    (cond (k == 3) (codes "<")
    (cond (k == 4) (codes "=")
    (codes "?")))))

-- what a node is called where the rows, of which the first has this number, are gone through for one that has it
abbrev pub label_from : ℕ → List PassiveRow → Node → Label
label_from at [] node = Numbered node.0
label_from at (row ∷ rows) node =
    cond (row.n.0 == node.0) (Normal at)
    (cond (row.x.0 == node.0) (Raised at)
    (cond (row.w.0 == node.0) (Wrong at)
    (label_from (at + 1) rows node)))
