-- That the making of a condition fixes every node.
use Rattle.std.specs.Prelude.{◌≡◌, List}
use Rattle.kinds.specs.declared.numbered.Node.{Node}
use Rattle.passive.specs.Passive.{Passive}
use Rattle.passive.specs.declared.rows.PassiveRow.{PassiveRow}
use Rattle.formula.specs.declared.stores.Making.{Making}
use Rattle.conditions.specs.Made.{ConditionMade}

-- in stores that look alike, the same passive form has the same rows with the same nodes, and the same condition
abbrev pub ConditionFixed : {S : Type 0} → (S → S → Type 0) → (S → Making → Node → S → Type 0) → Type 0
ConditionFixed {S = S} Alike steps =
    (p : Passive) (s s' : S) (rows rows' : List PassiveRow) (n n' : Node) (t t' : S) → Alike s s'
    → ConditionMade steps p s rows n t → ConditionMade steps p s' rows' n' t' → (rows ≡ rows') × (n ≡ n') × Alike t t'
