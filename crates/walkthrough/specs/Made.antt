-- What the walkthrough makes.
use Rattle.std.specs.Prelude.{ℕ, List, Ok, Result}
use Rattle.kinds.specs.Kind.{KindOf}
use Rattle.kinds.specs.declared.numbered.Node.{Node}
use Rattle.kinds.specs.declared.refusals.Refusal.{Refusal}
use Rattle.routine.specs.Commands.{Command}
use Rattle.passive.specs.declared.rows.PassiveTermRow.{PassiveTermRow}
use Rattle.passive.specs.declared.rows.PassiveRow.{PassiveRow}
use Rattle.formula.specs.declared.stores.Making.{Making}
use Rattle.formula.specs.Store.{Meaning}
use Rattle.conditions.specs.declared.calls.Condition.{Condition}
use Rattle.conditions.specs.Calls.{MakesCondition}

-- in some work tables the condition k of a decoded routine was made, a store went from s to t, and these rows stand in the first table then
abbrev pub MakesWithRows :
    {V : Type 0} {S : Type 0} → KindOf V → Meaning V S → (S → Making → Node → S → Type 0) → ℕ → Result Command Refusal → S → Condition → S
    → List PassiveRow → Type 0
MakesWithRows K M steps v d s k t filled =
    (E : List PassiveRow) × (T : List PassiveTermRow) × (U : List PassiveTermRow) × MakesCondition K M steps v d s E T (Ok k) t filled U
