-- What forecast answers, and what making a condition does.
use Rattle.std.specs.Prelude.{◌≡◌, ℕ, ◌-◌, cond, ◌&&◌, List, length, Ok, Err, Result, nat_le}
use Rattle.kinds.specs.Kind.{KindOf}
use Rattle.kinds.specs.declared.numbered.Node.{Node}
use Rattle.kinds.specs.declared.refusals.Refusal.{Refusal}
use Rattle.kinds.specs.declared.refusals.Refusal.TheVariants.{Names, WorkTable, Places}
use Rattle.routine.specs.Commands.{Command}
use Rattle.passive.specs.Passive.{passive_form}
use Rattle.passive.specs.Layout.{term_rows, put}
use Rattle.passive.specs.declared.rows.PassiveTermRow.{PassiveTermRow}
use Rattle.passive.specs.declared.rows.PassiveRow.{PassiveRow}
use Rattle.passify.specs.declared.calls.FormMeasures.{FormMeasures}
use Rattle.passify.specs.Calls.{most_names, form_measures, measure_answer}
use Rattle.formula.specs.declared.stores.Making.{Making}
use Rattle.formula.specs.Store.{Meaning}
use Rattle.conditions.specs.declared.calls.Condition.{Condition}
use Rattle.conditions.specs.Made.{ConditionMade}
use Rattle.conditions.specs.Valued.{ConditionValued}

-- what is answered where the store is s, and the two work tables have these lengths
module _ {V : Type 0} {S : Type 0} (M : Meaning V S) (s : S) (row_room term_room : ℕ) where
  -- of a form with these measures: its names are tried first, then the work tables, then the free places
  abbrev pub room_answer : FormMeasures → Result FormMeasures Refusal
  room_answer m =
      cond (nat_le m.names most_names && nat_le m.names (M.width s))
      (cond (nat_le m.rows row_room && nat_le m.terms term_room)
      (cond (nat_le m.nodes (M.capacity s - M.count s))
      (Ok m)
      (Err Places))
      (Err WorkTable))
      (Err Names)

  -- a refusal stays
  abbrev pub measured_answer : Result FormMeasures Refusal → Result FormMeasures Refusal
  measured_answer (Ok m) = room_answer m
  measured_answer (Err e) = Err e

  -- of a decoded routine of v variables: its own refusal, or that of its measures, or the measures
  abbrev pub condition_answer : ℕ → Result Command Refusal → Result FormMeasures Refusal
  condition_answer v d = measured_answer (measure_answer v d)

module _ {V : Type 0} {S : Type 0} (K : KindOf V) (M : Meaning V S) (steps : S → Making → Node → S → Type 0) (v : ℕ) where
  -- the condition k of a command was made: store and tables were s, E and T before, and are t, E' and T' after
  pub record ConditionStands (c : Command) (s : S) (E : List PassiveRow) (T : List PassiveTermRow) (k : Condition) (t : S) (E' : List PassiveRow) (T' : List PassiveTermRow) : Type 0 where
    -- the rows of the passive form, with their nodes in them
    pub form : List PassiveRow
    pub made : ConditionMade steps (passive_form v c).code s form k.node t
    pub valued : ConditionValued K M (passive_form v c).code s form k.node t
    pub rows_in : E' ≡ put E 0 form
    pub terms_in : T' ≡ put T 0 (term_rows (passive_form v c).code)
    pub names : k.names ≡ (form_measures v c).names
    pub rows : k.rows ≡ (form_measures v c).rows
    pub terms : k.terms ≡ (form_measures v c).terms
    pub rise : k.rise ≡ M.count t - M.count s

  -- a decoded routine's condition was made, or it was refused and store and tables are as they were
  abbrev pub MakesCondition : Result Command Refusal → S → List PassiveRow → List PassiveTermRow → Result Condition Refusal → S → List PassiveRow → List PassiveTermRow → Type 0
  MakesCondition d s E T (Ok k) t E' T' =
      (c : Command) × (d ≡ Ok c) × (condition_answer M s (length E) (length T) v d ≡ Ok (form_measures v c)) × ConditionStands c s E T k t E' T'
  MakesCondition d s E T (Err e) t E' T' =
      (condition_answer M s (length E) (length T) v d ≡ Err e) × (t ≡ s) × (E' ≡ E) × (T' ≡ T)
