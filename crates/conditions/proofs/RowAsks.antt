-- What a row says by its tag, and what it then asks.
use Rattle.std.proofs.Common.{◌≡◌, sym, ap, ◌∙◌, subst, Result}
use Rattle.kinds.specs.declared.numbered.Name.{Name}
use Rattle.kinds.specs.declared.numbered.Node.{Node}
use Rattle.routine.specs.Commands.{Term}
use Rattle.kinds.specs.declared.refusals.Refusal.{Refusal}
use Rattle.passive.specs.declared.rows.PassiveTag.{PassiveTag}
use Rattle.passive.specs.declared.rows.PassiveTag.TheVariants.{Stop}
use Rattle.std.specs.Result.{result_unwrap_or}
use Rattle.passive.specs.declared.rows.PassiveRow.{PassiveRow}
use Rattle.formula.specs.declared.stores.Making.{Making}
use Rattle.formula.specs.Store.{Meaning}
use Rattle.passive.specs.Rows.{tag_of}
use Rattle.conditions.specs.Reading.{reading, reading_as}
use Rattle.conditions.specs.Made.{Ends, RowMade}
use Rattle.conditions.specs.Asks.{Room, reading_nodes}

-- where the tag of a row is read as this
module _ (r : PassiveRow) (t : Term Name) {known : Result PassiveTag Refusal} {read tag : PassiveTag}
    (knows : known ≡ tag_of r.tag) (reads : read ≡ result_unwrap_or known Stop) (is : read ≡ tag) where
  reading_is : reading r t ≡ reading_as tag r t
  reading_is = ap (λ k. reading_as k r t) (ap (λ k. result_unwrap_or k Stop) (sym knows) ∙ sym reads ∙ is)

  pub made_as : {S : Type 0} (steps : S → Making → Node → S → Type 0) (s u : S) (a b e : Ends) → RowMade steps s (reading_as tag r t) a b u e
      → RowMade steps s (reading r t) a b u e
  made_as steps s u a b e h = subst (λ rd. RowMade steps s rd a b u e) (sym reading_is) h

  pub room_as : {V : Type 0} {S : Type 0} (M : Meaning V S) (s : S) → Room M s (reading_nodes (reading r t))
      → Room M s (reading_nodes (reading_as tag r t))
  room_as M s h = subst (λ rd. Room M s (reading_nodes rd)) reading_is h
