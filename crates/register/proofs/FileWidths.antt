-- A routine that is filed has no more names than the store is wide.
use Rattle.std.proofs.Common.{◌≡◌, ℕ, ◌≤◌, Bool, true, false, cond, leb, List, length, Ok, Err, Result, refl, subst}
use Rattle.std.proofs.lemmas.Bool.{and_parts, leb-true}
use Rattle.kinds.specs.Kind.{KindOf}
use Rattle.kinds.specs.declared.numbered.Node.{Node}
use Rattle.kinds.specs.declared.refusals.Refusal.{Refusal}
use Rattle.kinds.specs.declared.refusals.Refusal.TheVariants.{Names}
use Rattle.routine.specs.declared.rows.TermRow.{TermRow}
use Rattle.routine.specs.declared.rows.CommandRow.{CommandRow}
use Rattle.routine.specs.Commands.{Command}
use Rattle.routine.specs.Decoding.{decode}
use Rattle.passive.specs.Passive.{passive_form}
use Rattle.passify.specs.declared.calls.FormMeasures.{FormMeasures}
use Rattle.passify.specs.Calls.{most_names, form_measures}
use Rattle.formula.specs.declared.stores.Making.{Making}
use Rattle.formula.specs.Store.{Meaning}
use Rattle.conditions.specs.Calls.{condition_answer}
use Rattle.register.specs.Held.{Held}
use Rattle.register.specs.Answers.{room_for_one, file_verdict}

-- what is accepted has passed the first test of its condition
first_passed : (b : Bool) (n : ℕ) (rest : Result FormMeasures Refusal) (m : FormMeasures) → room_for_one n (cond b rest (Err Names)) ≡ Ok m → b ≡ true
first_passed true n rest m h = refl
first_passed false n rest m h = cc

module _ {V : Type 0} {S : Type 0} (K : KindOf V) (M : Meaning V S) (steps : S → Making → Node → S → Type 0) where
  pub names_within : (h : Held S) (cs : List CommandRow) (ts : List TermRow) (c : Command) → decode h.v K.ops cs ts ≡ Ok c
      → file_verdict K M steps h cs ts ≡ Ok (form_measures h.v c) → (passive_form h.v c).next ≤ M.width h.store
  names_within h cs ts c is ok =
      let names = (passive_form h.v c).next in
      let n = length h.entries in
      let accepted = subst (λ (d : Result Command Refusal).
      room_for_one n (condition_answer M h.store (length h.rows) (length h.terms) h.v d) ≡ Ok (form_measures h.v c)) is ok in
      leb-true names (M.width h.store)
      (and_parts (leb names most_names) (leb names (M.width h.store)) (first_passed _ n _ (form_measures h.v c) accepted)).1
