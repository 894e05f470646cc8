-- A filing that is answered: refused at its condition, refused for want of an entry, or filed.
use Rattle.std.proofs.Common.{◌≡◌, ℕ, ◌<◌, ◌≤◌, cond, List, [], ◌∷◌, ◌++◌, length, Ok, Err, Result, refl, ap, ◌∙◌}
use Rattle.std.proofs.lemmas.Bool.{lt-ltb, le-ltb}
use Rattle.kinds.specs.Kind.{KindOf}
use Rattle.kinds.specs.declared.numbered.Node.{Node}
use Rattle.kinds.specs.declared.refusals.Refusal.{Refusal}
use Rattle.kinds.specs.declared.refusals.Refusal.TheVariants.{Entries}
use Rattle.routine.specs.declared.rows.TermRow.{TermRow}
use Rattle.routine.specs.declared.rows.CommandRow.{CommandRow}
use Rattle.routine.specs.Decoding.{decode}
use Rattle.passive.specs.Passive.{passive_form}
use Rattle.passive.specs.declared.rows.PassiveTermRow.{PassiveTermRow}
use Rattle.passive.specs.declared.rows.PassiveRow.{PassiveRow}
use Rattle.passify.specs.declared.calls.FormMeasures.{FormMeasures}
use Rattle.passify.specs.Calls.{form_measures}
use Rattle.formula.specs.declared.stores.Making.{Making}
use Rattle.formula.specs.Store.{Meaning}
use Rattle.conditions.specs.declared.calls.Condition.{Condition}
use Rattle.conditions.specs.Calls.{condition_answer, MakesCondition}
use Rattle.register.specs.declared.entries.Entry.{Entry}
use Rattle.register.specs.declared.entries.Filing.{Filing}
use Rattle.register.specs.declared.entries.Answer.TheVariants.{Filed}
use Rattle.register.specs.Held.{most_entries, Held, entry}
use Rattle.register.specs.Answers.{file_request, rise, room_for_one, file_verdict, Answered, filed, file_refused}

-- the answer of the code, from the condition that it made
abbrev pub filing_of : ℕ → Condition → Filing
filing_of number k = record { entry = number; node = k.node; names = k.names; rows = k.rows; terms = k.terms; rise = k.rise }

module _ {V : Type 0} {S : Type 0} (K : KindOf V) (M : Meaning V S) where
  -- what making the condition of the rows answers
  abbrev pub asked : Held S → List CommandRow → List TermRow → Result FormMeasures Refusal
  asked h cs ts = condition_answer M h.store (length h.rows) (length h.terms) h.v (decode h.v K.ops cs ts)

module _ {V : Type 0} {S : Type 0} {K : KindOf V} {M : Meaning V S} {steps : S → Making → Node → S → Type 0} {h : Held S} {cs : List CommandRow}
    {ts : List TermRow} where
  pub not_filed : {e : Refusal} → asked K M h cs ts ≡ Err e → Answered K M steps h (file_request cs ts) (Err e) h
  not_filed p = file_refused (ap (room_for_one (length h.entries)) p)

  -- the condition could not be made, and making it left everything as it was
  pub not_made : {e : Refusal} {t : S} {E : List PassiveRow} {T : List PassiveTermRow}
      → MakesCondition K M steps h.v (decode h.v K.ops cs ts) h.store h.rows h.terms (Err e) t E T
      → Answered K M steps h (file_request cs ts) (Err e) (record { v = h.v; store = t; entries = h.entries; rows = E; terms = T })
  not_made made = rw (made.1, made.2, made.3) (not_filed made.0)

  pub no_entry : (m : FormMeasures) → asked K M h cs ts ≡ Ok m → most_entries ≤ length h.entries → Answered K M steps h (file_request cs ts) (Err Entries) h
  no_entry m p full =
      file_refused (ap (room_for_one (length h.entries)) p ∙ ap (λ b. cond b (Ok m) (Err Entries)) (le-ltb (length h.entries) most_entries full))

  pub filed_by :
      {k : Condition} {t : S} {E : List PassiveRow} {T : List PassiveTermRow} {es : List Entry}
      → MakesCondition K M steps h.v (decode h.v K.ops cs ts) h.store h.rows h.terms (Ok k) t E T → length h.entries < most_entries
      → es ≡ h.entries ++ (entry k.node k.names k.rise ∷ [])
      → Answered K M steps h (file_request cs ts) (Ok (Filed (filing_of (length h.entries) k))) (record { v = h.v; store = t; entries = es; rows = E; terms = T })
  filed_by {k} {t} {E} {T} {es} made few more =
      let c = made.0 in
      let stands = made.3 in
      let m = form_measures h.v c in
      let verdict : file_verdict K M steps h cs ts ≡ Ok m =
      ap (room_for_one (length h.entries)) made.2 ∙ ap (λ b. cond b (Ok m) (Err Entries)) (lt-ltb (length h.entries) most_entries few) in
      let entries : es ≡ h.entries ++ (entry k.node (passive_form h.v c).next (rise K M steps h.store t) ∷ []) =
      more ∙ rw (stands.names, stands.rise) refl in
      rw (stands.names, stands.rows, stands.terms, stands.rise)
      (filed {before = h} {cs = cs} {ts = ts} {c = c} {filled = stands.form} {n = k.node} made.1 verdict
      (record { made = stands.made; same_v = refl; entries = entries; rows_in = stands.rows_in; terms_in = stands.terms_in }))
