-- What each call answers, and what the register, the store and both tables hold afterwards.
use Rattle.std.specs.Prelude.{◌≡◌, ℕ, ◌-◌, max, cond, List, [], ◌∷◌, ◌++◌, length, Some, None, Ok, Err, Result, nat_lt, slice_set}
use Rattle.kinds.specs.Kind.{KindOf}
use Rattle.kinds.specs.declared.numbered.Node.{Node}
use Rattle.kinds.specs.declared.refusals.Refusal.{Refusal}
use Rattle.kinds.specs.declared.refusals.Refusal.TheVariants.{Entries}
use Rattle.routine.specs.declared.rows.TermRow.{TermRow}
use Rattle.routine.specs.declared.rows.CommandRow.{CommandRow}
use Rattle.routine.specs.Commands.{Command}
use Rattle.routine.specs.Decoding.{decode}
use Rattle.passive.specs.Passive.{passive_form}
use Rattle.passive.specs.Layout.{rows, terms, term_rows, put}
use Rattle.passive.specs.declared.rows.PassiveRow.{PassiveRow}
use Rattle.passify.specs.declared.calls.FormMeasures.{FormMeasures}
use Rattle.passify.specs.Calls.{form_measures}
use Rattle.formula.specs.declared.stores.Making.{Making}
use Rattle.formula.specs.declared.stores.Making.TheVariants as making
use Rattle.formula.specs.Store.{Meaning}
use Rattle.conditions.specs.Calls.{condition_answer}
use Rattle.conditions.specs.Made.{ConditionMade}
use Rattle.register.specs.declared.entries.Entry.{Entry}
use Rattle.register.specs.declared.entries.Filing.{Filing}
use Rattle.register.specs.declared.entries.Reading.{Reading}
use Rattle.register.specs.declared.entries.Answer.{Answer}
use Rattle.register.specs.declared.entries.Answer.TheVariants.{Filed, Joined, Marked, Shown}
use Rattle.register.specs.Held.{most_entries, Held, entry, entry_at, struck_out, entry_refusal, join_refusal}

-- what a register is asked; a filing brings the rows of its routine
pub data Request : Type 0 where
  file_request : List CommandRow → List TermRow → Request
  join_request : ℕ → ℕ → Request
  strike_request read_request : ℕ → Request

-- what is answered
abbrev pub filing : ℕ → Command → ℕ → Node → ℕ → Filing
filing v c number n risen =
    let p = passive_form v c in
    record { entry = number; node = n; names = p.next; rows = rows p.code; terms = length (terms p.code); rise = risen }

abbrev pub reading : Entry → Reading
reading e = record { node = e.node; names = e.names; rise = e.rise }

-- after what was answered before: whether there is room for one more entry
abbrev pub room_for_one : ℕ → Result FormMeasures Refusal → Result FormMeasures Refusal
room_for_one n (Ok m) = cond (nat_lt n most_entries) (Ok m) (Err Entries)
room_for_one n (Err e) = Err e

module _ {V : Type 0} {S : Type 0} (K : KindOf V) (M : Meaning V S) (steps : S → Making → Node → S → Type 0) where
  -- how far the store's count rose
  abbrev pub rise : S → S → ℕ
  rise s t = M.count t - M.count s

  -- the routine c is filed: its condition is made, the node n, and its passive form with the nodes of each row stands in the tables
  pub record Files (before : Held S) (c : Command) (filled : List PassiveRow) (n : Node) (after : Held S) : Type 0 where
    pub made : ConditionMade steps (passive_form before.v c).code before.store filled n after.store
    pub same_v : after.v ≡ before.v
    pub entries : after.entries ≡ before.entries ++ (entry n (passive_form before.v c).next (rise before.store after.store) ∷ [])
    pub rows_in : after.rows ≡ put before.rows 0 filled
    pub terms_in : after.terms ≡ put before.terms 0 (term_rows (passive_form before.v c).code)

  -- what filing the rows answers: 1 to 9 as for making their condition, then 10
  abbrev pub file_verdict : Held S → List CommandRow → List TermRow → Result FormMeasures Refusal
  file_verdict h cs ts =
      room_for_one (length h.entries)
      (condition_answer M h.store (length h.rows) (length h.terms) h.v (decode h.v K.ops cs ts))

  -- two entries are joined: the node of both is made, with the larger names
  pub record Joins (before : Held S) (j k : ℕ) (n : Node) (after : Held S) : Type 0 where
    pub made : steps before.store (making.And (entry_at before.entries j).node (entry_at before.entries k).node) n after.store
    pub same_v : after.v ≡ before.v
    pub entries :
        after.entries
        ≡ before.entries ++ (entry n (max (entry_at before.entries j).names (entry_at before.entries k).names) (rise before.store after.store) ∷ [])
    pub same_rows : after.rows ≡ before.rows
    pub same_terms : after.terms ≡ before.terms

  -- that one entry is marked, and nothing else changes
  abbrev pub with_struck : Held S → ℕ → Held S
  with_struck h j = record h { entries = slice_set h.entries j (struck_out (entry_at h.entries j)) }

  -- a call, its answer, and what is held before and after it; a refused call, and a read, changes nothing
  pub data Answered : Held S → Request → Result Answer Refusal → Held S → Type 0 where
    filed : {before after : Held S} {cs : List CommandRow} {ts : List TermRow} {c : Command} {filled : List PassiveRow} {n : Node}
        → decode before.v K.ops cs ts ≡ Ok c → file_verdict before cs ts ≡ Ok (form_measures before.v c) → Files before c filled n after
        → Answered before (file_request cs ts) (Ok (Filed (filing before.v c (length before.entries) n (rise before.store after.store)))) after
    file_refused : {h : Held S} {cs : List CommandRow} {ts : List TermRow} {e : Refusal}
        → file_verdict h cs ts ≡ Err e → Answered h (file_request cs ts) (Err e) h
    joined : {before after : Held S} {j k : ℕ} {n : Node}
        → join_refusal K M before j k ≡ None → Joins before j k n after
        → Answered before (join_request j k) (Ok (Joined (record { entry = length before.entries; node = n }))) after
    join_refused : {h : Held S} {j k : ℕ} {e : Refusal} → join_refusal K M h j k ≡ Some e → Answered h (join_request j k) (Err e) h
    struck : {h : Held S} {j : ℕ} → entry_refusal h.entries j ≡ None → Answered h (strike_request j) (Ok Marked) (with_struck h j)
    strike_refused : {h : Held S} {j : ℕ} {e : Refusal} → entry_refusal h.entries j ≡ Some e → Answered h (strike_request j) (Err e) h
    shown : {h : Held S} {j : ℕ} → entry_refusal h.entries j ≡ None → Answered h (read_request j) (Ok (Shown (reading (entry_at h.entries j)))) h
    read_refused : {h : Held S} {j : ℕ} {e : Refusal} → entry_refusal h.entries j ≡ Some e → Answered h (read_request j) (Err e) h
