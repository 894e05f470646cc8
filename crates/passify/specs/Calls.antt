-- What measure and passify answer of a routine, and what stands in the two tables afterwards.
use Rattle.std.specs.Prelude.{◌≡◌, ℕ, cond, ◌&&◌, List, length, Ok, Err, Result, nat_le}
use Rattle.kinds.specs.Kind.{KindOf}
use Rattle.kinds.specs.declared.refusals.Refusal.{Refusal}
use Rattle.kinds.specs.declared.refusals.Refusal.TheVariants.{Names, WorkTable}
use Rattle.routine.specs.Commands.{Command}
use Rattle.passive.specs.Passive.{passive_form}
use Rattle.passive.specs.Outcomes.{condition_nodes}
use Rattle.passive.specs.Agreement.{Agreement, Bounded}
use Rattle.passive.specs.Layout.{rows, terms, term_rows, layout, put}
use Rattle.passive.specs.declared.rows.PassiveTermRow.{PassiveTermRow}
use Rattle.passive.specs.declared.rows.PassiveRow.{PassiveRow}
use Rattle.passify.specs.declared.calls.FormMeasures.{FormMeasures}
use Rattle.passify.specs.declared.calls.FormLengths.{FormLengths}

abbrev pub most_names : ℕ
most_names = 4096

-- what the passive form takes, and the condition with it
abbrev pub form_measures : ℕ → Command → FormMeasures
form_measures v c =
    let p = passive_form v c in
    record { names = p.next; rows = rows p.code; terms = length (terms p.code); nodes = condition_nodes p.code }

abbrev pub form_lengths : ℕ → Command → FormLengths
form_lengths v c =
    let p = passive_form v c in
    record { names = p.next; rows = rows p.code; terms = length (terms p.code) }

-- of a decoded routine: its measures, or its refusal
abbrev pub measure_answer : ℕ → Result Command Refusal → Result FormMeasures Refusal
measure_answer v (Ok c) = Ok (form_measures v c)
measure_answer v (Err e) = Err e

-- of a decoded routine and two tables of these lengths: names are counted before the tables are looked at
abbrev pub form_answer : ℕ → Command → ℕ → ℕ → Result FormLengths Refusal
form_answer v c row_room term_room =
    let p = passive_form v c in
    cond (nat_le p.next most_names)
    (cond (nat_le (rows p.code) row_room && nat_le (length (terms p.code)) term_room) (Ok (form_lengths v c)) (Err WorkTable))
    (Err Names)

abbrev pub passify_answer : ℕ → Result Command Refusal → ℕ → ℕ → Result FormLengths Refusal
passify_answer v (Ok c) row_room term_room = form_answer v c row_room term_room
passify_answer v (Err e) row_room term_room = Err e

-- the passive form at the front of the table, where the call was accepted; the table as before, where it was refused
abbrev pub rows_after : ℕ → Result Command Refusal → Result FormLengths Refusal → List PassiveRow → List PassiveRow
rows_after v (Ok c) (Ok l) E = put E 0 (layout (passive_form v c).code 0 0)
rows_after v (Ok c) (Err e) E = E
rows_after v (Err f) r E = E

abbrev pub terms_after : ℕ → Result Command Refusal → Result FormLengths Refusal → List PassiveTermRow → List PassiveTermRow
terms_after v (Ok c) (Ok l) T = put T 0 (term_rows (passive_form v c).code)
terms_after v (Ok c) (Err e) T = T
terms_after v (Err f) r T = T

-- the passive form of an accepted routine agrees with its runs, and is as small as promised
abbrev pub AgreesWithRuns : {V : Type 0} → KindOf V → ℕ → Result Command Refusal → Type 0
AgreesWithRuns K v d = (c : Command) → d ≡ Ok c → Agreement K v K.ops c × Bounded v c
