-- Rows that the check accepted, and their passive form measured.
use Rattle.std.specs.Prelude.{◌≡◌, ℕ, List, Ok}
use Rattle.routine.specs.declared.rows.TermRow.{TermRow}
use Rattle.routine.specs.declared.rows.CommandRow.{CommandRow}
use Rattle.routine.specs.Commands.{Command}
use Rattle.routine.specs.Decoding.{decode}
use Rattle.passive.specs.Passive.{passive_form}
use Rattle.passify.specs.declared.measuring.Measured.{Measured}
use Rattle.passify.specs.Measuring.{sizes}

abbrev pub Checked : ℕ → List CommandRow → Type 0
Checked v cs = (ops : ℕ) × (ts : List TermRow) × (c : Command) × (decode v ops cs ts ≡ Ok c)

abbrev pub FormMeasured : ℕ → List CommandRow → Measured → Type 0
FormMeasured v cs r = (ops : ℕ) (ts : List TermRow) (c : Command) → decode v ops cs ts ≡ Ok c → r ≡ sizes (passive_form v c)
