-- What the writing of a command's passive form asks and does.
use Rattle.std.specs.Prelude.{◌≡◌, ℕ, ◌+◌, ◌^◌, ◌<◌, ◌≤◌, List, length}
use Rattle.kinds.specs.declared.numbered.Name.{Name}
use Rattle.routine.specs.declared.rows.TermRow.{TermRow}
use Rattle.routine.specs.declared.rows.CommandRow.{CommandRow}
use Rattle.routine.specs.Commands.{Single, Command}
use Rattle.routine.specs.Standing.{EndsAt}
use Rattle.passive.specs.Passive.{Names, Renamed, merge, passify_single, passify}
use Rattle.passive.specs.Layout.{term_rows, put}
use Rattle.passive.specs.declared.rows.PassiveTermRow.{PassiveTermRow}
use Rattle.passive.specs.declared.rows.PassiveRow.{PassiveRow}
use Rattle.passify.specs.declared.maps.Exits.{Exits}
use Rattle.passify.specs.declared.writing.Place.{Place}
use Rattle.passify.specs.declared.passing.Passed.{Passed}
use Rattle.passify.specs.Measuring.{sizes, measured, Fits}
use Rattle.passify.specs.Pieces.{Piece, form_piece, side_piece, Wrote, Room}

-- the renamings of a part that ends with a, where the other ends with b; and the next new name after both
abbrev pub renamings : Names → Names → ℕ → List Renamed
renamings a b k = (merge a b k).left

abbrev pub next_after : Names → Names → ℕ → ℕ
next_after a b k = (merge a b k).next

-- the next new name after the renamings of both exits, first the normal ones
abbrev pub next_after_both : Exits → Exits → ℕ → ℕ
next_after_both a b k = next_after a.raised b.raised (next_after a.normal b.normal k)

-- what is written behind a part with these exits, where the other part has those
abbrev pub side : Exits → Exits → ℕ → Place → Piece
side a b k at = side_piece (renamings a.normal b.normal k) (renamings a.raised b.raised (next_after a.normal b.normal k)) at.row at.term

-- the rows of a single command's term, renamed
abbrev pub passive_terms : Single → List Name → List PassiveTermRow
passive_terms c m = term_rows (passify_single c m 0).code

pub record TermRoom (count at long : ℕ) : Type 0 where
  pub room : at + count ≤ long
  pub few : at + count < 2 ^ 32

pub record TermWritten (rows : List PassiveTermRow) (at : ℕ) (T T' : List PassiveTermRow) (end : ℕ) : Type 0 where
  pub terms_in : T' ≡ put T at rows
  pub term_end : end ≡ at + length rows

abbrev pub single_piece : List Name → ℕ → Single → Place → Piece
single_piece m k c at = form_piece (passify_single c m k).code at.row at.term

abbrev pub SingleWritable : List Name → ℕ → Place → List PassiveRow → List PassiveTermRow → Single → Type 0
SingleWritable m k at E T c = Fits (sizes (passify_single c m k)) × Room (single_piece m k c at) at E T

abbrev pub command_piece : Names → ℕ → Command → Place → Piece
command_piece m k c at = form_piece (passify c m k).code at.row at.term

-- a command whose passive form there is room for ends at the row
abbrev pub Writable : List CommandRow → List TermRow → ℕ → Names → ℕ → Place → List PassiveRow → List PassiveTermRow → Type 0
Writable cs ts i m k at E T =
    (v : ℕ) × (ops : ℕ) × (c : Command) × EndsAt v ops cs ts i c × Fits (measured c m k) × Room (command_piece m k c at) at E T

-- its passive form was written, and measured
abbrev pub Written :
    List CommandRow → List TermRow → ℕ → Names → ℕ → Place → List PassiveRow → List PassiveRow → List PassiveTermRow → List PassiveTermRow → Passed → Type 0
Written cs ts i m k at E E' T T' r =
    (v ops : ℕ) (c : Command) → EndsAt v ops cs ts i c
    → (r.measured ≡ measured c m k) × Wrote (command_piece m k c at) at E E' T T' r.end
