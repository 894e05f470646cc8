-- What the code writes, piece by piece: rows and their terms, from a place in the two tables on.
use Rattle.std.specs.Prelude.{◌≡◌, ℕ, ◌+◌, ◌-◌, ◌*◌, ◌^◌, ◌<◌, ◌≤◌, cond, List, [], ◌∷◌, ◌++◌, map, length, ◌==◌}
use Rattle.routine.specs.declared.rows.Item.TheVariants.{Reference}
use Rattle.passive.specs.Passive.{Renamed, Passive}
use Rattle.passive.specs.Rows.{term_row}
use Rattle.passive.specs.Layout.{term_rows, passive_row, plain_row, joint_row, layout, put}
use Rattle.passive.specs.declared.rows.PassiveTermRow.{PassiveTermRow}
use Rattle.passive.specs.declared.rows.PassiveRow.{PassiveRow}
use Rattle.passify.specs.declared.writing.Place.{Place}

pub record Piece : Type 0 where
  pub rows : List PassiveRow
  pub terms : List PassiveTermRow

infixl 20 ◌then◌
abbrev pub ◌then◌ : Piece → Piece → Piece
◌then◌ a b = record { rows = a.rows ++ b.rows; terms = a.terms ++ b.terms }

abbrev pub one_row : PassiveRow → Piece
one_row r = record { rows = r ∷ []; terms = [] }

abbrev pub form_piece : Passive → ℕ → ℕ → Piece
form_piece p i j = record { rows = layout p i j; terms = term_rows p }

abbrev pub old_terms : List Renamed → List PassiveTermRow
old_terms rs = map (λ r. term_row (Reference r.old)) rs

abbrev pub let_row : Renamed → ℕ → PassiveRow
let_row r j = passive_row 9 r.new j 1 0

abbrev pub let_piece : Renamed → ℕ → Piece
let_piece r j = record { rows = let_row r j ∷ []; terms = term_row (Reference r.old) ∷ [] }

-- lets that follow others, from row i on: each with the sequence that joins it to those before
abbrev pub more_lets : List Renamed → ℕ → ℕ → List PassiveRow
more_lets [] i j = []
more_lets (r ∷ rs) i j = let_row r j ∷ joint_row 6 (i - 1) ∷ more_lets rs (i + 2) (j + 1)

abbrev pub lets : List Renamed → ℕ → ℕ → List PassiveRow
lets [] i j = []
lets (r ∷ rs) i j = let_row r j ∷ more_lets rs (i + 1) (j + 1)

-- one more let, where the first of them stands at `start`
abbrev pub next_let : Place → Renamed → Place → Piece
next_let start r at =
    cond (at.row == start.row) (let_piece r at.term) (let_piece r at.term then one_row (joint_row 6 (at.row - 1)))

-- what tail and guard put behind a part that ends before row i
abbrev pub tail_rows : List Renamed → ℕ → ℕ → List PassiveRow
tail_rows [] i j = []
tail_rows (r ∷ rs) i j = lets (r ∷ rs) i j ++ (joint_row 6 (i - 1) ∷ [])

abbrev pub guard_piece_rows : List Renamed → ℕ → ℕ → List PassiveRow
guard_piece_rows [] i j = []
guard_piece_rows (r ∷ rs) i j = lets (r ∷ rs) i j ++ (plain_row 5 ∷ joint_row 6 (i + 2 * length rs) ∷ joint_row 8 (i - 1) ∷ [])

abbrev pub lets_piece : List Renamed → ℕ → ℕ → Piece
lets_piece rs i j = record { rows = lets rs i j; terms = old_terms rs }

abbrev pub tail_piece : List Renamed → ℕ → ℕ → Piece
tail_piece rs i j = record { rows = tail_rows rs i j; terms = old_terms rs }

abbrev pub guard_piece : List Renamed → ℕ → ℕ → Piece
guard_piece rs i j = record { rows = guard_piece_rows rs i j; terms = old_terms rs }

-- what stands behind a part of a joined command: its renamings where it ends normally, and where it ends raised
abbrev pub side_piece : List Renamed → List Renamed → ℕ → ℕ → Piece
side_piece n x i j = tail_piece n i j then guard_piece x (i + 2 * length n) (j + length n)

-- the piece was written from a place on, up to another; the rest of both tables is as before
pub record Wrote (p : Piece) (at : Place) (E E' : List PassiveRow) (T T' : List PassiveTermRow) (end : Place) : Type 0 where
  pub rows_in : E' ≡ put E at.row p.rows
  pub terms_in : T' ≡ put T at.term p.terms
  pub row_end : end.row ≡ at.row + length p.rows
  pub term_end : end.term ≡ at.term + length p.terms

-- there is room for it
pub record Room (p : Piece) (at : Place) (E : List PassiveRow) (T : List PassiveTermRow) : Type 0 where
  pub rows_room : at.row + length p.rows ≤ length E
  pub terms_room : at.term + length p.terms ≤ length T
  pub rows_few : at.row + length p.rows < 2 ^ 32
  pub terms_few : at.term + length p.terms < 2 ^ 32
