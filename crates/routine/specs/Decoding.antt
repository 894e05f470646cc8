-- What the rows of a routine say: a tree, or the first refusal.
use Rattle.std.specs.Prelude.{ℕ, ◌+◌, ◌-◌, max, Bool, cond, ◌&&◌, ◌||◌, List, [], ◌∷◌, map, length, take, drop, Ok, Err, Result, ◌==◌, nat_le, nat_lt}
use Rattle.kinds.specs.declared.numbered.Variable.{Variable}
use Rattle.kinds.specs.declared.refusals.Refusal.{Refusal}
use Rattle.kinds.specs.declared.refusals.Refusal.TheVariants.{Limits, Target, Term as BadTerm, Parts, Whole}
use Rattle.routine.specs.declared.rows.TermRow.{TermRow}
use Rattle.routine.specs.declared.rows.CommandRow.{CommandRow}
use Rattle.routine.specs.Limits.{most_variables, most_commands, most_terms, most_waiting, deepest}
use Rattle.routine.specs.Rows.{variable, item, tag_of}
use Rattle.routine.specs.declared.rows.Joint.{Joint}
use Rattle.routine.specs.declared.rows.Tag.{Tag}
use Rattle.routine.specs.declared.rows.Tag.TheVariants.{Assert, Assume, Assign, Skip, Raise, Join}
use Rattle.routine.specs.Commands.{Term, Single, assert, assume, assign, skip, raise, Command, single, join, size, depth}

-- the count rows from row `from` on
abbrev pub part : List TermRow → ℕ → ℕ → List TermRow
part terms from count = take count (drop from terms)

abbrev pub term_of : List TermRow → CommandRow → Term Variable
term_of terms r = map item (part terms r.from r.count)

-- what one command row says: a single command, or that it joins the two before it
pub data Reading : Type 0 where
  alone : Single → Reading
  joins : Joint → Reading

-- how many values wait after a term row, where w wait before it
abbrev pub waiting_then : ℕ → TermRow → ℕ
waiting_then w r = cond (r.tag == 3) (w - 1) (w + 1)

-- a routine of v variables, over a kind of ops operations
module _ (v ops : ℕ) where
  -- whether a term row may stand where w values wait
  abbrev pub may_stand : ℕ → TermRow → Bool
  may_stand w r =
      (r.tag == 1 && nat_lt w most_waiting)
      || ((r.tag == 2 && (nat_lt r.number v && nat_lt w most_waiting))
      || (r.tag == 3 && (nat_lt r.number ops && nat_le 2 w)))

  -- whether the rows make a term, where w values wait before them: one remains
  abbrev pub well_formed : ℕ → List TermRow → Bool
  well_formed w [] = w == 1
  well_formed w (r ∷ rs) = may_stand w r && well_formed (waiting_then w r) rs

  module _ (terms : List TermRow) where
    -- whether a command row has a term: within the table, and well formed
    abbrev pub has_term : CommandRow → Bool
    has_term r = nat_le (r.from + r.count) (length terms) && well_formed 0 (part terms r.from r.count)

    abbrev pub with_term : CommandRow → (Term Variable → Single) → Result Reading Refusal
    with_term r c = cond (has_term r) (Ok (alone (c (term_of terms r)))) (Err BadTerm)

    -- what a command row with this tag says
    abbrev pub reading_as : Result Tag Refusal → CommandRow → Result Reading Refusal
    reading_as (Ok Assert) r = with_term r assert
    reading_as (Ok Assume) r = with_term r assume
    reading_as (Ok Assign) r = cond (nat_lt r.target v) (with_term r (assign (variable r.target))) (Err Target)
    reading_as (Ok Skip) r = Ok (alone skip)
    reading_as (Ok Raise) r = Ok (alone raise)
    reading_as (Ok (Join j)) r = Ok (joins j)
    reading_as (Err e) r = Err e

    abbrev pub reading : CommandRow → Result Reading Refusal
    reading r = reading_as (tag_of r.tag) r

-- row i joins the last two of the commands finished so far, which stand last first: the right part ends at row i - 1, the left part
-- at row `left`, just before the right part's first row
abbrev pub joined : Joint → ℕ → ℕ → List Command → Result (List Command) Refusal
joined j i left [] = Err Parts
joined j i left (b ∷ []) = Err Parts
joined j i left (b ∷ (a ∷ earlier)) =
    cond (left + 1 + size b == i && nat_le (max (depth a) (depth b) + 1) deepest) (Ok (join j a b ∷ earlier)) (Err Parts)

-- the commands finished after row i, where it says this
abbrev pub placed : ℕ → ℕ → List Command → Result Reading Refusal → Result (List Command) Refusal
placed i left finished (Ok (alone c)) = Ok (single c ∷ finished)
placed i left finished (Ok (joins j)) = joined j i left finished
placed i left finished (Err e) = Err e

-- a routine is one command
abbrev pub whole : List Command → Result Command Refusal
whole [] = Err Whole
whole (c ∷ []) = Ok c
whole (c ∷ (d ∷ earlier)) = Err Whole

abbrev pub within_limits : ℕ → List CommandRow → List TermRow → Bool
within_limits v commands terms =
    nat_le v most_variables && (nat_le 1 (length commands) && (nat_le (length commands) most_commands && nat_le (length terms) most_terms))

module _ (v ops : ℕ) where
  -- row by row, from row i on
  abbrev pub rows_from : List TermRow → ℕ → List Command → List CommandRow → Result Command Refusal
  rows_from terms i finished [] = whole finished
  rows_from terms i finished (r ∷ rs) =
      elim (placed i r.left finished (reading v ops terms r)) [ Err e ↦ Err e | Ok more ↦ rows_from terms (i + 1) more rs ]

  abbrev pub decode : List CommandRow → List TermRow → Result Command Refusal
  decode commands terms = cond (within_limits v commands terms) (rows_from terms 0 [] commands) (Err Limits)

-- accepted, or the refusal
abbrev pub verdict : Result Command Refusal → Result (Unit {0}) Refusal
verdict (Ok c) = Ok tt
verdict (Err e) = Err e
