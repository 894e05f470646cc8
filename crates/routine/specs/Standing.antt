-- Where a tree stands in the rows of a routine. Code that recurses over the rows goes by this relation.
use Rattle.std.specs.Prelude.{◌≡◌, ℕ, ◌+◌, ◌-◌, ◌<◌, ◌≤◌, true, List, [], ◌∷◌, length, Ok, slice_index_or}
use Rattle.kinds.specs.declared.numbered.Variable.{Variable}
use Rattle.routine.specs.declared.rows.TermRow.{TermRow}
use Rattle.routine.specs.declared.rows.CommandRow.{CommandRow}
use Rattle.routine.specs.Limits.{most_waiting, deepest}
use Rattle.routine.specs.declared.rows.Item.TheVariants.{Literal, Reference, Operation}
use Rattle.routine.specs.declared.rows.Joint.{Joint}
use Rattle.routine.specs.declared.rows.Joint.TheVariants.{Sequence, Choice, Catch}
use Rattle.routine.specs.Commands.{Term, Single, assert, assume, assign, skip, raise, Command, single, join, size, depth}
use Rattle.routine.specs.Rows.{variable}
use Rattle.routine.specs.Decoding.{term_of, has_term, within_limits, decode}

abbrev pub no_row : CommandRow
no_row = record { tag = 0; target = 0; from = 0; count = 0; left = 0 }

abbrev pub single_tag : Single → ℕ
single_tag (assert t) = 1
single_tag (assume t) = 2
single_tag (assign x t) = 3
single_tag skip = 4
single_tag raise = 5

abbrev pub joint_tag : Joint → ℕ
joint_tag Sequence = 6
joint_tag Choice = 7
joint_tag Catch = 8

-- a term can be worked out where w values wait: at most 16 wait at once and one remains; each reference is known, and each operation is
-- below ops
abbrev pub Workable : {R : Type 0} → (R → Type 0) → ℕ → ℕ → Term R → Type 0
Workable Known ops w [] = w ≡ 1
Workable Known ops w (Literal n ∷ t) = (w < most_waiting) × Workable Known ops (w + 1) t
Workable Known ops w (Reference r ∷ t) = (w < most_waiting) × Known r × Workable Known ops (w + 1) t
Workable Known ops w (Operation k ∷ t) = (2 ≤ w) × (k < ops) × Workable Known ops (w - 1) t

module _ (v ops : ℕ) where
  -- the term reads no variable but those below v
  abbrev pub ProperTerm : Term Variable → Type 0
  ProperTerm t = Workable (λ x. x.0 < v) ops 0 t

  abbrev pub ProperSingle : Single → Type 0
  ProperSingle (assert t) = ProperTerm t
  ProperSingle (assume t) = ProperTerm t
  ProperSingle (assign x t) = (x.0 < v) × ProperTerm t
  ProperSingle skip = Unit {0}
  ProperSingle raise = Unit {0}

  -- the command is one over v variables and ops operations
  abbrev pub Proper : Command → Type 0
  Proper (single c) = ProperSingle c
  Proper (join j a b) = Proper a × Proper b

  -- the row has this term
  abbrev pub HasTerm : List TermRow → CommandRow → Term Variable → Type 0
  HasTerm terms r t = (has_term v ops terms r ≡ true) × (t ≡ term_of terms r)

  -- the fields that the row's tag uses are those of the command
  abbrev pub Fields : List TermRow → CommandRow → Single → Type 0
  Fields terms r (assert t) = HasTerm terms r t
  Fields terms r (assume t) = HasTerm terms r t
  Fields terms r (assign x t) = (r.target < v) × (x ≡ variable r.target) × HasTerm terms r t
  Fields terms r skip = Unit {0}
  Fields terms r raise = Unit {0}

  module _ (commands : List CommandRow) (terms : List TermRow) where
    abbrev pub row : ℕ → CommandRow
    row i = slice_index_or commands i no_row

    -- the command ends at row i: a joined row's right part ends at the row before it, its left part at row `left`
    abbrev pub EndsAt : ℕ → Command → Type 0
    EndsAt i (single c) = (i < length commands) × ((row i).tag ≡ single_tag c) × Fields terms (row i) c
    EndsAt i (join j a b) =
        (i < length commands) × ((row i).tag ≡ joint_tag j) × ((row i).left + size b + 1 ≡ i) × EndsAt (row i).left a × EndsAt (i - 1) b

    -- the tree is the whole routine
    pub record Stands (c : Command) : Type 0 where
      pub ends : EndsAt (length commands - 1) c
      pub all_rows : size c ≡ length commands
      pub shallow : depth c ≤ deepest

    -- an accepted routine is a tree that stands in its rows, over its variables and operations
    abbrev pub DecodingSound : Type 0
    DecodingSound = (c : Command) → decode v ops commands terms ≡ Ok c → Stands c × Proper c

    -- rows within the limits in which a tree stands are accepted as that tree
    abbrev pub DecodingComplete : Type 0
    DecodingComplete = (c : Command) → within_limits v commands terms ≡ true → Stands c → decode v ops commands terms ≡ Ok c
