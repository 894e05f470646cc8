-- The worked routines as rows, and the first seven, which are accepted, as trees. Operations of numbers: 1 difference, 3 less, 4 equal.
use Rattle.std.specs.Prelude.{ℕ, List, [], ◌∷◌}
use Rattle.kinds.specs.declared.numbered.Variable.{Variable}
use Rattle.routine.specs.declared.rows.TermRow.{TermRow}
use Rattle.routine.specs.declared.rows.CommandRow.{CommandRow}
use Rattle.routine.specs.declared.rows.Item.TheVariants.{Literal, Reference, Operation}
use Rattle.routine.specs.declared.rows.Joint.TheVariants.{Sequence, Choice, Catch}
use Rattle.routine.specs.Commands.{Term, assert, assume, assign, skip, raise, Command, single, join}
use Rattle.routine.specs.Rows.{variable}

-- rows of terms

abbrev pub literal_row : ℕ → TermRow
literal_row n = record { tag = 1; number = n }

abbrev pub variable_row : ℕ → TermRow
variable_row n = record { tag = 2; number = n }

abbrev pub operation_row : ℕ → TermRow
operation_row n = record { tag = 3; number = n }

-- rows of commands; a term is given by its first row and its count of rows

abbrev pub term_command : ℕ → ℕ → ℕ → ℕ → CommandRow
term_command tag target from count = record { tag = tag; target = target; from = from; count = count; left = 0 }

abbrev pub assert_row : ℕ → ℕ → CommandRow
assert_row from count = term_command 1 0 from count

abbrev pub assume_row : ℕ → ℕ → CommandRow
assume_row from count = term_command 2 0 from count

abbrev pub assign_row : ℕ → ℕ → ℕ → CommandRow
assign_row target from count = term_command 3 target from count

abbrev pub skip_row : CommandRow
skip_row = term_command 4 0 0 0

abbrev pub raise_row : CommandRow
raise_row = term_command 5 0 0 0

abbrev pub joint_command : ℕ → ℕ → CommandRow
joint_command tag left = record { tag = tag; target = 0; from = 0; count = 0; left = left }

abbrev pub sequence_row : ℕ → CommandRow
sequence_row left = joint_command 6 left

abbrev pub choice_row : ℕ → CommandRow
choice_row left = joint_command 7 left

abbrev pub catch_row : ℕ → CommandRow
catch_row left = joint_command 8 left

-- terms, and single commands

-- 0 < v0
abbrev pub positive : Term Variable
positive = Literal 0 ∷ Reference (variable 0) ∷ Operation 3 ∷ []

-- v0 - 1
abbrev pub one_less : Term Variable
one_less = Reference (variable 0) ∷ Literal 1 ∷ Operation 1 ∷ []

-- (v0 < 0) = 0
abbrev pub not_negative : Term Variable
not_negative = Reference (variable 0) ∷ Literal 0 ∷ Operation 3 ∷ Literal 0 ∷ Operation 4 ∷ []

abbrev pub assume_positive : Command
assume_positive = single (assume positive)

abbrev pub assert_not_negative : Command
assert_not_negative = single (assert not_negative)

abbrev pub assert_zero : Command
assert_zero = single (assert (Literal 0 ∷ []))

-- set v0 to v0 - 1
abbrev pub count_down : Command
count_down = single (assign (variable 0) one_less)

-- set v0 to 1
abbrev pub set_one : Command
set_one = single (assign (variable 0) (Literal 1 ∷ []))

-- C1, of one variable: assume 0 < v0; set v0 to v0 - 1; sequence; assert (v0 < 0) = 0; sequence
abbrev pub commands_1 : List CommandRow
commands_1 = assume_row 0 3 ∷ assign_row 0 3 3 ∷ sequence_row 0 ∷ assert_row 6 5 ∷ sequence_row 2 ∷ []

abbrev pub terms_1 : List TermRow
terms_1 =
    literal_row 0 ∷ variable_row 0 ∷ operation_row 3
    ∷ variable_row 0 ∷ literal_row 1 ∷ operation_row 1
    ∷ variable_row 0 ∷ literal_row 0 ∷ operation_row 3 ∷ literal_row 0 ∷ operation_row 4 ∷ []

abbrev pub routine_1 : Command
routine_1 = join Sequence (join Sequence assume_positive count_down) assert_not_negative

-- C2, of one variable: set v0 to v0 - 1; assert (v0 < 0) = 0; sequence
abbrev pub commands_2 : List CommandRow
commands_2 = assign_row 0 0 3 ∷ assert_row 3 5 ∷ sequence_row 0 ∷ []

abbrev pub terms_2 : List TermRow
terms_2 =
    variable_row 0 ∷ literal_row 1 ∷ operation_row 1
    ∷ variable_row 0 ∷ literal_row 0 ∷ operation_row 3 ∷ literal_row 0 ∷ operation_row 4 ∷ []

abbrev pub routine_2 : Command
routine_2 = join Sequence count_down assert_not_negative

-- C3, of no variable: raise
abbrev pub commands_3 : List CommandRow
commands_3 = raise_row ∷ []

abbrev pub terms_3 : List TermRow
terms_3 = []

abbrev pub routine_3 : Command
routine_3 = single raise

-- C4, of no variable: raise; assert 0; sequence
abbrev pub commands_4 : List CommandRow
commands_4 = raise_row ∷ assert_row 0 1 ∷ sequence_row 0 ∷ []

abbrev pub terms_4 : List TermRow
terms_4 = literal_row 0 ∷ []

abbrev pub routine_4 : Command
routine_4 = join Sequence (single raise) assert_zero

-- C5, of one variable: set v0 to 1; skip; choice
abbrev pub commands_5 : List CommandRow
commands_5 = assign_row 0 0 1 ∷ skip_row ∷ choice_row 0 ∷ []

abbrev pub terms_5 : List TermRow
terms_5 = literal_row 1 ∷ []

abbrev pub routine_5 : Command
routine_5 = join Choice set_one (single skip)

-- C6, of no variable: raise; assert 0; catch
abbrev pub commands_6 : List CommandRow
commands_6 = raise_row ∷ assert_row 0 1 ∷ catch_row 0 ∷ []

abbrev pub terms_6 : List TermRow
terms_6 = literal_row 0 ∷ []

abbrev pub routine_6 : Command
routine_6 = join Catch (single raise) assert_zero

-- C7, of no variable: skip
abbrev pub commands_7 : List CommandRow
commands_7 = skip_row ∷ []

abbrev pub terms_7 : List TermRow
terms_7 = []

abbrev pub routine_7 : Command
routine_7 = single skip

-- C8, of one variable: an assert whose term has no rows
abbrev pub commands_8 : List CommandRow
commands_8 = assert_row 0 0 ∷ []

abbrev pub terms_8 : List TermRow
terms_8 = []

-- C9, of one variable: an assert whose term is an operation alone
abbrev pub commands_9 : List CommandRow
commands_9 = assert_row 0 1 ∷ []

abbrev pub terms_9 : List TermRow
terms_9 = operation_row 0 ∷ []

-- C10, of one variable: set v1 to 0
abbrev pub commands_10 : List CommandRow
commands_10 = assign_row 1 0 1 ∷ []

abbrev pub terms_10 : List TermRow
terms_10 = literal_row 0 ∷ []

-- C11, of no variable: skip; skip
abbrev pub commands_11 : List CommandRow
commands_11 = skip_row ∷ skip_row ∷ []

abbrev pub terms_11 : List TermRow
terms_11 = []

-- C12, of no variable: skip; skip; a sequence whose left part would end at row 1
abbrev pub commands_12 : List CommandRow
commands_12 = skip_row ∷ skip_row ∷ sequence_row 1 ∷ []

abbrev pub terms_12 : List TermRow
terms_12 = []
