-- The routine of the walkthrough, over a number v0 and a counter v1.
use Rattle.std.specs.Prelude.{[], ◌∷◌}
use Rattle.kinds.specs.declared.numbered.Variable.{Variable}
use Rattle.routine.specs.declared.rows.Item.{Item}
use Rattle.routine.specs.declared.rows.Item.TheVariants.{Literal, Reference, Operation}
use Rattle.routine.specs.declared.rows.Joint.TheVariants.{Sequence, Choice}
use Rattle.routine.specs.Commands.{Term, assert, assume, assign, Command, single, join}
use Rattle.routine.specs.Rows.{variable}

abbrev v0 : Item Variable
v0 = Reference (variable 0)

abbrev v1 : Item Variable
v1 = Reference (variable 1)

-- 0 - v0
abbrev pub negated : Term Variable
negated = Literal 0 ∷ v0 ∷ Operation 1 ∷ []

-- v1 - 1
abbrev pub counted_down : Term Variable
counted_down = v1 ∷ Literal 1 ∷ Operation 1 ∷ []

-- v0 < 0
abbrev pub negative : Term Variable
negative = v0 ∷ Literal 0 ∷ Operation 3 ∷ []

-- 0 < v0
abbrev pub positive : Term Variable
positive = Literal 0 ∷ v0 ∷ Operation 3 ∷ []

-- 0 < v1
abbrev pub counting : Term Variable
counting = Literal 0 ∷ v1 ∷ Operation 3 ∷ []

-- (v0 < 0) = 0
abbrev pub not_negative : Term Variable
not_negative = v0 ∷ Literal 0 ∷ Operation 3 ∷ Literal 0 ∷ Operation 4 ∷ []

-- (0 < v1) = 0
abbrev pub not_counting : Term Variable
not_counting = Literal 0 ∷ v1 ∷ Operation 3 ∷ Literal 0 ∷ Operation 4 ∷ []

abbrev pub make_positive : Command
make_positive =
    join Choice
    (join Sequence (join Sequence (single (assume negative)) (single (assign (variable 0) negated))) (single (assert positive)))
    (single (assume not_negative))

abbrev pub count_down : Command
count_down =
    join Choice
    (join Sequence (single (assume counting)) (single (assign (variable 1) counted_down)))
    (single (assume not_counting))

abbrev pub sample_routine : Command
sample_routine = join Sequence (join Sequence make_positive count_down) (single (assert not_negative))
