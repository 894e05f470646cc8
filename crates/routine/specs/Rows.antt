-- What a row says by its numbers.
use Rattle.std.specs.Prelude.{ℕ, Bool, true, false, cond, Some, None, Ok, Err, Option, Result, List, codes, ◌==◌}
use Rattle.kinds.specs.declared.numbered.Variable.{Variable}
use Rattle.kinds.specs.declared.refusals.Refusal.{Refusal}
use Rattle.kinds.specs.declared.refusals.Refusal.TheVariants.{Tag as UnknownTag}
use Rattle.routine.specs.declared.rows.TermRow.{TermRow}
use Rattle.routine.specs.declared.rows.Item.{Item}
use Rattle.routine.specs.declared.rows.Item.TheVariants.{Literal, Reference, Operation}
use Rattle.routine.specs.declared.rows.Joint.{Joint}
use Rattle.routine.specs.declared.rows.Joint.TheVariants.{Sequence, Choice, Catch}
use Rattle.routine.specs.declared.rows.Tag.{Tag}
use Rattle.routine.specs.declared.rows.Tag.TheVariants.{Assert, Assume, Assign, Skip, Raise, Join}

abbrev pub variable : ℕ → Variable
variable n = record { 0 = n }

-- a term row: 1 literal, 2 variable, 3 operation
abbrev pub item : TermRow → Item Variable
item r =
    cond (r.tag == 1) (Literal r.number)
    (cond (r.tag == 2) (Reference (variable r.number))
    (Operation r.number))

-- the number of a command row's tag: 1 to 8, and no other
abbrev pub tag_of : ℕ → Result Tag Refusal
tag_of number =
    cond (number == 1) (Ok Assert)
    (cond (number == 2) (Ok Assume)
    (cond (number == 3) (Ok Assign)
    (cond (number == 4) (Ok Skip)
    (cond (number == 5) (Ok Raise)
    (cond (number == 6) (Ok (Join Sequence))
    (cond (number == 7) (Ok (Join Choice))
    (cond (number == 8) (Ok (Join Catch))
    (Err UnknownTag))))))))

-- how a command with this tag joins two others, if it does
abbrev pub joint_of : Result Tag Refusal → Option Joint
joint_of (Ok Assert) = None
joint_of (Ok Assume) = None
joint_of (Ok Assign) = None
joint_of (Ok Skip) = None
joint_of (Ok Raise) = None
joint_of (Ok (Join j)) = Some j
joint_of (Err e) = None

-- whether a term belongs to a command with this tag
abbrev pub tells_term : Result Tag Refusal → Bool
tells_term (Ok Assert) = true
tells_term (Ok Assume) = true
tells_term (Ok Assign) = true
tells_term (Ok Skip) = false
tells_term (Ok Raise) = false
tells_term (Ok (Join j)) = false
tells_term (Err e) = false

-- what a joint is called
abbrev pub joint_name : Joint → List ℕ
joint_name Sequence = codes "sequence"
joint_name Choice = codes "choice"
joint_name Catch = codes "catch"
