-- What the rows of a passive form say by their numbers.
use Rattle.std.specs.Prelude.{ℕ, cond, Ok, Err, Result, ◌==◌}
use Rattle.kinds.specs.declared.numbered.Name.{Name}
use Rattle.kinds.specs.declared.refusals.Refusal.{Refusal}
use Rattle.kinds.specs.declared.refusals.Refusal.TheVariants.{Tag as UnknownTag}
use Rattle.routine.specs.declared.rows.Item.{Item}
use Rattle.routine.specs.declared.rows.Item.TheVariants.{Literal, Reference, Operation}
use Rattle.routine.specs.declared.rows.Joint.TheVariants.{Sequence, Choice, Catch}
use Rattle.routine.specs.Standing.{joint_tag}
use Rattle.passive.specs.declared.rows.PassiveTag.{PassiveTag}
use Rattle.passive.specs.declared.rows.PassiveTag.TheVariants.{Assert, Assume, Skip, Raise, Join, Let, Stop}
use Rattle.passive.specs.declared.rows.PassiveTermRow.{PassiveTermRow}

-- the number of a row's tag: those of a routine's rows but 3, which assigns, and two more
abbrev pub tag_number : PassiveTag → ℕ
tag_number Assert = 1
tag_number Assume = 2
tag_number Skip = 4
tag_number Raise = 5
tag_number (Join j) = joint_tag j
tag_number Let = 9
tag_number Stop = 10

abbrev pub tag_of : ℕ → Result PassiveTag Refusal
tag_of number =
    cond (number == 1) (Ok Assert)
    (cond (number == 2) (Ok Assume)
    (cond (number == 4) (Ok Skip)
    (cond (number == 5) (Ok Raise)
    (cond (number == 6) (Ok (Join Sequence))
    (cond (number == 7) (Ok (Join Choice))
    (cond (number == 8) (Ok (Join Catch))
    (cond (number == 9) (Ok Let)
    (cond (number == 10) (Ok Stop)
    (Err UnknownTag)))))))))

-- a passive term row: 1 literal, 2 name, 3 operation
abbrev pub term_row : Item Name → PassiveTermRow
term_row (Literal n) = record { tag = 1; number = n }
term_row (Reference f) = record { tag = 2; number = f.0 }
term_row (Operation k) = record { tag = 3; number = k }

abbrev pub item : PassiveTermRow → Item Name
item r =
    cond (r.tag == 1) (Literal r.number)
    (cond (r.tag == 2) (Reference (record { 0 = r.number }))
    (Operation r.number))
