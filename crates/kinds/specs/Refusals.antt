-- The refusals and their numbers.
use Rattle.std.specs.Prelude.{ℕ}
use Rattle.kinds.specs.declared.refusals.Refusal.{Refusal}
use Rattle.kinds.specs.declared.refusals.Refusal.TheVariants.{Limits, Tag, Target, Term, Parts, Whole, Names, WorkTable, Places, Entries, NotInUse, Struck}

abbrev pub refusal_number : Refusal → ℕ
-- more than 32 variables, no command row or over 1,023, or over 4,096 term rows
refusal_number Limits = 1
-- a command tag that is unknown
refusal_number Tag = 2
-- a target that is no variable
refusal_number Target = 3
-- a malformed term, or an operation that a store's kind does not have
refusal_number Term = 4
-- a joined row whose parts are not as they must be, or nested too deep
refusal_number Parts = 5
-- the last command does not begin at row 0
refusal_number Whole = 6
-- too many names, or a name that a store does not have
refusal_number Names = 7
-- a work table that is too short
refusal_number WorkTable = 8
-- too few free places in a store
refusal_number Places = 9
-- 64 entries stand already
refusal_number Entries = 10
-- an entry or a node that is not in use
refusal_number NotInUse = 11
-- an entry that is struck
refusal_number Struck = 12
