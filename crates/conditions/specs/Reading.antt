-- What a row of a passive form says, read from the tables.
use Rattle.std.specs.Prelude.{List, map, take, drop}
use Rattle.std.specs.Result.{result_unwrap_or}
use Rattle.kinds.specs.declared.numbered.Name.{Name}
use Rattle.routine.specs.declared.rows.Joint.{Joint}
use Rattle.routine.specs.Commands.{Term}
use Rattle.passive.specs.Passive.{PassiveSingle, p_assert, p_assume, p_let, p_skip, p_raise, p_stop}
use Rattle.passive.specs.Rows.{item, tag_of}
use Rattle.passive.specs.declared.rows.PassiveTag.{PassiveTag}
use Rattle.passive.specs.declared.rows.PassiveTag.TheVariants.{Assert, Assume, Skip, Raise, Join, Let, Stop}
use Rattle.passive.specs.declared.rows.PassiveTermRow.{PassiveTermRow}
use Rattle.passive.specs.declared.rows.PassiveRow.{PassiveRow}

-- the term that these rows are
abbrev pub items : List PassiveTermRow → Term Name
items rows = map item rows

-- the rows of a row's term: the `count` rows from row `from` on
abbrev pub part : List PassiveTermRow → PassiveRow → List PassiveTermRow
part terms r = take r.count (drop r.from terms)

-- a row stands alone, or it joins two parts
pub data Reading : Type 0 where
  alone : PassiveSingle → Reading
  joins : Joint → Reading

-- what a row with this tag says, where its term is t
abbrev pub reading_as : PassiveTag → PassiveRow → Term Name → Reading
reading_as Assert r t = alone (p_assert t)
reading_as Assume r t = alone (p_assume t)
reading_as Skip r t = alone p_skip
reading_as Raise r t = alone p_raise
reading_as (Join j) r t = joins j
reading_as Let r t = alone (p_let r.f t)
reading_as Stop r t = alone p_stop

-- what a row says, where its term is t: one whose tag is not known stops
abbrev pub reading : PassiveRow → Term Name → Reading
reading r t = reading_as (result_unwrap_or (tag_of r.tag) Stop) r t
