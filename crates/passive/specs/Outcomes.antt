-- What a passive form says under an assignment: whether it may end normally, raised or wrong.
use Rattle.std.specs.Prelude.{ℕ, ◌+◌, Bool, true, false, not, ◌&&◌, ◌||◌, List, length, slice_index_or}
use Rattle.kinds.specs.Kind.{KindOf}
use Rattle.kinds.specs.declared.numbered.Name.{Name}
use Rattle.routine.specs.declared.rows.Joint.{Joint}
use Rattle.routine.specs.declared.rows.Joint.TheVariants.{Sequence, Choice, Catch}
use Rattle.routine.specs.Commands.{Term}
use Rattle.routine.specs.Runs.{value}
use Rattle.passive.specs.Passive.{PassiveSingle, p_assert, p_assume, p_let, p_skip, p_raise, p_stop, Passive, p_single, p_join}

-- an assignment gives each name a value
abbrev pub Assignment : Type 0 → Type 0
Assignment V = List V

pub record Outcomes : Type 0 where
  pub N : Bool
  pub X : Bool
  pub W : Bool

abbrev pub joined_outcomes : Joint → Outcomes → Outcomes → Outcomes
joined_outcomes Sequence a b = record { N = a.N && b.N; X = a.X || (a.N && b.X); W = a.W || (a.N && b.W) }
joined_outcomes Catch a b = record { N = a.N || (a.X && b.N); X = a.X && b.X; W = a.W || (a.X && b.W) }
joined_outcomes Choice a b = record { N = a.N || b.N; X = a.X || b.X; W = a.W || b.W }

module _ {V : Type 0} (K : KindOf V) (a : Assignment V) where
  abbrev pub named : Name → V
  named f = slice_index_or a f.0 K.no

  abbrev pub value_under : Term Name → V
  value_under t = value K named t

  abbrev pub single_outcomes : PassiveSingle → Outcomes
  single_outcomes (p_assert t) = record { N = K.truth (value_under t); X = false; W = not (K.truth (value_under t)) }
  single_outcomes (p_assume t) = record { N = K.truth (value_under t); X = false; W = false }
  single_outcomes (p_let f t) = record { N = K.same (named f) (value_under t); X = false; W = false }
  single_outcomes p_skip = record { N = true; X = false; W = false }
  single_outcomes p_raise = record { N = false; X = true; W = false }
  single_outcomes p_stop = record { N = false; X = false; W = false }

  abbrev pub outcomes : Passive → Outcomes
  outcomes (p_single p) = single_outcomes p
  outcomes (p_join j p q) = joined_outcomes j (outcomes p) (outcomes q)

-- how many nodes say so: one for each row of a term, and those that the row makes of them
abbrev pub single_nodes : PassiveSingle → ℕ
single_nodes (p_assert t) = length t + 1
single_nodes (p_assume t) = length t
single_nodes (p_let f t) = length t + 2
single_nodes p_skip = 0
single_nodes p_raise = 0
single_nodes p_stop = 0

abbrev pub joint_nodes : Joint → ℕ
joint_nodes Sequence = 5
joint_nodes Choice = 3
joint_nodes Catch = 5

abbrev pub nodes : Passive → ℕ
nodes (p_single p) = single_nodes p
nodes (p_join j p q) = nodes p + nodes q + joint_nodes j

-- the condition, not W of the last row, takes one more
abbrev pub condition_nodes : Passive → ℕ
condition_nodes p = nodes p + 1
