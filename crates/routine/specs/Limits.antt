-- The limits of a routine.
use Rattle.std.specs.Prelude.{ℕ}

abbrev pub most_variables : ℕ
most_variables = 32

abbrev pub most_commands : ℕ
most_commands = 1023

abbrev pub most_terms : ℕ
most_terms = 4096

-- values that wait at once while a term is worked out
abbrev pub most_waiting : ℕ
most_waiting = 16

abbrev pub deepest : ℕ
deepest = 64
