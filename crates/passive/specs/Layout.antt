-- How the tables stand for a passive form: its rows in post-order, its terms one after another in row order.
use Rattle.std.specs.Prelude.{ℕ, ◌+◌, ◌-◌, List, [], ◌∷◌, ◌++◌, map, length, take, drop}
use Rattle.kinds.specs.declared.numbered.Name.{Name}
use Rattle.kinds.specs.declared.numbered.Node.{Node}
use Rattle.routine.specs.Commands.{Term}
use Rattle.routine.specs.Standing.{joint_tag}
use Rattle.passive.specs.Passive.{name, PassiveSingle, p_assert, p_assume, p_let, p_skip, p_raise, p_stop, Passive, p_single, p_join}
use Rattle.passive.specs.Rows.{term_row}
use Rattle.passive.specs.declared.rows.PassiveTermRow.{PassiveTermRow}
use Rattle.passive.specs.declared.rows.PassiveRow.{PassiveRow}

abbrev pub single_term : PassiveSingle → Term Name
single_term (p_assert t) = t
single_term (p_assume t) = t
single_term (p_let f t) = t
single_term p_skip = []
single_term p_raise = []
single_term p_stop = []

-- all the terms, one after another
abbrev pub terms : Passive → Term Name
terms (p_single p) = single_term p
terms (p_join j p q) = terms p ++ terms q

abbrev pub term_rows : Passive → List PassiveTermRow
term_rows p = map term_row (terms p)

abbrev pub rows : Passive → ℕ
rows (p_single p) = 1
rows (p_join j p q) = rows p + rows q + 1

abbrev pub no_node : Node
no_node = record { 0 = 0 }

abbrev pub passive_row : ℕ → Name → ℕ → ℕ → ℕ → PassiveRow
passive_row tag f from count left =
    record { tag = tag; f = f; from = from; count = count; left = left; n = no_node; x = no_node; w = no_node }

-- a row of which only the tag is used
abbrev pub plain_row : ℕ → PassiveRow
plain_row tag = passive_row tag (name 0) 0 0 0

abbrev pub joint_row : ℕ → ℕ → PassiveRow
joint_row tag left = passive_row tag (name 0) 0 0 left

-- tags 1 assert, 2 assume, 4 skip, 5 raise, 9 let, 10 stop; the first row of the term is j
abbrev pub single_row : PassiveSingle → ℕ → PassiveRow
single_row (p_assert t) j = passive_row 1 (name 0) j (length t) 0
single_row (p_assume t) j = passive_row 2 (name 0) j (length t) 0
single_row (p_let f t) j = passive_row 9 f j (length t) 0
single_row p_skip j = plain_row 4
single_row p_raise j = plain_row 5
single_row p_stop j = plain_row 10

-- the rows of p, where its first stands at i and the first of its terms at j; a joined row follows both parts
abbrev pub layout : Passive → ℕ → ℕ → List PassiveRow
layout (p_single p) i j = single_row p j ∷ []
layout (p_join o p q) i j =
    layout p i j ++ (layout q (i + rows p) (j + length (terms p)) ++ (joint_row (joint_tag o) (i + rows p - 1) ∷ []))

-- xs with ys written from i on, and the rest as before
abbrev pub put : {X : Type 0} → List X → ℕ → List X → List X
put xs i ys = take i xs ++ (ys ++ drop (i + length ys) xs)
