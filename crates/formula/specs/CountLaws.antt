-- The nodes below a count are as many as the count says.
use Rattle.std.specs.Prelude.{◌≡◌, ℕ, zero, suc, false, ◌||◌, List, [], ◌∷◌, length, ◌==◌, nat_lt, refl}
use Rattle.std.proofs.Common.{ap, sym, ◌∙◌, arith}
use Rattle.std.proofs.lemmas.Bool.{le-ltb}
use Rattle.std.proofs.lemmas.Bool.Decides.{nat_tests}
use Rattle.kinds.specs.declared.numbered.Node.{Node}
use Rattle.formula.specs.Store.{listed, Once, Counted, below}

-- the nodes below a count, the last first
abbrev nodes_below : ℕ → List Node
nodes_below zero = []
nodes_below (suc count) = record { 0 = count } ∷ nodes_below count

one_more : (n count : ℕ) → nat_lt n (suc count) ≡ (n == count) || nat_lt n count
one_more n count = grind (arith, nat_tests)

none_below : (n : ℕ) → nat_lt n 0 ≡ false
none_below n = le-ltb n 0 (omega arith)

all_below : (count : ℕ) (n : Node) → below count n ≡ listed n (nodes_below count)
all_below zero n = none_below n.0
all_below (suc count) n = one_more n.0 count ∙ ap (λ b. (n.0 == count) || b) (all_below count n)

once_below : (count : ℕ) → Once (nodes_below count)
once_below zero = tt
once_below (suc count) = (sym (all_below count (record { 0 = count })) ∙ le-ltb count count (omega arith), once_below count)

many_below : (count : ℕ) → length (nodes_below count) ≡ count
many_below zero = refl
many_below (suc count) = ap suc (many_below count)

pub below_counted : (count : ℕ) → Counted (below count) count
below_counted count = record { nodes = nodes_below count; once = once_below count; all = all_below count; many = many_below count }
