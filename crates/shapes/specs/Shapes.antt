-- Routines of a wanted shape, row by row. A command's rows are those of its left part, those of its right part, and then its own; so a
-- joined row i has its right part before it, ending at row i - 1, and it is enough to say where its left part ends.
use Rattle.std.specs.Prelude.{ℕ, ◌+◌, ◌-◌, ◌*◌, ◌/◌, ◌%◌, cond, List, [], ◌∷◌, codes, Some, None, Option, is_some, ◌==◌, nat_le, nat_lt}
use Rattle.routine.specs.declared.rows.TermRow.{TermRow}
use Rattle.routine.specs.declared.rows.CommandRow.{CommandRow}
use Rattle.routine.specs.declared.rows.Joint.TheVariants.{Sequence}
use Rattle.routine.specs.Rows.{tag_of, joint_of}
use Rattle.routine.specs.Standing.{joint_tag}
use Rattle.shapes.specs.declared.Shape.{Shape}
use Rattle.shapes.specs.declared.Shape.TheVariants.{Combs, Chains, Tree}
use Rattle.shapes.specs.declared.Pattern.{Pattern}
use Rattle.worked.specs.Tables.{literal_row, operation_row, skip_row, joint_command}

-- Perfect trees. One of height h has 2^h - 1 rows: those of two trees of height h - 1, and its own.

-- the rows of the trees of heights 10 to 1
abbrev pub perfect : List ℕ
perfect = 1023 ∷ 511 ∷ 255 ∷ 127 ∷ 63 ∷ 31 ∷ 15 ∷ 7 ∷ 3 ∷ 1 ∷ []

-- rows are counted from 1: row n of two halves of this size, counted in its own half
abbrev pub in_half : ℕ → ℕ → ℕ
in_half size n = cond (nat_lt size n) (n - size) n

-- How many rows the part takes that ends at row n: the whole half for the half's last row; any other row stands in one of its halves.
abbrev pub part_rows : List ℕ → ℕ → ℕ
part_rows [] n = 1
part_rows (size ∷ smaller) n = cond (in_half size n == size) size (part_rows smaller (in_half size n))

-- the same in the tree of height 10, which begins with every smaller one
unfoldable pub tree_rows : ℕ → ℕ
tree_rows n = part_rows perfect n

-- a part of one row is a single command; of any other one half of the rows before its own are its right part
abbrev pub tree_left : ℕ → Option ℕ
tree_left i =
    let rows = tree_rows (i + 1) in
    cond (rows == 1) None (Some (i - (rows / 2 + 1)))

-- Combs. One of n + 1 single commands is their rows and then n joined rows: the first joins the last two commands, each other one the
-- command before with what is joined so far. Here outer + 1 such combs, of inner + 1 commands each, are joined in the same way.

-- First stand all combs, of `size` rows each: row i is row k of its own, and a joined one has command 2 * inner - k of it to the left.
-- Behind them stand the rows that join the combs: the first has the last comb but one to the left, each other one the comb before.
abbrev pub combs_left : ℕ → ℕ → ℕ → Option ℕ
combs_left outer inner i =
    let size = 2 * inner + 1 in
    let combs = (outer + 1) * size in
    let k = i % size in
    cond (nat_lt i combs)
    (cond (nat_le k inner) None (Some (i / size * size + (2 * inner - k))))
    (Some ((outer - (i - combs)) * size - 1))

-- Chains. One of n + 1 single commands is its first command, and then each other one with a joined row behind it, which has all rows before
-- that command to the left. Such chains, of inner + 1 commands each, are joined in the same way.

-- The first chain is `size` rows, each other one its rows and the row that joins it. Row i is row k of its chain: the commands of a chain
-- are row 0 and the odd rows.
abbrev pub chains_left : ℕ → ℕ → Option ℕ
chains_left inner i =
    let size = 2 * inner + 1 in
    let k = cond (nat_lt i size) i ((i - size) % (size + 1)) in
    cond (k == size) (Some (i - (size + 1)))
    (cond (k == 0) None
    (cond (k % 2 == 1) None
    (Some (i - 2))))

abbrev pub left_of : Shape → ℕ → Option ℕ
left_of (Combs outer inner) i = combs_left outer inner i
left_of (Chains inner) i = chains_left inner i
left_of Tree i = tree_left i

-- what a shape is called
abbrev pub shape_name : Shape → List ℕ
shape_name (Combs outer inner) = codes "combs"
shape_name (Chains inner) = codes "chains"
shape_name Tree = codes "trees"

-- the variables are assigned to in turn
abbrev pub target_at : ℕ → ℕ → ℕ
target_at variables i = cond (variables == 0) 0 (i % variables)

-- the single command with its target, or a joined row
abbrev pub row_of : Pattern → ℕ → Option ℕ → CommandRow
row_of p i None =
    record { tag = p.single.tag; target = target_at p.variables i; from = p.single.from; count = p.single.count; left = p.single.left }
row_of p i (Some left) = joint_command p.joint left

-- row i of a routine
abbrev pub row_at : Pattern → ℕ → CommandRow
row_at p i = row_of p i (left_of p.shape i)

-- skips in sequence
abbrev pub skips : Shape → Pattern
skips shape = record { shape = shape; joint = joint_tag Sequence; single = skip_row; variables = 0 }

-- a skip, or a row that joins two parts, with 7 in each field that its tag does not read
abbrev pub with_sevens : CommandRow → CommandRow
with_sevens row =
    record { tag = row.tag; target = 7; from = 7; count = 7; left = cond (is_some (joint_of (tag_of row.tag))) row.left 7 }

-- row i of chains of skips
abbrev pub chain_row : ℕ → ℕ → CommandRow
chain_row inner i = with_sevens (row_at (skips (Chains inner)) i)

-- row k of a term of n rows: literals 1, the middle row the last of them, and then additions
abbrev pub sum_row : ℕ → ℕ → TermRow
sum_row n k = cond (nat_le k (n / 2)) (literal_row 1) (operation_row 0)
