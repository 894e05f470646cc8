-- Which part of a perfect tree a row ends.
use Rattle.std.proofs.Common.{arith, ◌≡◌, ℕ, ◌+◌, ◌<◌, ◌≢◌, List, length, get_or, drop, ◌∙◌}
use Rattle.std.proofs.lemmas.List.{at_drop_more}
use Rattle.shapes.specs.Shapes.{in_half, part_rows}

-- one more size is tried: the row is the last of its half, or is looked for in smaller ones
pub part_there :
    (sizes : List ℕ) (i n m : ℕ) → i < length sizes → m ≡ in_half (get_or sizes i 0) n → m ≡ get_or sizes i 0
    → part_rows (drop i sizes) n ≡ get_or sizes i 0
part_there sizes i n m l e t = at_drop_more (λ z. part_rows z n) sizes i 0 l ∙ grind (arith, e, t)

pub part_smaller :
    (sizes : List ℕ) (i n m : ℕ) → i < length sizes → m ≡ in_half (get_or sizes i 0) n → m ≢ get_or sizes i 0
    → part_rows (drop i sizes) n ≡ part_rows (drop (i + 1) sizes) m
part_smaller sizes i n m l e t = at_drop_more (λ z. part_rows z n) sizes i 0 l ∙ grind (arith, e, t)
