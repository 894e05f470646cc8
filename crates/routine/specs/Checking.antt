-- What the check keeps of each row: of the command that ends there, its first row and its depth.
use Rattle.std.specs.Prelude.{ℕ, ◌+◌, ◌-◌, ◌<◌, ◌≤◌, max, cond, ◌&&◌, List, length, Some, None, Ok, Err, Option, Result, ◌==◌, nat_lt, slice_index_or}
use Rattle.kinds.specs.declared.refusals.Refusal.{Refusal}
use Rattle.kinds.specs.declared.refusals.Refusal.TheVariants.{Parts}
use Rattle.routine.specs.declared.rows.TermRow.{TermRow}
use Rattle.routine.specs.declared.checks.Part.{Part}
use Rattle.routine.specs.Limits.{deepest}
use Rattle.routine.specs.Decoding.{Reading, alone, joins, may_stand, waiting_then}

abbrev pub stepped : ℕ → ℕ → ℕ → TermRow → Option ℕ
stepped v ops w r = cond (may_stand v ops w r) (Some (waiting_then w r)) None

abbrev pub no_part : Part
no_part = record { first = 0; depth = 0 }

-- the parts of the rows before row i are there
pub record Ready (parts : List Part) (i : ℕ) : Type 0 where
  pub room : i ≤ length parts
  pub back : 0 < i → (slice_index_or parts (i - 1) no_part).first < i

-- the command that row i makes of the two before it
abbrev pub joined_part : List Part → ℕ → ℕ → Result Part Refusal
joined_part parts i left =
    let a = slice_index_or parts left no_part in
    let b = slice_index_or parts (i - 1) no_part in
    cond (nat_lt 0 i && (left + 1 == b.first && nat_lt (max a.depth b.depth) deepest))
    (Ok (record { first = a.first; depth = max a.depth b.depth + 1 }))
    (Err Parts)

-- the command that ends at row i, where the row says this
abbrev pub part_at : List Part → ℕ → ℕ → Result Reading Refusal → Result Part Refusal
part_at parts i left (Ok (alone c)) = Ok (record { first = i; depth = 1 })
part_at parts i left (Ok (joins j)) = joined_part parts i left
part_at parts i left (Err e) = Err e
