-- The sizes of routines, and the families that they grow in.
use Rattle.std.specs.Prelude.{ℕ, ◌+◌, ◌*◌, List, [], ◌∷◌}
use Rattle.routine.specs.declared.rows.Joint.{Joint}
use Rattle.routine.specs.declared.rows.Joint.TheVariants.{Sequence, Choice}
use Rattle.routine.specs.Standing.{joint_tag}
use Rattle.shapes.specs.declared.Shape.TheVariants.{Combs, Tree}
use Rattle.shapes.specs.declared.Pattern.{Pattern}
use Rattle.worked.specs.Tables.{assign_row}
use Rattle.bench.specs.declared.routines.Size.{Size}
use Rattle.bench.specs.declared.routines.Family.{Family}

-- a tree of so many rows
abbrev pub tree : ℕ → ℕ → Size
tree rows depth = record { rows = rows; depth = depth; shape = Tree }

-- outer + 1 combs of inner + 1 single commands each, in one comb
abbrev pub combs : ℕ → ℕ → Size
combs outer inner = record { rows = (outer + 1) * (2 * inner + 1) + outer; depth = outer + inner + 1; shape = Combs outer inner }

abbrev pub trees : List Size
trees = tree 31 5 ∷ tree 127 7 ∷ tree 511 9 ∷ tree 1023 10 ∷ []

abbrev pub deep_combs : List Size
deep_combs = combs 0 8 ∷ combs 0 63 ∷ combs 3 60 ∷ combs 8 55 ∷ []

abbrev pub smaller_combs : List Size
smaller_combs = combs 0 8 ∷ combs 0 63 ∷ combs 1 62 ∷ combs 3 60 ∷ []

abbrev pub joined_by : Joint → ℕ → List Size → Family
joined_by joint v sizes = record { joint = joint; variables = v; sizes = sizes }

abbrev pub families : List Family
families =
    joined_by Sequence 1 trees ∷ joined_by Sequence 32 trees ∷ joined_by Sequence 8 deep_combs ∷ joined_by Sequence 32 deep_combs
    ∷ joined_by Choice 8 trees ∷ joined_by Choice 32 trees ∷ joined_by Choice 1 deep_combs ∷ joined_by Choice 8 smaller_combs ∷ []

-- assignments of three term rows, from the first on
abbrev pub pattern : Family → Size → Pattern
pattern family size = record { shape = size.shape; joint = joint_tag family.joint; single = assign_row 0 0 3; variables = family.variables }
