-- A single command's term, and how long it is.
use Rattle.std.proofs.Common.{◌≡◌, ℕ, ◌+◌, ◌≤◌, leb, List, length, drop, sym, ap, ◌∙◌, arith, length-drop, length-take-le}
use Rattle.std.proofs.lemmas.List.{length-map}
use Rattle.std.proofs.lemmas.Bool.Decides.{nat_tests}
use Rattle.kinds.specs.declared.numbered.Variable.{Variable}
use Rattle.kinds.specs.declared.numbered.Name.{Name}
use Rattle.routine.specs.declared.rows.TermRow.{TermRow}
use Rattle.routine.specs.declared.rows.CommandRow.{CommandRow}
use Rattle.routine.specs.Commands.{Term}
use Rattle.routine.specs.Rows.{item}
use Rattle.routine.specs.Decoding.{part, well_formed}
use Rattle.routine.specs.Standing.{HasTerm}
use Rattle.routine.proofs.Splits.{both_true}
use Rattle.passive.specs.Passive.{renamed, rename}

module _ (v ops : ℕ) (ts : List TermRow) (r : CommandRow) (t : Term Variable) (h : HasTerm v ops ts r t) where
  pub term_within : r.from + r.count ≤ length ts
  term_within =
      let w = (both_true (leb (r.from + r.count) (length ts)) (well_formed v ops 0 (part ts r.from r.count)) h.0).0 in
      grind (arith, nat_tests)

  pub term_long : length t ≡ r.count
  term_long =
      let w = term_within in
      ap length h.1 ∙ (length-map (part ts r.from r.count) item ∙ length-take-le r.count (drop r.from ts) (omega (arith, length-drop r.from ts)))

  pub renamed_long : (m : List Name) → r.count ≡ length (rename m t)
  renamed_long m = sym (length-map t (renamed m) ∙ term_long)
