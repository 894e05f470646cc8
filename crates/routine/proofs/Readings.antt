-- What one command row says.
use Rattle.std.proofs.Common.{◌≡◌, ℕ, true, cond, eqb, ltb, List, Ok, Err, Result, sym, refl, ap, ◌∙◌, arith}
use Rattle.std.proofs.lemmas.Bool.Decides.{nat_tests}
use Rattle.kinds.specs.declared.numbered.Variable.{Variable}
use Rattle.kinds.specs.declared.refusals.Refusal.{Refusal}
use Rattle.kinds.specs.declared.refusals.Refusal.TheVariants.{Target, Term as BadTerm}
use Rattle.routine.specs.declared.rows.TermRow.{TermRow}
use Rattle.routine.specs.declared.rows.CommandRow.{CommandRow}
use Rattle.routine.specs.declared.rows.Joint.{Joint}
use Rattle.routine.specs.declared.rows.Joint.TheVariants.{Sequence, Choice, Catch}
use Rattle.routine.specs.Commands.{Term, Single, assert, assume, assign, skip, raise}
use Rattle.routine.specs.Rows.{variable, tag_of}
use Rattle.routine.specs.declared.rows.Tag.{Tag}
use Rattle.routine.specs.Decoding.{term_of, has_term, with_term, Reading, alone, joins, reading_as, reading}
use Rattle.routine.specs.Standing.{single_tag, joint_tag, Fields}
use Rattle.routine.proofs.Splits.{by_test, same_number}

module _ (v ops : ℕ) (terms : List TermRow) (r : CommandRow) where
  -- the row is what it was read as
  abbrev pub Says : Result Reading Refusal → Type 0
  Says (Ok (alone c)) = (r.tag ≡ single_tag c) × Fields v ops terms r c
  Says (Ok (joins j)) = r.tag ≡ joint_tag j
  Says (Err e) = Unit {0}

  says_term :
      (c : Term Variable → Single) → (has_term v ops terms r ≡ true → Says (Ok (alone (c (term_of terms r))))) → Says (with_term v ops terms r c)
  says_term c h = by_test Says (has_term v ops terms r) _ _ h (λ _. tt)

  abbrev Read : Result Tag Refusal → Type 0
  Read t = Says (reading_as v ops terms t r)

  pub reading_says : Says (reading v ops terms r)
  reading_says =
      by_test Read (eqb r.tag 1) _ _ (λ e. says_term assert (λ h. (same_number _ _ e, (h, refl)))) λ _.
      by_test Read (eqb r.tag 2) _ _ (λ e. says_term assume (λ h. (same_number _ _ e, (h, refl)))) λ _.
      by_test Read (eqb r.tag 3) _ _
      (λ e. by_test Says (ltb r.target v) _ _
      (λ t. says_term (assign (variable r.target)) (λ h. (same_number _ _ e, (grind (arith, nat_tests), refl, (h, refl))))) (λ _. tt)) λ _.
      by_test Read (eqb r.tag 4) _ _ (λ e. (same_number _ _ e, tt)) λ _.
      by_test Read (eqb r.tag 5) _ _ (λ e. (same_number _ _ e, tt)) λ _.
      by_test Read (eqb r.tag 6) _ _ (same_number _ _) λ _.
      by_test Read (eqb r.tag 7) _ _ (same_number _ _) λ _.
      by_test Read (eqb r.tag 8) _ _ (same_number _ _) λ _. tt

  -- and the other way round

  pub reads_joint : (j : Joint) → r.tag ≡ joint_tag j → reading v ops terms r ≡ Ok (joins j)
  reads_joint Sequence e = ap (λ t. reading_as v ops terms (tag_of t) r) e
  reads_joint Choice e = ap (λ t. reading_as v ops terms (tag_of t) r) e
  reads_joint Catch e = ap (λ t. reading_as v ops terms (tag_of t) r) e

  with_its_term : (c : Term Variable → Single) (t : Term Variable) → has_term v ops terms r ≡ true → t ≡ term_of terms r → with_term v ops terms r c ≡ Ok (alone (c t))
  with_its_term c t h e = ap (λ b. cond b (Ok (alone (c (term_of terms r)))) (Err BadTerm)) h ∙ ap (λ t. Ok (alone (c t))) (sym e)

  pub reads_single : (c : Single) → r.tag ≡ single_tag c → Fields v ops terms r c → reading v ops terms r ≡ Ok (alone c)
  reads_single (assert t) e h = ap (λ t. reading_as v ops terms (tag_of t) r) e ∙ with_its_term assert t h.0 h.1
  reads_single (assume t) e h = ap (λ t. reading_as v ops terms (tag_of t) r) e ∙ with_its_term assume t h.0 h.1
  reads_single (assign x t) e h =
      let below = h.0 in
      let z : ltb r.target v ≡ true = grind (arith, nat_tests) in
      ap (λ t. reading_as v ops terms (tag_of t) r) e
      ∙ ap (λ b. cond b (with_term v ops terms r (assign (variable r.target))) (Err Target)) z
      ∙ with_its_term (assign (variable r.target)) t h.2.0 h.2.1
      ∙ ap (λ x. Ok (alone (assign x t))) (sym h.1)
  reads_single skip e h = ap (λ t. reading_as v ops terms (tag_of t) r) e
  reads_single raise e h = ap (λ t. reading_as v ops terms (tag_of t) r) e
