-- The worked routines, by evaluation; C1 by cases on the sign of v0.
use Rattle.std.proofs.Common.{◌≡◌, ℕ, zero, suc, Bool, true, false, not, ◌&&◌, ◌||◌, ltb, [], ◌∷◌, get_or, ℤ, pos, negsuc, ◌-ℤ◌, refl, ap, ◌∙◌, true≢false, zero-le, arith, lit≤, w32, SFits}
use mathlib.Core.Bool.{false≢true}
use lib.Signed.{lt_z}
use Rattle.std.specs.Int.{int_wrap}
use Rattle.std.proofs.lemmas.Int.{int_wrap_fits}
use Rattle.std.proofs.lemmas.Bool.{le-ltb, cond-false}
use Rattle.kinds.specs.Numbers.{number, yes_or_no, equal, equal_means, number_kind}
use Rattle.kinds.specs.declared.numbers.Number.{Number}
use Rattle.routine.specs.Runs.{wrong, Run, assigns, assert_fails, sequence_on, sequence_wrong}
use Rattle.passive.specs.Outcomes.{Assignment}
use Rattle.worked.specs.Tables.{routine_1, routine_2}
use Rattle.worked.specs.Worked.{holds, AllFit, minus_one, least, largest, WorkedOut}

abbrev true_number : Number → Bool
true_number x = number_kind.truth x

-- the condition of C1, where p says that v0 is positive, q that it is then one less, and r that it is then negative
abbrev condition : Bool → Bool → Bool → Bool
condition p q r =
    not ((true_number (yes_or_no p) && false)
    || ((true_number (yes_or_no p) && q) && not (true_number (yes_or_no (equal (yes_or_no r).0 (pos 0))))))

by_truths : (p q r : Bool) → (p ≡ true → q ≡ true → r ≡ false) → condition p q r ≡ true
by_truths true true true h = absurd (true≢false (h refl refl))
by_truths true true false h = refl
by_truths true false true h = refl
by_truths true false false h = refl
by_truths false q r h = refl

one_less_is : (n : ℕ) → pos (suc n) -ℤ pos 1 ≡ pos n
one_less_is n = cond-false (ltb (suc n) 1) _ _ (le-ltb (suc n) 1 (omega arith)) ∙ ap pos (omega arith)

-- one less than a positive number of 32 bits is such a number, and not negative
not_negative_then : (x y : ℤ) → SFits w32 x → lt_z (pos 0) x ≡ true → equal y (int_wrap w32 (x -ℤ pos 1)) ≡ true → lt_z y (pos 0) ≡ false
not_negative_then (negsuc n) y f p q = absurd (false≢true p)
not_negative_then (pos zero) y f p q = absurd (false≢true p)
not_negative_then (pos (suc n)) y f p q =
    let small : SFits w32 (pos n) = record { sfits = omega (arith, f.sfits) } in
    let is : y ≡ pos n = equal_means y _ q ∙ ap (int_wrap w32) (one_less_is n) ∙ int_wrap_fits w32 (pos n) small in
    ap (λ z. lt_z z (pos 0)) is ∙ le-ltb n 0 zero-le

first_cases : (x y : ℤ) → SFits w32 x → holds 1 routine_1 (number x ∷ number y ∷ []) ≡ true
first_cases x y f = by_truths (lt_z (pos 0) x) (equal y (int_wrap w32 (x -ℤ pos 1))) (lt_z y (pos 0)) (not_negative_then x y f)

first_fits : (a : Assignment Number) → AllFit a → SFits w32 (get_or a 0 (number (pos 0))).0
first_fits [] f = record { sfits = lit≤ tt }
first_fits (x ∷ a) f = f.0

second_false : holds 1 routine_2 (number (pos 0) ∷ minus_one ∷ []) ≡ false
unfolding int_wrap
second_false = refl

second_true : holds 1 routine_2 (number (pos 0) ∷ number (pos 5) ∷ []) ≡ true
unfolding int_wrap
second_true = refl

second_wraps : number_kind.operate 1 least (number (pos 1)) ≡ largest
unfolding int_wrap
second_wraps = refl

second_safe : Run number_kind routine_2 (least ∷ []) wrong → ⊥
unfolding int_wrap
second_safe (sequence_on assigns (assert_fails e)) = true≢false e
second_safe (sequence_wrong r) = elim r [ ]

pub worked_out : WorkedOut
worked_out = record {
  first_decoded = refl;
  first_measured = refl;
  first_holds = λ a f. first_cases (get_or a 0 (number (pos 0))).0 (get_or a 1 (number (pos 0))).0 (first_fits a f);
  second_decoded = refl;
  second_measured = refl;
  second_false = second_false;
  second_true = second_true;
  second_wraps = second_wraps;
  second_safe = second_safe;
  third_decoded = refl;
  third_measured = refl;
  third_holds = λ a. refl;
  fourth_decoded = refl;
  fourth_form = refl;
  fourth_rows = refl;
  fourth_measured = refl;
  fourth_holds = λ a. refl;
  fifth_decoded = refl;
  fifth_measured = refl;
  sixth_decoded = refl;
  sixth_measured = refl;
  sixth_false = λ a. refl;
  seventh_decoded = refl;
  seventh_measured = refl;
  eighth_refused = (refl, refl);
  ninth_refused = (refl, refl);
  tenth_refused = (refl, refl);
  eleventh_refused = (refl, refl);
  twelfth_refused = (refl, refl);
}
