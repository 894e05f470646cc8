-- What the rules say of the twelve worked routines, all over the kind of numbers.
use Rattle.std.specs.Prelude.{◌≡◌, ℕ, Bool, true, false, not, List, [], ◌∷◌, pos, negsuc, Ok, Err, Result, FitsSigned}
use Rattle.std.specs.Int.{w32}
use Rattle.kinds.specs.Numbers.{number, number_kind}
use Rattle.kinds.specs.Refusals.{refusal_number}
use Rattle.kinds.specs.declared.numbers.Number.{Number}
use Rattle.kinds.specs.declared.refusals.Refusal.{Refusal}
use Rattle.kinds.specs.declared.refusals.Refusal.TheVariants.{Target, Term, Parts, Whole}
use Rattle.routine.specs.declared.rows.TermRow.{TermRow}
use Rattle.routine.specs.declared.rows.CommandRow.{CommandRow}
use Rattle.routine.specs.declared.rows.Joint.TheVariants.{Sequence}
use Rattle.routine.specs.Commands.{Command}
use Rattle.routine.specs.Decoding.{decode}
use Rattle.routine.specs.Runs.{wrong, Run}
use Rattle.passive.specs.Passive.{p_raise, p_stop, p_single, p_join, passive_form}
use Rattle.passive.specs.Outcomes.{Assignment, outcomes}
use Rattle.passive.specs.Layout.{plain_row, joint_row, layout}
use Rattle.passify.specs.Calls.{measure_answer}
use Rattle.passify.specs.declared.calls.FormMeasures.{FormMeasures}
use Rattle.worked.specs.Tables.{commands_1, terms_1, routine_1, commands_2, terms_2, routine_2, commands_3, terms_3, routine_3, commands_4, terms_4, routine_4, commands_5, terms_5, routine_5, commands_6, terms_6, routine_6, commands_7, terms_7, routine_7, commands_8, terms_8, commands_9, terms_9, commands_10, terms_10, commands_11, terms_11, commands_12, terms_12}

-- what the rows of a routine of v variables say
abbrev pub decoded : ℕ → List CommandRow → List TermRow → Result Command Refusal
decoded v commands terms = decode v number_kind.ops commands terms

-- what `measure` answers of it
abbrev pub measured : ℕ → List CommandRow → List TermRow → Result FormMeasures Refusal
measured v commands terms = measure_answer v (decoded v commands terms)

abbrev pub figures : ℕ → ℕ → ℕ → ℕ → FormMeasures
figures names rows terms nodes = record { names = names; rows = rows; terms = terms; nodes = nodes }

-- refused, and with the refusal of this number
abbrev pub Refused : ℕ → List CommandRow → List TermRow → Refusal → ℕ → Type 0
Refused v commands terms e n = (decoded v commands terms ≡ Err e) × (refusal_number e ≡ n)

-- the condition under an assignment: not W of the whole
abbrev pub holds : ℕ → Command → Assignment Number → Bool
holds v c a = not (outcomes number_kind a (passive_form v c).code).W

-- each value is a number of 32 bits, signed: a Number of these rules holds any integer, one of the code only these
abbrev pub AllFit : Assignment Number → Type 0
AllFit [] = Unit {0}
AllFit (x ∷ a) = FitsSigned w32 x.0 × AllFit a

-- -1, and the least and the largest number of 32 bits; negsuc n is -(n + 1)
abbrev pub minus_one : Number
minus_one = number (negsuc 0)

abbrev pub least : Number
least = number (negsuc 2147483647)

abbrev pub largest : Number
largest = number (pos 2147483647)

pub record WorkedOut : Type 0 where
  -- C1: true under every assignment of numbers of 32 bits
  pub first_decoded : decoded 1 commands_1 terms_1 ≡ Ok routine_1
  pub first_measured : measured 1 commands_1 terms_1 ≡ Ok (figures 2 5 11 25)
  pub first_holds : (a : Assignment Number) → AllFit a → holds 1 routine_1 a ≡ true
  -- C2: false under (0, -1), true under (0, 5); the least number less 1 is the largest, and no run from it ends wrong
  pub second_decoded : decoded 1 commands_2 terms_2 ≡ Ok routine_2
  pub second_measured : measured 1 commands_2 terms_2 ≡ Ok (figures 2 3 8 17)
  pub second_false : holds 1 routine_2 (number (pos 0) ∷ minus_one ∷ []) ≡ false
  pub second_true : holds 1 routine_2 (number (pos 0) ∷ number (pos 5) ∷ []) ≡ true
  pub second_wraps : number_kind.operate 1 least (number (pos 1)) ≡ largest
  pub second_safe : Run number_kind routine_2 (least ∷ []) wrong → ⊥
  -- C3: true under every assignment
  pub third_decoded : decoded 0 commands_3 terms_3 ≡ Ok routine_3
  pub third_measured : measured 0 commands_3 terms_3 ≡ Ok (figures 0 1 0 1)
  pub third_holds : (a : Assignment Number) → holds 0 routine_3 a ≡ true
  -- C4: its passive rows are raise, stop, sequence; true under every assignment
  pub fourth_decoded : decoded 0 commands_4 terms_4 ≡ Ok routine_4
  pub fourth_form : (passive_form 0 routine_4).code ≡ p_join Sequence (p_single p_raise) (p_single p_stop)
  pub fourth_rows : layout (passive_form 0 routine_4).code 0 0 ≡ plain_row 5 ∷ plain_row 10 ∷ joint_row 6 0 ∷ []
  pub fourth_measured : measured 0 commands_4 terms_4 ≡ Ok (figures 0 3 0 6)
  pub fourth_holds : (a : Assignment Number) → holds 0 routine_4 a ≡ true
  -- C5
  pub fifth_decoded : decoded 1 commands_5 terms_5 ≡ Ok routine_5
  pub fifth_measured : measured 1 commands_5 terms_5 ≡ Ok (figures 3 7 3 23)
  -- C6: false under every assignment
  pub sixth_decoded : decoded 0 commands_6 terms_6 ≡ Ok routine_6
  pub sixth_measured : measured 0 commands_6 terms_6 ≡ Ok (figures 0 3 1 8)
  pub sixth_false : (a : Assignment Number) → holds 0 routine_6 a ≡ false
  -- C7
  pub seventh_decoded : decoded 0 commands_7 terms_7 ≡ Ok routine_7
  pub seventh_measured : measured 0 commands_7 terms_7 ≡ Ok (figures 0 1 0 1)
  -- C8 and C9: no term
  pub eighth_refused : Refused 1 commands_8 terms_8 Term 4
  pub ninth_refused : Refused 1 commands_9 terms_9 Term 4
  -- C10: a target that is no variable
  pub tenth_refused : Refused 1 commands_10 terms_10 Target 3
  -- C11: more than one command is left
  pub eleventh_refused : Refused 0 commands_11 terms_11 Whole 6
  -- C12: the left part does not end just before the right part
  pub twelfth_refused : Refused 0 commands_12 terms_12 Parts 5
