-- The kind of numbers: 32 bits, signed; 1 is yes, 0 is no, and all values but 0 are true.
use Rattle.std.specs.Prelude.{◌≡◌, ℕ, ◌≤◌, Bool, true, false, cond, not, ℤ, pos, negsuc, ◌+ℤ◌, ◌-ℤ◌, ◌*ℤ◌, ◌==◌, int_lt, refl}
use Rattle.std.proofs.Common.{ap, ◌∙◌, arith, lit≤}
use Rattle.std.specs.Int.{int_wrap, w32}
use Rattle.std.proofs.lemmas.Bool.{eqb-true, eq-eqb, ne_eqb, cond-false, false≢true}
use Rattle.kinds.specs.Kind.{KindOf}
use Rattle.kinds.specs.declared.numbers.Number.{Number}

abbrev pub number : ℤ → Number
number n = record { 0 = n }

abbrev pub yes_or_no : Bool → Number
yes_or_no b = number (cond b (pos 1) (pos 0))

abbrev pub equal : ℤ → ℤ → Bool
equal (pos a) (pos b) = a == b
equal (pos a) (negsuc b) = false
equal (negsuc a) (pos b) = false
equal (negsuc a) (negsuc b) = a == b

-- sum, difference and product modulo 2 ^ 32; less; equal
abbrev pub operated : ℕ → Number → Number → Number
operated k p q =
    cond (k == 0) (number (int_wrap w32 (p.0 +ℤ q.0)))
    (cond (k == 1) (number (int_wrap w32 (p.0 -ℤ q.0)))
    (cond (k == 2) (number (int_wrap w32 (p.0 *ℤ q.0)))
    (cond (k == 3) (yes_or_no (int_lt p.0 q.0))
    (cond (k == 4) (yes_or_no (equal p.0 q.0))
    (number (pos 0))))))

-- the laws, shown

pub equal_means : (x y : ℤ) → equal x y ≡ true → x ≡ y
equal_means (pos a) (pos b) e = ap pos (eqb-true a b e)
equal_means (pos a) (negsuc b) e = absurd (false≢true e)
equal_means (negsuc a) (pos b) e = absurd (false≢true e)
equal_means (negsuc a) (negsuc b) e = ap negsuc (eqb-true a b e)

pub equal_itself : (x : ℤ) → equal x x ≡ true
equal_itself (pos a) = eq-eqb a a refl
equal_itself (negsuc a) = eq-eqb a a refl

pub past_the_last : (k : ℕ) (x y : Number) → 5 ≤ k → operated k x y ≡ number (pos 0)
past_the_last k x y h =
    cond-false (k == 0) _ _ (ne_eqb k 0 (omega arith))
    ∙ cond-false (k == 1) _ _ (ne_eqb k 1 (omega arith))
    ∙ cond-false (k == 2) _ _ (ne_eqb k 2 (omega arith))
    ∙ cond-false (k == 3) _ _ (ne_eqb k 3 (omega arith))
    ∙ cond-false (k == 4) _ _ (ne_eqb k 4 (omega arith))

abbrev pub number_kind : KindOf Number
number_kind = record {
  yes = number (pos 1);
  no = number (pos 0);
  truth = λ x. not (equal x.0 (pos 0));
  literal = λ n. number (pos n);
  same = λ x y. equal x.0 y.0;
  ops = 5;
  operate = operated;
  few_ops = lit≤ tt;
  yes_true = refl;
  no_false = refl;
  zero_no = refl;
  same_equal = λ x y e. ap number (equal_means x.0 y.0 e);
  equal_same = λ x. equal_itself x.0;
  no_such_op = past_the_last;
}
