-- The kind of flags: no and yes.
use Rattle.std.specs.Prelude.{◌≡◌, ℕ, ◌+◌, ◌*◌, ◌/◌, ◌%◌, ◌^◌, ◌≤◌, Bool, true, false, cond, not, ◌==◌, nat_le, refl}
use Rattle.std.proofs.Common.{ap, sym, lit≤}
use Rattle.std.proofs.lemmas.Bool.{le-leb, cond-true}
use Rattle.kinds.specs.Kind.{KindOf}
use Rattle.kinds.specs.declared.flags.Flag.{Flag}

abbrev pub flag : Bool → Flag
flag b = record { 0 = b }

abbrev pub as_number : Bool → ℕ
as_number b = cond b 1 0

abbrev pub equal : Bool → Bool → Bool
equal true b = b
equal false b = not b

-- operation k is yes exactly when bit 2p + q of k is 1, bit 0 the lowest
abbrev pub operated : ℕ → Flag → Flag → Flag
operated k p q =
    cond (nat_le 16 k) (flag false)
    (flag (k / 2 ^ (2 * as_number p.0 + as_number q.0) % 2 == 1))

-- the laws, shown

pub equal_means : (a b : Bool) → equal a b ≡ true → a ≡ b
equal_means true b e = sym e
equal_means false true e = e
equal_means false false e = refl

pub equal_itself : (a : Bool) → equal a a ≡ true
equal_itself true = refl
equal_itself false = refl

pub past_the_last : (k : ℕ) (x y : Flag) → 16 ≤ k → operated k x y ≡ flag false
past_the_last k x y h = cond-true (nat_le 16 k) _ _ (le-leb 16 k h)

abbrev pub flag_kind : KindOf Flag
flag_kind = record {
  yes = flag true;
  no = flag false;
  truth = λ x. x.0;
  literal = λ n. flag (not (n == 0));
  same = λ x y. equal x.0 y.0;
  ops = 16;
  operate = operated;
  few_ops = lit≤ tt;
  yes_true = refl;
  no_false = refl;
  zero_no = refl;
  same_equal = λ x y e. ap flag (equal_means x.0 y.0 e);
  equal_same = λ x. equal_itself x.0;
  no_such_op = past_the_last;
}
