-- What a kind of value is: its values, what it does with them, and the laws that hold of it.
use Rattle.std.specs.Prelude.{◌≡◌, ℕ, ◌≤◌, Bool, true, false}

pub record KindOf (V : Type 0) : Type 0 where
  pub yes : V
  pub no : V
  pub truth : V → Bool
  -- for each number of 16 bits
  pub literal : ℕ → V
  pub same : V → V → Bool
  -- the operations are numbered 0 to ops - 1
  pub ops : ℕ
  pub operate : ℕ → V → V → V
  pub few_ops : ops ≤ 256
  -- the four laws: yes is true; no is false; literal 0 is no; same holds exactly for equal values
  pub yes_true : truth yes ≡ true
  pub no_false : truth no ≡ false
  pub zero_no : literal 0 ≡ no
  pub same_equal : (x y : V) → same x y ≡ true → x ≡ y
  pub equal_same : (x : V) → same x x ≡ true
  -- an operation numbered ops or more gives no
  pub no_such_op : (k : ℕ) (x y : V) → ops ≤ k → operate k x y ≡ no
