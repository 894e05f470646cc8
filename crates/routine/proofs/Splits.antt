-- Facts about tests.
use Rattle.std.proofs.Common.{◌≡◌, ℕ, Bool, true, false, cond, ◌&&◌, eqb, sym, refl, arith, true-eqb}

-- what holds of both ways of a test holds of the test
pub by_test : {A : Type 0} (P : A → Type 0) (b : Bool) (x y : A) → (b ≡ true → P x) → (b ≡ false → P y) → P (cond b x y)
by_test P true x y p q = p refl
by_test P false x y p q = q refl

pub same_number : (a b : ℕ) → eqb a b ≡ true → a ≡ b
same_number a b e = true-eqb a b (sym e)

pub false_is_not_true : {A : Type 0} → false ≡ true → A
false_is_not_true e = let z : ◌≡◌ {A = ℕ} 0 1 = cc in absurd (omega arith)

pub both_true : (a b : Bool) → (a && b) ≡ true → (a ≡ true) × (b ≡ true)
both_true true b e = (refl, e)
both_true false b e = false_is_not_true e
