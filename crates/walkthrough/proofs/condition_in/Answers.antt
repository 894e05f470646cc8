use Rattle.std.proofs.Common.{◌≡◌, ℕ, List, ◌++◌, length, take, drop, Ok, Err, Result, MatchResult, subst, arith}
use Rattle.std.specs.Result.{IsErrAnd}
use Rattle.std.proofs.lemmas.Grind.{common_steps}
use Rattle.walkthrough.proofs.condition_in.Goals as goal

-- where the error alone was made another, the value is as it was
same_value : {X D E : Type 0} (r : Result X D) (s : Result X E) (Q : D → E → Type 0) (x : X) → MatchResult r (λ y. s ≡ Ok y) (λ d. IsErrAnd s (Q d)) → s ≡ Ok x → r ≡ Ok x
same_value (Ok y) s Q x h p = cc
same_value (Err d) s Q x h p = absurd (subst (λ t. IsErrAnd t (Q d)) p h)

-- a table that was written whole
whole : {A : Type 0} (n : ℕ) (xs ys : List A) → length xs ≡ n → take n (xs ++ drop (length xs) ys) ≡ xs
whole n xs ys l = grind (arith, common_steps)

pub returns : goal.returns
returns g c =
    let made = same_value c.make_condition.result c.map_err.result _ c.in_ok-made.made c.map_err.ensures.cases c.in_ok-made.was in
    let rows = whole c.in_ok-rows.rows.len c.make_condition.new.rows c.in_ok-rows.rows.items (omega arith) in
    (c.as_mut_slice.result.now, c.as_mut_slice-2.result.now, c.make_condition.new.out, rw rows (rw made at c.make_condition.ensures.made))
