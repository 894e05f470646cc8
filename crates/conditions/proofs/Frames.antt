-- How a store grows over several calls, and which calls it does not refuse.
use Rattle.std.proofs.Common.{◌≡◌, ℕ, ◌+◌, ◌<◌, ◌≤◌, Bool, true, List, [], ◌∷◌, ◌++◌, None, Option, refl, ◌∙◌, arith}
use Rattle.std.proofs.lemmas.Bool.{lt-ltb, and_from}
use Rattle.kinds.specs.Kind.{KindOf}
use Rattle.kinds.specs.declared.numbered.Node.{Node}
use Rattle.kinds.specs.declared.refusals.Refusal.{Refusal}
use Rattle.formula.specs.declared.stores.Making.{Making}
use Rattle.formula.specs.declared.stores.Making.TheVariants as making
use Rattle.formula.specs.Store.{Meaning, operation_known, name_below, nodes_used, unless, Grown}
use Rattle.conditions.specs.Made.{Ends}
use Rattle.conditions.specs.Valued.{EndsUsed, RowsUsed}
use Rattle.conditions.specs.Asks.{Accepted, Room}
use Rattle.passive.specs.declared.rows.PassiveRow.{PassiveRow}

module _ {V : Type 0} {S : Type 0} (M : Meaning V S) where
  pub grown_none : (s : S) → Grown M s 0 s
  grown_none s = record {
    grows = omega arith;
    few = omega arith;
    capacity_same = refl;
    width_same = refl;
    covers_same = λ a. (λ h. h, λ h. h);
    still_used = λ n h. h;
    kept = λ n a u h. refl;
  }

  pub grown_then : {s t u : S} {j k : ℕ} → Grown M s j t → Grown M t k u → Grown M s (j + k) u
  grown_then x y = record {
    grows = omega arith;
    few = omega arith;
    capacity_same = y.capacity_same ∙ x.capacity_same;
    width_same = y.width_same ∙ x.width_same;
    covers_same = λ a. (λ h. (x.covers_same a).0 ((y.covers_same a).0 h), λ h. (y.covers_same a).1 ((x.covers_same a).1 h));
    still_used = λ n h. y.still_used n (x.still_used n h);
    kept = λ n a u h. y.kept n a (x.still_used n u) ((x.covers_same a).1 h) ∙ x.kept n a u h;
  }

  pub grown_by : {s t : S} {j k : ℕ} → j ≤ k → Grown M s j t → Grown M s k t
  grown_by e x = record {
    grows = x.grows;
    few = omega arith;
    capacity_same = x.capacity_same;
    width_same = x.width_same;
    covers_same = x.covers_same;
    still_used = x.still_used;
    kept = x.kept;
  }

  pub ends_later : {s t : S} {k : ℕ} {e : Ends} → Grown M s k t → EndsUsed M s e → EndsUsed M t e
  ends_later {e = e} g u = record { N = g.still_used e.N u.N; X = g.still_used e.X u.X; W = g.still_used e.W u.W }

  pub rows_later : {s t : S} {k : ℕ} (rows : List PassiveRow) → Grown M s k t → RowsUsed M s rows → RowsUsed M t rows
  rows_later [] g u = tt
  rows_later (r ∷ rs) g u = (ends_later g u.0, rows_later rs g u.1)

  pub used_append : (s : S) (xs ys : List PassiveRow) → RowsUsed M s xs → RowsUsed M s ys → RowsUsed M s (xs ++ ys)
  used_append s [] ys u w = w
  used_append s (x ∷ xs) ys u w = (u.0, used_append s xs ys u.1 w)

  pub room_later : {s t : S} {j : ℕ} (k n : ℕ) → Grown M s j t → j + k ≤ n → Room M s n → Room M t k
  room_later k n g l h = omega (arith, g.few, g.capacity_same, l, h)

-- a call is accepted that no test refuses

unless_true : (b : Bool) (r : Refusal) (next : Option Refusal) → b ≡ true → next ≡ None → unless b r next ≡ None
unless_true b r next e h = rw e h

module _ {V : Type 0} {S : Type 0} (K : KindOf V) (M : Meaning V S) where
  pub accepted : (s : S) (c : Making) → operation_known K.ops c ≡ true → name_below (M.width s) c ≡ true
      → nodes_used (M.in_use s) c ≡ true → M.count s < M.capacity s → Accepted K M s c
  accepted s c o w u l =
      unless_true _ _ _ o (unless_true _ _ _ w (unless_true _ _ _ u (unless_true _ _ _ (lt-ltb (M.count s) (M.capacity s) l) refl)))

  pub same_accepted : (s : S) (p q : Node) → M.in_use s p ≡ true → M.in_use s q ≡ true → Room M s 1 → Accepted K M s (making.Same p q)
  same_accepted s p q u w h = accepted s (making.Same p q) refl refl (and_from _ _ u w) (omega (arith, h))

  pub not_accepted : (s : S) (p : Node) → M.in_use s p ≡ true → Room M s 1 → Accepted K M s (making.Not p)
  not_accepted s p u h = accepted s (making.Not p) refl refl u (omega (arith, h))
