-- What merging two maps gives: a map of both, new names for what they name apart, and the same state read off it.
use Rattle.std.proofs.Common.{◌≡◌, ℕ, suc, ◌+◌, ◌<◌, ◌≤◌, Bool, true, false, eqb, List, [], ◌∷◌, map, length, Some, None, sym, refl, ap, ◌∙◌, ap₂, arith}
use Rattle.std.proofs.lemmas.Bool.{and_parts, eqb-true}
use Rattle.kinds.specs.Kind.{KindOf}
use Rattle.kinds.specs.declared.numbered.Name.{Name}
use Rattle.routine.specs.Runs.{State}
use Rattle.passive.specs.Passive.{name, Names, Renamed, Merged, Merge, agreeing, differing, merge_names, merge}
use Rattle.passive.specs.Outcomes.{Assignment, named}
use Rattle.passive.specs.Uses.{Sized, AllBelow, Below}
use Rattle.passive.specs.Agreement.{Reads}
use Rattle.passive.proofs.Endings.{agreed}

-- new names from k up to n, one by one, each for an old one below b
abbrev pub Fresh : ℕ → ℕ → ℕ → List Renamed → Type 0
Fresh b k n [] = k ≡ n
Fresh b k n (r ∷ rs) = (r.new.0 ≡ k) × (r.old.0 < b) × Fresh b (k + 1) n rs

pub fresh_many : (b k n : ℕ) (rs : List Renamed) → Fresh b k n rs → k + length rs ≡ n
fresh_many b k n [] h = omega arith
fresh_many b k n (r ∷ rs) h = omega (arith, fresh_many b (k + 1) n rs h.2)

-- a map of v variables to names below n, or an absent one
abbrev pub NamesOf : ℕ → ℕ → Names → Type 0
NamesOf v n m = Sized v m × Below n m

pub all_below_more : (b n : ℕ) (xs : List Name) → b ≤ n → AllBelow b xs → AllBelow n xs
all_below_more b n [] l h = tt
all_below_more b n (x ∷ xs) l h = (omega arith, all_below_more b n xs l h.1)

pub names_more : (v b n : ℕ) (m : Names) → b ≤ n → NamesOf v b m → NamesOf v n m
names_more v b n None l h = (tt, tt)
names_more v b n (Some m) l h = (h.0, all_below_more b n m l h.1)

-- what the merge is of two maps of v variables to names below b, where k is the next new name
pub record Merges (v b k : ℕ) (r : Merge) : Type 0 where
  pub from : k ≤ r.next
  pub to : r.next ≤ k + v
  pub left_fresh : Fresh b k r.next r.left
  pub right_fresh : Fresh b k r.next r.right
  pub both : NamesOf v r.next r.names

abbrev present : Merged → Merge
present r = record { names = Some r.names; left = r.left; right = r.right; next = r.next }

by_names : (P : Merged → Type 0) (x y : Name) (xs ys : List Name) (k : ℕ) → (x.0 ≡ y.0 → P (agreeing x (merge_names xs ys k)))
    → P (differing (name k) x y (merge_names xs ys (k + 1))) → P (merge_names (x ∷ xs) (y ∷ ys) k)
by_names P x y xs ys k f g = go (eqb x.0 y.0) refl
  where
    go : (b : Bool) → eqb x.0 y.0 ≡ b
        → P (elim b [ true ↦ agreeing x (merge_names xs ys k) | false ↦ differing (name k) x y (merge_names xs ys (k + 1)) ])
    go true e = f (eqb-true x.0 y.0 e)
    go false e = g

merges_names : (v b k : ℕ) (xs ys : List Name) → b ≤ k → length xs ≡ v → length ys ≡ v → AllBelow b xs → AllBelow b ys
    → Merges v b k (present (merge_names xs ys k))
merges_names v b k [] ys l zx zy p q =
    record { from = omega arith; to = omega arith; left_fresh = refl; right_fresh = refl; both = (zx, tt) }
merges_names v b k (x ∷ xs) [] l zx zy p q = absurd (omega arith)
merges_names v b k (x ∷ xs) (y ∷ ys) l zx zy p q = by_names (λ r. Merges v b k (present r)) x y xs ys k
    (λ e. let h = merges_names (length xs) b k xs ys l refl (omega arith) p.1 q.1 in record {
      from = h.from;
      to = omega (arith, h.to);
      left_fresh = h.left_fresh;
      right_fresh = h.right_fresh;
      both = (ap suc h.both.0 ∙ zx, (omega (arith, h.from), h.both.1));
    })
    (let h = merges_names (length xs) b (k + 1) xs ys (omega arith) refl (omega arith) p.1 q.1 in record {
      from = omega (arith, h.from);
      to = omega (arith, h.to);
      left_fresh = (refl, p.0, h.left_fresh);
      right_fresh = (refl, q.0, h.right_fresh);
      both = (ap suc h.both.0 ∙ zx, (omega (arith, h.from), h.both.1));
    })

pub merges : (v k : ℕ) (m n : Names) → NamesOf v k m → NamesOf v k n → Merges v k k (merge m n k)
merges v k None n p q = record { from = omega arith; to = omega arith; left_fresh = refl; right_fresh = refl; both = q }
merges v k (Some xs) None p q = record { from = omega arith; to = omega arith; left_fresh = refl; right_fresh = refl; both = p }
merges v k (Some xs) (Some ys) p q = merges_names v k k xs ys (omega arith) p.0 q.0 p.1 q.1

module _ {V : Type 0} (K : KindOf V) (a : Assignment V) where
  record Same (xs ys : List Name) (r : Merged) : Type 0 where
    left_same : agreed K a r.left ≡ true → map (named K a) xs ≡ map (named K a) r.names
    right_same : agreed K a r.right ≡ true → map (named K a) ys ≡ map (named K a) r.names

  -- one more name with the same value before the same values
  one_more : (x y : V) (xs ys : List V) → x ≡ y → xs ≡ ys → (x ∷ xs) ≡ (y ∷ ys)
  one_more x y xs ys p q = ap₂ {C = List V} (λ (z : V) (zs : List V). z ∷ zs) p q

  same_names : (k : ℕ) (xs ys : List Name) → length xs ≡ length ys → Same xs ys (merge_names xs ys k)
  same_names k [] [] l = record { left_same = λ h. refl; right_same = λ h. refl }
  same_names k [] (y ∷ ys) l = absurd (omega arith)
  same_names k (x ∷ xs) [] l = absurd (omega arith)
  same_names k (x ∷ xs) (y ∷ ys) l = by_names (Same (x ∷ xs) (y ∷ ys)) x y xs ys k
      (λ e. let t = same_names k xs ys (omega arith) in record {
        left_same = λ h. one_more _ _ _ _ refl (t.left_same h);
        right_same = λ h. one_more _ _ _ _ (ap (λ (i : ℕ). named K a (name i)) (sym e)) (t.right_same h);
      })
      (let t = same_names (k + 1) xs ys (omega arith) in record {
        left_same = λ h. let p = and_parts _ _ h in one_more _ _ _ _ (sym (K.same_equal _ _ p.0)) (t.left_same p.1);
        right_same = λ h. let p = and_parts _ _ h in one_more _ _ _ _ (sym (K.same_equal _ _ p.0)) (t.right_same p.1);
      })

  -- where a side's new names have its old ones' values, what its map reads the map of both reads
  pub reads_left : (v k : ℕ) (m n : Names) (s : State V) → Sized v m → Sized v n → agreed K a (merge m n k).left ≡ true
      → Reads K a m s → Reads K a (merge m n k).names s
  reads_left v k None n s p q h f = absurd f
  reads_left v k (Some xs) None s p q h f = f
  reads_left v k (Some xs) (Some ys) s p q h f = f ∙ (same_names k xs ys (omega arith)).left_same h

  pub reads_right : (v k : ℕ) (m n : Names) (s : State V) → Sized v m → Sized v n → agreed K a (merge m n k).right ≡ true
      → Reads K a n s → Reads K a (merge m n k).names s
  reads_right v k None n s p q h f = f
  reads_right v k (Some xs) None s p q h f = absurd f
  reads_right v k (Some xs) (Some ys) s p q h f = f ∙ (same_names k xs ys (omega arith)).right_same h
