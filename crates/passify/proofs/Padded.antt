-- An array that holds a list, after an item is pushed or changed.
use Rattle.std.proofs.Common.{◌≡◌, ℕ, zero, suc, ◌+◌, ◌<◌, ◌≤◌, List, [], ◌∷◌, ◌++◌, length, take, set, sym, refl, ap, ◌∙◌, add-zero, zero-add, add-one, arith}
use Rattle.std.proofs.lemmas.List.{length-take-le, take_more_set}
use Rattle.std.proofs.Math.Seq.{take-set-lt}
use Rattle.passive.specs.Passive.{name, names_from}
use Rattle.passify.specs.Padding.{padded, Fills}
use Rattle.passify.specs.PaddingLaws.{padded_length}

module _ {A : Type 0} (blank : A) where
  padded_push : (n : ℕ) (xs : List A) (x : A) → length xs < n → padded blank n (xs ++ x ∷ []) ≡ set (padded blank n xs) (length xs) x
  padded_push zero xs x h = absurd (omega arith)
  padded_push (suc n) [] x h = refl
  padded_push (suc n) (y ∷ xs) x h = ap (λ l. y ∷ l) (padded_push n xs x (omega arith))

  padded_set : (n : ℕ) (xs : List A) (i : ℕ) (x : A) → length xs ≤ n → i < length xs → padded blank n (set xs i x) ≡ set (padded blank n xs) i x
  padded_set zero xs i x g h = absurd (omega arith)
  padded_set (suc n) [] i x g h = absurd (omega arith)
  padded_set (suc n) (y ∷ xs) zero x g h = refl
  padded_set (suc n) (y ∷ xs) (suc i) x g h = ap (λ l. y ∷ l) (padded_set n xs i x (omega arith) (omega arith))

  module _ (most : ℕ) (items : List A) (len : ℕ) (h : Fills blank most items len) where
    long : length items ≡ most
    long = ap length h.rest ∙ padded_length blank most (take len items)

    taken : length (take len items) ≡ len
    taken = length-take-le len items (omega (arith, h.few, long))

    pub fills_push : (x : A) → len < most → Fills blank most (set items len x) (len + 1)
    fills_push x room = record {
      few = omega arith;
      rest =
          ap (λ l. set l len x) h.rest
          ∙ (ap (λ n. set (padded blank most (take len items)) n x) (sym taken)
          ∙ (sym (padded_push most (take len items) x (omega (arith, taken)))
          ∙ ap (padded blank most) (sym (take_more_set items len x (omega (arith, long))))));
    }

    module _ (i : ℕ) (x : A) (below : i < len) where
      pub items_set : take len (set items i x) ≡ set (take len items) i x
      items_set = take-set-lt len items i x below

      pub fills_set : Fills blank most (set items i x) len
      fills_set = record {
        few = h.few;
        rest =
            ap (λ l. set l i x) h.rest
            ∙ (sym (padded_set most (take len items) i x (omega (arith, taken, h.few)) (omega (arith, taken))) ∙ ap (padded blank most) (sym items_set));
      }

    module _ (list : List A) (is : take len items ≡ list) where
      -- a place in the list is one in use
      pub within : (i : ℕ) → i < length list → i < len
      within i h = omega (arith, taken, ap length is)

      pub room_left : length list < most → len < most
      room_left h = omega (arith, taken, ap length is)

-- the names from k on, one more

pub length_names_from : (k n : ℕ) → length (names_from k n) ≡ n
length_names_from k zero = refl
length_names_from k (suc n) = ap suc (length_names_from (k + 1) n)

names_from_more : (k n : ℕ) → names_from k n ++ name (k + n) ∷ [] ≡ names_from k (suc n)
names_from_more k zero = ap (λ i. name i ∷ []) (add-zero k)
names_from_more k (suc n) =
    let e : k + suc n ≡ k + 1 + n = omega arith in
    ap (λ l. name k ∷ l) (ap (λ i. names_from (k + 1) n ++ name i ∷ []) e ∙ names_from_more (k + 1) n)

pub one_more : (n : ℕ) → names_from 0 n ++ name n ∷ [] ≡ names_from 0 (n + 1)
one_more n =
    ap (λ i. names_from 0 n ++ name i ∷ []) (sym (zero-add n)) ∙ (names_from_more 0 n ∙ ap (names_from 0) (sym (add-one n)))
