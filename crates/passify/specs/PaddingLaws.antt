-- The list that an array holds gives the array back.
use Rattle.std.specs.Prelude.{◌≡◌, ℕ, zero, suc, List, [], ◌∷◌, length, take, refl}
use Rattle.std.proofs.Common.{ap, sym, arith}
use Rattle.std.proofs.lemmas.List.{length-take-le}
use Rattle.passify.specs.Padding.{padded, Fills}

module _ {A : Type 0} (blank : A) where
  pub padded_length : (n : ℕ) (xs : List A) → length (padded blank n xs) ≡ n
  padded_length zero xs = refl
  padded_length (suc n) [] = ap suc (padded_length n [])
  padded_length (suc n) (x ∷ xs) = ap suc (padded_length n xs)

  module _ (most : ℕ) (items : List A) (len : ℕ) where
    pub record Unpadded : Type 0 where
      pub same_items : padded blank most (take len items) ≡ items
      pub same_len : length (take len items) ≡ len

    pub unpadded : Fills blank most items len → Unpadded
    unpadded h = record {
      same_items = sym h.rest;
      same_len = length-take-le len items (omega (arith, h.few, ap length h.rest, padded_length most (take len items)));
    }
