-- Two lists side by side, of which a fact holds at each place.
use Rattle.std.proofs.Common.{ℕ, zero, suc, ◌<◌, List, [], ◌∷◌, length, get_or, set, arith}
use Rattle.std.specs.List.{AllZip}

module _ {A B : Type 0} where
  pub zip_weaker : (P Q : A → B → Type 0) → ((x : A) (y : B) → P x y → Q x y) → (xs : List A) (ys : List B) → AllZip P xs ys → AllZip Q xs ys
  zip_weaker P Q f [] [] h = tt
  zip_weaker P Q f [] (y ∷ ys) h = absurd h
  zip_weaker P Q f (x ∷ xs) [] h = absurd h
  zip_weaker P Q f (x ∷ xs) (y ∷ ys) h = (f x y h.0, zip_weaker P Q f xs ys h.1)

  module _ (P : A → B → Type 0) where
    -- the pair at an index
    pub zip_at : (xs : List A) (ys : List B) (i : ℕ) (a : A) (b : B) → AllZip P xs ys → i < length xs → P (get_or xs i a) (get_or ys i b)
    zip_at [] [] i a b h l = absurd (omega arith)
    zip_at [] (y ∷ ys) i a b h l = absurd h
    zip_at (x ∷ xs) [] i a b h l = absurd h
    zip_at (x ∷ xs) (y ∷ ys) zero a b h l = h.0
    zip_at (x ∷ xs) (y ∷ ys) (suc i) a b h l = zip_at xs ys i a b h.1 (omega arith)

    -- one element is replaced by another of which the same holds
    pub zip_set : (xs : List A) (ys : List B) (i : ℕ) (d a : A) → ((y : B) → P (get_or xs i d) y → P a y) → AllZip P xs ys → AllZip P (set xs i a) ys
    zip_set [] [] i d a f h = tt
    zip_set [] (y ∷ ys) i d a f h = absurd h
    zip_set (x ∷ xs) [] i d a f h = absurd h
    zip_set (x ∷ xs) (y ∷ ys) zero d a f h = (f y h.0, h.1)
    zip_set (x ∷ xs) (y ∷ ys) (suc i) d a f h = (h.0, zip_set xs ys i d a f h.1)
