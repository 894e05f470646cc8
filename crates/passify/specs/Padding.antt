-- How an array holds a list that is no longer than it.
use Rattle.std.specs.Prelude.{◌≡◌, ℕ, zero, suc, ◌≤◌, List, [], ◌∷◌, take}

module _ {A : Type 0} (blank : A) where
  -- n items: those of the list, and blanks behind them
  abbrev pub padded : ℕ → List A → List A
  padded zero xs = []
  padded (suc n) [] = blank ∷ padded n []
  padded (suc n) (x ∷ xs) = x ∷ padded n xs

  -- the first `len` of at most `most` items, and blanks behind them
  pub record Fills (most : ℕ) (items : List A) (len : ℕ) : Type 0 where
    pub few : len ≤ most
    pub rest : items ≡ padded most (take len items)
