-- Which names a map and a passive form use, and that its terms can be worked out.
use Rattle.std.specs.Prelude.{◌≡◌, ℕ, ◌<◌, List, [], ◌∷◌, length, Some, None}
use Rattle.kinds.specs.declared.numbered.Name.{Name}
use Rattle.routine.specs.Commands.{Term}
use Rattle.routine.specs.Standing.{Workable}
use Rattle.passive.specs.Passive.{PassiveSingle, p_assert, p_assume, p_let, p_skip, p_raise, p_stop, Passive, p_single, p_join, Names}

-- a map names v variables, where it is not absent
abbrev pub Sized : ℕ → Names → Type 0
Sized v None = Unit {0}
Sized v (Some m) = length m ≡ v

abbrev pub AllBelow : ℕ → List Name → Type 0
AllBelow n [] = Unit {0}
AllBelow n (x ∷ xs) = (x.0 < n) × AllBelow n xs

-- each name of a map is below n, where it is not absent
abbrev pub Below : ℕ → Names → Type 0
Below n None = Unit {0}
Below n (Some m) = AllBelow n m

module _ (ops n : ℕ) where
  -- the term reads no name but those below n
  abbrev pub WorkableUnder : Term Name → Type 0
  WorkableUnder t = Workable (λ f. f.0 < n) ops 0 t

  abbrev pub WorkableSingle : PassiveSingle → Type 0
  WorkableSingle (p_assert t) = WorkableUnder t
  WorkableSingle (p_assume t) = WorkableUnder t
  WorkableSingle (p_let f t) = (f.0 < n) × WorkableUnder t
  WorkableSingle p_skip = Unit {0}
  WorkableSingle p_raise = Unit {0}
  WorkableSingle p_stop = Unit {0}

  -- each name in a passive form is below n, and each term can be worked out over ops operations
  abbrev pub WorkableForm : Passive → Type 0
  WorkableForm (p_single p) = WorkableSingle p
  WorkableForm (p_join j p q) = WorkableForm p × WorkableForm q
