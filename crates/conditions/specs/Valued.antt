-- What the nodes of a passive form and its condition say under an assignment that the store covers.
use Rattle.std.specs.Prelude.{◌≡◌, true, not, List, [], ◌∷◌, ◌++◌}
use Rattle.kinds.specs.Kind.{KindOf}
use Rattle.kinds.specs.declared.numbered.Node.{Node}
use Rattle.passive.specs.Passive.{Passive, p_single, p_join}
use Rattle.passive.specs.Outcomes.{Assignment, Outcomes, outcomes, condition_nodes}
use Rattle.passive.specs.declared.rows.PassiveRow.{PassiveRow}
use Rattle.formula.specs.Store.{Meaning, Grown}
use Rattle.conditions.specs.Made.{Ends, row_ends}

-- the outcomes of each sub-form, in the order of the rows
abbrev pub all_outcomes : {V : Type 0} → KindOf V → Assignment V → Passive → List Outcomes
all_outcomes K a (p_single p) = outcomes K a (p_single p) ∷ []
all_outcomes K a (p_join j p q) = all_outcomes K a p ++ (all_outcomes K a q ++ (outcomes K a (p_join j p q) ∷ []))

module _ {V : Type 0} {S : Type 0} (K : KindOf V) (M : Meaning V S) where
  -- the nodes have the truth of these outcomes
  pub record Says (s : S) (a : Assignment V) (e : Ends) (o : Outcomes) : Type 0 where
    pub N : K.truth (M.value s e.N a) ≡ o.N
    pub X : K.truth (M.value s e.X a) ≡ o.X
    pub W : K.truth (M.value s e.W a) ≡ o.W

  -- the nodes in each row have the truth of the outcomes that stand at its place
  abbrev pub RowsSay : S → Assignment V → List PassiveRow → List Outcomes → Type 0
  RowsSay s a [] [] = Unit {0}
  RowsSay s a [] (o ∷ os) = ⊥
  RowsSay s a (r ∷ rs) [] = ⊥
  RowsSay s a (r ∷ rs) (o ∷ os) = Says s a (row_ends r) o × RowsSay s a rs os

module _ {V : Type 0} {S : Type 0} (M : Meaning V S) where
  -- three nodes in use
  pub record EndsUsed (s : S) (e : Ends) : Type 0 where
    pub N : M.in_use s e.N ≡ true
    pub X : M.in_use s e.X ≡ true
    pub W : M.in_use s e.W ≡ true

  -- the nodes in each row are in use
  abbrev pub RowsUsed : S → List PassiveRow → Type 0
  RowsUsed s [] = Unit {0}
  RowsUsed s (r ∷ rs) = EndsUsed s (row_ends r) × RowsUsed s rs

-- of a passive form and its condition, made from the store s on: all its nodes are in use and say what they should under each assignment
-- that s covers, and the store has grown by no more than the nodes measured
pub record ConditionValued {V : Type 0} {S : Type 0} (K : KindOf V) (M : Meaning V S) (p : Passive) (s : S) (rows : List PassiveRow) (n : Node) (t : S) : Type 0 where
  pub grown : Grown M s (condition_nodes p) t
  pub rows_used : RowsUsed M t rows
  pub used : M.in_use t n ≡ true
  pub rows_say : (a : Assignment V) → M.covers s a → RowsSay K M t a rows (all_outcomes K a p)
  pub says : (a : Assignment V) → M.covers s a → K.truth (M.value t n a) ≡ not (outcomes K a p).W
