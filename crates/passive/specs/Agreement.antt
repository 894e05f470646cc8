-- The passive form of a routine and its runs say the same.
use Rattle.std.specs.Prelude.{◌≡◌, ℕ, ◌+◌, ◌*◌, ◌≤◌, true, false, ◌↔◌, map, length, take, Some, None}
use Rattle.kinds.specs.Kind.{KindOf}
use Rattle.routine.specs.Commands.{Command, size, places}
use Rattle.routine.specs.Runs.{State, normal, raised, wrong, Run}
use Rattle.routine.specs.Standing.{Proper}
use Rattle.passive.specs.Passive.{Names, passive_form}
use Rattle.passive.specs.Outcomes.{Assignment, named, outcomes, condition_nodes}

module _ {V : Type 0} (K : KindOf V) where
  -- the map reads the state off the assignment: each variable has the value of its name; an absent map reads none
  abbrev pub Reads : Assignment V → Names → State V → Type 0
  Reads a None s = ⊥
  Reads a (Some m) s = s ≡ map (named K a) m

  -- what the assignment makes true is so in some run from the state that it begins with
  pub record SeenInRuns (v : ℕ) (c : Command) (a : Assignment V) : Type 0 where
    pub normal_runs :
        (outcomes K a (passive_form v c).code).N ≡ true → (s : State V) × Run K c (take v a) (normal s) × Reads a (passive_form v c).normal s
    pub raised_runs :
        (outcomes K a (passive_form v c).code).X ≡ true → (s : State V) × Run K c (take v a) (raised s) × Reads a (passive_form v c).raised s
    pub wrong_runs : (outcomes K a (passive_form v c).code).W ≡ true → Run K c (take v a) wrong

  -- an assignment of w values that begins with the start
  pub record Begins (w v : ℕ) (start : State V) (a : Assignment V) : Type 0 where
    pub wide : length a ≡ w
    pub start_first : take v a ≡ start

  -- what is so in some run, some assignment of w values that begins with its start makes true
  pub record RunsSeen (w v : ℕ) (c : Command) (start : State V) : Type 0 where
    pub normal_seen :
        (s : State V) → Run K c start (normal s)
        → (a : Assignment V) × Begins w v start a × ((outcomes K a (passive_form v c).code).N ≡ true) × Reads a (passive_form v c).normal s
    pub raised_seen :
        (s : State V) → Run K c start (raised s)
        → (a : Assignment V) × Begins w v start a × ((outcomes K a (passive_form v c).code).X ≡ true) × Reads a (passive_form v c).raised s
    pub wrong_seen :
        Run K c start wrong → (a : Assignment V) × Begins w v start a × ((outcomes K a (passive_form v c).code).W ≡ true)

  -- W is false under every assignment of w values that begins with the start exactly when no run from there ends wrong
  abbrev pub NeverWrong : ℕ → ℕ → Command → State V → Type 0
  NeverWrong w v c start =
      ((a : Assignment V) → Begins w v start a → (outcomes K a (passive_form v c).code).W ≡ false) ↔ (Run K c start wrong → ⊥)

  -- all of it, for every proper command and every width that has its names
  pub record Agreement (v ops : ℕ) (c : Command) : Type 0 where
    pub seen_in_runs : (a : Assignment V) → (passive_form v c).next ≤ length a → SeenInRuns v c a
    pub runs_seen : (w : ℕ) (start : State V) → (passive_form v c).next ≤ w → length start ≡ v → RunsSeen w v c start
    pub never_wrong : (w : ℕ) (start : State V) → (passive_form v c).next ≤ w → length start ≡ v → NeverWrong w v c start

-- a contract takes no statement about every type, so the values are a parameter
abbrev pub Agrees : Type 0 → Type 0
Agrees V = (K : KindOf V) (v ops : ℕ) (c : Command) → Proper v ops c → Agreement K v ops c

-- how large a condition becomes, and how many names it takes
pub record Bounded (v : ℕ) (c : Command) : Type 0 where
  pub few_nodes : condition_nodes (passive_form v c).code ≤ places c + size c * (32 * v + 15) + 1
  pub few_names : (passive_form v c).next ≤ v + 2 * v * size c
