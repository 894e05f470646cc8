-- What a routine does: its runs.
use Rattle.std.specs.Prelude.{◌≡◌, ℕ, Bool, true, false, List, [], ◌∷◌, slice_index_or, slice_set}
use Rattle.kinds.specs.Kind.{KindOf}
use Rattle.kinds.specs.declared.numbered.Variable.{Variable}
use Rattle.routine.specs.declared.rows.Item.TheVariants.{Literal, Reference, Operation}
use Rattle.routine.specs.declared.rows.Joint.TheVariants.{Sequence, Choice, Catch}
use Rattle.routine.specs.Commands.{Term, assert, assume, assign, skip, raise, Command, single, join}

module _ {V : Type 0} (K : KindOf V) where
  -- an operation takes the last two waiting values, the earlier as first operand; the last stands first in the list
  abbrev pub operate_on : ℕ → List V → List V
  operate_on k [] = []
  operate_on k (q ∷ []) = []
  operate_on k (q ∷ (p ∷ waiting)) = K.operate k p q ∷ waiting

  abbrev pub last_waiting : List V → V
  last_waiting [] = K.no
  last_waiting (x ∷ xs) = x

  module _ {R : Type 0} (look : R → V) where
    abbrev pub waiting_after : Term R → List V → List V
    waiting_after [] waiting = waiting
    waiting_after (Literal n ∷ t) waiting = waiting_after t (K.literal n ∷ waiting)
    waiting_after (Reference r ∷ t) waiting = waiting_after t (look r ∷ waiting)
    waiting_after (Operation k ∷ t) waiting = waiting_after t (operate_on k waiting)

    -- the value of a term, where each reference has the value that look gives it
    abbrev pub value : Term R → V
    value t = last_waiting (waiting_after t [])

-- a state holds a value for each variable
abbrev pub State : Type 0 → Type 0
State V = List V

-- a run ends normally or raised in a state, or wrong, or blocked
pub data Outcome (V : Type 0) : Type 0 where
  normal raised : State V → Outcome V
  wrong blocked : Outcome V

module _ {V : Type 0} (K : KindOf V) where
  abbrev pub value_in : State V → Term Variable → V
  value_in s = value K (λ x. slice_index_or s x.0 K.no)

  abbrev pub true_in : State V → Term Variable → Bool
  true_in s t = K.truth (value_in s t)

  -- the runs of a command from a state: one constructor for each way that it can go
  pub data Run : Command → State V → Outcome V → Type 0 where
    assert_holds : {t : Term Variable} {s : State V} → true_in s t ≡ true → Run (single (assert t)) s (normal s)
    assert_fails : {t : Term Variable} {s : State V} → true_in s t ≡ false → Run (single (assert t)) s wrong
    assume_holds : {t : Term Variable} {s : State V} → true_in s t ≡ true → Run (single (assume t)) s (normal s)
    assume_blocks : {t : Term Variable} {s : State V} → true_in s t ≡ false → Run (single (assume t)) s blocked
    assigns : {x : Variable} {t : Term Variable} {s : State V} → Run (single (assign x t)) s (normal (slice_set s x.0 (value_in s t)))
    skips : {s : State V} → Run (single skip) s (normal s)
    raises : {s : State V} → Run (single raise) s (raised s)
    sequence_on : {a b : Command} {s m : State V} {o : Outcome V} → Run a s (normal m) → Run b m o → Run (join Sequence a b) s o
    sequence_raised : {a b : Command} {s m : State V} → Run a s (raised m) → Run (join Sequence a b) s (raised m)
    sequence_wrong : {a b : Command} {s : State V} → Run a s wrong → Run (join Sequence a b) s wrong
    sequence_blocked : {a b : Command} {s : State V} → Run a s blocked → Run (join Sequence a b) s blocked
    catch_on : {a b : Command} {s m : State V} {o : Outcome V} → Run a s (raised m) → Run b m o → Run (join Catch a b) s o
    catch_normal : {a b : Command} {s m : State V} → Run a s (normal m) → Run (join Catch a b) s (normal m)
    catch_wrong : {a b : Command} {s : State V} → Run a s wrong → Run (join Catch a b) s wrong
    catch_blocked : {a b : Command} {s : State V} → Run a s blocked → Run (join Catch a b) s blocked
    choice_left : {a b : Command} {s : State V} {o : Outcome V} → Run a s o → Run (join Choice a b) s o
    choice_right : {a b : Command} {s : State V} {o : Outcome V} → Run b s o → Run (join Choice a b) s o
