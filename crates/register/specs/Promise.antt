-- The promise: whatever was asked of a register, each entry says what the runs of its routines do.
use Rattle.std.specs.Prelude.{◌≡◌, ℕ, ◌+◌, ◌*◌, ◌<◌, ◌≤◌, Bool, true, false, ◌⊎◌, ◌↔◌, List, [], ◌∷◌, ◌++◌, length, take, None}
use Rattle.kinds.specs.Kind.{KindOf}
use Rattle.kinds.specs.declared.numbered.Node.{Node}
use Rattle.routine.specs.Commands.{Command, size, places}
use Rattle.routine.specs.Runs.{State, wrong, Run}
use Rattle.passive.specs.Outcomes.{Assignment}
use Rattle.passive.specs.Agreement.{Begins}
use Rattle.passive.specs.declared.rows.PassiveTermRow.{PassiveTermRow}
use Rattle.passive.specs.declared.rows.PassiveRow.{PassiveRow}
use Rattle.formula.specs.declared.stores.Making.{Making}
use Rattle.formula.specs.Store.{Meaning}
use Rattle.register.specs.declared.entries.Entry.{Entry}
use Rattle.register.specs.Held.{Held, entry_at, join_tests, join_refusal}
use Rattle.register.specs.Histories.{Exchange, new_held, History, Origin, filed_for, joined_of, nowhere, routines, origin_at, origins}

abbrev pub Every : (Command → Type 0) → List Command → Type 0
Every P [] = Unit {0}
Every P (c ∷ cs) = P c × Every P cs

abbrev pub SomeOf : (Command → Type 0) → List Command → Type 0
SomeOf P [] = ⊥
SomeOf P (c ∷ cs) = P c ⊎ SomeOf P cs

-- the entry was filed for this routine: its rise is bounded
abbrev pub RiseBounded : ℕ → Entry → Origin → Type 0
RiseBounded v e (filed_for c) = e.rise ≤ places c + size c * (32 * v + 15) + 1
RiseBounded v e (joined_of a b) = Unit {0}
RiseBounded v e nowhere = ⊥

module _ {V : Type 0} {S : Type 0} (K : KindOf V) (M : Meaning V S) where
  -- the store covers every assignment of its width
  abbrev pub CoversAll : S → Type 0
  CoversAll s = (a : Assignment V) → length a ≡ M.width s → M.covers s a

  -- whether the entry's condition, the node it was made with, is true under an assignment
  abbrev pub holds : S → Entry → Assignment V → Bool
  holds s e a = K.truth (M.value s e.node a)

  -- what an entry with this origin says, struck or not
  pub record Faithful (v : ℕ) (s : S) (e : Entry) (o : Origin) : Type 0 where
    -- in a store that covers all assignments: it is true under every assignment that begins with a start exactly when no run of its
    -- routines from there ends wrong
    pub exact :
        CoversAll s → (start : State V) → length start ≡ v
        → ((a : Assignment V) → Begins K (M.width s) v start a → holds s e a ≡ true) ↔ Every (λ c. Run K c start wrong → ⊥) (routines o)
    -- in any store: where it is false under a covered assignment, some run of its routines from that assignment's start ends wrong
    pub witnessed : (a : Assignment V) → M.covers s a → holds s e a ≡ false → SomeOf (λ c. Run K c (take v a) wrong) (routines o)
    -- if it was filed, its rise is bounded
    pub rise_bounded : RiseBounded v e o

  pub record Promise (v : ℕ) (h : Held S) (os : List Origin) : Type 0 where
    pub same_v : h.v ≡ v
    pub as_many : length h.entries ≡ length os
    -- no join is refused but by the register's own tests: the node of an entry is always in use
    pub joins_tested : (j k : ℕ) → join_refusal K M h j k ≡ join_tests M h.store h.entries j k None
    pub each : (i : ℕ) → i < length h.entries → Faithful v h.store (entry_at h.entries i) (origin_at os i)

  -- whatever calls on a new register led to `before`: these go on from there as one history, and each entry of `after` is faithful
  abbrev pub GoesOn : (S → Making → Node → S → Type 0) → Held S → List Exchange → Held S → Type 0
  GoesOn steps before xs after =
      (v : ℕ) (s : S) (E : List PassiveRow) (T : List PassiveTermRow) (past : List Exchange) → History K M steps (new_held v s E T) past before
      → History K M steps (new_held v s E T) (past ++ xs) after × Promise v after (origins v K.ops (past ++ xs))

  -- after any list of calls on a new register over any store
  abbrev pub PromiseKept : (S → Making → Node → S → Type 0) → Type 0
  PromiseKept steps =
      (v : ℕ) (s : S) (E : List PassiveRow) (T : List PassiveTermRow) (xs : List Exchange) (h : Held S)
      → History K M steps (new_held v s E T) xs h → Promise v h (origins v K.ops xs)
