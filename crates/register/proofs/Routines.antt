-- What an assignment says of several routines at once, and that it agrees with their runs.
use Rattle.std.proofs.Common.{◌≡◌, ℕ, ◌≤◌, Bool, true, false, not, ◌&&◌, List, [], ◌∷◌, ◌++◌, length, take, sym, refl, ap, ◌∙◌, subst, inl, inr, ⊎_elim}
use mathlib.Core.Bool.{and_assoc}
use Rattle.std.proofs.lemmas.Bool.{not-true, not-false, not_from_false, and_parts, and_from, and_cases, true≢false}
use Rattle.kinds.specs.Kind.{KindOf}
use Rattle.routine.specs.Commands.{Command}
use Rattle.routine.specs.Runs.{State, wrong, Run}
use Rattle.routine.specs.Standing.{Proper}
use Rattle.passive.specs.Passive.{passive_form}
use Rattle.passive.specs.Outcomes.{Assignment, outcomes}
use Rattle.passive.specs.Agreement.{Begins, Agreement}
use Rattle.passive.proofs.Agreeing.{agreement}
use Rattle.register.specs.Promise.{Every, SomeOf}

pub every_append : (P : Command → Type 0) (cs ds : List Command) → Every P cs → Every P ds → Every P (cs ++ ds)
every_append P [] ds x y = y
every_append P (c ∷ cs) ds x y = (x.0, every_append P cs ds x.1 y)

module _ {V : Type 0} (K : KindOf V) (v : ℕ) where
  -- none of the routines is wrong under the assignment
  abbrev pub all_fine : List Command → Assignment V → Bool
  all_fine [] a = true
  all_fine (c ∷ cs) a = not (outcomes K a (passive_form v c).code).W && all_fine cs a

  pub fine_append : (cs ds : List Command) (a : Assignment V) → all_fine (cs ++ ds) a ≡ (all_fine cs a && all_fine ds a)
  fine_append [] ds a = refl
  fine_append (c ∷ cs) ds a =
      ap (λ b. not (outcomes K a (passive_form v c).code).W && b) (fine_append cs ds a)
      ∙ sym (and_assoc (not (outcomes K a (passive_form v c).code).W) (all_fine cs a) (all_fine ds a))

  -- a proper routine, with no more than w names
  abbrev pub Told : ℕ → Command → Type 0
  Told w c = Proper v K.ops c × ((passive_form v c).next ≤ w)

  agreed : (w : ℕ) (c : Command) → Told w c → Agreement K v K.ops c
  agreed w c t = agreement K v K.ops c t.0

  module _ (w : ℕ) where
    -- where none is wrong under any assignment that begins with a start, none has a run from there that ends wrong
    pub fine_safe : (cs : List Command) (start : State V) → Every (Told w) cs → length start ≡ v
        → ((a : Assignment V) → Begins K w v start a → all_fine cs a ≡ true) → Every (λ c. Run K c start wrong → ⊥) cs
    fine_safe [] start t l h = tt
    fine_safe (c ∷ cs) start t l h = (
      ((agreed w c t.0).never_wrong w start t.0.1 l).0 (λ a b. not-true _ (and_parts _ _ (h a b)).0),
      fine_safe cs start t.1 l (λ a b. (and_parts _ _ (h a b)).1),
    )

    -- and the other way round
    pub safe_fine : (cs : List Command) (start : State V) → Every (Told w) cs → length start ≡ v → Every (λ c. Run K c start wrong → ⊥) cs
        → (a : Assignment V) → Begins K w v start a → all_fine cs a ≡ true
    safe_fine [] start t l h a b = refl
    safe_fine (c ∷ cs) start t l h a b =
        and_from _ _ (not_from_false _ (((agreed w c t.0).never_wrong w start t.0.1 l).1 h.0 a b)) (safe_fine cs start t.1 l h.1 a b)

    -- where one is wrong under an assignment, it has a run from the assignment's start that ends wrong
    pub not_fine_wrong : (cs : List Command) (a : Assignment V) → Every (Told w) cs → length a ≡ w → all_fine cs a ≡ false
        → SomeOf (λ c. Run K c (take v a) wrong) cs
    not_fine_wrong [] a t l h = absurd (true≢false h)
    not_fine_wrong (c ∷ cs) a t l h =
        let enough = subst (λ (n : ℕ). (passive_form v c).next ≤ n) (sym l) t.0.1 in
        ⊎_elim (λ x. inl (((agreed w c t.0).seen_in_runs a enough).wrong_runs (not-false _ x))) (λ x. inr (not_fine_wrong cs a t.1 l x))
        (and_cases _ _ h)
