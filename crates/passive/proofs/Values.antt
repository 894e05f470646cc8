-- The value of a term goes by the values of what it refers to; renaming keeps it, and keeps that the term can be worked out.
use Rattle.std.proofs.Common.{◌≡◌, ℕ, zero, suc, ◌+◌, ◌-◌, ◌<◌, ◌≤◌, List, [], ◌∷◌, map, length, get_or, Some, sym, refl, ap, ◌∙◌, arith}
use Rattle.std.proofs.lemmas.List.{get_or-map}
use Rattle.kinds.specs.Kind.{KindOf}
use Rattle.kinds.specs.declared.numbered.Variable.{Variable}
use Rattle.kinds.specs.declared.numbered.Name.{Name}
use Rattle.routine.specs.declared.rows.Item.TheVariants.{Literal, Reference, Operation}
use Rattle.routine.specs.Commands.{Term}
use Rattle.routine.specs.Runs.{operate_on, waiting_after, last_waiting, value, State, value_in}
use Rattle.routine.specs.Standing.{Workable, ProperTerm}
use Rattle.passive.specs.Passive.{name, rename}
use Rattle.passive.specs.Outcomes.{Assignment, named, value_under}
use Rattle.passive.specs.Uses.{AllBelow}
use Rattle.passive.specs.Agreement.{Reads}

pub workable_more : (b n ops w : ℕ) (t : Term Name) → b ≤ n → Workable (λ f. f.0 < b) ops w t → Workable (λ f. f.0 < n) ops w t
workable_more b n ops w [] l h = h
workable_more b n ops w (Literal i ∷ t) l h = (h.0, workable_more b n ops (w + 1) t l h.1)
workable_more b n ops w (Reference f ∷ t) l h = (h.0, omega arith, workable_more b n ops (w + 1) t l h.2)
workable_more b n ops w (Operation k ∷ t) l h = (h.0, h.1, workable_more b n ops (w - 1) t l h.2)

below_at : (n : ℕ) (m : List Name) (i : ℕ) → AllBelow n m → i < length m → (get_or m i (name 0)).0 < n
below_at n [] i h l = absurd (omega arith)
below_at n (x ∷ m) zero h l = h.0
below_at n (x ∷ m) (suc i) h l = below_at n m i h.1 (omega arith)

pub workable_renamed : (v n ops w : ℕ) (m : List Name) (t : Term Variable) → length m ≡ v → AllBelow n m
    → Workable (λ x. x.0 < v) ops w t → Workable (λ f. f.0 < n) ops w (rename m t)
workable_renamed v n ops w m [] z b h = h
workable_renamed v n ops w m (Literal i ∷ t) z b h = (h.0, workable_renamed v n ops (w + 1) m t z b h.1)
workable_renamed v n ops w m (Reference x ∷ t) z b h =
    (h.0, below_at n m x.0 b (omega (arith, h.1)), workable_renamed v n ops (w + 1) m t z b h.2)
workable_renamed v n ops w m (Operation k ∷ t) z b h = (h.0, h.1, workable_renamed v n ops (w - 1) m t z b h.2)

module _ {V : Type 0} (K : KindOf V) where
  module _ (ops : ℕ) (Known : Name → Type 0) (look look' : Name → V) (same : (f : Name) → Known f → look f ≡ look' f) where
    waiting_alike : (w : ℕ) (t : Term Name) (waiting : List V) → Workable Known ops w t
        → waiting_after K look t waiting ≡ waiting_after K look' t waiting
    waiting_alike w [] waiting h = refl
    waiting_alike w (Literal n ∷ t) waiting h = waiting_alike (w + 1) t (K.literal n ∷ waiting) h.1
    waiting_alike w (Reference f ∷ t) waiting h =
        waiting_alike (w + 1) t (look f ∷ waiting) h.2 ∙ ap (λ (x : V). waiting_after K look' t (x ∷ waiting)) (same f h.1)
    waiting_alike w (Operation k ∷ t) waiting h =
        waiting_alike (w - 1) t (operate_on K k waiting) h.2

    -- two ways to look that are the same on what a term may refer to give it the same value
    pub value_alike : (t : Term Name) → Workable Known ops 0 t → value K look t ≡ value K look' t
    value_alike t h = ap (last_waiting K) (waiting_alike 0 t [] h)

  abbrev in_state : State V → Variable → V
  in_state s x = get_or s x.0 K.no

  module _ (v ops : ℕ) (m : List Name) (look : Name → V) (s : State V) (z : length m ≡ v) (reads : s ≡ map look m) where
    looked_up : (x : Variable) → x.0 < v → look (get_or m x.0 (name 0)) ≡ in_state s x
    looked_up x l = sym (get_or-map look m x.0 (name 0) K.no (omega arith)) ∙ ap (λ (y : State V). in_state y x) (sym reads)

    waiting_renamed : (w : ℕ) (t : Term Variable) (waiting : List V) → Workable (λ x. x.0 < v) ops w t
        → waiting_after K look (rename m t) waiting ≡ waiting_after K (in_state s) t waiting
    waiting_renamed w [] waiting h = refl
    waiting_renamed w (Literal n ∷ t) waiting h = waiting_renamed (w + 1) t (K.literal n ∷ waiting) h.1
    waiting_renamed w (Reference x ∷ t) waiting h =
        waiting_renamed (w + 1) t (look (get_or m x.0 (name 0)) ∷ waiting) h.2
        ∙ ap (λ (y : V). waiting_after K (in_state s) t (y ∷ waiting)) (looked_up x h.1)
    waiting_renamed w (Operation k ∷ t) waiting h =
        waiting_renamed (w - 1) t (operate_on K k waiting) h.2

  -- a renamed term has the value that the term has in the state that the map reads
  pub value_renamed : (v ops : ℕ) (m : List Name) (a : Assignment V) (s : State V) (t : Term Variable) → length m ≡ v
      → Reads K a (Some m) s → ProperTerm v ops t → value_under K a (rename m t) ≡ value_in K s t
  value_renamed v ops m a s t z reads h =
      ap (last_waiting K) (waiting_renamed v ops m (named K a) s z reads 0 t [] h)
