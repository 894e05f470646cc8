-- Assignments that differ in new names alone, and that new names can be given the values of old ones.
use Rattle.std.proofs.Common.{◌≡◌, ℕ, ◌+◌, ◌<◌, ◌≤◌, true, false, not, ◌&&◌, List, [], ◌∷◌, map, length, set, Some, None, sym, refl, ap, ◌∙◌, ap₂, arith, length-set}
use Rattle.std.proofs.lemmas.Bool.{and_from}
use Rattle.std.proofs.lemmas.List.{get_or-set_same, get_or-set_other}
use Rattle.kinds.specs.Kind.{KindOf}
use Rattle.kinds.specs.declared.numbered.Name.{Name}
use Rattle.routine.specs.Runs.{State}
use Rattle.passive.specs.Passive.{PassiveSingle, p_assert, p_assume, p_let, p_skip, p_raise, p_stop, Passive, p_single, p_join, Names, Renamed}
use Rattle.passive.specs.Outcomes.{Assignment, named, Outcomes, joined_outcomes, single_outcomes, outcomes}
use Rattle.passive.specs.Uses.{AllBelow, Below, WorkableSingle, WorkableForm}
use Rattle.passive.specs.Agreement.{Reads}
use Rattle.passive.proofs.Endings.{agreed, given}
use Rattle.passive.proofs.Values.{value_alike}
use Rattle.passive.proofs.Merging.{Fresh, fresh_many}

module _ {V : Type 0} (K : KindOf V) where
  -- the names below n have the same values
  abbrev pub Alike : ℕ → Assignment V → Assignment V → Type 0
  Alike n a a' = (f : Name) → f.0 < n → named K a' f ≡ named K a f

  -- as many values, and the names below k have the same
  pub record Changed (k : ℕ) (a a' : Assignment V) : Type 0 where
    pub long : length a' ≡ length a
    pub low : Alike k a a'

  -- some assignment has the property that differs from this one in no names below k
  pub record Found (k : ℕ) (a : Assignment V) (P : Assignment V → Type 0) : Type 0 where
    pub after : Assignment V
    pub changed : Changed k a after
    pub shows : P after

  pub at_once : (k : ℕ) (a : Assignment V) (P : Assignment V → Type 0) → P a → Found k a P
  at_once k a P h = record { after = a; changed = record { long = refl; low = λ f l. refl }; shows = h }

  pub changed_then : (k b : ℕ) (a a' a'' : Assignment V) → k ≤ b → Changed k a a' → Changed b a' a'' → Changed k a a''
  changed_then k b a a' a'' l p q = record { long = q.long ∙ p.long; low = λ f h. q.low f (omega arith) ∙ p.low f h }

  pub changed_set : (k i : ℕ) (a : Assignment V) (x : V) → k ≤ i → Changed k a (set a i x)
  changed_set k i a x l = record { long = length-set a i x; low = λ f h. get_or-set_other a i f.0 x K.no (omega arith) }

  -- what goes by the names below n alone

  module _ (n : ℕ) (a a' : Assignment V) (e : Alike n a a') where
    alike_single : (ops : ℕ) (p : PassiveSingle) → WorkableSingle ops n p → single_outcomes K a' p ≡ single_outcomes K a p
    alike_single ops (p_assert t) h = ap asserted (value_alike K ops (λ f. f.0 < n) (named K a') (named K a) e t h)
      where
        asserted : V → Outcomes
        asserted x = record { N = K.truth x; X = false; W = not (K.truth x) }
    alike_single ops (p_assume t) h = ap given (ap K.truth (value_alike K ops (λ f. f.0 < n) (named K a') (named K a) e t h))
    alike_single ops (p_let f t) h =
        ap given (ap₂ K.same (e f h.0) (value_alike K ops (λ f. f.0 < n) (named K a') (named K a) e t h.1))
    alike_single ops p_skip h = refl
    alike_single ops p_raise h = refl
    alike_single ops p_stop h = refl

    pub alike_outcomes : (ops : ℕ) (p : Passive) → WorkableForm ops n p → outcomes K a' p ≡ outcomes K a p
    alike_outcomes ops (p_single p) h = alike_single ops p h
    alike_outcomes ops (p_join j p q) h = ap₂ (joined_outcomes j) (alike_outcomes ops p h.0) (alike_outcomes ops q h.1)

    pub alike_map : (m : List Name) → AllBelow n m → map (named K a) m ≡ map (named K a') m
    alike_map [] h = refl
    alike_map (f ∷ m) h = ap₂ {C = List V} (λ (x : V) (xs : List V). x ∷ xs) (sym (e f h.0)) (alike_map m h.1)

    pub alike_reads : (s : State V) (m : Names) → Below n m → Reads K a m s → Reads K a' m s
    alike_reads s None h f = f
    alike_reads s (Some m) h f = f ∙ alike_map m h

    alike_agreed : (b k : ℕ) (rs : List Renamed) → b ≤ n → Fresh b k n rs → agreed K a' rs ≡ agreed K a rs
    alike_agreed b k [] l h = refl
    alike_agreed b k (r ∷ rs) l h =
        let many = fresh_many b (k + 1) n rs h.2 in
        ap₂ ◌&&◌ (ap₂ K.same (e r.new (omega arith)) (e r.old (omega arith))) (alike_agreed b (k + 1) rs l h.2)

  pub same_from : (x y z : V) → x ≡ z → y ≡ z → K.same x y ≡ true
  same_from x y z p q = ap₂ K.same p q ∙ K.equal_same z

  settle : (b k n : ℕ) (rs : List Renamed) (a : Assignment V) → b ≤ k → n ≤ length a → Fresh b k n rs
      → Found k a (λ a'. agreed K a' rs ≡ true)
  settle b k n [] a l u h = at_once k a (λ a'. agreed K a' [] ≡ true) refl
  settle b k n (r ∷ rs) a l u h =
      let x = named K a r.old in
      let a₁ = set a r.new.0 x in
      let many = fresh_many b (k + 1) n rs h.2 in
      let c = changed_set k r.new.0 a x (omega arith) in
      let long = c.long in
      let t = settle b (k + 1) n rs a₁ (omega arith) (omega arith) h.2 in
      record {
        after = t.after;
        changed = changed_then k (k + 1) a a₁ t.after (omega arith) c t.changed;
        shows = and_from _ _
            (same_from _ _ x (t.changed.low r.new (omega arith) ∙ get_or-set_same a r.new.0 x K.no (omega arith))
            (t.changed.low r.old (omega arith) ∙ c.low r.old (omega arith)))
            t.shows;
      }

  -- the new names of two renamings in a row can be given the old ones' values
  pub settle_both : (k n o : ℕ) (ns xs : List Renamed) (a : Assignment V) → k ≤ n → n ≤ o → o ≤ length a → Fresh k k n ns → Fresh n n o xs
      → Found k a (λ a'. (agreed K a' ns ≡ true) × (agreed K a' xs ≡ true))
  settle_both k n o ns xs a l l' u h g =
      let t = settle k k n ns a (omega arith) (omega arith) h in
      let long = t.changed.long in
      let y = settle n n o xs t.after (omega arith) (omega arith) g in
      record {
        after = y.after;
        changed = changed_then k n a t.after y.after l t.changed y.changed;
        shows = (alike_agreed n t.after y.after y.changed.low k k ns l h ∙ t.shows, y.shows);
      }
