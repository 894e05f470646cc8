-- The evaluator is a store.
use Rattle.std.specs.Prelude.{◌≡◌, ℕ, zero, suc, ◌+◌, ◌-◌, ◌<◌, ◌≤◌, ◌≢◌, length, get_or, take, vec_items, ◌==◌, slice_index_or, slice_set, refl}
use Rattle.std.proofs.Common.{ap, sym, ◌∙◌, arith}
use Rattle.std.proofs.lemmas.List.{length-take-le, get_or-set_same, get_or-set_other, take-set-le}
use Rattle.std.proofs.lemmas.Bool.{ne_eqb, cond-false, ltb-true}
use Rattle.kinds.specs.Kind.{KindOf}
use Rattle.kinds.specs.declared.numbered.Node.{Node}
use Rattle.formula.specs.declared.stores.Making.{Making}
use Rattle.formula.specs.Store.{stated, Lawful, Makes}
use Rattle.formula.specs.Evaluators.{assignment, node_value, evaluator_meaning, evaluator_steps}
use Rattle.formula.specs.declared.evaluators.Evaluator.{Evaluator}
use Rattle.formula.specs.CountLaws.{below_counted}
use Rattle.formula.specs.Nodes.{place_of, NodeAdded}
use Rattle.formula.specs.NodeLaws.{no_below, yes_below, same_room, place_inside, next_below, still_below}

module _ {V : Type 0} (K : KindOf V) where
  value_placed : (s : Evaluator V) (n : Node) → 2 ≤ n.0 → node_value K s n ≡ slice_index_or (vec_items s.nodes.items) (place_of s.nodes n.0) K.no
  value_placed s n h = cond-false (n.0 == 0) _ _ (ne_eqb n.0 0 (omega arith)) ∙ cond-false (n.0 == 1) _ _ (ne_eqb n.0 1 (omega arith))

  pub evaluator_lawful : (s : Evaluator V) → Lawful K (evaluator_meaning K) s
  evaluator_lawful s = record {
    counted = below_counted s.nodes.count;
    two = s.nodes.two;
    placed = s.nodes.placed;
    no_used = no_below s.nodes;
    yes_used = yes_below s.nodes;
    zero_no = λ a h. refl;
    one_yes = λ a h. refl;
    wide = λ a h. ap length h ∙ length-take-le s.nodes.front (vec_items s.nodes.items) (omega (arith, s.nodes.within, s.nodes.items.ok.0));
  }

  module _ (s : Evaluator V) (v : V) (n : Node) (t : Evaluator V) (step : NodeAdded s.nodes v n t.nodes) where
    same_assignment : assignment t ≡ assignment s
    same_assignment =
        ap (λ w. take w (vec_items t.nodes.items)) step.front
        ∙ ap (take s.nodes.front) step.items
        ∙ take-set-le s.nodes.front (vec_items s.nodes.items) (place_of s.nodes s.nodes.count) v (omega arith)

    same_place : (m : ℕ) → slice_index_or (vec_items t.nodes.items) (place_of t.nodes m) K.no ≡ slice_index_or (slice_set (vec_items s.nodes.items) (place_of s.nodes s.nodes.count) v) (place_of s.nodes m) K.no
    same_place m =
        ap (λ xs. get_or xs (place_of t.nodes m) K.no) step.items
        ∙ ap (λ w. get_or (slice_set (vec_items s.nodes.items) (place_of s.nodes s.nodes.count) v) (w + (m - 2)) K.no) step.front

    kept_at : (m : ℕ) → m < s.nodes.count → node_value K t (record { 0 = m }) ≡ node_value K s (record { 0 = m })
    kept_at zero h = refl
    kept_at (suc zero) h = refl
    kept_at (suc (suc i)) h =
        let m : ℕ = suc (suc i) in
        let other : place_of s.nodes m ≢ place_of s.nodes s.nodes.count = omega arith in
        value_placed t (record { 0 = m }) (omega arith)
        ∙ same_place m
        ∙ get_or-set_other (vec_items s.nodes.items) (place_of s.nodes s.nodes.count) (place_of s.nodes m) v K.no other
        ∙ sym (value_placed s (record { 0 = m }) (omega arith))

    next_value : node_value K t n ≡ v
    next_value =
        value_placed t n (omega (arith, step.next, s.nodes.two))
        ∙ ap (λ m. get_or (vec_items t.nodes.items) (place_of t.nodes m) K.no) step.next
        ∙ same_place s.nodes.count
        ∙ get_or-set_same (vec_items s.nodes.items) (place_of s.nodes s.nodes.count) v K.no (place_inside step)

  module _ (s : Evaluator V) (c : Making) (n : Node) (t : Evaluator V) (step : evaluator_steps K s c n t) where
    abbrev v : V
    v = stated K (node_value K s) (assignment s) c

    pub evaluator_sound : Makes K (evaluator_meaning K) s c n t
    evaluator_sound =
        let front = same_assignment s v n t step in
        record {
          used = next_below step;
          grown = record {
            grows = omega (arith, step.count);
            few = omega (arith, step.count);
            capacity_same = same_room step;
            width_same = step.front;
            covers_same = λ a. (λ h. h ∙ front, λ h. h ∙ sym front);
            still_used = still_below step;
            kept = λ m a u h. kept_at s v n t step m.0 (ltb-true m.0 s.nodes.count u);
          };
          as_stated = λ a h. next_value s v n t step ∙ ap (λ b. stated K (node_value K s) b c) (sym h);
        }
