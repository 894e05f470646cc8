-- What the calls for a term make: a node with the term's value.
use Rattle.std.proofs.Common.{◌≡◌, ℕ, true, List, [], ◌∷◌, map, length, sym, refl, ap, ◌∙◌, ap₂, arith}
use Rattle.kinds.specs.Kind.{KindOf}
use Rattle.kinds.specs.declared.numbered.Name.{Name}
use Rattle.kinds.specs.declared.numbered.Node.{Node}
use Rattle.routine.specs.declared.rows.Item.{Item}
use Rattle.routine.specs.Commands.{Term}
use Rattle.routine.specs.Runs.{waiting_after, last_waiting}
use Rattle.passive.specs.Outcomes.{Assignment, named, value_under}
use Rattle.formula.specs.declared.stores.Making.{Making}
use Rattle.formula.specs.Store.{Meaning, Grown, Makes}
use Rattle.conditions.specs.Made.{ItemMade, literal_made, name_made, operation_made, TermMade, term_done, term_more}
use Rattle.conditions.specs.Asks.{NodesUsed}
use Rattle.conditions.proofs.Frames.{grown_none, grown_then, grown_by}

module _ {V : Type 0} {S : Type 0} (M : Meaning V S) where
  used_later : {s t : S} {k : ℕ} (ns : List Node) → Grown M s k t → NodesUsed M s ns → NodesUsed M t ns
  used_later [] g u = tt
  used_later (n ∷ ns) g u = (g.still_used n u.0, used_later ns g u.1)

  abbrev values : S → Assignment V → List Node → List V
  values s a ns = map (λ n. M.value s n a) ns

  values_kept : {s t : S} {k : ℕ} (a : Assignment V) (ns : List Node) → Grown M s k t → NodesUsed M s ns → M.covers s a → values t a ns ≡ values s a ns
  values_kept a [] g u h = refl
  values_kept a (n ∷ ns) g u h = ap₂ ◌∷◌ (g.kept n a u.0 h) (values_kept a ns g u.1 h)

module _ {V : Type 0} {S : Type 0} (K : KindOf V) (M : Meaning V S) (steps : S → Making → Node → S → Type 0)
    (sound : (s : S) (c : Making) (n : Node) (t : S) → steps s c n t → Makes K M s c n t)
  where
    pub item_grown : {s t : S} {ns ms : List Node} {i : Item Name} → ItemMade steps s ns i t ms → Grown M s 1 t
    item_grown (literal_made h) = (sound _ _ _ _ h).grown
    item_grown (name_made h) = (sound _ _ _ _ h).grown
    item_grown (operation_made h) = (sound _ _ _ _ h).grown

    pub item_used : {s t : S} {ns ms : List Node} {i : Item Name} → ItemMade steps s ns i t ms → NodesUsed M s ns → NodesUsed M t ms
    item_used (literal_made h) u = let m = sound _ _ _ _ h in (m.used, used_later M _ m.grown u)
    item_used (name_made h) u = let m = sound _ _ _ _ h in (m.used, used_later M _ m.grown u)
    item_used (operation_made h) u = let m = sound _ _ _ _ h in (m.used, used_later M _ m.grown u.1.1)

    item_values : {s t : S} {ns ms : List Node} {i : Item Name} → ItemMade steps s ns i t ms → NodesUsed M s ns → (a : Assignment V) → M.covers s a
        → (is : Term Name) → waiting_after K (named K a) (i ∷ is) (values M s a ns) ≡ waiting_after K (named K a) is (values M t a ms)
    item_values (literal_made h) u a cov is =
        let m = sound _ _ _ _ h in
        ap (waiting_after K (named K a) is) (ap₂ ◌∷◌ (sym (m.as_stated a cov)) (sym (values_kept M a _ m.grown u cov)))
    item_values (name_made h) u a cov is =
        let m = sound _ _ _ _ h in
        ap (waiting_after K (named K a) is) (ap₂ ◌∷◌ (sym (m.as_stated a cov)) (sym (values_kept M a _ m.grown u cov)))
    item_values (operation_made h) u a cov is =
        let m = sound _ _ _ _ h in
        ap (waiting_after K (named K a) is) (ap₂ ◌∷◌ (sym (m.as_stated a cov)) (sym (values_kept M a _ m.grown u.1.1 cov)))

    pub term_grown : {s t : S} {ns : List Node} {is : Term Name} {n : Node} → TermMade steps s ns is t n → Grown M s (length is) t
    term_grown (term_done {s = s}) = grown_none M s
    term_grown (term_more {is = is} x y) = grown_by M (omega arith) (grown_then M (item_grown x) (term_grown y))

    pub term_used : {s t : S} {ns : List Node} {is : Term Name} {n : Node} → TermMade steps s ns is t n → NodesUsed M s ns → M.in_use t n ≡ true
    term_used term_done u = u.0
    term_used (term_more x y) u = term_used y (item_used x u)

    waiting_value : {s t : S} {ns : List Node} {is : Term Name} {n : Node} → TermMade steps s ns is t n → NodesUsed M s ns → (a : Assignment V)
        → M.covers s a → M.value t n a ≡ last_waiting K (waiting_after K (named K a) is (values M s a ns))
    waiting_value term_done u a cov = refl
    waiting_value (term_more {is = is} x y) u a cov =
        waiting_value y (item_used x u) a (((item_grown x).covers_same a).1 cov) ∙ ap (last_waiting K) (sym (item_values x u a cov is))

    pub term_value : {s t : S} {is : Term Name} {n : Node} → TermMade steps s [] is t n → (a : Assignment V) → M.covers s a
        → M.value t n a ≡ value_under K a is
    term_value h a cov = waiting_value h tt a cov
