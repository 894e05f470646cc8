-- The table store is a store, and its rows stand.
use Rattle.std.specs.Prelude.{◌≡◌, ℕ, ◌+◌, ◌-◌, ◌<◌, List, [], ◌∷◌, ◌++◌, length, get_or, vec_items, slice_index_or, refl}
use Rattle.std.proofs.Common.{ap, sym, ◌∙◌, arith}
use Rattle.std.proofs.lemmas.List.{length-take-le, length_push, get_or_append_left, get_or_push, take_more_set}
use Rattle.std.proofs.lemmas.Bool.{ltb-true}
use Rattle.kinds.specs.Kind.{KindOf}
use Rattle.kinds.specs.declared.numbered.Node.{Node}
use Rattle.formula.specs.declared.stores.Making.{Making}
use Rattle.formula.specs.declared.stores.Making.TheVariants as making
use Rattle.formula.specs.Store.{stated, Lawful, Makes}
use Rattle.formula.specs.Tables.{making_of, row_of, with_rows, rows_used, node_values, table_meaning, table_steps}
use Rattle.formula.specs.declared.tables.NodeRow.{NodeRow}
use Rattle.formula.specs.declared.tables.TableStore.{TableStore}
use Rattle.formula.specs.CountLaws.{below_counted}
use Rattle.formula.specs.Nodes.{place_of}
use Rattle.formula.specs.NodeLaws.{no_below, yes_below, same_room, place_inside, next_below, still_below}

-- a row tells its call
making_row : (c : Making) → making_of (row_of c) ≡ c
making_row (making.Literal n) = refl
making_row (making.Name f) = refl
making_row (making.Operation op p q) = refl
making_row (making.Same p q) = refl
making_row (making.Not p) = refl
making_row (making.And p q) = refl
making_row (making.Or p q) = refl

-- values row by row

module _ {V : Type 0} (K : KindOf V) (a : List V) where
  abbrev called : List V → Making → V
  called before c = stated K (λ n. get_or before n.0 K.no) a c

  abbrev next : List V → NodeRow → V
  next before row = called before (making_of row)

  with_push : (before : List V) (rows : List NodeRow) (row : NodeRow) → with_rows K a before (rows ++ (row ∷ [])) ≡ with_rows K a before rows ++ (next (with_rows K a before rows) row ∷ [])
  with_push before [] row = refl
  with_push before (x ∷ rows) row = with_push (before ++ (next before x ∷ [])) rows row

  with_length : (before : List V) (rows : List NodeRow) → length (with_rows K a before rows) ≡ length before + length rows
  with_length before [] = omega arith
  with_length before (x ∷ rows) = omega (arith, with_length (before ++ (next before x ∷ [])) rows, length_push before (next before x))

  with_kept : (before : List V) (rows : List NodeRow) (i : ℕ) → i < length before → slice_index_or (with_rows K a before rows) i K.no ≡ slice_index_or before i K.no
  with_kept before [] i h = refl
  with_kept before (x ∷ rows) i h =
      let more : i < length (before ++ (next before x ∷ [])) = omega (arith, length_push before (next before x)) in
      with_kept (before ++ (next before x ∷ [])) rows i more ∙ get_or_append_left before (next before x ∷ []) K.no i h

module _ {V : Type 0} (K : KindOf V) where
  abbrev start : List V
  start = K.no ∷ K.yes ∷ []

  used_length : (s : TableStore V) → length (rows_used s) ≡ s.nodes.count - 2
  used_length s = length-take-le (s.nodes.count - 2) (vec_items s.nodes.items) (omega (arith, s.nodes.items.ok.0))

  values_length : (s : TableStore V) (a : List V) → length (node_values K s a) ≡ s.nodes.count
  values_length s a = omega (arith, with_length K a start (rows_used s), used_length s, s.nodes.two)

  pub table_lawful : (s : TableStore V) → Lawful K (table_meaning K) s
  table_lawful s = record {
    counted = below_counted s.nodes.count;
    two = s.nodes.two;
    placed = s.nodes.placed;
    no_used = no_below s.nodes;
    yes_used = yes_below s.nodes;
    zero_no = λ a h. with_kept K a start (rows_used s) 0 (omega arith);
    one_yes = λ a h. with_kept K a start (rows_used s) 1 (omega arith);
    wide = λ a h. h;
  }

  module _ (s : TableStore V) (c : Making) (n : Node) (t : TableStore V) (step : table_steps s c n t) where
    more_rows : rows_used t ≡ rows_used s ++ (row_of c ∷ [])
    more_rows =
        let inside : s.nodes.count - 2 < length (vec_items s.nodes.items) = omega (arith, place_inside step.0) in
        let more : t.nodes.count - 2 ≡ s.nodes.count - 2 + 1 = omega (arith, s.nodes.two, step.0.count) in
        let place : place_of s.nodes s.nodes.count ≡ s.nodes.count - 2 = omega (arith, s.all) in
        rw (more, step.0.items, place) (take_more_set (vec_items s.nodes.items) (s.nodes.count - 2) (row_of c) inside)

    more_values : (a : List V) → node_values K t a ≡ node_values K s a ++ (called K a (node_values K s a) c ∷ [])
    more_values a =
        ap (with_rows K a start) more_rows
        ∙ with_push K a start (rows_used s) (row_of c)
        ∙ ap (λ x. node_values K s a ++ (called K a (node_values K s a) x ∷ [])) (making_row c)

    pub table_sound : Makes K (table_meaning K) s c n t
    table_sound = record {
      used = next_below step.0;
      grown = record {
        grows = omega (arith, step.0.count);
        few = omega (arith, step.0.count);
        capacity_same = same_room step.0;
        width_same = step.1;
        covers_same = λ a. (λ h. h ∙ step.1, λ h. h ∙ sym step.1);
        still_used = still_below step.0;
        kept = λ m a u h.
            ap (λ vs. get_or vs m.0 K.no) (more_values a)
            ∙ get_or_append_left (node_values K s a) _ K.no m.0 (omega (arith, values_length s a, ltb-true m.0 s.nodes.count u));
      };
      as_stated = λ a h.
          ap (λ vs. get_or vs n.0 K.no) (more_values a)
          ∙ get_or_push (node_values K s a) _ K.no n.0 (values_length s a ∙ sym step.0.next);
    }
