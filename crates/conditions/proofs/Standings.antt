-- Where the terms of a passive form stand, and what its rows then say and ask.
use Rattle.std.proofs.Common.{◌≡◌, ℕ, ◌+◌, ◌-◌, ◌<◌, ◌≤◌, true, List, [], ◌∷◌, ◌++◌, map, length, take, drop, sym, refl, ap, ◌∙◌, subst, append_assoc, append-nil, zero-add, arith, length-append}
use mathlib.Core.List.{map-append}
use lib.ListN.{length-map}
use Rattle.std.proofs.lemmas.List.{take_at, drop_at}
use Rattle.kinds.specs.declared.numbered.Name.{Name}
use Rattle.routine.specs.declared.rows.Item.{Item}
use Rattle.routine.specs.declared.rows.Item.TheVariants.{Literal, Reference, Operation}
use Rattle.routine.specs.declared.rows.Joint.{Joint}
use Rattle.routine.specs.declared.rows.Joint.TheVariants.{Sequence, Choice, Catch}
use Rattle.routine.specs.Commands.{Term}
use Rattle.routine.specs.Standing.{joint_tag}
use Rattle.passive.specs.Passive.{PassiveSingle, p_assert, p_assume, p_let, p_skip, p_raise, p_stop, Passive, p_single, p_join}
use Rattle.passive.specs.Outcomes.{joint_nodes, nodes}
use Rattle.passive.specs.Uses.{WorkableSingle, WorkableForm}
use Rattle.passive.specs.Rows.{term_row}
use Rattle.passive.specs.Layout.{single_term, terms, term_rows, rows, joint_row, single_row, layout}
use Rattle.passive.specs.declared.rows.PassiveTermRow.{PassiveTermRow}
use Rattle.passive.specs.declared.rows.PassiveRow.{PassiveRow}
use Rattle.passify.proofs.JoinPieces.{some_rows}
use Rattle.passify.proofs.Parts.{length_layout, length_term_rows}
use Rattle.formula.specs.Store.{Meaning, node_no}
use Rattle.passive.specs.Rows.{item}
use Rattle.conditions.specs.Reading.{items, part, alone, joins, reading}
use Rattle.conditions.specs.Valued.{RowsUsed}
use Rattle.conditions.specs.Asks.{reading_nodes, ReadingWorkable, LeftBefore, RowFits, RowsFit, rows_nodes}
use Rattle.conditions.proofs.Frames.{used_append}

-- the terms of p stand in the table from j on
pub record Stand (table : List PassiveTermRow) (j : ℕ) (p : Passive) : Type 0 where
  pub before : List PassiveTermRow
  pub after : List PassiveTermRow
  pub is : table ≡ before ++ (term_rows p ++ after)
  pub from : length before ≡ j

pub stand_whole : (p : Passive) → Stand (term_rows p) 0 p
stand_whole p = record { before = []; after = []; is = sym (append-nil (term_rows p)); from = refl }

module _ (table : List PassiveTermRow) (j : ℕ) (o : Joint) (p q : Passive) (s : Stand table j (p_join o p q)) where
  both : table ≡ s.before ++ (term_rows p ++ (term_rows q ++ s.after))
  both =
      s.is ∙ ap (λ ts. s.before ++ (ts ++ s.after)) (map-append term_row (terms p) (terms q))
      ∙ ap (λ ts. s.before ++ ts) (append_assoc (term_rows p) (term_rows q) s.after)

  pub stand_left : Stand table j p
  stand_left = record { before = s.before; after = term_rows q ++ s.after; is = both; from = s.from }

  pub stand_right : Stand table (j + length (terms p)) q
  stand_right = record {
    before = s.before ++ term_rows p;
    after = s.after;
    is = both ∙ sym (append_assoc s.before (term_rows p) (term_rows q ++ s.after));
    from = length-append s.before (term_rows p) ∙ omega (arith, s.from, length_term_rows p);
  }

-- reading what was laid out

item_back : (i : Item Name) → item (term_row i) ≡ i
item_back (Literal n) = refl
item_back (Reference f) = refl
item_back (Operation k) = refl

items_back : (t : Term Name) → items (map term_row t) ≡ t
items_back [] = refl
items_back (i ∷ t) = λ x. item_back i x ∷ items_back t x

module _ (table : List PassiveTermRow) (j : ℕ) (p : PassiveSingle) (s : Stand table j (p_single p)) where
  term_back : items (take (length (single_term p)) (drop j table)) ≡ single_term p
  term_back =
      ap (λ ts. items (take (length (single_term p)) (drop j ts))) s.is
      ∙ ap (λ ts. items (take (length (single_term p)) ts)) (drop_at s.before (map term_row (single_term p) ++ s.after) j s.from)
      ∙ ap items (take_at (map term_row (single_term p)) s.after (length (single_term p)) (length-map (single_term p) term_row))
      ∙ items_back (single_term p)

  term_within : j + length (single_term p) ≤ length table
  term_within =
      omega (
        arith,
        ap length s.is,
        length-append s.before (map term_row (single_term p) ++ s.after),
        length-append (map term_row (single_term p)) s.after,
        length-map (single_term p) term_row,
        s.from,
      )

pub single_reading : (table : List PassiveTermRow) (j : ℕ) (p : PassiveSingle) → Stand table j (p_single p)
    → reading (single_row p j) (items (part table (single_row p j))) ≡ alone p
single_reading table j (p_assert t) s = ap (λ x. alone (p_assert x)) (term_back table j (p_assert t) s)
single_reading table j (p_assume t) s = ap (λ x. alone (p_assume x)) (term_back table j (p_assume t) s)
single_reading table j (p_let f t) s = ap (λ x. alone (p_let f x)) (term_back table j (p_let f t) s)
single_reading table j p_skip s = refl
single_reading table j p_raise s = refl
single_reading table j p_stop s = refl

pub joint_reading : (o : Joint) (left : ℕ) (t : Term Name) → reading (joint_row (joint_tag o) left) t ≡ joins o
joint_reading Sequence left t = refl
joint_reading Choice left t = refl
joint_reading Catch left t = refl

-- the rows fit

single_within : (table : List PassiveTermRow) (j : ℕ) (p : PassiveSingle) → Stand table j (p_single p)
    → (single_row p j).from + (single_row p j).count ≤ length table
single_within table j (p_assert t) s = term_within table j (p_assert t) s
single_within table j (p_assume t) s = term_within table j (p_assume t) s
single_within table j (p_let f t) s = term_within table j (p_let f t) s
single_within table j p_skip s = omega arith
single_within table j p_raise s = omega arith
single_within table j p_stop s = omega arith

single_left : (p : PassiveSingle) (j : ℕ) → (single_row p j).left ≡ 0
single_left (p_assert t) j = refl
single_left (p_assume t) j = refl
single_left (p_let f t) j = refl
single_left p_skip j = refl
single_left p_raise j = refl
single_left p_stop j = refl

module _ (ops width : ℕ) (table : List PassiveTermRow) where
  fit_append : (i : ℕ) (xs ys : List PassiveRow) → RowsFit ops width table i xs → RowsFit ops width table (i + length xs) ys → RowsFit ops width table i (xs ++ ys)
  fit_append i [] ys f g = let e : i + 0 ≡ i = omega arith in subst (λ n. RowsFit ops width table n ys) e g
  fit_append i (x ∷ xs) ys f g =
      let e : i + length (x ∷ xs) ≡ i + 1 + length xs = omega arith in
      (f.0, fit_append (i + 1) xs ys f.1 (subst (λ n. RowsFit ops width table n ys) e g))

  single_fits : (i j : ℕ) (p : PassiveSingle) → Stand table j (p_single p) → WorkableSingle ops width p → RowFits ops width table i (single_row p j)
  single_fits i j p s w =
      let e = single_reading table j p s in
      record {
        within = single_within table j p s;
        workable = subst (ReadingWorkable ops width) (sym e) w;
        before = subst (LeftBefore i (single_row p j).left) (sym e) (omega (arith, single_left p j));
      }

  joint_fits : (i left : ℕ) (o : Joint) → left < i → RowFits ops width table i (joint_row (joint_tag o) left)
  joint_fits i left o l =
      let e = joint_reading o left (items (part table (joint_row (joint_tag o) left))) in
      record {
        within = omega arith;
        workable = subst (ReadingWorkable ops width) (sym e) tt;
        before = subst (LeftBefore i left) (sym e) l;
      }

  pub layout_fits : (p : Passive) (i j : ℕ) → Stand table j p → WorkableForm ops width p → RowsFit ops width table i (layout p i j)
  layout_fits (p_single p) i j s w = (single_fits i j p s w, tt)
  layout_fits (p_join o p q) i j s w =
      let r = layout q (i + rows p) (j + length (terms p)) in
      let h = layout_fits q (i + rows p) (j + length (terms p)) (stand_right table j o p q s) w.1 in
      let last = joint_fits (i + rows p + length r) (i + rows p - 1) o (omega (arith, some_rows p)) in
      fit_append i (layout p i j) _ (layout_fits p i j (stand_left table j o p q s) w.0)
      (subst (λ n. RowsFit ops width table (i + n) (r ++ (joint_row (joint_tag o) (i + rows p - 1) ∷ []))) (sym (length_layout p i j))
      (fit_append (i + rows p) r _ h (last, tt)))

-- and take the nodes that were measured

module _ (table : List PassiveTermRow) where
  nodes_append : (xs ys : List PassiveRow) → rows_nodes table (xs ++ ys) ≡ rows_nodes table xs + rows_nodes table ys
  nodes_append [] ys = sym (zero-add (rows_nodes table ys))
  nodes_append (x ∷ xs) ys = omega (arith, nodes_append xs ys)

  joint_row_nodes : (o : Joint) (left : ℕ) → rows_nodes table (joint_row (joint_tag o) left ∷ []) ≡ joint_nodes o
  joint_row_nodes o left = omega (arith, ap reading_nodes (joint_reading o left (items (part table (joint_row (joint_tag o) left)))))

  pub layout_nodes : (p : Passive) (i j : ℕ) → Stand table j p → rows_nodes table (layout p i j) ≡ nodes p
  layout_nodes (p_single p) i j s = omega (arith, ap reading_nodes (single_reading table j p s))
  layout_nodes (p_join o p q) i j s =
      let r = layout q (i + rows p) (j + length (terms p)) in
      let last = joint_row (joint_tag o) (i + rows p - 1) ∷ [] in
      nodes_append (layout p i j) (r ++ last)
      ∙ omega (
        arith,
        nodes_append r last,
        joint_row_nodes o (i + rows p - 1),
        layout_nodes p i j (stand_left table j o p q s),
        layout_nodes q (i + rows p) (j + length (terms p)) (stand_right table j o p q s),
      )

-- no row has nodes yet

module _ {V : Type 0} {S : Type 0} (M : Meaning V S) (s : S) where
  pub layout_used : M.in_use s node_no ≡ true → (p : Passive) (i j : ℕ) → RowsUsed M s (layout p i j)
  layout_used z (p_single (p_assert t)) i j = (record { N = z; X = z; W = z }, tt)
  layout_used z (p_single (p_assume t)) i j = (record { N = z; X = z; W = z }, tt)
  layout_used z (p_single (p_let f t)) i j = (record { N = z; X = z; W = z }, tt)
  layout_used z (p_single p_skip) i j = (record { N = z; X = z; W = z }, tt)
  layout_used z (p_single p_raise) i j = (record { N = z; X = z; W = z }, tt)
  layout_used z (p_single p_stop) i j = (record { N = z; X = z; W = z }, tt)
  layout_used z (p_join o p q) i j =
      used_append M s (layout p i j) _ (layout_used z p i j)
      (used_append M s (layout q (i + rows p) (j + length (terms p))) _ (layout_used z q (i + rows p) (j + length (terms p))) (record { N = z; X = z; W = z }, tt))
