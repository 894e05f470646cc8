-- The nodes of a term, row by row.
use Rattle.std.proofs.Common.{◌≡◌, ℕ, ◌+◌, ◌-◌, ◌<◌, ◌≤◌, List, [], ◌∷◌, length, get_or, drop, sym, ap, ◌∙◌, subst, arith}
use Rattle.std.proofs.lemmas.List.{drop_more, drop_all, nil_from_length}
use Rattle.kinds.specs.declared.numbered.Name.{Name}
use Rattle.kinds.specs.declared.numbered.Node.{Node}
use Rattle.routine.specs.declared.rows.Item.{Item}
use Rattle.routine.specs.Commands.{Term}
use Rattle.routine.specs.Standing.{Workable}
use Rattle.passive.specs.declared.rows.PassiveTermRow.{PassiveTermRow}
use Rattle.formula.specs.declared.stores.Making.{Making}
use Rattle.passive.specs.Rows.{item}
use Rattle.formula.specs.Store.{node_no}
use Rattle.conditions.specs.Reading.{items}
use Rattle.conditions.specs.Made.{ItemMade, literal_made, name_made, operation_made, TermMade, term_done, term_more}

-- a term over names below the width, where these nodes wait
abbrev pub WorkableFrom : ℕ → ℕ → List Node → Term Name → Type 0
WorkableFrom ops width ns t = Workable (λ f. f.0 < width) ops (length ns) t

module _ {S : Type 0} (steps : S → Making → Node → S → Type 0) where
  rest_workable : (ops width : ℕ) {s t : S} {ns ms : List Node} {i : Item Name} (is : Term Name) → ItemMade steps s ns i t ms
      → WorkableFrom ops width ns (i ∷ is) → WorkableFrom ops width ms is
  rest_workable ops width is (literal_made {waiting = ns} h) w =
      let e : length ns + 1 ≡ length (node_no ∷ ns) = omega arith in
      subst (λ k. Workable (λ f. f.0 < width) ops k is) e w.1
  rest_workable ops width is (name_made {waiting = ns} h) w =
      let e : length ns + 1 ≡ length (node_no ∷ ns) = omega arith in
      subst (λ k. Workable (λ f. f.0 < width) ops k is) e w.2
  rest_workable ops width is (operation_made {waiting = ns} {p = p} {q = q} h) w =
      let e : length (q ∷ (p ∷ ns)) - 1 ≡ length (node_no ∷ ns) = omega arith in
      subst (λ k. Workable (λ f. f.0 < width) ops k is) e w.2

abbrev no_row : PassiveTermRow
no_row = record { tag = 0; number = 0 }

-- the term row that the loop reads
abbrev pub at : List PassiveTermRow → ℕ → PassiveTermRow
at rows i = get_or rows i no_row

module _ (ops width : ℕ) (rows : List PassiveTermRow) (i : ℕ) where
  next : (ns : List Node) → i < length rows → WorkableFrom ops width ns (items (drop i rows)) → WorkableFrom ops width ns (item (at rows i) ∷ items (drop (i + 1) rows))
  next ns l h = subst (λ rs. WorkableFrom ops width ns (items rs)) (drop_more rows i no_row l) h

  pub workable_then : {S : Type 0} (steps : S → Making → Node → S → Type 0) {s t : S} {ns ms : List Node} → i < length rows
      → ItemMade steps s ns (item (at rows i)) t ms → WorkableFrom ops width ns (items (drop i rows)) → WorkableFrom ops width ms (items (drop (i + 1) rows))
  workable_then steps {ns = ns} l made h = rest_workable steps ops width (items (drop (i + 1) rows)) made (next ns l h)

  pub one_left : (ns : List Node) → length rows ≤ i → WorkableFrom ops width ns (items (drop i rows)) → length ns ≡ 1
  one_left ns l h = subst (λ rs. WorkableFrom ops width ns (items rs)) (drop_all i rows l) h

module _ {S : Type 0} (steps : S → Making → Node → S → Type 0) where
  pub made_more : {s u t : S} {ns ms : List Node} {n : Node} (rows : List PassiveTermRow) (i : ℕ) → i < length rows
      → ItemMade steps s ns (item (at rows i)) u ms → TermMade steps u ms (items (drop (i + 1) rows)) t n → TermMade steps s ns (items (drop i rows)) t n
  made_more {s = s} {t = t} {ns = ns} {n = n} rows i l x y =
      subst (λ rs. TermMade steps s ns (items rs) t n) (sym (drop_more rows i no_row l)) (term_more x y)

  pub made_none : {s : S} {n : Node} (rows : List PassiveTermRow) (i : ℕ) → length rows ≤ i → (ns left : List Node) → ns ≡ n ∷ left → length ns ≡ 1
      → TermMade steps s ns (items (drop i rows)) s n
  made_none {s = s} {n = n} rows i l ns left popped one =
      subst (λ rs. TermMade steps s ns (items rs) s n) (sym (drop_all i rows l))
      (subst (λ ks. TermMade steps s ks [] s n) (sym (popped ∙ ap (λ ks. n ∷ ks) (nil_from_length left (omega (arith, one, ap length popped))))) term_done)
