-- The nodes of a passive form, one row at a time.
use Rattle.std.proofs.Common.{◌≡◌, ℕ, zero, suc, ◌+◌, ◌-◌, ◌<◌, ◌≤◌, true, List, [], ◌∷◌, ◌++◌, length, get_or, take, drop, set, sym, refl, ap, ◌∙◌, subst, arith}
use Rattle.std.proofs.lemmas.List.{drop_more, drop_all, take_all, take_more_set, drop-set-lt, get_or-take, get_or_push, length_push}
use Rattle.kinds.specs.Kind.{KindOf}
use Rattle.kinds.specs.declared.numbered.Node.{Node}
use Rattle.passive.specs.Layout.{plain_row}
use Rattle.passive.specs.declared.rows.PassiveTermRow.{PassiveTermRow}
use Rattle.passive.specs.declared.rows.PassiveRow.{PassiveRow}
use Rattle.formula.specs.declared.stores.Making.{Making}
use Rattle.formula.specs.Store.{node_no, Meaning, Lawful, Grown, Makes}
use Rattle.conditions.specs.Reading.{items, part, Reading, alone, joins, reading}
use Rattle.conditions.specs.Made.{Ends, row_ends, filled, ends_at, last_ends, RowMade, RowsMade, rows_done, rows_more}
use Rattle.conditions.specs.Valued.{EndsUsed, RowsUsed}
use Rattle.conditions.specs.Asks.{Room, reading_nodes, ReadingWorkable, LeftBefore, RowFits, RowsFit, rows_nodes}
use Rattle.conditions.proofs.Frames.{grown_none, grown_then, rows_later, used_append, room_later}
use Rattle.conditions.proofs.RowLaws.{row_grown, row_used}

-- the row that the loop reads
abbrev pub at : List PassiveRow → ℕ → PassiveRow
at rows i = get_or rows i (plain_row 0)

-- the part that the code takes
abbrev pub taken : List PassiveTermRow → PassiveRow → List PassiveTermRow
taken terms r = take (r.from + r.count - r.from) (drop r.from terms)

pub same_part : (terms : List PassiveTermRow) (r : PassiveRow) → taken terms r ≡ part terms r
same_part terms r = let e : r.from + r.count - r.from ≡ r.count = omega arith in ap (λ n. take n (drop r.from terms)) e

left_first : (i left : ℕ) (rd : Reading) → LeftBefore i left rd → left ≤ i
left_first i left (alone p) h = h
left_first i left (joins j) h = omega (arith, h)

module _ (ops width : ℕ) (terms : List PassiveTermRow) where
  pub fit_more : (rows : List PassiveRow) (i : ℕ) → i < length rows → RowsFit ops width terms i (drop i rows)
      → RowFits ops width terms i (at rows i) × RowsFit ops width terms (i + 1) (drop (i + 1) rows)
  fit_more rows i l h = subst (RowsFit ops width terms i) (drop_more rows i (plain_row 0) l) h

pub nodes_more : (terms : List PassiveTermRow) (rows : List PassiveRow) (i : ℕ) → i < length rows
    → rows_nodes terms (drop i rows) ≡ reading_nodes (reading (at rows i) (items (part terms (at rows i)))) + rows_nodes terms (drop (i + 1) rows)
nodes_more terms rows i l = ap (rows_nodes terms) (drop_more rows i (plain_row 0) l)

module _ {V : Type 0} {S : Type 0} (M : Meaning V S) (s : S) where
  pub used_at : (rows : List PassiveRow) (i : ℕ) → RowsUsed M s rows → i < length rows → EndsUsed M s (ends_at rows i)
  used_at [] i u l = absurd (omega arith)
  used_at (r ∷ rows) zero u l = u.0
  used_at (r ∷ rows) (suc i) u l = used_at rows i u.1 (omega arith)

  pub used_set : (rows : List PassiveRow) (i : ℕ) (r : PassiveRow) → RowsUsed M s rows → EndsUsed M s (row_ends r) → RowsUsed M s (set rows i r)
  used_set [] i r u w = tt
  used_set (x ∷ rows) zero r u w = (w, u.1)
  used_set (x ∷ rows) (suc i) r u w = (u.0, used_set rows i r u.1 w)

  used_take : (rows : List PassiveRow) (i : ℕ) → RowsUsed M s rows → RowsUsed M s (take i rows)
  used_take rows zero u = tt
  used_take [] (suc i) u = tt
  used_take (r ∷ rows) (suc i) u = (u.0, used_take rows i u.1)

  last_row_used : M.in_use s node_no ≡ true → (rows : List PassiveRow) → RowsUsed M s rows → EndsUsed M s (last_ends rows)
  last_row_used z [] u = record { N = z; X = z; W = z }
  last_row_used z (r ∷ rows) u = used_at (r ∷ rows) (length (r ∷ rows) - 1) u (omega arith)

module _ {S : Type 0} (steps : S → Making → Node → S → Type 0) where
  -- a row alone takes no operands, and a joined one takes a left one before it
  operands : (s t : S) (e : Ends) (i left : ℕ) (rd : Reading) (a a' b b' : Ends) → LeftBefore i left rd → (left < i → a ≡ a') → b ≡ b'
      → RowMade steps s rd a b t e → RowMade steps s rd a' b' t e
  operands s t e i left (alone p) a a' b b' l f g h = h
  operands s t e i left (joins j) a a' b b' l f g h =
      subst (λ x. RowMade steps s (joins j) x b' t e) (f l) (subst (λ x. RowMade steps s (joins j) a x t e) g h)

pub last_pushed : (rows : List PassiveRow) (r : PassiveRow) → last_ends (rows ++ (r ∷ [])) ≡ row_ends r
last_pushed rows r =
    let e : length (rows ++ (r ∷ [])) - 1 ≡ length rows = omega (arith, length_push rows r) in
    ap (ends_at (rows ++ (r ∷ []))) e ∙ ap row_ends (get_or_push rows r (plain_row 0) (length rows) refl)

-- one turn of the loop: row i of the table got its nodes
module _ {V : Type 0} {S : Type 0} (K : KindOf V) (M : Meaning V S) (steps : S → Making → Node → S → Type 0)
    (lawful : (s : S) → Lawful K M s)
    (sound : (s : S) (c : Making) (n : Node) (t : S) → steps s c n t → Makes K M s c n t)
    (terms : List PassiveTermRow) (rows : List PassiveRow) (i : ℕ) (inside : i < length rows) (s t : S) (last e : Ends)
  where
    abbrev row : PassiveRow
    row = at rows i

    abbrev said : Reading
    said = reading row (items (part terms row))

    abbrev after : List PassiveRow
    after = set rows i (filled row e)

    front : take (i + 1) after ≡ take i rows ++ (filled row e ∷ [])
    front = take_more_set rows i (filled row e) inside

    back : drop (i + 1) after ≡ drop (i + 1) rows
    back = drop-set-lt (i + 1) rows i (filled row e) (omega arith)

    -- what the row asks of the code
    pub record Asked (a : Ends) : Type 0 where
      pub workable : ReadingWorkable K.ops (M.width s) (reading row (items (taken terms row)))
      pub left : EndsUsed M s a
      pub right : EndsUsed M s last
      pub room : Room M s (reading_nodes (reading row (items (taken terms row))))

    abbrev row_reading : List PassiveTermRow → Reading
    row_reading ts = reading row (items ts)

    -- what holds before row i, but for what is made so far
    module _ (fits : RowsFit K.ops (M.width s) terms i (drop i rows)) (used : RowsUsed M s rows) (room : Room M s (rows_nodes terms (drop i rows)))
        (was : last ≡ last_ends (take i rows))
      where
        fit : RowFits K.ops (M.width s) terms i row
        fit = (fit_more K.ops (M.width s) terms rows i inside fits).0

        left_inside : row.left < length rows
        left_inside = omega (arith, left_first i row.left said fit.before, inside)

        last_used : EndsUsed M s last
        last_used = subst (EndsUsed M s) (sym was) (last_row_used M s (lawful s).no_used (take i rows) (used_take M s rows i used))

        pub asked : (a : Ends) → a ≡ ends_at rows row.left → Asked a
        asked a is = record {
          workable = subst (λ ts. ReadingWorkable K.ops (M.width s) (row_reading ts)) (sym (same_part terms row)) fit.workable;
          left = subst (EndsUsed M s) (sym is) (used_at M s rows row.left used left_inside);
          right = last_used;
          room = subst (λ ts. Room M s (reading_nodes (row_reading ts))) (sym (same_part terms row)) (omega (arith, nodes_more terms rows i inside, room));
        }

        module _ (a : Ends) (is : a ≡ ends_at rows row.left) (ensured : RowMade steps s (reading row (items (taken terms row))) a last t e) where
          made : RowMade steps s said (ends_at rows row.left) last t e
          made = subst (λ x. RowMade steps s said x last t e) is (subst (λ ts. RowMade steps s (row_reading ts) a last t e) (same_part terms row) ensured)

          grown : Grown M s (reading_nodes said) t
          grown = row_grown K M steps lawful sound s t said (ends_at rows row.left) last e made

          made_here : RowMade steps s said (ends_at (take i rows) row.left) (last_ends (take i rows)) t e
          made_here =
              operands steps s t e i row.left said _ _ _ _ fit.before (λ l. ap row_ends (sym (get_or-take i rows row.left (plain_row 0) l))) was made

          more_made : (u : S) (all : List PassiveRow) → RowsMade steps terms t (take (i + 1) after) (drop (i + 1) after) u all
              → RowsMade steps terms s (take i rows) (drop i rows) u all
          more_made u all h =
              subst (λ rs. RowsMade steps terms s (take i rows) rs u all) (sym (drop_more rows i (plain_row 0) inside))
              (rows_more e made_here
              (subst (λ rs. RowsMade steps terms t rs (drop (i + 1) rows) u all) front (subst (λ rs. RowsMade steps terms t (take (i + 1) after) rs u all) back h)))

          more_fit : RowsFit K.ops (M.width t) terms (i + 1) (drop (i + 1) after)
          more_fit =
              subst (λ w. RowsFit K.ops w terms (i + 1) (drop (i + 1) after)) (sym grown.width_same)
              (subst (RowsFit K.ops (M.width s) terms (i + 1)) (sym back) (fit_more K.ops (M.width s) terms rows i inside fits).1)

          more_used : RowsUsed M t after
          more_used =
              used_set M t rows i (filled row e) (rows_later M rows grown used) (row_used K M steps lawful sound s t said (ends_at rows row.left) last e made)

          more_room : Room M t (rows_nodes terms (drop (i + 1) after))
          more_room =
              subst (λ rs. Room M t (rows_nodes terms rs)) (sym back)
              (room_later M _ _ grown (omega (arith, nodes_more terms rows i inside)) room)

          last_is : e ≡ last_ends (take (i + 1) after)
          last_is = sym (ap last_ends front ∙ last_pushed (take i rows) (filled row e))

          -- what holds before the next row
          pub turned :
              ((u : S) (all : List PassiveRow) → RowsMade steps terms t (take (i + 1) after) (drop (i + 1) after) u all
              → RowsMade steps terms s (take i rows) (drop i rows) u all)
              × RowsFit K.ops (M.width t) terms (i + 1) (drop (i + 1) after)
              × RowsUsed M t after
              × Room M t (rows_nodes terms (drop (i + 1) after))
              × (e ≡ last_ends (take (i + 1) after))
          turned = (more_made, more_fit, more_used, more_room, last_is)

-- all the rows together
module _ {V : Type 0} {S : Type 0} (K : KindOf V) (M : Meaning V S) (steps : S → Making → Node → S → Type 0)
    (lawful : (s : S) → Lawful K M s)
    (sound : (s : S) (c : Making) (n : Node) (t : S) → steps s c n t → Makes K M s c n t)
  where
    pub rows_grown : {terms : List PassiveTermRow} {s t : S} {done rest all : List PassiveRow} → RowsMade steps terms s done rest t all
        → Grown M s (rows_nodes terms rest) t
    rows_grown (rows_done {s = s}) = grown_none M s
    rows_grown (rows_more {s = s} {u = u} e h k) = grown_then M (row_grown K M steps lawful sound s u _ _ _ e h) (rows_grown k)

    rows_used : {terms : List PassiveTermRow} {s t : S} {done rest all : List PassiveRow} → RowsMade steps terms s done rest t all
        → RowsUsed M s done → RowsUsed M t all
    rows_used rows_done w = w
    rows_used (rows_more {s = s} {u = u} {done = done} e h k) w =
        rows_used k (used_append M u done _ (rows_later M done (row_grown K M steps lawful sound s u _ _ _ e h) w)
        (row_used K M steps lawful sound s u _ _ _ e h, tt))

    pub last_made_used : {terms : List PassiveTermRow} {s t : S} {rest all : List PassiveRow} → RowsMade steps terms s [] rest t all
        → EndsUsed M t (last_ends all)
    last_made_used {t = t} {all = all} h = last_row_used M t (lawful t).no_used all (rows_used h tt)

-- no row is left
pub all_made : {S : Type 0} (steps : S → Making → Node → S → Type 0) (terms : List PassiveTermRow) (rows : List PassiveRow) (i : ℕ) (s : S) → length rows ≤ i
    → RowsMade steps terms s (take i rows) (drop i rows) s rows
all_made steps terms rows i s l =
    subst (λ rs. RowsMade steps terms s rs (drop i rows) s rows) (sym (take_all i rows l))
    (subst (λ rs. RowsMade steps terms s rows rs s rows) (sym (drop_all i rows l)) rows_done)
