-- What stands where: a form with renamings at its ends is its own piece and then theirs, and so is a joined form with its parts.
use Rattle.std.proofs.Common.{◌≡◌, ℕ, ◌+◌, ◌-◌, ◌*◌, List, [], ◌∷◌, ◌++◌, map, length, sym, refl, ap, ◌∙◌, append_assoc, append-nil, arith, length-append}
use mathlib.Core.List.{map-append}
use lib.ListN.{length-map}
use Rattle.routine.specs.declared.rows.Item.TheVariants.{Reference}
use Rattle.routine.specs.declared.rows.Joint.{Joint}
use Rattle.routine.specs.declared.rows.Joint.TheVariants.{Sequence}
use Rattle.routine.specs.Standing.{joint_tag}
use Rattle.passive.specs.Passive.{Passive, p_single, p_join, Renamed, let_of, then_lets, tail, guard, Passified, joined}
use Rattle.passive.specs.Rows.{term_row}
use Rattle.passive.specs.Layout.{terms, term_rows, rows, plain_row, joint_row, layout}
use Rattle.passive.proofs.Endings.{normal_merge, raised_merge}
use Rattle.passify.specs.Measuring.{guard_rows}
use Rattle.passify.specs.Pieces.{Piece, ◌then◌, one_row, form_piece, old_terms, let_row, more_lets, lets, tail_rows, guard_piece_rows, tail_piece, guard_piece, side_piece}
use Rattle.passify.proofs.Sizes.{lets_add, tail_adds, guard_rows_more, part_adds}

-- how long each piece is

pub length_layout : (p : Passive) (i j : ℕ) → length (layout p i j) ≡ rows p
length_layout (p_single p) i j = refl
length_layout (p_join o p q) i j =
    let l = layout q (i + rows p) (j + length (terms p)) in
    length-append (layout p i j) (l ++ (joint_row (joint_tag o) (i + rows p - 1) ∷ []))
    ∙ omega (
      arith,
      length-append l (joint_row (joint_tag o) (i + rows p - 1) ∷ []),
      length_layout p i j,
      length_layout q (i + rows p) (j + length (terms p)),
    )

pub length_term_rows : (p : Passive) → length (term_rows p) ≡ length (terms p)
length_term_rows p = length-map (terms p) term_row

pub length_old_terms : (rs : List Renamed) → length (old_terms rs) ≡ length rs
length_old_terms rs = length-map rs (λ r. term_row (Reference r.old))

pub length_more_lets : (rs : List Renamed) (i j : ℕ) → length (more_lets rs i j) ≡ 2 * length rs
length_more_lets [] i j = refl
length_more_lets (r ∷ rs) i j = omega (arith, length_more_lets rs (i + 2) (j + 1))

pub length_lets : (rs : List Renamed) (i j : ℕ) → length (lets rs i j) ≡ 2 * length rs - 1
length_lets [] i j = refl
length_lets (r ∷ rs) i j = omega (arith, length_more_lets rs (i + 1) (j + 1))

pub length_tail_rows : (rs : List Renamed) (i j : ℕ) → length (tail_rows rs i j) ≡ 2 * length rs
length_tail_rows [] i j = refl
length_tail_rows (r ∷ rs) i j = length-append (lets (r ∷ rs) i j) _ ∙ omega (arith, length_lets (r ∷ rs) i j)

pub length_guard_rows : (rs : List Renamed) (i j : ℕ) → length (guard_piece_rows rs i j) ≡ guard_rows (length rs)
length_guard_rows [] i j = refl
length_guard_rows (r ∷ rs) i j =
    length-append (lets (r ∷ rs) i j) _ ∙ omega (arith, length_lets (r ∷ rs) i j, guard_rows_more (length rs))

pub length_side_rows : (n x : List Renamed) (i j : ℕ) → length (side_piece n x i j).rows ≡ 2 * length n + guard_rows (length x)
length_side_rows n x i j =
    length-append (tail_rows n i j) _
    ∙ omega (arith, length_tail_rows n i j, length_guard_rows x (i + 2 * length n) (j + length n))

pub length_side_terms : (n x : List Renamed) (i j : ℕ) → length (side_piece n x i j).terms ≡ length n + length x
length_side_terms n x i j = length-append (old_terms n) (old_terms x) ∙ omega (arith, length_old_terms n, length_old_terms x)

-- the rows of a form with renamings

pub then_lets_rows : (p : Passive) (rs : List Renamed) (i j : ℕ)
    → layout (then_lets p rs) i j ≡ layout p i j ++ more_lets rs (i + rows p) (j + length (terms p))
then_lets_rows p [] i j = sym (append-nil (layout p i j))
then_lets_rows p (r ∷ rs) i j =
    let i1 = i + rows p in
    let j1 = j + length (terms p) in
    let a : i + (rows p + 1 + 1) ≡ i1 + 2 = omega arith in
    let b : j + length (terms p ++ (Reference r.old ∷ [])) ≡ j1 + 1 = omega (arith, length-append (terms p) (Reference r.old ∷ [])) in
    then_lets_rows (p_join Sequence p (let_of r)) rs i j
    ∙ append_assoc (layout p i j) (let_row r j1 ∷ joint_row 6 (i1 - 1) ∷ []) _
    ∙ (λ t. layout p i j ++ (let_row r j1 ∷ joint_row 6 (i1 - 1) ∷ more_lets rs (a t) (b t)))

tail_rows_are : (p : Passive) (rs : List Renamed) (i j : ℕ)
    → layout (tail p rs) i j ≡ layout p i j ++ tail_rows rs (i + rows p) (j + length (terms p))
tail_rows_are p [] i j = sym (append-nil (layout p i j))
tail_rows_are p (r ∷ rs) i j =
    ap (λ l. layout p i j ++ (l ++ (joint_row 6 (i + rows p - 1) ∷ []))) (then_lets_rows (let_of r) rs (i + rows p) (j + length (terms p)))

guard_rows_are : (p : Passive) (rs : List Renamed) (i j : ℕ)
    → layout (guard p rs) i j ≡ layout p i j ++ guard_piece_rows rs (i + rows p) (j + length (terms p))
guard_rows_are p [] i j = sym (append-nil (layout p i j))
guard_rows_are p (r ∷ rs) i j =
    let i1 = i + rows p in
    let j1 = j + length (terms p) in
    let ls = then_lets (let_of r) rs in
    let last = joint_row 8 (i1 - 1) ∷ [] in
    let n : i1 + rows ls - 1 ≡ i1 + 2 * length rs = omega (arith, (lets_add (let_of r) rs).rows_more) in
    ap (λ l. layout p i j ++ l) (append_assoc (layout ls i1 j1) (plain_row 5 ∷ joint_row 6 (i1 + rows ls - 1) ∷ []) last)
    ∙ (λ t. layout p i j ++ (then_lets_rows (let_of r) rs i1 j1 t ++ (plain_row 5 ∷ joint_row 6 (n t) ∷ last)))

-- and its terms

term_rows_join : (o : Joint) (p q : Passive) → term_rows (p_join o p q) ≡ term_rows p ++ term_rows q
term_rows_join o p q = map-append term_row (terms p) (terms q)

then_lets_terms : (p : Passive) (rs : List Renamed) → term_rows (then_lets p rs) ≡ term_rows p ++ old_terms rs
then_lets_terms p [] = sym (append-nil (term_rows p))
then_lets_terms p (r ∷ rs) =
    then_lets_terms (p_join Sequence p (let_of r)) rs
    ∙ ap (λ l. l ++ old_terms rs) (term_rows_join Sequence p (let_of r))
    ∙ append_assoc (term_rows p) (term_rows (let_of r)) (old_terms rs)

tail_terms_are : (p : Passive) (rs : List Renamed) → term_rows (tail p rs) ≡ term_rows p ++ old_terms rs
tail_terms_are p [] = sym (append-nil (term_rows p))
tail_terms_are p (r ∷ rs) =
    term_rows_join Sequence p (then_lets (let_of r) rs) ∙ ap (λ l. term_rows p ++ l) (then_lets_terms (let_of r) rs)

guard_terms_are : (p : Passive) (rs : List Renamed) → term_rows (guard p rs) ≡ term_rows p ++ old_terms rs
guard_terms_are p [] = sym (append-nil (term_rows p))
guard_terms_are p (r ∷ rs) =
    let ts = terms (then_lets (let_of r) rs) in
    map-append term_row (terms p) (ts ++ [])
    ∙ ap (λ l. term_rows p ++ l) (ap (map term_row) (append-nil ts) ∙ then_lets_terms (let_of r) rs)

-- both in one

piece : (a b : Piece) → a.rows ≡ b.rows → a.terms ≡ b.terms → a ≡ b
piece a b e f = λ t. record { rows = e t; terms = f t }

pub then_assoc : (a b c : Piece) → (a then b) then c ≡ a then (b then c)
then_assoc a b c = piece _ _ (append_assoc a.rows b.rows c.rows) (append_assoc a.terms b.terms c.terms)

pub tail_is : (p : Passive) (rs : List Renamed) (i j : ℕ)
    → form_piece (tail p rs) i j ≡ form_piece p i j then tail_piece rs (i + rows p) (j + length (terms p))
tail_is p rs i j = piece _ _ (tail_rows_are p rs i j) (tail_terms_are p rs)

pub guard_is : (p : Passive) (rs : List Renamed) (i j : ℕ)
    → form_piece (guard p rs) i j ≡ form_piece p i j then guard_piece rs (i + rows p) (j + length (terms p))
guard_is p rs i j = piece _ _ (guard_rows_are p rs i j) (guard_terms_are p rs)

pub part_is : (p : Passive) (n x : List Renamed) (i j : ℕ)
    → form_piece (guard (tail p n) x) i j ≡ form_piece p i j then side_piece n x (i + rows p) (j + length (terms p))
part_is p n x i j =
    let i1 = i + rows p in
    let j1 = j + length (terms p) in
    let h = tail_adds p n in
    let a : i + rows (tail p n) ≡ i1 + 2 * length n = omega (arith, h.rows_more) in
    let b : j + length (terms (tail p n)) ≡ j1 + length n = omega (arith, h.terms_more) in
    guard_is (tail p n) x i j
    ∙ (λ t. tail_is p n i j t then guard_piece x (a t) (b t))
    ∙ then_assoc (form_piece p i j) (tail_piece n i1 j1) (guard_piece x (i1 + 2 * length n) (j1 + length n))

join_is : (o : Joint) (p q : Passive) (i j i1 j1 : ℕ) → i1 ≡ i + rows p → j1 ≡ j + length (terms p)
    → form_piece (p_join o p q) i j ≡ (form_piece p i j then form_piece q i1 j1) then one_row (joint_row (joint_tag o) (i1 - 1))
join_is o p q i j i1 j1 e f =
    piece _ _
    ((λ t. layout p i j ++ (layout q (sym e t) (sym f t) ++ (joint_row (joint_tag o) (sym e t - 1) ∷ [])))
    ∙ sym (append_assoc (layout p i j) (layout q i1 j1) _))
    (term_rows_join o p q ∙ sym (append-nil (term_rows p ++ term_rows q)))

module _ (o : Joint) (p q : Passive) (n x n' x' : List Renamed) (i j i1 j1 i2 j2 i3 j3 : ℕ) where
  -- two parts with their renamings joined, in the places that the code computes
  parts_are : i1 ≡ i + rows p → j1 ≡ j + length (terms p)
      → i2 ≡ i1 + length (side_piece n x i1 j1).rows → j2 ≡ j1 + length (side_piece n x i1 j1).terms
      → i3 ≡ i2 + rows q → j3 ≡ j2 + length (terms q)
      → form_piece (p_join o (guard (tail p n) x) (guard (tail q n') x')) i j
      ≡ (((form_piece p i j then side_piece n x i1 j1) then form_piece q i2 j2) then side_piece n' x' i3 j3)
      then one_row (joint_row (joint_tag o) (i2 - 1))
  parts_are e1 f1 e2 f2 e3 f3 =
      let h = part_adds p n x in
      let last = one_row (joint_row (joint_tag o) (i2 - 1)) in
      let first = form_piece p i j then side_piece n x i1 j1 in
      join_is o (guard (tail p n) x) (guard (tail q n') x') i j i2 j2
      (omega (arith, h.rows_more, length_side_rows n x i1 j1)) (omega (arith, h.terms_more, length_side_terms n x i1 j1))
      ∙ (λ t. (part_is p n x i j t then part_is q n' x' i2 j2 t) then last)
      ∙ (λ t. ((form_piece p i j then side_piece n x (sym e1 t) (sym f1 t))
      then (form_piece q i2 j2 then side_piece n' x' (sym e3 t) (sym f3 t))) then last)
      ∙ ap (λ (z : Piece). z then last) (sym (then_assoc first (form_piece q i2 j2) (side_piece n' x' i3 j3)))

pub joined_is : (o : Joint) (a b : Passified) (i j i1 j1 i2 j2 i3 j3 : ℕ) →
    let n = normal_merge o a b in let x = raised_merge o a b in
    i1 ≡ i + rows a.code → j1 ≡ j + length (terms a.code)
    → i2 ≡ i1 + length (side_piece n.left x.left i1 j1).rows → j2 ≡ j1 + length (side_piece n.left x.left i1 j1).terms
    → i3 ≡ i2 + rows b.code → j3 ≡ j2 + length (terms b.code)
    → form_piece (joined o a b).code i j
    ≡ (((form_piece a.code i j then side_piece n.left x.left i1 j1) then form_piece b.code i2 j2)
    then side_piece n.right x.right i3 j3)
    then one_row (joint_row (joint_tag o) (i2 - 1))
joined_is o a b i j i1 j1 i2 j2 i3 j3 =
    let n = normal_merge o a b in let x = raised_merge o a b in
    parts_are o a.code b.code n.left x.left n.right x.right i j i1 j1 i2 j2 i3 j3
