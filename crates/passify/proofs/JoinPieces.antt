-- A joined command in the tables: its parts, each with its renamings, and the row that joins them.
use Rattle.std.proofs.Common.{◌≡◌, ℕ, ◌+◌, ◌-◌, ◌^◌, ◌<◌, ◌≤◌, List, length, sym, refl, ap, ◌∙◌, arith}
use Rattle.routine.specs.declared.rows.Joint.{Joint}
use Rattle.routine.specs.Standing.{joint_tag}
use Rattle.passive.specs.Passive.{Passive, p_single, p_join, Merge, merge, Passified, joined}
use Rattle.passive.specs.Layout.{rows, terms, joint_row}
use Rattle.passive.specs.declared.rows.PassiveTermRow.{PassiveTermRow}
use Rattle.passive.specs.declared.rows.PassiveRow.{PassiveRow}
use Rattle.passive.proofs.Endings.{normal_merge, raised_merge}
use Rattle.passify.specs.declared.measuring.Measured.{Measured}
use Rattle.passify.specs.declared.maps.Exits.{Exits}
use Rattle.passify.specs.declared.writing.Place.{Place}
use Rattle.passify.specs.Measuring.{sizes, leaving, joined_sizes, Fits}
use Rattle.passify.specs.Pieces.{Piece, ◌then◌, one_row, form_piece, side_piece, Wrote, Room}
use Rattle.passify.specs.Writing.{renamings, next_after, side}
use Rattle.passify.proofs.Sizes.{merge_swap}
use Rattle.passify.proofs.Parts.{length_layout, length_term_rows, joined_is}
use Rattle.passify.proofs.Wrotes.{wrote_then, wrote_as, room_as, room_first, room_second}

pub some_rows : (p : Passive) → 0 < rows p
some_rows (p_single p) = omega arith
some_rows (p_join j p q) = omega arith

-- the pieces of a joined form, where its parts are a and b, in the places that follow from the first
module _ (j : Joint) (a b : Passified) where
  abbrev left_side : ℕ → ℕ → Piece
  left_side i q = side_piece (normal_merge j a b).left (raised_merge j a b).left i q

  abbrev right_side : ℕ → ℕ → Piece
  right_side i q = side_piece (normal_merge j a b).right (raised_merge j a b).right i q

  module _ (s : Place) where
    abbrev first_piece : Piece
    first_piece = form_piece a.code s.row s.term

    abbrev i1 : ℕ
    i1 = s.row + rows a.code

    abbrev j1 : ℕ
    j1 = s.term + length (terms a.code)

    abbrev i2 : ℕ
    i2 = i1 + length (left_side i1 j1).rows

    abbrev j2 : ℕ
    j2 = j1 + length (left_side i1 j1).terms

    abbrev second_piece : Piece
    second_piece = form_piece b.code i2 j2

    abbrev i3 : ℕ
    i3 = i2 + rows b.code

    abbrev j3 : ℕ
    j3 = j2 + length (terms b.code)

    abbrev last_row : Piece
    last_row = one_row (joint_row (joint_tag j) (i2 - 1))

    abbrev two : Piece
    two = first_piece then left_side i1 j1

    abbrev three : Piece
    three = two then second_piece

    abbrev four : Piece
    four = three then right_side i3 j3

    whole_is : form_piece (joined j a b).code s.row s.term ≡ four then last_row
    whole_is = joined_is j a b s.row s.term i1 j1 i2 j2 i3 j3 refl refl refl refl refl refl

    module _ (E : List PassiveRow) (T : List PassiveTermRow) where
      abbrev WholeRoom : Type 0
      WholeRoom = Room (form_piece (joined j a b).code s.row s.term) s E T

      room_four : WholeRoom → Room four s E T
      room_four room = room_first four last_row (room_as whole_is room)

      room_three : WholeRoom → Room three s E T
      room_three room = room_first three (right_side i3 j3) (room_four room)

      room_two : WholeRoom → Room two s E T
      room_two room = room_first two second_piece (room_three room)

      pub first_room : WholeRoom → Room first_piece s E T
      first_room room = room_first first_piece (left_side i1 j1) (room_two room)

-- what the code knows of two parts whose passive forms are a and b, joined by j
module _ (j : Joint) (a b : Passified) (l r : Measured) (is_l : l ≡ sizes a) (is_r : r ≡ sizes b) (out : Exits) (is_out : out ≡ leaving j l.exits) where
  out_is : out ≡ leaving j (sizes a).exits
  out_is = is_out ∙ ap (λ (s : Measured). leaving j s.exits) is_l

  n_is : merge out.normal r.exits.normal r.next ≡ normal_merge j a b
  n_is = λ t. merge (out_is t).normal (is_r t).exits.normal (is_r t).next

  x_is : merge out.raised r.exits.raised (next_after out.normal r.exits.normal r.next) ≡ raised_merge j a b
  x_is = λ t. merge (out_is t).raised (is_r t).exits.raised (n_is t).next

  -- the same two maps, from the right part
  n_swapped : (renamings r.exits.normal out.normal r.next ≡ (normal_merge j a b).right) × (next_after r.exits.normal out.normal r.next ≡ (normal_merge j a b).next)
  n_swapped =
      let s = merge_swap (out.normal) (r.exits.normal) r.next in
      (s.0 ∙ ap (λ (m : Merge). m.right) n_is, s.1 ∙ ap (λ (m : Merge). m.next) n_is)

  x_swapped :
      (renamings r.exits.raised out.raised (next_after r.exits.normal out.normal r.next) ≡ (raised_merge j a b).right)
      × (next_after r.exits.raised out.raised (next_after r.exits.normal out.normal r.next) ≡ (raised_merge j a b).next)
  x_swapped =
      let k = next_after r.exits.normal out.normal r.next in
      let s = merge_swap (out.raised) (r.exits.raised) k in
      let same : merge out.raised r.exits.raised k ≡ raised_merge j a b =
      ap (λ n. merge out.raised r.exits.raised n) (n_swapped.1 ∙ ap (λ (m : Merge). m.next) (sym n_is)) ∙ x_is in
      (s.0 ∙ ap (λ (m : Merge). m.right) same, s.1 ∙ ap (λ (m : Merge). m.next) same)

  left_side_is : (p : Place) → side out r.exits r.next p ≡ left_side j a b p.row p.term
  left_side_is p = λ t. side_piece (n_is t).left (x_is t).left p.row p.term

  right_side_is : (p : Place) → side r.exits out r.next p ≡ right_side j a b p.row p.term
  right_side_is p = λ t. side_piece (n_swapped.0 t) (x_swapped.0 t) p.row p.term

  pub left_names : Fits (joined_sizes j (sizes a) (sizes b)) → next_after out.raised r.exits.raised (next_after out.normal r.exits.normal r.next) ≤ 2 ^ 16
  left_names f = omega (arith, f.few_names, ap (λ (m : Merge). m.next) x_is)

  pub right_names : Fits (joined_sizes j (sizes a) (sizes b)) → next_after r.exits.raised out.raised (next_after r.exits.normal out.normal r.next) ≤ 2 ^ 16
  right_names f = omega (arith, f.few_names, x_swapped.1)

  -- written one behind another
  module _ (s : Place) (E : List PassiveRow) (T : List PassiveTermRow) where
    module _ (E1 : List PassiveRow) (T1 : List PassiveTermRow) (p1 : Place) (w1 : Wrote (first_piece j a b s) s E E1 T T1 p1)
        (in_rows : s.row ≤ length E) (in_terms : s.term ≤ length T)
      where
        e1 : p1.row ≡ (i1 j a b s)
        e1 = w1.row_end ∙ ap (λ n. s.row + n) (length_layout a.code s.row s.term)

        f1 : p1.term ≡ (j1 j a b s)
        f1 = w1.term_end ∙ ap (λ n. s.term + n) (length_term_rows a.code)

        pub left_behind : 0 < p1.row
        left_behind = omega (arith, e1, some_rows a.code)

        left_there : side out r.exits r.next p1 ≡ left_side j a b (i1 j a b s) (j1 j a b s)
        left_there = left_side_is p1 ∙ (λ t. left_side j a b (e1 t) (f1 t))

        pub left_room : (WholeRoom j a b s E T) → Room (side out r.exits r.next p1) p1 E1 T1
        left_room room = room_as (sym left_there) (room_second (first_piece j a b s) (left_side j a b (i1 j a b s) (j1 j a b s)) w1 ((room_two j a b s E T) room))

        module _ (E2 : List PassiveRow) (T2 : List PassiveTermRow) (p2 : Place)
            (u2 : Wrote (side out r.exits r.next p1) p1 E1 E2 T1 T2 p2)
          where
            w2 : Wrote (two j a b s) s E E2 T T2 p2
            w2 = wrote_then w1 (wrote_as left_there u2) in_rows in_terms

            e2 : p2.row ≡ (i2 j a b s)
            e2 = (wrote_as left_there u2).row_end ∙ ap (λ n. n + length (left_side j a b (i1 j a b s) (j1 j a b s)).rows) e1

            f2 : p2.term ≡ (j2 j a b s)
            f2 = (wrote_as left_there u2).term_end ∙ ap (λ n. n + length (left_side j a b (i1 j a b s) (j1 j a b s)).terms) f1

            pub middle_behind : 0 < p2.row
            middle_behind = omega (arith, e2, some_rows a.code)

            second_there : form_piece b.code p2.row p2.term ≡ (second_piece j a b s)
            second_there = λ t. form_piece b.code (e2 t) (f2 t)

            pub second_room : (WholeRoom j a b s E T) → Room (form_piece b.code p2.row p2.term) p2 E2 T2
            second_room room = room_as (sym second_there) (room_second (two j a b s) (second_piece j a b s) w2 ((room_three j a b s E T) room))

            module _ (E3 : List PassiveRow) (T3 : List PassiveTermRow) (p3 : Place) (u3 : Wrote (form_piece b.code p2.row p2.term) p2 E2 E3 T2 T3 p3) where
              w3 : Wrote (three j a b s) s E E3 T T3 p3
              w3 = wrote_then w2 (wrote_as second_there u3) in_rows in_terms

              e3 : p3.row ≡ (i3 j a b s)
              e3 = u3.row_end ∙ (λ t. e2 t + length_layout b.code p2.row p2.term t)

              f3 : p3.term ≡ (j3 j a b s)
              f3 = u3.term_end ∙ (λ t. f2 t + length_term_rows b.code t)

              pub right_behind : 0 < p3.row
              right_behind = omega (arith, e3, some_rows b.code)

              right_there : side r.exits out r.next p3 ≡ right_side j a b (i3 j a b s) (j3 j a b s)
              right_there = right_side_is p3 ∙ (λ t. right_side j a b (e3 t) (f3 t))

              pub right_room : (WholeRoom j a b s E T) → Room (side r.exits out r.next p3) p3 E3 T3
              right_room room = room_as (sym right_there) (room_second (three j a b s) (right_side j a b (i3 j a b s) (j3 j a b s)) w3 ((room_four j a b s E T) room))

              module _ (E4 : List PassiveRow) (T4 : List PassiveTermRow) (p4 : Place)
                  (u4 : Wrote (side r.exits out r.next p3) p3 E3 E4 T3 T4 p4)
                where
                  w4 : Wrote (four j a b s) s E E4 T T4 p4
                  w4 = wrote_then w3 (wrote_as right_there u4) in_rows in_terms

                  pub last_room : (WholeRoom j a b s E T) → Room (last_row j a b s) p4 E4 T4
                  last_room room = room_second (four j a b s) (last_row j a b s) w4 (room_as (whole_is j a b s) room)

                  pub whole_written :
                      (E5 : List PassiveRow) (p5 : Place) (row : PassiveRow) → row ≡ joint_row (joint_tag j) (p2.row - 1)
                      → Wrote (one_row row) p4 E4 E5 T4 T4 p5 → Wrote (form_piece (joined j a b).code s.row s.term) s E E5 T T4 p5
                  whole_written E5 p5 row is u5 =
                      wrote_as (sym (whole_is j a b s))
                      (wrote_then w4 (wrote_as (ap one_row (is ∙ ap (λ n. joint_row (joint_tag j) (n - 1)) e2)) u5) in_rows in_terms)
