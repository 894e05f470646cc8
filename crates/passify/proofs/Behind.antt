-- What tail and guard put behind a part, from the lets on.
use Rattle.std.proofs.Common.{◌≡◌, ℕ, ◌+◌, ◌-◌, ◌*◌, ◌^◌, ◌<◌, ◌≤◌, List, [], ◌∷◌, ◌++◌, length, sym, refl, ap, ◌∙◌, append_assoc, append-nil, arith}
use Rattle.passive.specs.Passive.{Renamed}
use Rattle.passify.specs.declared.maps.Exits.{Exits}
use Rattle.passive.specs.Layout.{plain_row, joint_row}
use Rattle.passive.specs.declared.rows.PassiveTermRow.{PassiveTermRow}
use Rattle.passive.specs.declared.rows.PassiveRow.{PassiveRow}
use Rattle.passify.specs.declared.writing.Place.{Place}
use Rattle.passify.specs.Pieces.{Piece, ◌then◌, one_row, old_terms, lets, tail_rows, lets_piece, tail_piece, guard_piece, Wrote, Room}
use Rattle.passify.specs.Writing.{renamings, next_after, side}
use Rattle.passify.proofs.Parts.{length_old_terms, length_lets, length_tail_rows}
use Rattle.passify.proofs.Wrotes.{wrote_then, wrote_as, room_as, room_first, room_second}

tail_split : (r : Renamed) (rs : List Renamed) (i j : ℕ) → lets_piece (r ∷ rs) i j then one_row (joint_row 6 (i - 1)) ≡ tail_piece (r ∷ rs) i j
tail_split r rs i j = λ t. record { rows = tail_rows (r ∷ rs) i j; terms = append-nil (old_terms (r ∷ rs)) t }

-- the three rows that make a guard of lets whose last row stands before e
abbrev guarded : Piece → ℕ → ℕ → Piece
guarded p i e = ((p then one_row (plain_row 5)) then one_row (joint_row 6 (e - 1))) then one_row (joint_row 8 (i - 1))

guard_split :
    (r : Renamed) (rs : List Renamed) (i j e : ℕ) → e ≡ i + length (lets (r ∷ rs) i j)
    → guarded (lets_piece (r ∷ rs) i j) i e ≡ guard_piece (r ∷ rs) i j
guard_split r rs i j e is =
    let last : e - 1 ≡ i + 2 * length rs = omega (arith, length_lets (r ∷ rs) i j) in
    let l = lets (r ∷ rs) i j in
    λ t. record {
      rows =
          (append_assoc (l ++ plain_row 5 ∷ []) (joint_row 6 (e - 1) ∷ []) (joint_row 8 (i - 1) ∷ [])
          ∙ (append_assoc l (plain_row 5 ∷ []) (joint_row 6 (e - 1) ∷ joint_row 8 (i - 1) ∷ [])
          ∙ ap (λ n. l ++ (plain_row 5 ∷ joint_row 6 n ∷ joint_row 8 (i - 1) ∷ [])) last)) t;
      terms = (append-nil ((old_terms (r ∷ rs) ++ []) ++ []) ∙ (append-nil (old_terms (r ∷ rs) ++ []) ∙ append-nil (old_terms (r ∷ rs)))) t;
    }

module _ (at : Place) (E : List PassiveRow) (T : List PassiveTermRow) where
  pub tail_lets_room : (rs : List Renamed) → Room (tail_piece rs at.row at.term) at E T → Room (lets_piece rs at.row at.term) at E T
  tail_lets_room [] r = r
  tail_lets_room (x ∷ rs) r = room_first (lets_piece (x ∷ rs) at.row at.term) (one_row (joint_row 6 (at.row - 1))) (room_as (sym (tail_split x rs at.row at.term)) r)

  pub guard_lets_room : (rs : List Renamed) → Room (guard_piece rs at.row at.term) at E T → Room (lets_piece rs at.row at.term) at E T
  guard_lets_room [] r = r
  guard_lets_room (x ∷ rs) r =
      let p = lets_piece (x ∷ rs) at.row at.term in
      let e = at.row + length p.rows in
      room_first p (one_row (plain_row 5))
      (room_first (p then one_row (plain_row 5)) (one_row (joint_row 6 (e - 1)))
      (room_first ((p then one_row (plain_row 5)) then one_row (joint_row 6 (e - 1))) (one_row (joint_row 8 (at.row - 1)))
      (room_as (sym (guard_split x rs at.row at.term e refl)) r)))

  -- the lets are written, up to e
  module _ (rs : List Renamed) (E1 : List PassiveRow) (T1 : List PassiveTermRow) (e : Place) (w : Wrote (lets_piece rs at.row at.term) at E E1 T T1 e) where
    pub none_tail : e.row ≡ at.row → Wrote (tail_piece rs at.row at.term) at E E1 T T1 e
    none_tail same = go rs w
      where
        go : (rs : List Renamed) → Wrote (lets_piece rs at.row at.term) at E E1 T T1 e → Wrote (tail_piece rs at.row at.term) at E E1 T T1 e
        go [] w = w
        go (r ∷ rs) w = absurd (omega (arith, w.row_end))

    pub none_guard : e.row ≡ at.row → Wrote (guard_piece rs at.row at.term) at E E1 T T1 e
    none_guard same = go rs w
      where
        go : (rs : List Renamed) → Wrote (lets_piece rs at.row at.term) at E E1 T T1 e → Wrote (guard_piece rs at.row at.term) at E E1 T T1 e
        go [] w = w
        go (r ∷ rs) w = absurd (omega (arith, w.row_end))

    module _ (some : e.row ≡ at.row → ⊥) where
      tail_parts : lets_piece rs at.row at.term then one_row (joint_row 6 (at.row - 1)) ≡ tail_piece rs at.row at.term
      tail_parts = go rs w
        where
          go :
              (rs : List Renamed) → Wrote (lets_piece rs at.row at.term) at E E1 T T1 e
              → lets_piece rs at.row at.term then one_row (joint_row 6 (at.row - 1)) ≡ tail_piece rs at.row at.term
          go [] w = absurd (some (omega (arith, w.row_end)))
          go (r ∷ rs) w = tail_split r rs at.row at.term

      pub tail_row_room : Room (tail_piece rs at.row at.term) at E T → Room (one_row (joint_row 6 (at.row - 1))) e E1 T1
      tail_row_room r = room_second (lets_piece rs at.row at.term) (one_row (joint_row 6 (at.row - 1))) w (room_as (sym tail_parts) r)

      pub some_tail :
          (E2 : List PassiveRow) (f : Place) → Wrote (one_row (joint_row 6 (at.row - 1))) e E1 E2 T1 T1 f → at.row ≤ length E → at.term ≤ length T
          → Wrote (tail_piece rs at.row at.term) at E E2 T T1 f
      some_tail E2 f u hr ht = wrote_as tail_parts (wrote_then w u hr ht)

      guard_parts : guarded (lets_piece rs at.row at.term) at.row e.row ≡ guard_piece rs at.row at.term
      guard_parts = go rs w
        where
          go :
              (rs : List Renamed) → Wrote (lets_piece rs at.row at.term) at E E1 T T1 e
              → guarded (lets_piece rs at.row at.term) at.row e.row ≡ guard_piece rs at.row at.term
          go [] w = absurd (some (omega (arith, w.row_end)))
          go (r ∷ rs) w = guard_split r rs at.row at.term e.row w.row_end

      -- room for the three rows of a guard
      pub guard_row_room : Room (guard_piece rs at.row at.term) at E T → (e.row + 3 ≤ length E1) × (e.row + 3 < 2 ^ 32)
      guard_row_room r =
          let p = lets_piece rs at.row at.term in
          let whole = room_as (sym guard_parts) r in
          let three = room_second p ((one_row (plain_row 5) then one_row (joint_row 6 (e.row - 1))) then one_row (joint_row 8 (at.row - 1))) w (room_as assoc whole) in
          (three.rows_room, three.rows_few)
        where
          assoc :
              guarded (lets_piece rs at.row at.term) at.row e.row
              ≡ lets_piece rs at.row at.term then ((one_row (plain_row 5) then one_row (joint_row 6 (e.row - 1))) then one_row (joint_row 8 (at.row - 1)))
          assoc = λ t. record {
            rows =
                (append_assoc (lets rs at.row at.term ++ plain_row 5 ∷ []) (joint_row 6 (e.row - 1) ∷ []) (joint_row 8 (at.row - 1) ∷ [])
                ∙ append_assoc (lets rs at.row at.term) (plain_row 5 ∷ []) (joint_row 6 (e.row - 1) ∷ joint_row 8 (at.row - 1) ∷ [])) t;
            terms = (append-nil ((old_terms rs ++ []) ++ []) ∙ append-nil (old_terms rs ++ [])) t;
          }

      pub some_guard :
          (E2 E3 E4 : List PassiveRow) (f g h : Place) → Wrote (one_row (plain_row 5)) e E1 E2 T1 T1 f
          → Wrote (one_row (joint_row 6 (e.row - 1))) f E2 E3 T1 T1 g → Wrote (one_row (joint_row 8 (at.row - 1))) g E3 E4 T1 T1 h
          → at.row ≤ length E → at.term ≤ length T → Wrote (guard_piece rs at.row at.term) at E E4 T T1 h
      some_guard E2 E3 E4 f g h u1 u2 u3 hr ht = wrote_as guard_parts (wrote_then (wrote_then (wrote_then w u1 hr ht) u2 hr ht) u3 hr ht)

-- the guard behind a tail stands where the tail ends
module _ (a b : Exits) (k : ℕ) (at : Place) (E E1 : List PassiveRow) (T T1 : List PassiveTermRow) (e : Place) (k' : ℕ)
    (w : Wrote (tail_piece (renamings a.normal b.normal k) at.row at.term) at E E1 T T1 e) (next : k' ≡ next_after a.normal b.normal k)
  where
    abbrev tail_there : Piece
    tail_there = tail_piece (renamings a.normal b.normal k) at.row at.term

    abbrev guard_there : Piece
    guard_there = guard_piece (renamings a.raised b.raised k') e.row e.term

    sides_are : tail_there then guard_there ≡ side a b k at
    sides_are =
        let i : e.row ≡ at.row + 2 * length (renamings a.normal b.normal k) = w.row_end ∙ ap (λ n. at.row + n) (length_tail_rows (renamings a.normal b.normal k) at.row at.term) in
        let j : e.term ≡ at.term + length (renamings a.normal b.normal k) = w.term_end ∙ ap (λ n. at.term + n) (length_old_terms (renamings a.normal b.normal k)) in
        λ t. tail_there then guard_piece (renamings a.raised b.raised (next t)) (i t) (j t)

    pub guard_room : Room (side a b k at) at E T → Room guard_there e E1 T1
    guard_room r = room_second tail_there guard_there w (room_as (sym sides_are) r)

    pub side_written :
        (E2 : List PassiveRow) (T2 : List PassiveTermRow) (f : Place) → Wrote guard_there e E1 E2 T1 T2 f → at.row ≤ length E → at.term ≤ length T
        → Wrote (side a b k at) at E E2 T T2 f
    side_written E2 T2 f u hr ht = wrote_as sides_are (wrote_then w u hr ht)
