-- Pieces written one behind another are one piece, and where there is room for that one there is room for each.
use Rattle.std.proofs.Common.{◌≡◌, ◌+◌, ◌<◌, ◌≤◌, List, [], length, set, sym, refl, ap, ◌∙◌, subst, add-zero, arith, length-append}
use Rattle.passive.specs.declared.rows.PassiveTermRow.{PassiveTermRow}
use Rattle.passive.specs.declared.rows.PassiveRow.{PassiveRow}
use Rattle.passify.specs.declared.writing.Place.{Place}
use Rattle.passify.specs.Pieces.{Piece, ◌then◌, one_row, Wrote, Room}
use Rattle.passify.proofs.Putting.{put_nil, length_put, then_put, set_put}

pub wrote_none : (at : Place) (E : List PassiveRow) (T : List PassiveTermRow) → Wrote (record { rows = []; terms = [] }) at E E T T at
wrote_none at E T = record {
  rows_in = sym (put_nil E at.row);
  terms_in = sym (put_nil T at.term);
  row_end = sym (add-zero at.row);
  term_end = sym (add-zero at.term);
}

pub wrote_row : (r : PassiveRow) (at : Place) (E : List PassiveRow) (T : List PassiveTermRow) → at.row < length E
    → Wrote (one_row r) at E (set E at.row r) T T (record { row = at.row + 1; term = at.term })
wrote_row r at E T h = record {
  rows_in = set_put E at.row r h;
  terms_in = sym (put_nil T at.term);
  row_end = refl;
  term_end = sym (add-zero at.term);
}

pub wrote_then : {A B : Piece} {at m end : Place} {E E1 E2 : List PassiveRow} {T T1 T2 : List PassiveTermRow}
    → Wrote A at E E1 T T1 m → Wrote B m E1 E2 T1 T2 end → at.row ≤ length E → at.term ≤ length T → Wrote (A then B) at E E2 T T2 end
wrote_then {A} {B} {at} {m} {end} {E} {E1} {E2} {T} {T1} {T2} a b h g = record {
  rows_in = then_put E E1 E2 at.row m.row A.rows B.rows h a.rows_in a.row_end b.rows_in;
  terms_in = then_put T T1 T2 at.term m.term A.terms B.terms g a.terms_in a.term_end b.terms_in;
  row_end = omega (arith, a.row_end, b.row_end, length-append A.rows B.rows);
  term_end = omega (arith, a.term_end, b.term_end, length-append A.terms B.terms);
}

pub wrote_long : {p : Piece} {at end : Place} {E E' : List PassiveRow} {T T' : List PassiveTermRow}
    → Wrote p at E E' T T' end → Room p at E T → (length E' ≡ length E) × (length T' ≡ length T)
wrote_long {p} {at} {end} {E} {E'} {T} {T'} w r = (
  ap length w.rows_in ∙ length_put E at.row p.rows r.rows_room,
  ap length w.terms_in ∙ length_put T at.term p.terms r.terms_room,
)

pub room_first : (A B : Piece) {at : Place} {E : List PassiveRow} {T : List PassiveTermRow} → Room (A then B) at E T → Room A at E T
room_first A B r =
    let n = length-append A.rows B.rows in
    let m = length-append A.terms B.terms in
    record {
      rows_room = omega (arith, n, r.rows_room);
      terms_room = omega (arith, m, r.terms_room);
      rows_few = omega (arith, n, r.rows_few);
      terms_few = omega (arith, m, r.terms_few);
    }

pub room_second : (A B : Piece) {at m : Place} {E E1 : List PassiveRow} {T T1 : List PassiveTermRow}
    → Wrote A at E E1 T T1 m → Room (A then B) at E T → Room B m E1 T1
room_second A B w r =
    let n = length-append A.rows B.rows in
    let k = length-append A.terms B.terms in
    let l = wrote_long w (room_first A B r) in
    record {
      rows_room = omega (arith, n, w.row_end, r.rows_room, l.0);
      terms_room = omega (arith, k, w.term_end, r.terms_room, l.1);
      rows_few = omega (arith, n, w.row_end, r.rows_few);
      terms_few = omega (arith, k, w.term_end, r.terms_few);
    }

pub wrote_as : {p q : Piece} {at end : Place} {E E' : List PassiveRow} {T T' : List PassiveTermRow}
    → p ≡ q → Wrote p at E E' T T' end → Wrote q at E E' T T' end
wrote_as {at = at} {end = end} {E = E} {E' = E'} {T = T} {T' = T'} e w = subst (λ (p : Piece). Wrote p at E E' T T' end) e w

pub room_as : {p q : Piece} {at : Place} {E : List PassiveRow} {T : List PassiveTermRow} → p ≡ q → Room p at E T → Room q at E T
room_as {at = at} {E = E} {T = T} e r = subst (λ (p : Piece). Room p at E T) e r
