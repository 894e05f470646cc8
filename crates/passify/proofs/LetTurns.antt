-- The loop that writes the lets of a renaming, turn by turn.
use Rattle.std.proofs.Common.{◌≡◌, ℕ, ◌+◌, ◌-◌, ◌<◌, ◌≤◌, min, Bool, true, false, cond, eqb, List, [], ◌∷◌, length, sym, refl, ap, ◌∙◌, append-nil, arith}
use Rattle.std.proofs.lemmas.Bool.{eq-eqb, ne_eqb, eqb-true, eqb-false}
use Rattle.kinds.specs.declared.numbered.Name.{Name}
use Rattle.passive.specs.Passive.{name, Merged, Renamed}
use Rattle.passive.specs.Layout.{joint_row}
use Rattle.passive.specs.declared.rows.PassiveTermRow.{PassiveTermRow}
use Rattle.passive.specs.declared.rows.PassiveRow.{PassiveRow}
use Rattle.passify.specs.declared.writing.Place.{Place}
use Rattle.passify.specs.Pieces.{Piece, ◌then◌, one_row, old_terms, let_piece, more_lets, next_let, lets_piece, Wrote, Room}
use Rattle.passify.proofs.Parts.{then_assoc}
use Rattle.passify.proofs.Wrotes.{wrote_none, wrote_then, wrote_as, room_as, room_first, room_second}
use Rattle.passify.proofs.MergeTurns.{at, rest, all, rest_same, rest_apart, rest_none, rest_up}

abbrev nothing : Piece
nothing = record { rows = []; terms = [] }

abbrev more_piece : List Renamed → Place → Piece
more_piece rs p = record { rows = more_lets rs p.row p.term; terms = old_terms rs }

-- what is left to write at p, where the first let stands at s
abbrev left_to_write : Place → Place → List Renamed → Piece
left_to_write s p rs = cond (eqb p.row s.row) (lets_piece rs p.row p.term) (more_piece rs p)

none_left : (s p : Place) → left_to_write s p [] ≡ nothing
none_left s p = go (eqb p.row s.row)
  where
    go : (b : Bool) → cond b (lets_piece [] p.row p.term) (more_piece [] p) ≡ nothing
    go true = refl
    go false = refl

-- one let, then the rest behind it
one_let :
    (s p q : Place) (r : Renamed) (rs : List Renamed) → s.row ≤ p.row → q.row ≡ p.row + length (next_let s r p).rows
    → q.term ≡ p.term + length (next_let s r p).terms → left_to_write s p (r ∷ rs) ≡ next_let s r p then left_to_write s q rs
one_let s p q r rs h er et = go (eqb p.row s.row) refl er et
  where
    rest_more : (i j : ℕ) → q.row ≡ i → q.term ≡ j → (i ≡ s.row → ⊥) → left_to_write s q rs ≡ record { rows = more_lets rs i j; terms = old_terms rs }
    rest_more i j ei ej ne =
        ap (λ b. cond b (lets_piece rs q.row q.term) (more_piece rs q)) (ap (λ n. eqb n s.row) ei ∙ ne_eqb i s.row ne)
        ∙ (λ t. record { rows = more_lets rs (ei t) (ej t); terms = old_terms rs })

    go :
        (b : Bool) → eqb p.row s.row ≡ b
        → q.row ≡ p.row + length (cond b (let_piece r p.term) (let_piece r p.term then one_row (joint_row 6 (p.row - 1)))).rows
        → q.term ≡ p.term + length (cond b (let_piece r p.term) (let_piece r p.term then one_row (joint_row 6 (p.row - 1)))).terms
        → cond b (lets_piece (r ∷ rs) p.row p.term) (more_piece (r ∷ rs) p)
        ≡ cond b (let_piece r p.term) (let_piece r p.term then one_row (joint_row 6 (p.row - 1))) then left_to_write s q rs
    go true e ei ej =
        let same = eqb-true p.row s.row e in
        ap (λ x. let_piece r p.term then x) (sym (rest_more (p.row + 1) (p.term + 1) ei ej (λ f. omega arith)))
    go false e ei ej =
        let apart = eqb-false p.row s.row e in
        ap (λ x. (let_piece r p.term then one_row (joint_row 6 (p.row - 1))) then x)
        (sym (rest_more (p.row + 2) (p.term + 1) ei ej (λ f. apart (omega arith))))

module _ (ks bs : List Name) (next : ℕ) (s : Place) (E : List PassiveRow) (T : List PassiveTermRow) where
  abbrev whole : Piece
  whole = lets_piece (all ks bs next).left s.row s.term

  -- the lets of the variables below i are written, up to p
  pub record Sofar (k i : ℕ) (p : Place) (out : List PassiveRow) (outt : List PassiveTermRow) : Type 0 where
    pub done : Piece
    pub wrote : Wrote done s E out T outt p
    pub split : done then left_to_write s p (rest ks bs i k).left ≡ whole
    pub names : (rest ks bs i k).next ≡ (all ks bs next).next

  pub begun : Sofar next 0 s E T
  begun = record {
    done = nothing;
    wrote = wrote_none s E T;
    split = ap (λ b. cond b whole (more_piece (all ks bs next).left s)) (eq-eqb s.row s.row refl);
    names = refl;
  }

  module _ (k i : ℕ) (p : Place) (out : List PassiveRow) (outt : List PassiveTermRow) (hk : i < length ks) (hb : i < length bs) (so : Sofar k i p out outt) where
    pub same : (at ks i).0 ≡ (at bs i).0 → Sofar k (i + 1) p out outt
    same e =
        let now = rest_same ks bs i k hk hb e in
        record {
          done = so.done;
          wrote = so.wrote;
          split = ap (λ (m : Merged). so.done then left_to_write s p m.left) (sym now) ∙ so.split;
          names = ap (λ (m : Merged). m.next) (sym now) ∙ so.names;
        }

    pub behind : s.row ≤ p.row
    behind = omega (arith, so.wrote.row_end)

    module _ (e : (at ks i).0 ≡ (at bs i).0 → ⊥) where
      abbrev this : Renamed
      this = record { new = name k; old = at ks i }

      abbrev later : List Renamed
      later = (rest ks bs (i + 1) (k + 1)).left

      pub names_room : k < (all ks bs next).next
      names_room = omega (arith, rest_up ks bs (i + 1) (k + 1), ap (λ (m : Merged). m.next) (rest_apart ks bs i k hk hb e), so.names)

      -- q is the place behind this let
      module _ (q : Place) (er : q.row ≡ p.row + length (next_let s this p).rows) (et : q.term ≡ p.term + length (next_let s this p).terms) where
        cut : so.done then (next_let s this p then left_to_write s q later) ≡ whole
        cut =
            ap (λ x. so.done then x) (sym (one_let s p q this later behind er et))
            ∙ (ap (λ (m : Merged). so.done then left_to_write s p m.left) (sym (rest_apart ks bs i k hk hb e)) ∙ so.split)

      pub let_room : Room whole s E T → Room (next_let s this p) p out outt
      let_room room =
          let q : Place = record { row = p.row + length (next_let s this p).rows; term = p.term + length (next_let s this p).terms } in
          room_first (next_let s this p) (left_to_write s q later)
          (room_second so.done (next_let s this p then left_to_write s q later) so.wrote (room_as (sym (cut q refl refl)) room))

      pub apart :
          (q : Place) (out' : List PassiveRow) (outt' : List PassiveTermRow) → s.row ≤ length E → s.term ≤ length T
          → Wrote (next_let s this p) p out out' outt outt' q → Sofar (k + 1) (i + 1) q out' outt'
      apart q out' outt' hr ht w = record {
        done = so.done then next_let s this p;
        wrote = wrote_then so.wrote w hr ht;
        split = then_assoc so.done (next_let s this p) (left_to_write s q later) ∙ cut q w.row_end w.term_end;
        names = ap (λ (m : Merged). m.next) (sym (rest_apart ks bs i k hk hb e)) ∙ so.names;
      }

  pub written : (k i : ℕ) (p : Place) (out : List PassiveRow) (outt : List PassiveTermRow) → i ≡ min (length ks) (length bs) → Sofar k i p out outt → Wrote whole s E out T outt p
  written k i p out outt h so = wrote_as (sym nothing_more ∙ (sym all_done ∙ so.split)) so.wrote
    where
      nothing_more : so.done then nothing ≡ so.done
      nothing_more = λ t. record { rows = append-nil so.done.rows t; terms = append-nil so.done.terms t }

      all_done : so.done then left_to_write s p (rest ks bs i k).left ≡ so.done then nothing
      all_done = ap (λ x. so.done then x) (ap (λ (m : Merged). left_to_write s p m.left) (rest_none ks bs i k h) ∙ none_left s p)

  pub named : (k i : ℕ) (p : Place) (out : List PassiveRow) (outt : List PassiveTermRow) → i ≡ min (length ks) (length bs) → Sofar k i p out outt → k ≡ (all ks bs next).next
  named k i p out outt h so = ap (λ (m : Merged). m.next) (sym (rest_none ks bs i k h)) ∙ so.names
