-- What writing the parts of the command that ends at a row asks, and what it says of the whole.
use Rattle.std.proofs.Common.{◌≡◌, ℕ, ◌+◌, ◌-◌, ◌^◌, ◌<◌, ◌≤◌, List, length, Some, None, sym, ap, ◌∙◌, subst, arith}
use Rattle.kinds.specs.declared.numbered.Name.{Name}
use Rattle.routine.specs.declared.rows.TermRow.{TermRow}
use Rattle.routine.specs.declared.rows.CommandRow.{CommandRow}
use Rattle.routine.specs.declared.rows.Joint.{Joint}
use Rattle.routine.specs.Commands.{Command, single, join}
use Rattle.passive.specs.Passive.{Names, Passified, entry, joined, passify}
use Rattle.routine.specs.Standing.{joint_tag}
use Rattle.passive.specs.Layout.{joint_row, plain_row}
use Rattle.passive.specs.declared.rows.PassiveTermRow.{PassiveTermRow}
use Rattle.passive.specs.declared.rows.PassiveRow.{PassiveRow}
use Rattle.passify.specs.declared.measuring.Measured.{Measured}
use Rattle.passify.specs.declared.maps.Exits.{Exits}
use Rattle.passify.specs.declared.writing.Place.{Place}
use Rattle.passify.specs.declared.passing.Passed.{Passed}
use Rattle.passify.specs.Measuring.{sizes, stop_sizes, leaving, joined_sizes, measured, Fits, SomeSingle, Measurable, Measures}
use Rattle.passify.specs.Pieces.{Piece, one_row, form_piece, Wrote, Room}
use Rattle.passify.specs.Writing.{next_after_both, side, SingleWritable, command_piece, Writable, Written}
use Rattle.passify.proofs.Sizes.{sizes_joined, measured_is}
use Rattle.passify.proofs.RowParts.{at, joint_at, Parts, parts, alone, fit_both, right_measurable, right_is as parts_right, joined_measures}
use Rattle.passify.proofs.JoinPieces.{left_names, right_names, first_room, left_behind, left_room, middle_behind, second_room, right_behind, right_room, last_room, whole_written}

-- what the renamings of one part ask
pub record SideRoom (a b : Exits) (next : ℕ) (p : Place) (E : List PassiveRow) (T : List PassiveTermRow) : Type 0 where
  pub names : next_after_both a b next ≤ 2 ^ 16
  pub behind : 0 < p.row
  pub room : Room (side a b next p) p E T

module _ (cs : List CommandRow) (ts : List TermRow) (i k : ℕ) (s : Place) (E : List PassiveRow) (T : List PassiveTermRow) where
  pub writable_measurable : (o : Names) → Writable cs ts i o k s E T → Measurable cs ts i o k
  writable_measurable o (v, ops, c, e, f, room) = (v, ops, c, e, f)

  pub stop_written :
      (o : Names) (E' : List PassiveRow) (r : Passed) → o ≡ None
      → r.measured ≡ stop_sizes k → Wrote (one_row (plain_row 10)) s E E' T T r.end
      → Written cs ts i o k s E E' T T r
  stop_written o E' r is m w v ops c e = subst (λ x. (r.measured ≡ measured c (x) k) × Wrote (command_piece x k c s) s E E' T T r.end) (sym is) (go c)
    where
      go : (c : Command) → (r.measured ≡ measured c None k) × Wrote (command_piece None k c s) s E E' T T r.end
      go (single c) = (m, w)
      go (join j a b) = (m, w)

  -- what is known of one map holds of an equal one
  pub from_same :
      {o o' : Names} {E' : List PassiveRow} {T' : List PassiveTermRow} {r : Passed} → o ≡ o' → Written cs ts i o k s E E' T T' r → Written cs ts i o' k s E E' T T' r
  from_same {E' = E'} {T' = T'} {r = r} is w = subst (λ o. Written cs ts i o k s E E' T T' r) is w

  pub room_same : {o o' : Names} → o ≡ o' → Writable cs ts i o k s E T → Writable cs ts i o' k s E T
  room_same is w = subst (λ o. Writable cs ts i o k s E T) is w

  module _ (m : List Name) where
    -- a single command
    module _ (none : joint_at cs i ≡ None) where
      pub single_writable : Writable cs ts i (Some m) k s E T → SomeSingle ts (at cs i) (SingleWritable m k s E T)
      single_writable (v, ops, c, e, f, room) =
          let a = alone v ops cs ts i c e none in (
            v,
            ops,
            a.command,
            a.tag,
            a.fields,
            (
              subst (λ (x : Command). Fits (measured x (Some m) k)) a.is f,
              subst (λ (x : Command). Room (command_piece (Some m) k x s) s E T) a.is room,
            ),
          )

    -- two parts joined
    module _ (j : Joint) (is_joint : joint_at cs i ≡ Some j) where
      abbrev left_form : Command → Passified
      left_form a = passify a (Some m) k

      abbrev right_form : Command → Command → Passified
      right_form a b = passify b (entry j m (left_form a).normal (left_form a).raised) (left_form a).next

      abbrev whole_piece : Command → Command → Piece
      whole_piece a b = form_piece (joined j (left_form a) (right_form a b)).code s.row s.term

      whole_room : (v ops : ℕ) (c : Command) (p : Parts v ops cs ts i j c) → Room (command_piece (Some m) k c s) s E T → Room (whole_piece p.first p.second) s E T
      whole_room v ops c p room = subst (λ (x : Command). Room (command_piece (Some m) k x s) s E T) p.is room

      whole_fits : (v ops : ℕ) (c : Command) (p : Parts v ops cs ts i j c) → Fits (measured c (Some m) k) → Fits (joined_sizes j (sizes (left_form p.first)) (sizes (right_form p.first p.second)))
      whole_fits v ops c p f =
          subst Fits
          (ap (λ (x : Command). measured x (Some m) k) p.is
          ∙ (measured_is (join j p.first p.second) (Some m) k
          ∙ sym (sizes_joined j (left_form p.first) (right_form p.first p.second))))
          f

      in_tables : Writable cs ts i (Some m) k s E T → (s.row ≤ length E) × (s.term ≤ length T)
      in_tables (v, ops, c, e, f, room) = (omega (arith, room.rows_room), omega (arith, room.terms_room))

      pub left_writable : Writable cs ts i (Some m) k s E T → Writable cs ts (at cs i).left (Some m) k s E T
      left_writable (v, ops, c, e, f, room) =
          let p = parts v ops cs ts i j c e is_joint in (
            v,
            ops,
            p.first,
            p.at_left,
            (fit_both cs ts i k m j is_joint v ops c p f).0,
            first_room j (left_form p.first) (right_form p.first p.second) s E T (whole_room v ops c p room),
          )

      -- the left part is written, the right part measured
      module _ (left : Passed) (E1 : List PassiveRow) (T1 : List PassiveTermRow) (wl : Written cs ts (at cs i).left (Some m) k s E E1 T T1 left)
          (start : Names)
          (enters : start ≡ entry j m left.measured.exits.normal left.measured.exits.raised)
        where
          pub left_measures : Measures cs ts (at cs i).left (Some m) k left.measured
          left_measures v ops c e = (wl v ops c e).0

          pub right_measured : Writable cs ts i (Some m) k s E T → Measurable cs ts (i - 1) start left.measured.next
          right_measured (v, ops, c, e, f, room) = right_measurable cs ts i k m j is_joint left.measured left_measures start enters (v, ops, c, e, f)

          module _ (r : Measured) (mr : Measures cs ts (i - 1) start left.measured.next r) (out : Exits) (is_out : out ≡ leaving j left.measured.exits)
            where
              -- of the command c, whose parts are p
              module _ (v ops : ℕ) (c : Command) (p : Parts v ops cs ts i j c) where
                abbrev pa : Passified
                pa = left_form p.first

                abbrev pb : Passified
                pb = right_form p.first p.second

                left_is : left.measured ≡ sizes pa
                left_is = (wl v ops p.first p.at_left).0 ∙ measured_is p.first (Some m) k

                second_is : passify p.second start left.measured.next ≡ pb
                second_is =
                    let from = enters ∙ ap (λ (z : Measured). entry j m z.exits.normal z.exits.raised) left_is in
                    λ t. passify p.second (from t) (left_is t).next

                right_is : r ≡ sizes pb
                right_is = mr v ops p.second p.at_right ∙ (measured_is p.second start left.measured.next ∙ ap sizes second_is)

                w1 : Wrote (form_piece pa.code s.row s.term) s E E1 T T1 left.end
                w1 = (wl v ops p.first p.at_left).1

              pub left_side_room : Writable cs ts i (Some m) k s E T → SideRoom out r.exits r.next left.end E1 T1
              left_side_room w =
                  let v = w.0 in
                  let ops = w.1 in
                  let c = w.2 in
                  let p = parts v ops cs ts i j c w.3 is_joint in
                  let h = in_tables w in
                  record {
                    names = left_names j (pa v ops c p) (pb v ops c p) left.measured r (left_is v ops c p) (right_is v ops c p) out is_out (whole_fits v ops c p w.4);
                    behind =
                        left_behind j (pa v ops c p) (pb v ops c p) left.measured r (left_is v ops c p) (right_is v ops c p) out is_out s E T E1 T1 left.end
                        (w1 v ops c p) h.0 h.1;
                    room =
                        left_room j (pa v ops c p) (pb v ops c p) left.measured r (left_is v ops c p) (right_is v ops c p) out is_out s E T E1 T1 left.end
                        (w1 v ops c p) h.0 h.1 (whole_room v ops c p w.5);
                  }

              module _ (E2 : List PassiveRow) (T2 : List PassiveTermRow) (p2 : Place)
                  (u2 : Wrote (side out r.exits r.next left.end) left.end E1 E2 T1 T2 p2)
                where
                  pub right_writable : Writable cs ts i (Some m) k s E T → Writable cs ts (i - 1) start left.measured.next p2 E2 T2
                  right_writable w =
                      let v = w.0 in
                      let ops = w.1 in
                      let c = w.2 in
                      let p = parts v ops cs ts i j c w.3 is_joint in
                      let h = in_tables w in (
                        v,
                        ops,
                        p.second,
                        p.at_right,
                        subst Fits (sym (parts_right cs ts i k m j is_joint left.measured left_measures start enters v ops c p)) (fit_both cs ts i k m j is_joint v ops c p w.4).1,
                        subst (λ (x : Passified). Room (form_piece x.code p2.row p2.term) p2 E2 T2) (sym (second_is v ops c p))
                            (second_room j (pa v ops c p) (pb v ops c p) left.measured r (left_is v ops c p) (right_is v ops c p) out is_out s E T E1 T1 left.end
                            (w1 v ops c p) h.0 h.1 E2 T2 p2 u2 (whole_room v ops c p w.5)),
                      )

                  pub middle_some : Writable cs ts i (Some m) k s E T → 0 < p2.row
                  middle_some w =
                      let v = w.0 in
                      let ops = w.1 in
                      let c = w.2 in
                      let p = parts v ops cs ts i j c w.3 is_joint in
                      let h = in_tables w in
                      middle_behind j (pa v ops c p) (pb v ops c p) left.measured r (left_is v ops c p) (right_is v ops c p) out is_out s E T E1 T1 left.end
                      (w1 v ops c p) h.0 h.1 E2 T2 p2 u2

                  module _ (again : Passed) (E3 : List PassiveRow) (T3 : List PassiveTermRow) (wr : Written cs ts (i - 1) start left.measured.next p2 E2 E3 T2 T3 again) where
                    u3 : (v ops : ℕ) (c : Command) (p : Parts v ops cs ts i j c) → Wrote (form_piece (pb v ops c p).code p2.row p2.term) p2 E2 E3 T2 T3 again.end
                    u3 v ops c p =
                        subst (λ (x : Passified). Wrote (form_piece x.code p2.row p2.term) p2 E2 E3 T2 T3 again.end) (second_is v ops c p) (wr v ops p.second p.at_right).1

                    pub right_side_room : Writable cs ts i (Some m) k s E T → SideRoom r.exits out r.next again.end E3 T3
                    right_side_room w =
                        let v = w.0 in
                        let ops = w.1 in
                        let c = w.2 in
                        let p = parts v ops cs ts i j c w.3 is_joint in
                        let h = in_tables w in
                        record {
                          names = right_names j (pa v ops c p) (pb v ops c p) left.measured r (left_is v ops c p) (right_is v ops c p) out is_out (whole_fits v ops c p w.4);
                          behind =
                              right_behind j (pa v ops c p) (pb v ops c p) left.measured r (left_is v ops c p) (right_is v ops c p) out is_out s E T E1 T1 left.end
                              (w1 v ops c p) h.0 h.1 E2 T2 p2 u2 E3 T3 again.end (u3 v ops c p);
                          room =
                              right_room j (pa v ops c p) (pb v ops c p) left.measured r (left_is v ops c p) (right_is v ops c p) out is_out s E T E1 T1 left.end
                              (w1 v ops c p) h.0 h.1 E2 T2 p2 u2 E3 T3 again.end (u3 v ops c p) (whole_room v ops c p w.5);
                        }

                    module _ (E4 : List PassiveRow) (T4 : List PassiveTermRow) (p4 : Place)
                        (u4 : Wrote (side r.exits out r.next again.end) again.end E3 E4 T3 T4 p4)
                      where
                        pub row_room : Writable cs ts i (Some m) k s E T → (p4.row < length E4) × (p4.row + 1 < 2 ^ 32)
                        row_room w =
                            let v = w.0 in
                            let ops = w.1 in
                            let c = w.2 in
                            let p = parts v ops cs ts i j c w.3 is_joint in
                            let h = in_tables w in
                            let q =
                            last_room j (pa v ops c p) (pb v ops c p) left.measured r (left_is v ops c p) (right_is v ops c p) out is_out s E T E1 T1 left.end
                            (w1 v ops c p) h.0 h.1 E2 T2 p2 u2 E3 T3 again.end (u3 v ops c p) E4 T4 p4 u4 (whole_room v ops c p w.5) in
                            (omega (arith, q.rows_room), q.rows_few)

                        pub joined_written :
                            (E5 : List PassiveRow) (z : Measured) (p5 : Place) (row : PassiveRow) → Writable cs ts i (Some m) k s E T
                            → z ≡ joined_sizes j left.measured r → row ≡ joint_row (joint_tag j) (p2.row - 1) → Wrote (one_row row) p4 E4 E5 T4 T4 p5
                            → Written cs ts i (Some m) k s E E5 T T4 (record { measured = z; end = p5 })
                        joined_written E5 z p5 row w hz is u5 v ops c e =
                            let p = parts v ops cs ts i j c e is_joint in
                            let h = in_tables w in (
                              joined_measures cs ts i k m j is_joint left.measured left_measures start enters r mr z hz v ops c e,
                              subst (λ (x : Command). Wrote (command_piece (Some m) k x s) s E E5 T T4 p5) (sym p.is)
                                  (whole_written j (pa v ops c p) (pb v ops c p) left.measured r (left_is v ops c p) (right_is v ops c p) out is_out s E T E1 T1 left.end
                                  (w1 v ops c p) h.0 h.1 E2 T2 p2 u2 E3 T3 again.end (u3 v ops c p) E4 T4 p4 u4 E5 p5 row is u5),
                            )
