-- The nodes of a whole passive form say its outcomes, and its condition says that it does not end wrong.
use Rattle.std.proofs.Common.{◌≡◌, ℕ, ◌+◌, ◌-◌, List, [], ◌∷◌, ◌++◌, length, sym, refl, ap, ◌∙◌, subst, append_assoc, append-nil, arith, length-append}
use Rattle.std.proofs.lemmas.List.{get_or_at}
use Rattle.kinds.specs.Kind.{KindOf}
use Rattle.kinds.specs.declared.numbered.Node.{Node}
use Rattle.routine.specs.declared.rows.Joint.{Joint}
use Rattle.routine.specs.Standing.{joint_tag}
use Rattle.passive.specs.Passive.{PassiveSingle, Passive, p_single, p_join}
use Rattle.passive.specs.Outcomes.{Assignment, Outcomes, outcomes, nodes}
use Rattle.passive.specs.Layout.{terms, term_rows, rows, plain_row, joint_row, single_row, layout}
use Rattle.passive.specs.declared.rows.PassiveTermRow.{PassiveTermRow}
use Rattle.passive.specs.declared.rows.PassiveRow.{PassiveRow}
use Rattle.formula.specs.declared.stores.Making.{Making}
use Rattle.formula.specs.declared.stores.Making.TheVariants as making
use Rattle.formula.specs.Store.{Meaning, Lawful, Grown, Makes}
use Rattle.conditions.specs.Reading.{items, part, alone, joins, reading}
use Rattle.conditions.specs.Made.{Ends, row_ends, filled, ends_at, last_ends, SingleMade, JointMade, RowMade, RowsMade, rows_done, rows_more, ConditionMade}
use Rattle.conditions.specs.Valued.{all_outcomes, Says, RowsSay, EndsUsed, RowsUsed, ConditionValued}
use Rattle.conditions.proofs.Frames.{grown_then, ends_later, rows_later, used_append}
use Rattle.conditions.proofs.RowLaws.{known_not, ends_known, says_later, made, row_grown, row_used, single_says, joint_says}
use Rattle.conditions.proofs.RowTurns.{last_pushed}
use Rattle.conditions.proofs.Standings.{Stand, stand_whole, stand_left, stand_right, single_reading, joint_reading}

-- the nodes in a row that others follow
row_within : (a b c : List PassiveRow) (r : PassiveRow) (n : ℕ) → length a + length b ≡ n → ends_at ((a ++ (b ++ (r ∷ []))) ++ c) n ≡ row_ends r
row_within a b c r n e =
    ap (λ l. ends_at l n) (append_assoc a (b ++ (r ∷ [])) c ∙ ap (λ l. a ++ l) (append_assoc b (r ∷ []) c) ∙ sym (append_assoc a b (r ∷ c)))
    ∙ ap row_ends (get_or_at (a ++ b) r c (plain_row 0) n (length-append a b ∙ e))

last_within : (a b : List PassiveRow) (r : PassiveRow) → last_ends (a ++ (b ++ (r ∷ []))) ≡ row_ends r
last_within a b r = ap last_ends (sym (append_assoc a b (r ∷ []))) ∙ last_pushed (a ++ b) r

module _ {V : Type 0} {S : Type 0} (K : KindOf V) (M : Meaning V S) where
  say_append : (s : S) (a : Assignment V) (xs ys : List PassiveRow) (os ps : List Outcomes) → RowsSay K M s a xs os → RowsSay K M s a ys ps
      → RowsSay K M s a (xs ++ ys) (os ++ ps)
  say_append s a [] ys [] ps h g = g
  say_append s a [] ys (o ∷ os) ps h g = absurd h
  say_append s a (x ∷ xs) ys [] ps h g = absurd h
  say_append s a (x ∷ xs) ys (o ∷ os) ps h g = (h.0, say_append s a xs ys os ps h.1 g)

  say_later : {s t : S} {k : ℕ} (a : Assignment V) (xs : List PassiveRow) (os : List Outcomes) → Grown M s k t → M.covers s a → RowsUsed M s xs
      → RowsSay K M s a xs os → RowsSay K M t a xs os
  say_later a [] [] g cov u h = tt
  say_later a [] (o ∷ os) g cov u h = absurd h
  say_later a (x ∷ xs) [] g cov u h = absurd h
  say_later a (x ∷ xs) (o ∷ os) g cov u h = (says_later K M a g cov u.0 h.0, say_later a xs os g cov u.1 h.1)

used_last : {V : Type 0} {S : Type 0} (M : Meaning V S) (s : S) (rows : List PassiveRow) (r : PassiveRow) → RowsUsed M s (rows ++ (r ∷ [])) → EndsUsed M s (row_ends r)
used_last M s [] r u = u.0
used_last M s (x ∷ rows) r u = used_last M s rows r u.1

module _ {V : Type 0} {S : Type 0} (K : KindOf V) (M : Meaning V S) (steps : S → Making → Node → S → Type 0)
    (lawful : (s : S) → Lawful K M s)
    (sound : (s : S) (c : Making) (n : Node) (t : S) → steps s c n t → Makes K M s c n t)
  where
    module _ (table : List PassiveTermRow) where
      -- the nodes of p were made first, and those of the rest after them
      pub record FormMade (p : Passive) (s : S) (done rest : List PassiveRow) (t : S) (all : List PassiveRow) : Type 0 where
        pub between : S
        pub front : List PassiveRow
        pub last : PassiveRow
        pub many : length front + 1 ≡ rows p
        pub grown : Grown M s (nodes p) between
        pub used : RowsUsed M between (front ++ (last ∷ []))
        pub rows_say : (a : Assignment V) → M.covers s a → RowsSay K M between a (front ++ (last ∷ [])) (all_outcomes K a p)
        pub says : (a : Assignment V) → M.covers s a → Says K M between a (row_ends last) (outcomes K a p)
        pub left : RowsMade steps table between (done ++ (front ++ (last ∷ []))) rest t all

      -- the nodes of the next row
      record NextMade (r : PassiveRow) (s : S) (done rest : List PassiveRow) (t : S) (all : List PassiveRow) : Type 0 where
        between : S
        nodes : Ends
        here : RowMade steps s (reading r (items (part table r))) (ends_at done r.left) (last_ends done) between nodes
        left : RowsMade steps table between (done ++ (filled r nodes ∷ [])) rest t all

      next_made : {r : PassiveRow} {s t : S} {done rest all : List PassiveRow} → RowsMade steps table s done (r ∷ rest) t all → NextMade r s done rest t all
      next_made (rows_more {u = u} e h k) = record { between = u; nodes = e; here = h; left = k }

      single_form : (p : PassiveSingle) (j : ℕ) (s t : S) (done rest all : List PassiveRow) → Stand table j (p_single p)
          → NextMade (single_row p j) s done rest t all → FormMade (p_single p) s done rest t all
      single_form p j s t done rest all stand n =
          let made : SingleMade steps s p n.between n.nodes =
          subst (λ rd. RowMade steps s rd (ends_at done (single_row p j).left) (last_ends done) n.between n.nodes) (single_reading table j p stand) n.here in
          record {
            between = n.between;
            front = [];
            last = filled (single_row p j) n.nodes;
            many = refl;
            grown = row_grown K M steps lawful sound s n.between (alone p) (last_ends done) (last_ends done) n.nodes made;
            used = (row_used K M steps lawful sound s n.between (alone p) (last_ends done) (last_ends done) n.nodes made, tt);
            rows_say = λ a cov. (single_says K M steps lawful sound made a cov, tt);
            says = λ a cov. single_says K M steps lawful sound made a cov;
            left = n.left;
          }

      module _ (o : Joint) (p q : Passive) (i : ℕ) (s t : S) (done rest all : List PassiveRow) (at : length done ≡ i) where
        abbrev row : PassiveRow
        row = joint_row (joint_tag o) (i + rows p - 1)

        joined_form : {rest₁ rest₂ : List PassiveRow} (x : FormMade p s done rest₁ t all) (y : FormMade q x.between (done ++ (x.front ++ (x.last ∷ []))) rest₂ t all)
            → NextMade row y.between ((done ++ (x.front ++ (x.last ∷ []))) ++ (y.front ++ (y.last ∷ []))) rest t all → FormMade (p_join o p q) s done rest t all
        joined_form x y n =
            let xs = x.front ++ (x.last ∷ []) in
            let ys = y.front ++ (y.last ∷ []) in
            let end = filled row n.nodes in
            let index : length done + length x.front ≡ i + rows p - 1 = omega (arith, at, x.many) in
            let made : JointMade steps y.between o (row_ends x.last) (row_ends y.last) n.between n.nodes =
            subst (λ e. JointMade steps y.between o e (row_ends y.last) n.between n.nodes) (row_within done x.front ys x.last (i + rows p - 1) index)
            (subst (λ e. JointMade steps y.between o (ends_at ((done ++ xs) ++ ys) (i + rows p - 1)) e n.between n.nodes) (last_within (done ++ xs) y.front y.last)
            (subst (λ rd. RowMade steps y.between rd (ends_at ((done ++ xs) ++ ys) (i + rows p - 1)) (last_ends ((done ++ xs) ++ ys)) n.between n.nodes)
            (joint_reading o (i + rows p - 1) (items (part table row))) n.here)) in
            let grew_last = row_grown K M steps lawful sound y.between n.between (joins o) (row_ends x.last) (row_ends y.last) n.nodes made in
            let used_end = row_used K M steps lawful sound y.between n.between (joins o) (row_ends x.last) (row_ends y.last) n.nodes made in
            let grew_right = grown_then M y.grown grew_last in
            let same : (xs ++ ys) ++ (end ∷ []) ≡ xs ++ (ys ++ (end ∷ [])) = append_assoc xs ys (end ∷ []) in
            let covered : (a : Assignment V) → M.covers s a → M.covers x.between a = λ a cov. (x.grown.covers_same a).1 cov in
            let whole : (a : Assignment V) → M.covers s a → Says K M n.between a n.nodes (outcomes K a (p_join o p q)) =
            λ a cov.
            let cx = covered a cov in
            let cy = (y.grown.covers_same a).1 cx in
            let ux = used_last M x.between x.front x.last x.used in
            joint_says K M steps lawful sound made a
            (ends_known K M a cy (ends_later M y.grown ux) (says_later K M a y.grown cx ux (x.says a cov)))
            (ends_known K M a cy (used_last M y.between y.front y.last y.used) (y.says a cx)) in
            record {
              between = n.between;
              front = xs ++ ys;
              last = end;
              many = omega (arith, length-append xs ys, length-append x.front (x.last ∷ []), length-append y.front (y.last ∷ []), x.many, y.many);
              grown = grown_then M (grown_then M x.grown y.grown) grew_last;
              used = subst (RowsUsed M n.between) (sym same)
                  (used_append M n.between xs (ys ++ (end ∷ [])) (rows_later M xs grew_right x.used)
                  (used_append M n.between ys (end ∷ []) (rows_later M ys grew_last y.used) (used_end, tt)));
              rows_say = λ a cov.
                  subst (λ rs. RowsSay K M n.between a rs (all_outcomes K a (p_join o p q))) (sym same)
                  (say_append K M n.between a xs (ys ++ (end ∷ [])) (all_outcomes K a p) _
                  (say_later K M a xs (all_outcomes K a p) grew_right (covered a cov) x.used (x.rows_say a cov))
                  (say_append K M n.between a ys (end ∷ []) (all_outcomes K a q) _
                  (say_later K M a ys (all_outcomes K a q) grew_last ((y.grown.covers_same a).1 (covered a cov)) y.used (y.rows_say a (covered a cov)))
                  (whole a cov, tt)));
              says = whole;
              left = subst (λ rs. RowsMade steps table n.between rs rest t all)
                  (append_assoc (done ++ xs) ys (end ∷ []) ∙ append_assoc done xs (ys ++ (end ∷ [])) ∙ ap (λ l. done ++ l) (sym same)) n.left;
            }

      -- THE THEOREM: where the next rows are those of p, their nodes say its outcomes
      pub form_made : (p : Passive) (i j : ℕ) (s t : S) (done rest all : List PassiveRow) → length done ≡ i → Stand table j p
          → RowsMade steps table s done (layout p i j ++ rest) t all → FormMade p s done rest t all
      form_made (p_single p) i j s t done rest all at stand h = single_form p j s t done rest all stand (next_made h)
      form_made (p_join o p q) i j s t done rest all at stand h =
          let r = layout q (i + rows p) (j + length (terms p)) in
          let end = joint_row (joint_tag o) (i + rows p - 1) ∷ [] in
          let flat : (layout p i j ++ (r ++ end)) ++ rest ≡ layout p i j ++ (r ++ (end ++ rest)) =
          append_assoc (layout p i j) (r ++ end) rest ∙ ap (λ l. layout p i j ++ l) (append_assoc r end rest) in
          let x =
          form_made p i j s t done (r ++ (end ++ rest)) all at (stand_left table j o p q stand) (subst (λ l. RowsMade steps table s done l t all) flat h) in
          let xs = x.front ++ (x.last ∷ []) in
          let y =
          form_made q (i + rows p) (j + length (terms p)) x.between t (done ++ xs) (end ++ rest) all
          (omega (arith, length-append done xs, at, x.many, length-append x.front (x.last ∷ []))) (stand_right table j o p q stand) x.left in
          joined_form o p q i s t done rest all at x y (next_made {s = y.between} {done = (done ++ xs) ++ (y.front ++ (y.last ∷ []))} y.left)

    rows_over : {table : List PassiveTermRow} {s t : S} {done all : List PassiveRow} → RowsMade steps table s done [] t all → (s ≡ t) × (done ≡ all)
    rows_over rows_done = (refl, refl)

    -- what the condition of a form says
    pub condition_valued : (p : Passive) (s : S) (rs : List PassiveRow) (n : Node) (t : S) → ConditionMade steps p s rs n t → ConditionValued K M p s rs n t
    condition_valued p s rs n t c =
        let x =
        form_made (term_rows p) p 0 0 s c.between [] [] rs refl (stand_whole p)
        (subst (λ l. RowsMade steps (term_rows p) s [] l c.between rs) (sym (append-nil (layout p 0 0))) c.rows_made) in
        let e = rows_over x.left in
        let last : last_ends rs ≡ row_ends x.last = ap last_ends (sym e.1) ∙ last_pushed x.front x.last in
        let step : steps x.between (making.Not x.last.w) n t =
        subst (λ u. steps u (making.Not x.last.w) n t) (sym e.0) (subst (λ (z : Ends). steps c.between (making.Not z.W) n t) last c.last_made) in
        let m = made K M steps lawful sound step in
        record {
          grown = grown_then M x.grown m.grown;
          rows_used = subst (RowsUsed M t) e.1 (rows_later M (x.front ++ (x.last ∷ [])) m.grown x.used);
          used = m.used;
          rows_say = λ a cov.
              subst (λ l. RowsSay K M t a l (all_outcomes K a p)) e.1
              (say_later K M a (x.front ++ (x.last ∷ [])) (all_outcomes K a p) m.grown ((x.grown.covers_same a).1 cov) x.used (x.rows_say a cov));
          says = λ a cov.
              (known_not K M a m (ends_known K M a ((x.grown.covers_same a).1 cov) (used_last M x.between x.front x.last x.used) (x.says a cov)).W).says;
        }
