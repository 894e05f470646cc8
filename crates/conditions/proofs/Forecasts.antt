-- What an accepted forecast says of the passive form, the store and the tables.
use Rattle.std.proofs.Common.{◌≡◌, ℕ, ◌+◌, ◌-◌, ◌≤◌, Bool, true, false, cond, ◌&&◌, leb, List, ◌++◌, length, take, drop, Ok, Err, Result, sym, refl, ap, ◌∙◌, subst, arith}
use Rattle.std.proofs.lemmas.Bool.Decides.{nat_tests}
use Rattle.std.proofs.lemmas.List.{take_at, drop_at, length_push}
use Rattle.kinds.specs.Kind.{KindOf}
use Rattle.kinds.specs.declared.numbered.Node.{Node}
use Rattle.kinds.specs.declared.refusals.Refusal.{Refusal}
use Rattle.kinds.specs.declared.refusals.Refusal.TheVariants.{Names, WorkTable, Places}
use Rattle.routine.specs.declared.rows.TermRow.{TermRow}
use Rattle.routine.specs.declared.rows.CommandRow.{CommandRow}
use Rattle.routine.specs.Commands.{Command}
use Rattle.routine.specs.Decoding.{decode}
use Rattle.passive.specs.Passive.{Passive, passive_form}
use Rattle.passive.specs.Uses.{WorkableForm}
use Rattle.passive.specs.Layout.{rows, terms, term_rows, layout, put}
use Rattle.passive.specs.declared.rows.PassiveTermRow.{PassiveTermRow}
use Rattle.passive.specs.declared.rows.PassiveRow.{PassiveRow}
use Rattle.passive.proofs.Forms.{workable_passive, workable_form_more}
use Rattle.passify.specs.declared.calls.FormLengths.{FormLengths}
use Rattle.passify.specs.declared.calls.FormMeasures.{FormMeasures}
use Rattle.passify.specs.Calls.{most_names, form_measures, form_lengths, form_answer, passify_answer, rows_after, terms_after}
use Rattle.passify.proofs.Parts.{length_layout, length_term_rows}
use Rattle.passify.proofs.Accepted.{proper}
use Rattle.formula.specs.declared.stores.Making.{Making}
use Rattle.formula.specs.Store.{Meaning, Lawful, Makes}
use Rattle.conditions.specs.Asks.{Room, RowsFit, rows_nodes}
use Rattle.conditions.specs.Made.{filled, RowsMade, rows_done, rows_more, TableMade, ConditionMade}
use Rattle.conditions.specs.Valued.{RowsUsed, ConditionValued}
use Rattle.conditions.specs.Calls.{room_answer, condition_answer, MakesCondition}
use Rattle.conditions.proofs.Standings.{stand_whole, layout_fits, layout_nodes, layout_used}
use Rattle.conditions.proofs.FormLaws.{condition_valued}

module _ {V : Type 0} {S : Type 0} (M : Meaning V S) (s : S) (row_room term_room : ℕ) where
  -- a form with these measures has room
  pub record Roomy (m : FormMeasures) : Type 0 where
    pub few_names : m.names ≤ 4096
    pub wide : m.names ≤ M.width s
    pub rows_room : m.rows ≤ row_room
    pub terms_room : m.terms ≤ term_room
    pub places : m.nodes ≤ M.capacity s - M.count s

  roomy : (m n : FormMeasures) → Ok n ≡ room_answer M s row_room term_room m → Roomy m × (n ≡ m)
  roomy m n h = go _ _ _ refl refl refl h
    where
      go : (a b c : Bool) → (leb m.names most_names && leb m.names (M.width s)) ≡ a → (leb m.rows row_room && leb m.terms term_room) ≡ b
          → leb m.nodes (M.capacity s - M.count s) ≡ c
          → Ok n ≡ cond a (cond b (cond c (Ok m) (Err Places)) (Err WorkTable)) (Err Names) → Roomy m × (n ≡ m)
      go true true true e f h k = (
        record { few_names = grind (arith, nat_tests); wide = grind (arith, nat_tests); rows_room = grind (arith, nat_tests); terms_room = grind (arith, nat_tests); places = grind (arith, nat_tests) },
        cc,
      )
      go true true false e f h k = let z : ◌≡◌ {A = ℕ} 0 1 = cc in absurd (omega arith)
      go true false c e f h k = let z : ◌≡◌ {A = ℕ} 0 1 = cc in absurd (omega arith)
      go false b c e f h k = let z : ◌≡◌ {A = ℕ} 0 1 = cc in absurd (omega arith)

  -- an accepted forecast is of a routine, whose form has room
  pub record Forecast (v : ℕ) (d : Result Command Refusal) (m : FormMeasures) : Type 0 where
    pub command : Command
    pub decoded : d ≡ Ok command
    pub measured : m ≡ form_measures v command
    pub room : Roomy (form_measures v command)

  pub accepted_forecast : (v : ℕ) (d : Result Command Refusal) (m : FormMeasures) → Ok m ≡ condition_answer M s row_room term_room v d → Forecast v d m
  accepted_forecast v (Ok c) m h = let r = roomy (form_measures v c) m h in record { command = c; decoded = refl; measured = r.1; room = r.0 }
  accepted_forecast v (Err e) m h = let z : ◌≡◌ {A = ℕ} 0 1 = cc in absurd (omega arith)

  -- and passify does not refuse it
  pub never_refused : (v : ℕ) (d : Result Command Refusal) (m : FormMeasures) (e : Refusal) → Ok m ≡ condition_answer M s row_room term_room v d
      → Err e ≡ passify_answer v d row_room term_room → ⊥
  never_refused v (Err f) m e h k = cc
  never_refused v (Ok c) m e h k =
      let room = (roomy (form_measures v c) m h).0 in
      go room.few_names room.rows_room room.terms_room (leb (passive_form v c).next most_names)
      (leb (rows (passive_form v c).code) row_room && leb (length (terms (passive_form v c).code)) term_room) refl refl k
    where
      go : (form_measures v c).names ≤ 4096 → (form_measures v c).rows ≤ row_room → (form_measures v c).terms ≤ term_room → (a b : Bool)
          → leb (passive_form v c).next most_names ≡ a → (leb (rows (passive_form v c).code) row_room && leb (length (terms (passive_form v c).code)) term_room) ≡ b
          → Err e ≡ cond a (cond b (Ok (form_lengths v c)) (Err WorkTable)) (Err Names) → ⊥
      go n r t true true x y k = cc
      go n r t true false x y k = grind (arith, nat_tests)
      go n r t false b x y k = grind (arith, nat_tests)

-- the form that passify wrote

lengths_from : (v : ℕ) (c : Command) (row_room term_room : ℕ) (l : FormLengths) → Ok l ≡ form_answer v c row_room term_room → l ≡ form_lengths v c
lengths_from v c row_room term_room l h =
    go (leb (passive_form v c).next most_names) (leb (rows (passive_form v c).code) row_room && leb (length (terms (passive_form v c).code)) term_room) h
  where
    go : (a b : Bool) → Ok l ≡ cond a (cond b (Ok (form_lengths v c)) (Err WorkTable)) (Err Names) → l ≡ form_lengths v c
    go true true k = cc
    go true false k = let z : ◌≡◌ {A = ℕ} 0 1 = cc in absurd (omega arith)
    go false b k = let z : ◌≡◌ {A = ℕ} 0 1 = cc in absurd (omega arith)

-- what was put at the front, and what stands behind it
front_taken : {X : Type 0} (xs ys : List X) (n : ℕ) → length ys ≡ n → take (n - 0) (put xs 0 ys) ≡ ys
front_taken xs ys n e = let z : n - 0 ≡ n = omega arith in ap (λ k. take k (put xs 0 ys)) z ∙ take_at ys (drop (0 + length ys) xs) n e

front_again : {X : Type 0} (xs ys zs : List X) (n : ℕ) → length ys ≡ n → length zs ≡ n → zs ++ drop (n - 0) (put xs 0 ys) ≡ put xs 0 zs
front_again xs ys zs n e f =
    let z : n - 0 ≡ n = omega arith in
    let g : 0 + length ys ≡ 0 + length zs = omega (arith, e, f) in
    ap (λ k. zs ++ drop k (put xs 0 ys)) z ∙ ap (λ l. zs ++ l) (drop_at ys (drop (0 + length ys) xs) n e) ∙ ap (λ k. zs ++ drop k xs) g

rows_many : {S : Type 0} (steps : S → Making → Node → S → Type 0) {table : List PassiveTermRow} {s t : S} {done rest all : List PassiveRow}
    → RowsMade steps table s done rest t all → length all ≡ length done + length rest
rows_many steps rows_done = omega arith
rows_many steps (rows_more {done = done} {rest = rest} {r = r} e h k) = omega (arith, rows_many steps k, length_push done (filled r e))

-- a routine whose forecast was accepted, and whose passive form was written
module _ {V : Type 0} {S : Type 0} (K : KindOf V) (M : Meaning V S) (steps : S → Making → Node → S → Type 0)
    (lawful : (s : S) → Lawful K M s)
    (sound : (s : S) (c : Making) (n : Node) (t : S) → steps s c n t → Makes K M s c n t)
    (v : ℕ) (cs : List CommandRow) (ts : List TermRow) (s : S) (E E₁ : List PassiveRow) (T T₁ : List PassiveTermRow) (m : FormMeasures)
    (accepted : Ok m ≡ condition_answer M s (length E) (length T) v (decode v K.ops cs ts)) (l : FormLengths)
    (answered : Ok l ≡ passify_answer v (decode v K.ops cs ts) (length E) (length T))
    (rows_written : E₁ ≡ rows_after v (decode v K.ops cs ts) (Ok l) E) (terms_written : T₁ ≡ terms_after v (decode v K.ops cs ts) (Ok l) T)
  where
    seen : Forecast M s (length E) (length T) v (decode v K.ops cs ts) m
    seen = accepted_forecast M s (length E) (length T) v (decode v K.ops cs ts) m accepted

    abbrev command : Command
    command = seen.command

    abbrev form : Passive
    form = (passive_form v command).code

    lengths_are : l ≡ form_lengths v command
    lengths_are =
        lengths_from v command (length E) (length T) l (answered ∙ ap (λ d. passify_answer v d (length E) (length T)) seen.decoded)

    rows_are : E₁ ≡ put E 0 (layout form 0 0)
    rows_are = rows_written ∙ ap (λ d. rows_after v d (Ok l) E) seen.decoded

    terms_are : T₁ ≡ put T 0 (term_rows form)
    terms_are = terms_written ∙ ap (λ d. terms_after v d (Ok l) T) seen.decoded

    rows_long : length (layout form 0 0) ≡ l.rows
    rows_long = length_layout form 0 0 ∙ ap (λ (x : FormLengths). x.rows) (sym lengths_are)

    rows_taken : take (l.rows - 0) E₁ ≡ layout form 0 0
    rows_taken = ap (take (l.rows - 0)) rows_are ∙ front_taken E (layout form 0 0) l.rows rows_long

    terms_taken : take (l.terms - 0) T₁ ≡ term_rows form
    terms_taken =
        ap (take (l.terms - 0)) terms_are
        ∙ front_taken T (term_rows form) l.terms (length_term_rows form ∙ ap (λ (x : FormLengths). x.terms) (sym lengths_are))

    workable : WorkableForm K.ops (M.width s) form
    workable =
        workable_form_more (passive_form v command).next (M.width s) K.ops form seen.room.wide
        (workable_passive v K.ops command (proper v K.ops cs ts command seen.decoded))

    -- what the making of the nodes asks
    abbrev Asked : List PassiveTermRow → List PassiveRow → Type 0
    Asked table rs = record {
      fit : RowsFit K.ops (M.width s) table 0 rs;
      used : RowsUsed M s rs;
      room : Room M s (rows_nodes table rs + 1);
    }

    form_asked : Asked (term_rows form) (layout form 0 0)
    form_asked = record {
      fit = layout_fits K.ops (M.width s) (term_rows form) form 0 0 (stand_whole form) workable;
      used = layout_used M s (lawful s).no_used form 0 0;
      room = omega (arith, layout_nodes (term_rows form) form 0 0 (stand_whole form), seen.room.places, (lawful s).placed);
    }

    pub asked : Asked (take (l.terms - 0) T₁) (take (l.rows - 0) E₁)
    asked = subst (λ table. Asked table (take (l.rows - 0) E₁)) (sym terms_taken) (subst (Asked (term_rows form)) (sym rows_taken) form_asked)

    -- what was made
    module _ (all : List PassiveRow) (n : Node) (t : S) (h : TableMade steps (take (l.terms - 0) T₁) (take (l.rows - 0) E₁) s all n t) where
      made : ConditionMade steps form s all n t
      made =
          subst (λ rs. TableMade steps (term_rows form) rs s all n t) rows_taken
          (subst (λ table. TableMade steps table (take (l.rows - 0) E₁) s all n t) terms_taken h)

      valued : ConditionValued K M form s all n t
      valued = condition_valued K M steps lawful sound form s all n t made

      pub risen : M.count s ≤ M.count t
      risen = valued.grown.grows

      pub stands : (rise : ℕ) → rise ≡ M.count t - M.count s
          → MakesCondition K M steps v (decode v K.ops cs ts) s E T (Ok (record { node = n; names = l.names; rows = l.rows; terms = l.terms; rise = rise })) t
          (all ++ drop (l.rows - 0) E₁) T₁
      stands rise e = (
        command,
        seen.decoded,
        sym accepted ∙ ap Ok seen.measured,
        record {
          form = all;
          made = made;
          valued = valued;
          rows_in = ap (λ x. all ++ drop (l.rows - 0) x) rows_are ∙ front_again E (layout form 0 0) all l.rows rows_long (rows_many steps made.rows_made ∙ omega (arith, rows_long));
          terms_in = terms_are;
          names = ap (λ (x : FormLengths). x.names) lengths_are;
          rows = ap (λ (x : FormLengths). x.rows) lengths_are;
          terms = ap (λ (x : FormLengths). x.terms) lengths_are;
          rise = e;
        },
      )
