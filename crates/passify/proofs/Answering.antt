-- What the calls answer of a routine that was decoded and measured.
use Rattle.std.proofs.Common.{◌≡◌, ℕ, ◌-◌, ◌<◌, ◌≤◌, Bool, true, false, cond, ◌&&◌, leb, List, length, Some, Ok, Err, Result, sym, refl, ap, ◌∙◌, subst, arith}
use Rattle.std.proofs.lemmas.Bool.Decides.{nat_tests}
use Rattle.kinds.specs.Kind.{KindOf}
use Rattle.kinds.specs.declared.refusals.Refusal.{Refusal}
use Rattle.kinds.specs.declared.refusals.Refusal.TheVariants.{Names, WorkTable}
use Rattle.routine.specs.declared.rows.TermRow.{TermRow}
use Rattle.routine.specs.declared.rows.CommandRow.{CommandRow}
use Rattle.routine.specs.Commands.{Command}
use Rattle.routine.specs.Decoding.{decode, verdict}
use Rattle.passive.specs.Passive.{Names as Maps, Passified, names_from, passify, passive_form}
use Rattle.passive.specs.Layout.{rows, terms, term_rows, layout, put}
use Rattle.passive.specs.declared.rows.PassiveTermRow.{PassiveTermRow}
use Rattle.passive.specs.declared.rows.PassiveRow.{PassiveRow}
use Rattle.passive.proofs.Agreeing.{agreement}
use Rattle.passify.specs.declared.measuring.Measured.{Measured}
use Rattle.passify.specs.declared.writing.Place.{Place}
use Rattle.passify.specs.declared.passing.Passed.{Passed}
use Rattle.passify.specs.declared.calls.FormLengths.{FormLengths}
use Rattle.passify.specs.Measuring.{sizes, Fits}
use Rattle.passify.specs.Pieces.{form_piece, Wrote, Room}
use Rattle.passify.specs.Writing.{Writable, Written}
use Rattle.passify.specs.Calls.{most_names, form_lengths, passify_answer, rows_after, terms_after, AgreesWithRuns}
use Rattle.passify.proofs.Parts.{length_layout, length_term_rows}
use Rattle.passify.proofs.Accepted.{stands, proper, bounds, form_fits, start_is}

pub decoded : (d : Result Command Refusal) (u : Unit {0}) → Ok u ≡ verdict d → (c : Command) × (d ≡ Ok c)
decoded (Ok c) u h = (c, refl)
decoded (Err e) u h = let z : ◌≡◌ {A = ℕ} 0 1 = cc in absurd (omega arith)

pub rows_kept : (v : ℕ) (d : Result Command Refusal) (e : Refusal) (E : List PassiveRow) → E ≡ rows_after v d (Err e) E
rows_kept v (Ok c) e E = refl
rows_kept v (Err f) e E = refl

pub terms_kept : (v : ℕ) (d : Result Command Refusal) (e : Refusal) (T : List PassiveTermRow) → T ≡ terms_after v d (Err e) T
terms_kept v (Ok c) e T = refl
terms_kept v (Err f) e T = refl

module _ (v : ℕ) (d : Result Command Refusal) (c : Command) (is : d ≡ Ok c) (f : Measured) (fm : f ≡ sizes (passive_form v c)) (E : List PassiveRow) (T : List PassiveTermRow) where
  abbrev form : Passified
  form = passive_form v c

  abbrev short : Bool
  short = leb (rows form.code) (length E) && leb (length (terms form.code)) (length T)

  answer_is : (b s : Bool) → leb form.next most_names ≡ b → short ≡ s → passify_answer v d (length E) (length T) ≡ cond b (cond s (Ok (form_lengths v c)) (Err WorkTable)) (Err Names)
  answer_is b s eb es = ap (λ x. passify_answer v x (length E) (length T)) is ∙ (λ t. cond (eb t) (cond (es t) (Ok (form_lengths v c)) (Err WorkTable)) (Err Names))

  same_test : (leb f.rows (length E) && leb f.terms (length T)) ≡ short
  same_test = ap (λ (s : Measured). leb s.rows (length E) && leb s.terms (length T)) fm

  few_names : f.next ≤ 4096 → leb form.next most_names ≡ true
  few_names h = let e = ap (λ (s : Measured). s.next) fm in grind (arith, nat_tests)

  pub too_many : 4096 < f.next → Err Names ≡ passify_answer v d (length E) (length T)
  too_many h =
      let e = ap (λ (s : Measured). s.next) fm in
      let t : leb form.next most_names ≡ false = grind (arith, nat_tests) in
      sym (answer_is false short t refl)

  pub too_short : f.next ≤ 4096 → (leb f.rows (length E) && leb f.terms (length T)) ≡ false → Err WorkTable ≡ passify_answer v d (length E) (length T)
  too_short h e = sym (answer_is true false (few_names h) (sym same_test ∙ e))

  module _ (few : f.next ≤ 4096) (room : (leb f.rows (length E) && leb f.terms (length T)) ≡ true) where
    lengths_are : form_lengths v c ≡ record { names = f.next; rows = f.rows; terms = f.terms }
    lengths_are = ap (λ (s : Measured). record { names = s.next; rows = s.rows; terms = s.terms }) (sym fm)

    pub enough : Ok (record { names = f.next; rows = f.rows; terms = f.terms }) ≡ passify_answer v d (length E) (length T)
    enough = ap Ok (sym lengths_are) ∙ sym (answer_is true true (few_names few) (sym same_test ∙ room))

    pub form_room : Fits (sizes form) → Room (form_piece form.code 0 0) (record { row = 0; term = 0 }) E T
    form_room fits =
        let er = ap (λ (s : Measured). s.rows) fm in
        let et = ap (λ (s : Measured). s.terms) fm in
        let lr = length_layout form.code 0 0 in
        let lt = length_term_rows form.code in
        let hr : f.rows ≤ length E = grind (arith, nat_tests) in
        let ht : f.terms ≤ length T = grind (arith, nat_tests) in
        record {
          rows_room = omega arith;
          terms_room = omega arith;
          rows_few = omega (arith, fits.few_rows);
          terms_few = omega (arith, fits.few_terms);
        }

  pub rows_are : (l : FormLengths) → put E 0 (layout form.code 0 0) ≡ rows_after v d (Ok l) E
  rows_are l = ap (λ x. rows_after v x (Ok l) E) (sym is)

  pub terms_are : (l : FormLengths) → put T 0 (term_rows form.code) ≡ terms_after v d (Ok l) T
  terms_are l = ap (λ x. terms_after v x (Ok l) T) (sym is)

-- the whole routine, written from the front
module _ (v ops : ℕ) (cs : List CommandRow) (ts : List TermRow) (c : Command) (is : decode v ops cs ts ≡ Ok c) (m : Maps) (first : m ≡ Some (names_from 0 v))
    (E : List PassiveRow) (T : List PassiveTermRow)
  where
    abbrev front : Place
    front = record { row = 0; term = 0 }

    same_form : passify c m v ≡ passive_form v c
    same_form = ap (λ n. passify c n v) first

    pub form_writable : Room (form_piece (passive_form v c).code 0 0) front E T → Writable cs ts (length cs - 1) m v front E T
    form_writable room = (
      v,
      ops,
      c,
      (stands v ops cs ts c is).ends,
      subst Fits (sym (start_is v cs m first c)) (form_fits v ops cs ts c is),
      subst (λ (p : Passified). Room (form_piece p.code 0 0) front E T) (sym same_form) room,
    )

    pub form_written :
        (E' : List PassiveRow) (T' : List PassiveTermRow) (r : Passed) → Written cs ts (length cs - 1) m v front E E' T T' r
        → (E' ≡ put E 0 (layout (passive_form v c).code 0 0)) × (T' ≡ put T 0 (term_rows (passive_form v c).code))
    form_written E' T' r w =
        let z = subst (λ (p : Passified). Wrote (form_piece p.code 0 0) front E E' T T' r.end) same_form (w v ops c (stands v ops cs ts c is).ends).1 in
        (z.rows_in, z.terms_in)

pub agrees : {V : Type 0} (K : KindOf V) (v : ℕ) (cs : List CommandRow) (ts : List TermRow) → AgreesWithRuns K v (decode v K.ops cs ts)
agrees K v cs ts c is = (agreement K v K.ops c (proper v K.ops cs ts c is), bounds v K.ops cs ts c is)
