-- What is known of the rows of an accepted routine.
use Rattle.std.proofs.Common.{◌≡◌, ℕ, ◌+◌, ◌-◌, ◌*◌, ◌^◌, ◌<◌, ◌≤◌, Bool, true, false, cond, List, [], length, Some, Ok, Err, sym, refl, ap, ◌∙◌, subst, mul-le-mul, arith, length-append}
use Rattle.std.proofs.lemmas.Bool.Decides.{nat_tests}
use Rattle.kinds.specs.declared.refusals.Refusal.TheVariants.{Limits}
use Rattle.routine.specs.declared.rows.TermRow.{TermRow}
use Rattle.routine.specs.declared.rows.CommandRow.{CommandRow}
use Rattle.routine.specs.declared.rows.Joint.TheVariants.{Sequence, Choice, Catch}
use Rattle.routine.specs.Commands.{Single, assert, assume, assign, skip, raise, Command, single, join, size, single_places, places}
use Rattle.routine.specs.Decoding.{rows_from, within_limits, decode}
use Rattle.routine.specs.Standing.{Fields, row, EndsAt, Stands, Proper}
use Rattle.routine.proofs.Soundness.{decoding_sound}
use Rattle.passive.specs.Passive.{p_assert, p_assume, p_let, p_skip, p_raise, p_stop, Passive, p_single, p_join, Names, names_from, passive_form}
use Rattle.passive.specs.Outcomes.{nodes}
use Rattle.passive.specs.Layout.{rows, terms}
use Rattle.passive.specs.Agreement.{Bounded}
use Rattle.passive.proofs.Bounding.{bounded}
use Rattle.passify.specs.declared.measuring.Measured.{Measured}
use Rattle.passify.specs.Measuring.{sizes, measured, Fits, Measurable, Measures}
use Rattle.passify.specs.Checked.{Checked, FormMeasured}
use Rattle.passify.proofs.Sizes.{measured_is}
use Rattle.passify.proofs.Singles.{term_within, term_long}

-- a passive form has no more rows than nodes and one, and no more term rows than nodes
rows_few : (p : Passive) → rows p ≤ nodes p + 1
rows_few (p_single p) = omega arith
rows_few (p_join Sequence p q) = omega (arith, rows_few p, rows_few q)
rows_few (p_join Choice p q) = omega (arith, rows_few p, rows_few q)
rows_few (p_join Catch p q) = omega (arith, rows_few p, rows_few q)

terms_few : (p : Passive) → length (terms p) ≤ nodes p
terms_few (p_single (p_assert t)) = omega arith
terms_few (p_single (p_assume t)) = omega arith
terms_few (p_single (p_let f t)) = omega arith
terms_few (p_single p_skip) = omega arith
terms_few (p_single p_raise) = omega arith
terms_few (p_single p_stop) = omega arith
terms_few (p_join j p q) = omega (arith, length-append (terms p) (terms q), terms_few p, terms_few q)

-- each term is at most as long as the table
single_places_few : (v ops : ℕ) (ts : List TermRow) (r : CommandRow) (c : Single) → Fields v ops ts r c → single_places c ≤ length ts
single_places_few v ops ts r (assert t) f = omega (arith, term_within v ops ts r t f, term_long v ops ts r t f)
single_places_few v ops ts r (assume t) f = omega (arith, term_within v ops ts r t f, term_long v ops ts r t f)
single_places_few v ops ts r (assign x t) f = omega (arith, term_within v ops ts r t f.2, term_long v ops ts r t f.2)
single_places_few v ops ts r skip f = omega arith
single_places_few v ops ts r raise f = omega arith

places_few : (v ops : ℕ) (cs : List CommandRow) (ts : List TermRow) (i : ℕ) (c : Command) → EndsAt v ops cs ts i c → places c ≤ size c * length ts
places_few v ops cs ts i (single c) e = omega (arith, single_places_few v ops ts (row v ops cs ts i) c e.2)
places_few v ops cs ts i (join j a b) e =
    omega (arith, places_few v ops cs ts (row v ops cs ts i).left a e.3, places_few v ops cs ts (i - 1) b e.4)

-- the bounds, in numbers
names_bound : (v n x : ℕ) → v ≤ 32 → n ≤ 1023 → x ≤ v + 2 * v * n → x ≤ 2 ^ 16
names_bound v n x hv hn h = let a : 2 * v ≤ 64 = omega arith in omega (arith, mul-le-mul a hn)

nodes_bound : (v n places long x : ℕ) → v ≤ 32 → n ≤ 1023 → long ≤ 4096 → places ≤ n * long → x + 1 ≤ places + n * (32 * v + 15) + 1 → x + 1 < 2 ^ 32
nodes_bound v n places long x hv hn hl hp h =
    let a : 32 * v + 15 ≤ 1039 = omega arith in
    omega (arith, mul-le-mul hn hl, mul-le-mul hn a)

module _ (v ops : ℕ) (cs : List CommandRow) (ts : List TermRow) (c : Command) (is : decode v ops cs ts ≡ Ok c) where
  limits : within_limits v cs ts ≡ true
  limits = go (within_limits v cs ts) refl is
    where
      go : (b : Bool) → within_limits v cs ts ≡ b → cond b (rows_from v ops ts 0 [] cs) (Err Limits) ≡ Ok c → within_limits v cs ts ≡ true
      go true e h = e
      go false e h = let z : ◌≡◌ {A = ℕ} 0 1 = cc in absurd (omega arith)

  pub few_variables : v ≤ 32
  few_variables = let l = limits in grind (arith, nat_tests)

  pub some_rows : 0 < length cs
  some_rows = let l = limits in grind (arith, nat_tests)

  pub few_rows : length cs ≤ 1023
  few_rows = let l = limits in grind (arith, nat_tests)

  few_terms : length ts ≤ 4096
  few_terms = let l = limits in grind (arith, nat_tests)

  pub stands : Stands v ops cs ts c
  stands = (decoding_sound v ops cs ts c is).0

  pub proper : Proper v ops c
  proper = (decoding_sound v ops cs ts c is).1

  pub bounds : Bounded v c
  bounds = bounded v ops c proper

  pub nodes_fit : nodes (passive_form v c).code + 1 < 2 ^ 32
  nodes_fit =
      nodes_bound v (size c) (places c) (length ts) (nodes (passive_form v c).code) few_variables (omega (arith, stands.all_rows, few_rows)) few_terms
      (places_few v ops cs ts (length cs - 1) c stands.ends) bounds.few_nodes

  pub form_fits : Fits (sizes (passive_form v c))
  form_fits = record {
    few_names = names_bound v (size c) (passive_form v c).next few_variables (omega (arith, stands.all_rows, few_rows)) bounds.few_names;
    few_rows = omega (arith, rows_few (passive_form v c).code, nodes_fit);
    few_terms = omega (arith, terms_few (passive_form v c).code, nodes_fit);
    few_nodes = omega (arith, nodes_fit);
  }

-- the whole routine, from the names that variables start with
module _ (v : ℕ) (cs : List CommandRow) (m : Names) (first : m ≡ Some (names_from 0 v)) where
  pub start_is : (c : Command) → measured c m v ≡ sizes (passive_form v c)
  start_is c = ap (λ n. measured c n v) first ∙ measured_is c (Some (names_from 0 v)) v

  pub checked_measurable : Checked v cs → (ts : List TermRow) × Measurable cs ts (length cs - 1) m v
  checked_measurable (ops, ts, c, is) = (ts, (v, ops, c, (stands v ops cs ts c is).ends, subst Fits (sym (start_is c)) (form_fits v ops cs ts c is)))

  pub checked_measured : (r : Measured) → ((ts : List TermRow) → Measures cs ts (length cs - 1) m v r) → FormMeasured v cs r
  checked_measured r h ops ts c is = h ts v ops c (stands v ops cs ts c is).ends ∙ start_is c
