-- Where decoding accepts, the tree stands in the rows and is proper.
use Rattle.std.proofs.Common.{◌≡◌, ℕ, zero, suc, ◌+◌, ◌-◌, ◌<◌, ◌≤◌, max, true, ◌&&◌, eqb, leb, List, [], ◌∷◌, length, drop, Ok, Err, Result, sym, refl, subst, arith}
use Rattle.std.proofs.lemmas.List.{at_drop_more, at_drop_all}
use Rattle.std.proofs.lemmas.Bool.Decides.{nat_tests}
use Rattle.kinds.specs.declared.numbered.Variable.{Variable}
use Rattle.kinds.specs.declared.refusals.Refusal.{Refusal}
use Rattle.routine.specs.declared.rows.TermRow.{TermRow}
use Rattle.routine.specs.declared.rows.CommandRow.{CommandRow}
use Rattle.routine.specs.Limits.{deepest}
use Rattle.routine.specs.declared.rows.Joint.{Joint}
use Rattle.routine.specs.Commands.{Term, Single, assert, assume, assign, skip, raise, Command, single, join, size, depth}
use Rattle.routine.specs.Decoding.{part, well_formed, Reading, alone, joins, reading, joined, placed, whole, rows_from, within_limits}
use Rattle.routine.specs.Standing.{no_row, ProperTerm, ProperSingle, Proper, HasTerm, Fields, row, EndsAt, Stands, DecodingSound}
use Rattle.routine.proofs.Splits.{by_test, both_true}
use Rattle.routine.proofs.Terms.{term_works}
use Rattle.routine.proofs.Readings.{Says, reading_says}

module _ (v ops : ℕ) (commands : List CommandRow) (terms : List TermRow) where
  term_proper : (r : CommandRow) (t : Term Variable) → HasTerm v ops terms r t → ProperTerm v ops t
  term_proper r t h =
      let within = leb (r.from + r.count) (length terms) in
      let formed = well_formed v ops 0 (part terms r.from r.count) in
      subst (ProperTerm v ops) (sym h.1) (term_works v ops 0 (part terms r.from r.count) (both_true within formed h.0).1)

  single_proper : (r : CommandRow) (c : Single) → Fields v ops terms r c → ProperSingle v ops c
  single_proper r (assert t) h = term_proper r t h
  single_proper r (assume t) h = term_proper r t h
  single_proper r (assign x t) h = (subst (λ x. x.0 < v) (sym h.1) h.0, term_proper r t h.2)
  single_proper r skip h = tt
  single_proper r raise h = tt

  -- the commands finished before row i stand in the rows, one before the other
  abbrev Finished : ℕ → List Command → Type 0
  Finished i [] = i ≡ 0
  Finished i (c ∷ earlier) =
      (k : ℕ) × (k + size c ≡ i) × EndsAt v ops commands terms (i - 1) c × Proper v ops c × (depth c ≤ deepest) × Finished k earlier

  abbrev Finishes : ℕ → Result (List Command) Refusal → Type 0
  Finishes i (Ok s) = Finished i s
  Finishes i (Err e) = Unit {0}

  finishes_joint :
      (i : ℕ) (j : Joint) (finished : List Command) → i < length commands → Finished i finished → Says v ops terms (row v ops commands terms i) (Ok (joins j))
      → Finishes (i + 1) (joined j i (row v ops commands terms i).left finished)
  finishes_joint i j [] lt h s = tt
  finishes_joint i j (b ∷ []) lt h s = tt
  finishes_joint i j (b ∷ (a ∷ earlier)) lt h s =
      by_test (Finishes (i + 1)) (eqb ((row v ops commands terms i).left + 1 + size b) i && leb (max (depth a) (depth b) + 1) deepest) _ _ made (λ _. tt)
    where
      made : (eqb ((row v ops commands terms i).left + 1 + size b) i && leb (max (depth a) (depth b) + 1) deepest) ≡ true → Finished (i + 1) (join j a b ∷ earlier)
      made t =
          let l = (row v ops commands terms i).left in
          let e : l + 1 + size b ≡ i = grind (arith, nat_tests) in
          let d : max (depth a) (depth b) + 1 ≤ deepest = grind (arith, nat_tests) in
          let back : i ≡ i + 1 - 1 = omega arith in
          let ends_left : h.0 - 1 ≡ l = omega (arith, h.1) in (
            h.5.0,
            omega (arith, h.1, h.5.1),
            subst (λ k. EndsAt v ops commands terms k (join j a b)) back (lt, s, omega arith, subst (λ k. EndsAt v ops commands terms k a) ends_left h.5.2, h.2),
            (h.5.3, h.3),
            d,
            h.5.5,
          )

  finishes :
      (i : ℕ) (finished : List Command) → i < length commands → Finished i finished → (rd : Result Reading Refusal)
      → Says v ops terms (row v ops commands terms i) rd → Finishes (i + 1) (placed i (row v ops commands terms i).left finished rd)
  finishes i finished lt h (Err e) s = tt
  finishes i finished lt h (Ok (alone c)) s =
      let back : i ≡ i + 1 - 1 = omega arith in
      (i, refl, subst (λ k. EndsAt v ops commands terms k (single c)) back (lt, s.0, s.1), single_proper (row v ops commands terms i) c s.1, omega arith, h)
  finishes i finished lt h (Ok (joins j)) s = finishes_joint i j finished lt h s

  abbrev Sound : Result Command Refusal → Type 0
  Sound (Ok c) = Stands v ops commands terms c × Proper v ops c
  Sound (Err e) = Unit {0}

  sound_whole : (i : ℕ) (finished : List Command) → i ≡ length commands → Finished i finished → Sound (whole finished)
  sound_whole i [] e h = tt
  sound_whole i (c ∷ []) e h =
      (record { ends = subst (λ k. EndsAt v ops commands terms (k - 1) c) e h.2; all_rows = omega (arith, h.1, h.5); shallow = h.4 }, h.3)
  sound_whole i (c ∷ (d ∷ earlier)) e h = tt

  sound_from :
      (n i : ℕ) (finished : List Command) → i + n ≡ length commands → Finished i finished → Sound (rows_from v ops terms i finished (drop i commands))
  sound_from zero i finished e h =
      subst Sound (sym (at_drop_all (rows_from v ops terms i finished) commands i (omega arith))) (sound_whole i finished (omega arith) h)
  sound_from (suc n) i finished e h =
      let lt : i < length commands = omega arith in
      let r = row v ops commands terms i in
      subst Sound (sym (at_drop_more (rows_from v ops terms i finished) commands i no_row lt))
      (go (placed i r.left finished (reading v ops terms r)) (finishes i finished lt h (reading v ops terms r) (reading_says v ops terms r))
      (λ s. sound_from n (i + 1) s (omega arith)))
    where
      go :
          (o : Result (List Command) Refusal) → Finishes (i + 1) o
          → ((s : List Command) → Finished (i + 1) s → Sound (rows_from v ops terms (i + 1) s (drop (i + 1) commands)))
          → Sound (elim o [ Err e ↦ Err e | Ok s ↦ rows_from v ops terms (i + 1) s (drop (i + 1) commands) ])
      go (Err f) m rec = tt
      go (Ok s) m rec = rec s m

  pub decoding_sound : DecodingSound v ops commands terms
  decoding_sound c e =
      subst Sound e (by_test Sound (within_limits v commands terms) _ _ (λ _. sound_from (length commands) 0 [] (omega arith) refl) (λ _. tt))
