-- Rows in which a tree stands are accepted as that tree.
use Rattle.std.proofs.Common.{◌≡◌, ℕ, ◌+◌, ◌-◌, ◌<◌, ◌≤◌, max, true, cond, ◌&&◌, eqb, leb, List, [], ◌∷◌, length, drop, Ok, Err, Result, refl, ap, ◌∙◌, arith}
use Rattle.std.proofs.lemmas.List.{at_drop_more, at_drop_all}
use Rattle.std.proofs.lemmas.Bool.Decides.{nat_tests}
use Rattle.kinds.specs.declared.refusals.Refusal.{Refusal}
use Rattle.kinds.specs.declared.refusals.Refusal.TheVariants.{Parts, Limits}
use Rattle.routine.specs.declared.rows.TermRow.{TermRow}
use Rattle.routine.specs.declared.rows.CommandRow.{CommandRow}
use Rattle.routine.specs.Limits.{deepest}
use Rattle.routine.specs.Commands.{Command, single, join, size, depth}
use Rattle.routine.specs.Decoding.{Reading, alone, joins, reading, placed, rows_from}
use Rattle.routine.specs.Standing.{no_row, row, EndsAt, DecodingComplete}
use Rattle.routine.proofs.Readings.{reads_single, reads_joint}
use Rattle.routine.proofs.Finished.{size_pos}

module _ (v ops : ℕ) (commands : List CommandRow) (terms : List TermRow) where
  abbrev at : ℕ → CommandRow
  at i = row v ops commands terms i

  abbrev from : ℕ → List Command → Result Command Refusal
  from i finished = rows_from v ops terms i finished (drop i commands)

  abbrev onward : ℕ → Result (List Command) Refusal → Result Command Refusal
  onward i o = elim o [ Err e ↦ Err e | Ok s ↦ from (i + 1) s ]

  turn :
      (i : ℕ) (finished s : List Command) (rd : Result Reading Refusal) → i < length commands → reading v ops terms (at i) ≡ rd
      → placed i (at i).left finished rd ≡ Ok s → from i finished ≡ from (i + 1) s
  turn i finished s rd lt e p =
      at_drop_more (rows_from v ops terms i finished) commands i no_row lt
      ∙ ap (λ k. onward i (placed i (at i).left finished k)) e
      ∙ ap (onward i) p

  -- the rows of a command, read from its first on, leave it finished
  over : (c : Command) (f i : ℕ) (finished : List Command) → f + size c ≡ i + 1 → EndsAt v ops commands terms i c → depth c ≤ deepest → from f finished ≡ from (i + 1) (c ∷ finished)
  over (single c) f i finished e h d =
      let first : f ≡ i = omega arith in
      ap (λ k. from k finished) first
      ∙ turn i finished (single c ∷ finished) (Ok (alone c)) h.0 (reads_single v ops terms (at i) c h.1 h.2) refl
  over (join j a b) f i finished e h d =
      over a f (at i).left finished (omega (arith, h.2)) h.3 (omega arith)
      ∙ over b ((at i).left + 1) (i - 1) (a ∷ finished) (omega (arith, h.2)) h.4 (omega arith)
      ∙ ap (λ k. from k (b ∷ (a ∷ finished))) back
      ∙ turn i (b ∷ (a ∷ finished)) (join j a b ∷ finished) (Ok (joins j)) h.0 (reads_joint v ops terms (at i) j h.1)
      (ap (λ t. cond t (Ok (join j a b ∷ finished)) (Err Parts)) tests)
    where
      back : i - 1 + 1 ≡ i
      back = omega (arith, h.2)

      tests : (eqb ((at i).left + 1 + size b) i && leb (max (depth a) (depth b) + 1) deepest) ≡ true
      tests = let w = h.2 in grind (arith, nat_tests)

  pub decoding_complete : DecodingComplete v ops commands terms
  decoding_complete c lim h =
      let p = size_pos c in
      let all = h.all_rows in
      ap (λ t. cond t (rows_from v ops terms 0 [] commands) (Err Limits)) lim
      ∙ over c 0 (length commands - 1) [] (omega arith) h.ends h.shallow
      ∙ at_drop_all (rows_from v ops terms (length commands - 1 + 1) (c ∷ [])) commands (length commands - 1 + 1) (omega arith)
