-- What the check's parts say of the commands finished so far.
use Rattle.std.proofs.Common.{◌≡◌, ℕ, ◌+◌, ◌-◌, ◌<◌, ◌≤◌, max, Bool, true, false, cond, ◌&&◌, eqb, ltb, leb, ◌≢◌, List, [], ◌∷◌, length, get_or, drop, set, Ok, Err, Result, sym, refl, ap, ◌∙◌, subst, ap₂, arith, length-set, get_or-set_other, get_or-set_same}
use Rattle.std.proofs.lemmas.List.{at_drop_more, at_drop_all}
use Rattle.std.proofs.lemmas.Bool.Decides.{nat_tests}
use Rattle.kinds.specs.declared.refusals.Refusal.{Refusal}
use Rattle.kinds.specs.declared.refusals.Refusal.TheVariants.{Parts, Whole, Limits}
use Rattle.routine.specs.declared.rows.TermRow.{TermRow}
use Rattle.routine.specs.declared.rows.CommandRow.{CommandRow}
use Rattle.routine.specs.declared.checks.Part.{Part}
use Rattle.routine.specs.Limits.{most_commands, most_terms, most_variables, deepest}
use Rattle.routine.specs.declared.rows.Joint.{Joint}
use Rattle.routine.specs.Commands.{Command, single, join, size, depth}
use Rattle.routine.specs.Decoding.{Reading, alone, joins, reading, joined, placed, whole, rows_from, within_limits, decode, verdict}
use Rattle.routine.specs.Checking.{no_part, Ready, joined_part, part_at}
use Rattle.routine.proofs.Splits.{false_is_not_true}

pub size_pos : (c : Command) → 0 < size c
size_pos (single c) = omega arith
size_pos (join j a b) = omega arith

-- the command that ends before row i is the first of the list, and its part stands at that row
abbrev pub Laid : List Part → ℕ → List Command → Type 0
Laid parts i [] = i ≡ 0
Laid parts i (c ∷ earlier) =
    (k : ℕ) × (k + size c ≡ i) × ((get_or parts (i - 1) no_part).first ≡ k) × ((get_or parts (i - 1) no_part).depth ≡ depth c) × Laid parts k earlier

laid_back : (parts : List Part) (i : ℕ) (finished : List Command) → Laid parts i finished → 0 < i → (get_or parts (i - 1) no_part).first < i
laid_back parts i [] h p = absurd (omega arith)
laid_back parts i (c ∷ earlier) h p = omega (arith, size_pos c, h.1, h.2)

-- a part written at row i changes none before
laid_set : (parts : List Part) (i : ℕ) (p : Part) (k : ℕ) (finished : List Command) → k ≤ i → Laid parts k finished → Laid (set parts i p) k finished
laid_set parts i p k [] le h = h
laid_set parts i p k (c ∷ earlier) le h =
    let z = size_pos c in
    let q = h.1 in
    let ne : k - 1 ≢ i = omega arith in
    let kept = get_or-set_other parts i (k - 1) p no_part ne in
    (h.0, h.1, ap (λ x. x.first) kept ∙ h.2, ap (λ x. x.depth) kept ∙ h.3, laid_set parts i p h.0 earlier (omega arith) h.4)

-- the code's answer for a row is that of the definition
abbrev Agrees : List Part → ℕ → Result Part Refusal → Result (List Command) Refusal → Type 0
Agrees parts i (Ok p) (Ok []) = ⊥
Agrees parts i (Ok p) (Ok (c ∷ earlier)) = (p.first + size c ≡ i + 1) × (p.depth ≡ depth c) × Laid parts p.first earlier
Agrees parts i (Ok p) (Err e) = ⊥
Agrees parts i (Err e) (Ok s) = ⊥
Agrees parts i (Err e) (Err f) = e ≡ f

both_ways :
    (parts : List Part) (i : ℕ) (a b : Bool) (p : Part) (s : List Command) → a ≡ b → (a ≡ true → Agrees parts i (Ok p) (Ok s))
    → Agrees parts i (cond a (Ok p) (Err Parts)) (cond b (Ok s) (Err Parts))
both_ways parts i true true p s e h = h refl
both_ways parts i false false p s e h = refl
both_ways parts i true false p s e h = false_is_not_true (sym e)
both_ways parts i false true p s e h = false_is_not_true e

refused : (parts : List Part) (i : ℕ) (a : Bool) (p : Part) → a ≡ false → Agrees parts i (cond a (Ok p) (Err Parts)) (Err Parts)
refused parts i true p e = false_is_not_true (sym e)
refused parts i false p e = refl

tests_same :
    (l s i k sb da db dl di : ℕ) → s ≡ k → k + sb ≡ i → 0 < sb → di ≡ db → (l + 1 ≡ k → dl ≡ da)
    → (ltb 0 i && (eqb (l + 1) s && ltb (max dl di) deepest)) ≡ (eqb (l + 1 + sb) i && leb (max da db + 1) deepest)
tests_same l s i k sb da db dl di es ei p ed el = grind (arith, nat_tests)

test_says : (l s i d : ℕ) → (ltb 0 i && (eqb (l + 1) s && ltb d deepest)) ≡ true → l + 1 ≡ s
test_says l s i d t = grind (arith, nat_tests)

module _ (parts : List Part) (i left : ℕ) where
  abbrev a_part : Part
  a_part = get_or parts left no_part

  abbrev b_part : Part
  b_part = get_or parts (i - 1) no_part

  abbrev tested : Bool
  tested = ltb 0 i && (eqb (left + 1) b_part.first && ltb (max a_part.depth b_part.depth) deepest)

  abbrev made : Part
  made = record { first = a_part.first; depth = max a_part.depth b_part.depth + 1 }

  agrees_joint : (j : Joint) (finished : List Command) → Laid parts i finished → Agrees parts i (joined_part parts i left) (joined j i left finished)
  agrees_joint j [] h = refused parts i tested made (grind (arith, nat_tests))
  agrees_joint j (b ∷ []) h = refused parts i tested made (let e : b_part.first ≡ 0 = h.2 ∙ h.4 in grind (arith, nat_tests))
  agrees_joint j (b ∷ (a ∷ earlier)) h =
      both_ways parts i tested (eqb (left + 1 + size b) i && leb (max (depth a) (depth b) + 1) deepest) made (join j a b ∷ earlier)
      (tests_same left b_part.first i h.0 (size b) (depth a) (depth b) _ _ h.2 h.1 (size_pos b) h.3
      (λ e. ap (λ x. (get_or parts x no_part).depth) (before e) ∙ h.4.3))
      (λ t. let e = before (test_says left b_part.first i (max a_part.depth b_part.depth) t ∙ h.2) in
      let f : a_part.first ≡ h.4.0 = ap (λ x. (get_or parts x no_part).first) e ∙ h.4.2 in
      let g : a_part.depth ≡ depth a = ap (λ x. (get_or parts x no_part).depth) e ∙ h.4.3 in
      (omega (arith, h.1, h.4.1), ap₂ (λ x y. max x y + 1) g h.3, subst (λ k. Laid parts k earlier) (sym f) h.4.4))
    where
      before : left + 1 ≡ h.0 → left ≡ h.0 - 1
      before e = omega arith

  agrees :
      (finished : List Command) → Laid parts i finished → (rd : Result Reading Refusal)
      → Agrees parts i (part_at parts i left rd) (placed i left finished rd)
  agrees finished h (Err e) = refl
  agrees finished h (Ok (alone c)) = (refl, refl, h)
  agrees finished h (Ok (joins j)) = agrees_joint j finished h

module _ (v ops : ℕ) (terms : List TermRow) (commands : List CommandRow) where
  abbrev all_rows : Result Command Refusal
  all_rows = rows_from v ops terms 0 [] commands

  -- what is left of the rows decides
  pub record Sofar (parts : List Part) (i : ℕ) : Type 0 where
    pub finished : List Command
    pub laid : Laid parts i finished
    pub rest : rows_from v ops terms i finished (drop i commands) ≡ all_rows
    pub room : length parts ≡ most_commands

  pub sofar_none : (parts : List Part) → length parts ≡ most_commands → Sofar parts 0
  sofar_none parts e = record { finished = []; laid = refl; rest = refl; room = e }

  abbrev onward : ℕ → Result (List Command) Refusal → Result Command Refusal
  onward i o = elim o [ Err e ↦ Err e | Ok s ↦ rows_from v ops terms (i + 1) s (drop (i + 1) commands) ]

  module _ {parts : List Part} {i : ℕ} (so : Sofar parts i) where
    pub sofar_ready : i ≤ most_commands → Ready parts i
    sofar_ready le = record { room = omega (arith, so.room); back = laid_back parts i so.finished so.laid }

    module _ (d : CommandRow) (below : i < length commands) (fits : length commands ≤ most_commands) where
      abbrev here : CommandRow
      here = get_or commands i d

      abbrev step : Result (List Command) Refusal
      step = placed i here.left so.finished (reading v ops terms here)

      abbrev part : Result Part Refusal
      part = part_at parts i here.left (reading v ops terms here)

      agreed : Agrees parts i part step
      agreed = agrees parts i here.left so.finished so.laid (reading v ops terms here)

      turn : all_rows ≡ onward i step
      turn = sym so.rest ∙ at_drop_more (rows_from v ops terms i so.finished) commands i d below

      pub sofar_more : (p : Part) → part ≡ Ok p → Sofar (set parts i p) (i + 1)
      sofar_more p e = go step refl (subst (λ x. Agrees parts i x step) e agreed)
        where
          go : (s : Result (List Command) Refusal) → step ≡ s → Agrees parts i (Ok p) s → Sofar (set parts i p) (i + 1)
          go (Err f) is a = absurd a
          go (Ok []) is a = absurd a
          go (Ok (c ∷ earlier)) is a =
              let z = size_pos c in
              let back : i + 1 - 1 ≡ i = omega arith in
              let at : get_or (set parts i p) (i + 1 - 1) no_part ≡ p = ap (λ k. get_or (set parts i p) k no_part) back ∙ get_or-set_same parts i p no_part (omega (arith, so.room)) in
              record {
                finished = c ∷ earlier;
                laid = (p.first, a.0, ap (λ x. x.first) at, ap (λ x. x.depth) at ∙ a.1, laid_set parts i p p.first earlier (omega (arith, a.0)) a.2);
                rest = sym (turn ∙ ap (onward i) is);
                room = length-set parts i p ∙ so.room;
              }

      pub sofar_stop : (f : Refusal) → part ≡ Err f → all_rows ≡ Err f
      sofar_stop f e = go step refl (subst (λ x. Agrees parts i x step) e agreed)
        where
          go : (s : Result (List Command) Refusal) → step ≡ s → Agrees parts i (Err f) s → all_rows ≡ Err f
          go (Ok s) is a = absurd a
          go (Err g) is a = turn ∙ ap (onward i) is ∙ ap Err (sym a)

    abbrev judged : ℕ → Result (Unit {0}) Refusal
    judged first = cond (eqb first 0) (Ok tt) (Err Whole)

    sofar_all : length commands ≤ i → 0 < i → verdict all_rows ≡ judged (get_or parts (i - 1) no_part).first
    sofar_all all pos = ap verdict (sym so.rest ∙ at_drop_all (rows_from v ops terms i so.finished) commands i all) ∙ go so.finished so.laid
      where
        go : (finished : List Command) → Laid parts i finished → verdict (whole finished) ≡ judged (get_or parts (i - 1) no_part).first
        go [] h = absurd (omega arith)
        go (c ∷ []) h = ap judged (sym (h.2 ∙ h.4))
        go (c ∷ (e ∷ earlier)) h =
            let z : eqb (get_or parts (i - 1) no_part).first 0 ≡ false = (let p = size_pos e in let q = h.4.1 in let u = h.2 in grind (arith, nat_tests)) in
            ap (λ b. cond b (Ok tt) (Err Whole)) (sym z)

  -- the limits are kept
  module _ (a : v ≤ most_variables) (b : 0 < length commands) (c : length commands ≤ most_commands) (d : length terms ≤ most_terms) where
    pub decode_within : decode v ops commands terms ≡ all_rows
    decode_within = let z : within_limits v commands terms ≡ true = grind (arith, nat_tests) in ap (λ t. cond t all_rows (Err Limits)) z

    module _ {parts : List Part} {i : ℕ} (so : Sofar parts i) (all : length commands ≤ i) (upto : i ≤ length commands) where
      abbrev last_first : ℕ
      last_first = (get_or parts (length commands - 1) no_part).first

      ends : verdict (decode v ops commands terms) ≡ cond (eqb last_first 0) (Ok tt) (Err Whole)
      ends =
          let e : i ≡ length commands = omega arith in
          ap verdict decode_within ∙ sofar_all so all (omega arith) ∙ ap (λ n. cond (eqb (get_or parts (n - 1) no_part).first 0) (Ok tt) (Err Whole)) e

      pub ends_whole : last_first ≡ 0 → Ok tt ≡ verdict (decode v ops commands terms)
      ends_whole z = sym (ends ∙ ap (λ n. cond (eqb n 0) (Ok tt) (Err Whole)) z)

      pub ends_split : (last_first ≡ 0 → ⊥) → Err Whole ≡ verdict (decode v ops commands terms)
      ends_split n = let z : eqb last_first 0 ≡ false = grind (arith, nat_tests) in sym (ends ∙ ap (λ t. cond t (Ok tt) (Err Whole)) z)
