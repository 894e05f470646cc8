-- The rows of a term: what the check's loop over them leaves, and what a well-formed term is.
use Rattle.std.proofs.Common.{◌≡◌, ℕ, ◌+◌, ◌-◌, ◌<◌, Bool, true, false, cond, ◌&&◌, eqb, List, [], ◌∷◌, map, length, get_or, drop, Some, None, Option, refl, ap, ◌∙◌, subst, arith}
use Rattle.std.proofs.lemmas.List.{at_drop_more}
use Rattle.std.proofs.lemmas.Bool.Decides.{nat_tests}
use Rattle.kinds.specs.declared.numbered.Variable.{Variable}
use Rattle.routine.specs.declared.rows.TermRow.{TermRow}
use Rattle.routine.specs.Commands.{Term}
use Rattle.routine.specs.Rows.{item}
use Rattle.routine.specs.Decoding.{may_stand, waiting_then, well_formed}
use Rattle.routine.specs.Standing.{Workable}
use Rattle.routine.specs.Checking.{stepped}
use Rattle.routine.proofs.Splits.{by_test, same_number, both_true}

module _ (v ops : ℕ) where
  -- the rows after r make a term where the values wait that r leaves
  abbrev rest : List TermRow → Option ℕ → Bool
  rest rs None = false
  rest rs (Some w) = well_formed v ops w rs

  one_more : (w : ℕ) (r : TermRow) (rs : List TermRow) → well_formed v ops w (r ∷ rs) ≡ rest rs (stepped v ops w r)
  one_more w r rs = go (may_stand v ops w r)
    where
      go : (b : Bool) → (b && well_formed v ops (waiting_then w r) rs) ≡ rest rs (cond b (Some (waiting_then w r)) None)
      go true = refl
      go false = refl

  -- a turn of the loop: what is left of the rows decides
  pub term_turn :
      (w : ℕ) (rows : List TermRow) (i : ℕ) (d : TermRow) (o : Option ℕ) → i < length rows → stepped v ops w (get_or rows i d) ≡ o
      → well_formed v ops w (drop i rows) ≡ rest (drop (i + 1) rows) o
  term_turn w rows i d o below e =
      at_drop_more (well_formed v ops w) rows i d below
      ∙ one_more w (get_or rows i d) (drop (i + 1) rows)
      ∙ ap (rest (drop (i + 1) rows)) e

  abbrev Works : ℕ → Term Variable → Type 0
  Works = Workable (λ x. x.0 < v) ops

  -- a row that may stand is an item that may
  item_works :
      (w : ℕ) (r : TermRow) (rs : List TermRow) → may_stand v ops w r ≡ true
      → Works (waiting_then w r) (map item rs) → Works w (map item (r ∷ rs))
  item_works w r rs h more =
      by_test (λ x. Works w (x ∷ map item rs)) (eqb r.tag 1) _ _
      (λ e. (grind (arith, nat_tests), subst (λ n. Works n (map item rs)) (pushes (grind (arith, nat_tests))) more)) λ e.
      by_test (λ x. Works w (x ∷ map item rs)) (eqb r.tag 2) _ _
      (λ f. (grind (arith, nat_tests), grind (arith, nat_tests), subst (λ n. Works n (map item rs)) (pushes (grind (arith, nat_tests))) more))
      (λ f. (grind (arith, nat_tests), grind (arith, nat_tests), subst (λ n. Works n (map item rs)) (pops (grind (arith, nat_tests))) more))
    where
      pushes : eqb r.tag 3 ≡ false → waiting_then w r ≡ w + 1
      pushes e = ap (λ b. cond b (w - 1) (w + 1)) e

      pops : eqb r.tag 3 ≡ true → waiting_then w r ≡ w - 1
      pops e = ap (λ b. cond b (w - 1) (w + 1)) e

  pub term_works : (w : ℕ) (rs : List TermRow) → well_formed v ops w rs ≡ true → Works w (map item rs)
  term_works w [] h = same_number w 1 h
  term_works w (r ∷ rs) h = let p = both_true _ _ h in item_works w r rs p.0 (term_works (waiting_then w r) rs p.1)
