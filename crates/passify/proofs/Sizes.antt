-- What a passive form takes is what measuring counts, and the parts of what fits fit too.
use Rattle.std.proofs.Common.{◌≡◌, ℕ, suc, ◌+◌, ◌*◌, ◌≤◌, Bool, true, false, cond, eqb, List, [], ◌∷◌, ◌++◌, length, Some, None, sym, refl, ap, ◌∙◌, arith, length-append}
use Rattle.std.proofs.lemmas.Bool.{true≢false, false≢true, eqb-true, eqb-false, eq-eqb, ne_eqb}
use Rattle.kinds.specs.declared.numbered.Name.{Name}
use Rattle.routine.specs.declared.rows.Joint.{Joint}
use Rattle.routine.specs.declared.rows.Joint.TheVariants.{Sequence}
use Rattle.routine.specs.Commands.{Single, assert, assume, assign, skip, raise, Command, single, join}
use Rattle.passive.specs.Passive.{name, Passive, p_join, Names, Renamed, Merged, agreeing, differing, merge_names, merge, let_of, then_lets, tail, guard, Passified, passify_single, entry, leaves_normal, leaves_raised, joined, passify}
use Rattle.passive.specs.Outcomes.{nodes}
use Rattle.passive.specs.Layout.{rows, terms}
use Rattle.passive.proofs.Endings.{normal_merge, raised_merge}
use Rattle.passify.specs.declared.measuring.Measured.{Measured}
use Rattle.passify.specs.Measuring.{exits, sizes, guard_rows, guard_nodes, joined_sizes, measured, Fits}

-- a merge, and the same two maps merged the other way round

eqb_swap : (x y : ℕ) (b : Bool) → eqb x y ≡ b → eqb y x ≡ b
eqb_swap x y true e = eq-eqb y x (sym (eqb-true x y e))
eqb_swap x y false e = ne_eqb y x (λ p. eqb-false x y e (sym p))

record BothWays (k : ℕ) (r s : Merged) : Type 0 where
  sides_alike : length r.left ≡ length r.right
  up : k ≤ r.next
  swapped : s.left ≡ r.right
  next_alike : s.next ≡ r.next

by_names_both : (P : Merged → Merged → Type 0) (x y : Name) (xs ys : List Name) (k : ℕ)
    → P (agreeing x (merge_names xs ys k)) (agreeing y (merge_names ys xs k))
    → P (differing (name k) x y (merge_names xs ys (k + 1))) (differing (name k) y x (merge_names ys xs (k + 1)))
    → P (merge_names (x ∷ xs) (y ∷ ys) k) (merge_names (y ∷ ys) (x ∷ xs) k)
by_names_both P x y xs ys k f g = go (eqb x.0 y.0) (eqb y.0 x.0) (eqb_swap x.0 y.0 (eqb x.0 y.0) refl)
  where
    go : (b c : Bool) → c ≡ b
        → P (elim b [ true ↦ agreeing x (merge_names xs ys k) | false ↦ differing (name k) x y (merge_names xs ys (k + 1)) ])
        (elim c [ true ↦ agreeing y (merge_names ys xs k) | false ↦ differing (name k) y x (merge_names ys xs (k + 1)) ])
    go true true e = f
    go true false e = absurd (false≢true e)
    go false true e = absurd (true≢false e)
    go false false e = g

both_ways : (xs ys : List Name) (k : ℕ) → BothWays k (merge_names xs ys k) (merge_names ys xs k)
both_ways [] [] k = record { sides_alike = refl; up = omega arith; swapped = refl; next_alike = refl }
both_ways [] (y ∷ ys) k = record { sides_alike = refl; up = omega arith; swapped = refl; next_alike = refl }
both_ways (x ∷ xs) [] k = record { sides_alike = refl; up = omega arith; swapped = refl; next_alike = refl }
both_ways (x ∷ xs) (y ∷ ys) k = by_names_both (BothWays k) x y xs ys k
    (let h = both_ways xs ys k in
    record { sides_alike = h.sides_alike; up = h.up; swapped = h.swapped; next_alike = h.next_alike })
    (let h = both_ways xs ys (k + 1) in
    record {
      sides_alike = ap suc h.sides_alike;
      up = omega (arith, h.up);
      swapped = ap {B = List Renamed} (λ l. record { new = name k; old = y } ∷ l) h.swapped;
      next_alike = h.next_alike;
    })

-- the two sides rename the same variables
pub sides : (a b : Names) (k : ℕ) → length (merge a b k).left ≡ length (merge a b k).right
sides None b k = refl
sides (Some xs) None k = refl
sides (Some xs) (Some ys) k = (both_ways xs ys k).sides_alike

pub merge_swap : (a b : Names) (k : ℕ) → ((merge b a k).left ≡ (merge a b k).right) × ((merge b a k).next ≡ (merge a b k).next)
merge_swap None None k = (refl, refl)
merge_swap None (Some ys) k = (refl, refl)
merge_swap (Some xs) None k = (refl, refl)
merge_swap (Some xs) (Some ys) k = let h = both_ways xs ys k in (h.swapped, h.next_alike)

pub merge_up : (a b : Names) (k : ℕ) → k ≤ (merge a b k).next
merge_up None b k = omega arith
merge_up (Some xs) None k = omega arith
merge_up (Some xs) (Some ys) k = (both_ways xs ys k).up

-- what renaming adds to a form: so many rows, term rows and nodes

pub record Adds (r t n : ℕ) (p q : Passive) : Type 0 where
  pub rows_more : rows q ≡ rows p + r
  pub terms_more : length (terms q) ≡ length (terms p) + t
  pub nodes_more : nodes q ≡ nodes p + n

pub lets_add : (p : Passive) (rs : List Renamed) → Adds (2 * length rs) (length rs) (8 * length rs) p (then_lets p rs)
lets_add p [] = record { rows_more = omega arith; terms_more = omega arith; nodes_more = omega arith }
lets_add p (r ∷ rs) =
    let h = lets_add (p_join Sequence p (let_of r)) rs in
    record {
      rows_more = omega (arith, h.rows_more);
      terms_more = omega (arith, h.terms_more, length-append (terms p) (terms (let_of r)));
      nodes_more = omega (arith, h.nodes_more);
    }

pub tail_adds : (p : Passive) (rs : List Renamed) → Adds (2 * length rs) (length rs) (8 * length rs) p (tail p rs)
tail_adds p [] = record { rows_more = omega arith; terms_more = omega arith; nodes_more = omega arith }
tail_adds p (r ∷ rs) =
    let h = lets_add (let_of r) rs in
    record {
      rows_more = omega (arith, h.rows_more);
      terms_more = omega (arith, h.terms_more, length-append (terms p) (terms (then_lets (let_of r) rs)));
      nodes_more = omega (arith, h.nodes_more);
    }

pub guard_rows_more : (d : ℕ) → guard_rows (suc d) ≡ 2 * d + 4
guard_rows_more d = ap (λ b. cond b 0 (2 * suc d + 2)) (ne_eqb (suc d) 0 (omega arith)) ∙ omega arith

guard_nodes_more : (d : ℕ) → guard_nodes (suc d) ≡ 8 * d + 13
guard_nodes_more d = ap (λ b. cond b 0 (8 * suc d + 5)) (ne_eqb (suc d) 0 (omega arith)) ∙ omega arith

pub guard_adds : (p : Passive) (rs : List Renamed) → Adds (guard_rows (length rs)) (length rs) (guard_nodes (length rs)) p (guard p rs)
guard_adds p [] = record { rows_more = omega arith; terms_more = omega arith; nodes_more = omega arith }
guard_adds p (r ∷ rs) =
    let h = lets_add (let_of r) rs in
    let ts = terms (then_lets (let_of r) rs) in
    record {
      rows_more = omega (arith, h.rows_more, guard_rows_more (length rs));
      terms_more = omega (arith, h.terms_more, length-append (terms p) (ts ++ []), length-append ts []);
      nodes_more = omega (arith, h.nodes_more, guard_nodes_more (length rs));
    }

pub part_adds : (p : Passive) (ns xs : List Renamed)
    → Adds (2 * length ns + guard_rows (length xs)) (length ns + length xs) (8 * length ns + guard_nodes (length xs)) p (guard (tail p ns) xs)
part_adds p ns xs =
    let h = tail_adds p ns in
    let g = guard_adds (tail p ns) xs in
    record {
      rows_more = omega (arith, h.rows_more, g.rows_more);
      terms_more = omega (arith, h.terms_more, g.terms_more);
      nodes_more = omega (arith, h.nodes_more, g.nodes_more);
    }

-- what measuring counts

pub sizes_joined : (j : Joint) (a b : Passified) → joined_sizes j (sizes a) (sizes b) ≡ sizes (joined j a b)
sizes_joined j a b =
    let n = normal_merge j a b in
    let x = raised_merge j a b in
    let l = part_adds a.code n.left x.left in
    let r = part_adds b.code n.right x.right in
    let both = length-append (terms (guard (tail a.code n.left) x.left)) (terms (guard (tail b.code n.right) x.right)) in
    let sn : length n.left ≡ length n.right = sides (leaves_normal j a.normal) b.normal b.next in
    let sx : length x.left ≡ length x.right = sides (leaves_raised j a.raised) b.raised n.next in
    let er : (joined_sizes j (sizes a) (sizes b)).rows ≡ rows (joined j a b).code =
    omega (arith, l.rows_more, r.rows_more, sn, ap guard_rows sx) in
    let et : (joined_sizes j (sizes a) (sizes b)).terms ≡ length (terms (joined j a b).code) =
    omega (arith, l.terms_more, r.terms_more, both, sn, sx) in
    let en : (joined_sizes j (sizes a) (sizes b)).nodes ≡ nodes (joined j a b).code =
    omega (arith, l.nodes_more, r.nodes_more, sn, ap guard_nodes sx) in
    λ i. record { exits = exits n.names x.names; next = x.next; rows = er i; terms = et i; nodes = en i }

pub measured_is : (c : Command) (m : Names) (k : ℕ) → measured c m k ≡ sizes (passify c m k)
measured_is c None k = refl
measured_is (single c) (Some m) k = refl
measured_is (join j c d) (Some m) k =
    let a = passify c (Some m) k in
    let after : Measured → Measured = λ s. joined_sizes j s (measured d (entry j m s.exits.normal s.exits.raised) s.next) in
    ap after (measured_is c (Some m) k)
    ∙ ap (joined_sizes j (sizes a)) (measured_is d (entry j m a.normal a.raised) a.next)
    ∙ sizes_joined j a (passify d (entry j m a.normal a.raised) a.next)

-- names only go up

pub joined_up : (j : Joint) (a b : Measured) → b.next ≤ (joined_sizes j a b).next
joined_up j a b =
    let n = merge (leaves_normal j a.exits.normal) b.exits.normal b.next in
    omega (arith, merge_up (leaves_normal j a.exits.normal) b.exits.normal b.next, merge_up (leaves_raised j a.exits.raised) b.exits.raised n.next)

single_up : (c : Single) (m : List Name) (k : ℕ) → k ≤ (passify_single c m k).next
single_up (assert t) m k = omega arith
single_up (assume t) m k = omega arith
single_up (assign x t) m k = omega arith
single_up skip m k = omega arith
single_up raise m k = omega arith

pub measured_up : (c : Command) (m : Names) (k : ℕ) → k ≤ (measured c m k).next
measured_up c None k = omega arith
measured_up (single c) (Some m) k = single_up c m k
measured_up (join j c d) (Some m) k =
    let a = measured c (Some m) k in
    let e = entry j m a.exits.normal a.exits.raised in
    omega (arith, measured_up c (Some m) k, measured_up d e a.next, joined_up j a (measured d e a.next))

pub fits_parts : (j : Joint) (a b : Measured) → a.next ≤ b.next → Fits (joined_sizes j a b) → Fits a × Fits b
fits_parts j a b h f = (
  record {
    few_names = omega (arith, joined_up j a b, f.few_names);
    few_rows = omega (arith, f.few_rows);
    few_terms = omega (arith, f.few_terms);
    few_nodes = omega (arith, f.few_nodes);
  },
  record {
    few_names = omega (arith, joined_up j a b, f.few_names);
    few_rows = omega (arith, f.few_rows);
    few_terms = omega (arith, f.few_terms);
    few_nodes = omega (arith, f.few_nodes);
  },
)
