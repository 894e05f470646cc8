-- The loop that merges two maps, turn by turn.
use Rattle.std.proofs.Common.{◌≡◌, ℕ, ◌+◌, ◌<◌, ◌≤◌, min, Bool, true, false, cond, not, eqb, nat_le, set, List, [], ◌∷◌, ◌++◌, length, get_or, take, drop, Some, sym, refl, ap, ◌∙◌, append_assoc, append-nil, zero-add, arith, length-append, length-drop, false-eqb}
use Rattle.std.proofs.lemmas.List.{drop_more, drop_all, get_or-take}
use Rattle.std.proofs.lemmas.Bool.{eq-eqb, ne_eqb, eqb-true, leb-true, leb-false}
use Rattle.std.proofs.Math.Seq.{set-append_seam}
use Rattle.kinds.specs.declared.numbered.Name.{Name}
use Rattle.passive.specs.Passive.{name, Merged, agreeing, differing, merge_names}
use Rattle.passify.proofs.Sizes.{merge_up}

abbrev pub at : List Name → ℕ → Name
at xs i = get_or xs i (name 0)

merge_same : (x y : Name) (xs ys : List Name) (k : ℕ) → x.0 ≡ y.0 → merge_names (x ∷ xs) (y ∷ ys) k ≡ agreeing x (merge_names xs ys k)
merge_same x y xs ys k e = rw (eq-eqb x.0 y.0 e, merge_names)

merge_apart :
    (x y : Name) (xs ys : List Name) (k : ℕ) → (x.0 ≡ y.0 → ⊥)
    → merge_names (x ∷ xs) (y ∷ ys) k ≡ differing (name k) x y (merge_names xs ys (k + 1))
merge_apart x y xs ys k e = rw (ne_eqb x.0 y.0 e, merge_names)

-- nothing is merged where one map has no more names
abbrev pub nothing : ℕ → Merged
nothing k = record { names = []; left = []; right = []; next = k }

ended : (xs ys : List Name) (k : ℕ) → min (length xs) (length ys) ≡ 0 → merge_names xs ys k ≡ nothing k
ended [] ys k e = refl
ended (x ∷ xs) [] k e = refl
ended (x ∷ xs) (y ∷ ys) k e = absurd (omega (arith, e))

-- what is left to merge at variable i
module _ (ks bs : List Name) where
  abbrev pub rest : ℕ → ℕ → Merged
  rest i k = merge_names (drop i ks) (drop i bs) k

  abbrev pub all : ℕ → Merged
  all k = merge_names ks bs k

  module _ (i k : ℕ) (hk : i < length ks) (hb : i < length bs) where
    split : rest i k ≡ merge_names (at ks i ∷ drop (i + 1) ks) (at bs i ∷ drop (i + 1) bs) k
    split = λ t. merge_names (drop_more ks i (name 0) hk t) (drop_more bs i (name 0) hb t) k

    pub rest_same : (at ks i).0 ≡ (at bs i).0 → rest i k ≡ agreeing (at ks i) (rest (i + 1) k)
    rest_same e = split ∙ merge_same (at ks i) (at bs i) (drop (i + 1) ks) (drop (i + 1) bs) k e

    pub rest_apart : ((at ks i).0 ≡ (at bs i).0 → ⊥) → rest i k ≡ differing (name k) (at ks i) (at bs i) (rest (i + 1) (k + 1))
    rest_apart e = split ∙ merge_apart (at ks i) (at bs i) (drop (i + 1) ks) (drop (i + 1) bs) k e

  pub rest_none : (i k : ℕ) → i ≡ min (length ks) (length bs) → rest i k ≡ nothing k
  rest_none i k e = ended (drop i ks) (drop i bs) k (omega (arith, length-drop i ks, length-drop i bs))

  pub rest_up : (i k : ℕ) → k ≤ (rest i k).next
  rest_up i k = merge_up (Some (drop i ks)) (Some (drop i bs)) k

  -- variables below i are merged into ns, k is the next name, and d are renamed
  pub record Sofar (ns : List Name) (k d start i : ℕ) : Type 0 where
    pub long : length ns ≡ i
    pub names : ns ++ (rest i k).names ≡ (all start).names
    pub next : (rest i k).next ≡ (all start).next
    pub few : d ≤ i
    pub renamed : d + length (rest i k).left ≡ length (all start).left

  pub begun : (k : ℕ) → Sofar [] k 0 k 0
  begun k = record { long = refl; names = refl; next = refl; few = omega arith; renamed = zero-add _ }

  module _ (ns : List Name) (k d start i : ℕ) (hk : i < length ks) (hb : i < length bs) (s : Sofar ns k d start i) where
    pub same : (at ks i).0 ≡ (at bs i).0 → Sofar (ns ++ at ks i ∷ []) k d start (i + 1)
    same e =
        let now = rest_same i k hk hb e in
        record {
          long = omega (arith, length-append ns (at ks i ∷ []), s.long);
          names = append_assoc ns (at ks i ∷ []) _ ∙ (ap (λ (m : Merged). ns ++ m.names) (sym now) ∙ s.names);
          next = ap (λ (m : Merged). m.next) (sym now) ∙ s.next;
          few = omega (arith, s.few);
          renamed = ap (λ (m : Merged). d + length m.left) (sym now) ∙ s.renamed;
        }

    module _ (e : (at ks i).0 ≡ (at bs i).0 → ⊥) where
      -- there is one more name to come
      pub room : k < (all start).next
      room = omega (arith, rest_up (i + 1) (k + 1), ap (λ (m : Merged). m.next) (rest_apart i k hk hb e), s.next)

      pub apart : Sofar (ns ++ name k ∷ []) (k + 1) (d + 1) start (i + 1)
      apart =
          let now = rest_apart i k hk hb e in
          record {
            long = omega (arith, length-append ns (name k ∷ []), s.long);
            names = append_assoc ns (name k ∷ []) _ ∙ (ap (λ (m : Merged). ns ++ m.names) (sym now) ∙ s.names);
            next = ap (λ (m : Merged). m.next) (sym now) ∙ s.next;
            few = omega (arith, s.few);
            renamed = omega (arith, ap (λ (m : Merged). d + length m.left) now, s.renamed);
          }

  pub record Done (ns : List Name) (k d start : ℕ) : Type 0 where
    pub names : ns ≡ (all start).names
    pub next : k ≡ (all start).next
    pub renamed : d ≡ length (all start).left

  pub done : (ns : List Name) (k d start i : ℕ) → i ≡ min (length ks) (length bs) → Sofar ns k d start i → Done ns k d start
  done ns k d start i e s =
      let end = rest_none i k e in
      record {
        names = sym (append-nil ns) ∙ (ap (λ (m : Merged). ns ++ m.names) (sym end) ∙ s.names);
        next = ap (λ (m : Merged). m.next) (sym end) ∙ s.next;
        renamed = omega (arith, ap (λ (m : Merged). length m.left) end, s.renamed);
      }

  -- the map of fewer names
  abbrev pub shorter : List Name
  shorter = cond (nat_le (length ks) (length bs)) ks bs

  chosen_long : (b : Bool) → nat_le (length ks) (length bs) ≡ b → length (cond b ks bs) ≡ min (length ks) (length bs)
  chosen_long true e = omega (arith, leb-true _ _ e)
  chosen_long false e = omega (arith, leb-false _ _ e)

  chosen_at : (b : Bool) (i : ℕ) → (at ks i).0 ≡ (at bs i).0 → at (cond b ks bs) i ≡ at ks i
  chosen_at true i e = refl
  chosen_at false i e = ap (λ n. record { 0 = n }) (sym e)

  -- its names below i are merged into ns, and it has those from i on still
  pub record Turned (both : List Name) (k d start i : ℕ) : Type 0 where
    pub ns : List Name
    pub sofar : Sofar ns k d start i
    pub holds : both ≡ ns ++ drop i shorter

  pub turned_begun : (k : ℕ) → Turned shorter k 0 k 0
  turned_begun k = record { ns = []; sofar = begun k; holds = refl }

  module _ (both : List Name) (k d start i : ℕ) (hk : i < length ks) (hb : i < length bs) (t : Turned both k d start i) where
    shorter_long : length shorter ≡ min (length ks) (length bs)
    shorter_long = chosen_long (nat_le (length ks) (length bs)) refl

    split_holds : both ≡ t.ns ++ at shorter i ∷ drop (i + 1) shorter
    split_holds = t.holds ∙ ap (λ l. t.ns ++ l) (drop_more shorter i (name 0) (omega (arith, shorter_long)))

    pub turned_room : ((at ks i).0 ≡ (at bs i).0 → ⊥) → k < (all start).next
    turned_room e = room t.ns k d start i hk hb t.sofar e

    pub turned_same : (at ks i).0 ≡ (at bs i).0 → Turned both k d start (i + 1)
    turned_same e = record {
      ns = t.ns ++ at ks i ∷ [];
      sofar = same t.ns k d start i hk hb t.sofar e;
      holds =
          split_holds
          ∙ (ap (λ n. t.ns ++ n ∷ drop (i + 1) shorter) (chosen_at (nat_le (length ks) (length bs)) i e)
          ∙ sym (append_assoc t.ns (at ks i ∷ []) (drop (i + 1) shorter)));
    }

    pub turned_apart : ((at ks i).0 ≡ (at bs i).0 → ⊥) → Turned (set both i (name k)) (k + 1) (d + 1) start (i + 1)
    turned_apart e = record {
      ns = t.ns ++ name k ∷ [];
      sofar = apart t.ns k d start i hk hb t.sofar e;
      holds =
          ap (λ l. set l i (name k)) split_holds
          ∙ (ap (λ n. set (t.ns ++ at shorter i ∷ drop (i + 1) shorter) n (name k)) (sym t.sofar.long)
          ∙ (set-append_seam t.ns (at shorter i) (drop (i + 1) shorter) (name k)
          ∙ sym (append_assoc t.ns (name k ∷ []) (drop (i + 1) shorter))));
    }

  pub turned_done : (both : List Name) (k d start i : ℕ) → i ≡ min (length ks) (length bs) → Turned both k d start i → Done both k d start
  turned_done both k d start i e t =
      let end = done t.ns k d start i e t.sofar in
      let rest : drop i shorter ≡ [] = drop_all i shorter (omega (arith, chosen_long (nat_le (length ks) (length bs)) refl, e)) in
      record {
        names = t.holds ∙ (ap (λ l. t.ns ++ l) rest ∙ (append-nil t.ns ∙ end.names));
        next = end.next;
        renamed = end.renamed;
      }

-- the names x and y of a turn stand at i in the two maps

pub apart_names : (x y a b : Name) → false ≡ eqb x.0 y.0 → x ≡ a → y ≡ b → a.0 ≡ b.0 → ⊥
apart_names x y a b t ex ey e = false-eqb x.0 y.0 t (ap (λ (n : Name). n.0) ex ∙ (e ∙ ap (λ (n : Name). n.0) (sym ey)))

pub same_names : (x y a b : Name) → true ≡ eqb x.0 y.0 → x ≡ a → y ≡ b → a.0 ≡ b.0
same_names x y a b t ex ey = ap (λ (n : Name). n.0) (sym ex) ∙ (eqb-true x.0 y.0 (sym t) ∙ ap (λ (n : Name). n.0) ey)

pub not_alike : (b : Bool) → true ≡ not b → false ≡ b
not_alike true h = sym h
not_alike false h = refl

pub alike : (b : Bool) → false ≡ not b → true ≡ b
alike true h = refl
alike false h = sym h

-- the pair of turn i, read from slices of the two maps, of which the first is cut at n
module _ (ks bs xs ys : List Name) (n i : ℕ) (first : xs ≡ ks) (second : ys ≡ bs) (h : i < n) where
  x_at : at (take n xs) i ≡ at ks i
  x_at = get_or-take n xs i (name 0) h ∙ ap (λ l. at l i) first

  y_at : at ys i ≡ at bs i
  y_at = ap (λ l. at l i) second

  pub pair_apart : true ≡ not (eqb (at (take n xs) i).0 (at ys i).0) → (at ks i).0 ≡ (at bs i).0 → ⊥
  pair_apart t = apart_names (at (take n xs) i) (at ys i) (at ks i) (at bs i) (not_alike _ t) x_at y_at

  pub pair_same : false ≡ not (eqb (at (take n xs) i).0 (at ys i).0) → (at ks i).0 ≡ (at bs i).0
  pair_same t = same_names (at (take n xs) i) (at ys i) (at ks i) (at bs i) (alike _ t) x_at y_at
