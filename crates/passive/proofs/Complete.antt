-- Each run has an assignment under which the passive form has its outcome.
use Rattle.std.proofs.Common.{◌≡◌, ℕ, ◌+◌, ◌≤◌, true, List, length, set, Some, None, sym, refl, ap, ◌∙◌, subst, ap₂, arith}
use Rattle.std.proofs.lemmas.Bool.{and_from, or_left, or_right, not_from_false}
use Rattle.std.proofs.lemmas.List.{map-set, get_or-set_same}
use Rattle.kinds.specs.Kind.{KindOf}
use Rattle.kinds.specs.declared.numbered.Variable.{Variable}
use Rattle.kinds.specs.declared.numbered.Name.{Name}
use Rattle.routine.specs.declared.rows.Joint.{Joint}
use Rattle.routine.specs.declared.rows.Joint.TheVariants.{Sequence, Choice, Catch}
use Rattle.routine.specs.Commands.{Term, assert, assume, assign, skip, raise, Command, single, join}
use Rattle.routine.specs.Runs.{value_in, State, Outcome, normal, raised, wrong, blocked, Run, assert_holds, assert_fails, assume_holds, assume_blocks, assigns, skips, raises, sequence_on, sequence_raised, sequence_wrong, sequence_blocked, catch_on, catch_normal, catch_wrong, catch_blocked, choice_left, choice_right}
use Rattle.routine.specs.Standing.{ProperTerm, Proper}
use Rattle.passive.specs.Passive.{name, Names, Passified, entry, leaves_normal, leaves_raised, joined, passify_single, passify}
use Rattle.passive.specs.Outcomes.{Assignment, named, Outcomes, outcomes}
use Rattle.passive.specs.Uses.{Below}
use Rattle.passive.specs.Agreement.{Reads}
use Rattle.passive.proofs.Endings.{agreed, leaving, entering, normal_merge, raised_merge, joined_is}
use Rattle.passive.proofs.Values.{value_renamed}
use Rattle.passive.proofs.Merging.{NamesOf, reads_left, reads_right}
use Rattle.passive.proofs.Forms.{Formed, entry_names, MergesBoth, merges_both, formed}
use Rattle.passive.proofs.Settling.{Alike, Found, at_once, changed_then, changed_set, alike_outcomes, alike_reads, same_from, settle_both}

module _ {V : Type 0} (K : KindOf V) where
  -- the outcomes and maps show how a run ends
  abbrev pub Shows : Assignment V → Outcomes → Names → Names → Outcome V → Type 0
  Shows a o n x (normal s) = (o.N ≡ true) × Reads K a n s
  Shows a o n x (raised s) = (o.X ≡ true) × Reads K a x s
  Shows a o n x wrong = o.W ≡ true
  Shows a o n x blocked = Unit {0}

  abbrev pub ShowsAt : Assignment V → Passified → Outcome V → Type 0
  ShowsAt a p e = Shows a (outcomes K a p.code) p.normal p.raised e

  -- the end of a run of the left part by which the whole is left
  abbrev ShowsLeaving : Assignment V → Joint → Passified → Outcome V → Type 0
  ShowsLeaving a j l e = Shows a (leaving j (outcomes K a l.code)) (leaves_normal j l.normal) (leaves_raised j l.raised) e

  -- the state where a run of the left part goes on into the right part, where the whole starts from the map m
  abbrev ShowsEntering : Assignment V → Joint → List Name → Passified → State V → Type 0
  ShowsEntering a j m l s = (entering j (outcomes K a l.code) ≡ true) × Reads K a (entry j m l.normal l.raised) s

  abbrev pub Complete : ℕ → Assignment V → Passified → Outcome V → Type 0
  Complete k a p e = Found K k a (λ a'. ShowsAt a' p e)

  -- an assignment that is alike below n shows the same by maps of names below n
  shows_alike : (n : ℕ) (a a' : Assignment V) (o o' : Outcomes) (m x : Names) (e : Outcome V) → Alike K n a a' → o' ≡ o → Below n m → Below n x
      → Shows a o m x e → Shows a' o' m x e
  shows_alike n a a' o o' m x (normal s) same eq p q h = (ap (λ (z : Outcomes). z.N) eq ∙ h.0, alike_reads K n a a' same s m p h.1)
  shows_alike n a a' o o' m x (raised s) same eq p q h = (ap (λ (z : Outcomes). z.X) eq ∙ h.0, alike_reads K n a a' same s x q h.1)
  shows_alike n a a' o o' m x wrong same eq p q h = ap (λ (z : Outcomes). z.W) eq ∙ h
  shows_alike n a a' o o' m x blocked same eq p q h = tt

  -- what the parts of a joined form show, the whole shows, where the new names have the old ones' values

  module _ (v ops k : ℕ) (j : Joint) (l r : Passified) (p : Formed v ops k l) (q : Formed v ops l.next r) where
    both : MergesBoth v j l r
    both = merges_both v ops k j l r p q

    shows_left : (a : Assignment V) (e : Outcome V) → agreed K a (normal_merge j l r).left ≡ true
        → agreed K a (raised_merge j l r).left ≡ true → ShowsLeaving a j l e → ShowsAt a (joined j l r) e
    shows_left a (normal s) en ex h = (
      ap (λ (z : Outcomes). z.N) (joined_is K a j l r) ∙ or_left _ _ (and_from _ _ h.0 en),
      reads_left K a v r.next (leaves_normal j l.normal) r.normal s both.left_normal.0 q.normal.0 en h.1,
    )
    shows_left a (raised s) en ex h = (
      ap (λ (z : Outcomes). z.X) (joined_is K a j l r) ∙ or_left _ _ (and_from _ _ h.0 ex),
      reads_left K a v (normal_merge j l r).next (leaves_raised j l.raised) r.raised s both.left_raised.0 q.raised.0 ex h.1,
    )
    shows_left a wrong en ex h = ap (λ (z : Outcomes). z.W) (joined_is K a j l r) ∙ or_left _ _ h
    shows_left a blocked en ex h = tt

    shows_right : (a : Assignment V) (e : Outcome V) → agreed K a (normal_merge j l r).right ≡ true
        → agreed K a (raised_merge j l r).right ≡ true → entering j (outcomes K a l.code) ≡ true → ShowsAt a r e
        → ShowsAt a (joined j l r) e
    shows_right a (normal s) en ex g h = (
      ap (λ (z : Outcomes). z.N) (joined_is K a j l r) ∙ or_right _ _ (and_from _ _ g (and_from _ _ h.0 en)),
      reads_right K a v r.next (leaves_normal j l.normal) r.normal s both.left_normal.0 q.normal.0 en h.1,
    )
    shows_right a (raised s) en ex g h = (
      ap (λ (z : Outcomes). z.X) (joined_is K a j l r) ∙ or_right _ _ (and_from _ _ g (and_from _ _ h.0 ex)),
      reads_right K a v (normal_merge j l r).next (leaves_raised j l.raised) r.raised s both.left_raised.0 q.raised.0 ex h.1,
    )
    shows_right a wrong en ex g h = ap (λ (z : Outcomes). z.W) (joined_is K a j l r) ∙ or_right _ _ (and_from _ _ g h)
    shows_right a blocked en ex g h = tt

    -- there is room for the parts
    room : (i : ℕ) → (joined j l r).next ≤ i → (l.next ≤ i) × (r.next ≤ i)
    room i u =
        let h = both in
        (omega (arith, h.at_normal.from, h.at_raised.from, q.from), omega (arith, h.at_normal.from, h.at_raised.from))

    -- the run ends in the left part
    complete_left : (a : Assignment V) (e : Outcome V) → (joined j l r).next ≤ length a → Found K k a (λ a'. ShowsLeaving a' j l e)
        → Complete k a (joined j l r) e
    complete_left a e u y =
        let n = normal_merge j l r in
        let x = raised_merge j l r in
        let hn = both.at_normal in
        let hx = both.at_raised in
        let long = y.changed.long in
        let t = settle_both K r.next n.next x.next n.left x.left y.after hn.from hx.from (omega arith)
        hn.left_fresh hx.left_fresh in
        let low : Alike K l.next y.after t.after = λ f i. t.changed.low f (omega (arith, q.from)) in
        record {
          after = t.after;
          changed = changed_then K k r.next a y.after t.after (omega (arith, p.from, q.from)) y.changed t.changed;
          shows = shows_left t.after e t.shows.0 t.shows.1
              (shows_alike r.next y.after t.after _ _ (leaves_normal j l.normal) (leaves_raised j l.raised) e t.changed.low
              (ap (leaving j) (alike_outcomes K l.next y.after t.after low ops l.code p.workable))
              both.left_normal.1 both.left_raised.1 y.shows);
        }

    -- the run goes on into the right part
    complete_right : (a : Assignment V) (m : List Name) (s : State V) (e : Outcome V) → (joined j l r).next ≤ length a
        → Found K k a (λ a'. ShowsEntering a' j m l s)
        → ((a' : Assignment V) → length a' ≡ length a → Reads K a' (entry j m l.normal l.raised) s → Complete l.next a' r e)
        → Complete k a (joined j l r) e
    complete_right a m s e u y f =
        let n = normal_merge j l r in
        let x = raised_merge j l r in
        let hn = both.at_normal in
        let hx = both.at_raised in
        let y' = f y.after y.changed.long y.shows.1 in
        let long : length y'.after ≡ length a = y'.changed.long ∙ y.changed.long in
        let t = settle_both K r.next n.next x.next n.right x.right y'.after hn.from hx.from (omega arith)
        hn.right_fresh hx.right_fresh in
        let on = changed_then K l.next r.next y.after y'.after t.after q.from y'.changed t.changed in
        record {
          after = t.after;
          changed = changed_then K k l.next a y.after t.after p.from y.changed on;
          shows = shows_right t.after e t.shows.0 t.shows.1
              (ap (entering j) (alike_outcomes K l.next y.after t.after on.low ops l.code p.workable) ∙ y.shows.0)
              (shows_alike r.next y'.after t.after _ _ r.normal r.raised e t.changed.low
              (alike_outcomes K r.next y'.after t.after t.changed.low ops r.code q.workable)
              q.normal.1 q.raised.1 y'.shows);
        }

  -- a whole joined command

  module _ (v ops : ℕ) (j : Joint) (c d : Command) (m : List Name) (k : ℕ) (a : Assignment V) (w : Proper v ops (join j c d))
      (z : NamesOf v k (Some m)) (u : (passify (join j c d) (Some m) k).next ≤ length a) where
    abbrev left : Passified
    left = passify c (Some m) k

    abbrev right : Passified
    right = passify d (entry j m left.normal left.raised) left.next

    left_formed : Formed v ops k left
    left_formed = formed v ops c (Some m) k w.0 z

    right_names : NamesOf v left.next (entry j m left.normal left.raised)
    right_names = entry_names v ops k j m left z left_formed

    right_formed : Formed v ops left.next right
    right_formed = formed v ops d (entry j m left.normal left.raised) left.next w.1 right_names

    ends_left : (e : Outcome V) → (left.next ≤ length a → Found K k a (λ a'. ShowsLeaving a' j left e))
        → Complete k a (passify (join j c d) (Some m) k) e
    ends_left e f =
        let space = room v ops k j left right left_formed right_formed (length a) u in
        complete_left v ops k j left right left_formed right_formed a e u (f space.0)

    ends_right : (s : State V) (e : Outcome V) → (left.next ≤ length a → Found K k a (λ a'. ShowsEntering a' j m left s))
        → ((a' : Assignment V) → NamesOf v left.next (entry j m left.normal left.raised) → right.next ≤ length a' → Reads K a' (entry j m left.normal left.raised) s
        → Complete left.next a' right e)
        → Complete k a (passify (join j c d) (Some m) k) e
    ends_right s e f g =
        let space = room v ops k j left right left_formed right_formed (length a) u in
        complete_right v ops k j left right left_formed right_formed a m s e u (f space.0)
        (λ a' long reads. g a' right_names (subst (λ (i : ℕ). right.next ≤ i) (sym long) space.1) reads)

  assigned : (v ops : ℕ) (x : Variable) (t : Term Variable) (m : List Name) (k : ℕ) (a : Assignment V) (s : State V) → ProperTerm v ops t
      → NamesOf v k (Some m) → k + 1 ≤ length a → Reads K a (Some m) s
      → Complete k a (passify_single (assign x t) m k) (normal (set s x.0 (value_in K s t)))
  assigned v ops x t m k a s w z u f =
      let y = value_in K s t in
      let a₁ = set a k y in
      let c = changed_set K k k a y (omega arith) in
      let f₁ : Reads K a₁ (Some m) s = alike_reads K k a a₁ c.low s (Some m) z.1 f in
      let at : named K a₁ (name k) ≡ y = get_or-set_same a k y K.no (omega arith) in
      record {
        after = a₁;
        changed = c;
        shows = (
          same_from K _ _ y at (value_renamed K v ops m a₁ s t z.0 f₁ w),
          ap₂ (λ (l : State V) (i : V). set l x.0 i) f₁ (sym at) ∙ sym (map-set (named K a₁) m x.0 (name k)),
        );
      }

  -- what a form shows as the assignment is
  as_it_is : (c : Command) (m : List Name) (k : ℕ) (a : Assignment V) (e : Outcome V) → ShowsAt a (passify c (Some m) k) e
      → Complete k a (passify c (Some m) k) e
  as_it_is c m k a e h = at_once K k a (λ a'. ShowsAt a' (passify c (Some m) k) e) h

  pub complete : (v ops : ℕ) {c : Command} {s : State V} {e : Outcome V} (m : Names) (k : ℕ) (a : Assignment V) → Run K c s e
      → Proper v ops c → NamesOf v k m → (passify c m k).next ≤ length a → Reads K a m s → Complete k a (passify c m k) e
  complete v ops None k a r w z u f = absurd f
  complete v ops (Some m) k a (assert_holds {t} {s} h) w z u f =
      as_it_is (single (assert t)) m k a (normal s) (ap K.truth (value_renamed K v ops m a s t z.0 f w) ∙ h, f)
  complete v ops (Some m) k a (assert_fails {t} {s} h) w z u f =
      as_it_is (single (assert t)) m k a wrong (not_from_false _ (ap K.truth (value_renamed K v ops m a s t z.0 f w) ∙ h))
  complete v ops (Some m) k a (assume_holds {t} {s} h) w z u f =
      as_it_is (single (assume t)) m k a (normal s) (ap K.truth (value_renamed K v ops m a s t z.0 f w) ∙ h, f)
  complete v ops (Some m) k a (assume_blocks {t} h) w z u f = as_it_is (single (assume t)) m k a blocked tt
  complete v ops (Some m) k a (assigns {x} {t} {s}) w z u f = assigned v ops x t m k a s w.1 z u f
  complete v ops (Some m) k a (skips {s}) w z u f = as_it_is (single skip) m k a (normal s) (refl, f)
  complete v ops (Some m) k a (raises {s}) w z u f = as_it_is (single raise) m k a (raised s) (refl, f)
  complete v ops (Some m) k a (sequence_on {a = c} {b = d} {s} {m = t} {o = e} r₁ r₂) w z u f =
      ends_right v ops Sequence c d m k a w z u t e (λ i. complete v ops (Some m) k a r₁ w.0 z i f)
      (λ a' z' i f'. complete v ops (passify c (Some m) k).normal (passify c (Some m) k).next a' r₂ w.1 z' i f')
  complete v ops (Some m) k a (sequence_raised {a = c} {b = d} {s} {m = t} r₁) w z u f =
      ends_left v ops Sequence c d m k a w z u (raised t) (λ i. complete v ops (Some m) k a r₁ w.0 z i f)
  complete v ops (Some m) k a (sequence_wrong {a = c} {b = d} {s} r₁) w z u f =
      ends_left v ops Sequence c d m k a w z u wrong (λ i. complete v ops (Some m) k a r₁ w.0 z i f)
  complete v ops (Some m) k a (sequence_blocked {a = c} {b = d} {s} r₁) w z u f =
      ends_left v ops Sequence c d m k a w z u blocked (λ i. complete v ops (Some m) k a r₁ w.0 z i f)
  complete v ops (Some m) k a (catch_on {a = c} {b = d} {s} {m = t} {o = e} r₁ r₂) w z u f =
      ends_right v ops Catch c d m k a w z u t e (λ i. complete v ops (Some m) k a r₁ w.0 z i f)
      (λ a' z' i f'. complete v ops (passify c (Some m) k).raised (passify c (Some m) k).next a' r₂ w.1 z' i f')
  complete v ops (Some m) k a (catch_normal {a = c} {b = d} {s} {m = t} r₁) w z u f =
      ends_left v ops Catch c d m k a w z u (normal t) (λ i. complete v ops (Some m) k a r₁ w.0 z i f)
  complete v ops (Some m) k a (catch_wrong {a = c} {b = d} {s} r₁) w z u f =
      ends_left v ops Catch c d m k a w z u wrong (λ i. complete v ops (Some m) k a r₁ w.0 z i f)
  complete v ops (Some m) k a (catch_blocked {a = c} {b = d} {s} r₁) w z u f =
      ends_left v ops Catch c d m k a w z u blocked (λ i. complete v ops (Some m) k a r₁ w.0 z i f)
  complete v ops (Some m) k a (choice_left {a = c} {b = d} {s} {o = e} r₁) w z u f =
      ends_left v ops Choice c d m k a w z u e (λ i. complete v ops (Some m) k a r₁ w.0 z i f)
  complete v ops (Some m) k a (choice_right {a = c} {b = d} {s} {o = e} r₁) w z u f =
      ends_right v ops Choice c d m k a w z u s e
      (λ i. at_once K k a (λ a'. ShowsEntering a' Choice m (passify c (Some m) k) s) (refl, f))
      (λ a' z' i f'. complete v ops (Some m) (passify c (Some m) k).next a' r₁ w.1 z' i f')
