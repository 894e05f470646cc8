-- The passive form of a routine and its runs say the same.
use Rattle.std.proofs.Common.{◌≡◌, ℕ, zero, suc, ◌+◌, ◌-◌, ◌≤◌, Bool, true, false, List, ◌∷◌, ◌++◌, map, length, get_or, take, drop, replicate, Some, sym, refl, ap, ◌∙◌, subst, arith, length-append}
use lib.ListN.{length-replicate}
use Rattle.std.proofs.lemmas.Bool.{both_ways}
use Rattle.std.proofs.lemmas.List.{drop_more, take_at}
use Rattle.kinds.specs.Kind.{KindOf}
use Rattle.routine.specs.Commands.{Command}
use Rattle.routine.specs.Runs.{State, Outcome, normal, raised, wrong, Run}
use Rattle.routine.specs.Standing.{Proper}
use Rattle.passive.specs.Passive.{names_from, passive_form}
use Rattle.passive.specs.Outcomes.{Assignment, named}
use Rattle.passive.specs.Agreement.{SeenInRuns, Begins, RunsSeen, NeverWrong, Agreement}
use Rattle.passive.proofs.Forms.{names_from_below, start_names, formed_passive}
use Rattle.passive.proofs.Settling.{Alike, alike_map}
use Rattle.passive.proofs.Sound.{sound}
use Rattle.passive.proofs.Complete.{ShowsAt, complete}

module _ {V : Type 0} (K : KindOf V) where
  read_from : (a : Assignment V) (k n : ℕ) → k + n ≤ length a → map (named K a) (names_from k n) ≡ take n (drop k a)
  read_from a k zero h = refl
  read_from a k (suc n) h =
      ap {B = List V} (λ l. get_or a k K.no ∷ l) (read_from a (k + 1) n (omega arith))
      ∙ ap (take (suc n)) (sym (drop_more a k K.no (omega arith)))

  -- the map that a routine starts from reads the first values
  read_start : (a : Assignment V) (v : ℕ) → v ≤ length a → map (named K a) (names_from 0 v) ≡ take v a
  read_start a v h = read_from a 0 v (omega arith)

  -- a start with room behind it
  abbrev padded : ℕ → ℕ → State V → Assignment V
  padded v w s = s ++ replicate (w - v) K.no

  padded_long : (v w : ℕ) (s : State V) → v ≤ w → length s ≡ v → length (padded v w s) ≡ w
  padded_long v w s u l = length-append s (replicate (w - v) K.no) ∙ omega (arith, length-replicate (w - v) K.no)

  padded_read : (v w : ℕ) (s : State V) → v ≤ w → length s ≡ v → map (named K (padded v w s)) (names_from 0 v) ≡ s
  padded_read v w s u l =
      read_start (padded v w s) v (omega (arith, padded_long v w s u l)) ∙ take_at s (replicate (w - v) K.no) v l

  start_kept : (v : ℕ) (a a' : Assignment V) (s : State V) → v ≤ length a' → Alike K v a a' → map (named K a) (names_from 0 v) ≡ s → take v a' ≡ s
  start_kept v a a' s u e h =
      sym (read_start a' v u) ∙ sym (alike_map K v a a' e (names_from 0 v) (names_from_below 0 v v (omega arith))) ∙ h

  not_true_false : (b : Bool) → (b ≡ true → ⊥) → b ≡ false
  not_true_false true f = absurd (f refl)
  not_true_false false f = refl

  module _ (v ops : ℕ) (c : Command) (p : Proper v ops c) where
    wide_enough : (w : ℕ) → (passive_form v c).next ≤ w → v ≤ w
    wide_enough w u = omega (arith, (formed_passive v ops c p).from)

    seen : (a : Assignment V) → (passive_form v c).next ≤ length a → SeenInRuns K v c a
    seen a u =
        let h = sound K a v ops c (Some (names_from 0 v)) v (take v a) p (start_names v)
        (sym (read_start a v (wide_enough (length a) u))) in
        record { normal_runs = h.on_normal; raised_runs = h.on_raised; wrong_runs = h.on_wrong }

    -- some assignment of w values that begins with the start shows how a run from there ends
    found : (w : ℕ) (start : State V) → (passive_form v c).next ≤ w → length start ≡ v → (e : Outcome V) → Run K c start e
        → (a : Assignment V) × Begins K w v start a × ShowsAt K a (passive_form v c) e
    found w start u l e r =
        let i = wide_enough w u in
        let a = padded v w start in
        let long : length a ≡ w = padded_long v w start i l in
        let read = padded_read v w start i l in
        let y = complete K v ops (Some (names_from 0 v)) v a r p (start_names v) (omega arith) (sym read) in
        let wide : length y.after ≡ w = y.changed.long ∙ long in (
          y.after,
          record { wide = wide; start_first = start_kept v a y.after start (omega arith) y.changed.low read },
          y.shows,
        )

    runs : (w : ℕ) (start : State V) → (passive_form v c).next ≤ w → length start ≡ v → RunsSeen K w v c start
    runs w start u l = record {
      normal_seen = λ s r. let y = found w start u l (normal s) r in (y.0, y.1, y.2.0, y.2.1);
      raised_seen = λ s r. let y = found w start u l (raised s) r in (y.0, y.1, y.2.0, y.2.1);
      wrong_seen = λ r. found w start u l wrong r;
    }

    never : (w : ℕ) (start : State V) → (passive_form v c).next ≤ w → length start ≡ v → NeverWrong K w v c start
    never w start u l = (
      λ f r. let y = found w start u l wrong r in both_ways _ (f y.0 y.1) y.2,
      λ f a b. not_true_false _ (λ x. f (subst (λ (s : State V). Run K c s wrong) b.start_first
          ((seen a (subst (λ (n : ℕ). (passive_form v c).next ≤ n) (sym b.wide) u)).wrong_runs x))),
    )

  pub agreement : (v ops : ℕ) (c : Command) → Proper v ops c → Agreement K v ops c
  agreement v ops c p = record { seen_in_runs = seen v ops c p; runs_seen = runs v ops c p; never_wrong = never v ops c p }
