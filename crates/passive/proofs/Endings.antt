-- What renaming at its ends does to a passive form's outcomes, and what a joined form's outcomes are.
use Rattle.std.proofs.Common.{◌≡◌, Bool, true, false, ◌&&◌, ◌||◌, List, [], ◌∷◌, sym, refl, ap, ◌∙◌, ap₂}
use mathlib.Core.Bool.{and-true, and_assoc}
use Rattle.kinds.specs.Kind.{KindOf}
use Rattle.routine.specs.declared.rows.Joint.{Joint}
use Rattle.routine.specs.declared.rows.Joint.TheVariants.{Sequence, Choice, Catch}
use Rattle.passive.specs.Passive.{Passive, p_join, Renamed, Merge, merge, let_of, then_lets, tail, guard, Passified, leaves_normal, leaves_raised, joined}
use Rattle.passive.specs.Outcomes.{Assignment, named, Outcomes, joined_outcomes, outcomes}

-- the outcomes of a test that neither raises nor goes wrong, and of one that raises where it holds
abbrev pub given : Bool → Outcomes
given b = record { N = b; X = false; W = false }

abbrev given_raised : Bool → Outcomes
given_raised b = record { N = false; X = b; W = false }

-- normal ends only where e, raised ones only where g
abbrev pub ended : Outcomes → Bool → Bool → Outcomes
ended o e g = record { N = o.N && e; X = o.X && g; W = o.W }

or_none : (b n : Bool) → (b || (n && false)) ≡ b
or_none true n = refl
or_none false true = refl
or_none false false = refl

ended_true : (o : Outcomes) → ended o true true ≡ o
ended_true o = λ i. record { N = and-true o.N i; X = and-true o.X i; W = o.W }

then_given : (o : Outcomes) (b : Bool) → joined_outcomes Sequence o (given b) ≡ ended o b true
then_given o b = λ i. record { N = o.N && b; X = (or_none o.X o.N ∙ sym (and-true o.X)) i; W = or_none o.W o.N i }

caught_given : (o : Outcomes) (b : Bool) → joined_outcomes Catch o (given_raised b) ≡ ended o true b
caught_given o b = λ i. record { N = (or_none o.N o.X ∙ sym (and-true o.N)) i; X = o.X && b; W = or_none o.W o.X i }

given_then_raise : (b : Bool) → joined_outcomes Sequence (given b) (given_raised true) ≡ given_raised b
given_then_raise true = refl
given_then_raise false = refl

-- the part of the left form's outcomes that is the whole's, and whether control goes on into the right part
abbrev pub leaving : Joint → Outcomes → Outcomes
leaving Sequence o = record { N = false; X = o.X; W = o.W }
leaving Choice o = o
leaving Catch o = record { N = o.N; X = false; W = o.W }

abbrev pub entering : Joint → Outcomes → Bool
entering Sequence o = o.N
entering Choice o = true
entering Catch o = o.X

abbrev pub either : Outcomes → Bool → Outcomes → Outcomes
either l e r = record { N = l.N || (e && r.N); X = l.X || (e && r.X); W = l.W || (e && r.W) }

joined_either : (j : Joint) (o r : Outcomes) → joined_outcomes j o r ≡ either (leaving j o) (entering j o) r
joined_either Sequence o r = refl
joined_either Choice o r = refl
joined_either Catch o r = refl

leaving_ended : (j : Joint) (o : Outcomes) (e g : Bool) → leaving j (ended o e g) ≡ ended (leaving j o) e g
leaving_ended Sequence o e g = refl
leaving_ended Choice o e g = refl
leaving_ended Catch o e g = refl

-- the two merges of a joined form
abbrev pub normal_merge : Joint → Passified → Passified → Merge
normal_merge j l r = merge (leaves_normal j l.normal) r.normal r.next

abbrev pub raised_merge : Joint → Passified → Passified → Merge
raised_merge j l r = merge (leaves_raised j l.raised) r.raised (normal_merge j l r).next

module _ {V : Type 0} (K : KindOf V) (a : Assignment V) where
  -- each new name has the old one's value
  abbrev pub agreed : List Renamed → Bool
  agreed [] = true
  agreed (r ∷ rs) = K.same (named K a r.new) (named K a r.old) && agreed rs

  then_lets_are : (p : Passive) (rs : List Renamed) → outcomes K a (then_lets p rs) ≡ ended (outcomes K a p) (agreed rs) true
  then_lets_are p [] = sym (ended_true (outcomes K a p))
  then_lets_are p (r ∷ rs) =
      let o = outcomes K a p in
      let e = K.same (named K a r.new) (named K a r.old) in
      then_lets_are (p_join Sequence p (let_of r)) rs
      ∙ ap (λ (z : Outcomes). ended z (agreed rs) true) (then_given o e)
      ∙ (λ i. record { N = and_assoc o.N e (agreed rs) i; X = and-true (o.X && true) i; W = o.W })

  lets_are : (r : Renamed) (rs : List Renamed) → outcomes K a (then_lets (let_of r) rs) ≡ given (agreed (r ∷ rs))
  lets_are r rs = then_lets_are (let_of r) rs

  tail_is : (p : Passive) (rs : List Renamed) → outcomes K a (tail p rs) ≡ ended (outcomes K a p) (agreed rs) true
  tail_is p [] = sym (ended_true (outcomes K a p))
  tail_is p (r ∷ rs) = ap (joined_outcomes Sequence (outcomes K a p)) (lets_are r rs) ∙ then_given (outcomes K a p) (agreed (r ∷ rs))

  guard_is : (p : Passive) (rs : List Renamed) → outcomes K a (guard p rs) ≡ ended (outcomes K a p) true (agreed rs)
  guard_is p [] = sym (ended_true (outcomes K a p))
  guard_is p (r ∷ rs) =
      let o = outcomes K a p in
      ap (λ (z : Outcomes). joined_outcomes Catch o (joined_outcomes Sequence z (given_raised true))) (lets_are r rs)
      ∙ ap (joined_outcomes Catch o) (given_then_raise (agreed (r ∷ rs)))
      ∙ caught_given o (agreed (r ∷ rs))

  ends_are : (p : Passive) (ns xs : List Renamed) → outcomes K a (guard (tail p ns) xs) ≡ ended (outcomes K a p) (agreed ns) (agreed xs)
  ends_are p ns xs =
      let o = outcomes K a p in
      guard_is (tail p ns) xs
      ∙ ap (λ (z : Outcomes). ended z true (agreed xs)) (tail_is p ns)
      ∙ (λ i. record { N = and-true (o.N && agreed ns) i; X = ap (λ (b : Bool). b && agreed xs) (and-true o.X) i; W = o.W })

  -- where control goes on, nothing is renamed
  entering_ended : (j : Joint) (l r : Passified) (o : Outcomes)
      → entering j (ended o (agreed (normal_merge j l r).left) (agreed (raised_merge j l r).left)) ≡ entering j o
  entering_ended Sequence l r o = and-true o.N
  entering_ended Choice l r o = refl
  entering_ended Catch l r o = and-true o.X

  -- the outcomes of the left part where control leaves it, and those of the right part where it is entered, each after its renaming
  pub joined_is : (j : Joint) (l r : Passified) →
      let n = normal_merge j l r in let x = raised_merge j l r in
      outcomes K a (joined j l r).code
      ≡ either (ended (leaving j (outcomes K a l.code)) (agreed n.left) (agreed x.left)) (entering j (outcomes K a l.code))
      (ended (outcomes K a r.code) (agreed n.right) (agreed x.right))
  joined_is j l r =
      let n = normal_merge j l r in let x = raised_merge j l r in
      let o = outcomes K a l.code in
      let q = ended (outcomes K a r.code) (agreed n.right) (agreed x.right) in
      ap₂ (joined_outcomes j) (ends_are l.code n.left x.left) (ends_are r.code n.right x.right)
      ∙ joined_either j (ended o (agreed n.left) (agreed x.left)) q
      ∙ ap₂ (λ (z : Outcomes) (e : Bool). either z e q) (leaving_ended j o (agreed n.left) (agreed x.left)) (entering_ended j l r o)
