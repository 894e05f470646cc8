-- What the calls for one row make: nodes that say what the row may do.
use Rattle.std.proofs.Common.{◌≡◌, ℕ, Bool, true, false, not, ◌&&◌, ◌||◌, [], ap, ◌∙◌, ap₂, arith}
use Rattle.kinds.specs.Kind.{KindOf}
use Rattle.kinds.specs.declared.numbered.Name.{Name}
use Rattle.kinds.specs.declared.numbered.Node.{Node}
use Rattle.routine.specs.declared.rows.Joint.{Joint}
use Rattle.routine.specs.Commands.{Term}
use Rattle.passive.specs.Passive.{PassiveSingle}
use Rattle.passive.specs.Outcomes.{Assignment, named, value_under, Outcomes, single_outcomes, joined_outcomes, single_nodes, joint_nodes}
use Rattle.formula.specs.declared.stores.Making.{Making}
use Rattle.formula.specs.declared.stores.Making.TheVariants as making
use Rattle.formula.specs.Store.{yes_or_no, node_no, node_yes, Meaning, Lawful, Grown, Makes}
use Rattle.conditions.specs.Reading.{Reading, alone, joins}
use Rattle.conditions.specs.Made.{Ends, TermMade, SingleMade, assert_made, assume_made, let_made, skip_made, raise_made, stop_made, OrAndMade, or_and_made, JointMade, sequence_made, catch_made, choice_made, RowMade}
use Rattle.conditions.specs.Valued.{Says, EndsUsed}
use Rattle.conditions.specs.Asks.{reading_nodes}
use Rattle.conditions.proofs.Frames.{grown_none, grown_then, grown_by}
use Rattle.conditions.proofs.TermLaws.{term_grown, term_used, term_value}

pub yes_or_no_truth : {V : Type 0} (K : KindOf V) (b : Bool) → K.truth (yes_or_no K b) ≡ b
yes_or_no_truth K true = K.yes_true
yes_or_no_truth K false = K.no_false

module _ {V : Type 0} {S : Type 0} (K : KindOf V) (M : Meaning V S) (a : Assignment V) where
  -- node p is in use, and says b under the covered assignment
  pub record Known (s : S) (p : Node) (b : Bool) : Type 0 where
    pub used : M.in_use s p ≡ true
    pub covered : M.covers s a
    pub says : K.truth (M.value s p a) ≡ b

  later : {s t : S} {k : ℕ} {p : Node} {b : Bool} → Grown M s k t → Known s p b → Known t p b
  later {p = p} g x = record {
    used = g.still_used p x.used;
    covered = (g.covers_same a).1 x.covered;
    says = ap K.truth (g.kept p a x.used x.covered) ∙ x.says;
  }

  known_and : {s t : S} {p q n : Node} {b c : Bool} → Makes K M s (making.And p q) n t → Known s p b → Known s q c → Known t n (b && c)
  known_and m x y = record {
    used = m.used;
    covered = (m.grown.covers_same a).1 x.covered;
    says = ap K.truth (m.as_stated a x.covered) ∙ yes_or_no_truth K _ ∙ ap₂ ◌&&◌ x.says y.says;
  }

  known_or : {s t : S} {p q n : Node} {b c : Bool} → Makes K M s (making.Or p q) n t → Known s p b → Known s q c → Known t n (b || c)
  known_or m x y = record {
    used = m.used;
    covered = (m.grown.covers_same a).1 x.covered;
    says = ap K.truth (m.as_stated a x.covered) ∙ yes_or_no_truth K _ ∙ ap₂ ◌||◌ x.says y.says;
  }

  pub known_not : {s t : S} {p n : Node} {b : Bool} → Makes K M s (making.Not p) n t → Known s p b → Known t n (not b)
  known_not m x = record {
    used = m.used;
    covered = (m.grown.covers_same a).1 x.covered;
    says = ap K.truth (m.as_stated a x.covered) ∙ yes_or_no_truth K _ ∙ ap not x.says;
  }

  known_no : (s : S) → Lawful K M s → M.covers s a → Known s node_no false
  known_no s h cov = record { used = h.no_used; covered = cov; says = ap K.truth (h.zero_no a cov) ∙ K.no_false }

  known_yes : (s : S) → Lawful K M s → M.covers s a → Known s node_yes true
  known_yes s h cov = record { used = h.yes_used; covered = cov; says = ap K.truth (h.one_yes a cov) ∙ K.yes_true }

  -- three nodes in use say o
  pub record EndsKnown (s : S) (e : Ends) (o : Outcomes) : Type 0 where
    pub N : Known s e.N o.N
    pub X : Known s e.X o.X
    pub W : Known s e.W o.W

  pub ends_known : {s : S} {e : Ends} {o : Outcomes} → M.covers s a → EndsUsed M s e → Says K M s a e o → EndsKnown s e o
  ends_known cov u h = record {
    N = record { used = u.N; covered = cov; says = h.N };
    X = record { used = u.X; covered = cov; says = h.X };
    W = record { used = u.W; covered = cov; says = h.W };
  }

  known_says : {s : S} {e : Ends} {o : Outcomes} → EndsKnown s e o → Says K M s a e o
  known_says h = record { N = h.N.says; X = h.X.says; W = h.W.says }

  pub says_later : {s t : S} {k : ℕ} {e : Ends} {o : Outcomes} → Grown M s k t → M.covers s a → EndsUsed M s e → Says K M s a e o → Says K M t a e o
  says_later g cov u h =
      let x = ends_known cov u h in
      known_says (record { N = later g x.N; X = later g x.X; W = later g x.W })

module _ {V : Type 0} {S : Type 0} (K : KindOf V) (M : Meaning V S) (steps : S → Making → Node → S → Type 0)
    (lawful : (s : S) → Lawful K M s)
    (sound : (s : S) (c : Making) (n : Node) (t : S) → steps s c n t → Makes K M s c n t)
  where
    pub made : {s t : S} {c : Making} {n : Node} → steps s c n t → Makes K M s c n t
    made h = sound _ _ _ _ h

    pub grew : {s t : S} {c : Making} {n : Node} → steps s c n t → Grown M s 1 t
    grew h = (made h).grown

    -- how many nodes

    pub or_and_grown : {s t : S} {p q r n : Node} → OrAndMade steps s p q r t n → Grown M s 2 t
    or_and_grown (or_and_made h k) = grown_then M (grew h) (grew k)

    single_grown : {s t : S} {p : PassiveSingle} {e : Ends} → SingleMade steps s p t e → Grown M s (single_nodes p) t
    single_grown (assert_made x h) = grown_then M (term_grown K M steps sound x) (grew h)
    single_grown (assume_made x) = term_grown K M steps sound x
    single_grown (let_made h x k) = grown_by M (omega arith) (grown_then M (grew h) (grown_then M (term_grown K M steps sound x) (grew k)))
    single_grown (skip_made {s = s}) = grown_none M s
    single_grown (raise_made {s = s}) = grown_none M s
    single_grown (stop_made {s = s}) = grown_none M s

    joint_grown : {s t : S} {j : Joint} {a b e : Ends} → JointMade steps s j a b t e → Grown M s (joint_nodes j) t
    joint_grown (sequence_made h x y) = grown_then M (grew h) (grown_then M (or_and_grown x) (or_and_grown y))
    joint_grown (catch_made x h y) = grown_then M (or_and_grown x) (grown_then M (grew h) (or_and_grown y))
    joint_grown (choice_made h k l) = grown_then M (grew h) (grown_then M (grew k) (grew l))

    pub row_grown : (s t : S) (rd : Reading) (a b e : Ends) → RowMade steps s rd a b t e → Grown M s (reading_nodes rd) t
    row_grown s t (alone p) a b e h = single_grown h
    row_grown s t (joins j) a b e h = joint_grown h

    -- that they are in use

    pub or_and_used : {s t : S} {p q r n : Node} → OrAndMade steps s p q r t n → M.in_use t n ≡ true
    or_and_used (or_and_made h k) = (made k).used

    single_used : {s t : S} {p : PassiveSingle} {e : Ends} → SingleMade steps s p t e → EndsUsed M t e
    single_used (assert_made {t = t} {n = n} x h) =
        record { N = (grew h).still_used n (term_used K M steps sound x tt); X = (lawful t).no_used; W = (made h).used }
    single_used (assume_made {t = t} x) = record { N = term_used K M steps sound x tt; X = (lawful t).no_used; W = (lawful t).no_used }
    single_used (let_made {t = t} h x k) = record { N = (made k).used; X = (lawful t).no_used; W = (lawful t).no_used }
    single_used (skip_made {s = s}) = record { N = (lawful s).yes_used; X = (lawful s).no_used; W = (lawful s).no_used }
    single_used (raise_made {s = s}) = record { N = (lawful s).no_used; X = (lawful s).yes_used; W = (lawful s).no_used }
    single_used (stop_made {s = s}) = record { N = (lawful s).no_used; X = (lawful s).no_used; W = (lawful s).no_used }

    joint_used : {s t : S} {j : Joint} {a b e : Ends} → JointMade steps s j a b t e → EndsUsed M t e
    joint_used (sequence_made {n = n} {x = x} h k l) =
        let g = or_and_grown l in
        record { N = g.still_used n ((or_and_grown k).still_used n (made h).used); X = g.still_used x (or_and_used k); W = or_and_used l }
    joint_used (catch_made {n = n} {x = x} h k l) =
        let g = or_and_grown l in
        record { N = g.still_used n ((grew k).still_used n (or_and_used h)); X = g.still_used x (made k).used; W = or_and_used l }
    joint_used (choice_made {n = n} {x = x} h k l) =
        let g = grew l in
        record { N = g.still_used n ((grew k).still_used n (made h).used); X = g.still_used x (made k).used; W = (made l).used }

    pub row_used : (s t : S) (rd : Reading) (a b e : Ends) → RowMade steps s rd a b t e → EndsUsed M t e
    row_used s t (alone p) a b e h = single_used h
    row_used s t (joins j) a b e h = joint_used h

    -- what they say

    term_known : {s t : S} {is : Term Name} {n : Node} (a : Assignment V) → TermMade steps s [] is t n → M.covers s a → Known K M a t n (K.truth (value_under K a is))
    term_known a x cov = record {
      used = term_used K M steps sound x tt;
      covered = ((term_grown K M steps sound x).covers_same a).1 cov;
      says = ap K.truth (term_value K M steps sound x a cov);
    }

    let_known : {s u v t : S} {f : Name} {m k n : Node} {is : Term Name} (a : Assignment V) → steps s (making.Name f) m u → TermMade steps u [] is v k
        → steps v (making.Same m k) n t → M.covers s a → Known K M a t n (K.same (named K a f) (value_under K a is))
    let_known {m = m} a h x k cov =
        let i = made h in
        let j = made k in
        let cu = (i.grown.covers_same a).1 cov in
        let g = term_grown K M steps sound x in
        let cv = (g.covers_same a).1 cu in
        record {
          used = j.used;
          covered = (j.grown.covers_same a).1 cv;
          says = ap K.truth (j.as_stated a cv) ∙ yes_or_no_truth K _
              ∙ ap₂ K.same (g.kept m a i.used cu ∙ i.as_stated a cov) (term_value K M steps sound x a cu);
        }

    or_and_known : {s t : S} {p q r n : Node} {b c d : Bool} (a : Assignment V) → OrAndMade steps s p q r t n
        → Known K M a s p b → Known K M a s q c → Known K M a s r d → Known K M a t n (b || (c && d))
    or_and_known a (or_and_made h k) x y z = known_or K M a (made k) (later K M a (grew h) x) (known_and K M a (made h) y z)

    pub single_says : {s t : S} {p : PassiveSingle} {e : Ends} → SingleMade steps s p t e → (a : Assignment V) → M.covers s a
        → Says K M t a e (single_outcomes K a p)
    single_says (assert_made {t = t} x h) a cov =
        let n = term_known a x cov in
        let w = known_not K M a (made h) n in
        known_says K M a (record { N = later K M a (grew h) n; X = known_no K M a t (lawful t) w.covered; W = w })
    single_says (assume_made {t = t} x) a cov =
        let n = term_known a x cov in
        let z = known_no K M a t (lawful t) n.covered in
        known_says K M a (record { N = n; X = z; W = z })
    single_says (let_made {t = t} h x k) a cov =
        let n = let_known a h x k cov in
        let z = known_no K M a t (lawful t) n.covered in
        known_says K M a (record { N = n; X = z; W = z })
    single_says (skip_made {s = s}) a cov =
        let z = known_no K M a s (lawful s) cov in
        known_says K M a (record { N = known_yes K M a s (lawful s) cov; X = z; W = z })
    single_says (raise_made {s = s}) a cov =
        let z = known_no K M a s (lawful s) cov in
        known_says K M a (record { N = z; X = known_yes K M a s (lawful s) cov; W = z })
    single_says (stop_made {s = s}) a cov =
        let z = known_no K M a s (lawful s) cov in
        known_says K M a (record { N = z; X = z; W = z })

    pub joint_says : {s t : S} {j : Joint} {l r e : Ends} {p q : Outcomes} → JointMade steps s j l r t e → (a : Assignment V)
        → EndsKnown K M a s l p → EndsKnown K M a s r q → Says K M t a e (joined_outcomes j p q)
    joint_says (sequence_made h k l) a x y =
        let g = grew h in
        let g' = grown_then M g (or_and_grown k) in
        let n = known_and K M a (made h) x.N y.N in
        let o = or_and_known a k (later K M a g x.X) (later K M a g x.N) (later K M a g y.X) in
        let w = or_and_known a l (later K M a g' x.W) (later K M a g' x.N) (later K M a g' y.W) in
        let f = or_and_grown l in
        known_says K M a (record { N = later K M a f (later K M a (or_and_grown k) n); X = later K M a f o; W = w })
    joint_says (catch_made h k l) a x y =
        let g = or_and_grown h in
        let g' = grown_then M g (grew k) in
        let n = or_and_known a h x.N x.X y.N in
        let o = known_and K M a (made k) (later K M a g x.X) (later K M a g y.X) in
        let w = or_and_known a l (later K M a g' x.W) (later K M a g' x.X) (later K M a g' y.W) in
        let f = or_and_grown l in
        known_says K M a (record { N = later K M a f (later K M a (grew k) n); X = later K M a f o; W = w })
    joint_says (choice_made h k l) a x y =
        let g = grew h in
        let g' = grown_then M g (grew k) in
        let n = known_or K M a (made h) x.N y.N in
        let o = known_or K M a (made k) (later K M a g x.X) (later K M a g y.X) in
        let w = known_or K M a (made l) (later K M a g' x.W) (later K M a g' y.W) in
        known_says K M a (record { N = later K M a (grew l) (later K M a (grew k) n); X = later K M a (grew l) o; W = w })
