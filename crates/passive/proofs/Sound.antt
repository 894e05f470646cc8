-- Each outcome that a passive form has under an assignment is that of a run.
use Rattle.std.proofs.Common.{◌≡◌, ℕ, Bool, true, ◌&&◌, ◌||◌, List, set, Some, None, sym, ap, ◌∙◌, subst, ap₂, inl, inr}
use Rattle.std.proofs.lemmas.Bool.{and_parts, or_cases, not-true, false≢true}
use Rattle.std.proofs.lemmas.List.{map-set}
use Rattle.kinds.specs.Kind.{KindOf}
use Rattle.kinds.specs.declared.numbered.Name.{Name}
use Rattle.routine.specs.declared.rows.Joint.{Joint}
use Rattle.routine.specs.declared.rows.Joint.TheVariants.{Sequence, Choice, Catch}
use Rattle.routine.specs.Commands.{Single, assert, assume, assign, skip, raise, Command, single, join}
use Rattle.routine.specs.Runs.{value_in, State, Outcome, normal, raised, wrong, Run, assert_holds, assert_fails, assume_holds, assigns, skips, raises, sequence_on, sequence_raised, sequence_wrong, catch_on, catch_normal, catch_wrong, choice_left, choice_right}
use Rattle.routine.specs.Standing.{ProperSingle, Proper}
use Rattle.passive.specs.Passive.{name, Names, merge, Passified, entry, leaves_normal, leaves_raised, joined, passify_single, passify}
use Rattle.passive.specs.Outcomes.{Assignment, named, Outcomes, outcomes}
use Rattle.passive.specs.Uses.{Sized}
use Rattle.passive.specs.Agreement.{Reads}
use Rattle.passive.proofs.Endings.{agreed, leaving, entering, normal_merge, raised_merge, joined_is}
use Rattle.passive.proofs.Values.{value_renamed}
use Rattle.passive.proofs.Merging.{NamesOf, reads_left, reads_right}
use Rattle.passive.proofs.Forms.{Formed, entry_names, merges_both, formed}

module _ {V : Type 0} (K : KindOf V) (a : Assignment V) where
  -- what is true of these outcomes and maps is so in some run from the state
  pub record Sounds (c : Command) (s : State V) (o : Outcomes) (n x : Names) : Type 0 where
    pub on_normal : o.N ≡ true → (t : State V) × Run K c s (normal t) × Reads K a n t
    pub on_raised : o.X ≡ true → (t : State V) × Run K c s (raised t) × Reads K a x t
    pub on_wrong : o.W ≡ true → Run K c s wrong

  abbrev pub SoundAt : Command → State V → Passified → Type 0
  SoundAt c s p = Sounds c s (outcomes K a p.code) p.normal p.raised

  -- a run of the left part by which the whole is left is a run of the whole
  sound_leaving : (j : Joint) (c d : Command) (s : State V) (l : Passified) (o : Outcomes) → Sounds c s o l.normal l.raised
      → Sounds (join j c d) s (leaving j o) (leaves_normal j l.normal) (leaves_raised j l.raised)
  sound_leaving Sequence c d s l o f = record {
    on_normal = λ h. absurd (false≢true h);
    on_raised = λ h. let x = f.on_raised h in (x.0, sequence_raised x.1, x.2);
    on_wrong = λ h. sequence_wrong (f.on_wrong h);
  }
  sound_leaving Choice c d s l o f = record {
    on_normal = λ h. let x = f.on_normal h in (x.0, choice_left x.1, x.2);
    on_raised = λ h. let x = f.on_raised h in (x.0, choice_left x.1, x.2);
    on_wrong = λ h. choice_left (f.on_wrong h);
  }
  sound_leaving Catch c d s l o f = record {
    on_normal = λ h. let x = f.on_normal h in (x.0, catch_normal x.1, x.2);
    on_raised = λ h. absurd (false≢true h);
    on_wrong = λ h. catch_wrong (f.on_wrong h);
  }

  -- where the right part is entered, its runs from the state there are runs of the whole
  sound_entering : (j : Joint) (c d : Command) (m : List Name) (s : State V) (l : Passified) (o : Outcomes)
      → Sounds c s o l.normal l.raised → Reads K a (Some m) s → entering j o ≡ true
      → (t : State V) × Reads K a (entry j m l.normal l.raised) t × ((e : Outcome V) → Run K d t e → Run K (join j c d) s e)
  sound_entering Sequence c d m s l o f g h = let x = f.on_normal h in (x.0, x.2, λ e r. sequence_on x.1 r)
  sound_entering Choice c d m s l o f g h = (s, g, λ e r. choice_right r)
  sound_entering Catch c d m s l o f g h = let x = f.on_raised h in (x.0, x.2, λ e r. catch_on x.1 r)

  -- an end by which the left part leaves the whole, or one of the right part once entered: the map of both reads its state
  from_either : (v k : ℕ) (m n : Names) (Ends : State V → Type 0) (x g y : Bool) → Sized v m → Sized v n
      → (x ≡ true → (t : State V) × Ends t × Reads K a m t) → (g ≡ true → y ≡ true → (t : State V) × Ends t × Reads K a n t)
      → ((x && agreed K a (merge m n k).left) || (g && (y && agreed K a (merge m n k).right))) ≡ true
      → (t : State V) × Ends t × Reads K a (merge m n k).names t
  from_either v k m n Ends x g y p q f f' e = elim (or_cases _ _ e) [
    | inl u ↦ (let u' = and_parts _ _ u in let h = f u'.0 in (h.0, h.1, reads_left K a v k m n h.0 p q u'.1 h.2))
    | inr u ↦ (let u' = and_parts _ _ u in let u'' = and_parts _ _ u'.1 in let h = f' u'.0 u''.0 in
        (h.0, h.1, reads_right K a v k m n h.0 p q u''.1 h.2))
  ]

  sound_joined : (v ops k : ℕ) (j : Joint) (c d : Command) (m : List Name) (s : State V) (l r : Passified) → Formed v ops k l
      → Formed v ops l.next r → Reads K a (Some m) s → SoundAt c s l → ((t : State V) → Reads K a (entry j m l.normal l.raised) t → SoundAt d t r)
      → SoundAt (join j c d) s (joined j l r)
  sound_joined v ops k j c d m s l r p q g f f' =
      let n = normal_merge j l r in
      let x = raised_merge j l r in
      let h = merges_both v ops k j l r p q in
      let o = outcomes K a l.code in
      let left = sound_leaving j c d s l o f in
      let enter = sound_entering j c d m s l o f g in
      subst (λ (z : Outcomes). Sounds (join j c d) s z n.names x.names) (sym (joined_is K a j l r)) (record {
        on_normal = from_either v r.next (leaves_normal j l.normal) r.normal (λ t. Run K (join j c d) s (normal t)) _ _ _
            h.left_normal.0 q.normal.0 left.on_normal
            (λ i e. let t = enter i in let y = (f' t.0 t.1).on_normal e in (y.0, t.2 (normal y.0) y.1, y.2));
        on_raised = from_either v n.next (leaves_raised j l.raised) r.raised (λ t. Run K (join j c d) s (raised t)) _ _ _
            h.left_raised.0 q.raised.0 left.on_raised
            (λ i e. let t = enter i in let y = (f' t.0 t.1).on_raised e in (y.0, t.2 (raised y.0) y.1, y.2));
        on_wrong = λ e. elim (or_cases _ _ e) [
          | inl u ↦ left.on_wrong u
          | inr u ↦ (let u' = and_parts _ _ u in let t = enter u'.0 in t.2 wrong ((f' t.0 t.1).on_wrong u'.1))
        ];
      })

  sound_single : (v ops : ℕ) (c : Single) (m : List Name) (k : ℕ) (s : State V) → ProperSingle v ops c → NamesOf v k (Some m)
      → Reads K a (Some m) s → SoundAt (single c) s (passify_single c m k)
  sound_single v ops (assert t) m k s w z f =
      let e = value_renamed K v ops m a s t z.0 f w in record {
        on_normal = λ h. (s, assert_holds (ap K.truth (sym e) ∙ h), f);
        on_raised = λ h. absurd (false≢true h);
        on_wrong = λ h. assert_fails (ap K.truth (sym e) ∙ not-true _ h);
      }
  sound_single v ops (assume t) m k s w z f =
      let e = value_renamed K v ops m a s t z.0 f w in record {
        on_normal = λ h. (s, assume_holds (ap K.truth (sym e) ∙ h), f);
        on_raised = λ h. absurd (false≢true h);
        on_wrong = λ h. absurd (false≢true h);
      }
  sound_single v ops (assign x t) m k s w z f =
      let e = value_renamed K v ops m a s t z.0 f w.1 in record {
        on_normal = λ h. (
          set s x.0 (value_in K s t),
          assigns,
          ap₂ (λ (y : State V) (u : V). set y x.0 u) f (sym e ∙ sym (K.same_equal _ _ h)) ∙ sym (map-set (named K a) m x.0 (name k)),
        );
        on_raised = λ h. absurd (false≢true h);
        on_wrong = λ h. absurd (false≢true h);
      }
  sound_single v ops skip m k s w z f = record {
    on_normal = λ h. (s, skips, f);
    on_raised = λ h. absurd (false≢true h);
    on_wrong = λ h. absurd (false≢true h);
  }
  sound_single v ops raise m k s w z f = record {
    on_normal = λ h. absurd (false≢true h);
    on_raised = λ h. (s, raises, f);
    on_wrong = λ h. absurd (false≢true h);
  }

  pub sound : (v ops : ℕ) (c : Command) (m : Names) (k : ℕ) (s : State V) → Proper v ops c → NamesOf v k m → Reads K a m s
      → SoundAt c s (passify c m k)
  sound v ops c None k s w z f = absurd f
  sound v ops (single c) (Some m) k s w z f = sound_single v ops c m k s w z f
  sound v ops (join j c d) (Some m) k s w z f =
      let l = passify c (Some m) k in
      let p = formed v ops c (Some m) k w.0 z in
      let z' = entry_names v ops k j m l z p in
      sound_joined v ops k j c d m s l (passify d (entry j m l.normal l.raised) l.next) p (formed v ops d (entry j m l.normal l.raised) l.next w.1 z') f
      (sound v ops c (Some m) k s w.0 z f) (λ t g. sound v ops d (entry j m l.normal l.raised) l.next t w.1 z' g)
