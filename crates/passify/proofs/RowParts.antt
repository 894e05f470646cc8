-- The command that ends at a row: a single one, or two parts joined; and what measuring the parts says of the whole.
use Rattle.std.proofs.Common.{◌≡◌, ℕ, ◌-◌, ◌<◌, List, get_or, Some, None, Option, sym, refl, ap, ◌∙◌, subst, arith}
use Rattle.std.proofs.lemmas.Option.{none-some}
use Rattle.kinds.specs.declared.numbered.Name.{Name}
use Rattle.routine.specs.declared.rows.TermRow.{TermRow}
use Rattle.routine.specs.declared.rows.CommandRow.{CommandRow}
use Rattle.routine.specs.declared.rows.Joint.{Joint}
use Rattle.routine.specs.declared.rows.Joint.TheVariants.{Sequence, Choice, Catch}
use Rattle.routine.specs.Rows.{tag_of, joint_of}
use Rattle.routine.specs.Commands.{Single, assert, assume, assign, skip, raise, Command, single, join}
use Rattle.routine.specs.Standing.{no_row, single_tag, joint_tag, Fields, EndsAt}
use Rattle.passive.specs.Passive.{Names, passify_single, entry}
use Rattle.passify.specs.declared.measuring.Measured.{Measured}
use Rattle.passify.specs.Measuring.{sizes, joined_sizes, measured, Fits, SomeSingle, Measurable, Measures}
use Rattle.passify.proofs.Sizes.{measured_up, fits_parts}

abbrev pub at : List CommandRow → ℕ → CommandRow
at cs i = get_or cs i no_row

-- how the row joins two commands, if it does
abbrev pub joint_at : List CommandRow → ℕ → Option Joint
joint_at cs i = joint_of (tag_of (at cs i).tag)

-- from maps that are the same
module _ (cs : List CommandRow) (ts : List TermRow) (i k : ℕ) {o o' : Names} (is : o ≡ o') where
  pub measurable_same : Measurable cs ts i o k → Measurable cs ts i o' k
  measurable_same h = subst (λ o. Measurable cs ts i o k) is h

  pub measures_same : {s : Measured} → Measures cs ts i o k s → Measures cs ts i o' k s
  measures_same {s = s} h = subst (λ o. Measures cs ts i o k s) is h

of_single : (c : Single) → joint_of (tag_of (single_tag c)) ≡ None
of_single (assert t) = refl
of_single (assume t) = refl
of_single (assign x t) = refl
of_single skip = refl
of_single raise = refl

of_joint : (j : Joint) → joint_of (tag_of (joint_tag j)) ≡ Some j
of_joint Sequence = refl
of_joint Choice = refl
of_joint Catch = refl

module _ (v ops : ℕ) (cs : List CommandRow) (ts : List TermRow) (i : ℕ) where
  tagged : {n : ℕ} → (at cs i).tag ≡ n → joint_at cs i ≡ joint_of (tag_of n)
  tagged e = ap (λ n. joint_of (tag_of n)) e

  pub record Parts (joint : Joint) (c : Command) : Type 0 where
    pub first : Command
    pub second : Command
    pub is : c ≡ join joint first second
    pub falls : (at cs i).left < i
    pub at_left : EndsAt v ops cs ts (at cs i).left first
    pub at_right : EndsAt v ops cs ts (i - 1) second

  pub parts : (joint : Joint) (c : Command) → EndsAt v ops cs ts i c → joint_at cs i ≡ Some joint → Parts joint c
  parts joint (single c) e s = absurd (none-some _ (sym (tagged e.1 ∙ of_single c) ∙ s))
  parts joint (join j a b) e s =
      let same : Some j ≡ Some joint = sym (tagged e.1 ∙ of_joint j) ∙ s in
      let joint_is : j ≡ joint = cc in
      record { first = a; second = b; is = ap (λ x. join x a b) joint_is; falls = omega (arith, e.2); at_left = e.3; at_right = e.4 }

  pub record Alone (c : Command) : Type 0 where
    pub command : Single
    pub is : c ≡ single command
    pub tag : (at cs i).tag ≡ single_tag command
    pub fields : Fields v ops ts (at cs i) command

  pub alone : (c : Command) → EndsAt v ops cs ts i c → joint_at cs i ≡ None → Alone c
  alone (single c) e n = record { command = c; is = refl; tag = e.1; fields = e.2 }
  alone (join j a b) e n = absurd (none-some _ (sym n ∙ (tagged e.1 ∙ of_joint j)))

module _ (cs : List CommandRow) (ts : List TermRow) (i : ℕ) (k : ℕ) where
  module _ (m : List Name) where
    -- a single command
    module _ (n : joint_at cs i ≡ None) where
      pub single_measurable : Measurable cs ts i (Some m) k → SomeSingle ts (at cs i) (λ c. Fits (sizes (passify_single c m k)))
      single_measurable (v, ops, c, e, f) =
          let s = alone v ops cs ts i c e n in
          (v, ops, s.command, s.tag, s.fields, subst (λ (x : Command). Fits (measured x (Some m) k)) s.is f)

    -- two parts joined
    module _ (j : Joint) (s : joint_at cs i ≡ Some j) where
      abbrev left_sizes : Command → Measured
      left_sizes a = measured a (Some m) k

      abbrev start_after : Measured → Names
      start_after l = entry j m l.exits.normal l.exits.raised

      abbrev right_sizes : Command → Command → Measured
      right_sizes a b = measured b (start_after (left_sizes a)) (left_sizes a).next

      pub fit_both :
          (v ops : ℕ) (c : Command) (p : Parts v ops cs ts i j c) → Fits (measured c (Some m) k)
          → Fits (left_sizes p.first) × Fits (right_sizes p.first p.second)
      fit_both v ops c p f =
          let a = left_sizes p.first in
          fits_parts j a (right_sizes p.first p.second) (measured_up p.second (start_after a) a.next)
          (subst (λ (x : Command). Fits (measured x (Some m) k)) p.is f)

      pub left_falls : Measurable cs ts i (Some m) k → (at cs i).left < i
      left_falls (v, ops, c, e, f) = (parts v ops cs ts i j c e s).falls

      pub left_measurable : Measurable cs ts i (Some m) k → Measurable cs ts (at cs i).left (Some m) k
      left_measurable (v, ops, c, e, f) = let p = parts v ops cs ts i j c e s in (v, ops, p.first, p.at_left, (fit_both v ops c p f).0)

      module _ (l : Measured) (ml : Measures cs ts (at cs i).left (Some m) k l) (start : Names) (enters : start ≡ start_after l) where
        pub right_is :
            (v ops : ℕ) (c : Command) (p : Parts v ops cs ts i j c)
            → measured p.second start l.next ≡ right_sizes p.first p.second
        right_is v ops c p =
            ap (λ x. measured p.second x l.next) enters
            ∙ ap (λ (x : Measured). measured p.second (start_after x) x.next) (ml v ops p.first p.at_left)

        pub right_measurable : Measurable cs ts i (Some m) k → Measurable cs ts (i - 1) start l.next
        right_measurable (v, ops, c, e, f) =
            let p = parts v ops cs ts i j c e s in
            (v, ops, p.second, p.at_right, subst Fits (sym (right_is v ops c p)) (fit_both v ops c p f).1)

        module _ (r : Measured) (mr : Measures cs ts (i - 1) start l.next r) where
          whole_is : (v ops : ℕ) (c : Command) (p : Parts v ops cs ts i j c) → joined_sizes j l r ≡ measured c (Some m) k
          whole_is v ops c p =
              let is_left = ml v ops p.first p.at_left in
              let is_right = mr v ops p.second p.at_right ∙ right_is v ops c p in
              (λ t. joined_sizes j (is_left t) (is_right t)) ∙ ap (λ (x : Command). measured x (Some m) k) (sym p.is)

          pub joined_fits : Measurable cs ts i (Some m) k → Fits (joined_sizes j l r)
          joined_fits (v, ops, c, e, f) = let p = parts v ops cs ts i j c e s in subst Fits (sym (whole_is v ops c p)) f

          pub joined_measures : (z : Measured) → z ≡ joined_sizes j l r → Measures cs ts i (Some m) k z
          joined_measures z h v ops c e = let p = parts v ops cs ts i j c e s in h ∙ whole_is v ops c p
