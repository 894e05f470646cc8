-- What is kept of each entry beside its origin, and that every call keeps it.
use Rattle.std.proofs.Common.{◌≡◌, ℕ, ◌≤◌, true, not, ◌&&◌, List, [], ◌∷◌, ◌++◌, length, None, Ok, Result, sym, ap, ◌∙◌, subst, ap₂, arith}
use mathlib.Core.Bool.{and-true}
use Rattle.std.specs.List.{AllZip}
use Rattle.std.proofs.lemmas.Bool.{and_parts, ltb-true}
use Rattle.std.proofs.lemmas.Slice.Zip.{all_zipped_more}
use Rattle.kinds.specs.Kind.{KindOf}
use Rattle.kinds.specs.declared.numbered.Node.{Node}
use Rattle.kinds.specs.declared.refusals.Refusal.{Refusal}
use Rattle.routine.specs.declared.rows.TermRow.{TermRow}
use Rattle.routine.specs.declared.rows.CommandRow.{CommandRow}
use Rattle.routine.specs.Commands.{Command}
use Rattle.routine.specs.Decoding.{decode}
use Rattle.passive.specs.Passive.{passive_form}
use Rattle.passive.specs.Outcomes.{Assignment, outcomes}
use Rattle.passive.specs.declared.rows.PassiveRow.{PassiveRow}
use Rattle.passify.proofs.Accepted.{proper, bounds}
use Rattle.formula.specs.declared.stores.Making.{Making}
use Rattle.formula.specs.declared.stores.Making.TheVariants as making
use Rattle.formula.specs.Store.{Meaning, Lawful, Grown, Makes, node_no}
use Rattle.conditions.specs.Valued.{ConditionValued}
use Rattle.conditions.proofs.RowLaws.{yes_or_no_truth}
use Rattle.conditions.proofs.FormLaws.{condition_valued}
use Rattle.register.specs.declared.entries.Entry.{Entry}
use Rattle.register.specs.declared.entries.Answer.{Answer}
use Rattle.register.specs.Held.{Held, entry, entry_at, struck_out, there, join_refusal}
use Rattle.register.specs.Answers.{Request, rise, Files, Joins, with_struck, Answered, filed, file_refused, joined, join_refused, struck, strike_refused, shown, read_refused}
use Rattle.register.specs.Histories.{Exchange, History, no_more, one_more, Origin, filed_for, joined_of, nowhere, routines, origin_at, filed_origin, origins_after, origins_from}
use Rattle.register.specs.Promise.{Every, RiseBounded}
use Rattle.register.proofs.Tests.{unless_passed}
use Rattle.register.proofs.SideBySide.{zip_weaker, zip_at, zip_set}
use Rattle.register.proofs.Routines.{every_append, all_fine, fine_append, Told}
use Rattle.register.proofs.FileWidths.{names_within}

module _ {V : Type 0} {S : Type 0} (K : KindOf V) (M : Meaning V S) where
  -- an entry's node is in use and says whether its routines are fine, and these are proper and have names within the width
  pub record Good (v : ℕ) (s : S) (e : Entry) (o : Origin) : Type 0 where
    pub used : M.in_use s e.node ≡ true
    pub told : Every (Told K v (M.width s)) (routines o)
    pub says : (a : Assignment V) → M.covers s a → K.truth (M.value s e.node a) ≡ all_fine K v (routines o) a
    pub few : RiseBounded v e o

  pub record Kept (v : ℕ) (h : Held S) (os : List Origin) : Type 0 where
    pub same_v : h.v ≡ v
    pub good : AllZip (Good v h.store) h.entries os

  good_grown : (v : ℕ) (s : S) (k : ℕ) (t : S) → Grown M s k t → (e : Entry) (o : Origin) → Good v s e o → Good v t e o
  good_grown v s k t g e o h = record {
    used = g.still_used e.node h.used;
    told = subst (λ (w : ℕ). Every (Told K v w) (routines o)) (sym g.width_same) h.told;
    says = λ a c. let b = (g.covers_same a).0 c in ap K.truth (g.kept e.node a h.used b) ∙ h.says a b;
    few = h.few;
  }

  struck_few : (v : ℕ) (e : Entry) (o : Origin) → RiseBounded v e o → RiseBounded v (struck_out e) o
  struck_few v e (filed_for c) h = h
  struck_few v e (joined_of a b) h = tt
  struck_few v e nowhere h = h

  good_struck : (v : ℕ) (s : S) (e : Entry) (o : Origin) → Good v s e o → Good v s (struck_out e) o
  good_struck v s e o h = record { used = h.used; told = h.told; says = h.says; few = struck_few v e o h.few }

  -- a store has grown, and there is one entry more
  one_entry_more : (v : ℕ) (before after : Held S) (k : ℕ) (os : List Origin) (e : Entry) (o : Origin) → after.v ≡ before.v
      → after.entries ≡ before.entries ++ (e ∷ []) → Grown M before.store k after.store → Kept v before os → Good v after.store e o
      → Kept v after (os ++ (o ∷ []))
  one_entry_more v before after k os e o same more g h new = record {
    same_v = same ∙ h.same_v;
    good = subst (λ (es : List Entry). AllZip (Good v after.store) es (os ++ (o ∷ []))) (sym more)
        (all_zipped_more (Good v after.store) before.entries os e o
        (zip_weaker (Good v before.store) (Good v after.store) (good_grown v before.store k after.store g) before.entries os
        h.good)
        new);
  }

module _ {V : Type 0} {S : Type 0} (K : KindOf V) (M : Meaning V S) (steps : S → Making → Node → S → Type 0)
    (lawful : (s : S) → Lawful K M s) (sound : (s : S) (c : Making) (n : Node) (t : S) → steps s c n t → Makes K M s c n t) where
  -- the entry of a routine that was filed
  module _ (before after : Held S) (cs : List CommandRow) (ts : List TermRow) (c : Command) (filled : List PassiveRow) (n : Node)
      (is : decode before.v K.ops cs ts ≡ Ok c) (within : (passive_form before.v c).next ≤ M.width before.store)
      (f : Files K M steps before c filled n after) where
    filed_valued : ConditionValued K M (passive_form before.v c).code before.store filled n after.store
    filed_valued = condition_valued K M steps lawful sound (passive_form before.v c).code before.store filled n after.store f.made

    abbrev new_entry : Entry
    new_entry = entry n (passive_form before.v c).next (rise K M steps before.store after.store)

    good_filed : Good K M before.v after.store new_entry (filed_for c)
    good_filed =
        let h = filed_valued in
        record {
          used = h.used;
          told = ((proper before.v K.ops cs ts c is, omega (arith, h.grown.width_same, within)), tt);
          says = λ a x. h.says a ((h.grown.covers_same a).0 x) ∙ sym (and-true (not (outcomes K a (passive_form before.v c).code).W));
          few = omega (arith, h.grown.few, (bounds before.v K.ops cs ts c is).few_nodes);
        }

    kept_filed : (v : ℕ) (os : List Origin) → Kept K M v before os → Kept K M v after (os ++ (filed_origin (decode v K.ops cs ts) ∷ []))
    kept_filed v os h =
        one_entry_more K M v before after _ os new_entry _ f.same_v f.entries filed_valued.grown h
        (subst (λ (w : ℕ). Good K M w after.store new_entry (filed_origin (decode w K.ops cs ts))) h.same_v
        (subst (λ (d : Result Command Refusal). Good K M before.v after.store new_entry (filed_origin d)) (sym is) good_filed))

  -- the entry of two that were joined
  good_joined : (v : ℕ) (s t : S) (d e : Entry) (p q : Origin) (n : Node) (names risen : ℕ) → steps s (making.And d.node e.node) n t
      → Good K M v s d p → Good K M v s e q → Good K M v t (entry n names risen) (joined_of p q)
  good_joined v s t d e p q n names risen made x y =
      let m = sound s (making.And d.node e.node) n t made in
      let g = m.grown in
      record {
        used = m.used;
        told = subst (λ (w : ℕ). Every (Told K v w) (routines p ++ routines q)) (sym g.width_same)
            (every_append (Told K v (M.width s)) (routines p) (routines q) x.told y.told);
        says = λ a c.
            let b = (g.covers_same a).0 c in
            ap K.truth (m.as_stated a b) ∙ yes_or_no_truth K _ ∙ ap₂ ◌&&◌ (x.says a b) (y.says a b)
            ∙ sym (fine_append K v (routines p) (routines q) a);
        few = tt;
      }

  kept_joined : (before after : Held S) (j k : ℕ) (n : Node) (v : ℕ) (os : List Origin) → join_refusal K M before j k ≡ None
      → Joins K M steps before j k n after → Kept K M v before os → Kept K M v after (os ++ (joined_of (origin_at os j) (origin_at os k) ∷ []))
  kept_joined before after j k n v os ok f h =
      let es = before.entries in
      let both = and_parts (there es j) (there es k) (unless_passed _ _ _ ok) in
      let at = λ (i : ℕ) (l : there es i ≡ true).
      zip_at (Good K M v before.store) es os i (entry node_no 0 0) nowhere h.good (ltb-true i (length es) l) in
      one_entry_more K M v before after 1 os _ _ f.same_v f.entries (sound _ _ _ _ f.made).grown h
      (good_joined v before.store after.store (entry_at es j) (entry_at es k) (origin_at os j) (origin_at os k) n _ _ f.made
      (at j both.0) (at k both.1))

  kept_struck : (h : Held S) (j : ℕ) (v : ℕ) (os : List Origin) → Kept K M v h os → Kept K M v (with_struck K M steps h j) os
  kept_struck h j v os k = record {
    same_v = k.same_v;
    good = zip_set (Good K M v h.store) h.entries os j (entry node_no 0 0) (struck_out (entry_at h.entries j))
        (good_struck K M v h.store (entry_at h.entries j)) k.good;
  }

  -- one call keeps it
  kept_after : {before : Held S} {q : Request} {x : Result Answer Refusal} {after : Held S} (v : ℕ) (os : List Origin) → Answered K M steps before q x after
      → Kept K M v before os → Kept K M v after (origins_after v K.ops os q x)
  kept_after v os (filed {before} {after} {cs} {ts} {c} {filled} {n} is ok f) h =
      kept_filed before after cs ts c filled n is (names_within K M steps before cs ts c is ok) f v os h
  kept_after v os (file_refused why) h = h
  kept_after v os (joined {before} {after} {j} {k} {n} ok f) h = kept_joined before after j k n v os ok f h
  kept_after v os (join_refused why) h = h
  kept_after v os (struck {h = held} {j} ok) h = kept_struck held j v os h
  kept_after v os (strike_refused why) h = h
  kept_after v os (shown ok) h = h
  kept_after v os (read_refused why) h = h

  -- and so does a history
  pub kept_through : {before : Held S} {xs : List Exchange} {after : Held S} (v : ℕ) (os : List Origin) → History K M steps before xs after
      → Kept K M v before os → Kept K M v after (origins_from v K.ops os xs)
  kept_through v os no_more h = h
  kept_through v os (one_more one more) h = kept_through v _ more (kept_after v os one h)
