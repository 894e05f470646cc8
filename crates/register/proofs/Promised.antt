-- The promise of the register is kept, and the nodes of its entries are always in use.
use Rattle.std.proofs.Common.{◌≡◌, ℕ, ◌<◌, true, ◌&&◌, ltb, List, [], ◌++◌, length, Some, None, sym, refl, ◌∙◌}
use Rattle.std.proofs.lemmas.Bool.{and_from, and_parts, ltb-true, lt-ltb, cond-true}
use Rattle.std.proofs.lemmas.Slice.Zip.{AllZip-long}
use Rattle.kinds.specs.Kind.{KindOf}
use Rattle.kinds.specs.declared.numbered.Node.{Node}
use Rattle.kinds.specs.declared.refusals.Refusal.TheVariants.{Places, NotInUse}
use Rattle.passive.specs.declared.rows.PassiveTermRow.{PassiveTermRow}
use Rattle.passive.specs.declared.rows.PassiveRow.{PassiveRow}
use Rattle.formula.specs.declared.stores.Making.{Making}
use Rattle.formula.specs.declared.stores.Making.TheVariants as making
use Rattle.formula.specs.Store.{Meaning, refused_by, free_place, Lawful, Makes, node_no}
use Rattle.register.specs.declared.entries.Entry.{Entry}
use Rattle.register.specs.Held.{Held, most_entries, entry, entry_at, there, standing}
use Rattle.register.specs.Histories.{Exchange, new_held, History, Origin, nowhere, routines, origin_at, origins}
use Rattle.register.specs.Promise.{Faithful, PromiseKept, GoesOn}
use Rattle.register.proofs.Tests.{tests_silent}
use Rattle.register.proofs.SideBySide.{zip_at}
use Rattle.register.proofs.Routines.{fine_safe, safe_fine, not_fine_wrong}
use Rattle.register.proofs.Keeping.{Good, Kept, kept_through}
use Rattle.register.proofs.Replaying.{history_then}

module _ {V : Type 0} {S : Type 0} (K : KindOf V) (M : Meaning V S) where
  faithful : (v : ℕ) (s : S) (e : Entry) (o : Origin) → Lawful K M s → Good K M v s e o → Faithful K M v s e o
  faithful v s e o law g = record {
    exact = λ all start l. (
      λ f. fine_safe K v (M.width s) (routines o) start g.told l (λ a b. sym (g.says a (all a b.wide)) ∙ f a b),
      λ f a b. g.says a (all a b.wide) ∙ safe_fine K v (M.width s) (routines o) start g.told l f a b,
    );
    witnessed = λ a c untrue. not_fine_wrong K v (M.width s) (routines o) a g.told (law.wide a c) (sym (g.says a c) ∙ untrue);
    rise_bounded = g.few;
  }

module _ {V : Type 0} {S : Type 0} (K : KindOf V) (M : Meaning V S) (steps : S → Making → Node → S → Type 0)
    (lawful : (s : S) → Lawful K M s) (sound : (s : S) (c : Making) (n : Node) (t : S) → steps s c n t → Makes K M s c n t)
    (v : ℕ) (s : S) (E : List PassiveRow) (T : List PassiveTermRow) (xs : List Exchange) (h : Held S)
    (past : History K M steps (new_held v s E T) xs h) where
  -- what is kept, after any history of a new register
  kept : Kept K M v h (origins v K.ops xs)
  kept = kept_through K M steps lawful sound v [] past (record { same_v = refl; good = tt })

  good_at : (i : ℕ) → i < length h.entries → Good K M v h.store (entry_at h.entries i) (origin_at (origins v K.ops xs) i)
  good_at i l = zip_at (Good K M v h.store) h.entries (origins v K.ops xs) i (entry node_no 0 0) nowhere kept.good l

  -- the node of every entry is in use
  pub entry_used : (j : ℕ) → there h.entries j ≡ true → M.in_use h.store (entry_at h.entries j).node ≡ true
  entry_used j l = (good_at j (ltb-true j (length h.entries) l)).used

  -- so that where a place is free, the store does not refuse the join of two entries
  pub never_unused : (j k : ℕ) → there h.entries j ≡ true → there h.entries k ≡ true → M.count h.store < M.capacity h.store
      → refused_by K M h.store (making.And (entry_at h.entries j).node (entry_at h.entries k).node) ≡ None
  never_unused j k lj lk free =
      cond-true _ (free_place M h.store) (Some NotInUse) (and_from _ _ (entry_used j lj) (entry_used k lk))
      ∙ cond-true _ None (Some Places) (lt-ltb (M.count h.store) (M.capacity h.store) free)

pub promise_kept : {V : Type 0} {S : Type 0} (K : KindOf V) (M : Meaning V S) (steps : S → Making → Node → S → Type 0)
    (lawful : (s : S) → Lawful K M s) (sound : (s : S) (c : Making) (n : Node) (t : S) → steps s c n t → Makes K M s c n t)
    → PromiseKept K M steps
promise_kept K M steps lawful sound v s E T xs h past = record {
  same_v = (kept K M steps lawful sound v s E T xs h past).same_v;
  as_many = sym (AllZip-long (Good K M v h.store) h.entries (origins v K.ops xs) (kept K M steps lawful sound v s E T xs h past).good);
  each = λ i l. faithful K M v h.store (entry_at h.entries i) (origin_at (origins v K.ops xs) i) (lawful h.store)
      (good_at K M steps lawful sound v s E T xs h past i l);
  joins_tested = λ j k. tests_silent (there h.entries j && there h.entries k) (standing h.entries j && standing h.entries k)
      (ltb (M.count h.store) (M.capacity h.store)) (ltb (length h.entries) most_entries)
      (refused_by K M h.store (making.And (entry_at h.entries j).node (entry_at h.entries k).node))
      (λ both free. let ends = and_parts (there h.entries j) (there h.entries k) both in
      never_unused K M steps lawful sound v s E T xs h past j k ends.0 ends.1 (ltb-true (M.count h.store) (M.capacity h.store) free));
}

-- and so it is by further calls, after any history
pub promise_goes_on : {V : Type 0} {S : Type 0} {K : KindOf V} {M : Meaning V S} {steps : S → Making → Node → S → Type 0}
    (lawful : (s : S) → Lawful K M s) (sound : (s : S) (c : Making) (n : Node) (t : S) → steps s c n t → Makes K M s c n t)
    {before after : Held S} {xs : List Exchange} → History K M steps before xs after → GoesOn K M steps before xs after
promise_goes_on {K = K} {M = M} {steps = steps} lawful sound {after = after} {xs = xs} now v s E T past was =
    let whole = history_then was now in
    (whole, promise_kept K M steps lawful sound v s E T (past ++ xs) after whole)
