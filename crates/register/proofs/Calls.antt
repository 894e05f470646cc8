-- A call on entries that is answered.
use Rattle.std.proofs.Common.{◌≡◌, ℕ, max, List, [], ◌∷◌, ◌++◌, length, set, None, Ok, Err, Result, sym, refl, ◌∙◌, subst}
use Rattle.kinds.specs.Kind.{KindOf}
use Rattle.kinds.specs.declared.numbered.Node.{Node}
use Rattle.kinds.specs.declared.refusals.Refusal.{Refusal}
use Rattle.formula.specs.declared.stores.Making.{Making}
use Rattle.formula.specs.declared.stores.Making.TheVariants as making
use Rattle.formula.specs.Store.{Meaning, refused_by, DoneOrRefused}
use Rattle.register.specs.declared.entries.Entry.{Entry}
use Rattle.register.specs.declared.entries.Answer.TheVariants.{Joined, Marked, Shown}
use Rattle.register.specs.Held.{Held, entry, entry_at, struck_out, entry_refusal, unless_refused, join_tests}
use Rattle.register.specs.Answers.{join_request, strike_request, read_request, reading, rise, Answered, joined, join_refused, struck, shown}
use Rattle.register.proofs.Tests.{refused_why, unrefused, join_tests_then}

-- what is held after a call that changed the store and the entries
abbrev pub with_both : {S : Type 0} → Held S → S → List Entry → Held S
with_both h t es = record { v = h.v; store = t; entries = es; rows = h.rows; terms = h.terms }

-- what a store is asked for two entries
abbrev both : Entry × Entry → Making
both p = making.And p.0.node p.1.node

-- what a store did, and the entries and the answer are known
asked_of :
    {V : Type 0} {S : Type 0} (K : KindOf V) (M : Meaning V S) (steps : S → Making → Node → S → Type 0) (s t : S) (p q : Entry × Entry)
    (answer r : Result Node Refusal) → p ≡ q → answer ≡ r → DoneOrRefused (refused_by K M s (both q)) (steps s (both q)) s answer t
    → DoneOrRefused (refused_by K M s (both p)) (steps s (both p)) s r t
asked_of K M steps s t p q answer r e f h =
    subst (λ z. DoneOrRefused (refused_by K M s (both p)) (steps s (both p)) s z t) f
    (subst (λ (x : Entry × Entry). DoneOrRefused (refused_by K M s (both x)) (steps s (both x)) s answer t) (sym e) h)

module _ {V : Type 0} {S : Type 0} {K : KindOf V} {M : Meaning V S} {steps : S → Making → Node → S → Type 0} {h : Held S} {j : ℕ} where
  pub struck_by :
      {e : Entry} {es : List Entry} → unless_refused (entry_refusal h.entries j) (entry_at h.entries j) ≡ Ok e
      → es ≡ set h.entries j (struck_out (entry_at h.entries j)) → Answered K M steps h (strike_request j) (Ok Marked) (with_both h h.store es)
  struck_by p q = rw q (struck (unrefused _ _ _ p).0)

  pub shown_by :
      {e : Entry} → unless_refused (entry_refusal h.entries j) (entry_at h.entries j) ≡ Ok e
      → Answered K M steps h (read_request j) (Ok (Shown (reading e))) h
  shown_by p = let is = unrefused _ _ _ p in rw (← is.1) (shown is.0)

  pub not_joined_first : {k : ℕ} {e : Refusal} (x : Entry × Entry) → unless_refused (join_tests M h.store h.entries j k None) x ≡ Err e
      → Answered K M steps h (join_request j k) (Err e) h
  not_joined_first {k} x p = join_refused (join_tests_then M h.store h.entries j k _ _ (refused_why _ _ _ p))

  -- two entries that can be joined, as far as the register can tell, and what the store answers of their nodes
  pub not_joined_last :
      {k : ℕ} {pair : Entry × Entry} {answer : Result Node Refusal} {t : S} {e : Refusal}
      → unless_refused {A = Entry × Entry} (join_tests M h.store h.entries j k None) (entry_at h.entries j, entry_at h.entries k) ≡ Ok pair
      → DoneOrRefused (refused_by K M h.store (both pair)) (steps h.store (both pair)) h.store answer t → answer ≡ Err e
      → Answered K M steps h (join_request j k) (Err e) (with_both h t h.entries)
  not_joined_last {k} found asked p =
      let is = unrefused _ _ _ found in
      let a = asked_of K M steps h.store _ _ _ _ _ is.1 p asked in
      rw a.1 (join_refused (join_tests_then M h.store h.entries j k _ _ is.0 ∙ a.0))

  pub joined_by :
      {k : ℕ} {pair : Entry × Entry} {answer : Result Node Refusal} {t : S} {n : Node} {after : List Entry} {names risen : ℕ}
      → unless_refused {A = Entry × Entry} (join_tests M h.store h.entries j k None) (entry_at h.entries j, entry_at h.entries k) ≡ Ok pair
      → DoneOrRefused (refused_by K M h.store (both pair)) (steps h.store (both pair)) h.store answer t → answer ≡ Ok n
      → after ≡ h.entries ++ (entry n names risen ∷ []) → names ≡ max pair.0.names pair.1.names → risen ≡ rise K M steps h.store t
      → Answered K M steps h (join_request j k) (Ok (Joined (record { entry = length h.entries; node = n }))) (with_both h t after)
  joined_by {k} found asked p q largest far =
      let is = unrefused _ _ _ found in
      let a = asked_of K M steps h.store _ _ _ _ _ is.1 p asked in
      joined (join_tests_then M h.store h.entries j k _ _ is.0 ∙ a.0)
      (record { made = a.1; same_v = refl; entries = rw (q, largest, far, ← is.1) refl; same_rows = refl; same_terms = refl })
