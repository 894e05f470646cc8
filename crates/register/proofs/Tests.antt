-- Tests that come one after another, and the answer where all are passed.
use Rattle.std.proofs.Common.{◌≡◌, ℕ, ◌<◌, Bool, true, false, ◌&&◌, ltb, List, length, Some, None, Ok, Err, Option, Result, refl, ap, ◌∙◌}
use Rattle.std.specs.Option.{option_or}
use Rattle.std.specs.Result.{IsErrAnd}
use Rattle.std.proofs.lemmas.Bool.{ltb-true}
use Rattle.kinds.specs.declared.refusals.Refusal.{Refusal}
use Rattle.kinds.specs.declared.refusals.Refusal.TheVariants.{NotInUse, Struck, Places, Entries}
use Rattle.formula.specs.Store.{Meaning, unless}
use Rattle.register.specs.declared.entries.Entry.{Entry}
use Rattle.register.specs.Held.{most_entries, entry_at, there, standing, entry_refusal, unless_refused, join_tests}

-- a test that was passed, since nothing is refused
pub unless_passed : (b : Bool) (e : Refusal) (next : Option Refusal) → unless b e next ≡ None → b ≡ true
unless_passed true e next p = refl
unless_passed false e next p = cc

-- why an answer is refused
pub refused_why : {A : Type 0} (o : Option Refusal) (x : A) (e : Refusal) → unless_refused o x ≡ Err e → o ≡ Some e
refused_why None x e p = cc
refused_why (Some d) x e p = cc

-- an answer that is not refused
pub unrefused : {A : Type 0} (o : Option Refusal) (x y : A) → unless_refused o x ≡ Ok y → (o ≡ None) × (x ≡ y)
unrefused None x y p = (refl, cc)
unrefused (Some d) x y p = cc

-- an entry that can be read or struck is there
pub entry_there : (es : List Entry) (j : ℕ) (e : Entry) → unless_refused (entry_refusal es j) (entry_at es j) ≡ Ok e → j < length es
entry_there es j e p = ltb-true j (length es) (unless_passed (there es j) NotInUse _ (unrefused (entry_refusal es j) (entry_at es j) e p).0)

-- the four tests of a join, and what comes next
abbrev pub tests : (a b c d : Bool) → Option Refusal → Option Refusal
tests a b c d next = unless a NotInUse (unless b Struck (unless c Places (unless d Entries next)))

-- what comes next decides where they refuse nothing
tests_then : (a b c d : Bool) (next : Option Refusal) → tests a b c d next ≡ option_or (tests a b c d None) next
tests_then false b c d next = refl
tests_then true false c d next = refl
tests_then true true false d next = refl
tests_then true true true false next = refl
tests_then true true true true next = refl

-- and changes nothing where it refuses nothing
pub tests_silent : (a b c d : Bool) (next : Option Refusal) → (a ≡ true → c ≡ true → next ≡ None) → tests a b c d next ≡ tests a b c d None
tests_silent false b c d next h = refl
tests_silent true false c d next h = refl
tests_silent true true false d next h = refl
tests_silent true true true false next h = refl
tests_silent true true true true next h = h refl refl

pub join_tests_then :
    {V : Type 0} {S : Type 0} (M : Meaning V S) (s : S) (es : List Entry) (j k : ℕ) (next o : Option Refusal) → join_tests M s es j k None ≡ o
    → join_tests M s es j k next ≡ option_or o next
join_tests_then M s es j k next o p =
    tests_then (there es j && there es k) (standing es j && standing es k) (ltb (M.count s) (M.capacity s)) (ltb (length es) most_entries) next
    ∙ ap (λ r. option_or r next) p

-- what a `?` hands on is the refusal that it was given
pub handed_on : {A : Type 0} (r : Result A Refusal) (e : Refusal) → IsErrAnd r (λ d. d ≡ e) → r ≡ Err e
handed_on (Ok x) e p = absurd p
handed_on (Err d) e p = ap Err p
