-- One exchange more, and a history that goes on.
use Rattle.std.proofs.Common.{◌≡◌, ℕ, zero, suc, ◌+◌, ◌<◌, ◌≤◌, min, List, [], ◌∷◌, ◌++◌, length, get_or, take, set, Result, sym, refl, ap, ◌∙◌, ap₂, arith}
use Rattle.std.proofs.lemmas.List.{get_or-take, length-take, take_more, take_more_set, length-take-le}
use Rattle.kinds.specs.Kind.{KindOf}
use Rattle.kinds.specs.declared.numbered.Node.{Node}
use Rattle.kinds.specs.declared.refusals.Refusal.{Refusal}
use Rattle.formula.specs.declared.stores.Making.{Making}
use Rattle.formula.specs.Store.{Meaning}
use Rattle.register.specs.declared.entries.Request.{Request as Asked}
use Rattle.register.specs.declared.entries.Answer.{Answer}
use Rattle.register.specs.Held.{Held}
use Rattle.register.specs.Answers.{Answered}
use Rattle.register.specs.Histories.{Exchange, History, no_more, one_more}
use Rattle.register.specs.Views.{request_of, exchange, exchanges}

exchanges_push :
    (qs : List Asked) (xs : List (Result Answer Refusal)) (q : Asked) (x : Result Answer Refusal) → length qs ≡ length xs
    → exchanges (qs ++ (q ∷ [])) (xs ++ (x ∷ [])) ≡ exchanges qs xs ++ (exchange q x ∷ [])
exchanges_push [] [] q x l = refl
exchanges_push [] (y ∷ xs) q x l = absurd (omega arith)
exchanges_push (p ∷ qs) [] q x l = absurd (omega arith)
exchanges_push (p ∷ qs) (y ∷ xs) q x l = ap {B = List Exchange} (λ r. exchange p y ∷ r) (exchanges_push qs xs q x (omega arith))

pub exchanges_all : (n : ℕ) (qs : List Asked) (xs : List (Result Answer Refusal)) → min (length qs) (length xs) ≤ n → exchanges (take n qs) (take n xs) ≡ exchanges qs xs
exchanges_all zero [] xs l = refl
exchanges_all zero (q ∷ qs) [] l = refl
exchanges_all zero (q ∷ qs) (x ∷ xs) l = absurd (omega arith)
exchanges_all (suc n) [] xs l = refl
exchanges_all (suc n) (q ∷ qs) [] l = refl
exchanges_all (suc n) (q ∷ qs) (x ∷ xs) l = ap {B = List Exchange} (λ r. exchange q x ∷ r) (exchanges_all n qs xs (omega arith))

-- one more, written at its place
exchanges_more :
    (i : ℕ) (qs : List Asked) (xs : List (Result Answer Refusal)) (q : Asked) (x : Result Answer Refusal) → i < length qs → i < length xs
    → exchanges (take (i + 1) qs) (take (i + 1) (set xs i x)) ≡ exchanges (take i qs) (take i xs) ++ (exchange (get_or qs i q) x ∷ [])
exchanges_more i qs xs q x l k =
    ap₂ exchanges (take_more qs i q l) (take_more_set xs i x k)
    ∙ exchanges_push (take i qs) (take i xs) (get_or qs i q) x (length-take-le i qs (omega arith) ∙ sym (length-take-le i xs (omega arith)))

module _ {V : Type 0} {S : Type 0} {K : KindOf V} {M : Meaning V S} {steps : S → Making → Node → S → Type 0} where
  pub history_then :
      {before between after : Held S} {xs ys : List Exchange} → History K M steps before xs between → History K M steps between ys after
      → History K M steps before (xs ++ ys) after
  history_then no_more y = y
  history_then (one_more r h) y = one_more r (history_then h y)

  -- one of the first n requests is answered
  pub history_more :
      {before between after : Held S} (n i : ℕ) (qs : List Asked) (xs : List (Result Answer Refusal)) (q : Asked) (x : Result Answer Refusal)
      → i < length (take n qs) → i < length xs → History K M steps before (exchanges (take i qs) (take i xs)) between
      → Answered K M steps between (request_of (get_or (take n qs) i q)) x after
      → History K M steps before (exchanges (take (i + 1) qs) (take (i + 1) (set xs i x))) after
  history_more {before = before} {after = after} n i qs xs q x l k h s =
      let same = get_or-take n qs i q (omega (arith, length-take n qs)) in
      let more = exchanges_more i qs xs q x (omega (arith, length-take n qs)) k in
      let asked = rw same at s in
      rw more (history_then h (one_more asked no_more))

  -- as many requests are answered as there are places for answers
  pub history_whole :
      {before after : Held S} (n i : ℕ) (qs : List Asked) (xs : List (Result Answer Refusal)) → length (take n qs) ≤ i
      → n ≡ min (length qs) (length xs) → History K M steps before (exchanges (take i qs) (take i xs)) after
      → History K M steps before (exchanges qs xs) after
  history_whole n i qs xs l few h = rw (exchanges_all i qs xs (omega (arith, length-take n qs))) at h
