-- The history of a register, and the routines that its entries stand for.
use Rattle.std.specs.Prelude.{ℕ, List, [], ◌∷◌, ◌++◌, Ok, Err, Result, slice_index_or}
use Rattle.kinds.specs.Kind.{KindOf}
use Rattle.kinds.specs.declared.numbered.Node.{Node}
use Rattle.kinds.specs.declared.refusals.Refusal.{Refusal}
use Rattle.routine.specs.Commands.{Command}
use Rattle.routine.specs.Decoding.{decode}
use Rattle.passive.specs.declared.rows.PassiveTermRow.{PassiveTermRow}
use Rattle.passive.specs.declared.rows.PassiveRow.{PassiveRow}
use Rattle.formula.specs.declared.stores.Making.{Making}
use Rattle.formula.specs.Store.{Meaning}
use Rattle.register.specs.declared.entries.Answer.{Answer}
use Rattle.register.specs.declared.entries.Answer.TheVariants.{Filed, Joined}
use Rattle.register.specs.Held.{Held}
use Rattle.register.specs.Answers.{Request, file_request, join_request, Answered}

-- a request with its answer
pub record Exchange : Type 0 where
  pub request : Request
  pub answer : Result Answer Refusal

-- a new register has no entries
abbrev pub new_held : {S : Type 0} → ℕ → S → List PassiveRow → List PassiveTermRow → Held S
new_held v s E T = record { v = v; store = s; entries = []; rows = E; terms = T }

-- one call after another, each answered as the rules say
module _ {V : Type 0} {S : Type 0} (K : KindOf V) (M : Meaning V S) (steps : S → Making → Node → S → Type 0) where
  pub data History : Held S → List Exchange → Held S → Type 0 where
    no_more : {h : Held S} → History h [] h
    one_more : {before between after : Held S} {x : Exchange} {xs : List Exchange}
        → Answered K M steps before x.request x.answer between → History between xs after → History before (x ∷ xs) after

-- where an entry comes from: it was filed for a routine, or joined of two that were there
pub data Origin : Type 0 where
  filed_for : Command → Origin
  joined_of : Origin → Origin → Origin
  nowhere : Origin

-- the routines of an entry: a filed one has the routine that its rows held at the call, a join those of both
abbrev pub routines : Origin → List Command
routines (filed_for c) = c ∷ []
routines (joined_of a b) = routines a ++ routines b
routines nowhere = []

abbrev pub origin_at : List Origin → ℕ → Origin
origin_at os j = slice_index_or os j nowhere

abbrev pub filed_origin : Result Command Refusal → Origin
filed_origin (Ok c) = filed_for c
filed_origin (Err e) = nowhere

-- the origins of the entries after one more exchange: an accepted filing or join adds one
abbrev pub origins_after : ℕ → ℕ → List Origin → Request → Result Answer Refusal → List Origin
origins_after v ops os (file_request cs ts) (Ok (Filed f)) = os ++ (filed_origin (decode v ops cs ts) ∷ [])
origins_after v ops os (join_request j k) (Ok (Joined x)) = os ++ (joined_of (origin_at os j) (origin_at os k) ∷ [])
origins_after v ops os _ _ = os

abbrev pub origins_from : ℕ → ℕ → List Origin → List Exchange → List Origin
origins_from v ops os [] = os
origins_from v ops os (x ∷ xs) = origins_from v ops (origins_after v ops os x.request x.answer) xs

-- the origins of the entries of a new register after these exchanges
abbrev pub origins : ℕ → ℕ → List Exchange → List Origin
origins v ops xs = origins_from v ops [] xs
