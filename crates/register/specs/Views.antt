-- What the code's register holds, and its answers as one type.
use Rattle.std.specs.Prelude.{List, [], ◌∷◌, Ok, Err, Result}
use Rattle.kinds.specs.Kind.{KindOf}
use Rattle.kinds.specs.declared.numbered.Node.{Node}
use Rattle.kinds.specs.declared.refusals.Refusal.{Refusal}
use Rattle.passive.specs.declared.rows.PassiveTermRow.{PassiveTermRow}
use Rattle.passive.specs.declared.rows.PassiveRow.{PassiveRow}
use Rattle.formula.specs.declared.stores.Making.{Making}
use Rattle.formula.specs.Store.{Meaning}
use Rattle.register.specs.declared.entries.Answer.{Answer}
use Rattle.register.specs.declared.entries.Answer.TheVariants.{Marked}
use Rattle.register.specs.declared.registers.Register.{Register}
use Rattle.register.specs.declared.entries.Request.{Request as Asked}
use Rattle.register.specs.declared.entries.Request.TheVariants.{File, Join, Strike, Read}
use Rattle.register.specs.Held.{Held}
use Rattle.register.specs.Answers.{Request, file_request, join_request, strike_request, read_request, Answered}
use Rattle.register.specs.Histories.{Exchange}

-- the register, with two work tables beside it
abbrev pub held : {S : Type 0} → Register S → List PassiveRow → List PassiveTermRow → Held S
held r E T = record { v = r.v; store = r.store; entries = r.entries; rows = E; terms = T }

-- a call that takes no work tables is answered: whatever tables stand beside the register, they stay as they are
abbrev pub AnsweredAlone :
    {V : Type 0} {S : Type 0} → KindOf V → Meaning V S → (S → Making → Node → S → Type 0) → Register S → Request → Result Answer Refusal → Register S
    → Type 0
AnsweredAlone K M steps before q x after = (E : List PassiveRow) (T : List PassiveTermRow) → Answered K M steps (held before E T) q x (held after E T)

-- the answer of a call
abbrev pub answer_by : {A : Type 0} → (A → Answer) → Result A Refusal → Result Answer Refusal
answer_by f (Ok x) = Ok (f x)
answer_by f (Err e) = Err e

abbrev pub marking : Unit {0} → Answer
marking u = Marked

-- what a request asks: a filing brings the rows that stand in its slices
abbrev pub request_of : Asked → Request
request_of (File cs ts) = file_request cs.now ts.now
request_of (Join j k) = join_request j k
request_of (Strike j) = strike_request j
request_of (Read j) = read_request j

abbrev pub exchange : Asked → Result Answer Refusal → Exchange
exchange q x = record { request = request_of q; answer = x }

-- the requests with their answers, as many as there are of both
abbrev pub exchanges : List Asked → List (Result Answer Refusal) → List Exchange
exchanges [] xs = []
exchanges (q ∷ qs) [] = []
exchanges (q ∷ qs) (x ∷ xs) = exchange q x ∷ exchanges qs xs
