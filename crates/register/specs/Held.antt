-- What a register holds, and when a call on its entries is refused.
use Rattle.std.specs.Prelude.{ℕ, Bool, true, false, not, ◌&&◌, List, length, take, Some, None, Ok, Err, Option, Result, nat_lt, slice_index_or}
use Rattle.kinds.specs.Kind.{KindOf}
use Rattle.kinds.specs.declared.numbered.Node.{Node}
use Rattle.kinds.specs.declared.refusals.Refusal.{Refusal}
use Rattle.kinds.specs.declared.refusals.Refusal.TheVariants.{Places, Entries, NotInUse, Struck}
use Rattle.passive.specs.declared.rows.PassiveTermRow.{PassiveTermRow}
use Rattle.passive.specs.declared.rows.PassiveRow.{PassiveRow}
use Rattle.formula.specs.declared.stores.Making.TheVariants as making
use Rattle.formula.specs.Store.{Meaning, unless, refused_by, node_no}
use Rattle.register.specs.declared.entries.Entry.{Entry}

abbrev pub most_entries : ℕ
most_entries = 64

-- the number of variables, the store, and the entries in the order in which they were made; beside it the two work tables that are lent to a
-- filing
pub record Held (S : Type 0) : Type 0 where
  pub v : ℕ
  pub store : S
  pub entries : List Entry
  pub rows : List PassiveRow
  pub terms : List PassiveTermRow

abbrev pub entry : Node → ℕ → ℕ → Entry
entry n names rise = record { node = n; names = names; rise = rise; struck = false }

-- what stands where no entry was made
abbrev pub no_entry : Entry
no_entry = entry node_no 0 0

-- the entries in use: the first so many that stand in an array
abbrev pub listed : List Entry → ℕ → List Entry
listed slots used = take used slots

abbrev pub entry_at : List Entry → ℕ → Entry
entry_at es j = slice_index_or es j no_entry

abbrev pub struck_out : Entry → Entry
struck_out e = record e { struck = true }

-- the entry is there
abbrev pub there : List Entry → ℕ → Bool
there es j = nat_lt j (length es)

-- the entry is not struck
abbrev pub standing : List Entry → ℕ → Bool
standing es j = not (entry_at es j).struck

-- whether an entry can be read or struck
abbrev pub entry_refusal : List Entry → ℕ → Option Refusal
entry_refusal es j = unless (there es j) NotInUse (unless (standing es j) Struck None)

-- the answer, unless it is refused
abbrev pub unless_refused : {A : Type 0} → Option Refusal → A → Result A Refusal
unless_refused None x = Ok x
unless_refused (Some e) x = Err e

module _ {V : Type 0} {S : Type 0} (M : Meaning V S) where
  -- whether two entries can be joined, each test for both: then what comes next decides
  abbrev pub join_tests : S → List Entry → ℕ → ℕ → Option Refusal → Option Refusal
  join_tests s es j k next =
      unless (there es j && there es k) NotInUse
      (unless (standing es j && standing es k) Struck
      (unless (nat_lt (M.count s) (M.capacity s)) Places
      (unless (nat_lt (length es) most_entries) Entries next)))

-- the store is asked last: the node of an entry is in use, in every history, so that it refuses nothing there
abbrev pub join_refusal : {V : Type 0} {S : Type 0} → KindOf V → Meaning V S → Held S → ℕ → ℕ → Option Refusal
join_refusal K M h j k =
    let es = h.entries in
    join_tests M h.store es j k (refused_by K M h.store (making.And (entry_at es j).node (entry_at es k).node))
