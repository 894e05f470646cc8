-- The passive form of a routine: assignments give way to new names, each given its value once on every path.
use Rattle.std.specs.Prelude.{ℕ, zero, suc, ◌+◌, true, false, List, [], ◌∷◌, map, Some, None, Option, ◌==◌, slice_index_or, slice_set}
use Rattle.kinds.specs.declared.numbered.Variable.{Variable}
use Rattle.kinds.specs.declared.numbered.Name.{Name}
use Rattle.routine.specs.declared.rows.Item.{Item}
use Rattle.routine.specs.declared.rows.Item.TheVariants.{Literal, Reference, Operation}
use Rattle.routine.specs.declared.rows.Joint.{Joint}
use Rattle.routine.specs.declared.rows.Joint.TheVariants.{Sequence, Choice, Catch}
use Rattle.routine.specs.Commands.{Term, Single, assert, assume, assign, skip, raise, Command, single, join}

abbrev pub name : ℕ → Name
name n = record { 0 = n }

-- let f t assumes that name f is the same as the term; stop blocks
pub data PassiveSingle : Type 0 where
  p_assert p_assume : Term Name → PassiveSingle
  p_let : Name → Term Name → PassiveSingle
  p_skip p_raise p_stop : PassiveSingle

pub data Passive : Type 0 where
  p_single : PassiveSingle → Passive
  p_join : Joint → Passive → Passive → Passive

-- a map gives each variable a name; it is absent, None, where control cannot come
abbrev pub Names : Type 0
Names = Option (List Name)

abbrev pub renamed : List Name → Item Variable → Item Name
renamed m (Literal n) = Literal n
renamed m (Reference x) = Reference (slice_index_or m x.0 (name 0))
renamed m (Operation k) = Operation k

-- a term with the name of each variable in its place
abbrev pub rename : List Name → Term Variable → Term Name
rename m t = map (renamed m) t

-- a renaming gives new names the values of old ones
pub record Renamed : Type 0 where
  pub new : Name
  pub old : Name

-- two maps made one: the map of both, each side's renaming, and the next new name
pub record Merged : Type 0 where
  pub names : List Name
  pub left : List Renamed
  pub right : List Renamed
  pub next : ℕ

abbrev pub agreeing : Name → Merged → Merged
agreeing x r = record { names = x ∷ r.names; left = r.left; right = r.right; next = r.next }

abbrev pub differing : Name → Name → Name → Merged → Merged
differing f x y r = record {
  names = f ∷ r.names;
  left = record { new = f; old = x } ∷ r.left;
  right = record { new = f; old = y } ∷ r.right;
  next = r.next;
}

-- a variable that both sides name alike keeps its name; each other, in ascending order, gets a new one
abbrev pub merge_names : List Name → List Name → ℕ → Merged
merge_names [] ys k = record { names = []; left = []; right = []; next = k }
merge_names (x ∷ xs) [] k = record { names = []; left = []; right = []; next = k }
merge_names (x ∷ xs) (y ∷ ys) k = elim (x.0 == y.0) [
  | true ↦ agreeing x (merge_names xs ys k)
  | false ↦ differing (name k) x y (merge_names xs ys (k + 1))
]

pub record Merge : Type 0 where
  pub names : Names
  pub left : List Renamed
  pub right : List Renamed
  pub next : ℕ

-- an absent map merged with another gives that other, and nothing to rename
abbrev pub merge : Names → Names → ℕ → Merge
merge None m k = record { names = m; left = []; right = []; next = k }
merge (Some xs) None k = record { names = Some xs; left = []; right = []; next = k }
merge (Some xs) (Some ys) k =
    let r = merge_names xs ys k in
    record { names = Some r.names; left = r.left; right = r.right; next = r.next }

abbrev pub let_of : Renamed → Passive
let_of r = p_single (p_let r.new (Reference r.old ∷ []))

-- p, then one let for each, joined by sequences from the left
abbrev pub then_lets : Passive → List Renamed → Passive
then_lets p [] = p
then_lets p (r ∷ rs) = then_lets (p_join Sequence p (let_of r)) rs

-- p, and the renaming where it ends normally
abbrev pub tail : Passive → List Renamed → Passive
tail p [] = p
tail p (r ∷ rs) = p_join Sequence p (then_lets (let_of r) rs)

-- p, and the renaming where it ends raised
abbrev pub guard : Passive → List Renamed → Passive
guard p [] = p
guard p (r ∷ rs) = p_join Catch p (p_join Sequence (then_lets (let_of r) rs) (p_single p_raise))

pub record Passified : Type 0 where
  pub code : Passive
  -- the names of the variables where it ends normally, and where it ends raised
  pub normal : Names
  pub raised : Names
  -- the next new name
  pub next : ℕ

-- where control cannot come
abbrev pub stopped : ℕ → Passified
stopped k = record { code = p_single p_stop; normal = None; raised = None; next = k }

abbrev pub passify_single : Single → List Name → ℕ → Passified
passify_single (assert t) m k = record { code = p_single (p_assert (rename m t)); normal = Some m; raised = None; next = k }
passify_single (assume t) m k = record { code = p_single (p_assume (rename m t)); normal = Some m; raised = None; next = k }
passify_single (assign x t) m k =
    record { code = p_single (p_let (name k) (rename m t)); normal = Some (slice_set m x.0 (name k)); raised = None; next = k + 1 }
passify_single skip m k = record { code = p_single p_skip; normal = Some m; raised = None; next = k }
passify_single raise m k = record { code = p_single p_raise; normal = None; raised = Some m; next = k }

-- the map that the right part of a joined command starts from, where the command starts from m and its left part ends with n and x
abbrev pub entry : Joint → List Name → Names → Names → Names
entry Sequence m n x = n
entry Choice m n x = Some m
entry Catch m n x = x

-- the left part's exits from the whole: in a sequence its normal exit goes on into the right part, in a catch its raised one
abbrev pub leaves_normal : Joint → Names → Names
leaves_normal Sequence n = None
leaves_normal Choice n = n
leaves_normal Catch n = n

abbrev pub leaves_raised : Joint → Names → Names
leaves_raised Sequence x = x
leaves_raised Choice x = x
leaves_raised Catch x = None

-- the exits of both parts are merged, first the normal ones; each part renames at its own
abbrev pub joined : Joint → Passified → Passified → Passified
joined j a b =
    let n = merge (leaves_normal j a.normal) b.normal b.next in
    let x = merge (leaves_raised j a.raised) b.raised n.next in
    record {
      code = p_join j (guard (tail a.code n.left) x.left) (guard (tail b.code n.right) x.right);
      normal = n.names;
      raised = x.names;
      next = x.next;
    }

-- the passive form of a command that starts from a map, where k is the next new name
abbrev pub passify : Command → Names → ℕ → Passified
passify c None k = stopped k
passify (single c) (Some m) k = passify_single c m k
passify (join j c d) (Some m) k =
    let a = passify c (Some m) k in
    joined j a (passify d (entry j m a.normal a.raised) a.next)

-- k and the n - 1 names after it
abbrev pub names_from : ℕ → ℕ → List Name
names_from k zero = []
names_from k (suc n) = name k ∷ names_from (k + 1) n

-- variable i starts with name i, and the first new name is v
abbrev pub passive_form : ℕ → Command → Passified
passive_form v c = passify c (Some (names_from 0 v)) v
