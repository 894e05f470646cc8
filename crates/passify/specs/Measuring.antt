-- What a passive form takes, counted without making it.
use Rattle.std.specs.Prelude.{◌≡◌, ℕ, ◌+◌, ◌*◌, ◌^◌, ◌<◌, ◌≤◌, cond, List, length, Some, None, ◌==◌}
use Rattle.routine.specs.declared.rows.TermRow.{TermRow}
use Rattle.routine.specs.declared.rows.CommandRow.{CommandRow}
use Rattle.routine.specs.declared.rows.Joint.{Joint}
use Rattle.routine.specs.Commands.{Single, Command, single, join}
use Rattle.routine.specs.Standing.{single_tag, Fields, EndsAt}
use Rattle.passive.specs.Passive.{Names, merge, Passified, passify_single, entry, leaves_normal, leaves_raised}
use Rattle.passive.specs.Outcomes.{joint_nodes, nodes}
use Rattle.passive.specs.Layout.{rows, terms}
use Rattle.passify.specs.declared.maps.Exits.{Exits}
use Rattle.passify.specs.declared.measuring.Measured.{Measured}

abbrev pub exits : Names → Names → Exits
exits n x = record { normal = n; raised = x }

-- the maps that a passive form ends with, the next new name, and how much it takes
abbrev pub sizes : Passified → Measured
sizes p = record {
  exits = exits p.normal p.raised;
  next = p.next;
  rows = rows p.code;
  terms = length (terms p.code);
  nodes = nodes p.code;
}

-- of a stop
abbrev pub stop_sizes : ℕ → Measured
stop_sizes k = record { exits = exits None None; next = k; rows = 1; terms = 0; nodes = 0 }

-- what guards d renamings: nothing where there are none; else so much for each, and so much for the guard itself
abbrev pub guard_size : ℕ → ℕ → ℕ → ℕ
guard_size d each guard = cond (d == 0) 0 (each * d + guard)

abbrev pub guard_rows : ℕ → ℕ
guard_rows d = guard_size d 2 2

abbrev pub guard_nodes : ℕ → ℕ
guard_nodes d = guard_size d 8 5

-- how the left part leaves the whole
abbrev pub leaving : Joint → Exits → Exits
leaving j e = exits (leaves_normal j e.normal) (leaves_raised j e.raised)

abbrev pub joined_sizes : Joint → Measured → Measured → Measured
joined_sizes j a b =
    let out = leaving j a.exits in
    let n = merge out.normal b.exits.normal b.next in
    let x = merge out.raised b.exits.raised n.next in
    let d = length n.left in
    let e = length x.left in
    record {
      exits = exits n.names x.names;
      next = x.next;
      rows = a.rows + b.rows + (2 * (2 * d + guard_rows e) + 1);
      terms = a.terms + b.terms + 2 * (d + e);
      nodes = a.nodes + b.nodes + (2 * (8 * d + guard_nodes e) + joint_nodes j);
    }

-- the sizes of the passive form, by recursion on the command
abbrev pub measured : Command → Names → ℕ → Measured
measured c None k = stop_sizes k
measured (single c) (Some m) k = sizes (passify_single c m k)
measured (join j c d) (Some m) k =
    let a = measured c (Some m) k in
    joined_sizes j a (measured d (entry j m a.exits.normal a.exits.raised) a.next)

-- within the numbers of the code
pub record Fits (s : Measured) : Type 0 where
  pub few_names : s.next ≤ 2 ^ 16
  pub few_rows : s.rows < 2 ^ 32
  pub few_terms : s.terms < 2 ^ 32
  pub few_nodes : s.nodes < 2 ^ 32

-- of the single command that a row is
abbrev pub AtSingle : List TermRow → CommandRow → (Single → Type 0) → Type 0
AtSingle ts r P = (v ops : ℕ) (c : Single) → r.tag ≡ single_tag c → Fields v ops ts r c → P c

abbrev pub SomeSingle : List TermRow → CommandRow → (Single → Type 0) → Type 0
SomeSingle ts r P = (v : ℕ) × (ops : ℕ) × (c : Single) × (r.tag ≡ single_tag c) × Fields v ops ts r c × P c

-- a command whose passive form can be measured ends at row i
abbrev pub Measurable : List CommandRow → List TermRow → ℕ → Names → ℕ → Type 0
Measurable cs ts i m k = (v : ℕ) × (ops : ℕ) × (c : Command) × EndsAt v ops cs ts i c × Fits (measured c m k)

abbrev pub Measures : List CommandRow → List TermRow → ℕ → Names → ℕ → Measured → Type 0
Measures cs ts i m k s = (v ops : ℕ) (c : Command) → EndsAt v ops cs ts i c → s ≡ measured c m k
