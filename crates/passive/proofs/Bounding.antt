-- How many nodes the condition of a passive form takes, and how many names.
use Rattle.std.proofs.Common.{◌≡◌, ℕ, ◌+◌, ◌*◌, ◌≤◌, List, [], ◌∷◌, length, Some, None, ◌∙◌, arith}
use lib.ListN.{length-map}
use Rattle.kinds.specs.declared.numbered.Variable.{Variable}
use Rattle.kinds.specs.declared.numbered.Name.{Name}
use Rattle.routine.specs.declared.rows.Joint.{Joint}
use Rattle.routine.specs.declared.rows.Joint.TheVariants.{Sequence, Choice, Catch}
use Rattle.routine.specs.Commands.{Term, Single, assert, assume, assign, skip, raise, Command, single, join, size, single_places, places}
use Rattle.routine.specs.Standing.{ProperSingle, Proper}
use Rattle.passive.specs.Passive.{Passive, p_join, Names, renamed, rename, Renamed, let_of, then_lets, tail, guard, Passified, passify_single, entry, joined, passify, names_from}
use Rattle.passive.specs.Outcomes.{joint_nodes, nodes}
use Rattle.passive.specs.Agreement.{Bounded}
use Rattle.passive.proofs.Endings.{normal_merge, raised_merge}
use Rattle.passive.proofs.Merging.{Fresh, fresh_many, NamesOf}
use Rattle.passive.proofs.Forms.{Formed, formed, entry_names, merges_both, start_names}

length_rename : (m : List Name) (t : Term Variable) → length (rename m t) ≡ length t
length_rename m t = length-map t (renamed m)

nodes_lets : (p : Passive) (rs : List Renamed) → nodes (then_lets p rs) ≡ nodes p + 8 * length rs
nodes_lets p [] = omega arith
nodes_lets p (r ∷ rs) = nodes_lets (p_join Sequence p (let_of r)) rs ∙ omega arith

nodes_tail : (p : Passive) (rs : List Renamed) → nodes (tail p rs) ≤ nodes p + 8 * length rs
nodes_tail p [] = omega arith
nodes_tail p (r ∷ rs) = omega (arith, nodes_lets (let_of r) rs)

nodes_guard : (p : Passive) (rs : List Renamed) → nodes (guard p rs) ≤ nodes p + 8 * length rs + 5
nodes_guard p [] = omega arith
nodes_guard p (r ∷ rs) = omega (arith, nodes_lets (let_of r) rs)

-- renaming both ends, each with v new names at most
nodes_ends : (v k n o : ℕ) (p : Passive) (ns xs : List Renamed) → n ≤ k + v → o ≤ n + v → Fresh k k n ns → Fresh n n o xs
    → nodes (guard (tail p ns) xs) ≤ nodes p + 16 * v + 5
nodes_ends v k n o p ns xs l l' h g =
    omega (arith, nodes_guard (tail p ns) xs, nodes_tail p ns, fresh_many k k n ns h, fresh_many n n o xs g)

joint_few : (j : Joint) → joint_nodes j ≤ 5
joint_few Sequence = omega arith
joint_few Choice = omega arith
joint_few Catch = omega arith

-- at most so many nodes, and names up to k + i
pub record Few (k most i : ℕ) (p : Passified) : Type 0 where
  pub few_nodes : nodes p.code ≤ most
  pub few_names : p.next ≤ k + i

few_joined : (v ops k most i most' i' : ℕ) (j : Joint) (l r : Passified) → Formed v ops k l → Formed v ops l.next r → Few k most i l
    → Few l.next most' i' r → Few k (most + most' + (32 * v + 15)) (i + i' + 2 * v) (joined j l r)
few_joined v ops k most i most' i' j l r p q f g =
    let n = normal_merge j l r in
    let x = raised_merge j l r in
    let h = merges_both v ops k j l r p q in
    let hn = h.at_normal in
    let hx = h.at_raised in
    record {
      few_nodes = omega (
        arith,
        joint_few j,
        f.few_nodes,
        g.few_nodes,
        nodes_ends v r.next n.next x.next l.code n.left x.left hn.to hx.to hn.left_fresh hx.left_fresh,
        nodes_ends v r.next n.next x.next r.code n.right x.right hn.to hx.to hn.right_fresh hx.right_fresh,
      );
      few_names = omega (arith, hn.to, hx.to, f.few_names, g.few_names);
    }

few_single : (v ops : ℕ) (c : Single) (m : List Name) (k : ℕ) → ProperSingle v ops c
    → Few k (single_places c + (32 * v + 15)) (2 * v) (passify_single c m k)
few_single v ops (assert t) m k w = record { few_nodes = omega (arith, length_rename m t); few_names = omega arith }
few_single v ops (assume t) m k w = record { few_nodes = omega (arith, length_rename m t); few_names = omega arith }
few_single v ops (assign x t) m k w = record { few_nodes = omega (arith, length_rename m t); few_names = omega (arith, w.0) }
few_single v ops skip m k w = record { few_nodes = omega arith; few_names = omega arith }
few_single v ops raise m k w = record { few_nodes = omega arith; few_names = omega arith }

pub few : (v ops : ℕ) (c : Command) (m : Names) (k : ℕ) → Proper v ops c → NamesOf v k m
    → Few k (places c + size c * (32 * v + 15)) (2 * v * size c) (passify c m k)
few v ops c None k w z = record { few_nodes = omega arith; few_names = omega arith }
few v ops (single c) (Some m) k w z =
    let h = few_single v ops c m k w in record { few_nodes = omega (arith, h.few_nodes); few_names = omega (arith, h.few_names) }
few v ops (join j c d) (Some m) k w z =
    let l = passify c (Some m) k in
    let p = formed v ops c (Some m) k w.0 z in
    let z' = entry_names v ops k j m l z p in
    let h = few_joined v ops k _ _ _ _ j l (passify d (entry j m l.normal l.raised) l.next) p (formed v ops d (entry j m l.normal l.raised) l.next w.1 z')
    (few v ops c (Some m) k w.0 z) (few v ops d (entry j m l.normal l.raised) l.next w.1 z') in
    record { few_nodes = omega (arith, h.few_nodes); few_names = omega (arith, h.few_names) }

pub bounded : (v ops : ℕ) (c : Command) → Proper v ops c → Bounded v c
bounded v ops c w =
    let h = few v ops c (Some (names_from 0 v)) v w (start_names v) in
    record { few_nodes = omega (arith, h.few_nodes); few_names = h.few_names }
