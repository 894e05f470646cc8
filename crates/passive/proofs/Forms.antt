-- What is so of every passive form: its maps name every variable, all its names are below its next new one, and its terms can be worked out.
use Rattle.std.proofs.Common.{◌≡◌, ℕ, zero, suc, ◌+◌, ◌<◌, ◌≤◌, List, [], ◌∷◌, length, set, Some, None, refl, ap, ◌∙◌, arith, length-set}
use Rattle.kinds.specs.declared.numbered.Name.{Name}
use Rattle.routine.specs.declared.rows.Joint.{Joint}
use Rattle.routine.specs.declared.rows.Joint.TheVariants.{Sequence, Choice, Catch}
use Rattle.routine.specs.Commands.{Single, assert, assume, assign, skip, raise, Command, single, join}
use Rattle.routine.specs.Standing.{ProperSingle, Proper}
use Rattle.passive.specs.Passive.{name, PassiveSingle, p_assert, p_assume, p_let, p_skip, p_raise, p_stop, Passive, p_single, p_join, Names, Renamed, let_of, then_lets, tail, guard, Passified, passify_single, entry, leaves_normal, leaves_raised, joined, passify, names_from, passive_form}
use Rattle.passive.specs.Uses.{AllBelow, WorkableSingle, WorkableForm}
use Rattle.passive.proofs.Endings.{normal_merge, raised_merge}
use Rattle.passive.proofs.Merging.{Fresh, fresh_many, NamesOf, all_below_more, names_more, Merges, merges}
use Rattle.passive.proofs.Values.{workable_more, workable_renamed}

-- a form over v variables and ops operations, made where k was the next new name
pub record Formed (v ops k : ℕ) (p : Passified) : Type 0 where
  pub from : k ≤ p.next
  pub workable : WorkableForm ops p.next p.code
  pub normal : NamesOf v p.next p.normal
  pub raised : NamesOf v p.next p.raised

workable_single_more : (b n ops : ℕ) (p : PassiveSingle) → b ≤ n → WorkableSingle ops b p → WorkableSingle ops n p
workable_single_more b n ops (p_assert t) l h = workable_more b n ops 0 t l h
workable_single_more b n ops (p_assume t) l h = workable_more b n ops 0 t l h
workable_single_more b n ops (p_let f t) l h = (omega arith, workable_more b n ops 0 t l h.1)
workable_single_more b n ops p_skip l h = tt
workable_single_more b n ops p_raise l h = tt
workable_single_more b n ops p_stop l h = tt

pub workable_form_more : (b n ops : ℕ) (p : Passive) → b ≤ n → WorkableForm ops b p → WorkableForm ops n p
workable_form_more b n ops (p_single p) l h = workable_single_more b n ops p l h
workable_form_more b n ops (p_join j p q) l h = (workable_form_more b n ops p l h.0, workable_form_more b n ops q l h.1)

-- renaming at the ends

module _ (ops b n : ℕ) (l : b ≤ n) where
  workable_let : (k : ℕ) (r : Renamed) (rs : List Renamed) → Fresh b k n (r ∷ rs) → WorkableForm ops n (let_of r)
  workable_let k r rs h = (omega (arith, fresh_many b (k + 1) n rs h.2), (omega arith, omega arith, refl))

  workable_lets : (k : ℕ) (p : Passive) (rs : List Renamed) → WorkableForm ops n p → Fresh b k n rs → WorkableForm ops n (then_lets p rs)
  workable_lets k p [] u h = u
  workable_lets k p (r ∷ rs) u h = workable_lets (k + 1) (p_join Sequence p (let_of r)) rs (u, workable_let k r rs h) h.2

  workable_tail : (k : ℕ) (p : Passive) (rs : List Renamed) → WorkableForm ops n p → Fresh b k n rs → WorkableForm ops n (tail p rs)
  workable_tail k p [] u h = u
  workable_tail k p (r ∷ rs) u h = (u, workable_lets (k + 1) (let_of r) rs (workable_let k r rs h) h.2)

  workable_guard : (k : ℕ) (p : Passive) (rs : List Renamed) → WorkableForm ops n p → Fresh b k n rs → WorkableForm ops n (guard p rs)
  workable_guard k p [] u h = u
  workable_guard k p (r ∷ rs) u h = (u, (workable_lets (k + 1) (let_of r) rs (workable_let k r rs h) h.2, tt))

workable_ends : (ops i k n o : ℕ) (p : Passive) (ns xs : List Renamed) → i ≤ k → k ≤ n → n ≤ o → WorkableForm ops i p
    → Fresh k k n ns → Fresh n n o xs → WorkableForm ops o (guard (tail p ns) xs)
workable_ends ops i k n o p ns xs l l₁ l₂ u h g =
    workable_guard ops n o l₂ n (tail p ns) xs
    (workable_form_more n o ops (tail p ns) l₂ (workable_tail ops k n l₁ k p ns (workable_form_more i n ops p (omega arith) u) h)) g

-- what is so of the left part's maps, and of an absent one, is so of those by which the whole is left and the right part entered

module _ (P : Names → Type 0) (none : P None) where
  at_leaves_normal : (j : Joint) (l : Passified) → P l.normal → P (leaves_normal j l.normal)
  at_leaves_normal Sequence l h = none
  at_leaves_normal Choice l h = h
  at_leaves_normal Catch l h = h

  at_leaves_raised : (j : Joint) (l : Passified) → P l.raised → P (leaves_raised j l.raised)
  at_leaves_raised Sequence l h = h
  at_leaves_raised Choice l h = h
  at_leaves_raised Catch l h = none

pub entry_names : (v ops k : ℕ) (j : Joint) (m : List Name) (l : Passified) → NamesOf v k (Some m) → Formed v ops k l
    → NamesOf v l.next (entry j m l.normal l.raised)
entry_names v ops k Sequence m l h p = p.normal
entry_names v ops k Choice m l h p = names_more v k l.next (Some m) p.from h
entry_names v ops k Catch m l h p = p.raised

-- the left part's exits from the whole, and the two merges of a joined form
pub record MergesBoth (v : ℕ) (j : Joint) (l r : Passified) : Type 0 where
  pub left_normal : NamesOf v r.next (leaves_normal j l.normal)
  pub left_raised : NamesOf v r.next (leaves_raised j l.raised)
  pub at_normal : Merges v r.next r.next (normal_merge j l r)
  pub at_raised : Merges v (normal_merge j l r).next (normal_merge j l r).next (raised_merge j l r)

pub merges_both : (v ops k : ℕ) (j : Joint) (l r : Passified) → Formed v ops k l → Formed v ops l.next r → MergesBoth v j l r
merges_both v ops k j l r p q =
    let n = normal_merge j l r in
    let ln = at_leaves_normal (NamesOf v r.next) (tt, tt) j l (names_more v l.next r.next l.normal q.from p.normal) in
    let lx = at_leaves_raised (NamesOf v r.next) (tt, tt) j l (names_more v l.next r.next l.raised q.from p.raised) in
    let hn = merges v r.next (leaves_normal j l.normal) r.normal ln q.normal in
    record {
      left_normal = ln;
      left_raised = lx;
      at_normal = hn;
      at_raised = merges v n.next (leaves_raised j l.raised) r.raised (names_more v r.next n.next (leaves_raised j l.raised) hn.from lx)
          (names_more v r.next n.next r.raised hn.from q.raised);
    }

formed_joined : (v ops k : ℕ) (j : Joint) (l r : Passified) → Formed v ops k l → Formed v ops l.next r → Formed v ops k (joined j l r)
formed_joined v ops k j l r p q =
    let n = normal_merge j l r in
    let x = raised_merge j l r in
    let h = merges_both v ops k j l r p q in
    let hn = h.at_normal in
    let hx = h.at_raised in
    record {
      from = omega (arith, p.from, q.from, hn.from, hx.from);
      workable = (
        workable_ends ops l.next r.next n.next x.next l.code n.left x.left q.from hn.from hx.from
            p.workable hn.left_fresh hx.left_fresh,
        workable_ends ops r.next r.next n.next x.next r.code n.right x.right (omega arith) hn.from hx.from
            q.workable hn.right_fresh hx.right_fresh,
      );
      normal = names_more v n.next x.next n.names hx.from hn.both;
      raised = hx.both;
    }

below_set : (n : ℕ) (m : List Name) (i : ℕ) (f : Name) → AllBelow n m → f.0 < n → AllBelow n (set m i f)
below_set n [] i f h l = tt
below_set n (x ∷ m) zero f h l = (l, h.1)
below_set n (x ∷ m) (suc i) f h l = (h.0, below_set n m i f h.1 l)

formed_single : (v ops : ℕ) (c : Single) (m : List Name) (k : ℕ) → ProperSingle v ops c → NamesOf v k (Some m)
    → Formed v ops k (passify_single c m k)
formed_single v ops (assert t) m k w h =
    record { from = omega arith; workable = workable_renamed v k ops 0 m t h.0 h.1 w; normal = h; raised = (tt, tt) }
formed_single v ops (assume t) m k w h =
    record { from = omega arith; workable = workable_renamed v k ops 0 m t h.0 h.1 w; normal = h; raised = (tt, tt) }
formed_single v ops (assign x t) m k w h =
    let b = all_below_more k (k + 1) m (omega arith) h.1 in
    record {
      from = omega arith;
      workable = (omega arith, workable_renamed v (k + 1) ops 0 m t h.0 b w.1);
      normal = (length-set m x.0 (name k) ∙ h.0, below_set (k + 1) m x.0 (name k) b (omega arith));
      raised = (tt, tt);
    }
formed_single v ops skip m k w h = record { from = omega arith; workable = tt; normal = h; raised = (tt, tt) }
formed_single v ops raise m k w h = record { from = omega arith; workable = tt; normal = (tt, tt); raised = h }

pub formed : (v ops : ℕ) (c : Command) (m : Names) (k : ℕ) → Proper v ops c → NamesOf v k m → Formed v ops k (passify c m k)
formed v ops c None k w h = record { from = omega arith; workable = tt; normal = (tt, tt); raised = (tt, tt) }
formed v ops (single c) (Some m) k w h = formed_single v ops c m k w h
formed v ops (join j c d) (Some m) k w h =
    let l = passify c (Some m) k in
    let p = formed v ops c (Some m) k w.0 h in
    formed_joined v ops k j l (passify d (entry j m l.normal l.raised) l.next) p
    (formed v ops d (entry j m l.normal l.raised) l.next w.1 (entry_names v ops k j m l h p))

-- where a routine starts

pub length_names_from : (k n : ℕ) → length (names_from k n) ≡ n
length_names_from k zero = refl
length_names_from k (suc n) = ap suc (length_names_from (k + 1) n)

pub names_from_below : (k n b : ℕ) → k + n ≤ b → AllBelow b (names_from k n)
names_from_below k zero b h = tt
names_from_below k (suc n) b h = (omega arith, names_from_below (k + 1) n b (omega arith))

pub start_names : (v : ℕ) → NamesOf v v (Some (names_from 0 v))
start_names v = (length_names_from 0 v, names_from_below 0 v v (omega arith))

pub formed_passive : (v ops : ℕ) (c : Command) → Proper v ops c → Formed v ops v (passive_form v c)
formed_passive v ops c w = formed v ops c (Some (names_from 0 v)) v w (start_names v)

pub workable_passive : (v ops : ℕ) (c : Command) → Proper v ops c → WorkableForm ops (passive_form v c).next (passive_form v c).code
workable_passive v ops c w = (formed_passive v ops c w).workable
