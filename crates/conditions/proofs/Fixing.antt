-- In stores that look alike, the same passive form has the same nodes and the same condition.
use Rattle.std.proofs.Common.{◌≡◌, List, [], ◌∷◌, ◌++◌, sym, refl, ap, ◌∙◌, subst}
use Rattle.kinds.specs.declared.numbered.Name.{Name}
use Rattle.kinds.specs.declared.numbered.Node.{Node}
use Rattle.routine.specs.declared.rows.Item.{Item}
use Rattle.routine.specs.declared.rows.Item.TheVariants.{Literal, Reference, Operation}
use Rattle.routine.specs.declared.rows.Joint.{Joint}
use Rattle.routine.specs.declared.rows.Joint.TheVariants.{Sequence, Choice, Catch}
use Rattle.routine.specs.Commands.{Term}
use Rattle.passive.specs.Passive.{PassiveSingle, p_assert, p_assume, p_let, p_skip, p_raise, p_stop}
use Rattle.passive.specs.Layout.{layout, term_rows}
use Rattle.passive.specs.declared.rows.PassiveTermRow.{PassiveTermRow}
use Rattle.passive.specs.declared.rows.PassiveRow.{PassiveRow}
use Rattle.formula.specs.declared.stores.Making.{Making}
use Rattle.formula.specs.declared.stores.Making.TheVariants as making
use Rattle.formula.specs.Store.{node_no, node_yes, Fixing}
use Rattle.conditions.specs.Reading.{items, part, Reading, alone, joins, reading}
use Rattle.conditions.specs.Made.{Ends, ends, filled, ends_at, last_ends, ItemMade, literal_made, name_made, operation_made, TermMade, term_done, term_more, SingleMade, assert_made, assume_made, let_made, skip_made, raise_made, stop_made, OrAndMade, or_and_made, JointMade, sequence_made, catch_made, choice_made, RowMade, RowsMade, rows_done, rows_more}
use Rattle.formula.specs.Tables.{table_steps, SameTable}
use Rattle.formula.specs.Evaluators.{evaluator_steps, SameValues}
use Rattle.formula.proofs.StoreFixing.{table_fixing, evaluator_fixing}
use Rattle.kinds.specs.Kind.{KindOf}
use Rattle.conditions.specs.Fixed.{ConditionFixed}

-- the first node of a list
abbrev first_of : Node → List Node → Node
first_of n [] = n
first_of n (m ∷ ns) = m

-- what was called, read off what was made

module _ {S : Type 0} (steps : S → Making → Node → S → Type 0) where
  -- a call answered n, which was put before those that waited
  abbrev OneMore : S → Making → List Node → S → List Node → Type 0
  OneMore s c waiting t after = (n : Node) × steps s c n t × (after ≡ n ∷ waiting)

  abbrev ItemCalls : S → List Node → Item Name → S → List Node → Type 0
  ItemCalls s waiting (Literal k) t after = OneMore s (making.Literal k) waiting t after
  ItemCalls s waiting (Reference f) t after = OneMore s (making.Name f) waiting t after
  ItemCalls s [] (Operation k) t after = ⊥
  ItemCalls s (q ∷ []) (Operation k) t after = ⊥
  ItemCalls s (q ∷ (p ∷ waiting)) (Operation k) t after = OneMore s (making.Operation k p q) waiting t after

  item_calls : {s t : S} {waiting after : List Node} {i : Item Name} → ItemMade steps s waiting i t after → ItemCalls s waiting i t after
  item_calls (literal_made {n = n} h) = (n, h, refl)
  item_calls (name_made {n = n} h) = (n, h, refl)
  item_calls (operation_made {n = n} h) = (n, h, refl)

  abbrev TermCalls : S → List Node → Term Name → S → Node → Type 0
  TermCalls s waiting [] t n = (t ≡ s) × (waiting ≡ n ∷ [])
  TermCalls s waiting (i ∷ is) t n = (u : S) × (after : List Node) × ItemMade steps s waiting i u after × TermMade steps u after is t n

  term_calls : {s t : S} {waiting : List Node} {is : Term Name} {n : Node} → TermMade steps s waiting is t n → TermCalls s waiting is t n
  term_calls term_done = (refl, refl)
  term_calls (term_more {u = u} {waiting' = after} x y) = (u, after, x, y)

  abbrev SingleCalls : S → PassiveSingle → S → Ends → Type 0
  SingleCalls s (p_assert is) t e = (u : S) × (n : Node) × (w : Node) × TermMade steps s [] is u n × steps u (making.Not n) w t × (e ≡ ends n node_no w)
  SingleCalls s (p_assume is) t e = (n : Node) × TermMade steps s [] is t n × (e ≡ ends n node_no node_no)
  SingleCalls s (p_let f is) t e =
      (u : S) × (v : S) × (m : Node) × (k : Node) × (n : Node) × steps s (making.Name f) m u × TermMade steps u [] is v k × steps v (making.Same m k) n t
      × (e ≡ ends n node_no node_no)
  SingleCalls s p_skip t e = (t ≡ s) × (e ≡ ends node_yes node_no node_no)
  SingleCalls s p_raise t e = (t ≡ s) × (e ≡ ends node_no node_yes node_no)
  SingleCalls s p_stop t e = (t ≡ s) × (e ≡ ends node_no node_no node_no)

  single_calls : {s t : S} {p : PassiveSingle} {e : Ends} → SingleMade steps s p t e → SingleCalls s p t e
  single_calls (assert_made {u = u} {n = n} {w = w} x h) = (u, n, w, x, h, refl)
  single_calls (assume_made {n = n} x) = (n, x, refl)
  single_calls (let_made {u = u} {v = v} {m = m} {k = k} {n = n} h x l) = (u, v, m, k, n, h, x, l, refl)
  single_calls skip_made = (refl, refl)
  single_calls raise_made = (refl, refl)
  single_calls stop_made = (refl, refl)

  abbrev OrAndCalls : S → Node → Node → Node → S → Node → Type 0
  OrAndCalls s p q r t n = (u : S) × (m : Node) × steps s (making.And q r) m u × steps u (making.Or p m) n t

  or_and_calls : {s t : S} {p q r n : Node} → OrAndMade steps s p q r t n → OrAndCalls s p q r t n
  or_and_calls (or_and_made {u = u} {m = m} h k) = (u, m, h, k)

  -- three makings one after another answered the three nodes
  pub record InTurn (first second third : S → S → Node → Type 0) (s t : S) (e : Ends) : Type 0 where
    pub u : S
    pub v : S
    pub N : Node
    pub X : Node
    pub W : Node
    pub first_made : first s u N
    pub second_made : second u v X
    pub third_made : third v t W
    pub are : e ≡ ends N X W

  abbrev Call : Making → S → S → Node → Type 0
  Call c s t n = steps s c n t

  abbrev OrAnd : Node → Node → Node → S → S → Node → Type 0
  OrAnd p q r s t n = OrAndMade steps s p q r t n

  abbrev JointCalls : S → Joint → Ends → Ends → S → Ends → Type 0
  JointCalls s Sequence a b t e = InTurn (Call (making.And a.N b.N)) (OrAnd a.X a.N b.X) (OrAnd a.W a.N b.W) s t e
  JointCalls s Catch a b t e = InTurn (OrAnd a.N a.X b.N) (Call (making.And a.X b.X)) (OrAnd a.W a.X b.W) s t e
  JointCalls s Choice a b t e = InTurn (Call (making.Or a.N b.N)) (Call (making.Or a.X b.X)) (Call (making.Or a.W b.W)) s t e

  joint_calls : {s t : S} {j : Joint} {a b e : Ends} → JointMade steps s j a b t e → JointCalls s j a b t e
  joint_calls (sequence_made {u = u} {v = v} {n = n} {x = x} {w = w} h k l) =
      record { u = u; v = v; N = n; X = x; W = w; first_made = h; second_made = k; third_made = l; are = refl }
  joint_calls (catch_made {u = u} {v = v} {n = n} {x = x} {w = w} h k l) =
      record { u = u; v = v; N = n; X = x; W = w; first_made = h; second_made = k; third_made = l; are = refl }
  joint_calls (choice_made {u = u} {v = v} {n = n} {x = x} {w = w} h k l) =
      record { u = u; v = v; N = n; X = x; W = w; first_made = h; second_made = k; third_made = l; are = refl }

  abbrev RowsCalls : List PassiveTermRow → S → List PassiveRow → List PassiveRow → S → List PassiveRow → Type 0
  RowsCalls terms s done [] t all = (t ≡ s) × (all ≡ done)
  RowsCalls terms s done (r ∷ rest) t all =
      (u : S) × (e : Ends) × RowMade steps s (reading r (items (part terms r))) (ends_at done r.left) (last_ends done) u e
      × RowsMade steps terms u (done ++ (filled r e ∷ [])) rest t all

  rows_calls : {terms : List PassiveTermRow} {s t : S} {done rows all : List PassiveRow} → RowsMade steps terms s done rows t all → RowsCalls terms s done rows t all
  rows_calls rows_done = (refl, refl)
  rows_calls (rows_more {u = u} e x y) = (u, e, x, y)

-- the same was made

module _ {S : Type 0} (Alike : S → S → Type 0) (steps : S → Making → Node → S → Type 0) (fixing : Fixing Alike steps) where
  fixed : {s s' t t' : S} {c : Making} {n n' : Node} → Alike s s' → steps s c n t → steps s' c n' t' → (n ≡ n') × Alike t t'
  fixed a h h' = fixing _ _ _ _ _ _ _ a h h'

  stayed : {s s' t t' : S} → Alike s s' → t ≡ s → t' ≡ s' → Alike t t'
  stayed {s} {s'} {t} {t'} a e e' = subst (λ x. Alike x t') (sym e) (subst (λ x. Alike s x) (sym e') a)

  one_more_fixed : {s s' t t' : S} {c : Making} {waiting after after' : List Node} → Alike s s'
      → OneMore steps s c waiting t after → OneMore steps s' c waiting t' after' → (after ≡ after') × Alike t t'
  one_more_fixed {waiting = waiting} a x y =
      let f = fixed a x.1 y.1 in
      (x.2 ∙ ap (λ n. n ∷ waiting) f.0 ∙ sym y.2, f.1)

  item_fixed : {s s' t t' : S} {after after' : List Node} (i : Item Name) (waiting : List Node) → Alike s s'
      → ItemCalls steps s waiting i t after → ItemCalls steps s' waiting i t' after' → (after ≡ after') × Alike t t'
  item_fixed (Literal k) waiting a x y = one_more_fixed a x y
  item_fixed (Reference f) waiting a x y = one_more_fixed a x y
  item_fixed (Operation k) [] a x y = absurd x
  item_fixed (Operation k) (q ∷ []) a x y = absurd x
  item_fixed (Operation k) (q ∷ (p ∷ waiting)) a x y = one_more_fixed a x y

  term_fixed : (is : Term Name) (waiting : List Node) {s s' t t' : S} {n n' : Node} → Alike s s'
      → TermCalls steps s waiting is t n → TermCalls steps s' waiting is t' n' → (n ≡ n') × Alike t t'
  term_fixed [] waiting {n = n} a (stay, x) (stay', y) = (ap (first_of n) (sym x ∙ y), stayed a stay stay')
  term_fixed (i ∷ is) waiting {t' = t'} {n' = n'} a (u, after, x, y) (u', after', x', y') =
      let f = item_fixed i waiting a (item_calls steps x) (item_calls steps x') in
      term_fixed is after f.1 (term_calls steps y) (term_calls steps (subst (λ ns. TermMade steps u' ns is t' n') (sym f.0) y'))

  whole_fixed : {s s' t t' : S} {is : Term Name} {n n' : Node} → Alike s s' → TermMade steps s [] is t n → TermMade steps s' [] is t' n' → (n ≡ n') × Alike t t'
  whole_fixed {is = is} a x y = term_fixed is [] a (term_calls steps x) (term_calls steps y)

  single_fixed : {s s' t t' : S} {e e' : Ends} (p : PassiveSingle) → Alike s s' → SingleCalls steps s p t e → SingleCalls steps s' p t' e' → (e ≡ e') × Alike t t'
  single_fixed {t' = t'} (p_assert is) a (u, n, w, x, h, is_e) (u', n', w', x', h', is_e') =
      let f = whole_fixed a x x' in
      let g = fixed f.1 h (subst (λ m. steps u' (making.Not m) w' t') (sym f.0) h') in
      (is_e ∙ (λ i. ends (f.0 i) node_no (g.0 i)) ∙ sym is_e', g.1)
  single_fixed (p_assume is) a (n, x, is_e) (n', x', is_e') =
      let f = whole_fixed a x x' in
      (is_e ∙ ap (λ m. ends m node_no node_no) f.0 ∙ sym is_e', f.1)
  single_fixed {t' = t'} (p_let f is) a (u, v, m, k, n, h, x, l, is_e) (u', v', m', k', n', h', x', l', is_e') =
      let i = fixed a h h' in
      let j = whole_fixed i.1 x x' in
      let o = fixed j.1 l (subst (λ z. steps v' (making.Same m z) n' t') (sym j.0) (subst (λ z. steps v' (making.Same z k') n' t') (sym i.0) l')) in
      (is_e ∙ ap (λ z. ends z node_no node_no) o.0 ∙ sym is_e', o.1)
  single_fixed p_skip a (stay, x) (stay', y) = (x ∙ sym y, stayed a stay stay')
  single_fixed p_raise a (stay, x) (stay', y) = (x ∙ sym y, stayed a stay stay')
  single_fixed p_stop a (stay, x) (stay', y) = (x ∙ sym y, stayed a stay stay')

  or_and_fixed : {s s' t t' : S} {p q r n n' : Node} → Alike s s' → OrAndCalls steps s p q r t n → OrAndCalls steps s' p q r t' n' → (n ≡ n') × Alike t t'
  or_and_fixed {t' = t'} {p = p} {n' = n'} a (u, m, h, k) (u', m', h', k') =
      let f = fixed a h h' in
      fixed f.1 k (subst (λ z. steps u' (making.Or p z) n' t') (sym f.0) k')

  -- a making answers the same node in stores that look alike
  abbrev Steady : (S → S → Node → Type 0) → Type 0
  Steady R = (s s' t t' : S) (n n' : Node) → Alike s s' → R s t n → R s' t' n' → (n ≡ n') × Alike t t'

  steady_call : (c : Making) → Steady (Call steps c)
  steady_call c s s' t t' n n' a h h' = fixed a h h'

  steady_or_and : (p q r : Node) → Steady (OrAnd steps p q r)
  steady_or_and p q r s s' t t' n n' a h h' = or_and_fixed a (or_and_calls steps h) (or_and_calls steps h')

  turns_fixed : (first second third : S → S → Node → Type 0) → Steady first → Steady second → Steady third
      → {s s' t t' : S} {e e' : Ends} → Alike s s' → InTurn steps first second third s t e → InTurn steps first second third s' t' e' → (e ≡ e') × Alike t t'
  turns_fixed first second third p q r a x y =
      let f = p _ _ _ _ _ _ a x.first_made y.first_made in
      let g = q _ _ _ _ _ _ f.1 x.second_made y.second_made in
      let h = r _ _ _ _ _ _ g.1 x.third_made y.third_made in
      (x.are ∙ (λ i. ends (f.0 i) (g.0 i) (h.0 i)) ∙ sym y.are, h.1)

  joint_fixed : {s s' t t' : S} {e e' : Ends} (j : Joint) (l r : Ends) → Alike s s' → JointCalls steps s j l r t e → JointCalls steps s' j l r t' e' → (e ≡ e') × Alike t t'
  joint_fixed Sequence l r a x y =
      turns_fixed (Call steps (making.And l.N r.N)) (OrAnd steps l.X l.N r.X) (OrAnd steps l.W l.N r.W)
      (steady_call (making.And l.N r.N)) (steady_or_and l.X l.N r.X) (steady_or_and l.W l.N r.W) a x y
  joint_fixed Catch l r a x y =
      turns_fixed (OrAnd steps l.N l.X r.N) (Call steps (making.And l.X r.X)) (OrAnd steps l.W l.X r.W)
      (steady_or_and l.N l.X r.N) (steady_call (making.And l.X r.X)) (steady_or_and l.W l.X r.W) a x y
  joint_fixed Choice l r a x y =
      turns_fixed (Call steps (making.Or l.N r.N)) (Call steps (making.Or l.X r.X)) (Call steps (making.Or l.W r.W))
      (steady_call (making.Or l.N r.N)) (steady_call (making.Or l.X r.X)) (steady_call (making.Or l.W r.W)) a x y

  row_fixed : (rd : Reading) (l r : Ends) (s s' t t' : S) (e e' : Ends) → Alike s s' → RowMade steps s rd l r t e → RowMade steps s' rd l r t' e' → (e ≡ e') × Alike t t'
  row_fixed (alone p) l r s s' t t' e e' a x y = single_fixed p a (single_calls steps x) (single_calls steps y)
  row_fixed (joins j) l r s s' t t' e e' a x y = joint_fixed j l r a (joint_calls steps x) (joint_calls steps y)

  rows_fixed : (terms : List PassiveTermRow) (rows done : List PassiveRow) {s s' t t' : S} {all all' : List PassiveRow} → Alike s s'
      → RowsCalls steps terms s done rows t all → RowsCalls steps terms s' done rows t' all' → (all ≡ all') × Alike t t'
  rows_fixed terms [] done a (stay, x) (stay', y) = (x ∙ sym y, stayed a stay stay')
  rows_fixed terms (r ∷ rest) done {s = s} {s' = s'} {t' = t'} {all' = all'} a (u, e, x, y) (u', e', x', y') =
      let f = row_fixed (reading r (items (part terms r))) (ends_at done r.left) (last_ends done) s s' u u' e e' a x x' in
      rows_fixed terms rest (done ++ (filled r e ∷ [])) f.1 (rows_calls steps y)
      (rows_calls steps (subst (λ z. RowsMade steps terms u' (done ++ (filled r z ∷ [])) rest t' all') (sym f.0) y'))

  pub condition_fixed : ConditionFixed Alike steps
  condition_fixed p s s' rows rows' n n' t t' a x y =
      let f = rows_fixed (term_rows p) (layout p 0 0) [] a (rows_calls steps x.rows_made) (rows_calls steps y.rows_made) in
      let g = fixed f.1 x.last_made (subst (λ z. steps y.between (making.Not (last_ends z).W) n' t') (sym f.0) y.last_made) in
      (f.0, g.0, g.1)

-- in a table store, and in an evaluator

pub tables_fixed : {V : Type 0} → ConditionFixed (SameTable {V = V}) table_steps
tables_fixed = condition_fixed SameTable table_steps table_fixing

pub evaluators_fixed : {V : Type 0} (K : KindOf V) → ConditionFixed SameValues (evaluator_steps K)
evaluators_fixed K = condition_fixed SameValues (evaluator_steps K) (evaluator_fixing K)
