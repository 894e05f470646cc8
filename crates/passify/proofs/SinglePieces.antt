-- A single command in the tables: its row and its term.
use Rattle.std.proofs.Common.{◌≡◌, ℕ, ◌+◌, ◌^◌, ◌<◌, ◌≤◌, List, [], ◌∷◌, length, set, Ok, sym, refl, ap, ◌∙◌, arith}
use Rattle.kinds.specs.declared.numbered.Name.{Name}
use Rattle.routine.specs.declared.rows.TermRow.{TermRow}
use Rattle.routine.specs.declared.rows.CommandRow.{CommandRow}
use Rattle.routine.specs.declared.rows.Tag.TheVariants.{Assert, Assume, Assign}
use Rattle.routine.specs.Rows.{tag_of}
use Rattle.routine.specs.Commands.{Single, assert, assume, assign, skip, raise}
use Rattle.passive.specs.Passive.{name, passify_single}
use Rattle.passive.specs.Layout.{term_rows, passive_row, rows, layout, put}
use Rattle.passive.specs.declared.rows.PassiveTermRow.{PassiveTermRow}
use Rattle.passive.specs.declared.rows.PassiveRow.{PassiveRow}
use Rattle.passify.specs.declared.writing.Place.{Place}
use Rattle.passify.specs.Measuring.{AtSingle}
use Rattle.passify.specs.Pieces.{Wrote}
use Rattle.passify.specs.Writing.{passive_terms, TermRoom, TermWritten, single_piece, SingleWritable}
use Rattle.passify.proofs.Parts.{length_layout}
use Rattle.passify.proofs.Putting.{set_put}
use Rattle.passify.proofs.Singles.{renamed_long}

-- the row
module _ (r : CommandRow) (k from : ℕ) (tr : PassiveRow) (ts : List TermRow) (m : List Name) where
  abbrev RowOf : Single → Type 0
  RowOf c = ◌≡◌ {A = List PassiveRow} (tr ∷ []) (layout (passify_single c m k).code 0 from)

  pub assert_row : tag_of r.tag ≡ Ok Assert → tr ≡ passive_row 1 (name 0) from r.count 0 → AtSingle ts r RowOf
  assert_row e w v ops (assert t) g f = ap (λ y. y ∷ []) (w ∙ ap (λ n. passive_row 1 (name 0) from n 0) (renamed_long v ops ts r t f m))
  assert_row e w v ops (assume t) g f = let h = sym (ap tag_of g) ∙ e in let z : ◌≡◌ {A = ℕ} 0 1 = cc in absurd (omega arith)
  assert_row e w v ops (assign x t) g f = let h = sym (ap tag_of g) ∙ e in let z : ◌≡◌ {A = ℕ} 0 1 = cc in absurd (omega arith)
  assert_row e w v ops skip g f = let h = sym (ap tag_of g) ∙ e in let z : ◌≡◌ {A = ℕ} 0 1 = cc in absurd (omega arith)
  assert_row e w v ops raise g f = let h = sym (ap tag_of g) ∙ e in let z : ◌≡◌ {A = ℕ} 0 1 = cc in absurd (omega arith)

  pub assume_row : tag_of r.tag ≡ Ok Assume → tr ≡ passive_row 2 (name 0) from r.count 0 → AtSingle ts r RowOf
  assume_row e w v ops (assert t) g f = let h = sym (ap tag_of g) ∙ e in let z : ◌≡◌ {A = ℕ} 0 1 = cc in absurd (omega arith)
  assume_row e w v ops (assume t) g f = ap (λ y. y ∷ []) (w ∙ ap (λ n. passive_row 2 (name 0) from n 0) (renamed_long v ops ts r t f m))
  assume_row e w v ops (assign x t) g f = let h = sym (ap tag_of g) ∙ e in let z : ◌≡◌ {A = ℕ} 0 1 = cc in absurd (omega arith)
  assume_row e w v ops skip g f = let h = sym (ap tag_of g) ∙ e in let z : ◌≡◌ {A = ℕ} 0 1 = cc in absurd (omega arith)
  assume_row e w v ops raise g f = let h = sym (ap tag_of g) ∙ e in let z : ◌≡◌ {A = ℕ} 0 1 = cc in absurd (omega arith)

  pub assign_row : tag_of r.tag ≡ Ok Assign → tr ≡ passive_row 9 (name k) from r.count 0 → AtSingle ts r RowOf
  assign_row e w v ops (assert t) g f = let h = sym (ap tag_of g) ∙ e in let z : ◌≡◌ {A = ℕ} 0 1 = cc in absurd (omega arith)
  assign_row e w v ops (assume t) g f = let h = sym (ap tag_of g) ∙ e in let z : ◌≡◌ {A = ℕ} 0 1 = cc in absurd (omega arith)
  assign_row e w v ops (assign x t) g f = ap (λ y. y ∷ []) (w ∙ ap (λ n. passive_row 9 (name k) from n 0) (renamed_long v ops ts r t f.2 m))
  assign_row e w v ops skip g f = let h = sym (ap tag_of g) ∙ e in let z : ◌≡◌ {A = ℕ} 0 1 = cc in absurd (omega arith)
  assign_row e w v ops raise g f = let h = sym (ap tag_of g) ∙ e in let z : ◌≡◌ {A = ℕ} 0 1 = cc in absurd (omega arith)

-- row and term together

anywhere : (c : Single) (m : List Name) (k i j : ℕ) → layout (passify_single c m k).code 0 j ≡ layout (passify_single c m k).code i j
anywhere (assert t) m k i j = refl
anywhere (assume t) m k i j = refl
anywhere (assign x t) m k i j = refl
anywhere skip m k i j = refl
anywhere raise m k i j = refl

any_name : (c : Single) (m : List Name) (k : ℕ) → passive_terms c m ≡ term_rows (passify_single c m k).code
any_name (assert t) m k = refl
any_name (assume t) m k = refl
any_name (assign x t) m k = refl
any_name skip m k = refl
any_name raise m k = refl

one_row_long : (c : Single) (m : List Name) (k i j : ℕ) → length (layout (passify_single c m k).code i j) ≡ 1
one_row_long c m k i j = length_layout (passify_single c m k).code i j ∙ one c
  where
    one : (c : Single) → rows (passify_single c m k).code ≡ 1
    one (assert t) = refl
    one (assume t) = refl
    one (assign x t) = refl
    one skip = refl
    one raise = refl

module _ (m : List Name) (k : ℕ) (at : Place) (E : List PassiveRow) (T : List PassiveTermRow) (c : Single) where
  pub record Rooms : Type 0 where
    pub row : at.row + 1 ≤ length E
    pub row_few : at.row + 1 < 2 ^ 32
    pub term : TermRoom (length (passive_terms c (m))) at.term (length T)

  pub rooms : SingleWritable m k at E T c → Rooms
  rooms (f, r) =
      let l = one_row_long c (m) k at.row at.term in
      let n = ap length (any_name c (m) k) in
      record {
        row = omega (arith, r.rows_room);
        row_few = omega (arith, r.rows_few);
        term = record { room = omega (arith, r.terms_room); few = omega (arith, r.terms_few) };
      }

  pub single_wrote :
      (tr : PassiveRow) (T' : List PassiveTermRow) (end : ℕ) → at.row < length E
      → ◌≡◌ {A = List PassiveRow} (tr ∷ []) (layout (passify_single c (m) k).code 0 at.term)
      → TermWritten (passive_terms c (m)) at.term T T' end
      → Wrote (single_piece m k c at) at E (set E at.row tr) T T' (record { row = at.row + 1; term = end })
  single_wrote tr T' end h e w = record {
    rows_in = set_put E at.row tr h ∙ ap (put E at.row) (e ∙ anywhere c (m) k at.row at.term);
    terms_in = w.terms_in ∙ ap (put T at.term) (any_name c (m) k);
    row_end = ap (λ n. at.row + n) (sym (one_row_long c (m) k at.row at.term));
    term_end = w.term_end ∙ ap (λ rs. at.term + length rs) (any_name c (m) k);
  }
