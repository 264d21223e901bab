-- One more declaration in the table of cells.
use Rattle.std.proofs.Common.{◌≡◌, ◌∙◌, ℕ, ℤ, ◌+◌, ◌<◌, ◌≤◌, Bool, true, false, cond, ◌==◌, if◌then◌else◌, List, [], ◌∷◌, ◌++◌, length}
use Rattle.std.proofs.Common.{take, drop, get_or, refl, sym, ap, arith, Bor, Option, Some, None, is_some, nat_lt}
use Rattle.std.proofs.lemmas.List.{take_more, at_drop_more}
use Rattle.std.proofs.lemmas.Map.Text.{is_eq-slice_cmp}
use Rattle.std.proofs.lemmas.Slice.Eq.{bytes_eq-Decides}
use Rattle.std.specs.BTreeMap.{get, BTreeMap}
use Rattle.std.specs.Cmp.Lexicographic.{slice_cmp}
use Rattle.std.specs.Ordering.{is_eq, nat_cmp}
use Rattle.std.specs.Str.{bytes_eq}
use Rattle.pipe_check.specs.CellTables.{IsCellTable}
use Rattle.pipe_model.specs.declared.region.Region.TheVariants as regions
use Rattle.pipe_model.specs.declared.tree.Declaration.{Declaration}
use Rattle.pipe_model.specs.Language.CheckingRules.{size_in, is_cell, cell_total, broken_at, fault_or, first_fault}
use Rattle.pipe_model.specs.Language.Marks.{opening, mark_at, DeclaredCell, marks_of_cells}
use Rattle.pipe_model.specs.Language.Programs.{declared_size}

-- another name is found as before
found_before : (ds : List Declaration) (d : Declaration) (x : List ℕ) → bytes_eq d.name x ≡ false → size_in (ds ++ d ∷ []) x ≡ size_in ds x
found_before [] d x h = rw h refl
found_before (e ∷ ds) d x h = ap (λ o. if bytes_eq e.name x then Some e.size else o) (found_before ds d x h)

-- if the first is passed over, the others decide
passed_over : (b : Bool) (size : Option ℤ) (o rest last : Option (Option ℤ)) → (if b then Some size else o) ≡ None
    → (o ≡ None → rest ≡ last)
    → (if b then Some size else rest) ≡ last
passed_over true size o rest last h f = absurd (let e : Some size ≡ None = h in cc (e))
passed_over false size o rest last h f = f h

-- the new name is found last
found_last : (ds : List Declaration) (d : Declaration) (x : List ℕ) → bytes_eq d.name x ≡ true → size_in ds x ≡ None
    → size_in (ds ++ d ∷ []) x ≡ Some d.size
found_last [] d x h new = rw h refl
found_last (e ∷ ds) d x h new =
    passed_over (bytes_eq e.name x) e.size (size_in ds x) (size_in (ds ++ d ∷ []) x) (Some d.size) new (found_last ds d x h)

-- a name is found in the table with the new one
found_by : (ds : List Declaration) (d : Declaration) (x : List ℕ) (b : Bool) → bytes_eq d.name x ≡ b → size_in ds d.name ≡ None
    → cond b (Some d.size) (size_in ds x) ≡ size_in (ds ++ d ∷ []) x
found_by ds d x true h new = sym (found_last ds d x h (ap (size_in ds) (sym ((bytes_eq-Decides d.name x).0 h)) ∙ new))
found_by ds d x false h new = sym (found_before ds d x h)

-- the sizes add up
pub total_more : (ds : List Declaration) (d : Declaration) → cell_total (ds ++ d ∷ []) ≡ cell_total ds + declared_size d.size
total_more [] d = omega arith
total_more (e ∷ ds) d = omega (arith, total_more ds d)

is_none : (o : Option (Option ℤ)) → is_some o ≡ false → o ≡ None
is_none None h = refl
is_none (Some x) h = absurd (let e : true ≡ false = h in cc (e))

-- the table has one cell more
pub table_more : (sizes grown : BTreeMap (Bor (List ℕ)) (Option ℤ)) (total count : ℕ) (ds : List Declaration) (d : Declaration)
    (key : Bor (List ℕ))
    → IsCellTable sizes total ds → key.now ≡ d.name → is_cell ds d.name ≡ false → count ≡ declared_size d.size → total + count ≤ 65536
    → ((x : Bor (List ℕ)) → get (λ a b. slice_cmp nat_cmp a.now b.now) grown x
    ≡ cond (is_eq (slice_cmp nat_cmp key.now x.now)) (Some d.size) (get (λ a b. slice_cmp nat_cmp a.now b.now) sizes x))
    → IsCellTable grown (total + count) (ds ++ d ∷ [])
table_more sizes grown total count ds d key table named new counted bounded updates = record {
  found = λ x. updates x ∙ ap (λ o. cond (is_eq (slice_cmp nat_cmp key.now x.now)) (Some d.size) o) (table.found x)
      ∙ ap (λ b. cond b (Some d.size) (size_in ds x.now)) (is_eq-slice_cmp key.now x.now ∙ ap (λ name. bytes_eq name x.now) named)
      ∙ found_by ds d x.now (bytes_eq d.name x.now) refl (is_none (size_in ds d.name) new);
  total_is = omega (arith, table.total_is, counted, total_more ds d);
  bounded = bounded;
}

-- the declarations before index i, and the one at i
pub take_next : (cells : List Declaration) (i : ℕ) (d : Declaration) → i < length cells → d ≡ get_or cells i d
    → take (i + 1) cells ≡ take i cells ++ d ∷ []
take_next cells i d h e = take_more cells i d h ∙ ap (λ x. take i cells ++ x ∷ []) (sym e)

-- the declaration obeys the rules
cell_obeys : (ds : List Declaration) (d : Declaration) → is_cell ds d.name ≡ false → nat_lt 65536
    (cell_total ds + declared_size d.size) ≡ false
    → (declared_size d.size == 0) ≡ false → broken_at (mark_at (opening regions.Cells ds) (DeclaredCell d.name d.size)) ≡ None
cell_obeys ds d new bounded some = rw (new, bounded, some) refl

-- after a declaration without a fault, the first fault is the first of the other declarations
pub cell_passed : (cells : List Declaration) (i n : ℕ) (d : Declaration) → i < length cells → d ≡ get_or cells i d
    → is_cell (take i cells) d.name ≡ false
    → nat_lt 65536 (cell_total (take i cells) + declared_size d.size) ≡ false → (declared_size d.size == 0) ≡ false
    → first_fault (n + 1) (marks_of_cells (take (i + 1) cells) (drop (i + 1) cells)) ≡ first_fault n
    (marks_of_cells (take i cells) (drop i cells))
cell_passed cells i n d h e new bounded some =
    let rest = drop (i + 1) cells in
    let split : drop i cells ≡ d ∷ rest = at_drop_more (λ ds. ds) cells i d h ∙ ap (λ x. x ∷ rest) (sym e) in
    ap (λ before. first_fault (n + 1) (marks_of_cells before rest)) (take_next cells i d h e)
    ∙ ap (λ broken. fault_or broken n (first_fault (n + 1) (marks_of_cells (take i cells ++ d ∷ []) rest)))
    (sym (cell_obeys (take i cells) d new bounded some))
    ∙ ap (λ ds. first_fault n (marks_of_cells (take i cells) ds)) (sym split)
