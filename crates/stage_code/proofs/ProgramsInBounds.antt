-- A program that breaks no rule can run: its names are known, and there is room for its stack, slots and cells.
use Rattle.std.proofs.Common.{◌≡◌, ◌∙◌, ℕ, suc, ℤ, ◌+◌, ◌<◌, ◌≤◌, Bool, true, false, ◌||◌, if◌then◌else◌, List, [], ◌∷◌, ◌++◌, length, All}
use Rattle.std.proofs.Common.{Option, Some, None, is_some, refl, sym, ap, subst, arith, length-append}
use Rattle.std.specs.Prelude.{nat_le}
use Rattle.std.specs.Str.{bytes_eq}
use Rattle.pipe_model.specs.declared.bounds.TheConstants.{MOST_LOCALS}
use Rattle.pipe_check.specs.RuleLaws.{ObeysThese}
use Rattle.pipe_check.proofs.FirstFaults.{breaks_none, first_of, others_of}
use Rattle.pipe_model.specs.declared.region.Region.{Region}
use Rattle.pipe_model.specs.declared.region.Region.TheVariants as regions
use Rattle.pipe_model.specs.declared.tree.Declaration.{Declaration}
use Rattle.pipe_model.specs.Language.CheckingRules.{rules_in_order, Unknown, size_in, cell_total, Local, cell_meaning, is_among, meaning_at}
use Rattle.pipe_model.specs.Language.CheckingRules.{is_nothing, is_single, is_array, fault_of}
use Rattle.pipe_model.specs.Language.Evaluation.{CellRange}
use Rattle.pipe_model.specs.Language.Marks.{Scope, Mark, Plain, Indexed, DeclaredLocal, StageWord, mark_at, opening, leave, after_statement}
use Rattle.pipe_model.specs.Language.Marks.{after_statements, after_block, marks_of, marks_of_cells, marks_of_expression}
use Rattle.pipe_model.specs.Language.Marks.{marks_of_statement, marks_of_statements}
use Rattle.pipe_model.specs.Language.Programs.{declared_size, range_of}
use Rattle.pipe_model.specs.Language.SyntaxTree.{Expression, Number, Name, Element, And, Or, Binary, Unary, More, Take, Iter, Statement}
use Rattle.pipe_model.specs.Language.SyntaxTree.{Let, Assign, AssignElement, Emit, If, While, Stage, NextStage, Statements, Empty, Then}
use Rattle.pipe_model.specs.Language.SyntaxTree.{SyntaxTree}
use Rattle.stage_code.specs.Instructions.{Bounds}
use Rattle.stage_code.proofs.TreesInBounds.{IsKnown, HasCells, StaysInBounds, StatementStaysInBounds, StatementsStayInBounds}
use Rattle.stage_code.specs.Heights.{greater, height_of, height_of_statement, height_of_statements, greatest_height}
use Rattle.stage_code.specs.Slots.{slot_of, one_later, locals_after, HasSlots, HaveSlots}
use Rattle.stage_code.proofs.Heights.{greater_first, greater_second}
use Rattle.stage_code.proofs.Lists.{all_front, all_back}

-- the mark breaks no rule
abbrev pub Obeys : Mark → Type 0
Obeys mark = ObeysThese mark rules_in_order

abbrev pub Obey : List Mark → Type 0
Obey marks = All Obeys marks

-- ---- names

-- a name has cells if it is declared, and all are served
abbrev Agree : Bounds → Option (Option ℤ) → Option CellRange → Type 0
Agree bounds None None = Unit {0}
Agree bounds None (Some range) = ⊥
Agree bounds (Some size) None = ⊥
Agree bounds (Some None) (Some range) = range.first + 1 ≤ bounds.cells
Agree bounds (Some (Some n)) (Some range) = range.first + range.size ≤ bounds.cells

agree_first : (bounds : Bounds) (size : Option ℤ) (first : ℕ) → first + declared_size size ≤ bounds.cells
    → Agree bounds (Some size) (Some (record { first = first; size = declared_size size }))
agree_first bounds None first served = served
agree_first bounds (Some n) first served = served

agree : (bounds : Bounds) (next : ℕ) (ds : List Declaration) (x : List ℕ) → next + cell_total ds ≤ bounds.cells
    → Agree bounds (size_in ds x) (range_of next ds x)
agree bounds next [] x served = tt
agree bounds next (d ∷ ds) x served = by (bytes_eq d.name x) (agree bounds (next + declared_size d.size) ds x (omega (arith, served)))
  where
    by : (b : Bool) → Agree bounds (size_in ds x) (range_of (next + declared_size d.size) ds x)
        → Agree bounds (if b then Some d.size else size_in ds x) (if b then Some (record { first = next; size = declared_size d.size })
        else range_of (next + declared_size d.size) ds x)
    by true h = agree_first bounds d.size next (omega (arith, served))
    by false h = h

among_slot : (names : List (List ℕ)) (x : List ℕ) → is_among names x ≡ is_some (slot_of names x)
among_slot [] x = refl
among_slot (name ∷ names) x = by (bytes_eq name x) (among_slot names x)
  where
    later : (o : Option ℕ) → is_some o ≡ is_some (one_later o)
    later None = refl
    later (Some slot) = refl

    by : (b : Bool) → is_among names x ≡ is_some (slot_of names x) → (b || is_among names x) ≡ is_some
        (if b then Some 0 else one_later (slot_of names x))
    by true h = refl
    by false h = h ∙ later (slot_of names x)

known_by : (bounds : Bounds) (slot : Option ℕ) (size : Option (Option ℤ)) (range : Option CellRange) → Agree bounds size range
    → is_nothing (if is_some slot then Local else cell_meaning size) ≡ false
    → is_array (if is_some slot then Local else cell_meaning size) ≡ false → IsKnown bounds slot range
known_by bounds (Some j) size range a some plain = tt
known_by bounds None None None a some plain = absurd (let d : true ≡ false = some in cc (d))
known_by bounds None None (Some range) a some plain = elim a [ ]
known_by bounds None (Some None) None a some plain = elim a [ ]
known_by bounds None (Some None) (Some range) a some plain = a
known_by bounds None (Some (Some n)) range a some plain = absurd (let d : true ≡ false = plain in cc (d))

cells_by : (bounds : Bounds) (slot : Option ℕ) (size : Option (Option ℤ)) (range : Option CellRange) → Agree bounds size range
    → is_nothing (if is_some slot then Local else cell_meaning size) ≡ false
    → is_single (if is_some slot then Local else cell_meaning size) ≡ false → HasCells bounds range
cells_by bounds (Some j) size range a some many = absurd (let d : true ≡ false = many in cc (d))
cells_by bounds None None range a some many = absurd (let d : true ≡ false = some in cc (d))
cells_by bounds None (Some None) range a some many = absurd (let d : true ≡ false = many in cc (d))
cells_by bounds None (Some (Some n)) None a some many = elim a [ ]
cells_by bounds None (Some (Some n)) (Some range) a some many = a

meaning_is : (scope : Scope) (x : List ℕ) → meaning_at scope x
    ≡ (if is_some (slot_of scope.visible x) then Local else cell_meaning (size_in scope.cells x))
meaning_is scope x = ap (λ b. if b then Local else cell_meaning (size_in scope.cells x)) (among_slot scope.visible x)

-- ---- scopes

-- a scope with these cells, all served; its locals are among its `let` statements, which are not too many
pub record IsScope (cells : List Declaration) (bounds : Bounds) (scope : Scope) : Type 0 where
  pub cells_are : scope.cells ≡ cells
  pub served : 2 + cell_total cells ≤ bounds.cells
  pub covered : length scope.visible ≤ length scope.lets
  pub bounded : length scope.lets ≤ MOST_LOCALS

pub first_scope : (cells : List Declaration) (bounds : Bounds) (region : Region) → 2 + cell_total cells ≤ bounds.cells
    → IsScope cells bounds (opening region cells)
first_scope cells bounds region served = record { cells_are = refl; served = served; covered = omega arith; bounded = omega arith }

known : (cells : List Declaration) (bounds : Bounds) (scope : Scope) (x : List ℕ) → IsScope cells bounds scope
    → Obeys (mark_at scope (Plain x))
    → IsKnown bounds (slot_of scope.visible x) (range_of 2 cells x)
known cells bounds scope x s h =
    let served : 2 + cell_total scope.cells ≤ bounds.cells = subst (λ (ds : List Declaration). 2 + cell_total ds ≤ bounds.cells)
    (sym s.cells_are) s.served in
    let some : is_nothing (meaning_at scope x) ≡ false = h 0 Unknown (omega arith) in
    let plain : is_array (meaning_at scope x) ≡ false = h 6 Unknown (omega arith) in
    subst (λ (ds : List Declaration). IsKnown bounds (slot_of scope.visible x) (range_of 2 ds x)) s.cells_are
    (known_by bounds (slot_of scope.visible x) (size_in scope.cells x) (range_of 2 scope.cells x) (agree bounds 2 scope.cells x served)
    (ap is_nothing (sym (meaning_is scope x)) ∙ some) (ap is_array (sym (meaning_is scope x)) ∙ plain))

has_cells : (cells : List Declaration) (bounds : Bounds) (scope : Scope) (x : List ℕ) → IsScope cells bounds scope
    → Obeys (mark_at scope (Indexed x)) → HasCells bounds (range_of 2 cells x)
has_cells cells bounds scope x s h =
    let served : 2 + cell_total scope.cells ≤ bounds.cells = subst (λ (ds : List Declaration). 2 + cell_total ds ≤ bounds.cells)
    (sym s.cells_are) s.served in
    let some : is_nothing (meaning_at scope x) ≡ false = h 0 Unknown (omega arith) in
    let many : is_single (meaning_at scope x) ≡ false = h 5 Unknown (omega arith) in
    subst (λ (ds : List Declaration). HasCells bounds (range_of 2 ds x)) s.cells_are
    (cells_by bounds (slot_of scope.visible x) (size_in scope.cells x) (range_of 2 scope.cells x) (agree bounds 2 scope.cells x served)
    (ap is_nothing (sym (meaning_is scope x)) ∙ some) (ap is_single (sym (meaning_is scope x)) ∙ many))

some_high : (e : Expression) → 0 < height_of e
some_high (Number n) = omega arith
some_high (Name x) = omega arith
some_high (Element x i) = some_high i
some_high (And a b) = omega (arith, some_high a, greater_first (height_of a) (height_of b))
some_high (Or a b) = omega (arith, some_high a, greater_first (height_of a) (height_of b))
some_high (Binary code a b) = omega (arith, some_high a, greater_first (height_of a) (suc (height_of b)))
some_high (Unary code a) = some_high a
some_high More = omega arith
some_high Take = omega arith
some_high Iter = omega arith

-- ---- expressions

expression_in_bounds : (cells : List Declaration) (bounds : Bounds) (scope : Scope) → IsScope cells bounds scope → (e : Expression) (h : ℕ)
    → Obey (marks_of_expression scope e) → h + height_of e ≤ bounds.depth → StaysInBounds bounds (range_of 2 cells) scope.visible h e
expression_in_bounds cells bounds scope s (Number n) h o low = omega (arith, low)
expression_in_bounds cells bounds scope s (Name x) h o low =
    (omega (arith, low), known cells bounds scope x s (first_of Obeys (mark_at scope (Plain x)) [] o))
expression_in_bounds cells bounds scope s (Element x i) h o low =
    let inner = expression_in_bounds cells bounds scope s i h (others_of Obeys (mark_at scope (Indexed x)) (marks_of_expression scope i) o)
    low in (
      omega (arith, some_high i, low),
      has_cells cells bounds scope x s
          (first_of Obeys (mark_at scope (Indexed x)) (marks_of_expression scope i) o),
      inner,
    )
expression_in_bounds cells bounds scope s (And a b) h o low =
    let first = greater_first (height_of a) (height_of b) in
    let second = greater_second (height_of a) (height_of b) in
    let ma = marks_of_expression scope a in
    let mb = marks_of_expression scope b in (
      omega (arith, some_high a, first, low),
      expression_in_bounds cells bounds scope s a h (all_front Obeys ma mb o) (omega (arith, first, low)),
      expression_in_bounds cells bounds scope s b h (all_back Obeys ma mb o) (omega (arith, second, low)),
    )
expression_in_bounds cells bounds scope s (Or a b) h o low =
    let first = greater_first (height_of a) (height_of b) in
    let second = greater_second (height_of a) (height_of b) in
    let ma = marks_of_expression scope a in
    let mb = marks_of_expression scope b in (
      omega (arith, some_high a, first, low),
      expression_in_bounds cells bounds scope s a h (all_front Obeys ma mb o) (omega (arith, first, low)),
      expression_in_bounds cells bounds scope s b h (all_back Obeys ma mb o) (omega (arith, second, low)),
    )
expression_in_bounds cells bounds scope s (Binary code a b) h o low =
    let first = greater_first (height_of a) (suc (height_of b)) in
    let second = greater_second (height_of a) (suc (height_of b)) in
    let ma = marks_of_expression scope a in
    let mb = marks_of_expression scope b in (
      omega (arith, some_high a, first, low),
      expression_in_bounds cells bounds scope s a h (all_front Obeys ma mb o) (omega (arith, first, low)),
      expression_in_bounds cells bounds scope s b (suc h) (all_back Obeys ma mb o) (omega (arith, second, low)),
    )
expression_in_bounds cells bounds scope s (Unary code a) h o low =
    (omega (arith, some_high a, low), expression_in_bounds cells bounds scope s a h o low)
expression_in_bounds cells bounds scope s More h o low = (omega (arith, low), omega (arith, s.served))
expression_in_bounds cells bounds scope s Take h o low = (omega (arith, low), omega (arith, s.served))
expression_in_bounds cells bounds scope s Iter h o low = omega (arith, low)

-- ---- statements

less_by : (n : ℕ) → nat_le MOST_LOCALS n ≡ false → n < MOST_LOCALS
less_by n h = grind (arith, h)

-- a part has at most 64 `let` statements
let_room : (cells : List Declaration) (bounds : Bounds) (scope : Scope) (x : List ℕ) → IsScope cells bounds scope
    → Obeys (mark_at scope (DeclaredLocal x)) → length scope.lets < MOST_LOCALS
let_room cells bounds scope x s h = less_by (length scope.lets) (h 4 Unknown (omega arith))

-- a scope further on in the part
record Continues (cells : List Declaration) (bounds : Bounds) (scope after : Scope) : Type 0 where
  pub is_scope : IsScope cells bounds after
  pub more : length scope.lets ≤ length after.lets

stays : (cells : List Declaration) (bounds : Bounds) (scope : Scope) → IsScope cells bounds scope → Continues cells bounds scope scope
stays cells bounds scope s = record { is_scope = s; more = omega arith }

-- after a block
leaves : (cells : List Declaration) (bounds : Bounds) (scope inner : Scope) → IsScope cells bounds scope
    → Continues cells bounds scope inner
    → Continues cells bounds scope (leave scope inner)
leaves cells bounds scope inner s f = record {
  is_scope = record {
    cells_are = f.is_scope.cells_are;
    served = s.served;
    covered = omega (arith, s.covered, f.more);
    bounded =
        f.is_scope.bounded;
  };
  more = f.more;
}

then_continues : (cells : List Declaration) (bounds : Bounds) (a b c : Scope) → Continues cells bounds a b → Continues cells bounds b c
    → Continues cells bounds a c
then_continues cells bounds a b c f g = record { is_scope = g.is_scope; more = omega (arith, f.more, g.more) }

mutual
  continues : (cells : List Declaration) (bounds : Bounds) (s : Statement) (scope : Scope) → IsScope cells bounds scope
      → Obey (marks_of_statement scope s)
      → Continues cells bounds scope (after_statement scope s)
  continues cells bounds (Let x e) scope s o =
      let room = let_room cells bounds scope x s (first_of Obeys (mark_at scope (DeclaredLocal x)) (marks_of_expression scope e) o) in
      let names = length-append scope.visible (x ∷ []) in
      let lets = length-append scope.lets (x ∷ []) in
      record {
        is_scope = record {
          cells_are = s.cells_are;
          served = s.served;
          covered = omega (arith, s.covered, names, lets);
          bounded =
              omega (arith, room, lets);
        };
        more = omega (arith, lets);
      }
  continues cells bounds (Assign x e) scope s o = stays cells bounds scope s
  continues cells bounds (AssignElement x i e) scope s o = stays cells bounds scope s
  continues cells bounds (Emit e) scope s o = stays cells bounds scope s
  continues cells bounds (If e a b) scope s o =
      let es = marks_of_expression scope e in
      let ma = marks_of_statements scope a in
      let mb = marks_of_statements (after_block scope a) b in
      let blocks = all_back Obeys es (ma ++ mb) o in
      let first = leaves cells bounds scope (after_statements scope a) s
      (continue_all cells bounds a scope s (all_front Obeys ma mb blocks)) in
      let second = continue_all cells bounds b (after_block scope a) first.is_scope (all_back Obeys ma mb blocks) in
      leaves cells bounds scope (after_statements (after_block scope a) b) s
      (then_continues cells bounds scope (after_block scope a) (after_statements (after_block scope a) b) first second)
  continues cells bounds (While e a) scope s o =
      let es = marks_of_expression scope e in
      leaves cells bounds scope (after_statements scope a) s
      (continue_all cells bounds a scope s (all_back Obeys es (marks_of_statements scope a) o))
  continues cells bounds (Stage kind e) scope s o = stays cells bounds scope s
  continues cells bounds (NextStage kind) scope s o = stays cells bounds scope s

  continue_all : (cells : List Declaration) (bounds : Bounds) (ss : Statements) (scope : Scope) → IsScope cells bounds scope
      → Obey (marks_of_statements scope ss)
      → Continues cells bounds scope (after_statements scope ss)
  continue_all cells bounds Empty scope s o = stays cells bounds scope s
  continue_all cells bounds (Then t ss) scope s o =
      let ms = marks_of_statement scope t in
      let rest = marks_of_statements (after_statement scope t) ss in
      let one = continues cells bounds t scope s (all_front Obeys ms rest o) in
      then_continues cells bounds scope (after_statement scope t) (after_statements (after_statement scope t) ss) one
      (continue_all cells bounds ss (after_statement scope t) one.is_scope (all_back Obeys ms rest o))

visible_after : (scope : Scope) (s : Statement) → (after_statement scope s).visible ≡ locals_after scope.visible s
visible_after scope (Let x e) = refl
visible_after scope (Assign x e) = refl
visible_after scope (AssignElement x i e) = refl
visible_after scope (Emit e) = refl
visible_after scope (If e a b) = refl
visible_after scope (While e a) = refl
visible_after scope (Stage kind e) = refl
visible_after scope (NextStage kind) = refl

mutual
  statement_in_bounds : (cells : List Declaration) (bounds : Bounds) (t : Statement) (scope : Scope) → IsScope cells bounds scope
      → Obey (marks_of_statement scope t)
      → height_of_statement t ≤ bounds.depth → StatementStaysInBounds bounds (range_of 2 cells) scope.visible t
  statement_in_bounds cells bounds (Let x e) scope s o low =
      let es = marks_of_expression scope e in
      let room = let_room cells bounds scope x s (first_of Obeys (mark_at scope (DeclaredLocal x)) es o) in (
        expression_in_bounds cells bounds scope s e 0 (others_of Obeys (mark_at scope (DeclaredLocal x)) es o) (omega (arith, low)),
        omega
            (arith, room, s.covered),
      )
  statement_in_bounds cells bounds (Assign x e) scope s o low =
      let es = marks_of_expression scope e in (
        expression_in_bounds cells bounds scope s e 0 (others_of Obeys (mark_at scope (Plain x)) es o) (omega (arith, low)),
        known cells bounds
            scope x s (first_of Obeys (mark_at scope (Plain x)) es o),
      )
  statement_in_bounds cells bounds (AssignElement x i e) scope s o low =
      let is = marks_of_expression scope i in
      let es = marks_of_expression scope e in
      let rest = others_of Obeys (mark_at scope (Indexed x)) (is ++ es) o in
      let first = greater_first (height_of i) (suc (height_of e)) in
      let second = greater_second (height_of i) (suc (height_of e)) in (
        expression_in_bounds cells bounds scope s i 0 (all_front Obeys is es rest) (omega (arith, first, low)),
        expression_in_bounds cells bounds scope s e 1 (all_back Obeys is es rest) (omega (arith, second, low)),
        has_cells cells bounds scope x s (first_of Obeys (mark_at scope (Indexed x)) (is ++ es) o),
      )
  statement_in_bounds cells bounds (Emit e) scope s o low =
      (expression_in_bounds cells bounds scope s e 0 o (omega (arith, low)), omega (arith, s.served))
  statement_in_bounds cells bounds (If e a b) scope s o low =
      let es = marks_of_expression scope e in
      let ma = marks_of_statements scope a in
      let mb = marks_of_statements (after_block scope a) b in
      let blocks = all_back Obeys es (ma ++ mb) o in
      let inner = greater (height_of_statements a) (height_of_statements b) in
      let first = greater_first (height_of e) inner in
      let second = greater_second (height_of e) inner in
      let third = greater_first (height_of_statements a) (height_of_statements b) in
      let fourth = greater_second (height_of_statements a) (height_of_statements b) in
      let between = leaves cells bounds scope (after_statements scope a) s
      (continue_all cells bounds a scope s (all_front Obeys ma mb blocks)) in (
        expression_in_bounds cells bounds scope s e 0 (all_front Obeys es (ma ++ mb) o) (omega (arith, first, low)),
        statements_in_bounds cells bounds a scope s (all_front Obeys ma mb blocks) (omega (arith, second, third, low)),
        statements_in_bounds cells bounds b (after_block scope a) between.is_scope (all_back Obeys ma mb blocks)
            (omega (arith, second, fourth, low)),
      )
  statement_in_bounds cells bounds (While e a) scope s o low =
      let es = marks_of_expression scope e in
      let ma = marks_of_statements scope a in
      let first = greater_first (height_of e) (height_of_statements a) in
      let second = greater_second (height_of e) (height_of_statements a) in (
        expression_in_bounds cells bounds scope s e 0 (all_front Obeys es ma o) (omega (arith, first, low)),
        statements_in_bounds cells bounds a scope s (all_back Obeys es ma o) (omega (arith, second, low)),
      )
  statement_in_bounds cells bounds (Stage kind e) scope s o low =
      expression_in_bounds cells bounds scope s e 0 (others_of Obeys (mark_at scope StageWord) (marks_of_expression scope e) o)
      (omega (arith, low))
  statement_in_bounds cells bounds (NextStage kind) scope s o low = tt

  statements_in_bounds : (cells : List Declaration) (bounds : Bounds) (ss : Statements) (scope : Scope) → IsScope cells bounds scope
      → Obey (marks_of_statements scope ss)
      → height_of_statements ss ≤ bounds.depth → StatementsStayInBounds bounds (range_of 2 cells) scope.visible ss
  statements_in_bounds cells bounds Empty scope s o low = tt
  statements_in_bounds cells bounds (Then t ss) scope s o low =
      let ms = marks_of_statement scope t in
      let rest = marks_of_statements (after_statement scope t) ss in
      let one = continues cells bounds t scope s (all_front Obeys ms rest o) in
      let first = greater_first (height_of_statement t) (height_of_statements ss) in
      let second = greater_second (height_of_statement t) (height_of_statements ss) in (
        statement_in_bounds cells bounds t scope s (all_front Obeys ms rest o) (omega (arith, first, low)),
        subst (λ (names : List (List ℕ)). StatementsStayInBounds bounds (range_of 2 cells) names ss) (visible_after scope t)
            (statements_in_bounds cells bounds ss (after_statement scope t) one.is_scope (all_back Obeys ms rest o)
            (omega (arith, second, low))),
      )

-- ---- slots

mutual
  slots_of : (bounds : Bounds) (cells : List ℕ → Option CellRange) (scope : List (List ℕ)) (t : Statement)
      → StatementStaysInBounds bounds cells scope t → HasSlots scope t
  slots_of bounds cells scope (Let x e) g = g.1
  slots_of bounds cells scope (Assign x e) g = tt
  slots_of bounds cells scope (AssignElement x i e) g = tt
  slots_of bounds cells scope (Emit e) g = tt
  slots_of bounds cells scope (If e a b) g = (slots_of_all bounds cells scope a g.1, slots_of_all bounds cells scope b g.2)
  slots_of bounds cells scope (While e a) g = slots_of_all bounds cells scope a g.1
  slots_of bounds cells scope (Stage kind e) g = tt
  slots_of bounds cells scope (NextStage kind) g = tt

  pub slots_of_all : (bounds : Bounds) (cells : List ℕ → Option CellRange) (scope : List (List ℕ)) (ss : Statements)
      → StatementsStayInBounds bounds cells scope ss → HaveSlots scope ss
  slots_of_all bounds cells scope Empty g = tt
  slots_of_all bounds cells scope (Then t ss) g = (
    slots_of bounds cells scope t g.0,
    slots_of_all bounds cells
        (locals_after scope t) ss g.1,
  )

-- ---- programs

pub record ProgramStaysInBounds (bounds : Bounds) (tree : SyntaxTree) : Type 0 where
  pub init : StatementsStayInBounds bounds (range_of 2 tree.cells) [] tree.init
  pub test : StaysInBounds bounds (range_of 2 tree.cells) [] 0 tree.test
  pub body : StatementsStayInBounds bounds (range_of 2 tree.cells) [] tree.body
  pub last : StatementsStayInBounds bounds (range_of 2 tree.cells) [] tree.last

pub program_in_bounds : (tree : SyntaxTree) (bounds : Bounds) → fault_of tree ≡ None → greatest_height tree ≤ bounds.depth
    → 2 + cell_total tree.cells ≤ bounds.cells
    → ProgramStaysInBounds bounds tree
program_in_bounds tree bounds obeys high served =
    let cells = tree.cells in
    let marks : Obey (marks_of tree) = (breaks_none tree obeys).marks in
    let cs = marks_of_cells [] cells in
    let is = marks_of_statements (opening regions.Init cells) tree.init in
    let ts = marks_of_expression (opening regions.Test cells) tree.test in
    let mb = marks_of_statements (opening regions.Body cells) tree.body in
    let ls = marks_of_statements (opening regions.Last cells) tree.last in
    let after_cells = all_back Obeys cs (is ++ (ts ++ (mb ++ ls))) marks in
    let after_init = all_back Obeys is (ts ++ (mb ++ ls)) after_cells in
    let past_test = all_back Obeys ts (mb ++ ls) after_init in
    let loops = greater (height_of_statements tree.body) (height_of_statements tree.last) in
    let rest = greater (height_of tree.test) loops in
    let h1 = greater_first (height_of_statements tree.init) rest in
    let h2 = greater_second (height_of_statements tree.init) rest in
    let h3 = greater_first (height_of tree.test) loops in
    let h4 = greater_second (height_of tree.test) loops in
    let h5 = greater_first (height_of_statements tree.body) (height_of_statements tree.last) in
    let h6 = greater_second (height_of_statements tree.body) (height_of_statements tree.last) in
    record {
      init = statements_in_bounds cells bounds tree.init (opening regions.Init cells) (first_scope cells bounds regions.Init served)
          (all_front Obeys is (ts ++ (mb ++ ls)) after_cells)
          (omega (arith, high, h1));
      test = expression_in_bounds cells bounds (opening regions.Test cells) (first_scope cells bounds regions.Test served) tree.test 0
          (all_front Obeys ts (mb ++ ls) after_init)
          (omega (arith, high, h2, h3));
      body = statements_in_bounds cells bounds tree.body (opening regions.Body cells) (first_scope cells bounds regions.Body served)
          (all_front Obeys mb ls past_test)
          (omega (arith, high, h2, h4, h5));
      last = statements_in_bounds cells bounds tree.last (opening regions.Last cells) (first_scope cells bounds regions.Last served)
          (all_back Obeys mb ls past_test)
          (omega (arith, high, h2, h4, h6));
    }
