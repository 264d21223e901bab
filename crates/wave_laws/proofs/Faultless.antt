-- A program without a fault is a wave loop.
use Rattle.std.proofs.Common.{◌≡◌, sym, ap, refl, ℕ, ℤ, pos, Bool, true, false, ◌&&◌, [], ◌++◌, Option, Some, None}
use Rattle.std.specs.Str.{bytes_eq}
use Rattle.std.proofs.lemmas.Bool.{false≢true}
use Rattle.std.specs.Cmp.Lexicographic.{bytes_decides}
use Rattle.std.proofs.lemmas.Bool.Decides.{Decides-int_eq}
use Rattle.pipe_model.specs.declared.region.Region.TheVariants as regions
use Rattle.pipe_model.specs.Language.Marks.{Scope, marks_of, marks_of_cells, marks_of_expression, marks_of_statement, marks_of_statements}
use Rattle.pipe_model.specs.Language.Marks.{after_block, after_statement, opening}
use Rattle.pipe_model.specs.Language.SyntaxTree as syntax
use Rattle.pipe_model.specs.Language.SyntaxTree.{Expression, Number, Statement, Let, Assign, AssignElement, Emit, If, While, NextStage}
use Rattle.pipe_model.specs.Language.SyntaxTree.{Statements, Empty, Then}
use Rattle.program_laws.proofs.PlannedLimits.{passed}
use Rattle.wave_laws.proofs.Flags.{AreFalse, false_left, false_right, none_true}
use Rattle.wave_laws.proofs.StageWords.{NoneIsStage, none_is_stage, stage_left, stage_right}
use Rattle.wave_laws.specs.WaveLaws.{FaultlessProgramsAreWaves}
use Rattle.wave_laws.specs.Waves.MarkFlags.{flags_of_statement, flags_of_statements, no_flags}
use Rattle.wave_laws.specs.Waves.WaveFaults.{BadTest, NoRow, WaveRefusal, begins_with_row, declares_row, first_row_set, first_stage}
use Rattle.wave_laws.specs.Waves.WaveFaults.{is_number, row_fault, stage_fault_or}
use Rattle.wave_laws.specs.Waves.WaveLoops.{AllHaveNoStage, AllKeepRow, HasNoStage, KeepsRow, rest_of, row, row_declaration}

-- ---- the row

mutual
  sets_none : (s : Statement) → AreFalse (flags_of_statement false true s) → KeepsRow s
  sets_none (Let x e) h = tt
  sets_none (Assign x e) h = h.0
  sets_none (AssignElement x i e) h = tt
  sets_none (Emit e) h = tt
  sets_none (If e a b) h =
      let both = false_right (no_flags e) (flags_of_statements false true a ++ flags_of_statements false true b) h in (
        set_none a (false_left _ (flags_of_statements false true b) both),
        set_none b (false_right (flags_of_statements false true a) _ both),
      )
  sets_none (While e a) h = set_none a (false_right (no_flags e) _ h)
  sets_none (syntax.Stage kind e) h = tt
  sets_none (NextStage kind) h = tt

  set_none : (ss : Statements) → AreFalse (flags_of_statements false true ss) → AllKeepRow ss
  set_none Empty h = tt
  set_none (Then s ss) h =
      (sets_none s (false_left _ (flags_of_statements false true ss) h), set_none ss (false_right (flags_of_statement false true s) _ h))

-- ---- the stages

mutual
  names_none : (scope : Scope) (s : Statement) → NoneIsStage (marks_of_statement scope s) → HasNoStage s
  names_none scope (Let x e) h = tt
  names_none scope (Assign x e) h = tt
  names_none scope (AssignElement x i e) h = tt
  names_none scope (Emit e) h = tt
  names_none scope (If e a b) h =
      let both =
      stage_right (marks_of_expression scope e) (marks_of_statements scope a ++ marks_of_statements (after_block scope a) b) h in (
        name_none scope a (stage_left _ (marks_of_statements (after_block scope a) b) both),
        name_none (after_block scope a) b (stage_right (marks_of_statements scope a) _ both),
      )
  names_none scope (While e a) h = name_none scope a (stage_right (marks_of_expression scope e) _ h)
  names_none scope (syntax.Stage kind e) h = absurd (false≢true (sym h.0))
  names_none scope (NextStage kind) h = absurd (false≢true (sym h.0))

  name_none : (scope : Scope) (ss : Statements) → NoneIsStage (marks_of_statements scope ss) → AllHaveNoStage ss
  name_none scope Empty h = tt
  name_none scope (Then s ss) h = (
    names_none scope s (stage_left _ (marks_of_statements (after_statement scope s) ss) h),
    name_none (after_statement scope s) ss (stage_right (marks_of_statement scope s) _ h),
  )

rest_names_none : (ss : Statements) → AllHaveNoStage ss → AllHaveNoStage (rest_of ss)
rest_names_none Empty h = tt
rest_names_none (Then s ss) h = h.1

rest_sets_none : (ss : Statements) → AllKeepRow ss → AllKeepRow (rest_of ss)
rest_sets_none Empty h = tt
rest_sets_none (Then s ss) h = h.1

-- ---- test and first statement

both_true : (a b : Bool) → (a && b) ≡ true → (a ≡ true) × (b ≡ true)
both_true true b h = (refl, h)
both_true false b h = absurd (false≢true h)

number_is : (z : ℤ) (e : Expression) → is_number z e ≡ true → e ≡ Number z
number_is z (Number n) h = ap (λ m. Number m) ((Decides-int_eq n z).0 h)
number_is z (syntax.Name x) h = absurd (false≢true h)
number_is z (syntax.Element x i) h = absurd (false≢true h)
number_is z (syntax.And a b) h = absurd (false≢true h)
number_is z (syntax.Or a b) h = absurd (false≢true h)
number_is z (syntax.Binary code a b) h = absurd (false≢true h)
number_is z (syntax.Unary code a) h = absurd (false≢true h)
number_is z syntax.More h = absurd (false≢true h)
number_is z syntax.Take h = absurd (false≢true h)
number_is z syntax.Iter h = absurd (false≢true h)

row_declaration_is : (s : Statement) → declares_row s ≡ true → s ≡ row_declaration
row_declaration_is (Let x e) h =
    let both = both_true (bytes_eq row x) (is_number (pos 0) e) h in
    λ i. Let (sym ((bytes_decides row x).0 both.0) i) (number_is (pos 0) e both.1 i)
row_declaration_is (Assign x e) h = absurd (false≢true h)
row_declaration_is (AssignElement x i e) h = absurd (false≢true h)
row_declaration_is (Emit e) h = absurd (false≢true h)
row_declaration_is (If e a b) h = absurd (false≢true h)
row_declaration_is (While e a) h = absurd (false≢true h)
row_declaration_is (syntax.Stage kind e) h = absurd (false≢true h)
row_declaration_is (NextStage kind) h = absurd (false≢true h)

body_is : (ss : Statements) → begins_with_row ss ≡ true → ss ≡ Then row_declaration (rest_of ss)
body_is Empty h = absurd (false≢true h)
body_is (Then s ss) h = ap (λ t. Then t ss) (row_declaration_is s h)

-- ---- the whole

no_stage : (o : Option ℕ) (rest : Option WaveRefusal) → stage_fault_or o rest ≡ None → (o ≡ None) × (rest ≡ None)
no_stage None rest h = (refl, h)
no_stage (Some n) rest h = absurd (cc)

no_set : (o : Option ℕ) → row_fault o ≡ None → o ≡ None
no_set None h = refl
no_set (Some n) h = absurd (cc)

pub faultless_programs_are_waves : FaultlessProgramsAreWaves
faultless_programs_are_waves tree h =
    let one = passed (is_number (pos 1) tree.test) BadTest _ h in
    let two = passed (begins_with_row tree.body) NoRow (stage_fault_or (first_stage tree) (row_fault (first_row_set tree))) one.1 in
    let three = no_stage (first_stage tree) (row_fault (first_row_set tree)) two.1 in
    let marks = none_is_stage (marks_of tree) (none_true 0 _ three.0) in
    let cells = marks_of_cells [] tree.cells in
    let init = marks_of_statements (opening regions.Init tree.cells) tree.init in
    let test = marks_of_expression (opening regions.Test tree.cells) tree.test in
    let body = marks_of_statements (opening regions.Body tree.cells) tree.body in
    let last = marks_of_statements (opening regions.Last tree.cells) tree.last in
    let inside = stage_left body last (stage_right test (body ++ last) (stage_right init (test ++ (body ++ last))
    (stage_right cells (init ++ (test ++ (body ++ last))) marks))) in
    record {
      test = number_is (pos 1) tree.test one.0;
      body = body_is tree.body two.0;
      straight = rest_names_none tree.body (name_none (opening regions.Body tree.cells) tree.body inside);
      unset = rest_sets_none tree.body (set_none tree.body (none_true _ _ (no_set (first_row_set tree) three.1)));
    }
