-- The statements of a point keep the row and the stage.
use Rattle.std.proofs.Common.{◌≡◌, ◌∙◌, ap, refl, ℕ, zero, suc, ℤ, pos, false, List, [], ◌∷◌, ◌++◌, take, length, Option, Some, None}
use Rattle.std.specs.Str.{bytes_eq}
use Rattle.pipe_model.specs.Language.Evaluation.{CellRange, Local, Setting, Environment, evaluate, execute, execute_all, assign}
use Rattle.pipe_model.specs.Language.Evaluation.{leave_block, loop_turns, updated_locals}
use Rattle.pipe_model.specs.Language.Interaction.{Interaction}
use Rattle.pipe_model.specs.Language.SyntaxTree as syntax
use Rattle.pipe_model.specs.Language.SyntaxTree.{Statement, Let, Assign, AssignElement, Emit, If, While, NextStage, Statements}
use Rattle.pipe_model.specs.Language.SyntaxTree.{Empty, Then}
use Rattle.program_laws.proofs.Straight.{IsStraight, Returns, Raises, Steps, Sets, Anything, straight-bind, straight-evaluate}
use Rattle.program_laws.proofs.Straight.{straight-element_of, either_by_zero}
use Rattle.program_laws.proofs.LegalStages.{straight-emit}
use Rattle.wave_laws.specs.Waves.Points.{at_row}
use Rattle.wave_laws.specs.Waves.WaveLoops.{AllHaveNoStage, AllKeepRow, HasNoStage, KeepsRow, row}

-- the first local is the row
abbrev pub BeginsWithRow : ℕ → List Local → Type 0
BeginsWithRow r [] = ⊥
BeginsWithRow r (l ∷ ls) = l ≡ record { name = row; value = pos r }

-- the environment is the one of row r, but for further locals
pub record IsInRow (r : ℕ) (env : Environment) : Type 0 where
  pub locals : BeginsWithRow r env.locals
  pub stage : env.stage ≡ (at_row r).stage

begins_longer : (r : ℕ) (ls more : List Local) → BeginsWithRow r ls → BeginsWithRow r (ls ++ more)
begins_longer r [] more h = absurd h
begins_longer r (l ∷ ls) more h = h

begins_shorter : (r : ℕ) (ls after : List Local) → BeginsWithRow r ls → BeginsWithRow r after → BeginsWithRow r (take (length ls) after)
begins_shorter r [] after h k = absurd h
begins_shorter r (l ∷ ls) [] h k = absurd k
begins_shorter r (l ∷ ls) (m ∷ ms) h k = k

begins_updated : (r : ℕ) (ls : List Local) (x : List ℕ) (v : ℤ) → bytes_eq row x ≡ false → BeginsWithRow r ls
    → BeginsWithRow r (updated_locals ls x v)
begins_updated r [] x v f h = absurd h
begins_updated r (l ∷ ls) x v f h =
    let e : bytes_eq l.name x ≡ false = ap (λ (m : Local). bytes_eq m.name x) h ∙ f in
    rw e h

in_row_after : (r : ℕ) (before after : Environment) → IsInRow r before → IsInRow r after → IsInRow r (leave_block before after)
in_row_after r before after h k = record { locals = begins_shorter r before.locals after.locals h.locals k.locals; stage = k.stage }

straight-assign : (r : ℕ) (env : Environment) (o : Option ℤ) (range : Option CellRange) (x : List ℕ) (v : ℤ) → bytes_eq row x ≡ false
    → IsInRow r env
    → IsStraight (IsInRow r) (assign env o range x v)
straight-assign r env (Some old) range x v f h = Returns (record { locals = begins_updated r env.locals x v f h.locals; stage = h.stage })
straight-assign r env None (Some range) x v f h = Sets _ _ (Returns h)
straight-assign r env None None x v f h = Raises _

straight-turns : (r n : ℕ) (test : Environment → Interaction ℤ) (body : Environment → Interaction Environment)
    → ((env : Environment) → IsStraight Anything (test env)) → ((env : Environment) → IsInRow r env → IsStraight (IsInRow r) (body env))
    → (env : Environment) → IsInRow r env → IsStraight (IsInRow r) (loop_turns n test body env)
straight-turns r zero test body tests bodies env h = Raises _
straight-turns r (suc n) test body tests bodies env h =
    straight-bind (tests env) (λ v any. Steps (either_by_zero (IsInRow r) v _ _ (Returns h)
    (straight-bind (bodies env h)
    (λ after k. straight-turns r n test body tests bodies (leave_block env after) (in_row_after r env after h k)))))

mutual
  straight-execute : (setting : Setting) (r : ℕ) (s : Statement) → HasNoStage s → KeepsRow s → (env : Environment) → IsInRow r env
      → IsStraight (IsInRow r) (execute setting s env)
  straight-execute setting r (Let x e) n f env h =
      straight-bind (straight-evaluate setting env.locals e) (λ v any. Steps (Returns (record {
        locals = begins_longer r env.locals _ h.locals;
        stage = h.stage;
      })))
  straight-execute setting r (Assign x e) n f env h =
      straight-bind (straight-evaluate setting env.locals e) (λ v any. Steps (straight-assign r env _ _ x v f h))
  straight-execute setting r (AssignElement x i e) n f env h =
      straight-bind (straight-evaluate setting env.locals i) (λ j any. straight-bind (straight-evaluate setting env.locals e)
      (λ v any2. Steps (straight-bind (straight-element_of (setting.cells x) j) (λ cell any3. Sets cell v (Returns h)))))
  straight-execute setting r (Emit e) n f env h =
      straight-bind (straight-evaluate setting env.locals e)
      (λ v any. Steps (straight-bind (straight-emit setting.world.emits v) (λ done any2. Returns h)))
  straight-execute setting r (If e a b) n f env h =
      straight-bind (straight-evaluate setting env.locals e) (λ v any. Steps (straight-bind
      (either_by_zero (IsInRow r) v _ _ (straight-execute_all setting r b n.1 f.1 env h) (straight-execute_all setting r a n.0 f.0 env h))
      (λ after k. Returns (in_row_after r env after h k))))
  straight-execute setting r (While e a) n f env h =
      straight-turns r setting.turns (λ now. evaluate setting now.locals e) (execute_all setting a)
      (λ now. straight-evaluate setting now.locals e) (λ now k. straight-execute_all setting r a n f now k) env h
  straight-execute setting r (syntax.Stage kind e) n f env h = absurd n
  straight-execute setting r (NextStage kind) n f env h = absurd n

  pub straight-execute_all : (setting : Setting) (r : ℕ) (ss : Statements) → AllHaveNoStage ss → AllKeepRow ss → (env : Environment)
      → IsInRow r env
      → IsStraight (IsInRow r) (execute_all setting ss env)
  straight-execute_all setting r Empty n f env h = Returns h
  straight-execute_all setting r (Then s ss) n f env h =
      straight-bind (straight-execute setting r s n.0 f.0 env h) (λ after k. straight-execute_all setting r ss n.1 f.1 after k)

take_none : (ls : List Local) → take 0 ls ≡ []
take_none [] = refl
take_none (l ∷ ls) = refl

one_left : (r : ℕ) (ls : List Local) → BeginsWithRow r ls → take 1 ls ≡ record { name = row; value = pos r } ∷ []
one_left r [] h = absurd h
one_left r (l ∷ ls) h = ap (λ m. l ∷ m) (take_none ls) ∙ ap (λ m. m ∷ []) h

-- at the end of a turn the row's environment is there again
pub row_left : (r : ℕ) (after : Environment) → IsInRow r after → leave_block (at_row r) after ≡ at_row r
row_left r after h = λ i. record { locals = one_left r after.locals h.locals i; stage = h.stage i }

-- the statements of a point name no stage, and keep the row
pub straight_point : (setting : Setting) (rest : Statements) (r : ℕ) → AllHaveNoStage rest → AllKeepRow rest
    → IsStraight (IsInRow r) (execute_all setting rest (at_row r))
straight_point setting rest r n f = straight-execute_all setting r rest n f (at_row r) (record { locals = refl; stage = refl })
