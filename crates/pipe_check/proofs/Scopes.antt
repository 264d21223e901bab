-- Statements append locals to those in scope, so the first ones are those that were in scope at the beginning.
use Rattle.std.proofs.Common.{◌≡◌, ◌∙◌, ℕ, List, [], ◌∷◌, ◌++◌, length, take, refl, sym, ap, append_assoc, append-nil}
use Rattle.std.proofs.Math.Seq.{take-append_seam}
use Rattle.pipe_model.specs.Language.Marks.{Scope, after_statement, after_statements}
use Rattle.pipe_model.specs.Language.SyntaxTree.{Statement, Let, Assign, AssignElement, Emit, If, While, Stage, NextStage, Statements}
use Rattle.pipe_model.specs.Language.SyntaxTree.{Empty, Then}

record ExtendsScope (before after : List (List ℕ)) : Type 0 where
  pub more : List (List ℕ)
  pub is : after ≡ before ++ more

same : (names : List (List ℕ)) → ExtendsScope names names
same names = record { more = []; is = sym (append-nil names) }

extends_once : (scope : Scope) (s : Statement) → ExtendsScope scope.visible (after_statement scope s).visible
extends_once scope (Let x e) = record { more = x ∷ []; is = refl }
extends_once scope (Assign x e) = same scope.visible
extends_once scope (AssignElement x i e) = same scope.visible
extends_once scope (Emit e) = same scope.visible
extends_once scope (If e a b) = same scope.visible
extends_once scope (While e a) = same scope.visible
extends_once scope (Stage kind e) = same scope.visible
extends_once scope (NextStage kind) = same scope.visible

extends : (scope : Scope) (ss : Statements) → ExtendsScope scope.visible (after_statements scope ss).visible
extends scope Empty = same scope.visible
extends scope (Then s ss) =
    let one = extends_once scope s in
    let rest = extends (after_statement scope s) ss in
    record {
      more = one.more ++ rest.more;
      is = rest.is ∙ ap (λ names. names ++ rest.more) one.is
          ∙ append_assoc scope.visible one.more rest.more;
    }

-- at the end of a block the first locals are those that were in scope at its beginning
pub first_visible : (scope : Scope) (ss : Statements) → take (length scope.visible) (after_statements scope ss).visible ≡ scope.visible
first_visible scope ss =
    let all = extends scope ss in
    ap (take (length scope.visible)) all.is ∙ take-append_seam scope.visible all.more
