-- Code that is part of other code.
use Rattle.std.proofs.Common.{◌≡◌, ℕ, suc, ◌+◌, List, [], ◌∷◌, ◌++◌, length, Some, refl, subst, arith}
use Rattle.std.specs.Prelude.{slice_get}
use Rattle.pipe_model.specs.Language.Programs.{range_of}
use Rattle.pipe_model.specs.Language.SyntaxTree.{SyntaxTree}
use Rattle.stage_code.specs.CodeOfTrees.{part_code, iteration_code, flat_code}
use Rattle.stage_code.specs.FlatCode.{FlatCode}
use Rattle.stage_code.specs.declared.instr.Instr.{Instr}
use Rattle.stage_code.specs.Decoding.{HasAt}

pub first_at : (code : List Instr) (at : ℕ) (a b : List Instr) → HasAt code at (a ++ b) → HasAt code at a
first_at code at [] b h = tt
first_at code at (i ∷ a) b h = (h.0, first_at code (at + 1) a b h.1)

pub rest_at : (code : List Instr) (at : ℕ) (a b : List Instr) → HasAt code at (a ++ b) → HasAt code (at + length a) b
rest_at code at [] b h = let e : at ≡ at + 0 = omega arith in subst (λ n. HasAt code n b) e h
rest_at code at (i ∷ a) b h =
    let e : at + 1 + length a ≡ at + length (i ∷ a) = omega arith in
    subst (λ n. HasAt code n b) e (rest_at code (at + 1) a b h.1)

has_more : (code : List Instr) (x : Instr) (at : ℕ) (is : List Instr) → HasAt code at is → HasAt (x ∷ code) (at + 1) is
has_more code x at [] h = tt
has_more code x at (i ∷ is) h = let e : suc at ≡ at + 1 = omega arith in
    (subst (λ n. slice_get (x ∷ code) n ≡ Some i) e h.0, has_more code x (at + 1) is h.1)

pub has_all : (code : List Instr) → HasAt code 0 code
has_all [] = tt
has_all (i ∷ code) = (refl, has_more code i 0 code (has_all code))

-- the code of each part is where the part starts
pub record PartsAreIn (tree : SyntaxTree) (code : FlatCode) : Type 0 where
  pub init : HasAt code.instrs code.init (part_code (range_of 2 tree.cells) code.init tree.init)
  pub pipe : HasAt code.instrs code.pipe (iteration_code (range_of 2 tree.cells) code.pipe tree.test tree.body)
  pub last : HasAt code.instrs code.last (part_code (range_of 2 tree.cells) code.last tree.last)

pub parts_are_in : (tree : SyntaxTree) → PartsAreIn tree (flat_code tree)
parts_are_in tree =
    let cells = range_of 2 tree.cells in
    let code = (flat_code tree).instrs in
    let init = part_code cells 0 tree.init in
    let pipe = iteration_code cells (length init) tree.test tree.body in
    let last = part_code cells (length init + length pipe) tree.last in
    let all : HasAt code 0 (init ++ (pipe ++ last)) = has_all code in
    let from : 0 + length init ≡ length init = omega arith in
    let after_it : HasAt code (length init) (pipe ++ last) = subst (λ n. HasAt code n (pipe ++ last)) from
    (rest_at code 0 init (pipe ++ last) all) in
    record {
      init = first_at code 0 init (pipe ++ last) all;
      pipe = first_at code (length init) pipe last after_it;
      last =
          rest_at code (length init) pipe last after_it;
    }
