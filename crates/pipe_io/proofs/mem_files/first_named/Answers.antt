use Rattle.std.proofs.Common.{◌≡◌, ◌∙◌, ◌+◌, ◌∷◌, ℕ, List, Some, String, Global, ap, drop, false, refl, sym, true}
use Rattle.std.proofs.lemmas.List.{drop_all, drop_more}
use Rattle.std.specs.Prelude.{string_bytes}
use Rattle.std.specs.Str.{bytes_eq}
use Rattle.pipe_io.specs.MemoryFiles.{content_of, named_bytes}
use Rattle.pipe_io.proofs.mem_files.first_named.Goals as goal

-- a file of another name is passed
passed : (files rest : List (String Global × List ℕ)) (file : String Global × List ℕ) (shown name : List ℕ) → files ≡ file ∷ rest
    → shown ≡ string_bytes file.0 → false ≡ bytes_eq shown name → content_of (named_bytes rest) name ≡ content_of (named_bytes files) name
passed files rest file shown name first s different =
    let other : bytes_eq (string_bytes file.0) name ≡ false = ap (λ x. bytes_eq x name) (sym s) ∙ sym different in rw (first, other) refl

-- the first file of the name is found
found : (files rest : List (String Global × List ℕ)) (file : String Global × List ℕ) (shown name : List ℕ) → files ≡ file ∷ rest
    → shown ≡ string_bytes file.0 → true ≡ bytes_eq shown name → content_of (named_bytes files) name ≡ Some file.1
found files rest file shown name first s same =
    let this : bytes_eq (string_bytes file.0) name ≡ true = ap (λ x. bytes_eq x name) (sym s) ∙ sym same in rw (first, this) refl

pub loop-other-preserved : goal.loop-other-preserved
loop-other-preserved c =
    let files = c.args.files.now in
    let i = c.loop-other.other-index in
    let file = c.loop-other-item.result in
    let first = drop_more files i file c.loop-other-test.true ∙ ap (λ x. x ∷ drop (i + 1) files) (sym c.loop-other-item.is) in
    passed (drop i files) (drop (i + 1) files) file c.as_str.result.now c.args.name.now first c.as_str.ensures.value c.if-eq.ensures
    ∙ c.loop-other.invariant

pub returns-then-eq-clause-some : goal.returns-then-eq-clause-some
returns-then-eq-clause-some c =
    let files = c.args.files.now in
    let i = c.loop-other.other-index in
    let file = c.loop-other-item.result in
    let first = drop_more files i file c.loop-other-test.true ∙ ap (λ x. x ∷ drop (i + 1) files) (sym c.loop-other-item.is) in
    sym c.loop-other.invariant
    ∙ found (drop i files) (drop (i + 1) files) file c.as_str.result.now c.args.name.now first c.as_str.ensures.value c.if-eq.ensures
    ∙ ap Some (sym c.as_slice.ensures)

pub returns-clause-none : goal.returns-clause-none
returns-clause-none c =
    sym c.loop-other.invariant
    ∙ ap (λ x. content_of (named_bytes x) c.args.name.now) (drop_all c.loop-other.other-index c.args.files.now c.loop-other-test.false)
