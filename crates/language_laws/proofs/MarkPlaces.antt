-- If a program breaks a rule at a mark, that mark has an offset in each source that spells the program.
use Rattle.std.proofs.Common.{◌≡◌, refl, ℕ, zero, suc, ◌+◌, ◌<◌, ℤ, pos, Bool, true, false, List, [], ◌∷◌, length, slice_get, Option, Some}
use Rattle.std.proofs.Common.{None, if◌then◌else◌, arith}
use Rattle.pipe_model.specs.declared.token.Token.{Token}
use Rattle.pipe_model.specs.Language.CheckingRules.{Fault, Broken, CheckingRule, broken_at, fault_of, fault_or, first_fault, limit_fault_or}
use Rattle.pipe_model.specs.Language.CheckingRules.{first_limit_out}
use Rattle.pipe_model.specs.Language.MarkPlaces.{is_mark, mark_places}
use Rattle.pipe_model.specs.Language.Marks.{Mark, marks_of}
use Rattle.pipe_model.specs.Language.SourceSpelling.{SourceSpells}
use Rattle.pipe_model.specs.Language.SyntaxTree.{SyntaxTree}
use Rattle.language_laws.proofs.MarkedTokens.{marks_have_places}

-- ---- the mark of a broken rule is one of the marks

-- a rule that is broken at the first mark or at a later one is broken at one of all marks
broken_here : (o : Option CheckingRule) (rest : Option Fault) (n many mark : ℕ) (rule : CheckingRule)
    → (rest ≡ Some (Broken rule mark) → mark < n + 1 + many)
    → fault_or o n rest ≡ Some (Broken rule mark) → mark < n + (1 + many)
broken_here (Some r) rest n many mark rule following h = let same : n ≡ mark = cc (h) in omega (arith, same)
broken_here None rest n many mark rule following h = let within = following h in omega (arith, within)

-- if the first fault of the marks is a broken rule, its mark is one of them
broken_among : (n mark : ℕ) (marks : List Mark) (rule : CheckingRule) → first_fault n marks ≡ Some (Broken rule mark)
    → mark < n + length marks
broken_among n mark [] rule h = cc (h)
broken_among n mark (m ∷ marks) rule h =
    let within = broken_here (broken_at m) (first_fault (n + 1) marks) n (length marks) mark rule
    (broken_among (n + 1) mark marks rule) h in
    omega (arith, within)

-- if a rule is broken, no limit is out of its range
after_limits : (o : Option ℕ) (rest : Option Fault) (rule : CheckingRule) (mark : ℕ) → limit_fault_or o rest ≡ Some (Broken rule mark)
    → rest ≡ Some (Broken rule mark)
after_limits None rest rule mark h = h
after_limits (Some which) rest rule mark h = cc (h)

-- the mark at which a program breaks a rule is one of its marks
broken_within : (tree : SyntaxTree) (rule : CheckingRule) (mark : ℕ) → fault_of tree ≡ Some (Broken rule mark)
    → mark < length (marks_of tree)
broken_within tree rule mark h =
    let within = broken_among 0 mark (marks_of tree) rule
    (after_limits (first_limit_out tree.limits) (first_fault 0 (marks_of tree)) rule mark h) in
    omega (arith, within)

-- ---- each mark has an offset

-- the list has an offset, a natural number, for this mark
abbrev HasPlace : List ℤ → ℕ → Type 0
HasPlace places mark = (place : ℕ) × (slice_get places mark ≡ Some (pos place))

-- the offsets, and the offsets of one more token
one_more_place : (b : Bool) (place : ℕ) (places : List ℤ) (mark : ℕ) → ((k : ℕ) → k < length places → HasPlace places k)
    → mark < length (if b then pos place ∷ places else places) → HasPlace (if b then pos place ∷ places else places) mark
one_more_place false place places mark following h = following mark h
one_more_place true place places zero following h = (place, refl)
one_more_place true place places (suc k) following h = following k (omega (arith, h))

-- each index below the number of marked tokens has an offset
place_of_mark : (tokens : List Token) (mark : ℕ) → mark < length (mark_places tokens) → HasPlace (mark_places tokens) mark
place_of_mark [] mark h = absurd (omega (arith, h))
place_of_mark (token ∷ tokens) mark h = one_more_place (is_mark token.kind) token.place (mark_places tokens) mark (place_of_mark tokens) h

-- the mark at which a program breaks a rule has an offset in the source
pub place_of_broken : (source : List ℕ) (tree : SyntaxTree) (s : SourceSpells source tree) (rule : CheckingRule) (mark : ℕ)
    → fault_of tree ≡ Some (Broken rule mark)
    → (place : ℕ) × (slice_get (mark_places s.tokens) mark ≡ Some (pos place))
place_of_broken source tree s rule mark h =
    let within = broken_within tree rule mark h in
    let many = marks_have_places source tree s in
    place_of_mark s.tokens mark (omega (arith, within, many))
