-- The first fault is found exactly when a rule is broken.
use Rattle.std.proofs.Common.{◌≡◌, ◌∙◌, ℕ, zero, suc, ◌+◌, ◌<◌, Bool, true, false, if◌then◌else◌, List, [], ◌∷◌, ◌++◌, length}
use Rattle.std.proofs.Common.{slice_index_or, All, Option, Some, None, refl, sym, ap, subst, arith}
use Rattle.pipe_check.specs.RuleLaws.{ObeysThese, ObeysAllRules, IsFirstBroken}
use Rattle.pipe_model.specs.Language.CheckingRules.{CheckingRule, Fault, LimitOut, Broken, breaks, broken_at, first_broken, first_fault}
use Rattle.pipe_model.specs.Language.CheckingRules.{fault_of, fault_or, limit_fault_or, first_limit_out, rules_in_order}
use Rattle.pipe_model.specs.Language.Marks.{Mark, marks_of}
use Rattle.pipe_model.specs.Language.SyntaxTree.{SyntaxTree}

-- `All` of the empty list, and of a list with one more item before it
pub all_none : {X : Type 0} (P : X → Type 0) → All P []
all_none P = λ k d within. absurd (omega (arith, within))

pub all_more : {X : Type 0} (P : X → Type 0) (x : X) (xs : List X) → P x → All P xs → All P (x ∷ xs)
all_more {X} P x xs p ps = λ k d within. at_place k d within
  where
    at_place : (k : ℕ) (d : X) → k < length (x ∷ xs) → P (slice_index_or (x ∷ xs) k d)
    at_place zero d within = p
    at_place (suc k) d within = ps k d (omega (arith, within))

-- the first item, and the others
pub first_of : {X : Type 0} (P : X → Type 0) (x : X) (xs : List X) → All P (x ∷ xs) → P x
first_of P x xs h = h 0 x (omega arith)

pub others_of : {X : Type 0} (P : X → Type 0) (x : X) (xs : List X) → All P (x ∷ xs) → All P xs
others_of P x xs h = λ k d within. h (suc k) d (omega (arith, within))

-- ---- one mark

passed : (b : Bool) (rule : CheckingRule) (rest : Option CheckingRule) → (if b then Some rule else rest) ≡ None
    → (b ≡ false) × (rest ≡ None)
passed true rule rest h = absurd (let e : Some rule ≡ None = h in cc (e))
passed false rule rest h = (refl, h)

none_broken : (mark : Mark) (rules : List CheckingRule) → first_broken mark rules ≡ None → ObeysThese mark rules
none_broken mark [] h = all_none (λ rule. breaks rule mark.scope mark.occurrence ≡ false)
none_broken mark (rule ∷ rules) h =
    let both = passed (breaks rule mark.scope mark.occurrence) rule (first_broken mark rules) h in
    all_more (λ r. breaks r mark.scope mark.occurrence ≡ false) rule rules both.0 (none_broken mark rules both.1)

not_broken : (mark : Mark) (rules : List CheckingRule) → ObeysThese mark rules → first_broken mark rules ≡ None
not_broken mark [] h = refl
not_broken mark (rule ∷ rules) h =
    let one = first_of (λ r. breaks r mark.scope mark.occurrence ≡ false) rule rules h in
    rw one (not_broken mark rules (others_of (λ r. breaks r mark.scope mark.occurrence ≡ false) rule rules h))

-- the rule is the first of the rules that the mark breaks
record IsFirstRule (mark : Mark) (rules : List CheckingRule) (rule : CheckingRule) : Type 0 where
  pub earlier : List CheckingRule
  pub later : List CheckingRule
  pub rules_are : rules ≡ earlier ++ rule ∷ later
  pub broken : breaks rule mark.scope mark.occurrence ≡ true
  pub obeys_earlier : ObeysThese mark earlier

first_rule_by : (mark : Mark) (head : CheckingRule) (rules : List CheckingRule) (rule : CheckingRule) (b : Bool)
    → breaks head mark.scope mark.occurrence ≡ b
    → (if b then Some head else first_broken mark rules) ≡ Some rule → (first_broken mark rules ≡ Some rule → IsFirstRule mark rules rule)
    → IsFirstRule mark (head ∷ rules) rule
first_rule_by mark head rules rule true is h go =
    let same : head ≡ rule = let e : Some head ≡ Some rule = h in cc (e) in
    record {
      earlier = [];
      later = rules;
      rules_are = ap (λ r. r ∷ rules) same;
      broken = ap (λ r. breaks r mark.scope mark.occurrence) (sym same) ∙ is;
      obeys_earlier = all_none (λ r. breaks r mark.scope mark.occurrence ≡ false);
    }
first_rule_by mark head rules rule false is h go =
    let rest = go h in
    record {
      earlier = head ∷ rest.earlier;
      later = rest.later;
      rules_are = ap (λ rs. head ∷ rs) rest.rules_are;
      broken = rest.broken;
      obeys_earlier = all_more (λ r. breaks r mark.scope mark.occurrence ≡ false) head rest.earlier is rest.obeys_earlier;
    }

first_rule : (mark : Mark) (rules : List CheckingRule) (rule : CheckingRule) → first_broken mark rules ≡ Some rule
    → IsFirstRule mark rules rule
first_rule mark [] rule h = absurd (let e : None ≡ Some rule = h in cc (e))
first_rule mark (head ∷ rules) rule h =
    first_rule_by mark head rules rule (breaks head mark.scope mark.occurrence) refl h (first_rule mark rules rule)

-- ---- marks in order

no_fault : (broken : Option CheckingRule) (n : ℕ) (x : Option Fault) → fault_or broken n x ≡ None → (broken ≡ None) × (x ≡ None)
no_fault (Some rule) n x h = absurd (let e : Some _ ≡ None = h in cc (e))
no_fault None n x h = (refl, h)

pub all_obey : (n : ℕ) (marks : List Mark) → first_fault n marks ≡ None → All (λ mark. ObeysThese mark rules_in_order) marks
all_obey n [] h = all_none (λ mark. ObeysThese mark rules_in_order)
all_obey n (mark ∷ marks) h =
    let both = no_fault (broken_at mark) n (first_fault (n + 1) marks) h in
    all_more (λ m. ObeysThese m rules_in_order) mark marks (none_broken mark rules_in_order both.0) (all_obey (n + 1) marks both.1)

pub none_found : (n : ℕ) (marks : List Mark) → All (λ mark. ObeysThese mark rules_in_order) marks → first_fault n marks ≡ None
none_found n [] h = refl
none_found n (mark ∷ marks) h =
    let one = not_broken mark rules_in_order (first_of (λ m. ObeysThese m rules_in_order) mark marks h) in
    ap (λ broken. fault_or broken n (first_fault (n + 1) marks)) one ∙ none_found (n + 1) marks
    (others_of (λ m. ObeysThese m rules_in_order) mark marks h)

-- the numbers of the marks are counted from n
record IsFirstFrom (n : ℕ) (marks : List Mark) (rule : CheckingRule) (number : ℕ) : Type 0 where
  pub place : ℕ
  pub first : IsFirstBroken marks rule place
  pub numbered : number ≡ n + place

first_from_by : (n : ℕ) (mark : Mark) (marks : List Mark) (rule : CheckingRule) (number : ℕ) (found : Option CheckingRule)
    → broken_at mark ≡ found
    → fault_or found n (first_fault (n + 1) marks) ≡ Some (Broken rule number)
    → (first_fault (n + 1) marks ≡ Some (Broken rule number) → IsFirstFrom (n + 1) marks rule number)
    → IsFirstFrom n (mark ∷ marks) rule number
first_from_by n mark marks rule number (Some r) is h go =
    let fault : Broken r n ≡ Broken rule number = let e : Some (Broken r n) ≡ Some (Broken rule number) = h in cc (e) in
    let same : r ≡ rule = cc (fault) in
    let counted : n ≡ number = cc (fault) in
    let here = first_rule mark rules_in_order rule (is ∙ ap (λ x. Some x) same) in
    record {
      place = 0;
      first = record {
        before = [];
        mark = mark;
        following = marks;
        earlier = here.earlier;
        later = here.later;
        marks_are = refl;
        numbered = refl;
        rules_are = here.rules_are;
        broken = here.broken;
        obeys_earlier = here.obeys_earlier;
        obey = all_none (λ m. ObeysThese m rules_in_order);
      };
      numbered = sym counted ∙ omega arith;
    }
first_from_by n mark marks rule number None is h go =
    let rest = go h in
    let first = rest.first in
    record {
      place = rest.place + 1;
      first = record {
        before = mark ∷ first.before;
        mark = first.mark;
        following = first.following;
        earlier = first.earlier;
        later = first.later;
        marks_are = ap (λ ms. mark ∷ ms) first.marks_are;
        numbered = omega (arith, first.numbered);
        rules_are = first.rules_are;
        broken = first.broken;
        obeys_earlier = first.obeys_earlier;
        obey = all_more (λ m. ObeysThese m rules_in_order) mark first.before (none_broken mark rules_in_order is) first.obey;
      };
      numbered = omega (arith, rest.numbered);
    }

first_from : (n : ℕ) (marks : List Mark) (rule : CheckingRule) (number : ℕ) → first_fault n marks ≡ Some (Broken rule number)
    → IsFirstFrom n marks rule number
first_from n [] rule number h = absurd (let e : None ≡ Some (Broken rule number) = h in cc (e))
first_from n (mark ∷ marks) rule number h =
    first_from_by n mark marks rule number (broken_at mark) refl h (first_from (n + 1) marks rule number)

-- ---- programs

within_limits : (which : Option ℕ) (rest : Option Fault) → limit_fault_or which rest ≡ None → (which ≡ None) × (rest ≡ None)
within_limits (Some n) rest h = absurd (let e : Some _ ≡ None = h in cc (e))
within_limits None rest h = (refl, h)

pub breaks_none : (tree : SyntaxTree) → fault_of tree ≡ None → ObeysAllRules tree
breaks_none tree h =
    let both = within_limits (first_limit_out tree.limits) (first_fault 0 (marks_of tree)) h in
    record { limits = both.0; marks = all_obey 0 (marks_of tree) both.1 }

pub has_no_fault : (tree : SyntaxTree) → ObeysAllRules tree → fault_of tree ≡ None
has_no_fault tree b = ap (λ which. limit_fault_or which (first_fault 0 (marks_of tree))) b.limits ∙ none_found 0 (marks_of tree) b.marks

of_marks : (which : Option ℕ) (rest : Option Fault) (rule : CheckingRule) (number : ℕ) → limit_fault_or which rest ≡ Some
    (Broken rule number)
    → (which ≡ None) × (rest ≡ Some (Broken rule number))
of_marks (Some w) rest rule number h = absurd (let e : Some (LimitOut w) ≡ Some (Broken rule number) = h in cc (e))
of_marks None rest rule number h = (refl, h)

pub is_first : (tree : SyntaxTree) (rule : CheckingRule) (number : ℕ) → fault_of tree ≡ Some (Broken rule number)
    → (first_limit_out tree.limits ≡ None) × IsFirstBroken (marks_of tree) rule number
is_first tree rule number h =
    let both = of_marks (first_limit_out tree.limits) (first_fault 0 (marks_of tree)) rule number h in
    let found = first_from 0 (marks_of tree) rule number both.1 in
    (both.0, subst (λ (k : ℕ). IsFirstBroken (marks_of tree) rule k) (omega (arith, found.numbered)) found.first)
