-- What a fault and its absence mean for all marks at once.
use Rattle.std.specs.Prelude.{◌≡◌, ◌↔◌, ℕ, true, false, List, ◌∷◌, ◌++◌, length, All, Some, None}
use Rattle.pipe_model.specs.Language.CheckingRules.{CheckingRule, Broken, breaks, fault_of, first_limit_out, rules_in_order}
use Rattle.pipe_model.specs.Language.Marks.{Mark, marks_of}
use Rattle.pipe_model.specs.Language.SyntaxTree.{SyntaxTree}

-- the mark breaks none of these rules
abbrev pub ObeysThese : Mark → List CheckingRule → Type 0
ObeysThese mark rules = All (λ rule. breaks rule mark.scope mark.occurrence ≡ false) rules

-- each limit is in its range, and no mark breaks a rule
pub record ObeysAllRules (tree : SyntaxTree) : Type 0 where
  pub limits : first_limit_out tree.limits ≡ None
  pub marks : All (λ mark. ObeysThese mark rules_in_order) (marks_of tree)

-- a program has no fault exactly when it breaks no rule
abbrev pub FaultlessProgramsBreakNoRule : Type 0
FaultlessProgramsBreakNoRule = (tree : SyntaxTree) → fault_of tree ≡ None ↔ ObeysAllRules tree

-- the mark with this number breaks the rule and no earlier rule, and no mark before it breaks a rule
pub record IsFirstBroken (marks : List Mark) (rule : CheckingRule) (number : ℕ) : Type 0 where
  pub before : List Mark
  pub mark : Mark
  pub following : List Mark
  pub earlier : List CheckingRule
  pub later : List CheckingRule
  pub marks_are : marks ≡ before ++ mark ∷ following
  pub numbered : length before ≡ number
  pub rules_are : rules_in_order ≡ earlier ++ rule ∷ later
  pub broken : breaks rule mark.scope mark.occurrence ≡ true
  pub obeys_earlier : ObeysThese mark earlier
  pub obey : All (λ other. ObeysThese other rules_in_order) before

-- a fault of a mark is the first one, in a program whose limits are in their ranges
abbrev pub FaultsAreFirst : Type 0
FaultsAreFirst = (tree : SyntaxTree) (rule : CheckingRule) (number : ℕ) → fault_of tree ≡ Some (Broken rule number)
    → (first_limit_out tree.limits ≡ None) × IsFirstBroken (marks_of tree) rule number
