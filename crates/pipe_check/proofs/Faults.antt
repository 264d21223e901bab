-- The first fault of marks that follow others.
use Rattle.std.proofs.Common.{◌≡◌, ◌∙◌, ℕ, List, [], ◌∷◌, ◌++◌, ◌+◌, length, refl, sym, ap, arith, Result, Ok, Err, Option, Some, None}
use Rattle.std.proofs.Common.{length-append}
use Rattle.pipe_check.specs.declared.fault.CheckFault.{CheckFault}
use Rattle.pipe_check.specs.declared.fault.CheckFault.TheVariants as faults
use Rattle.pipe_check.specs.Passing.{IsFirstFaultOf, PassesMarks, Fits}
use Rattle.pipe_model.specs.Language.CheckingRules.{CheckingRule, Fault, broken_at, fault_or, first_fault}
use Rattle.pipe_model.specs.Language.Marks.{Mark}

-- if y has the fault of x, then a mark before y has the fault of the mark before x
fault_stays : (broken : Option CheckingRule) (n : ℕ) (x y : Option Fault) (fault : Fault) → (x ≡ Some fault → y ≡ Some fault)
    → fault_or broken n x ≡ Some fault → fault_or broken n y ≡ Some fault
fault_stays (Some rule) n x y fault f h = h
fault_stays None n x y fault f h = f h

-- the first fault stays the first, whatever follows
pub first_stays : (n : ℕ) (a b : List Mark) (fault : Fault) → first_fault n a ≡ Some fault → first_fault n (a ++ b) ≡ Some fault
first_stays n [] b fault h = absurd (let e : None ≡ Some fault = h in cc (e))
first_stays n (mark ∷ a) b fault h =
    fault_stays (broken_at mark) n (first_fault (n + 1) a) (first_fault (n + 1) (a ++ b)) fault (first_stays (n + 1) a b fault) h

-- neither the mark nor what follows has a fault
record HasNone (broken : Option CheckingRule) (n : ℕ) (x : Option Fault) : Type 0 where
  pub follows : x ≡ None
  pub skips : (y : Option Fault) → fault_or broken n y ≡ y

has_none : (broken : Option CheckingRule) (n : ℕ) (x : Option Fault) → fault_or broken n x ≡ None → HasNone broken n x
has_none (Some rule) n x h = absurd (let e : Some _ ≡ None = h in cc (e))
has_none None n x h = record { follows = h; skips = λ y. refl }

-- after marks without a fault, the first fault is the first fault of what follows
pub first_after : (n : ℕ) (a b : List Mark) → first_fault n a ≡ None → first_fault n (a ++ b) ≡ first_fault (n + length a) b
first_after n [] b h = ap (λ k. first_fault k b) (omega arith)
first_after n (mark ∷ a) b h =
    let none = has_none (broken_at mark) n (first_fault (n + 1) a) h in
    none.skips (first_fault (n + 1) (a ++ b)) ∙ first_after (n + 1) a b none.follows ∙ ap (λ k. first_fault k b) (omega arith)

-- an error that reports the fault of x also reports the fault of y, if y has the same fault
pub reports_same_fault : (refusal : CheckFault) (x y : Option Fault) → ((fault : Fault) → x ≡ Some fault → y ≡ Some fault)
    → IsFirstFaultOf refusal x
    → IsFirstFaultOf refusal y
reports_same_fault (faults.Unknown n) x y f h = f _ h
reports_same_fault (faults.Twice n) x y f h = f _ h
reports_same_fault (faults.LimitOut n) x y f h = f _ h
reports_same_fault (faults.PipeOutside n) x y f h = f _ h
reports_same_fault (faults.TooManyCells n) x y f h = f _ h
reports_same_fault (faults.TooManyLocals n) x y f h = f _ h
reports_same_fault (faults.NotAnArray n) x y f h = f _ h
reports_same_fault (faults.NeedsIndex n) x y f h = f _ h
reports_same_fault (faults.ZeroSize n) x y f h = f _ h
reports_same_fault faults.NoMemory x y f h = tt

-- an error stays the same, whatever follows
pub fails_first : (refusal : CheckFault) (n : ℕ) (a b : List Mark) → PassesMarks (Err refusal) n a → PassesMarks (Err refusal) n (a ++ b)
fails_first refusal n a b h = reports_same_fault refusal (first_fault n a) (first_fault n (a ++ b)) (first_stays n a b) h

-- marks without a fault pass, and then what follows decides
pub passes_then : (outcome : Result ℕ CheckFault) (n k : ℕ) (a b : List Mark) → PassesMarks (Ok k) n a → PassesMarks outcome k b
    → PassesMarks outcome n (a ++ b)
passes_then (Ok end) n k a b p q =
    let following : first_fault n (a ++ b) ≡ first_fault k b = first_after n a b p.0 ∙ ap (λ j. first_fault j b) (sym p.1) in
    (following ∙ q.0, omega (arith, p.1, q.1, length-append a b))
passes_then (Err refusal) n k a b p q =
    let following : first_fault n (a ++ b) ≡ first_fault k b = first_after n a b p.0 ∙ ap (λ j. first_fault j b) (sym p.1) in
    reports_same_fault refusal (first_fault k b) (first_fault n (a ++ b)) (λ fault h. following ∙ h) q

-- the numbers of the first marks fit, and so do the numbers of what follows
pub fits_first : (n : ℕ) (a b : List Mark) → Fits n (a ++ b) → Fits n a
fits_first n a b h = omega (arith, h, length-append a b)

pub fits_then : (n k : ℕ) (a b : List Mark) → Fits n (a ++ b) → PassesMarks (Ok k) n a → Fits k b
fits_then n k a b h p = omega (arith, h, p.1, length-append a b)
