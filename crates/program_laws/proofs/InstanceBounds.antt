-- The number of instances of a run, stopped or not.
use Rattle.std.proofs.Common.{◌≡◌, ◌∙◌, sym, ap, subst, refl, ℕ, zero, suc, List, [], ◌∷◌, inl, inr, ◌≤◌, ◌+◌, ◌*◌, length, map, Some}
use Rattle.std.proofs.Common.{arith, mul-le-mul_right}
use Rattle.std.proofs.Math.Nat.{suc-mul}
use Rattle.std.proofs.lemmas.Bool.{cases_lt, eq-eqb}
use Rattle.std.proofs.lemmas.List.{length-append}
use Rattle.pipe_model.specs.declared.event.Event.{Event}
use Rattle.pipe_model.specs.declared.node.Node.{Node}
use Rattle.pipe_model.specs.Pipelines.Behaviour.{Behaviour, Reading, Writing, Staging, Ending, Action, Accessed, Staged, Ended, Performs}
use Rattle.pipe_model.specs.Pipelines.Behaviour.{nodes_in}
use Rattle.pipe_model.specs.Pipelines.Pipeline.{AlwaysClosesLoop, HasBoundedWork, Pipeline}
use Rattle.pipe_model.specs.Language.Programs.{natural, pipeline_of}
use Rattle.pipe_model.specs.Runs.Run.{Run}
use Rattle.pipe_model.specs.Runs.State.{Frame, State, frame_at}
use Rattle.program_laws.proofs.WellFormed.{accepted_is_well_formed}
use Rattle.run_laws.specs.RunLaws.{sum_below}
use Rattle.run_laws.proofs.RunStates.Frames.{frame_at_exists}
use Rattle.run_laws.proofs.RunStates.FrameTraces.{IsTraced, pending_node, run_traced}
use Rattle.run_laws.proofs.RunStates.LastIteration.{run_stays, stays_or_continues}
use Rattle.run_laws.proofs.RunStates.RunInvariant.{run_consistent}
use Rattle.pipe_model.specs.Language.ProgramsOfTrees.{pipeline_after_init}
use Rattle.program_laws.specs.WorkBounds.{ProgramInstancesAreBounded}
use Rattle.schedule_laws.specs.StartCounts.{instances_in}
use Rattle.program_laws.proofs.BoundedWork.{further, further_bounded, further_within, programs_have_bounded_work}
use Rattle.program_laws.proofs.PlannedLimits.{planned_limits}

-- ---- the instances of an iteration

-- the actions of a bounded behaviour name at most `more` stages
names_few : (each left more : ℕ) (d : Behaviour) (xs : List Action) → Performs d xs → HasBoundedWork each left more d
    → length (nodes_in xs) ≤ more
names_few each left more d [] p b = omega arith
names_few each left more (Reading c go) (Accessed a ∷ xs) p b = names_few each b.0 more (go a.value) xs p.1 (b.2 a.value)
names_few each left more (Reading c go) (Staged k n ∷ xs) p b = absurd (let o = p.0 in let q = o.1 in cc)
names_few each left more (Reading c go) (Ended e ∷ xs) p b = absurd (let o = p.0 in let q = o.1 in cc)
names_few each left more (Writing c v d) (Accessed a ∷ xs) p b = names_few each b.0 more d xs p.1 b.2
names_few each left more (Writing c v d) (Staged k n ∷ xs) p b = absurd (let o = p.0 in cc)
names_few each left more (Writing c v d) (Ended e ∷ xs) p b = absurd (let o = p.0 in cc)
names_few each left more (Staging k n d) (Accessed a ∷ xs) p b = absurd (let o = p.0 in cc)
names_few each left more (Staging k n d) (Staged j m ∷ xs) p b =
    let h = names_few each each b.0 d xs p.1 b.2 in
    let q = b.1 in
    omega (arith, h, q)
names_few each left more (Staging k n d) (Ended e ∷ xs) p b = absurd (let o = p.0 in cc)
names_few each left more (Ending e) (Accessed a ∷ xs) p b = absurd (let o = p.0 in cc)
names_few each left more (Ending e) (Staged k n ∷ xs) p b = absurd (let o = p.0 in cc)
names_few each left more (Ending e) (Ended f ∷ xs) p b = names_few each left more (Ending e) xs p.1 b

-- so an iteration has at most one instance more
frame_is_small : (p : Pipeline) (each more i : ℕ) (f : Frame) → IsTraced p i f → HasBoundedWork each each more (p.behaviour i)
    → length f.nodes ≤ more + 1
frame_is_small p each more i f t b =
    let bounded = names_few each each more (p.behaviour i) f.trace t.performs b in
    let all : suc (length (nodes_in f.trace)) ≡ length f.nodes + length (pending_node f.status) =
    ap (λ (l : List Node). length l) t.nodes ∙ length-append f.nodes (pending_node f.status) in
    omega (arith, bounded, all)

-- ---- the instances of all iterations

sum_from_first : (f : ℕ → ℕ) (n : ℕ) → sum_below f (suc n) ≡ f 0 + sum_below (λ i. f (suc i)) n
sum_from_first f zero = omega arith
sum_from_first f (suc n) = let h = sum_from_first f n in omega (arith, h)

instances_below : (fs : List Frame) (f : ℕ → ℕ) → ((i : ℕ) (g : Frame) → frame_at fs i ≡ Some g → length g.nodes ≤ f i)
    → instances_in (map (λ g. g.nodes) fs) ≤ sum_below f (length fs)
instances_below [] f h = omega arith
instances_below (x ∷ fs) f h =
    let one = h 0 x refl in
    let rest = instances_below fs (λ i. f (suc i)) (λ i g e. h (suc i) g e) in
    let all = sum_from_first f (length fs) in
    omega (arith, one, rest, all)

count_before : (last stages n : ℕ) → 1 ≤ stages → sum_below (λ i. further last stages i + 1) n ≤ n * stages
count_before last stages zero one = omega arith
count_before last stages (suc n) one =
    let rest = count_before last stages n one in
    let this = further_within last stages n one in
    let m = suc-mul n stages in
    omega (arith, rest, this, m)

count_all : (last stages n : ℕ) → 1 ≤ stages → n ≤ last + 1 → sum_below (λ i. further last stages i + 1) n ≤ last * stages + 1
count_all last stages n one le = elim (cases_lt last n) [
  | inl over ↦ (
      let all : n ≡ suc last = omega (arith, over, le) in
      let rest = count_before last stages last one in
      let this : further last stages last + 1 ≡ 1 = rw (eq-eqb last last refl) (omega arith) in
      rw all (omega (arith, rest, this)))
  | inr under ↦ (
      let rest = count_before last stages n one in
      let small : n * stages ≤ last * stages = mul-le-mul_right {m = n} {n = last} stages under in
      omega (arith, rest, small))
]

-- no iteration follows the one that always closes the loop
within_last : (p : Pipeline) (limit : ℕ) (events : List Event) (s : State) → Run p limit events s
    → AlwaysClosesLoop (p.behaviour p.last_iteration)
    → length s.frames ≤ p.last_iteration + 1
within_last p limit events s r closing = elim (cases_lt (p.last_iteration + 1) (length s.frames)) [
  | inl more ↦ (
      let f = frame_at_exists s.frames p.last_iteration (omega (arith, more)) in
      absurd (stays_or_continues f.0.status f.0.nodes _ (run_stays closing r f.0 f.1)
      ((run_consistent r).sound.goes p.last_iteration f.0 f.1 more)))
  | inr ok ↦ ok
]

pub program_instances_are_bounded : ProgramInstancesAreBounded
program_instances_are_bounded tree input limit events s a r =
    let p = pipeline_after_init tree input in
    let budget = natural tree.limits.steps in
    let stages = natural tree.limits.stages in
    let last = natural tree.limits.iterations in
    let well = accepted_is_well_formed tree input a in
    let one = (planned_limits tree a.obeys).one_stage in
    let traced = run_traced r in
    let each : (i : ℕ) (f : Frame) → frame_at s.frames i ≡ Some f → length f.nodes ≤ further last stages i + 1 =
    λ i f is. frame_is_small p (2 * budget) (further last stages i) i f (traced i f is)
    (further_bounded last stages (2 * budget) i ((pipeline_of tree input).behaviour i)
    (λ e. subst (λ n. AlwaysClosesLoop ((pipeline_of tree input).behaviour n)) (sym e) well.closes)
    (programs_have_bounded_work tree input i)) in
    let all = instances_below s.frames (λ i. further last stages i + 1) each in
    let most = count_all last stages (length s.frames) one (within_last p limit events s r well.closes) in
    omega (arith, all, most)
