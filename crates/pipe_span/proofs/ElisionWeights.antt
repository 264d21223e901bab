-- The columns of a serial elision, and the steps of their instances.
use Rattle.std.proofs.Common.{◌≡◌, ◌∙◌, refl, sym, ap, subst, ℕ, ℤ, zero, suc, pos, ◌<◌, ◌≤◌, ◌≤ℤ◌, ◌+◌, ◌*◌, List, [], ◌∷◌, ◌++◌}
use Rattle.std.proofs.Common.{Bool, true, false, length, map, get_or, length-append, le_trans, arith}
use Rattle.std.proofs.lemmas.Int.{ints}
use Rattle.std.proofs.Math.ListN.{get_or-map}
use Rattle.std.proofs.Math.Nat.{mul-le-mul_left, mul-le-mul_right}
use Rattle.std.specs.Prelude.{is_some}
use Rattle.pipe_model.specs.declared.access.Access.{Access}
use Rattle.pipe_model.specs.declared.column.Column.{Column}
use Rattle.pipe_model.specs.declared.column.ColumnEnd.{ColumnEnd}
use Rattle.pipe_model.specs.declared.event.Event.{Event}
use Rattle.pipe_model.specs.declared.node.Kind.TheVariants.{Zero}
use Rattle.pipe_model.specs.declared.tree.Limits.{Limits}
use Rattle.pipe_model.specs.declared.node.Node.{Node}
use Rattle.pipe_model.specs.Language.CheckingRules.{BreaksNoRule}
use Rattle.pipe_model.specs.Language.Interaction.{Interaction, Return, Raise, Step, Get, Set, Stage, with_budget}
use Rattle.pipe_model.specs.Language.Programs.{natural, store_of}
use Rattle.pipe_model.specs.Language.ProgramsOfTrees.{whole_of}
use Rattle.pipe_model.specs.Language.SyntaxTree.{SyntaxTree}
use Rattle.pipe_model.specs.Pipelines.Behaviour.{Action, accesses_in, closes_loop, column_of, nodes_in, read_access, write_access}
use Rattle.pipe_model.specs.Pipelines.ElisionResults.{ended_column}
use Rattle.pipe_model.specs.Pipelines.Pipeline.{Pipeline}
use Rattle.pipe_model.specs.Pipelines.SerialElision.{serial_trace, serial_traces_from, unless}
use Rattle.pipe_model.specs.Pipelines.Store.{InitialStore, value_after}
use Rattle.pipe_model.specs.Pipelines.WholePrograms.{WholeProgram, init_accesses, init_trap, loop_after_init, loop_traces, program_columns}
use Rattle.pipe_model.specs.Pipelines.WholePrograms.{program_log}
use Rattle.pipe_model.specs.Races.Columns.{AreColumns, IsRising, node_at, nodes_at, node_columns}
use Rattle.pipe_model.specs.Runs.Run.{EmptyRun}
use Rattle.pipe_model.specs.Runs.RunLogs.{column_of_frame, state_after}
use Rattle.pipe_model.specs.Runs.State.{Frame, State, initial_state, own_columns}
use Rattle.pipe_model.specs.Runs.WholeProgramRuns.{ProgramRun, NoLoop, OfLoop}
use Rattle.program_laws.proofs.WellFormed.{accepted_is_well_formed}
use Rattle.program_laws.proofs.InstanceBounds.{program_instances_are_bounded}
use Rattle.program_laws.proofs.ProgramElisions.{program_elision_is_a_run}
use Rattle.program_laws.specs.ProgramRunLaws.{HasElisionLog}
use Rattle.schedule_laws.specs.StartCounts.{instances_in, most_instances}
use Rattle.run_laws.proofs.RunStates.IterationCounts.{runs_keep_rules}
use Rattle.stage_code.specs.declared.instr.Part.TheVariants as parts
use Rattle.stage_code.specs.FlatCode.{FlatCode}
use Rattle.stage_code.specs.LimitRanges.{HasRangesOfLimits}
use Rattle.stage_interp.specs.RemainingBehaviour.{IsCodeOf}
use Rattle.stage_interp.specs.TreeRuns.{interaction_in}
use Rattle.serial_elision.specs.ElisionSteps.{iteration_steps, program_steps, step_counts, steps_from}
use Rattle.serial_elision.proofs.PartRuns.{natural_most}
use Rattle.pipe_span.specs.Entries.{most_entries, most_weight}
use Rattle.pipe_span.specs.HeaviestPaths.{instances_before}
use Rattle.pipe_span.specs.SpanLaws.{InstancesHaveSteps}
use Rattle.pipe_span.specs.WorkAndSpan.{AreSteps}

-- ---- one number for each instance

counts_length : (store : InitialStore) (before : List Access) (budget left : ℕ) (d : Interaction ColumnEnd)
    → length (step_counts store before budget left d) ≡ length (nodes_in (serial_trace store (with_budget budget left d) before)) + 1
counts_length store before budget left (Return e) = refl
counts_length store before budget left (Raise t) = refl
counts_length store before budget zero (Step d) = refl
counts_length store before budget (suc n) (Step d) = counts_length store before budget n d
counts_length store before budget left (Get c go) =
    let v = value_after store before c in counts_length store (before ++ read_access c v ∷ []) budget left (go v)
counts_length store before budget left (Set c v d) = counts_length store (before ++ write_access c v ∷ []) budget left d
counts_length store before budget left (Stage k n d) = let h = counts_length store before budget budget d in omega (arith, h)

column_length : (t : List Action) → length (column_of t) ≡ length (nodes_in t) + 1
column_length t = omega arith

-- the loop of a program after `init`
abbrev pub loop_of : SyntaxTree → List ℤ → Pipeline
loop_of tree input = loop_after_init (whole_of tree input)

unless_length : (tree : SyntaxTree) (input : List ℤ) (i : ℕ) (before : List Access) (traces : List (List Action)) (b : Bool)
    → length (steps_from tree input i before traces) ≡ instances_in (map column_of traces)
    → length (steps_from tree input i before (unless b traces)) ≡ instances_in (map column_of (unless b traces))
unless_length tree input i before traces true h = refl
unless_length tree input i before traces false h = h

steps_length : (tree : SyntaxTree) (input : List ℤ) (n i : ℕ) (before : List Access)
    → length (steps_from tree input i before (serial_traces_from (loop_of tree input) n i before))
    ≡ instances_in (map column_of (serial_traces_from (loop_of tree input) n i before))
steps_length tree input zero i before = refl
steps_length tree input (suc n) i before =
    let p = loop_of tree input in
    let b = natural tree.limits.steps in
    let t : List Action = serial_trace p.store (p.behaviour i) before in
    let more = before ++ accesses_in t in
    let rest : List (List Action) = unless (closes_loop t) (serial_traces_from p n (i + 1) more) in
    let first : length (iteration_steps tree input i before) ≡ length (nodes_in t) + 1 = counts_length (store_of tree) before b b
    (interaction_in tree input parts.Pipe i) in
    let others = unless_length tree input (i + 1) more _ (closes_loop t) (steps_length tree input n (i + 1) more) in
    length-append (iteration_steps tree input i before) (steps_from tree input (i + 1) more rest)
    ∙ ap (λ x. x + length (steps_from tree input (i + 1) more rest)) (first ∙ sym (column_length t))
    ∙ ap (λ x. length (column_of t) + x) others

-- ---- no number is above the budget

abbrev pub AtMost : ℕ → List ℕ → Type 0
AtMost budget [] = Unit {0}
AtMost budget (n ∷ ns) = (n ≤ budget) × AtMost budget ns

at_most-append : (budget : ℕ) (xs ys : List ℕ) → AtMost budget xs → AtMost budget ys → AtMost budget (xs ++ ys)
at_most-append budget [] ys g h = h
at_most-append budget (x ∷ xs) ys g h = (g.0, at_most-append budget xs ys g.1 h)

at_most_each : (budget : ℕ) (xs : List ℕ) (k : ℕ) → AtMost budget xs → get_or xs k 0 ≤ budget
at_most_each budget [] zero h = omega arith
at_most_each budget [] (suc k) h = omega arith
at_most_each budget (x ∷ xs) zero h = h.0
at_most_each budget (x ∷ xs) (suc k) h = at_most_each budget xs k h.1

counts_most : (store : InitialStore) (before : List Access) (budget left : ℕ) (d : Interaction ColumnEnd)
    → AtMost budget (step_counts store before budget left d)
counts_most store before budget left (Return e) = (omega arith, tt)
counts_most store before budget left (Raise t) = (omega arith, tt)
counts_most store before budget zero (Step d) = (omega arith, tt)
counts_most store before budget (suc n) (Step d) = counts_most store before budget n d
counts_most store before budget left (Get c go) =
    let v = value_after store before c in counts_most store (before ++ read_access c v ∷ []) budget left (go v)
counts_most store before budget left (Set c v d) = counts_most store (before ++ write_access c v ∷ []) budget left d
counts_most store before budget left (Stage k n d) = (omega arith, counts_most store before budget budget d)

steps_most : (tree : SyntaxTree) (input : List ℤ) (i : ℕ) (before : List Access) (traces : List (List Action))
    → AtMost (natural tree.limits.steps) (steps_from tree input i before traces)
steps_most tree input i before [] = tt
steps_most tree input i before (t ∷ traces) =
    let b = natural tree.limits.steps in
    at_most-append b (iteration_steps tree input i before) (steps_from tree input (i + 1) (before ++ accesses_in t) traces)
    (counts_most (store_of tree) before b b (interaction_in tree input parts.Pipe i))
    (steps_most tree input (i + 1) (before ++ accesses_in t) traces)

-- ---- the instances of columns

-- the instances of ended columns
ended_nodes : (traces : List (List Action)) → node_columns (map ended_column traces) ≡ map column_of traces
ended_nodes [] = refl
ended_nodes (t ∷ traces) = ap (λ cs. column_of t ∷ cs) (ended_nodes traces)

-- the columns of frames have the same instances as the frames
nodes_of_frames : (frames : List Frame) → node_columns (map column_of_frame frames) ≡ map (λ (f : Frame). f.nodes) frames
nodes_of_frames [] = refl
nodes_of_frames (f ∷ frames) = ap (λ ns. f.nodes ∷ ns) (nodes_of_frames frames)

before_more : (c : List Node) (cs : List (List Node)) (n : ℕ) → instances_before (c ∷ cs) (suc n) ≡ length c + instances_before cs n
before_more c cs zero = omega arith
before_more c cs (suc n) = let h = before_more c cs n in omega (arith, h)

pub before_all : (cs : List (List Node)) → instances_before cs (length cs) ≡ instances_in cs
before_all [] = refl
before_all (c ∷ cs) = before_more c cs (length cs) ∙ ap (λ n. length c + n) (before_all cs)

columns_length : (columns : List Column) → length (node_columns columns) ≡ length columns
columns_length [] = refl
columns_length (c ∷ columns) = let h = columns_length columns in omega (arith, h)

traces_full : (traces : List (List Action)) (i : ℕ) → i < length (map column_of traces) → 0 < length (nodes_at (map column_of traces) i)
traces_full [] i w = absurd (omega (arith, w))
traces_full (t ∷ traces) zero w = omega arith
traces_full (t ∷ traces) (suc i) w = traces_full traces i (omega (arith, w))

traces_first : (traces : List (List Action)) (i : ℕ) → (node_at (nodes_at (map column_of traces) i) 0).kind ≡ Zero
traces_first [] zero = refl
traces_first [] (suc i) = refl
traces_first (t ∷ traces) zero = refl
traces_first (t ∷ traces) (suc i) = traces_first traces i

-- ---- the elision of a program

elision_length : (tree : SyntaxTree) (input : List ℤ)
    → length (steps_from tree input 0 (init_accesses (whole_of tree input)) (loop_traces (whole_of tree input)))
    ≡ instances_in (map column_of (loop_traces (whole_of tree input)))
elision_length tree input =
    let w = whole_of tree input in
    unless_length tree input 0 (init_accesses w) _ (is_some (init_trap w))
    (steps_length tree input ((loop_of tree input).last_iteration + 1) 0 (init_accesses w))

map_length : (xs : List ℕ) → length (map pos xs) ≡ length xs
map_length [] = refl
map_length (x ∷ xs) = let h = map_length xs in omega (arith, h)

steps_whole : (tree : SyntaxTree) (input : List ℤ) → length (program_steps tree input)
    ≡ instances_in (node_columns (program_columns (whole_of tree input)))
steps_whole tree input = map_length _ ∙ elision_length tree input ∙ ap instances_in (sym (ended_nodes (loop_traces (whole_of tree input))))

pub instances_have_steps : InstancesHaveSteps
instances_have_steps tree input =
    let w = whole_of tree input in
    let columns = node_columns (program_columns w) in
    let steps = steps_from tree input 0 (init_accesses w) (loop_traces w) in
    record {
      whole = steps_whole tree input ∙ sym (before_all columns) ∙ ap (instances_before columns) (columns_length (program_columns w));
      least = λ k. subst (λ z. pos 0 ≤ℤ z) (sym (get_or-map pos steps k 0)) (omega (arith, ints));
      most = λ k. subst (λ z. z ≤ℤ pos (natural tree.limits.steps)) (sym (get_or-map pos steps k 0))
          (let h = at_most_each (natural tree.limits.steps) steps k (steps_most tree input 0 (init_accesses w) (loop_traces w)) in
          omega (arith, ints, h));
    }

-- what the columns and the steps of an elision meet
pub record MeetsElision (tree : SyntaxTree) (input : List ℤ) : Type 0 where
  pub columns : AreColumns (node_columns (program_columns (whole_of tree input)))
  pub rising : (i : ℕ) → IsRising (nodes_at (node_columns (program_columns (whole_of tree input))) i)
  pub bounded : length (program_steps tree input) ≤ most_instances tree

-- a run of a program has rising columns, and no more instances than its limits allow
run_rises : (w : WholeProgram) (events : List Event) (s : State) → ProgramRun w 1 events s → (i : ℕ) → IsRising (nodes_at (own_columns s) i)
run_rises w events s (NoLoop trapped) = (runs_keep_rules w.loop 1 [] initial_state EmptyRun).rising
run_rises w events s (OfLoop free r) = (runs_keep_rules (loop_after_init w) 1 events s r).rising

run_is_small : (tree : SyntaxTree) (input : List ℤ) (events : List Event) (s : State) → BreaksNoRule tree
    → ProgramRun (whole_of tree input) 1 events s → instances_in (own_columns s) ≤ most_instances tree
run_is_small tree input events s form (NoLoop trapped) = omega arith
run_is_small tree input events s form (OfLoop free r) = program_instances_are_bounded tree input 1 events s form r

pub elision_meets : (tree : SyntaxTree) (input : List ℤ) → BreaksNoRule tree → MeetsElision tree input
elision_meets tree input form =
    let w : WholeProgram = whole_of tree input in
    let h : HasElisionLog w 1 = program_elision_is_a_run w 1 (accepted_is_well_formed tree input form) (omega arith) in
    let end : State = state_after (program_log w).events in
    let same : own_columns end ≡ node_columns (program_columns w) = sym (nodes_of_frames end.frames)
    ∙ ap node_columns (sym h.run.columns) in
    let traces = ended_nodes (loop_traces w) in
    let small = run_is_small tree input _ end form h.run.run in
    record {
      columns = subst AreColumns (sym traces) (record { full = traces_full (loop_traces w); first = traces_first (loop_traces w) });
      rising = subst (λ cs. (i : ℕ) → IsRising (nodes_at cs i)) same (run_rises w _ end h.run.run);
      bounded = subst (λ n. n ≤ most_instances tree) (ap instances_in same ∙ sym (steps_whole tree input)) small;
    }

-- ---- what `heaviest` takes

pub record CanBeWeighed (columns : List Column) (steps : List ℤ) : Type 0 where
  pub full : AreColumns (node_columns columns)
  pub rising : (i : ℕ) → IsRising (nodes_at (node_columns columns) i)
  pub whole : length steps ≡ instances_before (node_columns columns) (length columns)
  pub bounded : length steps ≤ most_entries
  pub each : AreSteps steps

few_instances : (tree : SyntaxTree) → HasRangesOfLimits tree.limits → most_instances tree ≤ most_entries
few_instances tree ranges =
    let iterations : natural tree.limits.iterations ≤ 65536 = natural_most tree.limits.iterations 65536 ranges.iterations.1 in
    let stages : natural tree.limits.stages ≤ 4096 = natural_most tree.limits.stages 4096 ranges.stages.1 in
    let product : natural tree.limits.iterations * natural tree.limits.stages ≤ 65536 * 4096 =
    le_trans (mul-le-mul_right (natural tree.limits.stages) iterations) (mul-le-mul_left 65536 stages) in
    omega (arith, product)

pub can_be_weighed : (tree : SyntaxTree) (code : FlatCode) (input : List ℤ) (limits : Limits) (columns : List Column) (steps : List ℤ)
    → IsCodeOf tree code → limits ≡ code.limits → HasRangesOfLimits limits
    → columns ≡ program_columns (whole_of tree input) → steps ≡ program_steps tree input → CanBeWeighed columns steps
can_be_weighed tree code input limits columns steps of same given is are =
    let ranges : HasRangesOfLimits tree.limits = subst HasRangesOfLimits (same ∙ of.limits) given in
    let meets = elision_meets tree input (record { obeys = of.accepted }) in
    let own = instances_have_steps tree input in
    let most : natural tree.limits.steps ≤ most_weight = natural_most tree.limits.steps most_weight ranges.steps.1 in
    let bounded : length (program_steps tree input) ≤ most_entries = le_trans meets.bounded (few_instances tree ranges) in
    subst (λ s. CanBeWeighed columns s) (sym are) (subst (λ c. CanBeWeighed c (program_steps tree input)) (sym is) (record {
      full = meets.columns;
      rising = meets.rising;
      whole = own.whole;
      bounded = bounded;
      each = record { least = own.least; most = λ k. let h = own.most k in omega (arith, ints, h, most) };
    }))
