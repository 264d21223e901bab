-- A book has room for each accepted program: its iterations keep to its limits.
use Rattle.std.proofs.Common.{◌≡◌, ◌∙◌, ◌≤◌, ◌<◌, ◌+◌, ◌-◌, ◌*◌, ◌⊎◌, inl, inr, ℕ, suc}
use Rattle.std.proofs.Common.{List, [], ◌∷◌, ◌++◌, length, replicate, get_or, ap, sym, subst, arith}
use Rattle.std.proofs.lemmas.Bool.{cases_lt}
use Rattle.std.proofs.lemmas.List.{get_or-replicate, get_or_append_left, length-replicate, length-append}
use Rattle.std.proofs.Math.Seq.{get_or-append_seam}
use Rattle.program_laws.proofs.WellFormed.{accepted_is_well_formed}
use Rattle.pipe_model.specs.Language.Programs.{natural, pipeline_of}
use Rattle.pipe_model.specs.Pipelines.Behaviour.{Behaviour, Reading, Writing, Staging, Ending}
use Rattle.pipe_model.specs.Pipelines.Pipeline.{AlwaysClosesLoop, HasBoundedWork, IsWellFormed}
use Rattle.program_laws.proofs.BoundedWork.{programs_have_bounded_work}
use Rattle.program_laws.proofs.PlannedLimits.{HasPlannedLimits, planned_limits}
use Rattle.book_laws.specs.BookRooms.{AcceptedProgramsArePlanned}
use Rattle.frame_book.specs.Rooms.{NamesAtMost}

-- ---- stages that an iteration names

names_at_most : (d : Behaviour) (each left more : ℕ) → HasBoundedWork each left more d → NamesAtMost more d
names_at_most (Reading c go) each left more b = λ v. names_at_most (go v) each b.0 more (b.2 v)
names_at_most (Writing c v d) each left more b = names_at_most d each b.0 more b.2
names_at_most (Staging k n d) each left more b = (b.0, b.1, names_at_most d each each b.0 b.2)
names_at_most (Ending e) each left more b = tt

-- an iteration that always closes the loop names none
names_none : (d : Behaviour) → AlwaysClosesLoop d → NamesAtMost 0 d
names_none (Reading c go) h = λ v. names_none (go v) (h v)
names_none (Writing c v d) h = names_none d h
names_none (Staging k n d) h = absurd h
names_none (Ending e) h = tt

-- ---- the plan

pub accepted_programs_are_planned : AcceptedProgramsArePlanned
accepted_programs_are_planned tree input accepted = record {
  planned = record {
    proper = proper;
    rows = length-append (replicate n stages) (1 ∷ []) ∙ ap (λ k. k + 1) long;
    room = λ i within. room i (cases_lt i n) (subst (λ k. i < k) (length-append (replicate n stages) (1 ∷ []) ∙ ap (λ k. k + 1) long)
        within);
  };
  bounded = (let bounded = limits.bounded in omega (arith, bounded));
  some_iterations = limits.some_iterations;
  some_stages = limits.some_stages;
}
  where
    n : ℕ
    n = natural tree.limits.iterations

    stages : ℕ
    stages = natural tree.limits.stages

    proper : IsWellFormed (pipeline_of tree input)
    proper = accepted_is_well_formed tree input accepted

    limits : HasPlannedLimits tree.limits.iterations tree.limits.stages
    limits = planned_limits tree accepted.obeys

    long : length (replicate n stages) ≡ n
    long = length-replicate n stages

    rooms : List ℕ
    rooms = replicate n stages ++ 1 ∷ []

    room : (i : ℕ) → (i < n) ⊎ (n ≤ i) → i < n + 1 → (m : ℕ) × (get_or rooms i 0 ≡ suc m) × NamesAtMost m
        ((pipeline_of tree input).behaviour i)
    room i (inl less) within =
        let one = limits.one_stage in (
          stages - 1,
          get_or_append_left (replicate n stages) (1 ∷ []) 0 i (rw (long) less) ∙ (get_or-replicate n i stages 0 less ∙ omega (arith, one)),
          names_at_most ((pipeline_of tree input).behaviour i) (2 * natural tree.limits.steps) (2 * natural tree.limits.steps) (stages - 1)
              (programs_have_bounded_work tree input i),
        )
    room i (inr more) within =
        let last : i ≡ n = omega (arith, more, within) in (
          0,
          subst (λ k. get_or rooms k 0 ≡ 1) (long ∙ sym last) (get_or-append_seam (replicate n stages) 1 [] 0),
          subst (λ k. NamesAtMost 0 ((pipeline_of tree input).behaviour k)) (sym last)
              (names_none ((pipeline_of tree input).behaviour n) proper.closes),
        )
