-- The program to run of a source, and the line that refuses it as a wave loop.
use Rattle.std.proofs.Common.{◌≡◌, ◌<◌, ◌∙◌, ap, refl, subst, sym, inl, inr, arith, ℕ, zero, suc, ℤ, pos, Bool, true, false, List, [], ◌∷◌}
use Rattle.std.proofs.Common.{length, slice_get, Option, Some, Result, Ok, Err, IfOk, if◌then◌else◌}
use Rattle.language_laws.proofs.MarkedTokens.{marks_have_places}
use Rattle.pipe_io.specs.Faults.{CountsFault}
use Rattle.pipe_io.specs.Reads.{Content}
use Rattle.pipe_model.specs.declared.memory.NoMemory.{NoMemory}
use Rattle.pipe_model.specs.declared.token.Token.{Token}
use Rattle.pipe_model.specs.declared.tree.Program.{Program}
use Rattle.pipe_model.specs.Language.MarkPlaces.{is_mark, mark_places}
use Rattle.pipe_model.specs.Language.Marks.{marks_of}
use Rattle.pipe_model.specs.Language.SyntaxTree.{SyntaxTree, tree_of}
use Rattle.wave_laws.specs.Waves.WaveFaults.{BadTest, HasStage, NoRow, RowSet, wave_fault}
use Rattle.wave_lower.proofs.FaultMarks.{row_within, stage_within}
use Rattle.wave_lower.specs.declared.fault.WaveFault.{WaveFault}
use Rattle.wave_lower.specs.declared.fault.WaveFault.TheVariants as waves
use Rattle.wave_lower.specs.FirstFaults.{IsFirstFault}
use Rattle.command_results.proofs.Loading.{source_of_marked}
use Rattle.command_results.specs.declared.load.Source.TheVariants as sources
use Rattle.command_results.specs.declared.wave_loop.Runnable.{Runnable}
use Rattle.command_results.specs.declared.wave_loop.Runnable.TheVariants as runnables
use Rattle.command_results.specs.LoadedFiles.{IsAcceptedWith, IsSourceResult}
use Rattle.command_results.specs.RefusalLines.{HasPlaceAt, HasWavePlace, IsWaveFaultLine}
use Rattle.command_results.specs.RunnablePrograms.{IsNoWave, IsRunnableOf, IsRunnableResult, is_runnable_fault}
use Rattle.command_results.specs.WaveRefusals.{IsMarkAt, OfRow, OfRowSet, OfStage, OfTest}

-- ---- each mark has an offset

-- the offsets, and the offsets of one more token
one_more_place : (b : Bool) (place : ℕ) (places : List ℤ) (mark : ℕ) → ((k : ℕ) → k < length places → HasPlaceAt places k)
    → mark < length (if b then pos place ∷ places else places) → HasPlaceAt (if b then pos place ∷ places else places) mark
one_more_place false place places mark following h = following mark h
one_more_place true place places zero following h = (place, refl)
one_more_place true place places (suc k) following h = following k (omega (arith, h))

-- each index below the number of marked tokens has an offset
place_of_mark : (tokens : List Token) (mark : ℕ) → mark < length (mark_places tokens) → HasPlaceAt (mark_places tokens) mark
place_of_mark [] mark h = absurd (omega (arith, h))
place_of_mark (token ∷ tokens) mark h = one_more_place (is_mark token.kind) token.place (mark_places tokens) mark (place_of_mark tokens) h

has_place : (source : List ℕ) (tree : SyntaxTree) (places : List ℤ) (mark : ℕ) → IsAcceptedWith source tree places
    → mark < length (marks_of tree)
    → HasPlaceAt places mark
has_place source tree places mark a within =
    let many = marks_have_places source tree a.accepted.spelled in
    subst (λ ps. HasPlaceAt ps mark) (sym a.placed) (place_of_mark a.accepted.spelled.tokens mark (omega (arith, within, many)))

-- ---- the line of a fault

-- the mark of a fault has an offset
pub fault_has_wave_place : (source : List ℕ) (tree : SyntaxTree) (places : List ℤ) → IsAcceptedWith source tree places → (fault : WaveFault)
    → IsFirstFault fault (wave_fault tree) → HasWavePlace fault places
fault_has_wave_place source tree places a waves.BadTest t = tt
fault_has_wave_place source tree places a waves.NoRow t = tt
fault_has_wave_place source tree places a (waves.HasStage mark) t = has_place source tree places mark a (stage_within tree mark t)
fault_has_wave_place source tree places a (waves.RowSet mark) t = has_place source tree places mark a (row_within tree mark t)
fault_has_wave_place source tree places a waves.NoMemory t = tt

mark_at : (source : List ℕ) (tree : SyntaxTree) (places : List ℤ) (mark place : ℕ) → IsAcceptedWith source tree places
    → slice_get places mark ≡ Some (pos place) → IsMarkAt source tree mark place
mark_at source tree places mark place a found = record {
  spelled = a.accepted.spelled;
  found = ap (λ ps. slice_get ps mark) (sym a.placed)
      ∙ found;
}

-- the line refuses the program as a wave loop
pub wave_is_refused : (source : List ℕ) (tree : SyntaxTree) (places : List ℤ) (fault : WaveFault) (line : List ℕ)
    → IsAcceptedWith source tree places
    → IsFirstFault fault (wave_fault tree) → IsWaveFaultLine fault places line → IsNoWave source tree line
wave_is_refused source tree places waves.BadTest line a t e = rw e (record { fault = BadTest; faulty = t; line_is = OfTest })
wave_is_refused source tree places waves.NoRow line a t e = rw e (record { fault = NoRow; faulty = t; line_is = OfRow })
wave_is_refused source tree places (waves.HasStage mark) line a t e =
    rw e.line_is (record {
      fault = HasStage mark;
      faulty = t;
      line_is = OfStage mark e.place
          (mark_at source tree places mark e.place a e.found);
    })
wave_is_refused source tree places (waves.RowSet mark) line a t e =
    rw e.line_is (record {
      fault = RowSet mark;
      faulty = t;
      line_is = OfRowSet mark e.place
          (mark_at source tree places mark e.place a e.found);
    })
wave_is_refused source tree places waves.NoMemory line a t e = absurd e

-- ---- the result of loading

pub runnable_outcome : (holds : Option Content) (name : List ℕ) (wave : Bool) (checked : Program) (places : List ℤ)
    (r : Result Runnable NoMemory)
    → IsSourceResult holds name (sources.Accepted checked places)
    → IfOk r (λ x. (source : List ℕ) → IsAcceptedWith source (tree_of checked) places → IsRunnableOf source (tree_of checked) wave x)
    → IfOk r (IsRunnableResult holds name wave)
runnable_outcome holds name wave checked places (Ok (runnables.Program program)) s each =
    let h = each s.result_is.bytes s.result_is.marked in
    record {
      file = s.file;
      known = s.known;
      result_is = record { tree = tree_of checked; accepted = source_of_marked s.result_is; fits = h.0; program_is = h.1 };
    }
runnable_outcome holds name wave checked places (Ok (runnables.Refused line)) s each =
    let h = each s.result_is.bytes s.result_is.marked in
    record {
      file = s.file;
      known = s.known;
      result_is = inr (
        h.0,
        record {
          tree = tree_of checked;
          accepted = source_of_marked s.result_is;
          refused = record {
            bytes = s.result_is.bytes;
            held = s.result_is.held;
            fault = h.1.fault;
            faulty = h.1.faulty;
            line_is =
                h.1.line_is;
          };
        },
      );
    }
runnable_outcome holds name wave checked places (Ok runnables.Failed) s each = absurd (each s.result_is.bytes s.result_is.marked)
runnable_outcome holds name wave checked places (Err m) s each = each

-- no read of an accepted source failed
pub runnable_cause : (holds : Option Content) (name : List ℕ) (wave : Bool) (checked : Program) (places : List ℤ) (before now : ℕ)
    (r : Result Runnable NoMemory) → IsSourceResult holds name (sources.Accepted checked places) → CountsFault false before now
    → IfOk r (λ x. (source : List ℕ) → IsAcceptedWith source (tree_of checked) places → IsRunnableOf source (tree_of checked) wave x)
    → IfOk r (λ x. CountsFault (is_runnable_fault x) before now)
runnable_cause holds name wave checked places before now (Ok (runnables.Program program)) s same each = same
runnable_cause holds name wave checked places before now (Ok (runnables.Refused line)) s same each = same
runnable_cause holds name wave checked places before now (Ok runnables.Failed) s same each =
    absurd (each s.result_is.bytes s.result_is.marked)
runnable_cause holds name wave checked places before now (Err m) s same each = each

-- a source that is refused
pub refused_runnable : (holds : Option Content) (name line : List ℕ) (wave : Bool) → IsSourceResult holds name (sources.Refused line)
    → IsRunnableResult holds name wave (runnables.Refused line)
refused_runnable holds name line wave s = record { file = s.file; known = s.known; result_is = inl s.result_is }

-- a source that could not be read
pub failed_runnable : (holds : Option Content) (name : List ℕ) (wave : Bool) → IsSourceResult holds name sources.Failed
    → IsRunnableResult holds name wave runnables.Failed
failed_runnable holds name wave s = record { file = s.file; known = s.known; result_is = tt }
