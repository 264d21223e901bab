-- The text of a run, by whether it has reports and a trap.
use Rattle.std.proofs.Common.{◌≡◌, ◌≢◌, ◌==◌, ℕ, ℤ, true, false, List, [], ◌++◌, length, Option, Some, None, append-nil, refl}
use Rattle.std.proofs.lemmas.Bool.{eqb-true}
use Rattle.std.proofs.lemmas.List.{nil_from_length}
use Rattle.pipe_model.specs.declared.report.Report.{Report}
use Rattle.pipe_model.specs.declared.trap.TrapAt.{TrapAt}
use Rattle.pipe_model.specs.declared.tree.Declaration.{Declaration}
use Rattle.pipe_model.specs.Texts.{output_lines, trap_lines}
use Rattle.race_report.specs.CellNames.{race_lines}
use Rattle.command_results.specs.RunTexts.{IsPrintedAs, WithRaces, ToItsEnd, WithTrap}

-- a list whose length is 0 is empty
pub none_left : (reports : List Report) → (length reports == 0) ≡ true → reports ≡ []
none_left reports e = nil_from_length reports (eqb-true (length reports) 0 e)

-- a list whose length is not 0 is not empty
some_left : (reports : List Report) → (length reports == 0) ≡ false → reports ≢ []
some_left reports some none = let e : (length reports == 0) ≡ true = rw none refl in cc (e, some)

-- a run with reports
pub printed_with_races : (cells : List Declaration) (output : List ℤ) (trap : Option TrapAt) (reports : List Report) (text : List ℕ)
    → (length reports == 0) ≡ false
    → text ≡ race_lines cells reports → IsPrintedAs cells output trap reports 2 text
printed_with_races cells output trap reports text some t = rw t (WithRaces (some_left reports some))

-- a run without reports and without a trap
pub printed_to_its_end : (cells : List Declaration) (output : List ℤ) (trap : Option TrapAt) (reports : List Report) (text : List ℕ)
    → (length reports == 0) ≡ true
    → text ≡ output_lines output ++ trap_lines trap → trap ≡ None → IsPrintedAs cells output trap reports 0 text
printed_to_its_end cells output trap reports text none t ends =
    rw (t, ends, append-nil (output_lines output)) (ToItsEnd (none_left reports none) refl)

-- a run without reports and with a trap
pub printed_with_trap : (cells : List Declaration) (output : List ℤ) (trap : Option TrapAt) (reports : List Report) (text : List ℕ)
    (at : TrapAt)
    → (length reports == 0) ≡ true
    → text ≡ output_lines output ++ trap_lines trap → trap ≡ Some at → IsPrintedAs cells output trap reports 3 text
printed_with_trap cells output trap reports text at none t ends = rw (t, ends) (WithTrap at (none_left reports none) refl)
