-- A write that does not race with the kept writer is compared with the readers, in lists that may have grown.
use Rattle.std.proofs.Common.{ap, sym, ◌∙◌, ◌≡◌, None}
use Rattle.access_history.proofs.Comparisons.{no_race_with}
use Rattle.access_history.proofs.GrownLists.{agree_on_kept}
use Rattle.access_history.specs.KeptInstances.{earlier_access, kept_of, node_of}
use Rattle.pipe_model.specs.declared.access.AccessKind.TheVariants.{Write}
use Rattle.pipe_model.specs.Orders.AccessHistory.{check_access, race_with}
use Rattle.access_history.proofs.history.check.Goals as goal

pub returns-in-Clean-Write-clause-race : goal.returns-in-Clean-Write-clause-race
returns-in-Clean-Write-clause-race g c = λ down right a known.
    let x = c.args.x.now in
    let h = c.args.history.now in
    let grown = agree_on_kept _ _ _ _ down right x h c.compare.ensures.down c.compare.ensures.right c.requires.new c.requires.kept a in
    let clean : None ≡ race_with down right x.node Write (node_of h.writer) None =
    sym (ap earlier_access c.in-Clean-Write.is-0) ∙ c.compare.ensures.race down right a.writer known.writer in
    c.compare_readers.ensures.race down right grown known
    ∙ sym (no_race_with down right x.node Write (node_of h.writer) _ clean)
    ∙ ap (check_access down right (kept_of h) x.node) (sym c.in-Clean-Write.is-1)
