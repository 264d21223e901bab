use Rattle.serial_elision.proofs.Results.{map_ok}
use Rattle.schedule_play.proofs.program_play.play.Goals as goal

pub returns-clause-events : goal.returns-clause-events
returns-clause-events c = map_ok c.play_prepared-played.result c.play_prepared-played.ensures.played (λ r p. p.log.events)

pub returns-clause-run : goal.returns-clause-run
returns-clause-run c = map_ok c.play_prepared-played.result c.play_prepared-played.ensures.played (λ r p. p.log.run)

pub returns-clause-columns : goal.returns-clause-columns
returns-clause-columns c = map_ok c.play_prepared-played.result c.play_prepared-played.ensures.played (λ r p. p.log.columns)

pub returns-clause-workers : goal.returns-clause-workers
returns-clause-workers c = map_ok c.play_prepared-played.result c.play_prepared-played.ensures.played (λ r p. p.log.workers)

pub returns-clause-throttled : goal.returns-clause-throttled
returns-clause-throttled c = map_ok c.play_prepared-played.result c.play_prepared-played.ensures.played (λ r p. p.log.throttled)

pub returns-clause-finished : goal.returns-clause-finished
returns-clause-finished c = map_ok c.play_prepared-played.result c.play_prepared-played.ensures.played (λ r p. p.log.finished)

pub returns-clause-turns : goal.returns-clause-turns
returns-clause-turns c = map_ok c.play_prepared-played.result c.play_prepared-played.ensures.played (λ r p. p.log.turns)

pub returns-clause-reports : goal.returns-clause-reports
returns-clause-reports c = map_ok c.play_prepared-played.result c.play_prepared-played.ensures.played (λ r p. p.reports.found)

pub returns-clause-right : goal.returns-clause-right
returns-clause-right c = map_ok c.play_prepared-played.result c.play_prepared-played.ensures.played (λ r p. p.reports.right)

pub returns-clause-output : goal.returns-clause-output
returns-clause-output c = map_ok c.play_prepared-played.result c.play_prepared-played.ensures.played (λ r p. p.results.output)

pub returns-clause-trap : goal.returns-clause-trap
returns-clause-trap c = map_ok c.play_prepared-played.result c.play_prepared-played.ensures.played (λ r p. p.results.trap)

pub returns-clause-elision : goal.returns-clause-elision
returns-clause-elision c = map_ok c.play_prepared-played.result c.play_prepared-played.ensures.meets (λ r p. p.elision)

pub returns-clause-enough : goal.returns-clause-enough
returns-clause-enough c = map_ok c.play_prepared-played.result c.play_prepared-played.ensures.meets (λ r p. p.enough)

pub returns-clause-goes_on : goal.returns-clause-goes_on
returns-clause-goes_on c = map_ok c.play_prepared-played.result c.play_prepared-played.ensures.meets (λ r p. p.goes_on)

pub returns-clause-bounded : goal.returns-clause-bounded
returns-clause-bounded c = map_ok c.play_prepared-played.result c.play_prepared-played.ensures.meets (λ r p. p.bounded)

pub returns-clause-instances : goal.returns-clause-instances
returns-clause-instances c = map_ok c.play_prepared-played.result c.play_prepared-played.ensures.meets (λ r p. p.instances)
