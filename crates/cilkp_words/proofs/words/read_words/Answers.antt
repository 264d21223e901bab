use Rattle.std.proofs.Common.{◌≡◌, ◌∙◌, true, false}
use Rattle.clap.specs.Simple.{subcommand_rows_of}
use Rattle.cilkp_words.proofs.RangesOfCommands.{command_between}
use Rattle.cilkp_words.proofs.ReadCommands.{accepted_words, refused_words}
use Rattle.cilkp_words.specs.CommandWords.{words_of}
use Rattle.cilkp_words.proofs.words.read_words.Goals as goal

pub returns-in-Ok-clause-command : goal.returns-in-Ok-clause-command
returns-in-Ok-clause-command c =
    accepted_words _ (words_of c.args.words.now) _ (subcommand_rows_of c.in-Ok.matches) c.in_ok-command_line.ensures c.in-Ok.ensures.kinds
    c.in-Ok.ensures.matches
    c.command_in-command.ensures

pub returns-in-Ok-clause-ranges : goal.returns-in-Ok-clause-ranges
returns-in-Ok-clause-ranges c = command_between _ (subcommand_rows_of c.in-Ok.matches) c.command_in-command.ensures

pub returns-else-eq-clause-command : goal.returns-else-eq-clause-command
returns-else-eq-clause-command c =
    refused_words _ (words_of c.args.words.now) c.in-Err.error.kind c.in_ok-command_line.ensures c.in-Err.ensures.kinds
    (λ memory. let d : false ≡ true = rw (c.kind.ensures ∙ memory) at c.if-eq.ensures in cc (d))
