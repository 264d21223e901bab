use Rattle.std.proofs.Common.{rules, ◌≡◌, ◌∙◌, [], ◌∷◌, ◌++◌, arith}
use Rattle.std.proofs.lemmas.Result.{err_from_is_err_and}
use Rattle.pipe_model.specs.declared.word_codes.TheConstants as words
use Rattle.pipe_model.specs.declared.symbol.Symbol.TheVariants as terminals
use Rattle.grammar_laws.specs.Reading.{ReadsOneMore}
use Rattle.pipe_model.proofs.NestedBlocks.{if_seen, while_seen}
use Rattle.grammar_laws.proofs.ProgramPassing.{passes_statement}
use Rattle.pipe_parser.proofs.Results.{if_ok}
use Rattle.pipe_parser.proofs.StatementFronts.{before_one, block_read, fault_body, fault_then, fault_else, wait_read, continue_read}
use Rattle.pipe_parser.proofs.StatementFronts.{while_read, if_read, part_read, part_missing}
use Rattle.pipe_parser.proofs.statement.+block.Goals as goal

pub read_block-returns-in-Some-clause-ok : goal.read_block-returns-in-Some-clause-ok
read_block-returns-in-Some-clause-ok t c =
    block_read _ _ _ _ c.loop-following.statements.items c.in_ok-rest.ensures.ok c.loop-following.invariant.reads c.in-Some.ensures.some

pub read_block-loop-following-preserved : goal.read_block-loop-following-preserved
read_block-loop-following-preserved t c =
    let items : c.push.new.self.items ≡ c.loop-following.statements.items ++ c.in_ok-statement.statement ∷ [] = search rules in
    record {
      reads = λ ss end r. rw (items, before_one c.loop-following.statements.items c.in_ok-statement.statement ss)
          (c.loop-following.invariant.reads _ end (ReadsOneMore c.in_ok-statement.ensures.ok r));
      passes = λ below. c.loop-following.invariant.passes below ∙ passes_statement c.in_ok-statement.ensures.ok below;
      shorter = omega (arith, c.loop-following.invariant.shorter, c.in_ok-statement.ensures.shorter);
    }

pub read_if-returns-in_err-then-clause-err : goal.read_if-returns-in_err-then-clause-err
read_if-returns-in_err-then-clause-err t c =
    let p = err_from_is_err_and c.from_residual-in_err-then.result c.from_residual-in_err-then.ensures.1 in
    rw (p.1, p.2) (fault_then _ _ _ c.in_ok-e.ensures.ok _ c.in_err-then.ensures.err)

pub read_if-returns-in_err-other-clause-err : goal.read_if-returns-in_err-other-clause-err
read_if-returns-in_err-other-clause-err t c =
    let p = err_from_is_err_and c.from_residual-in_err-other.result c.from_residual-in_err-other.ensures.1 in
    rw (p.1, p.2) (fault_else _ _ _ _ _ c.in_ok-e.ensures.ok c.in_ok-then.ensures.ok _ c.in_err-other.ensures.err)

pub read_if-returns-clause-ok : goal.read_if-returns-clause-ok
read_if-returns-clause-ok t c =
    rw (if_seen c.in_ok-e.e c.in_ok-then.then c.in_ok-other.other)
    (if_read _ _ _ _ _ _ _ c.in_ok-e.ensures.ok c.in_ok-then.ensures.ok c.in_ok-other.ensures.ok)

pub read_part-returns-in-Some-clause-ok : goal.read_part-returns-in-Some-clause-ok
read_part-returns-in-Some-clause-ok t c = if_ok _ _ c.read_block.result (λ x b. part_read _ _ _ _ _ c.in-Some.ensures.some b)
    c.read_block.ensures.ok

pub read_part-returns-in-None-clause-ok : goal.read_part-returns-in-None-clause-ok
read_part-returns-in-None-clause-ok t c = rw c.new.ensures.items (part_missing _ _ c.in-None.ensures.none)

pub read_statement-returns-in_ok-number-in-Word-eq9-clause-ok : goal.read_statement-returns-in_ok-number-in-Word-eq9-clause-ok
read_statement-returns-in_ok-number-in-Word-eq9-clause-ok t c =
    let e : c.args.symbols.now ≡ terminals.Word words.PIPE_WAIT ∷ c.in-Some.first.following = search rules in
    wait_read _ _ _ _ e c.in_ok-number-in-Word-eq9.ensures.ok

pub read_statement-returns-in_ok-number-in-Word-eq10-clause-ok : goal.read_statement-returns-in_ok-number-in-Word-eq10-clause-ok
read_statement-returns-in_ok-number-in-Word-eq10-clause-ok t c =
    let e : c.args.symbols.now ≡ terminals.Word words.PIPE_CONTINUE ∷ c.in-Some.first.following = search rules in
    continue_read _ _ _ _ e c.in_ok-number-in-Word-eq10.ensures.ok

pub read_while-returns-in_err-body-clause-err : goal.read_while-returns-in_err-body-clause-err
read_while-returns-in_err-body-clause-err t c =
    let p = err_from_is_err_and c.from_residual-in_err-body.result c.from_residual-in_err-body.ensures.1 in
    rw (p.1, p.2) (fault_body _ _ _ c.in_ok-e.ensures.ok _ c.in_err-body.ensures.err)

pub read_while-returns-clause-ok : goal.read_while-returns-clause-ok
read_while-returns-clause-ok t c =
    rw (while_seen c.in_ok-e.e c.in_ok-body.body) (while_read _ _ _ _ _ c.in_ok-e.ensures.ok c.in_ok-body.ensures.ok)
