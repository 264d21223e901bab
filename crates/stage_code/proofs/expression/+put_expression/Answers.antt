use Rattle.std.proofs.Common.{rules, ◌≡◌, ◌∙◌, ◌++◌, true, length, sym, subst, ap, slice_set}
use Rattle.pipe_model.specs.Language.Programs.{range_of}
use Rattle.pipe_model.specs.Language.SyntaxTree.{expression_of, binary_expression}
use Rattle.stage_code.specs.CodeOfTrees.{expression_code}
use Rattle.stage_code.specs.Fitting.{CodeFits, is_short, test_code}
use Rattle.stage_code.specs.declared.instr.Instr.TheVariants as instrs
use Rattle.stage_code.proofs.PassedCode.{passed_fits}
use Rattle.stage_code.proofs.Patches.{passing_patched, short_joined}
use Rattle.stage_code.proofs.expression.+put_expression.Goals as goal

pub returns-in_ok-put-in-Binary-2 : goal.returns-in_ok-put-in-Binary-2
returns-in_ok-put-in-Binary-2 t c =
    let cells = range_of 2 c.args.cells.now in
    let scope = c.args.locals.now in
    let base = c.args.code.now.items in
    let op = c.in-Binary.op in
    let a = expression_of c.deref-in-Binary.result.now in
    let b = expression_of c.deref-in-Binary-2.result.now in
    let is : expression_of c.args.e.now ≡ binary_expression op a b =
    rw (c.in-Binary.is, c.deref-in-Binary.ensures, c.deref-in-Binary-2.ensures) in
    let short : is_short op ≡ true = search rules in
    let now : c.test_code-in-Binary.result ≡ test_code op c.place.result = search rules in
    ap (λ i. slice_set c.put-in-Binary-2.new.code.items c.len-test.result i) now
    ∙ passing_patched (test_code op) base (expression_code cells scope (length base) a) c.put_expression-in-Binary.new.code.items
    c.put-in-Binary.new.code.items
    c.put_expression-in-Binary-2.new.code.items c.put-in-Binary-2.new.code.items (λ n. expression_code cells scope n b) c.test_code.result
    instrs.Truth
    c.len-test.result c.place.result c.in_ok-put_expression-in-Binary.ensures (search rules) c.in_ok-put-in-Binary.ensures
    c.in_ok-put_expression-in-Binary-3.ensures
    c.in_ok-put-in-Binary-2.ensures c.place.ensures
    ∙ ap (λ l. base ++ l) (sym (short_joined cells scope (length base) op a b short))
    ∙ ap (λ e. base ++ expression_code cells scope (length base) e) (sym is)

pub place-requires : goal.place-requires
place-requires t c =
    let cells = range_of 2 c.args.cells.now in
    let scope = c.args.locals.now in
    let base = c.args.code.now.items in
    let op = c.in-Binary.op in
    let a = expression_of c.deref-in-Binary.result.now in
    let b = expression_of c.deref-in-Binary-2.result.now in
    let is : expression_of c.args.e.now ≡ binary_expression op a b =
    rw (c.in-Binary.is, c.deref-in-Binary.ensures, c.deref-in-Binary-2.ensures) in
    let fits = subst (λ e. CodeFits base (expression_code cells scope (length base) e)) is c.requires in
    let short : is_short op ≡ true = search rules in
    passed_fits cells scope base c.put_expression-in-Binary.new.code.items c.put-in-Binary.new.code.items
    c.put_expression-in-Binary-2.new.code.items c.put-in-Binary-2.new.code.items c.test_code.result instrs.Truth op a b short
    c.in_ok-put_expression-in-Binary.ensures c.in_ok-put-in-Binary.ensures c.in_ok-put_expression-in-Binary-3.ensures
    c.in_ok-put-in-Binary-2.ensures fits
