use Rattle.std.proofs.Common.{◌∙◌, ap, sym, map, drop}
use Rattle.std.proofs.lemmas.List.{drop-map}
use Rattle.pipe_model.specs.Language.Tokens.{symbol_in}
use Rattle.pipe_parser.proofs.symbols.Symbols.skip.Goals as goal

pub returns : goal.returns
returns c =
    ap (map (symbol_in c.self.inside.source.now)) c.suffix_of.ensures
    ∙ sym (drop-map (symbol_in c.self.inside.source.now) c.args.count c.self.inside.tokens.now)
    ∙ ap (drop c.args.count) c.self.view_is
