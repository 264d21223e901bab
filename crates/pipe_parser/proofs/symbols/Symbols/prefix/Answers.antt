use Rattle.std.proofs.Common.{◌∙◌, ap, sym, map, take}
use Rattle.std.proofs.lemmas.List.{take-map}
use Rattle.pipe_model.specs.Language.Tokens.{symbol_in}
use Rattle.pipe_parser.proofs.symbols.Symbols.prefix.Goals as goal

pub returns : goal.returns
returns c =
    ap (map (symbol_in c.self.inside.source.now)) c.prefix_of.ensures
    ∙ sym (take-map (symbol_in c.self.inside.source.now) c.args.count c.self.inside.tokens.now)
    ∙ ap (take c.args.count) c.self.view_is
