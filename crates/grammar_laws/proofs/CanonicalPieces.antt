-- The canonical pieces of a program are within every bound that other pieces that derive the program are within.
use Rattle.std.proofs.Common.{◌≡◌, sym, refl, subst, ℕ, ℤ, pos, negsuc, suc, zero, List, [], ◌∷◌, ◌++◌, arith, false, Option}
use Rattle.std.proofs.Math.IntN.{neg_ℤ}
use Rattle.pipe_model.specs.declared.symbol.Symbol.{Symbol}
use Rattle.pipe_model.specs.declared.symbol.Symbol.TheVariants as symbols
use Rattle.pipe_model.specs.declared.tree.Declaration.{Declaration}
use Rattle.grammar_laws.proofs.CanonicalSymbols.{expression_symbols, block_pieces, part_pieces, statement_pieces, statements_pieces}
use Rattle.grammar_laws.proofs.CanonicalSymbols.{size_pieces, value_pieces, cells_pieces, program_pieces}
use Rattle.pipe_model.specs.Language.SyntaxTree.{Expression, Statement, Statements, Empty, Then, SyntaxTree}
use Rattle.pipe_model.specs.Language.Grammar.{any_expression, Derives, Piece, Single, FullExpression, flat, DerivesStatement, LetIs}
use Rattle.pipe_model.specs.Language.Grammar.{AssignIs, AssignElementIs, EmitIs, IfIs, WhileIs, WaitIs, WaitNextIs, ContinueIs}
use Rattle.pipe_model.specs.Language.Grammar.{ContinueNextIs, DerivesStatements, NoStatement, OneMore, DerivesBlock, BlockIs, DerivesPart}
use Rattle.pipe_model.specs.Language.Grammar.{NoPart, PartIs, DerivesSize, NoSize, SizeIs, DerivesValue, ValueIs, NegativeValueIs}
use Rattle.pipe_model.specs.Language.Grammar.{DerivesCells, NoCell, CellIs, DerivesProgram, ProgramIs, limits_before}
use Rattle.pipe_model.specs.Language.Spelling.{AreShort, is_opening_bracket, is_closing_bracket}
use Rattle.pipe_model.specs.Language.Words.{minus, open_round, close_round, open_square, close_square, open_brace, close_brace}
use Rattle.grammar_laws.proofs.CanonicalBounds.{IsUnjoined, IsPair, NoDeeper, none_deep, plain_deep, front_deep, more_deep, both_deep}
use Rattle.grammar_laws.proofs.CanonicalBounds.{nested_deep, unbracketed_deep, none_lifts, full_least}
use Rattle.grammar_laws.proofs.Pieces.{flat_append, short_append, short_front, short_back}

-- if the full expressions of `ps` are short, the full expressions of `us` are too, and `us` never has more brackets open
pub record Leaner (us ps : List Piece) : Type 0 where
  pub short : AreShort 256 ps → AreShort 256 us
  pub deep : NoDeeper (flat us) (flat ps)

no_piece : Leaner [] []
no_piece = record { short = λ h. h; deep = none_deep }

plain : {us ps : List Piece} (t : Symbol) → is_opening_bracket t ≡ false → is_closing_bracket t ≡ false → Leaner us ps
    → Leaner (Single t ∷ us) (Single t ∷ ps)
plain t a b l = record {
  short = l.short;
  deep = plain_deep t t (record { no_opening = a; no_closing = b })
      (record { no_opening = a; no_closing = b }) l.deep;
}

full : {us ps : List Piece} {ts : List Symbol} {e : Expression} → Derives any_expression ts e → Leaner us ps
    → Leaner (FullExpression (expression_symbols e) ∷ us) (FullExpression ts ∷ ps)
full d l =
    let m = full_least d in
    record { short = λ h. (let x = h.0 in let y = m.bounded in omega (arith, x, y), l.short h.1); deep = both_deep m.deep l.deep }

both : {us ps vs qs : List Piece} → Leaner us ps → Leaner vs qs → Leaner (us ++ vs) (ps ++ qs)
both {us} {ps} {vs} {qs} l m = record {
  short = λ h. short_append 256 us vs (l.short (short_front 256 ps qs h)) (m.short (short_back 256 ps qs h));
  deep = subst (λ x. NoDeeper x (flat (ps ++ qs))) (sym (flat_append us vs))
      (subst (λ x. NoDeeper (flat us ++ flat vs) x) (sym (flat_append ps qs)) (both_deep l.deep m.deep));
}

nested : {us ps : List Piece} (a b : Symbol) → IsPair a b → Leaner us ps → Leaner (Single a ∷ (us ++ Single b ∷ []))
    (Single a ∷ (ps ++ Single b ∷ []))
nested {us} {ps} a b p l = record {
  short = λ h. short_append 256 us (Single b ∷ []) (l.short (short_front 256 ps (Single b ∷ []) h)) tt;
  deep = subst (λ x. NoDeeper (a ∷ x) (a ∷ flat (ps ++ Single b ∷ []))) (sym (flat_append us (Single b ∷ [])))
      (subst (λ x. NoDeeper (a ∷ (flat us ++ b ∷ [])) (a ∷ x)) (sym (flat_append ps (Single b ∷ []))) (nested_deep a b p l.deep));
}

-- a full expression in brackets, and what follows it
test : {us ps : List Piece} {ts : List Symbol} {e : Expression} → Derives any_expression ts e → Leaner us ps
    → Leaner (Single open_round ∷ FullExpression (expression_symbols e) ∷ Single close_round ∷ us)
    (Single open_round ∷ FullExpression ts ∷ Single close_round ∷ ps)
test d l = both (nested open_round close_round (record { opens = refl; stays = refl; ends = refl; closes = refl }) (full d no_piece)) l

index : {us ps : List Piece} {ts : List Symbol} {e : Expression} → Derives any_expression ts e → Leaner us ps
    → Leaner (Single open_square ∷ FullExpression (expression_symbols e) ∷ Single close_square ∷ us)
    (Single open_square ∷ FullExpression ts ∷ Single close_square ∷ ps)
index d l = both (nested open_square close_square (record { opens = refl; stays = refl; ends = refl; closes = refl }) (full d no_piece)) l

calls : {us ps : List Piece} → Leaner us ps → Leaner (Single open_round ∷ Single close_round ∷ us)
    (Single open_round ∷ Single close_round ∷ ps)
calls l = both (nested open_round close_round (record { opens = refl; stays = refl; ends = refl; closes = refl }) no_piece) l

braces : {us ps : List Piece} → Leaner us ps → Leaner (block_pieces us) (block_pieces ps)
braces l = nested open_brace close_brace (record { opens = refl; stays = refl; ends = refl; closes = refl }) l

-- a part that is present; the canonical text omits it if it is empty
in_part : (word : ℕ) (ss : Statements) {ps : List Piece} → Leaner (block_pieces (statements_pieces ss)) ps
    → Leaner (part_pieces word ss (statements_pieces ss)) (Single (symbols.Word word) ∷ ps)
in_part word Empty l = record {
  short = λ h. tt;
  deep = front_deep (symbols.Word word) (record { no_opening = refl; no_closing = refl })
      (unbracketed_deep open_brace close_brace (record { opens = refl; stays = refl; ends = refl; closes = refl }) none_lifts l.deep);
}
in_part word (Then s ss) l = plain (symbols.Word word) refl refl l

mutual
  pub leaner_statement : {ps : List Piece} {s : Statement} → DerivesStatement ps s → Leaner (statement_pieces s) ps
  leaner_statement (LetIs name d) = plain _ refl refl (plain _ refl refl (plain _ refl refl (full d (plain _ refl refl no_piece))))
  leaner_statement (AssignIs name d) = plain _ refl refl (plain _ refl refl (full d (plain _ refl refl no_piece)))
  leaner_statement (AssignElementIs name i d) = plain _ refl refl (index i (plain _ refl refl (full d (plain _ refl refl no_piece))))
  leaner_statement (EmitIs d) = plain _ refl refl (full d (plain _ refl refl no_piece))
  leaner_statement (IfIs d a b) = plain _ refl refl (test d (both (leaner_block a) (leaner_part b)))
  leaner_statement (WhileIs d a) = plain _ refl refl (test d (leaner_block a))
  leaner_statement (WaitIs d) = plain _ refl refl (test d (plain _ refl refl no_piece))
  leaner_statement WaitNextIs = plain _ refl refl (calls (plain _ refl refl no_piece))
  leaner_statement (ContinueIs d) = plain _ refl refl (test d (plain _ refl refl no_piece))
  leaner_statement ContinueNextIs = plain _ refl refl (calls (plain _ refl refl no_piece))

  pub leaner_statements : {ps : List Piece} {ss : Statements} → DerivesStatements ps ss → Leaner (statements_pieces ss) ps
  leaner_statements NoStatement = no_piece
  leaner_statements (OneMore d ds) = both (leaner_statement d) (leaner_statements ds)

  pub leaner_block : {ps : List Piece} {ss : Statements} → DerivesBlock ps ss → Leaner (block_pieces (statements_pieces ss)) ps
  leaner_block (BlockIs d) = braces (leaner_statements d)

  pub leaner_part : {word : ℕ} {ps : List Piece} {ss : Statements} → DerivesPart (symbols.Word word) ps ss
      → Leaner (part_pieces word ss (statements_pieces ss)) ps
  leaner_part NoPart = no_piece
  leaner_part {word} (PartIs {ss = ss} d) = in_part word ss (leaner_block d)

-- ---- programs

number_plain : (z : ℤ) → IsUnjoined (symbols.Number z)
number_plain z = record { no_opening = refl; no_closing = refl }

minus_plain : IsUnjoined minus
minus_plain = record { no_opening = refl; no_closing = refl }

leaner_size : {ps : List Piece} {size : Option ℤ} → DerivesSize ps size → Leaner (size_pieces size) ps
leaner_size NoSize = no_piece
leaner_size (SizeIs n) =
    nested open_square close_square (record { opens = refl; stays = refl; ends = refl; closes = refl })
    (plain (symbols.Number n) refl refl no_piece)

written_value : (z : ℤ) → Leaner (value_pieces z) (Single (symbols.Number z) ∷ [])
written_value (pos n) = plain _ refl refl no_piece
written_value (negsuc n) = record {
  short = λ h. tt;
  deep = more_deep minus minus_plain (plain_deep _ _ (number_plain (pos (suc n))) (number_plain (negsuc n)) none_deep);
}

written_negative : (n : ℕ) → Leaner (value_pieces (neg_ℤ (pos n))) (Single minus ∷ Single (symbols.Number (pos n)) ∷ [])
written_negative zero = record {
  short = λ h. tt;
  deep =
      front_deep minus minus_plain (plain_deep _ _ (number_plain (pos 0)) (number_plain (pos 0)) none_deep);
}
written_negative (suc n) = plain _ refl refl (plain _ refl refl no_piece)

leaner_value : {ps : List Piece} {value : ℤ} → DerivesValue ps value → Leaner (value_pieces value) ps
leaner_value (ValueIs n) = written_value n
leaner_value (NegativeValueIs n) = written_negative n

leaner_cells : {ps : List Piece} {ds : List Declaration} → DerivesCells ps ds → Leaner (cells_pieces ds) ps
leaner_cells NoCell = no_piece
leaner_cells (CellIs name s v c) =
    plain _ refl refl (plain _ refl refl (both (leaner_size s)
    (plain _ refl refl (both (leaner_value v) (plain _ refl refl (leaner_cells c))))))

limits_leaner : {us ps : List Piece} (iterations stages steps emits : ℤ) → Leaner us ps
    → Leaner (limits_before iterations stages steps emits us) (limits_before iterations stages steps emits ps)
limits_leaner iterations stages steps emits l =
    plain _ refl refl (plain _ refl refl (plain _ refl refl
    (plain _ refl refl (plain _ refl refl (plain _ refl refl (plain _ refl refl (plain _ refl refl
    (plain _ refl refl (plain _ refl refl (plain _ refl refl (plain _ refl refl (plain _ refl refl l))))))))))))

-- the canonical pieces of a program, compared with other pieces that derive it
pub leaner_program : {ps : List Piece} {tree : SyntaxTree} → DerivesProgram ps tree → Leaner (program_pieces tree) ps
leaner_program (ProgramIs iterations stages steps emits cells init test_is body last) =
    limits_leaner iterations stages steps emits
    (both (leaner_cells cells) (both (leaner_part init) (plain _ refl refl (test test_is (both (leaner_block body) (leaner_part last))))))
