-- Pieces in order: their symbols, and the lengths of their full expressions.
use Rattle.std.proofs.Common.{◌≡◌, ℕ, ◌≤◌, ◌+◌, List, [], ◌∷◌, ◌++◌, length, refl, sym, ap, ◌∙◌, append_assoc, length-append, arith}
use Rattle.pipe_model.specs.declared.symbol.Symbol.{Symbol}
use Rattle.pipe_model.specs.Language.Grammar.{Piece, Single, FullExpression, flat}
use Rattle.pipe_model.specs.Language.Spelling.{AreShort}

pub flat_append : (ps qs : List Piece) → flat (ps ++ qs) ≡ flat ps ++ flat qs
flat_append [] qs = refl
flat_append (Single t ∷ ps) qs = ap (λ x. t ∷ x) (flat_append ps qs)
flat_append (FullExpression ts ∷ ps) qs = ap (λ x. ts ++ x) (flat_append ps qs) ∙ sym (append_assoc ts (flat ps) (flat qs))

-- two lists of pieces, followed by symbols
pub flat_two : (ps qs : List Piece) (rest : List Symbol) → flat (ps ++ qs) ++ rest ≡ flat ps ++ (flat qs ++ rest)
flat_two ps qs rest = ap (λ x. x ++ rest) (flat_append ps qs) ∙ append_assoc (flat ps) (flat qs) rest

pub took_two : (ps qs : List Piece) (ts mid rest : List Symbol) → ts ≡ flat ps ++ mid → mid ≡ flat qs ++ rest → ts ≡ flat (ps ++ qs) ++ rest
took_two ps qs ts mid rest h i = h ∙ ap (λ x. flat ps ++ x) i ∙ sym (flat_two ps qs rest)

pub short_append : (longest : ℕ) (ps qs : List Piece) → AreShort longest ps → AreShort longest qs → AreShort longest (ps ++ qs)
short_append longest [] qs a b = b
short_append longest (Single t ∷ ps) qs a b = short_append longest ps qs a b
short_append longest (FullExpression ts ∷ ps) qs a b = (a.0, short_append longest ps qs a.1 b)

pub short_front : (longest : ℕ) (ps qs : List Piece) → AreShort longest (ps ++ qs) → AreShort longest ps
short_front longest [] qs a = tt
short_front longest (Single t ∷ ps) qs a = short_front longest ps qs a
short_front longest (FullExpression ts ∷ ps) qs a = (a.0, short_front longest ps qs a.1)

pub short_back : (longest : ℕ) (ps qs : List Piece) → AreShort longest (ps ++ qs) → AreShort longest qs
short_back longest [] qs a = a
short_back longest (Single t ∷ ps) qs a = short_back longest ps qs a
short_back longest (FullExpression ts ∷ ps) qs a = short_back longest ps qs a.1

-- no full expression is longer than all symbols
pub all_short : (longest : ℕ) (ps : List Piece) → length (flat ps) ≤ longest → AreShort longest ps
all_short longest [] h = tt
all_short longest (Single t ∷ ps) h = all_short longest ps (omega (arith, h))
all_short longest (FullExpression ts ∷ ps) h =
    let many : length (ts ++ flat ps) ≡ length ts + length (flat ps) = length-append ts (flat ps) in
    (omega (arith, h, many), all_short longest ps (omega (arith, h, many)))
