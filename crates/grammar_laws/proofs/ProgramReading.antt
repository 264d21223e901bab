-- A reader of cells and programs finds what the whole grammar derives, and nothing else; so symbols derive at most one program.
use Rattle.std.proofs.Common.{◌≡◌, ◌≤◌, ℕ, ℤ, pos, List, [], ◌∷◌, ◌++◌, length, refl, sym, ap, ◌∙◌, append-nil, arith, subst, Option}
use Rattle.pipe_model.specs.declared.sign_bytes.TheConstants as signs
use Rattle.pipe_model.specs.declared.word_codes.TheConstants as words
use Rattle.pipe_model.specs.declared.symbol.Symbol.{Symbol}
use Rattle.pipe_model.specs.declared.symbol.Symbol.TheVariants as symbols
use Rattle.pipe_model.specs.declared.tree.Declaration.{Declaration}
use Rattle.pipe_model.specs.Language.SyntaxTree.{Statements, SyntaxTree}
use Rattle.pipe_model.specs.Language.Grammar.{Piece, Single, FullExpression, flat, DerivesPart, NoPart, PartIs, DerivesSize, NoSize, SizeIs}
use Rattle.pipe_model.specs.Language.Grammar.{DerivesValue, ValueIs, NegativeValueIs, DerivesCells, NoCell, CellIs, limits_before}
use Rattle.pipe_model.specs.Language.Grammar.{DerivesProgram, ProgramIs}
use Rattle.grammar_laws.specs.Reading.{ReadsFull, ReadsPart, ReadsSize, ReadsNoSize, ReadsSizeIs, ReadsValue, ReadsValueIs}
use Rattle.grammar_laws.specs.Reading.{ReadsNegativeValue, ReadsCell, ReadsCellIs, ReadsCells, ReadsNoCell, ReadsCellThen, ReadsProgram}
use Rattle.grammar_laws.specs.Reading.{ReadsAll, NoWord, NoSign}
use Rattle.pipe_model.specs.Language.Spelling.{AreShort}
use Rattle.pipe_model.specs.Language.Words.{word_cell, word_pipe_while, minus, open_round, close_round, semicolon, equals, open_square}
use Rattle.pipe_model.specs.Language.Words.{close_square}
use Rattle.grammar_laws.proofs.ExpressionReading.{SameReading}
use Rattle.grammar_laws.proofs.Pieces.{flat_append, flat_two, took_two, short_append, short_front, short_back, all_short}
use Rattle.grammar_laws.proofs.StatementReading.{TookPieces, sound_full, sound_block, sound_part, found_full, found_block, found_part}
use Rattle.grammar_laws.proofs.StatementReading.{one_full, one_block, one_part, moved_block, moved_part}

-- ---- what was read is derived

sound_size : {ts rest : List Symbol} {size : Option ℤ} (longest : ℕ) → ReadsSize ts size rest
    → TookPieces (λ ps. DerivesSize ps size) longest ts rest
sound_size longest (ReadsNoSize ts h) = record { taken = []; split = refl; derived = NoSize; short = tt }
sound_size longest (ReadsSizeIs n rest) = record {
  taken = Single open_square ∷ Single (symbols.Number n) ∷ Single close_square ∷ [];
  split = refl;
  derived = SizeIs n;
  short = tt;
}

sound_value : {ts rest : List Symbol} {value : ℤ} (longest : ℕ) → ReadsValue ts value rest
    → TookPieces (λ ps. DerivesValue ps value) longest ts rest
sound_value longest (ReadsValueIs n rest) = record { taken = Single (symbols.Number n) ∷ []; split = refl; derived = ValueIs n; short = tt }
sound_value longest (ReadsNegativeValue n rest) = record {
  taken = Single minus ∷ Single (symbols.Number (pos n)) ∷ [];
  split = refl;
  derived = NegativeValueIs n;
  short = tt;
}

-- the symbols of a declaration and of those after it
cell_split : (ps qs rs : List Piece) (ts us mid rest : List Symbol) → ts ≡ flat ps ++ equals ∷ us → us ≡ flat qs ++ semicolon ∷ mid
    → mid ≡ flat rs ++ rest
    → ts ≡ flat (ps ++ Single equals ∷ (qs ++ Single semicolon ∷ rs)) ++ rest
cell_split ps qs rs ts us mid rest h i j =
    took_two ps (Single equals ∷ (qs ++ Single semicolon ∷ rs)) ts (equals ∷ us) rest h
    (ap (λ x. equals ∷ x) (took_two qs (Single semicolon ∷ rs) us (semicolon ∷ mid) rest i (ap (λ x. semicolon ∷ x) j)))

took_cell : {longest : ℕ} {d : Declaration} {ds : List Declaration} {ts mid rest : List Symbol} → ReadsCell ts d mid
    → TookPieces (λ ps. DerivesCells ps ds) longest mid rest → TookPieces (λ ps. DerivesCells ps (d ∷ ds)) longest (word_cell ∷ ts) rest
took_cell {longest} {mid = mid} {rest = rest} (ReadsCellIs {ts} {us} name s v) w =
    let t = sound_size longest s in
    let u = sound_value longest v in
    record {
      taken = Single word_cell ∷ Single (symbols.Name name) ∷ (t.taken ++ Single equals ∷ (u.taken ++ Single semicolon ∷ w.taken));
      split = ap (λ x. word_cell ∷ symbols.Name name ∷ x) (cell_split t.taken u.taken w.taken ts us mid rest t.split u.split w.split);
      derived = CellIs name t.derived u.derived w.derived;
      short =
          short_append longest t.taken (Single equals ∷ (u.taken ++ Single semicolon ∷ w.taken)) t.short
          (short_append longest u.taken (Single semicolon ∷ w.taken) u.short w.short);
    }

-- declarations that were read are derived
pub sound_cells : {ts rest : List Symbol} {ds : List Declaration} (longest : ℕ) → ReadsCells ts ds rest
    → TookPieces (λ ps. DerivesCells ps ds) longest ts rest
sound_cells longest (ReadsNoCell ts h) = record { taken = []; split = refl; derived = NoCell; short = tt }
sound_cells longest (ReadsCellThen r rs) = took_cell r (sound_cells longest rs)

-- the pieces of a program after its limits
abbrev after_limits : (cs is : List Piece) (ts : List Symbol) (bs ls : List Piece) → List Piece
after_limits cs is ts bs ls = cs ++ (is ++ Single word_pipe_while ∷ Single open_round ∷ FullExpression ts ∷ Single close_round ∷ (bs ++ ls))

loop_split : (ts us vs taken : List Symbol) (bs ls : List Piece) → ts ≡ taken ++ close_round ∷ us → us ≡ flat bs ++ vs → vs ≡ flat ls ++ []
    → ts ≡ taken ++ close_round ∷ flat (bs ++ ls)
loop_split ts us vs taken bs ls h i j =
    h ∙ ap (λ x. taken ++ close_round ∷ x) (i ∙ ap (λ x. flat bs ++ x) (j ∙ append-nil (flat ls)) ∙ sym (flat_append bs ls))

program_split : (cs is bs ls : List Piece) (xs ys ts us vs taken : List Symbol) → xs ≡ flat cs ++ ys
    → ys ≡ flat is ++ word_pipe_while ∷ open_round ∷ ts → ts ≡ taken ++ close_round ∷ us → us ≡ flat bs ++ vs → vs ≡ flat ls ++ []
    → xs ≡ flat (after_limits cs is taken bs ls)
program_split cs is bs ls xs ys ts us vs taken h i j k l =
    h ∙ ap (λ x. flat cs ++ x) (i ∙ ap (λ x. flat is ++ word_pipe_while ∷ open_round ∷ x) (loop_split ts us vs taken bs ls j k l)
    ∙ sym (flat_append is (Single word_pipe_while ∷ Single open_round ∷ FullExpression taken ∷ Single close_round ∷ (bs ++ ls))))
    ∙ sym (flat_append cs (is ++ Single word_pipe_while ∷ Single open_round ∷ FullExpression taken ∷ Single close_round ∷ (bs ++ ls)))

-- the pieces of a program that was read
pub record TookProgram (longest : ℕ) (ts : List Symbol) (p : SyntaxTree) : Type 0 where
  pub taken : List Piece
  pub split : ts ≡ flat taken
  pub derived : DerivesProgram taken p
  pub short : AreShort longest taken

-- a program that was read is derived
pub sound_program : {longest : ℕ} {ts : List Symbol} {p : SyntaxTree} → ReadsProgram longest ts p → TookProgram longest ts p
sound_program {longest} (ReadsAll {cs = xs} {is = ys} {ts = ts} {us = us} {vs = vs} iterations stages steps emits c i e b l) =
    let c = sound_cells longest c in
    let i = sound_part i in
    let e = sound_full e in
    let b = sound_block b in
    let l = sound_part l in
    record {
      taken = limits_before iterations stages steps emits (after_limits c.taken i.taken e.taken b.taken l.taken);
      split =
          ap (λ x. flat (limits_before iterations stages steps emits []) ++ x)
          (program_split c.taken i.taken b.taken l.taken xs ys ts us vs e.taken c.split i.split e.split b.split l.split);
      derived = ProgramIs iterations stages steps emits c.derived i.derived e.derived b.derived l.derived;
      short =
          short_append longest c.taken
          (i.taken ++ Single word_pipe_while ∷ Single open_round ∷ FullExpression e.taken ∷ Single close_round ∷ (b.taken ++ l.taken))
          c.short
          (short_append longest i.taken
          (Single word_pipe_while ∷ Single open_round ∷ FullExpression e.taken ∷ Single close_round ∷ (b.taken ++ l.taken)) i.short
          (e.short, short_append longest b.taken l.taken b.short l.short));
    }

-- ---- what is derived is read

found_size : {ps : List Piece} {size : Option ℤ} → DerivesSize ps size → (rest : List Symbol) → NoSign signs.OPEN_SQUARE rest
    → ReadsSize (flat ps ++ rest) size rest
found_size NoSize rest h = ReadsNoSize rest h
found_size (SizeIs n) rest h = ReadsSizeIs n rest

found_value : {ps : List Piece} {value : ℤ} → DerivesValue ps value → (rest : List Symbol) → ReadsValue (flat ps ++ rest) value rest
found_value (ValueIs n) rest = ReadsValueIs n rest
found_value (NegativeValueIs n) rest = ReadsNegativeValue n rest

moved_size : {a b rest : List Symbol} {size : Option ℤ} → a ≡ b → ReadsSize b size rest → ReadsSize a size rest
moved_size {rest = rest} {size = size} h r = subst (λ x. ReadsSize x size rest) (sym h) r

moved_value : {a b rest : List Symbol} {value : ℤ} → a ≡ b → ReadsValue b value rest → ReadsValue a value rest
moved_value {rest = rest} {value = value} h r = subst (λ x. ReadsValue x value rest) (sym h) r

moved_cells : {a b rest : List Symbol} {ds : List Declaration} → a ≡ b → ReadsCells b ds rest → ReadsCells a ds rest
moved_cells {rest = rest} {ds = ds} h r = subst (λ x. ReadsCells x ds rest) (sym h) r

-- declarations that are derived are read if what follows begins no declaration
pub found_cells : {ps : List Piece} {ds : List Declaration} → DerivesCells ps ds → (rest : List Symbol) → NoWord 6 rest
    → ReadsCells (flat ps ++ rest) ds rest
found_cells NoCell rest h = ReadsNoCell rest h
found_cells (CellIs {ps} {qs} {rs} name s v ds) rest h =
    let mid = flat rs ++ rest in
    let us = flat (qs ++ Single semicolon ∷ rs) ++ rest in
    ReadsCellThen (ReadsCellIs name (moved_size (flat_two ps (Single equals ∷ (qs ++ Single semicolon ∷ rs)) rest)
    (found_size s (equals ∷ us) (λ x. absurd (omega (arith, x)))))
    (moved_value (flat_two qs (Single semicolon ∷ rs) rest) (found_value v (semicolon ∷ mid))))
    (found_cells ds rest h)

-- neither `init` nor the loop begins a declaration
begins_no_cell : {ps : List Piece} {ss : Statements} → DerivesPart (symbols.Word words.INIT) ps ss → (rest : List Symbol)
    → NoWord 6 (flat ps ++ word_pipe_while ∷ rest)
begins_no_cell NoPart rest = λ x. absurd (omega (arith, x))
begins_no_cell (PartIs b) rest = λ x. absurd (omega (arith, x))

-- the symbols of a loop
abbrev loop_symbols : List Symbol → (bs ls : List Piece) → List Symbol
loop_symbols ts bs ls = ts ++ close_round ∷ (flat bs ++ flat ls)

moved_program : {longest : ℕ} {a b : List Symbol} {p : SyntaxTree} → a ≡ b → ReadsProgram longest b p → ReadsProgram longest a p
moved_program {longest} {p = p} h r = subst (λ x. ReadsProgram longest x p) (sym h) r

part_at_end : {longest word : ℕ} {ss : Statements} (ps : List Piece) → ReadsPart longest word (flat ps ++ []) ss []
    → ReadsPart longest word (flat ps) ss []
part_at_end {longest} {word} {ss} ps r = subst (λ x. ReadsPart longest word x ss []) (append-nil (flat ps)) r

after_limits_flat : (cs is : List Piece) (ts : List Symbol) (bs ls : List Piece)
    → flat (after_limits cs is ts bs ls) ≡ flat cs ++ (flat is ++ word_pipe_while ∷ open_round ∷ loop_symbols ts bs ls)
after_limits_flat cs is ts bs ls =
    flat_append cs (is ++ Single word_pipe_while ∷ Single open_round ∷ FullExpression ts ∷ Single close_round ∷ (bs ++ ls))
    ∙ ap (λ x. flat cs ++ x) (flat_append is (Single word_pipe_while ∷ Single open_round ∷ FullExpression ts ∷ Single
    close_round ∷ (bs ++ ls)))
    ∙ ap (λ x. flat cs ++ (flat is ++ word_pipe_while ∷ open_round ∷ (ts ++ close_round ∷ x))) (flat_append bs ls)

-- a program that is derived is read
pub found_program : {longest : ℕ} {ps : List Piece} {p : SyntaxTree} → DerivesProgram ps p → AreShort longest ps
    → ReadsProgram longest (flat ps) p
found_program {longest} (ProgramIs {cs} {is} {bs} {ls} {ts} iterations stages steps emits c i e b l) a =
    let loop = Single word_pipe_while ∷ Single open_round ∷ FullExpression ts ∷ Single close_round ∷ (bs ++ ls) in
    let following = short_back longest is loop (short_back longest cs (is ++ loop) a) in
    moved_program (ap (λ x. flat (limits_before iterations stages steps emits []) ++ x) (after_limits_flat cs is ts bs ls))
    (ReadsAll iterations stages steps emits
    (found_cells c (flat is ++ word_pipe_while ∷ open_round ∷ loop_symbols ts bs ls)
    (begins_no_cell i (open_round ∷ loop_symbols ts bs ls)))
    (found_part i (short_front longest is loop (short_back longest cs (is ++ loop) a))
    (word_pipe_while ∷ open_round ∷ loop_symbols ts bs ls)
    (λ x. absurd (omega (arith, x))))
    (found_full signs.CLOSE_ROUND (flat bs ++ flat ls) (λ x. absurd (omega (arith, x))) e following.0)
    (found_block b (short_front longest bs ls following.1) (flat ls))
    (part_at_end ls (found_part l (short_back longest bs ls following.1) [] tt)))

-- ---- two readings of the same symbols are one

one_size : {ts rest rest' : List Symbol} {s s' : Option ℤ} → ReadsSize ts s rest → ReadsSize ts s' rest'
    → SameReading (Option ℤ) s s' rest rest'
one_size (ReadsNoSize ts h) (ReadsNoSize ts' h') = record { tree = refl; left = refl }
one_size (ReadsNoSize ts h) (ReadsSizeIs n rest) = absurd (h refl)
one_size (ReadsSizeIs n rest) (ReadsNoSize ts h) = absurd (h refl)
one_size (ReadsSizeIs n rest) (ReadsSizeIs n' rest') = record { tree = refl; left = refl }

one_value : {ts rest rest' : List Symbol} {v v' : ℤ} → ReadsValue ts v rest → ReadsValue ts v' rest' → SameReading ℤ v v' rest rest'
one_value (ReadsValueIs n rest) (ReadsValueIs n' rest') = record { tree = refl; left = refl }
one_value (ReadsNegativeValue n rest) (ReadsNegativeValue n' rest') = record { tree = refl; left = refl }

same_after : {ts us : List Symbol} (t : Symbol) → t ∷ ts ≡ t ∷ us → ts ≡ us
same_after t h = cc (h)

one_cell : {ts rest rest' : List Symbol} {d d' : Declaration} → ReadsCell ts d rest → ReadsCell ts d' rest'
    → SameReading Declaration d d' rest rest'
one_cell (ReadsCellIs name s v) (ReadsCellIs name' s' v') =
    let p = one_size s s' in
    let q = one_value v (moved_value (same_after equals p.left) v') in
    let i = p.tree in
    let j = q.tree in
    record { tree = cc (i, j); left = same_after semicolon q.left }

-- declarations are read in one way
pub one_cells : {ts rest rest' : List Symbol} {ds ds' : List Declaration} → ReadsCells ts ds rest → ReadsCells ts ds' rest'
    → SameReading (List Declaration) ds ds' rest rest'
one_cells (ReadsNoCell ts h) (ReadsNoCell ts' h') = record { tree = refl; left = refl }
one_cells (ReadsNoCell ts h) (ReadsCellThen r rs) = absurd (h refl)
one_cells (ReadsCellThen r rs) (ReadsNoCell ts h) = absurd (h refl)
one_cells (ReadsCellThen r rs) (ReadsCellThen r' rs') =
    let p = one_cell r r' in
    let q = one_cells rs (moved_cells p.left rs') in
    let i = p.tree in
    let j = q.tree in
    record { tree = cc (i, j); left = q.left }

-- the symbols after the word and the bracket of the loop
same_test : {ts us : List Symbol} → word_pipe_while ∷ open_round ∷ ts ≡ word_pipe_while ∷ open_round ∷ us → ts ≡ us
same_test h = cc (h)

-- a program is read in one way
pub one_read_program : {longest : ℕ} {ts : List Symbol} {p q : SyntaxTree} → ReadsProgram longest ts p → ReadsProgram longest ts q → p ≡ q
one_read_program {longest} (ReadsAll {is = is} {ts = ts} {us = us} {vs = vs} iterations stages steps emits c i e b l)
    (ReadsAll {ts = ts'} {us = us'} {test = test'} iterations' stages' steps' emits' c' i' e' b' l') =
    let o = one_cells c c' in
    let p = one_part i (moved_part o.left i') refl in
    let q = one_full e (subst (λ x. ReadsFull longest x test' (close_round ∷ us')) (sym (same_test p.left)) e') in
    let r = one_block b (moved_block (same_after close_round q.left) b') in
    let s = one_part l (moved_part r.left l') refl in
    let m = o.tree in
    let n = p.tree in
    let t = q.tree in
    let u = r.tree in
    let v = s.tree in
    cc (m, n, t, u, v)

-- symbols derive at most one program
pub one_program : (ps qs : List Piece) (p q : SyntaxTree) → DerivesProgram ps p → DerivesProgram qs q → flat ps ≡ flat qs → p ≡ q
one_program ps qs p q d d' h =
    let many : length (flat qs) ≤ length (flat ps) = omega (arith, ap length h) in
    one_read_program (found_program d (all_short (length (flat ps)) ps (omega arith)))
    (moved_program h (found_program d' (all_short (length (flat ps)) qs many)))
