-- Names for the symbols of the grammar.
use Rattle.pipe_model.specs.declared.symbol.Symbol.{Symbol}
use Rattle.pipe_model.specs.declared.operator_codes.TheConstants as operator_codes
use Rattle.pipe_model.specs.declared.sign_bytes.TheConstants as signs
use Rattle.pipe_model.specs.declared.word_codes.TheConstants as words
use Rattle.pipe_model.specs.declared.symbol.Symbol.TheVariants.{Word, Operator, Sign}

-- the reserved words
abbrev pub word_limits : Symbol
word_limits = Word words.LIMITS

abbrev pub word_iterations : Symbol
word_iterations = Word words.ITERATIONS

abbrev pub word_stages : Symbol
word_stages = Word words.STAGES

abbrev pub word_steps : Symbol
word_steps = Word words.STEPS

abbrev pub word_emits : Symbol
word_emits = Word words.EMITS

abbrev pub word_cell : Symbol
word_cell = Word words.CELL

abbrev pub word_init : Symbol
word_init = Word words.INIT

abbrev pub word_pipe_while : Symbol
word_pipe_while = Word words.PIPE_WHILE

abbrev pub word_pipe_wait : Symbol
word_pipe_wait = Word words.PIPE_WAIT

abbrev pub word_pipe_continue : Symbol
word_pipe_continue = Word words.PIPE_CONTINUE

abbrev pub word_final : Symbol
word_final = Word words.FINAL

abbrev pub word_let : Symbol
word_let = Word words.LET

abbrev pub word_if : Symbol
word_if = Word words.IF

abbrev pub word_else : Symbol
word_else = Word words.ELSE

abbrev pub word_while : Symbol
word_while = Word words.WHILE

abbrev pub word_emit : Symbol
word_emit = Word words.EMIT

abbrev pub word_more : Symbol
word_more = Word words.MORE

abbrev pub word_take : Symbol
word_take = Word words.TAKE

abbrev pub word_iter : Symbol
word_iter = Word words.ITER

-- `-`
abbrev pub minus : Symbol
minus = Operator operator_codes.MINUS

-- the signs `!` `(` `)` `,` `;` `=` `[` `]` `{` `}`
abbrev pub exclamation : Symbol
exclamation = Sign signs.EXCLAMATION

abbrev pub open_round : Symbol
open_round = Sign signs.OPEN_ROUND

abbrev pub close_round : Symbol
close_round = Sign signs.CLOSE_ROUND

abbrev pub comma : Symbol
comma = Sign signs.COMMA

abbrev pub semicolon : Symbol
semicolon = Sign signs.SEMICOLON

abbrev pub equals : Symbol
equals = Sign signs.EQUALS

abbrev pub open_square : Symbol
open_square = Sign signs.OPEN_SQUARE

abbrev pub close_square : Symbol
close_square = Sign signs.CLOSE_SQUARE

abbrev pub open_brace : Symbol
open_brace = Sign signs.OPEN_BRACE

abbrev pub close_brace : Symbol
close_brace = Sign signs.CLOSE_BRACE
