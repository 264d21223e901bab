-- The first line of a text.
use Rattle.std.proofs.Common.{◌≡◌, ◌≢◌, ap, refl, arith, ℕ, ◌<◌, List, [], ◌∷◌, ◌++◌, false, length}
use Rattle.std.specs.Prelude.{◌==◌}
use Rattle.record_parser.specs.ByteDivisions.{IsFreeOf}
use Rattle.record_parser.specs.RecordLines.{line_feed, lines_of, onto_first}
use Rattle.record_parser.proofs.Divisions.{free_head, free_tail}

other_byte : (b : ℕ) → b ≢ line_feed → (b == line_feed) ≡ false
other_byte b apart = grind (arith, apart)

-- a line with its line feed
pub line_then : (line following : List ℕ) → IsFreeOf line_feed line → lines_of (line ++ line_feed ∷ following) ≡ line ∷ lines_of following
line_then [] following f = refl
line_then (b ∷ bs) following f =
    rw (other_byte b (free_head line_feed b bs f)) (ap (onto_first b) (line_then bs following (free_tail line_feed b bs f)))

-- a last line without its line feed
pub last_line : (b : ℕ) (bs : List ℕ) → IsFreeOf line_feed (b ∷ bs) → lines_of (b ∷ bs) ≡ (b ∷ bs) ∷ []
last_line b [] f = rw (other_byte b (free_head line_feed b [] f)) refl
last_line b (d ∷ ds) f =
    rw (other_byte b (free_head line_feed b (d ∷ ds) f)) (ap (onto_first b) (last_line d ds (free_tail line_feed b (d ∷ ds) f)))

pub only_line : (text : List ℕ) → 0 < length text → IsFreeOf line_feed text → lines_of text ≡ text ∷ []
only_line [] some f = absurd (omega (arith, some))
only_line (b ∷ bs) some f = last_line b bs f
