-- Marks; none is the word of a stage statement.
use Rattle.std.proofs.Common.{◌≡◌, false, List, [], ◌∷◌, ◌++◌, map}
use Rattle.pipe_model.specs.Language.Marks.{Mark}
use Rattle.wave_laws.specs.Waves.WaveFaults.{is_stage_word}
use Rattle.wave_laws.proofs.Flags.{AreFalse}

abbrev pub NoneIsStage : List Mark → Type 0
NoneIsStage [] = Unit {0}
NoneIsStage (m ∷ ms) = (is_stage_word m.occurrence ≡ false) × NoneIsStage ms

pub none_is_stage : (ms : List Mark) → AreFalse (map (λ (m : Mark). is_stage_word m.occurrence) ms) → NoneIsStage ms
none_is_stage [] h = tt
none_is_stage (m ∷ ms) h = (h.0, none_is_stage ms h.1)

pub false_for_stages : (ms : List Mark) → NoneIsStage ms → AreFalse (map (λ (m : Mark). is_stage_word m.occurrence) ms)
false_for_stages [] h = tt
false_for_stages (m ∷ ms) h = (h.0, false_for_stages ms h.1)

pub stage_left : (xs ys : List Mark) → NoneIsStage (xs ++ ys) → NoneIsStage xs
stage_left [] ys h = tt
stage_left (x ∷ xs) ys h = (h.0, stage_left xs ys h.1)

pub stage_right : (xs ys : List Mark) → NoneIsStage (xs ++ ys) → NoneIsStage ys
stage_right [] ys h = h
stage_right (x ∷ xs) ys h = stage_right xs ys h.1

pub stage_both : (xs ys : List Mark) → NoneIsStage xs → NoneIsStage ys → NoneIsStage (xs ++ ys)
stage_both [] ys h k = k
stage_both (x ∷ xs) ys h k = (h.0, stage_both xs ys h.1 k)
