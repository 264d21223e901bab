-- A program is refused as a wave loop with at most one line, and only if it is none.
use Rattle.std.proofs.Common.{◌≡◌, ◌∙◌, ℕ, pos, List, slice_get, Option, Some, None, ap, refl, sym, subst}
use Rattle.pipe_model.specs.Language.MarkPlaces.{mark_places}
use Rattle.pipe_model.specs.Language.SyntaxTree.{SyntaxTree}
use Rattle.pipe_model.specs.Texts.{numbered_line}
use Rattle.std.specs.Prelude.{codes}
use Rattle.grammar_laws.proofs.SourceRefusals.{one_lexed}
use Rattle.wave_laws.specs.Waves.WaveFaults.{WaveRefusal, wave_fault}
use Rattle.command_results.proofs.OneContent.{one_held}
use Rattle.command_results.specs.WaveRefusals.{IsMarkAt, IsRefusedWave, IsWaveLine, OfRow, OfRowSet, OfStage, OfTest}

-- a mark has one offset in a source
one_place : {source : List ℕ} {tree other_tree : SyntaxTree} {mark number : ℕ} (place other : ℕ) → mark ≡ number
    → IsMarkAt source tree mark place
    → IsMarkAt source other_tree number other → place ≡ other
one_place {source} {mark = mark} {number = number} place other m h g =
    let tokens = one_lexed source h.spelled.tokens g.spelled.tokens h.spelled.lexed g.spelled.lexed in
    let e : Some (pos place) ≡ Some (pos other) =
    sym h.found ∙ ap (λ ts. slice_get (mark_places ts) mark) tokens ∙ ap (slice_get (mark_places g.spelled.tokens)) m ∙ g.found in
    cc (e)

-- a fault has one line
one_line : {source : List ℕ} {tree other_tree : SyntaxTree} {fault other : WaveRefusal} {line text : List ℕ} → fault ≡ other
    → IsWaveLine source tree fault line → IsWaveLine source other_tree other text → line ≡ text
one_line e OfTest OfTest = refl
one_line e OfTest OfRow = absurd (cc (e))
one_line e OfTest (OfStage m p h) = absurd (cc (e))
one_line e OfTest (OfRowSet m p h) = absurd (cc (e))
one_line e OfRow OfTest = absurd (cc (e))
one_line e OfRow OfRow = refl
one_line e OfRow (OfStage m p h) = absurd (cc (e))
one_line e OfRow (OfRowSet m p h) = absurd (cc (e))
one_line e (OfStage m p h) OfTest = absurd (cc (e))
one_line e (OfStage m p h) OfRow = absurd (cc (e))
one_line e (OfStage m p h) (OfStage n q g) =
    let same : m ≡ n = cc (e) in ap (numbered_line (codes "refused wave HasStage at ")) (one_place p q same h g)
one_line e (OfStage m p h) (OfRowSet n q g) = absurd (cc (e))
one_line e (OfRowSet m p h) OfTest = absurd (cc (e))
one_line e (OfRowSet m p h) OfRow = absurd (cc (e))
one_line e (OfRowSet m p h) (OfStage n q g) = absurd (cc (e))
one_line e (OfRowSet m p h) (OfRowSet n q g) =
    let same : m ≡ n = cc (e) in ap (numbered_line (codes "refused wave RowSet at ")) (one_place p q same h g)

-- a program has at most one line of refusal as a wave loop
pub one_wave_refusal : {file : Option (List ℕ)} (tree other : SyntaxTree) {line text : List ℕ} → tree ≡ other → IsRefusedWave file tree line
    → IsRefusedWave file other text → line ≡ text
one_wave_refusal {file} tree other {line} {text} same h g =
    let bytes : g.bytes ≡ h.bytes = one_held file g.bytes h.bytes g.held h.held in
    let e : Some h.fault ≡ Some g.fault = sym h.faulty ∙ ap wave_fault same ∙ g.faulty in
    let faults : h.fault ≡ g.fault = cc (e) in
    one_line faults h.line_is (subst (λ b. IsWaveLine b other g.fault text) bytes g.line_is)

-- a wave loop is not refused
pub refused_no_wave : {file : Option (List ℕ)} (tree other : SyntaxTree) {line : List ℕ} → tree ≡ other → wave_fault other ≡ None
    → IsRefusedWave file tree line → ⊥
refused_no_wave tree other same none h = let e : Some h.fault ≡ None = sym h.faulty ∙ ap wave_fault same ∙ none in cc (e)
