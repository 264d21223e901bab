-- Comparisons with the kept accesses, one after the other.
use Rattle.std.proofs.Common.{◌≡◌, ◌∙◌, ap, ap₂, sym, refl, ℕ, Option, Some, None, Bool, true, false, cond}
use Rattle.pipe_model.specs.declared.access.AccessKind.{AccessKind}
use Rattle.pipe_model.specs.declared.access.AccessKind.TheVariants.{Read}
use Rattle.pipe_model.specs.declared.node.NodeId.{NodeId}
use Rattle.pipe_model.specs.Orders.AccessHistory.{AccessHistory, is_ordered, later, race_with, updated_history}
use Rattle.pipe_model.specs.Races.CellRaces.{NotedAccess, noted_access}

clean_by : (e : NotedAccess) (rest : Option NotedAccess) (t : Bool) → None ≡ cond t None (Some e) → cond t rest (Some e) ≡ rest
clean_by e rest true h = refl
clean_by e rest false h = absurd (let q : None ≡ Some e = h in cc)

-- if a kept access does not race, the next ones decide
pub no_race_with : (down right : NodeId → ℕ) (x : NodeId) (kind : AccessKind) (kept : Option NodeId) (rest : Option NotedAccess)
    → None ≡ race_with down right x kind kept None → race_with down right x kind kept rest ≡ rest
no_race_with down right x kind None rest h = refl
no_race_with down right x kind (Some y) rest h = clean_by (noted_access y kind) rest (is_ordered down right y x) h

pub kept_by_read : (down right : NodeId → ℕ) (kept : AccessHistory) (x : NodeId) (kind : AccessKind) (p q : NodeId)
    → kind ≡ Read → p ≡ later down kept.rightmost x → q ≡ later right kept.downmost x
    → record kept { rightmost = Some p; downmost = Some q } ≡ updated_history down right kept x kind
kept_by_read down right kept x kind p q read first second =
    ap₂ (λ a b. record kept { rightmost = Some a; downmost = Some b }) first second
    ∙ ap (updated_history down right kept x) (sym read)
