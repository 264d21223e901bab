-- The names of declared cells, one declaration at a time, and the line of a race, part by part.
use Rattle.std.proofs.Common.{◌≡◌, ◌∙◌, ap, sym, ℕ, ◌+◌, ◌-◌, ◌<◌, List, ◌++◌, append_assoc, length, cond, ltb, get_or, drop, codes}
use Rattle.std.proofs.lemmas.List.{at_drop_more}
use Rattle.pipe_model.specs.declared.report.Report.{Report}
use Rattle.pipe_model.specs.declared.tree.Declaration.{Declaration}
use Rattle.pipe_model.specs.Language.Programs.{declared_size}
use Rattle.pipe_model.specs.Texts.{instance_text, kind_text, race_line}
use Rattle.race_report.specs.CellNames.{declared_name, element_name}

-- the name of a cell of declaration i, or of a later one
pub name_step : (ds : List Declaration) (i k : ℕ) (d : Declaration) → i < length ds → d ≡ get_or ds i d
    → declared_name (drop i ds) k ≡ cond (ltb k (declared_size d.size)) (element_name d k)
    (declared_name (drop (i + 1) ds) (k - declared_size d.size))
name_step ds i k d h e =
    at_drop_more (λ more. declared_name more k) ds i d h
    ∙ ap (λ (m : Declaration). cond (ltb k (declared_size m.size)) (element_name m k)
    (declared_name (drop (i + 1) ds) (k - declared_size m.size))) (sym e)

-- a text with the line of a race appended, from its parts
pub line_by_parts : (name : ℕ → List ℕ) (r : Report) (before start named once twice end : List ℕ) → start ≡ before ++ codes "race "
    → named ≡ start ++ name r.cell.0
    → once ≡ named ++ (codes " " ++ (kind_text r.earlier_kind ++ (codes " " ++ instance_text r.earlier r.earlier_number)))
    → twice ≡ once ++ (codes " " ++ (kind_text r.later_kind ++ (codes " " ++ instance_text r.later r.later_number)))
    → end ≡ twice ++ codes "\n" → end ≡ before ++ race_line name r
line_by_parts name r before start named once twice end a b c d e = rw (e, d, c, b, a) (simp append_assoc)
