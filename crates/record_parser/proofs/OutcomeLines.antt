-- The line of a race or a trap is its word and its parts.
use Rattle.std.proofs.Common.{◌≡◌, ◌∙◌, ap, sym, refl, ℕ, ℤ, List, [], ◌∷◌, ◌++◌, FitsSigned}
use Rattle.std.specs.Prelude.{codes}
use Rattle.std.specs.Fmt.{decimal, signed_decimal}
use Rattle.std.proofs.lemmas.List.{append_cancel_right}
use mathlib.Core.List.{append_assoc}
use mir.Syntax.{w64}
use Rattle.pipe_model.specs.declared.report.Report.{Report}
use Rattle.pipe_model.specs.declared.trap.TrapPlace.{TrapPlace}
use Rattle.pipe_model.specs.declared.trap.TrapPlace.TheVariants as places
use Rattle.pipe_model.specs.declared.tree.Declaration.{Declaration}
use Rattle.pipe_model.specs.Texts.{instance_text, kind_text, race_line, trap_name, trap_place}
use Rattle.race_report.specs.CellNames.{cell_name}
use Rattle.record_parser.specs.LogForms.{space}
use Rattle.record_parser.specs.OutcomeForms.{AtInstance, InFinal, InInit, IsInstanceText, IsOutcomeTrapText, IsPlaceText, IsRaceText}
use Rattle.record_parser.specs.OutcomeForms.{IsWordedOutcome, RaceLine, TrapLine, slash}
use Rattle.record_parser.specs.RecordLines.{IsIteration, IsOutcomeLine, IsOutput, IsPlaceInRanges, IsRace, IsTrap, line_feed}

cut : (a b c : List ℕ) → (a ++ space ∷ b) ++ c ≡ a ++ space ∷ (b ++ c)
cut a b c = append_assoc a (space ∷ b) c

-- ---- races

race_text : (name kind instance kind' instance' : List ℕ)
    → (codes "race" ++ space ∷ ((((name ++ space ∷ kind) ++ space ∷ instance) ++ space ∷ kind') ++ space ∷ instance')) ++ line_feed ∷ []
    ≡ codes "race " ++ (name ++ (codes " " ++ (kind ++ (codes " "
    ++ (instance ++ (codes " " ++ (kind' ++ (codes " " ++ (instance' ++ codes "\n")))))))))
race_text name kind instance kind' instance' =
    let last = instance' ++ line_feed ∷ [] in
    let three = kind' ++ space ∷ last in
    let two = instance ++ space ∷ three in
    cut (codes "race") ((((name ++ space ∷ kind) ++ space ∷ instance) ++ space ∷ kind') ++ space ∷ instance') (line_feed ∷ [])
    ∙ ap (λ r. codes "race" ++ space ∷ r)
    (cut (((name ++ space ∷ kind) ++ space ∷ instance) ++ space ∷ kind') instance' (line_feed ∷ [])
    ∙ cut ((name ++ space ∷ kind) ++ space ∷ instance) kind' (space ∷ last)
    ∙ cut (name ++ space ∷ kind) instance (space ∷ three)
    ∙ cut name kind (space ∷ two))

-- the race that the parts of a line say; the index of an instance is not in the line
race_of_parts : (cells : List Declaration) (line text : List ℕ) (h : IsRaceText cells text) → line ≡ codes "race" ++ space ∷ text
    → IsOutcomeLine cells line
race_of_parts cells line text h e = IsRace (record {
  cell = record { 0 = h.cell };
  earlier = record { iteration = h.earlier.is_instance.iteration; index = 0 };
  earlier_number = h.earlier.is_instance.number;
  earlier_kind = h.earlier.kind;
  later = record { iteration = h.later.is_instance.iteration; index = 0 };
  later_number = h.later.is_instance.number;
  later_kind = h.later.kind;
}) (record {
  cell = h.within;
  earlier = (h.earlier.is_instance.within, h.earlier.is_instance.fits);
  later = (h.later.is_instance.within, h.later.is_instance.fits);
}) (ap (λ l. l ++ line_feed ∷ []) (e ∙ ap (λ t. codes "race" ++ space ∷ t) whole) ∙ race_text name (kind_text h.earlier.kind) first
    (kind_text h.later.kind) second)
  where
    name : List ℕ
    name = cell_name cells h.cell

    first : List ℕ
    first = decimal h.earlier.is_instance.iteration ++ slash ∷ signed_decimal h.earlier.is_instance.number

    second : List ℕ
    second = decimal h.later.is_instance.iteration ++ slash ∷ signed_decimal h.later.is_instance.number

    whole : text ≡ (((name ++ space ∷ kind_text h.earlier.kind) ++ space ∷ first) ++ space ∷ kind_text h.later.kind) ++ space ∷ second
    whole = h.later.is ∙ ap (λ i. (h.once ++ space ∷ kind_text h.later.kind) ++ space ∷ i) h.later.is_instance.is
        ∙ ap (λ o. (o ++ space ∷ kind_text h.later.kind) ++ space ∷ second)
        (h.earlier.is ∙ ap (λ i. (name ++ space ∷ kind_text h.earlier.kind) ++ space ∷ i) h.earlier.is_instance.is)

instance_parts : (i : ℕ) (n : ℤ) → IsIteration i → FitsSigned w64 n → IsInstanceText (decimal i ++ slash ∷ signed_decimal n)
instance_parts i n l f = record { iteration = i; number = n; within = l; fits = f; is = refl }

-- ---- traps

trap_text : (name place : List ℕ) → (codes "trap" ++ space ∷ (name ++ space ∷ place)) ++ line_feed ∷ [] ≡ codes "trap "
    ++ (name ++ (codes " " ++ (place ++ codes "\n")))
trap_text name place =
    cut (codes "trap") (name ++ space ∷ place) (line_feed ∷ []) ∙ ap (λ r. codes "trap" ++ space ∷ r) (cut name place (line_feed ∷ []))

pub record HasTrapPlace (text : List ℕ) : Type 0 where
  pub place : TrapPlace
  pub ranges : IsPlaceInRanges place
  pub text_is : text ≡ trap_place place

place_of_text : (text : List ℕ) → IsPlaceText text → HasTrapPlace text
place_of_text text (InInit e) = record { place = places.Init; ranges = tt; text_is = e }
place_of_text text (InFinal e) = record { place = places.Last; ranges = tt; text_is = e }
place_of_text text (AtInstance instance h e) = record {
  place = places.At (record { iteration = h.iteration; index = 0 }) h.number;
  ranges = (h.within, h.fits);
  text_is = e ∙ ap (λ i. codes "at" ++ space ∷ i) h.is;
}

text_of_place : (p : TrapPlace) → IsPlaceInRanges p → IsPlaceText (trap_place p)
text_of_place places.Init r = InInit refl
text_of_place (places.At node n) r = AtInstance (decimal node.iteration ++ slash ∷ signed_decimal n)
    (instance_parts node.iteration n r.0 r.1) refl
text_of_place places.Last r = InFinal refl

trap_of_parts : (cells : List Declaration) (line text : List ℕ) → IsOutcomeTrapText text → line ≡ codes "trap" ++ space ∷ text
    → IsOutcomeLine cells line
trap_of_parts cells line text h e =
    let p = place_of_text h.place h.is_place in
    IsTrap (record { trap = h.trap; place = p.place }) p.ranges
    (ap (λ l. l ++ line_feed ∷ []) (e ∙ ap (λ t. codes "trap" ++ space ∷ t) (h.is ∙ ap (λ x. trap_name h.trap ++ space ∷ x) p.text_is))
    ∙ trap_text (trap_name h.trap) (trap_place p.place))

-- ---- both

pub outcome_of_worded : (cells : List Declaration) (line : List ℕ) → IsWordedOutcome cells line → IsOutcomeLine cells line
outcome_of_worded cells line (RaceLine text h e) = race_of_parts cells line text h e
outcome_of_worded cells line (TrapLine text h e) = trap_of_parts cells line text h e

worded_race : (cells : List Declaration) (line : List ℕ) (r : Report) → IsRaceText cells
    ((((cell_name cells r.cell.0 ++ space ∷ kind_text r.earlier_kind) ++ space ∷ instance_text r.earlier r.earlier_number)
    ++ space ∷ kind_text r.later_kind)
    ++ space ∷ instance_text r.later r.later_number) → line ++ line_feed ∷ [] ≡ race_line (cell_name cells) r → IsWordedOutcome cells line
worded_race cells line r h e =
    let text = (((cell_name cells r.cell.0 ++ space ∷ kind_text r.earlier_kind) ++ space ∷ instance_text r.earlier r.earlier_number)
    ++ space ∷ kind_text r.later_kind)
    ++ space ∷ instance_text r.later r.later_number in
    RaceLine text h (append_cancel_right line (codes "race" ++ space ∷ text) (line_feed ∷ [])
    (e ∙ sym (race_text (cell_name cells r.cell.0) (kind_text r.earlier_kind) (instance_text r.earlier r.earlier_number)
    (kind_text r.later_kind)
    (instance_text r.later r.later_number))))

-- an outcome line that is no number is a race or a trap
pub worded : (cells : List Declaration) (line : List ℕ) → ((v : ℤ) → FitsSigned w64 v → line ≡ signed_decimal v → ⊥)
    → IsOutcomeLine cells line → IsWordedOutcome cells line
worded cells line none (IsOutput v f e) = absurd (none v f e)
worded cells line none (IsRace r h e) = worded_race cells line r (record {
  cell = r.cell.0;
  within = h.cell;
  once = (cell_name cells r.cell.0 ++ space ∷ kind_text r.earlier_kind) ++ space ∷ instance_text r.earlier r.earlier_number;
  later = record {
    kind = r.later_kind;
    instance = instance_text r.later r.later_number;
    is_instance = instance_parts r.later.iteration r.later_number h.later.0 h.later.1;
    is = refl;
  };
  earlier = record {
    kind = r.earlier_kind;
    instance = instance_text r.earlier r.earlier_number;
    is_instance = instance_parts r.earlier.iteration r.earlier_number h.earlier.0 h.earlier.1;
    is = refl;
  };
}) e
worded cells line none (IsTrap t r e) =
    TrapLine (trap_name t.trap ++ space ∷ trap_place t.place)
    (record { trap = t.trap; place = trap_place t.place; is_place = text_of_place t.place r; is = refl })
    (append_cancel_right line (codes "trap" ++ space ∷ (trap_name t.trap ++ space ∷ trap_place t.place)) (line_feed ∷ [])
    (e ∙ sym (trap_text (trap_name t.trap) (trap_place t.place))))
