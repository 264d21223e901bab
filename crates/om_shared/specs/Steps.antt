-- What each kind of step gives: the seat before it, the number that it found or stored, and the seat after it.
use Rattle.std.specs.Prelude.{◌≡◌, ℕ, ◌+◌, ◌-◌, ◌%◌, ◌<◌, ◌↔◌, List, [], ◌∷◌, ◌++◌, length, slice_set, nat_le, if◌then◌else◌}
use Rattle.atomic_table.specs.Table.{Me, Step}
use Rattle.pipe_model.specs.Orders.OrderList.{IsBeforeIn, list_of_log}
use Rattle.om_shared.specs.SharedLists.{StartsWith}
use Rattle.om_shared.specs.Rule.{view}
use Rattle.om_shared.specs.declared.view.View.{View}
use Rattle.om_shared.specs.declared.view.Role.{Role}
use Rattle.om_shared.specs.declared.view.Role.TheVariants.{Writing, Asking, Spent}
use Rattle.om_shared.specs.declared.view.Stage.{Stage}
use Rattle.om_shared.specs.declared.view.Stage.TheVariants.{Resting}

-- a seat's view, and the slots that it has taken: none here
abbrev pub SeatState : Type 0
SeatState = Me ℕ View

-- ---- steps of the writer

abbrev pub at_stage : Stage → ℕ → Role → Role
at_stage to sequence (Writing stage old labels) = Writing to sequence labels
at_stage to sequence (Asking at notes) = Spent
at_stage to sequence Spent = Spent

-- labels begin to move, or have moved: the sequence number is the stored one
abbrev pub turned_to : Stage → Step ℕ → SeatState → ℕ → SeatState → Type 0
turned_to to step m found m' = m' ≡ (view m.0.log m.0.learned (at_stage to step.first m.0.role), m.1)

abbrev pub labelling : ℕ → ℕ → Role → Role
labelling x label (Writing stage sequence labels) = Writing stage sequence (slice_set labels x label)
labelling x label (Asking at notes) = Spent
labelling x label Spent = Spent

-- an element has another label
abbrev pub stored : Step ℕ → SeatState → ℕ → SeatState → Type 0
stored step m found m' = m' ≡ (view m.0.log m.0.learned (labelling (step.word - 1) step.first m.0.role), m.1)

abbrev pub rested : Role → Role
rested (Writing stage sequence labels) = Writing Resting sequence labels
rested (Asking at notes) = Spent
rested Spent = Spent

-- these insertions are at the end of the log, and the seat has this role
abbrev pub with_entries : List ℕ → Role → View → View
with_entries xs role v = view (v.log ++ xs) v.learned role

-- one more insertion is in the log
abbrev pub with_entry : ℕ → Role → View → View
with_entry x role v = with_entries (x ∷ []) role v

-- the same, and the writer rests
abbrev pub with_insertion : ℕ → View → View
with_insertion x v = with_entry x (rested v.role) v

-- an element was inserted after the one whose label the step reads
abbrev pub published : Step ℕ → SeatState → ℕ → SeatState → Type 0
published step m found m' = m' ≡ (with_insertion (step.word - 1) m.0, m.1)

-- an element is inserted after the one whose label the step reads, and has no label yet
abbrev pub announced : Step ℕ → SeatState → ℕ → SeatState → Type 0
announced step m found m' = m' ≡ (with_entry (step.word - 1) m.0.role m.0, m.1)

-- an element is inserted after the one whose label the step reads, and another after that; neither has a label yet
abbrev pub announced_pair : Step ℕ → SeatState → ℕ → SeatState → Type 0
announced_pair step m found m' = m' ≡ (with_entries ((step.word - 1) ∷ (1 + length m.0.log) ∷ []) m.0.role m.0, m.1)

-- the log that the writer learned of is a prefix of its own
abbrev pub checked_learned : Step ℕ → SeatState → ℕ → SeatState → Type 0
checked_learned step m found m' = (m' ≡ m)
    × ((stage : Stage) (sequence : ℕ) (labels : List ℕ) → m.0.role ≡ Writing stage sequence labels
    → StartsWith m.0.log m.0.learned)

-- ---- steps of a pass

-- the pass has noted the sequence number, and no label since
abbrev pub noted_sequence : Step ℕ → SeatState → ℕ → SeatState → Type 0
noted_sequence step m found m' = m' ≡ (view m.0.log m.0.learned (Asking found []), m.1)

abbrev pub noting : ℕ → ℕ → Role → Role
noting x label (Asking at notes) = Asking at ((x, label) ∷ notes)
noting x label (Writing stage sequence labels) = Spent
noting x label Spent = Spent

-- the pass has noted the label of one more element
abbrev pub noted_label : Step ℕ → SeatState → ℕ → SeatState → Type 0
noted_label step m found m' = m' ≡ (view m.0.log m.0.learned (noting (step.word - 1) found m.0.role), m.1)

-- if the sequence number is even and still the noted one, two noted labels are in the order of their elements in the list
-- of the seen log
abbrev pub checked_sequence : Step ℕ → SeatState → ℕ → SeatState → Type 0
checked_sequence step m found m' = (m' ≡ m)
    × ((at x y a b : ℕ) → m.0.role ≡ Asking at ((y, b) ∷ (x, a) ∷ []) → at % 2 ≡ 0 → found ≡ at
    → IsBeforeIn (list_of_log m.0.log) x y ↔ (a < b))

abbrev pub longer : List ℕ → List ℕ → List ℕ
longer a b = if nat_le (length a) (length b) then b else a

-- of the log that the pass has seen and the one that it learned of, which are prefixes of one list, the pass sees the longer from now on
abbrev pub saw_longer : Step ℕ → SeatState → ℕ → SeatState → Type 0
saw_longer step m found m' = (m' ≡ (view (longer m.0.log m.0.learned) [] (Asking found []), m.1))
    × StartsWith (longer m.0.log m.0.learned) m.0.log × StartsWith (longer m.0.log m.0.learned) m.0.learned
