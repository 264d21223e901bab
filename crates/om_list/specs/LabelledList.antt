-- What contracts see of an order-maintenance list (Bender et al. 2002).
use Rattle.std.specs.Prelude.{ℕ, ◌^◌, List, slice_index}
use Rattle.pipe_model.specs.Orders.OrderList.{list_of_log}
use Rattle.om_relabel.specs.Labels.{LabelsRise}

-- the log of the insertions, for how many elements there is room, and the label of each element
pub record LabelledList : Type 0 where
  pub log : List ℕ
  pub capacity : ℕ
  pub labels : List ℕ

-- the labels rise strictly along the list of the log, and are below 2^62
abbrev pub HasRisingLabels : LabelledList → Type 0
HasRisingLabels l = LabelsRise (λ x. slice_index l.labels x) 0 (2 ^ 62) (list_of_log l.log)
