-- Names of halls, and the seats and payloads of instances, over plain data.
use Rattle.std.proofs.Common.{◌≡◌, ℕ, ℤ, List, [], ◌∷◌, refl, sym, ap, ap₂, ◌∙◌, subst, Option, Some, None}
use Rattle.atomic_table.specs.Seated.{TableId}
use Rattle.atomic_table.specs.Table.{Me}
use Rattle.pipe_model.specs.Language.SyntaxTree.{SyntaxTree, tree_of}
use Rattle.pipe_model.specs.Runs.ControlRun.{ControlRun}
use Rattle.pipe_model.specs.Runs.RunLogs.{state_after}
use Rattle.pipe_frame.specs.Ties.{HallName, InstanceSeat, SeenLists, Tie, AreSeenLists, AreSeen}
use Rattle.pipe_frame.specs.TokenFields.{TokenFields, fields_of}
use Rattle.pipe_frame.specs.declared.token.FrameToken.{FrameToken}
use Rattle.frame_book.specs.BookStates.{BookState, replies_at}
use Rattle.frame_book.specs.GivenTokens.{IsGivenBy}
use Rattle.hall_table.specs.SeatViews.{HallConstants, InstanceData, constants_of}
use Rattle.hall_table.specs.HallRule.{view_of}
use Rattle.pipe_frame.specs.SeatedTokens.{IsGivenToken, IsSeated, entries_of_seat, replies_of_seat, seated_entries, seated_replies}
use Rattle.hall_table.specs.WorkerSeats.{HallId, IsIdle, IsSameHall, name_of, numbers_of}
use Rattle.hall_table.specs.InstanceSeats.{badge_view, seat_of}
use Rattle.hall_table.specs.Lending.{seat_in, tie_of}
use Rattle.hall_table.specs.Steps.{ViewAndSlots, new_instance, with_longer, worker_seat}
use Rattle.hall_table.specs.declared.run_seat.RunSeat.{RunSeat}
use Rattle.hall_table.specs.declared.view.View.{View}
use Rattle.hall_table.specs.declared.slot.Slot.{Slot}

-- ---- names of halls

pub numbers_same : (y z : TableId) → numbers_of y ≡ numbers_of z → y ≡ z
numbers_same y z e =
    let a : y.words ≡ z.words = cc in
    let b : y.slots ≡ z.slots = cc in
    let c : y.views_name ≡ z.views_name = cc in
    let d : y.atom ≡ z.atom = cc in
    let f : y.block ≡ z.block = cc in
    let g : y.offset ≡ z.offset = cc in
    let h : y.slot_names ≡ z.slot_names = cc in
    λ k. record { words = a k; slots = b k; views_name = c k; atom = d k; block = f k; offset = g k; slot_names = h k }

name_hall : (z : TableId) (o : Option HallConstants) → (name_of z o).hall ≡ numbers_of z
name_hall z None = refl
name_hall z (Some a) = refl

pub same_table : (g h : HallId) → IsSameHall g h → g.table ≡ h.table
same_table g h e = numbers_same g.table h.table (sym (name_hall g.table g.constants) ∙ (e ∙ name_hall h.table h.constants))

-- ---- tokens

module _ (M : Type 0) (ReadyAt : SyntaxTree → List ℤ → M → ℕ → List (List ℤ) → Type 0) (tie : M → Tie) (lists : M → SeenLists)
    (seat : M → Option RunSeat) (with_seat : M → Option RunSeat → M)
    (tied : (x : M) → tie x ≡ tie_of (lists x) (seat x))
    (seat_is : (x : M) (s : Option RunSeat) → (seat (with_seat x s) ≡ s) × (lists (with_seat x s) ≡ lists x))
    (seat_ready : (tree : SyntaxTree) (input : List ℤ) (x : M) (s : Option RunSeat) (i : ℕ) (replies : List (List ℤ))
    → ReadyAt tree input x i replies → ReadyAt tree input (with_seat x s) i replies) where
  -- the tie of a payload with a seat
  pub tie_with : (x : M) (r : RunSeat) → tie (with_seat x (Some r)) ≡ record { lists = (tie x).lists; seat = seat_in (Some r) }
  tie_with x r =
      let q = seat_is x (Some r) in
      tied (with_seat x (Some r)) ∙ (ap₂ (λ l s. tie_of l s) q.1 q.0
      ∙ ap (λ (t : Tie). let w : Tie = record { lists = t.lists; seat = seat_in (Some r) } in w) (sym (tied x)))

  -- the lists of a payload with another seat
  pub lists_with : (x : M) (o : Option RunSeat) → (tie (with_seat x o)).lists ≡ (tie x).lists
  lists_with x o =
      let q = seat_is x o in
      ap (λ (t : Tie). t.lists) (tied (with_seat x o)) ∙ (ap (λ l. Some l) q.1 ∙ sym (ap (λ (t : Tie). t.lists) (tied x)))

  -- a payload whose token is out has the seat of its instance
  pub record HasSeat (x : M) (h : HallName) (f : TokenFields) (z : TableId) : Type 0 where
    pub run : RunSeat
    pub is : seat x ≡ Some run
    pub table : run.badge.table_id ≡ z
    pub run_data : InstanceData
    pub run_is : (badge_view run.badge.views).run ≡ Some run_data
    pub hall : name_of run.badge.table_id (badge_view run.badge.views).constants ≡ h
    pub fields : run_data.fields ≡ f
    pub replies : run_data.replies ≡ seated_replies (tie x)
    pub entries : run_data.entries ≡ seated_entries (tie x)

  pub has_seat : (x : M) (h : HallName) (f : TokenFields) (z : TableId) (o : Option HallConstants) → h ≡ name_of z o → IsSeated h f (tie x)
      → HasSeat x h f z
  has_seat x h f z o name out = by (seat x) refl
    where
      there : (q : Option RunSeat) → seat x ≡ q → seat_in q ≡ Some out.seat
      there q e = ap seat_in (sym e) ∙ (sym (ap (λ (t : Tie). t.seat) (tied x)) ∙ out.is)

      by_data : (r : RunSeat) (d : Option InstanceData) → seat x ≡ Some r → (badge_view r.badge.views).run ≡ d
          → seat_of r.badge.table_id r.badge.id (badge_view r.badge.views).constants d ≡ Some out.seat → HasSeat x h f z
      by_data r None e is q = absurd (let w : None ≡ Some out.seat = q in cc)
      by_data r (Some d) e is q =
          let s : InstanceSeat = record {
            hall = name_of r.badge.table_id (badge_view r.badge.views).constants;
            seat = r.badge.id;
            fields =
                d.fields;
            replies = d.replies;
            entries = d.entries;
          } in
          let same : s ≡ out.seat = (let w : Some s ≡ Some out.seat = q in cc) in
          let hall : numbers_of r.badge.table_id ≡ numbers_of z =
          sym (name_hall r.badge.table_id (badge_view r.badge.views).constants)
          ∙ (ap (λ (y : InstanceSeat). y.hall.hall) same ∙ (ap (λ (y : HallName). y.hall) (out.hall ∙ name) ∙ name_hall z o)) in
          record {
            run = r;
            is = e;
            table = numbers_same r.badge.table_id z hall;
            run_data = d;
            run_is = is;
            hall = ap (λ (y : InstanceSeat). y.hall) same ∙ out.hall;
            fields = ap (λ (y : InstanceSeat). y.fields) same ∙ out.fields;
            replies = ap (λ (y : InstanceSeat). y.replies) same ∙ sym (ap replies_of_seat out.is);
            entries = ap (λ (y : InstanceSeat). y.entries) same ∙ sym (ap entries_of_seat out.is);
          }

      by : (q : Option RunSeat) → seat x ≡ q → HasSeat x h f z
      by None e = absurd (let w : None ≡ Some out.seat = there None e in cc)
      by (Some r) e = by_data r (badge_view r.badge.views).run e refl (there (Some r) e)

  pub given_in : (h : HallName) (z : TableId) (c : BookState) (t : FrameToken M) (r : RunSeat) (v : View) → r.badge.table_id ≡ z
      → r.badge.views ≡ v ∷ [] → v.it.constants ≡ Some (constants_of c)
      → v.it.run ≡ Some (new_instance c (fields_of t)) → h ≡ name_of z (Some (constants_of c)) → IsGivenBy ReadyAt tie c t
      → IsGivenToken ReadyAt tie h (record t { payload = with_seat t.payload (Some r) })
  given_in h z c t r v table views constants run name given =
      let x : M = with_seat t.payload (Some r) in
      let s : InstanceSeat = record {
        hall = name_of z (Some (constants_of c));
        seat = r.badge.id;
        fields = fields_of t;
        replies =
            replies_at c t.iteration;
        entries = [];
      } in
      let in_seat : seat_in (Some r) ≡ Some s =
      ap₂ (λ y vs. seat_of y r.badge.id (badge_view vs).constants (badge_view vs).run) table views
      ∙ ap₂ (λ a d. seat_of z r.badge.id a d) constants run in
      let is : tie x ≡ record { lists = (tie t.payload).lists; seat = Some s } = tie_with t.payload r
      ∙ ap (λ o. let w : Tie = record { lists = (tie t.payload).lists; seat = o } in w) in_seat in
      let seat_now : (tie x).seat ≡ Some s = ap (λ (y : Tie). y.seat) is in
      let lists_now : (tie x).lists ≡ (tie t.payload).lists = ap (λ (y : Tie). y.lists) is in
      record {
        out = record {
          seat = s;
          is = seat_now;
          hall = sym name;
          fields = refl;
          parts = given.parts;
          knows = subst (λ l. AreSeen l t.marks) (sym lists_now) given.knows;
          belongs = subst (λ (n : HallName). AreSeenLists (tie x).lists n.lists.down n.lists.right) (sym name)
              (subst (λ l. AreSeenLists l c.lists.down c.lists.right) (sym lists_now) given.payload.belongs);
        };
        ready = subst (λ l. ReadyAt h.tree h.input x t.iteration l) (sym (ap replies_of_seat seat_now))
            (subst (λ (n : HallName). ReadyAt n.tree n.input x t.iteration (replies_at c t.iteration)) (sym name)
            (seat_ready (tree_of c.program) c.input t.payload (Some r) t.iteration (replies_at c t.iteration) given.payload.ready));
        fresh = ap entries_of_seat seat_now;
      }

-- a seat that is as before, or like one
pub idle_after : {S : Type 0} (m n : Me S View) → m ≡ n → IsIdle n → IsIdle m
idle_after {S} m n e h = record {
  constants = h.constants;
  knows = ap (λ (k : Me S View). k.0.it.constants) e ∙ h.knows;
  control = subst (λ es. ControlRun h.constants.limit es (state_after es)) (sym (ap (λ (k : Me S View). k.0.it.seen) e)) h.control;
  run = ap (λ (k : Me S View). k.0.it.run) e ∙ h.run;
  held = ap (λ (k : Me S View). k.0.it.held) e ∙ h.held;
  slots = ap (λ (k : Me S View). k.1) e ∙ h.slots;
}

-- a further worker's seat, and one that has taken in another
pub idle_copy : (M : Type 0) (m : ViewAndSlots M) → IsIdle m → IsIdle {S = Slot M} (view_of (worker_seat m.0.it), [])
idle_copy M m h = record { constants = h.constants; knows = h.knows; control = h.control; run = refl; held = refl; slots = refl }

pub idle_met : (M : Type 0) (m n : ViewAndSlots M) → n ≡ (view_of (with_longer m.0.it), m.1)
    → ((a : HallConstants) → m.0.it.constants ≡ Some a → ControlRun a.limit n.0.it.seen (state_after n.0.it.seen))
    → (c : HallConstants) → m.0.it.constants ≡ Some c → m.0.it.run ≡ None → m.0.it.held ≡ [] → m.1 ≡ [] → IsIdle n
idle_met M m n is control c knows run held empty = record {
  constants = c;
  knows = ap (λ (k : ViewAndSlots M). k.0.it.constants) is ∙ knows;
  control = control c knows;
  run = ap (λ (k : ViewAndSlots M). k.0.it.run) is ∙ run;
  held = ap (λ (k : ViewAndSlots M). k.0.it.held) is ∙ held;
  slots = ap (λ (k : ViewAndSlots M). k.1) is ∙ empty;
}
