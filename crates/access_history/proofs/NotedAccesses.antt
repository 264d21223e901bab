-- Noting accesses one after the other, in lists that grow meanwhile.
use Rattle.std.proofs.Common.{◌≡◌, ◌∙◌, ap, sym, refl, subst, ℕ, List, [], ◌∷◌, ◌++◌, ◌+◌, ◌<◌, ◌≤◌, length, get_or, take, inl, inr, Option}
use Rattle.std.proofs.Common.{Some, None, All, Contains}
use Rattle.std.proofs.lemmas.List.{map-append, take_all, take_more}
use Rattle.std.proofs.lemmas.List.Elements.{All-contains, Contains-get_or}
use Rattle.std.specs.Prelude.{IfSome}
use Rattle.access_history.proofs.GrownLists.{agree_grown}
use Rattle.access_history.specs.CellAccesses.{AgreeOnAll, IsAmong, noted_accesses}
use Rattle.access_history.specs.KeptInstances.{AgreeOn, AgreeOnKept, AllKept, IsEither, IsHistoryAfter, KeepsAmong, KeptAreIn, nothing_kept}
use Rattle.access_history.specs.declared.cell_accesses.CellAccess.{CellAccess}
use Rattle.access_history.specs.declared.history.History.{History}
use Rattle.access_history.specs.declared.history.MarkedNode.{MarkedNode}
use Rattle.pipe_model.specs.declared.node.NodeId.{NodeId}
use Rattle.pipe_model.specs.Orders.GrowingLists.{AreIn, KeepsOrder}
use Rattle.pipe_model.specs.Races.CellRaces.{NotedAccess, noted_access}

pub keeps_all : (xs : List ℕ) → KeepsOrder xs xs
keeps_all xs = record { elements = λ x h. h; order = λ x y h k. ((λ b. b), (λ b. b)) }

pub keeps_both : (xs ys zs : List ℕ) → KeepsOrder xs ys → KeepsOrder ys zs → KeepsOrder xs zs
keeps_both xs ys zs a b = record {
  elements = λ x h. b.elements x (a.elements x h);
  order = λ x y h k. (
      let o = a.order x y h k in
      let p = b.order x y (a.elements x h) (a.elements y k) in
      ((λ q. o.0 (p.0 q)), (λ q. p.1 (o.1 q))));
}

-- the history of the first i accesses; the lists were d and r before them
pub record IsNoting (d r d' r' : List ℕ) (accesses : List CellAccess) (i : ℕ) (h : History) : Type 0 where
  pub down : KeepsOrder d d'
  pub right : KeepsOrder r r'
  pub in_lists : KeptAreIn d' r' h
  pub among : AllKept (IsAmong accesses) h
  pub history : (down right : NodeId → ℕ) → AgreeOnAll d r down right accesses
      → IsHistoryAfter down right (noted_accesses (take i accesses)) h

nothing_noted : (d r : List ℕ) (accesses : List CellAccess) → IsNoting d r d r accesses 0 nothing_kept
nothing_noted d r accesses = record {
  down = keeps_all d;
  right = keeps_all r;
  in_lists = record { writer = tt; rightmost = tt; downmost = tt };
  among = record { writer = tt; rightmost = tt; downmost = tt };
  history = λ down right agree. record { kept = refl; report = refl };
}

pub noting_begins : (d r : List ℕ) (accesses : List CellAccess) (h : History) → h ≡ nothing_kept → IsNoting d r d r accesses 0 h
noting_begins d r accesses h none = subst (λ k. IsNoting d r d r accesses 0 k) (sym none) (nothing_noted d r accesses)

-- an instance that was kept before, or makes the new access, is among the accesses
among_one : (accesses : List CellAccess) (x : CellAccess) (before after : Option MarkedNode) → Contains accesses x
    → IfSome before (IsAmong accesses) → IfSome after (IsEither before x.who) → IfSome after (IsAmong accesses)
among_one accesses x before None listed a e = tt
among_one accesses x before (Some y) listed a (inl same) = record { access = x; listed = listed; same = sym same }
among_one accesses x before (Some y) listed a (inr kept) = subst (λ o. IfSome o (IsAmong accesses)) kept a

module _ (d r d' r' : List ℕ) (accesses : List CellAccess)
    (all_in : All (λ (a : CellAccess). AreIn d r a.who.marks) accesses) where
  -- the orders agree with the longer lists on an instance among the accesses
  agree_one : (down right : NodeId → ℕ) (x : CellAccess) (o : Option MarkedNode) → KeepsOrder d d' → KeepsOrder r r'
      → AgreeOnAll d r down right accesses → Contains accesses x → IfSome o (IsAmong accesses)
      → IfSome o (AgreeOn d' r' down right x.who)
  agree_one down right x None grown grown' agree listed a = tt
  agree_one down right x (Some y) grown grown' agree listed a =
      subst (λ w. AgreeOn d' r' down right x.who w) a.same
      (agree_grown d r d' r' down right x.who a.access.who grown grown'
      (All-contains (λ (b : CellAccess). AreIn d r b.who.marks) accesses x all_in listed)
      (All-contains (λ (b : CellAccess). AreIn d r b.who.marks) accesses a.access all_in a.listed)
      (agree.two x a.access listed a.listed))

  pub noting_goes_on : (d'' r'' : List ℕ) (i : ℕ) (x d₀ : CellAccess) (h h' : History)
      → IsNoting d r d' r' accesses i h → i < length accesses → x ≡ get_or accesses i d₀
      → KeepsOrder d' d'' → KeepsOrder r' r'' → KeptAreIn d'' r'' h' → KeepsAmong h x.who h'
      → ((down right : NodeId → ℕ) → AgreeOnKept d' r' down right x.who h → (before : List NotedAccess)
      → IsHistoryAfter down right before h → IsHistoryAfter down right (before ++ noted_access x.who.node x.kind ∷ []) h')
      → IsNoting d r d'' r'' accesses (i + 1) h'
  noting_goes_on d'' r'' i x d₀ h h' so_far less is more more' in_lists among step =
      let listed : Contains accesses x = subst (λ a. Contains accesses a) (sym is) (Contains-get_or accesses i d₀ less) in
      let taken : noted_accesses (take (i + 1) accesses) ≡ noted_accesses (take i accesses) ++ noted_access x.who.node x.kind ∷ [] =
      ap noted_accesses (take_more accesses i d₀ less ∙ ap (λ a. take i accesses ++ a ∷ []) (sym is))
      ∙ map-append (λ (a : CellAccess). noted_access a.who.node a.kind) (take i accesses) (x ∷ []) in
      record {
        down = keeps_both d d' d'' so_far.down more;
        right = keeps_both r r' r'' so_far.right more';
        in_lists = in_lists;
        among = record {
          writer = among_one accesses x h.writer h'.writer listed so_far.among.writer among.writer;
          rightmost = among_one accesses x h.rightmost h'.rightmost listed so_far.among.rightmost among.rightmost;
          downmost = among_one accesses x h.downmost h'.downmost listed so_far.among.downmost among.downmost;
        };
        history = λ down right agree.
            subst (λ xs. IsHistoryAfter down right xs h') (sym taken)
            (step down right
            (record {
              writer = agree_one down right x h.writer so_far.down so_far.right agree listed so_far.among.writer;
              rightmost = agree_one down right x h.rightmost so_far.down so_far.right agree listed so_far.among.rightmost;
              downmost = agree_one down right x h.downmost so_far.down so_far.right agree listed so_far.among.downmost;
            })
            (noted_accesses (take i accesses)) (so_far.history down right agree));
      }

pub noting_ends : (d r d' r' : List ℕ) (accesses : List CellAccess) (i : ℕ) (h : History)
    → IsNoting d r d' r' accesses i h → length accesses ≤ i
    → (down right : NodeId → ℕ) → AgreeOnAll d r down right accesses
    → IsHistoryAfter down right (noted_accesses accesses) h
noting_ends d r d' r' accesses i h all end down right agree =
    subst (λ xs. IsHistoryAfter down right (noted_accesses xs) h) (take_all i accesses end) (all.history down right agree)
