-- The histories of all cells after one more access, and after none.
use Rattle.std.proofs.Common.{◌≡◌, ◌≢◌, ◌∙◌, ◌<◌, ◌==◌, ℕ, zero, suc, Bool, true, false, List, [], ◌∷◌, ◌++◌, get_or}
use Rattle.std.proofs.Common.{length, slice_set, ap, refl, sym, subst, arith, inl, inr, if◌then◌else◌}
use Rattle.std.proofs.lemmas.Bool.{cases_lt}
use Rattle.std.proofs.lemmas.Bool.Decides.{nat_tests}
use Rattle.std.proofs.lemmas.List.{length-append}
use Rattle.access_history.specs.declared.history.History.{History}
use Rattle.access_history.specs.KeptInstances.{nothing_kept}
use Rattle.pipe_model.specs.declared.access.NodeAccess.{NodeAccess}
use Rattle.pipe_model.specs.declared.node.Node.{Node}
use Rattle.pipe_model.specs.declared.node.NodeId.{NodeId}
use Rattle.pipe_model.specs.Races.CellRaces.{NotedAccess, accesses_to, noted_access}
use Rattle.race_detection.specs.NotedRuns.{HasNoted, HaveNoted, history_at, nothing_noted}

-- ---- nothing noted

pub count_of_nothing : (n : ℕ) → length (nothing_noted n) ≡ n
count_of_nothing zero = refl
count_of_nothing (suc n) = let h = count_of_nothing n in let more = length-append (nothing_noted n) (nothing_kept ∷ []) in
    omega (arith, h, more)

-- a history past the end is the history of no accesses, and so is one at the end
pushed_at : (hs : List History) (c : ℕ) → ((k : ℕ) → history_at hs k ≡ nothing_kept) → history_at (hs ++ nothing_kept ∷ []) c ≡ nothing_kept
pushed_at [] zero all = refl
pushed_at [] (suc c) all = refl
pushed_at (h ∷ hs) zero all = all 0
pushed_at (h ∷ hs) (suc c) all = pushed_at hs c (λ k. all (suc k))

nothing_at : (n c : ℕ) → history_at (nothing_noted n) c ≡ nothing_kept
nothing_at zero c = refl
nothing_at (suc n) c = pushed_at (nothing_noted n) c (nothing_at n)

pub none_noted : (columns : List (List Node)) (starts : List NodeId) (n : ℕ) (histories : List History) → histories ≡ nothing_noted n
    → HaveNoted columns starts [] histories
none_noted columns starts n histories is = record {
  each = λ c w. subst (HasNoted columns starts []) (sym (ap (λ hs. history_at hs c) is ∙ nothing_at n c)) (record {
    after = record { kept = refl; report = refl };
    kept = record { writer = tt; rightmost = tt; downmost = tt };
    report = tt;
  });
}

-- ---- one more access

-- one more of the accesses to a cell, or the same ones
with_first : (b : Bool) (x : NotedAccess) (more few last : List NotedAccess) → more ≡ few ++ last
    → (if b then x ∷ more else more) ≡ (if b then x ∷ few else few) ++ last
with_first true x more few last e = ap (λ l. x ∷ l) e
with_first false x more few last e = e

-- the accesses to its cell have one more
to_its_cell : (accesses : List NodeAccess) (a : NodeAccess)
    → accesses_to a.access.cell.0 (accesses ++ a ∷ []) ≡ accesses_to a.access.cell.0 accesses ++ noted_access a.node a.access.kind ∷ []
to_its_cell [] a = let same : (a.access.cell.0 == a.access.cell.0) ≡ true = grind (arith, nat_tests) in rw same refl
to_its_cell (x ∷ xs) a =
    with_first (x.access.cell.0 == a.access.cell.0) (noted_access x.node x.access.kind) (accesses_to a.access.cell.0 (xs ++ a ∷ []))
    (accesses_to a.access.cell.0 xs) (noted_access a.node a.access.kind ∷ []) (to_its_cell xs a)

-- those to another cell have not
to_another : (accesses : List NodeAccess) (a : NodeAccess) (c : ℕ) → c ≢ a.access.cell.0 → accesses_to c
    (accesses ++ a ∷ []) ≡ accesses_to c accesses
to_another [] a c differs = let apart : (a.access.cell.0 == c) ≡ false = grind (arith, nat_tests) in rw apart refl
to_another (x ∷ xs) a c differs =
    ap (λ l. if x.access.cell.0 == c then noted_access x.node x.access.kind ∷ l else l) (to_another xs a c differs)

set_here : (hs : List History) (c : ℕ) (h : History) → c < length hs → history_at (slice_set hs c h) c ≡ h
set_here [] c h w = absurd (omega (arith, w))
set_here (x ∷ xs) zero h w = refl
set_here (x ∷ xs) (suc c) h w = set_here xs c h (omega (arith, w))

set_elsewhere : (hs : List History) (c k : ℕ) (h : History) → k ≢ c → history_at (slice_set hs c h) k ≡ history_at hs k
set_elsewhere [] c k h differs = refl
set_elsewhere (x ∷ xs) zero zero h differs = absurd (differs refl)
set_elsewhere (x ∷ xs) zero (suc k) h differs = refl
set_elsewhere (x ∷ xs) (suc c) zero h differs = refl
set_elsewhere (x ∷ xs) (suc c) (suc k) h differs = set_elsewhere xs c k h (λ e. differs (ap suc e))

pub history_here : (hs : List History) (c : ℕ) (h : History) → c < length hs → h ≡ get_or hs c h → h ≡ history_at hs c
history_here [] c h w is = absurd (omega (arith, w))
history_here (x ∷ xs) zero h w is = is
history_here (x ∷ xs) (suc c) h w is = history_here xs c h (omega (arith, w)) is

pub set_count : (hs : List History) (c : ℕ) (h : History) → length (slice_set hs c h) ≡ length hs
set_count [] c h = refl
set_count (x ∷ xs) zero h = refl
set_count (x ∷ xs) (suc c) h = ap suc (set_count xs c h)

-- the histories, after one has noted one access more
pub one_more_noted : (columns : List (List Node)) (starts : List NodeId) (before : List NodeAccess) (hs : List History) (a : NodeAccess)
    (h : History)
    → HaveNoted columns starts before hs → a.access.cell.0 < length hs
    → HasNoted columns starts (accesses_to a.access.cell.0 before ++ noted_access a.node a.access.kind ∷ []) h
    → HaveNoted columns starts (before ++ a ∷ []) (slice_set hs a.access.cell.0 h)
one_more_noted columns starts before hs a h noted inside new = record { each = each }
  where
    cell : ℕ
    cell = a.access.cell.0

    at_cell : (c : ℕ) → c ≡ cell → HasNoted columns starts (accesses_to c (before ++ a ∷ [])) (history_at (slice_set hs cell h) c)
    at_cell c same = rw (same, set_here hs cell h inside, to_its_cell before a) new

    elsewhere : (c : ℕ) → c ≢ cell → c < length hs
        → HasNoted columns starts (accesses_to c (before ++ a ∷ [])) (history_at (slice_set hs cell h) c)
    elsewhere c differs l = rw (set_elsewhere hs cell c h differs, to_another before a c differs) (noted.each c l)

    each : (c : ℕ) → c < length (slice_set hs cell h) → HasNoted columns starts (accesses_to c (before ++ a ∷ []))
        (history_at (slice_set hs cell h) c)
    each c l =
        let within : c < length hs = (let count = set_count hs cell h in omega (arith, l, count)) in
        elim (cases_lt c cell) [
          | inl less ↦ elsewhere c (λ e. omega (arith, less, e)) within
          | inr most ↦ elim (cases_lt cell c) [
            | inl more ↦ elsewhere c (λ e. omega (arith, more, e)) within
            | inr least ↦ at_cell c (omega (arith, most, least))
          ]
        ]
