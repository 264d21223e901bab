-- The locks and the seats of the table: what each kind of step keeps.
use Rattle.std.proofs.Common.{◌≡◌, ◌≢◌, ℕ, zero, suc, ◌<◌, List, [], ◌∷◌, ◌++◌, length, get_or, set, drop, refl, sym, ap, ◌∙◌, subst, arith}
use Rattle.std.proofs.Common.{◌⊎◌, ⊎_elim, inl, inr, cond, eq-eqb, ne_eqb, append_assoc, append-nil, length-set, get_or-set_same, Option}
use Rattle.std.proofs.Common.{Some, None}
use mathlib.Core.Option.{none, some, some-injective, some-ne-none}
use mathlib.Core.Logic.{dite}
use native.Mathlib.Decide.{ℕ_discrete}
use lib.ListN.{get_elem?}
use Rattle.atomic_table.specs.Table.{State, rest}
use Rattle.atomic_table.proofs.Lists.{at_set, set_here, set_else, set_again, at_longer, at_last}
use Rattle.pipe_model.specs.Races.DeterminacyRaces.{Among, Here, Later}
use Rattle.pipe_model.proofs.Members.{none_among}
use Rattle.pipe_frame.specs.HallViews.{BeginsWith}
use Rattle.frame_book.specs.BookStates.{BookState, events_of}
use Rattle.hall_table.specs.SeatViews.{HallConstants, InstanceData, SeatView, SlotValue, constants_of, nothing_known}
use Rattle.hall_shards.specs.ShardValues.{ShardValue}
use Rattle.hall_table.specs.Logs.{with_at}
use Rattle.hall_table.specs.HallRule.{Board, IsPlaced, IsRightView, place, slot_of, value_at, view_of, width}
use Rattle.hall_table.specs.Steps.{holding, constants_after, without_run, run_seat, worker_seat, with_run, joined}
use Rattle.hall_table.specs.declared.view.View.{View}
use Rattle.hall_table.specs.declared.slot.Slot.{Slot}

-- ---- views

-- a fact of all views, after one has changed
pub views_with : (K : ℕ → View → Type 0) (vs : List View) (me : ℕ) (w : View) → K me w
    → ((j : ℕ) (d : View) → j ≢ me → get_elem? vs j ≡ some d → K j d)
    → (j : ℕ) (d : View) → get_elem? (set vs me w) j ≡ some d → K j d
views_with K vs me w mine others j d e = ⊎_elim (λ (t : (j ≡ me) × (w ≡ d)). subst (λ (x : ℕ × View). K x.0 x.1)
    (λ i. (sym t.0 i, t.1 i)) mine)
    (λ (t : (j ≢ me) × (get_elem? vs j ≡ some d)). others j d t.0 t.1) (at_set vs me j w d e)

-- an index with an element is within
pub at_within : {A : Type 0} (l : List A) (i : ℕ) (a : A) → get_elem? l i ≡ some a → i < length l
at_within [] i a e = absurd (some-ne-none a (sym e))
at_within (x ∷ xs) zero a e = omega arith
at_within (x ∷ xs) (suc i) a e = let h = at_within xs i a e in omega (arith, h)

pub same_at : {A : Type 0} (l : List A) (i : ℕ) (a b : A) → get_elem? l i ≡ some a → get_elem? l i ≡ some b → a ≡ b
same_at l i a b e f = some-injective a b (sym e ∙ f)

-- ---- functions with another value

pub with_here : {A : Type 0} (f : ℕ → A) (i : ℕ) (a : A) → with_at f i a i ≡ a
with_here f i a = ap (λ t. cond t a (f i)) (eq-eqb i i refl)

pub with_else : {A : Type 0} (f : ℕ → A) (i : ℕ) (a : A) (j : ℕ) → j ≢ i → with_at f i a j ≡ f j
with_else f i a j ne = ap (λ t. cond t a (f j)) (ne_eqb j i ne)

-- ---- words

word_here : (ws : List ℕ) (i n : ℕ) → i < length ws → get_or (set ws i n) i 0 ≡ n
word_here ws i n l = get_or-set_same ws i n 0 l

word_else : (ws : List ℕ) (i j n : ℕ) → j ≢ i → get_or (set ws i n) j 0 ≡ get_or ws j 0
word_else [] i j n ne = refl
word_else (x ∷ xs) zero zero n ne = absurd (ne refl)
word_else (x ∷ xs) zero (suc j) n ne = refl
word_else (x ∷ xs) (suc i) zero n ne = refl
word_else (x ∷ xs) (suc i) (suc j) n ne = word_else xs i j n (λ e. ne (ap suc e))

-- a word that is set to what it was
word_again : (ws : List ℕ) (i j n : ℕ) → get_or ws i 0 ≡ n → i < length ws → get_or (set ws i n) j 0 ≡ get_or ws j 0
word_again ws i j n e l = dite (ℕ_discrete j i) (λ s. subst (λ k. get_or (set ws i n) k 0 ≡ get_or ws k 0) (sym s)
    (word_here ws i n l ∙ sym e)) (λ ne. word_else ws i j n ne)

-- ---- indices of locks

-- two locks have two indices
pub places_apart : (i j : ℕ) → i ≢ j → place i ≢ place j
places_apart i j ne e = ne (omega (arith, e))

-- which are within the table
pub in_width : (i n : ℕ) → n ≡ width → i < 17 → place i < n
in_width i n w l = omega (arith, w, l)

-- ---- members

pub among_cons : {A : Type 0} (a b : A) (xs : List A) → Among a (b ∷ xs) → (a ≡ b) ⊎ Among a xs
among_cons a b xs Here = inl refl
among_cons a b xs (Later y m) = inr m

-- an element of a list with one more at its end
pub at_end : {A : Type 0} (l : List A) (a b : A) (j : ℕ) → get_elem? (l ++ a ∷ []) j ≡ some b
    → (get_elem? l j ≡ some b) ⊎ ((j ≡ length l) × (a ≡ b))
at_end [] a b zero e = inr (refl, some-injective a b e)
at_end [] a b (suc j) e = absurd (some-ne-none b (sym e))
at_end (x ∷ xs) a b zero e = inl e
at_end (x ∷ xs) a b (suc j) e = ⊎_elim (λ t. inl t) (λ t. inr (ap suc t.0, t.1)) (at_end xs a b j e)

-- ---- prefixes

pub begins_all : {X : Type 0} (xs : List X) → BeginsWith xs xs
begins_all xs = ([], sym (append-nil xs))

pub begins_none : {X : Type 0} (xs : List X) → BeginsWith xs []
begins_none xs = (xs, refl)

pub begins_more : {X : Type 0} (xs ys zs : List X) → BeginsWith ys xs → BeginsWith zs ys → BeginsWith zs xs
begins_more xs ys zs p q = (p.0 ++ q.0, q.1 ∙ (ap (λ l. l ++ q.0) p.1 ∙ append_assoc xs p.0 q.0))

-- of two prefixes, the longer one begins with both
pub longer_begins : {X : Type 0} (zs xs ys : List X) → BeginsWith zs xs → BeginsWith zs ys → BeginsWith zs (xs ++ drop (length xs) ys)
longer_begins zs [] ys p q = q
longer_begins [] (x ∷ xs) ys p q = absurd (let e : [] ≡ (x ∷ xs) ++ p.0 = p.1 in cc)
longer_begins (z ∷ zs) (x ∷ xs) [] p q = subst (λ l. BeginsWith (z ∷ zs) l) (sym (append-nil (x ∷ xs))) p
longer_begins (z ∷ zs) (x ∷ xs) (y ∷ ys) p q =
    let e : z ∷ zs ≡ x ∷ (xs ++ p.0) = p.1 in
    let f : z ∷ zs ≡ y ∷ (ys ++ q.0) = q.1 in
    let a : z ≡ x = cc in
    let b : zs ≡ xs ++ p.0 = cc in
    let c : zs ≡ ys ++ q.0 = cc in
    let h = longer_begins zs xs ys (p.0, b) (q.0, c) in
    (h.0, ap (λ t. t ∷ zs) a ∙ ap (λ t. x ∷ t) h.1)

pub begins_with_first : {X : Type 0} (xs ys : List X) → BeginsWith (xs ++ drop (length xs) ys) xs
begins_with_first xs ys = (drop (length xs) ys, refl)

pub begins_with_second : {X : Type 0} (zs xs ys : List X) → BeginsWith zs xs → BeginsWith zs ys → BeginsWith (xs ++ drop (length xs) ys) ys
begins_with_second zs [] ys p q = begins_all ys
begins_with_second zs (x ∷ xs) [] p q = begins_none ((x ∷ xs) ++ drop (length (x ∷ xs)) [])
begins_with_second [] (x ∷ xs) (y ∷ ys) p q = absurd (let e : [] ≡ (x ∷ xs) ++ p.0 = p.1 in cc)
begins_with_second (z ∷ zs) (x ∷ xs) (y ∷ ys) p q =
    let e : z ∷ zs ≡ x ∷ (xs ++ p.0) = p.1 in
    let f : z ∷ zs ≡ y ∷ (ys ++ q.0) = q.1 in
    let a : x ≡ y = cc in
    let b : zs ≡ xs ++ p.0 = cc in
    let c : zs ≡ ys ++ q.0 = cc in
    let h = begins_with_second zs xs ys (p.0, b) (q.0, c) in
    (h.0, ap (λ t. x ∷ t) h.1 ∙ ap (λ t. t ∷ (ys ++ h.0)) a)

module _ (M : Type 0) where
  abbrev St : Type 0
  St = State (Slot M) View

  -- what a seat knows stays right at equal words
  right_words : (ws ws' : List ℕ) (b : BookState) (shard : ℕ → ShardValue) (seats : ℕ → Option InstanceData) (number holder : ℕ → ℕ)
      (j : ℕ) (v : SeatView)
      → ((i : ℕ) → get_or ws' i 0 ≡ get_or ws i 0) → IsRightView ws b shard seats number holder j v
      → IsRightView ws' b shard seats number holder j v
  right_words ws ws' b shard seats number holder j v same r = record {
    constants = r.constants;
    seen = r.seen;
    met = r.met;
    run = r.run;
    held = λ i x a. (let h = r.held i x a in (h.0, h.1, same (place i) ∙ h.2, h.3));
  }

  -- a value stays in its slot at an equal word and an equal slot
  placed_same : (ws ws' : List ℕ) (hs hs' : List _) (i : ℕ) (x : SlotValue) → get_or ws' (place i) 0 ≡ get_or ws (place i) 0
      → get_elem? hs' i ≡ get_elem? hs i → IsPlaced {M = M} ws hs i x → IsPlaced {M = M} ws' hs' i x
  placed_same ws ws' hs hs' i x w h p = record {
    home = λ z. h ∙ p.home (sym w ∙ z);
    away = λ nz. (let q = p.away (λ z. nz (w ∙ z)) in (w ∙ q.0, h ∙ q.1));
  }

  constants_taken : (v : SeatView) (b : BookState) (shard : ℕ → ShardValue) (i : ℕ) (a : HallConstants)
      → ((c : HallConstants) → v.constants ≡ Some c → c ≡ constants_of b) → constants_after v (value_at b shard i) ≡ Some a
      → a ≡ constants_of b
  constants_taken v b shard zero a old e = cc
  constants_taken v b shard (suc k) a old e = old a e

  module _ (s : St) (b : BookState) (shard : ℕ → ShardValue) (seats : ℕ → Option InstanceData) (o : Board s b shard seats) where
    -- ---- kind 1 and kind 3: a slot's value is taken

    module _ (i id : ℕ) (v : View) (l : i < 17) (at : get_elem? s.views id ≡ some v) (z : get_or s.words (place i) 0 ≡ 0) where
      abbrev new_view : View
      new_view = view_of (holding v.it i (value_at b shard i))

      abbrev taken : St
      taken = record { words = set s.words (place i) 1; homes = set s.homes i none; views = set s.views id new_view }

      abbrev holder' : ℕ → ℕ
      holder' = with_at o.holder i id

      in_words : place i < length s.words
      in_words = in_width i (length s.words) o.words l

      in_homes : i < length s.homes
      in_homes = subst (λ n. i < n) (sym o.homes) l

      -- what was held is another slot
      still_held : (j : ℕ) (k : ℕ) (y : SlotValue) → (k < 17) × (o.holder k ≡ j) × (get_or s.words (place k) 0 ≡ 1)
          × (y ≡ value_at b shard k)
          → (k < 17) × (holder' k ≡ j) × (get_or (set s.words (place i) 1) (place k) 0 ≡ 1) × (y ≡ value_at b shard k)
      still_held j k y h =
          let ne : k ≢ i = λ e. (let a : get_or s.words (place i) 0 ≡ 1 = subst (λ n. get_or s.words (place n) 0 ≡ 1) e h.2 in
          absurd (omega (arith, a, z))) in
          (h.0, with_else o.holder i id k ne ∙ h.1, word_else s.words (place i) (place k) 1 (places_apart k i ne) ∙ h.2, h.3)

      pub take_board : Board taken b shard seats
      take_board = record {
        number = o.number;
        holder = holder';
        words = length-set s.words (place i) 1 ∙ o.words;
        homes = length-set s.homes i none ∙ o.homes;
        places = λ j w. dite (ℕ_discrete j i)
            (λ e. subst (λ k. IsPlaced {M = M} (set s.words (place i) 1) (set s.homes i none) k (value_at b shard k))
            (sym e) (record {
              home = λ n. (let a = word_here s.words (place i) 1 in_words in absurd (omega (arith, a, n)));
              away = λ _. (word_here s.words (place i) 1 in_words, set_here s.homes i none in_homes);
            }))
            (λ ne. placed_same s.words (set s.words (place i) 1) s.homes (set s.homes i none) j (value_at b shard j)
            (word_else s.words (place i) (place j) 1 (places_apart j i ne))
            (set_else s.homes i j none ne) (o.places j w));
        right = views_with (λ j w. IsRightView (set s.words (place i) 1) b shard seats o.number holder' j w.it) s.views id new_view
            (let r = o.right id v at in record {
              constants = λ a e. constants_taken v.it b shard i a r.constants e;
              seen = r.seen;
              met = r.met;
              run = r.run;
              held = λ k y m. ⊎_elim
                  (λ (e : (k, y) ≡ (i, value_at b shard i)). subst (λ (p : ℕ × SlotValue). (p.0 < 17) × (holder' p.0 ≡ id)
                  × (get_or (set s.words (place i) 1) (place p.0) 0 ≡ 1) × (p.1 ≡ value_at b shard p.0)) (sym e)
                  (l, with_here o.holder i id, word_here s.words (place i) 1 in_words, refl))
                  (λ old. still_held id k y (r.held k y old)) (among_cons (k, y) (i, value_at b shard i) v.it.held m);
            })
            (λ j d ne e. (let r = o.right j d e in record {
              constants = r.constants;
              seen = r.seen;
              met = r.met;
              run = r.run;
              held =
                  λ k y m. still_held j k y (r.held k y m);
            }));
        each_seat = λ k d e. (
            let h = o.each_seat k d e in
            dite (ℕ_discrete (o.number k) id)
            (λ (same : o.number k ≡ id). (
              new_view,
              subst (λ n. get_elem? (set s.views id new_view) n ≡ some new_view) (sym same)
                  (set_here s.views id new_view (at_within s.views id v at)),
              (let q : h.0 ≡ v = same_at s.views id h.0 v (subst (λ n. get_elem? s.views n ≡ some h.0) same h.1) at in
                  sym (ap (λ (u : View). u.it.run) q) ∙ h.2),
            ))
            (λ ne. (h.0, set_else s.views id (o.number k) new_view ne ∙ h.1, h.2)));
      }

    -- ---- a view changes only in what it has seen, at a word that stays as it is

    module _ (i id : ℕ) (v : View) (n : ℕ) (l : i < width) (at : get_elem? s.views id ≡ some v) (z : get_or s.words i 0 ≡ n) where
      abbrev looked : View → St
      looked w = record { words = set s.words i n; homes = s.homes; views = set s.views id w }

      pub look_board : (w : View) → w.it.constants ≡ v.it.constants → w.it.run ≡ v.it.run → w.it.held ≡ v.it.held
          → BeginsWith (events_of b.log) w.it.seen
          → BeginsWith (events_of b.log) w.it.met → Board (looked w) b shard seats
      look_board w wc wr wh ws wm =
          let len = o.words in
          let same = λ (j : ℕ). word_again s.words i j n z (omega (arith, len, l)) in
          let r = o.right id v at in
          record {
            number = o.number;
            holder = o.holder;
            words = length-set s.words i n ∙ o.words;
            homes = o.homes;
            places = λ j k. placed_same s.words (set s.words i n) s.homes s.homes j (value_at b shard j) (same (place j)) refl
                (o.places j k);
            right = views_with (λ j u. IsRightView (set s.words i n) b shard seats o.number o.holder j u.it) s.views id w
                (right_words s.words (set s.words i n) b shard seats o.number o.holder id w.it same (record {
                  constants = λ a e. r.constants a (sym wc ∙ e);
                  seen = ws;
                  met = wm;
                  run = λ d e. r.run d (sym wr ∙ e);
                  held = λ k y m. r.held k y (subst (λ hs. Among (k, y) hs) wh m);
                }))
                (λ j u ne e. right_words s.words (set s.words i n) b shard seats o.number o.holder j u.it same (o.right j u e));
            each_seat = λ k d e. (
                let h = o.each_seat k d e in
                dite (ℕ_discrete (o.number k) id)
                (λ (q : o.number k ≡ id). (
                  w,
                  subst (λ m. get_elem? (set s.views id w) m ≡ some w) (sym q) (set_here s.views id w (at_within s.views id v at)),
                  (let p : h.0 ≡ v = same_at s.views id h.0 v (subst (λ m. get_elem? s.views m ≡ some h.0) q h.1) at in
                      wr ∙ (sym (ap (λ (u : View). u.it.run) p) ∙ h.2)),
                ))
                (λ ne. (h.0, set_else s.views id (o.number k) w ne ∙ h.1, h.2)));
          }

    -- ---- kinds 2 and 4: a slot's value is given back

    module _ (i id : ℕ) (v w : View) (y : SlotValue) (at : get_elem? s.views id ≡ some v) (held : v.it.held ≡ (i, y) ∷ [])
        (b' : BookState) (shard' : ℕ → ShardValue) (seats' : ℕ → Option InstanceData) (number' : ℕ → ℕ)
        (others : (j : ℕ) → j ≢ i → value_at b' shard' j ≡ value_at b shard j)
        (constants : constants_of b' ≡ constants_of b)
        (grows : BeginsWith (events_of b'.log) (events_of b.log)) where
      mine : (i < 17) × (o.holder i ≡ id) × (get_or s.words (place i) 0 ≡ 1) × (y ≡ value_at b shard i)
      mine = (o.right id v at).held i y (subst (λ hs. Among (i, y) hs) (sym held) Here)

      abbrev given : St
      given = record {
        words = set s.words (place i) 0;
        homes = set s.homes i (some (slot_of (value_at b' shard' i)));
        views =
            set s.views id w;
      }

      in_words' : place i < length s.words
      in_words' = in_width i (length s.words) o.words mine.0

      in_homes' : i < length s.homes
      in_homes' = subst (λ n. i < n) (sym o.homes) mine.0

      pub give_board : w.it.constants ≡ v.it.constants → w.it.held ≡ [] → BeginsWith (events_of b'.log) w.it.seen → w.it.met ≡ v.it.met
          → ((d : InstanceData) → w.it.run ≡ Some d → (seats' d.fields.iteration ≡ Some d) × (number' d.fields.iteration ≡ id))
          → ((j : ℕ) (u : View) (d : InstanceData) → j ≢ id → get_elem? s.views j ≡ some u → u.it.run ≡ Some d
          → (seats' d.fields.iteration ≡ Some d) × (number' d.fields.iteration ≡ j))
          → ((k : ℕ) (d : InstanceData) → seats' k ≡ Some d → (u : View) × (get_elem? (set s.views id w) (number' k) ≡ some u)
          × (u.it.run ≡ Some d))
          → Board given b' shard' seats'
      give_board wa wh ws wm wr oth st = record {
        number = number';
        holder = o.holder;
        words = length-set s.words (place i) 0 ∙ o.words;
        homes = length-set s.homes i _ ∙ o.homes;
        places = λ j l. dite (ℕ_discrete j i)
            (λ e. subst (λ k. IsPlaced {M = M} (set s.words (place i) 0) (set s.homes i (some (slot_of (value_at b' shard' i))))
            k (value_at b' shard' k)) (sym e) (record {
              home = λ _. set_here s.homes i (some (slot_of (value_at b' shard' i))) in_homes';
              away = λ n. absurd (n (word_here s.words (place i) 0 in_words'));
            }))
            (λ ne. subst (λ x. IsPlaced {M = M} (set s.words (place i) 0) (set s.homes i (some (slot_of (value_at b' shard' i))))
            j x) (sym (others j ne))
            (placed_same s.words (set s.words (place i) 0) s.homes (set s.homes i (some (slot_of (value_at b' shard' i))))
            j (value_at b shard j)
            (word_else s.words (place i) (place j) 0 (places_apart j i ne)) (set_else s.homes i j _ ne)
            (o.places j l)));
        right = views_with (λ j u. IsRightView (set s.words (place i) 0) b' shard' seats' number' o.holder j u.it) s.views id w
            (let r = o.right id v at in record {
              constants = λ a e. r.constants a (sym wa ∙ e) ∙ sym constants;
              seen = ws;
              met = subst (BeginsWith (events_of b'.log)) (sym wm) (begins_more v.it.met (events_of b.log) (events_of b'.log) r.met grows);
              run = wr;
              held = λ k x m. absurd (none_among (k, x) (subst (λ hs. Among (k, x) hs) wh m));
            })
            (λ j u ne e. (let r = o.right j u e in record {
              constants = λ a q. r.constants a q ∙ sym constants;
              seen = begins_more u.it.seen (events_of b.log) (events_of b'.log) r.seen grows;
              met = begins_more u.it.met (events_of b.log) (events_of b'.log) r.met grows;
              run = λ d q. oth j u d ne e q;
              held = λ k x m. (
                  let h = r.held k x m in
                  let far : k ≢ i = λ q. ne (sym h.1 ∙ (ap o.holder q ∙ mine.1)) in
                  (h.0, h.1, word_else s.words (place i) (place k) 0 (places_apart k i far) ∙ h.2, h.3 ∙ sym (others k far)));
            }));
        each_seat = st;
      }

    -- ---- kind 6: splits

    module _ (id : ℕ) (v : View) (at : get_elem? s.views id ≡ some v) where
      abbrev split_with : View → View → St
      split_with left right = record { words = s.words; homes = s.homes; views = set s.views id left ++ right ∷ [] }

      pub split_instance : (d : InstanceData) → v.it.run ≡ Some d → (seats d.fields.iteration ≡ Some d)
          → ((k : ℕ) (e : InstanceData) → seats k ≡ Some e → e.fields.iteration ≡ k)
          → Board (split_with (view_of (without_run v.it)) (view_of (run_seat v.it))) b shard seats
      split_instance d run_is here named =
          let left : View = view_of (without_run v.it) in
          let right : View = view_of (run_seat v.it) in
          let number' = with_at o.number d.fields.iteration (length s.views) in
          let r = o.right id v at in
          let last : length (set s.views id left) ≡ length s.views = length-set s.views id left in
          -- the run of another seat is another iteration's
          let apart : (j : ℕ) (u : View) (e : InstanceData) → j ≢ id → get_elem? s.views j ≡ some u → u.it.run ≡ Some e
          → e.fields.iteration ≢ d.fields.iteration = λ j u e ne q run same. (
          let a = ((o.right j u q).run e run).1 in
          let c = (r.run d run_is).1 in
          ne (sym a ∙ (ap o.number same ∙ c))) in
          record {
            number = number';
            holder = o.holder;
            words = o.words;
            homes = o.homes;
            places = o.places;
            right = λ j u e. ⊎_elim
                (λ old. views_with (λ j u. IsRightView s.words b shard seats number' o.holder j u.it) s.views id left
                (record {
                  constants = r.constants;
                  seen = r.seen;
                  met = r.met;
                  run = λ e q. absurd (let z : None ≡ Some e = q in cc);
                  held
                      = r.held;
                })
                (λ k w ne q. (let p = o.right k w q in record {
                  constants = p.constants;
                  seen = p.seen;
                  met = p.met;
                  held = p.held;
                  run =
                      λ e run. (let a = p.run e run in (
                        a.0,
                        with_else o.number d.fields.iteration (length s.views) e.fields.iteration
                            (apart k w e ne q run) ∙ a.1,
                      ));
                }))
                j u old)
                (λ (t : (j ≡ length (set s.views id left)) × (right ≡ u)). subst (λ (w : View). IsRightView s.words b shard seats number'
                o.holder j w.it) t.1
                (record {
                  constants = r.constants;
                  seen = begins_none (events_of b.log);
                  met = begins_none (events_of b.log);
                  held = λ k x m. absurd (none_among (k, x) m);
                  run = λ e q. (
                      let a = r.run e q in
                      let f : Some d ≡ Some e = sym run_is ∙ q in
                      let g : d ≡ e = cc in (
                        a.0,
                        ap (λ (z : InstanceData). number' z.fields.iteration) (sym g)
                            ∙ (with_here o.number d.fields.iteration (length s.views) ∙ (sym last ∙ sym t.0)),
                      ));
                }))
                (at_end (set s.views id left) right u j e);
            each_seat = λ k e q. dite (ℕ_discrete k d.fields.iteration)
                (λ same. (
                let f : Some d ≡ Some e = sym here ∙ (ap seats (sym same) ∙ q) in
                let g : d ≡ e = cc in (
                  right,
                  ap (λ n. get_elem? (set s.views id left ++ right ∷ []) n)
                      (ap number' same ∙ (with_here o.number d.fields.iteration (length s.views)))
                      ∙ at_last (set s.views id left) right (length s.views) last,
                  run_is ∙ ap (λ (z : InstanceData). Some z) g,
                )))
                (λ ne. (
                let h = o.each_seat k e q in
                let far : o.number k ≢ id = λ z. (
                let p : h.0 ≡ v = same_at s.views id h.0 v (subst (λ n. get_elem? s.views n ≡ some h.0) z h.1) at in
                let f : Some d ≡ Some e = sym run_is ∙ (sym (ap (λ (u : View). u.it.run) p) ∙ h.2) in
                let g : d ≡ e = cc in
                ne (sym (named k e q) ∙ ap (λ (z : InstanceData). z.fields.iteration) (sym g))) in (
                  h.0,
                  ap (λ n. get_elem? (set s.views id left ++ right ∷ []) n)
                      (with_else o.number d.fields.iteration (length s.views) k ne) ∙ at_longer (set s.views id left) (right ∷ [])
                      (o.number k) h.0 (set_else s.views id (o.number k) left far ∙ h.1),
                  h.2,
                )));
          }

      pub split_worker : Board (split_with v (view_of (worker_seat v.it))) b shard seats
      split_worker =
          let right : View = view_of (worker_seat v.it) in
          let r = o.right id v at in
          let same : set s.views id v ≡ s.views = set_again s.views id v at in
          record {
            number = o.number;
            holder = o.holder;
            words = o.words;
            homes = o.homes;
            places = o.places;
            right = λ j u e. ⊎_elim (λ old. o.right j u (subst (λ vs. get_elem? vs j ≡ some u) same old))
                (λ (t : (j ≡ length (set s.views id v)) × (right ≡ u)). subst (λ (w : View). IsRightView s.words b shard seats o.number
                o.holder j w.it) t.1
                (record {
                  constants = r.constants;
                  seen = r.seen;
                  met = r.met;
                  run = λ e q. absurd (let z : None ≡ Some e = q in cc);
                  held
                      = λ k x m. absurd (none_among (k, x) m);
                }))
                (at_end (set s.views id v) right u j e);
            each_seat = λ k e q. (let h = o.each_seat k e q in (
              h.0,
              at_longer (set s.views id v) (right ∷ []) (o.number k) h.0
                  (subst (λ vs. get_elem? vs (o.number k) ≡ some h.0) (sym same) h.1),
              h.2,
            ));
          }

    -- ---- kind 7: joins

    module _ (id : ℕ) (v : View) (other : ℕ) (w : View) (at : get_elem? s.views id ≡ some v) (apart : other ≢ id)
        (there : get_elem? s.views other ≡ some w) where
      abbrev join_with : View → St
      join_with both = record { words = s.words; homes = s.homes; views = set (set s.views id both) other (view_of nothing_known) }

      spent_right : (number : ℕ → ℕ) (j : ℕ) → IsRightView s.words b shard seats number o.holder j nothing_known
      spent_right number j = record {
        constants = λ a q. absurd (let z : None ≡ Some a = q in cc);
        seen = begins_none (events_of b.log);
        met = begins_none (events_of b.log);
        run = λ e q. absurd (let z : None ≡ Some e = q in cc);
        held = λ k x m. absurd (none_among (k, x) m);
      }

      -- the views afterwards
      join_views : (both : View) (K : ℕ → View → Type 0) → K id both → K other (view_of nothing_known)
          → ((j : ℕ) (u : View) → j ≢ id → j ≢ other → get_elem? s.views j ≡ some u → K j u)
          → (j : ℕ) (u : View) → get_elem? (set (set s.views id both) other (view_of nothing_known)) j ≡ some u → K j u
      join_views both K kb kn rest j u e = views_with K (set s.views id both) other (view_of nothing_known) kn
          (λ j d ne q. ⊎_elim (λ (t : (j ≡ id) × (both ≡ d)). subst (λ (x : ℕ × View). K x.0 x.1) (λ i. (sym t.0 i, t.1 i)) kb)
          (λ (t : (j ≢ id) × (get_elem? s.views j ≡ some d)). rest j d t.0 ne t.1) (at_set s.views id j both d q)) j u e

      both_there : (both : View) → get_elem? (set (set s.views id both) other (view_of nothing_known)) id ≡ some both
      both_there both = set_else (set s.views id both) other id (view_of nothing_known) (λ z. apart (sym z))
          ∙ set_here s.views id both (at_within s.views id v at)

      pub join_run_board : v.it.run ≡ None → (d : InstanceData) → w.it.run ≡ Some d
          → ((k : ℕ) (e : InstanceData) → seats k ≡ Some e → e.fields.iteration ≡ k)
          → Board (join_with (view_of (with_run v.it w.it))) b shard seats
      join_run_board idle d run_is named =
          let both : View = view_of (with_run v.it w.it) in
          let number' = with_at o.number d.fields.iteration id in
          let r = o.right id v at in
          let rw = o.right other w there in
          let far : (j : ℕ) (u : View) (e : InstanceData) → j ≢ other → get_elem? s.views j ≡ some u → u.it.run ≡ Some e
          → e.fields.iteration ≢ d.fields.iteration = λ j u e ne q run same. (
          let a = ((o.right j u q).run e run).1 in
          let c = (rw.run d run_is).1 in
          ne (sym a ∙ (ap o.number same ∙ c))) in
          record {
            number = number';
            holder = o.holder;
            words = o.words;
            homes = o.homes;
            places = o.places;
            right = join_views both (λ j u. IsRightView s.words b shard seats number' o.holder j u.it)
                (record {
                  constants = r.constants;
                  seen = r.seen;
                  met = r.met;
                  held = r.held;
                  run = λ e q. (
                      let f : Some d ≡ Some e = sym run_is ∙ q in
                      let g : d ≡ e = cc in (
                        (rw.run e q).0,
                        ap (λ (z : InstanceData). number' z.fields.iteration) (sym g)
                            ∙ with_here o.number d.fields.iteration id,
                      ));
                })
                (spent_right number' other)
                (λ j u ne no q. (let p = o.right j u q in record {
                  constants = p.constants;
                  seen = p.seen;
                  met = p.met;
                  held =
                      p.held;
                  run = λ e run. (let a = p.run e run in (
                    a.0,
                    with_else o.number d.fields.iteration id e.fields.iteration
                        (far j u e no q run) ∙ a.1,
                  ));
                }));
            each_seat = λ k e q. dite (ℕ_discrete k d.fields.iteration)
                (λ same. (
                let f : Some d ≡ Some e = sym (rw.run d run_is).0 ∙ (ap seats (sym same) ∙ q) in
                let g : d ≡ e = cc in (
                  both,
                  ap (λ n. get_elem? (set (set s.views id both) other (view_of nothing_known)) n)
                      (ap number' same ∙ with_here o.number d.fields.iteration id) ∙ both_there both,
                  run_is
                      ∙ ap (λ (z : InstanceData). Some z) g,
                )))
                (λ ne. (
                let h = o.each_seat k e q in
                let no_other : o.number k ≢ other = λ z. (
                let p : h.0 ≡ w = same_at s.views other h.0 w (subst (λ n. get_elem? s.views n ≡ some h.0) z h.1) there in
                let f : Some d ≡ Some e = sym run_is ∙ (sym (ap (λ (u : View). u.it.run) p) ∙ h.2) in
                let g : d ≡ e = cc in
                ne (sym (named k e q) ∙ ap (λ (z : InstanceData). z.fields.iteration) (sym g))) in
                let no_id : o.number k ≢ id = λ z. (
                let p : h.0 ≡ v = same_at s.views id h.0 v (subst (λ n. get_elem? s.views n ≡ some h.0) z h.1) at in
                let f : None ≡ Some e = sym idle ∙ (sym (ap (λ (u : View). u.it.run) p) ∙ h.2) in
                absurd (cc)) in (
                  h.0,
                  ap (λ n. get_elem? (set (set s.views id both) other (view_of nothing_known)) n)
                      (with_else o.number d.fields.iteration id k ne)
                      ∙ (set_else (set s.views id both) other (o.number k) (view_of nothing_known) no_other
                      ∙ (set_else s.views id (o.number k) both no_id ∙ h.1)),
                  h.2,
                )));
          }

      pub join_workers : w.it.run ≡ None → Board (join_with (view_of (joined v.it w.it))) b shard seats
      join_workers idle =
          let both : View = view_of (joined v.it w.it) in
          let r = o.right id v at in
          let q' = o.right other w there in
          record {
            number = o.number;
            holder = o.holder;
            words = o.words;
            homes = o.homes;
            places = o.places;
            right = join_views both (λ j u. IsRightView s.words b shard seats o.number o.holder j u.it)
                (record { constants = r.constants; seen = r.seen; met = q'.seen; held = r.held; run = r.run })
                (spent_right o.number other)
                (λ j u ne no q. o.right j u q);
            each_seat = λ k e q. (
                let h = o.each_seat k e q in
                let no_other : o.number k ≢ other = λ z. (
                let p : h.0 ≡ w = same_at s.views other h.0 w (subst (λ n. get_elem? s.views n ≡ some h.0) z h.1) there in
                let f : None ≡ Some e = sym idle ∙ (sym (ap (λ (u : View). u.it.run) p) ∙ h.2) in
                absurd (cc)) in
                dite (ℕ_discrete (o.number k) id)
                (λ same. (
                  both,
                  subst (λ n. get_elem? (set (set s.views id both) other (view_of nothing_known)) n ≡ some both) (sym same)
                      (both_there both),
                  (let p : h.0 ≡ v = same_at s.views id h.0 v (subst (λ n. get_elem? s.views n ≡ some h.0) same h.1) at in
                      sym (ap (λ (u : View). u.it.run) p) ∙ h.2),
                ))
                (λ ne. (
                  h.0,
                  set_else (set s.views id both) other (o.number k) (view_of nothing_known) no_other
                      ∙ (set_else s.views id (o.number k) both ne ∙ h.1),
                  h.2,
                )));
          }
