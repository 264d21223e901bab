-- One access more is recorded.
use Rattle.std.proofs.Common.{◌≡◌, ◌∙◌, ap, sym, subst, ◌≤◌, List, [], ◌∷◌, ◌++◌, length, drop, append_assoc, append-nil, length-append}
use Rattle.std.proofs.Common.{arith}
use Rattle.std.proofs.Math.Seq.{drop-append_seam}
use Rattle.std.proofs.lemmas.List.{drop-append-le, map-append}
use Rattle.cell_store.specs.ShardState.{IsStateAfter}
use Rattle.pipe_model.specs.declared.access.Access.{Access}
use Rattle.pipe_model.specs.declared.access.NodeAccess.{NodeAccess}
use Rattle.pipe_model.specs.declared.node.NodeId.{NodeId}
use Rattle.pipe_model.specs.Pipelines.Store.{HasReply, InitialStore}
use Rattle.pipe_model.specs.Runs.State.{accesses_of}
use Rattle.serial_elision.specs.declared.log.Log.{Log}
use Rattle.serial_elision.specs.Recording.{Adds, HaveReplies, made_since, placed}

-- replies of two lists of accesses, one after the other
replies_more : (store : InitialStore) (before xs : List Access) (a : Access) → HaveReplies store before xs → HasReply store (before ++ xs) a
    → HaveReplies store before (xs ++ a ∷ [])
replies_more store before [] a h r = (subst (λ l. HasReply store l a) (append-nil before) r, tt)
replies_more store before (x ∷ xs) a h r = (
  h.0,
  replies_more store (before ++ x ∷ []) xs a h.1
      (subst (λ l. HasReply store l a) (sym (append_assoc before (x ∷ []) xs)) r),
)

-- the accesses since then, with one more
pub made_more : (log now now' : Log) (node : NodeId) (made : List Access) (a : Access) → Adds node log made now
    → now'.accesses ≡ now.accesses ++ record { node = node; access = a } ∷ []
    → made_since log now' ≡ made_since log now ++ a ∷ []
made_more log now now' node made a h e =
    let n = length log.accesses in
    let x : NodeAccess = record { node = node; access = a } in
    let enough : n ≤ length now.accesses = omega (arith, ap length h.accesses_are, length-append log.accesses (placed node made)) in
    ap (λ l. accesses_of (drop n l)) e ∙ ap accesses_of (drop-append-le n now.accesses (x ∷ []) enough)
    ∙ map-append (λ (y : NodeAccess). y.access) (drop n now.accesses) (x ∷ [])

-- an access was made, and recorded
pub adds_more : (log now now' : Log) (node : NodeId) (a : Access) → Adds node log (made_since log now) now
    → now'.accesses ≡ now.accesses ++ record { node = node; access = a } ∷ []
    → ((store : InitialStore) (before : List Access) → IsStateAfter store before now.cells
    → IsStateAfter store (before ++ a ∷ []) now'.cells)
    → ((store : InitialStore) (before : List Access) → IsStateAfter store before now.cells → HasReply store before a)
    → Adds node log (made_since log now') now'
adds_more log now now' node a h accesses state reply =
    let made = made_since log now in
    let x : NodeAccess = record { node = node; access = a } in
    subst (λ l. Adds node log l now') (sym (made_more log now now' node made a h accesses)) (record {
      accesses_are = accesses ∙ ap (λ l. l ++ x ∷ []) h.accesses_are ∙ append_assoc log.accesses (placed node made) (x ∷ [])
          ∙ ap (λ l. log.accesses ++ l) (sym (map-append (λ (b : Access). record { node = node; access = b }) made (a ∷ [])));
      cells = λ store before was. subst (λ l. IsStateAfter store l now'.cells) (append_assoc before made (a ∷ []))
          (state store (before ++ made) (h.cells store before was));
      replies = λ store before was. replies_more store before made a (h.replies store before was)
          (reply store (before ++ made) (h.cells store before was));
    })

-- nothing has been recorded since now
drop_all : (xs : List NodeAccess) → drop (length xs) xs ≡ []
drop_all xs = ap (drop (length xs)) (sym (append-nil xs)) ∙ drop-append_seam xs []

pub made_none : (log : Log) → made_since log log ≡ []
made_none log = ap accesses_of (drop_all log.accesses)
