-- Reading a file part by part.
use Rattle.std.proofs.Common.{◌≡◌, ◌∙◌, ℕ, ◌+◌, ◌≤◌, ◌<◌, List, ◌++◌, length, take, Option, Some, None, refl, ap, sym, arith, take-add}
use Rattle.std.proofs.Common.{length-append}
use Rattle.std.proofs.lemmas.List.{length-take-le, take_all}
use Rattle.std.specs.Prelude.{IfSome}
use Rattle.pipe_io.specs.declared.files.ReadPart.{ReadPart}
use Rattle.pipe_io.specs.declared.files.ReadPart.TheVariants.{Got, Missing, Failed}
use Rattle.pipe_io.specs.declared.whole.Whole.TheVariants as wholes
use Rattle.pipe_io.specs.Reads.{Content, IsPartAt, ReadsFrom, bytes_read}
use Rattle.pipe_io.specs.WholeFiles.{EndsAt, IsPrefixOf, IsWholeOf}

-- the bytes grow by the part that is read
pub one_part_more : (bytes part new : List ℕ) (n : ℕ) → new ≡ bytes ++ take n part → n ≤ length part → length new ≡ length bytes + n
one_part_more bytes part new n e within =
    ap length e ∙ length-append bytes (take n part) ∙ ap (λ k. length bytes + k) (length-take-le n part within)

-- a prefix of a file and the part after it are a prefix
longer_prefix : (held bytes part new : List ℕ) (n : ℕ) → IsPrefixOf (Some held) bytes → IsPartAt held (length bytes) n part
    → new ≡ bytes ++ take n part → IsPrefixOf (Some held) new
longer_prefix held bytes part new n h p e =
    let all : new ≡ take (length bytes + n) held = e ∙ ap (λ x. x ++ take n part) h.0 ∙ ap (λ x. take (length bytes) held ++ x) p.same
    ∙ sym (take-add (length bytes) n held) in
    let long : length new ≡ length bytes + n = ap length all ∙ length-take-le (length bytes + n) held (omega (arith, p.there, h.1)) in
    (all ∙ ap (λ k. take k held) (sym long), omega (arith, long, p.there, h.1))

-- if the files are known, the bytes stay a prefix
pub prefix_grows : (known : Option Content) (name bytes part new : List ℕ) (place n : ℕ) → place ≡ length bytes
    → IfSome known (λ content. IsPrefixOf (content name) bytes) → IfSome known (λ content. ReadsFrom (content name) place (Got n) part)
    → new ≡ bytes ++ take n part → IfSome known (λ content. IsPrefixOf (content name) new)
prefix_grows None name bytes part new place n here h r e = tt
prefix_grows (Some content) name bytes part new place n here h r e = of_file (content name) h (rw here at r)
  where
    of_file : (held : Option (List ℕ)) → IsPrefixOf held bytes → ReadsFrom held (length bytes) (Got n) part → IsPrefixOf held new
    of_file None h r = absurd r
    of_file (Some held) h r = longer_prefix held bytes part new n h r e

-- if the files are known, and nothing more could be read, the bytes are the whole file
pub ends_there : (known : Option Content) (name bytes part new : List ℕ) (place n : ℕ) → place ≡ length bytes
    → length new ≡ length bytes + n → IfSome known (λ content. ReadsFrom (content name) place (Got n) part)
    → IfSome known (λ content. IsPrefixOf (content name) new) → IfSome known (λ content. EndsAt (content name) new (Got n))
ends_there None name bytes part new place n here long r h = tt
ends_there (Some content) name bytes part new place n here long r h = of_file (content name) (rw here at r) h
  where
    of_file : (held : Option (List ℕ)) → ReadsFrom held (length bytes) (Got n) part → IsPrefixOf held new → EndsAt held new (Got n)
    of_file None r h = absurd r
    of_file (Some held) r h = λ none. let end = r.ends.0 none in h.0 ∙ take_all (length new) held (omega (arith, end, long))

-- a result without bytes
pub none_read : (read : ReadPart) → ((n : ℕ) → read ≡ Got n → ⊥) → bytes_read read ≡ 0
none_read (Got n) never = absurd (never n refl)
none_read Missing never = refl
none_read Failed never = refl

-- it does not say that the file ends
pub ends_nowhere : (known : Option Content) (name bytes part : List ℕ) (place : ℕ) (read : ReadPart) → ((n : ℕ) → read ≡ Got n → ⊥)
    → IfSome known (λ content. ReadsFrom (content name) place read part) → IfSome known (λ content. EndsAt (content name) bytes read)
ends_nowhere None name bytes part place read never r = tt
ends_nowhere (Some content) name bytes part place read never r = of_file (content name) read never r
  where
    of_file : (held : Option (List ℕ)) (read : ReadPart) → ((n : ℕ) → read ≡ Got n → ⊥) → ReadsFrom held place read part
        → EndsAt held bytes read
    of_file held (Got n) never r = absurd (never n refl)
    of_file None Missing never r = tt
    of_file None Failed never r = tt
    of_file (Some held) Missing never r = absurd r
    of_file (Some held) Failed never r = tt

-- after a read of 0 bytes the bytes are the whole file
pub whole_read : (known : Option Content) (name new whole : List ℕ) (limit n : ℕ) (read : ReadPart) → read ≡ Got n → n ≡ 0
    → IfSome known (λ content. EndsAt (content name) new read) → whole ≡ new → length new ≤ limit
    → IfSome known (λ content. IsWholeOf (content name) limit (wholes.Bytes whole))
whole_read None name new whole limit n read is none h e short = tt
whole_read (Some content) name new whole limit n read is none h e short = of_file (content name) (rw is at h)
  where
    of_file : (held : Option (List ℕ)) → EndsAt held new (Got n) → IsWholeOf held limit (wholes.Bytes whole)
    of_file None h = absurd h
    of_file (Some held) h = let all = h none in (e ∙ all, omega (arith, ap length all, short))

-- a prefix that is longer than the limit is of a file that is too long
pub too_long : (known : Option Content) (name bytes whole : List ℕ) (limit : ℕ) → IfSome known (λ content. IsPrefixOf (content name) bytes)
    → whole ≡ bytes → limit < length bytes → IfSome known (λ content. IsWholeOf (content name) limit (wholes.TooLong whole))
too_long None name bytes whole limit h e long = tt
too_long (Some content) name bytes whole limit h e long = of_file (content name) h
  where
    of_file : (held : Option (List ℕ)) → IsPrefixOf held bytes → IsWholeOf held limit (wholes.TooLong whole)
    of_file None h = absurd (omega (arith, ap length h, long))
    of_file (Some held) h = rw e (h, long)

-- only a file that does not exist is missing
pub is_missing : (known : Option Content) (name bytes : List ℕ) (limit : ℕ) (read : ReadPart) → read ≡ Missing
    → IfSome known (λ content. EndsAt (content name) bytes read) → IfSome known (λ content. IsWholeOf (content name) limit wholes.Missing)
is_missing None name bytes limit read is h = tt
is_missing (Some content) name bytes limit read is h = of_file (content name) (rw is at h)
  where
    of_file : (held : Option (List ℕ)) → EndsAt held bytes Missing → IsWholeOf held limit wholes.Missing
    of_file None h = tt
    of_file (Some held) h = absurd h
