-- The numbers of every command that words ask for are within their ranges.
use Rattle.std.proofs.Common.{◌≡◌, ◌≤◌, ◌*◌, refl, subst, option_map, ℕ, Bool, true}
use Rattle.std.proofs.Common.{false, List, Option, Some, IfSome, arith, codes, option_and_then, None}
use Rattle.std.proofs.Common.{if◌then◌else◌}
use Rattle.std.proofs.lemmas.Bool.Decides.{nat_tests}
use Rattle.std.proofs.lemmas.Option.{same_Some}
use Rattle.std.specs.Str.{bytes_eq}
use Rattle.clap.specs.Walk.{Row, Text, first_of}
use Rattle.cilkp_words.specs.CommandRanges.{IsInRange}
use Rattle.cilkp_words.specs.Commands.{Command}
use Rattle.cilkp_words.specs.CommandWords.{bench_of, check_record_of, command_named, files_of, format_of, play_of, run_of, run_words_of}
use Rattle.cilkp_words.specs.CommandWords.{seed_of, serial_of, sizes_of, span_of, throttle_of, wave_of, workers_of}
use Rattle.cilkp_words.specs.OptionNumbers.{number_in, number_or}
use Rattle.cilkp_words.specs.declared.ranges.TheConstants.{DEFAULT_SEED, DEFAULT_SIZE, DEFAULT_WORKERS, MOST_THROTTLE, MOST_WORKERS}
use Rattle.cilkp_words.specs.declared.ranges.TheConstants.{THROTTLE_PER_WORKER}
use Rattle.pipe_gen.specs.declared.choices.TheConstants.{MOST_SEED}
use Rattle.pipe_gen.specs.declared.workload.TheConstants.{MOST_SIZE}

-- what follows a value has a property if it has it for each value
after : {A B : Type 0} (found : Option A) (f : A → Option B) (P : B → Type 0) → ((a : A) → found ≡ Some a → IfSome (f a) P)
    → IfSome (option_and_then f found) P
after None f P each = tt
after (Some a) f P each = each a refl

-- a value that was found has the property of what is found
of_some : {A : Type 0} (found : Option A) (a : A) (P : A → Type 0) → found ≡ Some a → IfSome found P → P a
of_some found a P is p = subst (λ f. IfSome f P) is p

-- both branches have a property
branches : {B : Type 0} (b : Bool) (x y : Option B) (P : B → Type 0) → IfSome x P → IfSome y P → IfSome (if b then x else y) P
branches true x y P p q = p
branches false x y P p q = q

-- the number of a word
number_between : (least most : ℕ) (word : Text) (n : ℕ) → number_in least most word ≡ Some n → (least ≤ n) × (n ≤ most)
number_between least most word n found = grind (arith, nat_tests)

-- the number of an option
option_between : (default least most : ℕ) (word : Option Text) (n : ℕ) → least ≤ default → default ≤ most
    → number_or default least most word ≡ Some n
    → (least ≤ n) × (n ≤ most)
option_between default least most None n low high found = let between : (least ≤ default) × (default ≤ most) = (low, high) in
    rw (same_Some default n found) at between
option_between default least most (Some word) n low high found = number_between least most word n found

-- a number of workers and a throttling limit
abbrev AreSizes : ℕ × ℕ → Type 0
AreSizes s = ((1 ≤ s.0) × (s.0 ≤ MOST_WORKERS)) × ((1 ≤ s.1) × (s.1 ≤ MOST_THROTTLE))

-- the options that several subcommands have
workers_between : (rows : List Row) (workers : ℕ) → workers_of rows ≡ Some workers → (1 ≤ workers) × (workers ≤ MOST_WORKERS)
workers_between rows workers is = option_between DEFAULT_WORKERS 1 MOST_WORKERS (first_of (codes "workers") rows) workers (omega arith)
    (omega arith) is

throttle_between : (rows : List Row) (workers throttle : ℕ) → (1 ≤ workers) × (workers ≤ MOST_WORKERS)
    → throttle_of workers rows ≡ Some throttle
    → (1 ≤ throttle) × (throttle ≤ MOST_THROTTLE)
throttle_between rows workers throttle (some, bounded) is =
    option_between (THROTTLE_PER_WORKER * workers) 1 MOST_THROTTLE (first_of (codes "throttle") rows) throttle (omega (arith, some))
    (omega (arith, bounded)) is

seed_between : (rows : List Row) (seed : ℕ) → seed_of rows ≡ Some seed → seed ≤ MOST_SEED
seed_between rows seed is = (option_between DEFAULT_SEED 0 MOST_SEED (first_of (codes "seed") rows) seed (omega arith) (omega arith) is).1

-- what is made of a value has a property if it has it for each value
made_of : {A B : Type 0} (found : Option A) (f : A → B) (P : B → Type 0) → ((a : A) → found ≡ Some a → P (f a))
    → IfSome (option_map f found) P
made_of None f P each = tt
made_of (Some a) f P each = each a refl

-- what several commands have
sizes_between : (rows : List Row) → IfSome (sizes_of rows) AreSizes
sizes_between rows =
    after (workers_of rows) _ AreSizes (λ workers is.
    let w = workers_between rows workers is in
    made_of (throttle_of workers rows) _ AreSizes (λ throttle also. (w, throttle_between rows workers throttle w also)))

run_words_between : (rows : List Row) → IfSome (run_words_of rows) (λ w. AreSizes w.1)
run_words_between rows =
    after (files_of rows) _ (λ w. AreSizes w.1) (λ files d.
    made_of (sizes_of rows) _ (λ w. AreSizes w.1) (λ sizes is. of_some (sizes_of rows) sizes AreSizes is (sizes_between rows)))

-- `run`
run_between : (rows : List Row) → IfSome (run_of rows) IsInRange
run_between rows =
    made_of (run_words_of rows) _ IsInRange (λ w is. of_some (run_words_of rows) w (λ v. AreSizes v.1) is (run_words_between rows))

-- `wave`
wave_between : (rows : List Row) → IfSome (wave_of rows) IsInRange
wave_between rows =
    made_of (run_words_of rows) _ IsInRange (λ w is. of_some (run_words_of rows) w (λ v. AreSizes v.1) is (run_words_between rows))

-- `play`
play_between : (rows : List Row) → IfSome (play_of rows) IsInRange
play_between rows =
    after (run_words_of rows) _ IsInRange (λ w is.
    let sizes = of_some (run_words_of rows) w (λ v. AreSizes v.1) is (run_words_between rows) in
    made_of (seed_of rows) _ IsInRange (λ seed also. (sizes.0, (sizes.1, seed_between rows seed also))))

-- `bench`
bench_between : (rows : List Row) → IfSome (bench_of rows) IsInRange
bench_between rows =
    after (seed_of rows) _ IsInRange (λ seed is.
    made_of (number_or DEFAULT_SIZE 1 MOST_SIZE (first_of (codes "size") rows)) _ IsInRange (λ size also. (
      seed_between rows seed is,
      option_between DEFAULT_SIZE 1 MOST_SIZE (first_of (codes "size") rows) size (omega arith) (omega arith) also,
    )))

-- `check-record`
check_record_between : (rows : List Row) → IfSome (check_record_of rows) IsInRange
check_record_between rows =
    after (files_of rows) _ IsInRange (λ files d.
    after (first_of (codes "record") rows) _ IsInRange (λ saved e.
    made_of (number_or MOST_THROTTLE 1 MOST_THROTTLE (first_of (codes "throttle") rows)) _ IsInRange (λ throttle is.
    option_between MOST_THROTTLE 1 MOST_THROTTLE (first_of (codes "throttle") rows) throttle (omega arith) (omega arith) is)))

-- `serial`, `span` and `format` have no numbers
serial_between : (rows : List Row) → IfSome (serial_of rows) IsInRange
serial_between rows = made_of (files_of rows) _ IsInRange (λ files d. tt)

span_between : (rows : List Row) → IfSome (span_of rows) IsInRange
span_between rows = made_of (files_of rows) _ IsInRange (λ files d. tt)

format_between : (rows : List Row) → IfSome (format_of rows) IsInRange
format_between rows = made_of (first_of (codes "source") rows) _ IsInRange (λ source d. tt)

-- the command of a subcommand
named_between : (name : Text) (rows : List Row) → IfSome (command_named name rows) IsInRange
named_between name rows =
    branches (bytes_eq name (codes "run")) _ _ IsInRange (run_between rows)
    (branches (bytes_eq name (codes "play")) _ _ IsInRange (play_between rows)
    (branches (bytes_eq name (codes "serial")) _ _ IsInRange (serial_between rows)
    (branches (bytes_eq name (codes "format")) _ _ IsInRange (format_between rows)
    (branches (bytes_eq name (codes "bench")) _ _ IsInRange (bench_between rows)
    (branches (bytes_eq name (codes "check-record")) _ _ IsInRange (check_record_between rows)
    (branches (bytes_eq name (codes "wave")) _ _ IsInRange (wave_between rows)
    (branches (bytes_eq name (codes "span")) _ _ IsInRange (span_between rows) tt)))))))

-- the command of the subcommand that was given, if one was
pub command_between : (found : Option Command) (given : Option (Text × List Row)) → found ≡ option_and_then
    (λ p. command_named p.0 p.1) given
    → IfSome found IsInRange
command_between found given is = rw is (after given _ IsInRange (λ p d. named_between p.0 p.1))
