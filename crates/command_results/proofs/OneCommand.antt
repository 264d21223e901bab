-- The words of a call are at most one command, which names at most one source and one input.
use Rattle.std.proofs.Common.{◌≡◌, ◌∙◌, refl, ℕ, ℤ, Bool, List, Option, Some, None, sym, true, false}
use Rattle.pipe_model.specs.declared.event.RunLog.{RunLog}
use Rattle.pipe_model.specs.Language.SyntaxTree.{SyntaxTree}
use Rattle.command_results.specs.CommandFiles.{AsksRun, KeepsLog, NamesInput, NamesRecord, NamesSource, RunsUnder, asks_wave, throttle_in}
use Rattle.command_results.specs.ResultTable.{IsLogOf, OfPlay, OfRun, OfWave}
use Rattle.cilkp_words.specs.Commands.{Command, Run, Play, Serial, Format, Bench, CheckRecord, Wave, Span}

-- the command of the words is unique
pub one_command : {asked : Option Command} {c d : Command} → asked ≡ Some c → asked ≡ Some d → c ≡ d
one_command {asked} {c} {d} w v = let e : Some c ≡ Some d = sym w ∙ v in cc (e)

-- a command that makes a run is not a `serial` command
pub run_is_not_serial : {asked : Option Command} {tree : SyntaxTree} {numbers : List ℤ} {throttle : ℕ} {log : RunLog}
    {other other_input : List ℕ}
    → IsLogOf asked tree numbers throttle log → asked ≡ Some (Serial other other_input) → ⊥
run_is_not_serial {throttle = throttle} {other = other} {other_input = other_input} (OfRun source input workers recording w) v =
    let e : Run source input workers throttle recording ≡ Serial other other_input = one_command w v in cc (e)
run_is_not_serial {throttle = throttle} {other = other} {other_input = other_input} (OfPlay source input workers seed recording w is) v =
    let e : Play source input workers throttle seed recording ≡ Serial other other_input = one_command w v in cc (e)
run_is_not_serial {throttle = throttle} {other = other} {other_input = other_input} (OfWave source input workers w fits) v =
    let e : Wave source input workers throttle ≡ Serial other other_input = one_command w v in cc (e)

-- it is not a `format` command
pub run_is_not_format : {asked : Option Command} {tree : SyntaxTree} {numbers : List ℤ} {throttle : ℕ} {log : RunLog} {other : List ℕ}
    → IsLogOf asked tree numbers throttle log → asked ≡ Some (Format other) → ⊥
run_is_not_format {throttle = throttle} {other = other} (OfRun source input workers recording w) v =
    let e : Run source input workers throttle recording ≡ Format other = one_command w v in cc (e)
run_is_not_format {throttle = throttle} {other = other} (OfPlay source input workers seed recording w is) v =
    let e : Play source input workers throttle seed recording ≡ Format other = one_command w v in cc (e)
run_is_not_format {throttle = throttle} {other = other} (OfWave source input workers w fits) v =
    let e : Wave source input workers throttle ≡ Format other = one_command w v in cc (e)

-- it is not a `bench` command
pub run_is_not_bench : {asked : Option Command} {tree : SyntaxTree} {numbers : List ℤ} {throttle : ℕ} {log : RunLog} {seed size : ℕ}
    → IsLogOf asked tree numbers throttle log → asked ≡ Some (Bench seed size) → ⊥
run_is_not_bench {throttle = throttle} {seed = seed} {size = size} (OfRun source input workers recording w) v =
    let e : Run source input workers throttle recording ≡ Bench seed size = one_command w v in cc (e)
run_is_not_bench {throttle = throttle} {seed = seed} {size = size} (OfPlay source input workers number recording w is) v =
    let e : Play source input workers throttle number recording ≡ Bench seed size = one_command w v in cc (e)
run_is_not_bench {throttle = throttle} {seed = seed} {size = size} (OfWave source input workers w fits) v =
    let e : Wave source input workers throttle ≡ Bench seed size = one_command w v in cc (e)

-- it is not a `check-record` command
pub run_is_not_check : {asked : Option Command} {tree : SyntaxTree} {numbers : List ℤ} {throttle : ℕ} {log : RunLog}
    {other other_input saved : List ℕ}
    {limit : ℕ} → IsLogOf asked tree numbers throttle log → asked ≡ Some (CheckRecord other other_input saved limit) → ⊥
run_is_not_check {throttle = throttle} {other = other} {other_input = other_input} {saved = saved} {limit = limit}
    (OfRun source input workers recording w) v =
    let e : Run source input workers throttle recording ≡ CheckRecord other other_input saved limit = one_command w v in cc (e)
run_is_not_check {throttle = throttle} {other = other} {other_input = other_input} {saved = saved} {limit = limit}
    (OfPlay source input workers seed recording w is) v =
    let e : Play source input workers throttle seed recording ≡ CheckRecord other other_input saved limit = one_command w v in cc (e)
run_is_not_check {throttle = throttle} {other = other} {other_input = other_input} {saved = saved} {limit = limit}
    (OfWave source input workers w fits) v =
    let e : Wave source input workers throttle ≡ CheckRecord other other_input saved limit = one_command w v in cc (e)

-- it is not a `span` command
pub run_is_not_span : {asked : Option Command} {tree : SyntaxTree} {numbers : List ℤ} {throttle : ℕ} {log : RunLog}
    {other other_input : List ℕ}
    → IsLogOf asked tree numbers throttle log → asked ≡ Some (Span other other_input) → ⊥
run_is_not_span {throttle = throttle} {other = other} {other_input = other_input} (OfRun source input workers recording w) v =
    let e : Run source input workers throttle recording ≡ Span other other_input = one_command w v in cc (e)
run_is_not_span {throttle = throttle} {other = other} {other_input = other_input} (OfPlay source input workers seed recording w is) v =
    let e : Play source input workers throttle seed recording ≡ Span other other_input = one_command w v in cc (e)
run_is_not_span {throttle = throttle} {other = other} {other_input = other_input} (OfWave source input workers w fits) v =
    let e : Wave source input workers throttle ≡ Span other other_input = one_command w v in cc (e)

-- it returns the log of its run
pub run_keeps_log : {asked : Option Command} {tree : SyntaxTree} {numbers : List ℤ} {throttle : ℕ} {log : RunLog}
    → IsLogOf asked tree numbers throttle log
    → KeepsLog asked
run_keeps_log (OfRun source input workers recording w) = rw w refl
run_keeps_log (OfPlay source input workers seed recording w is) = rw w refl
run_keeps_log (OfWave source input workers w fits) = rw w refl

-- a `run` command is not a `play` command
pub run_is_not_play : {asked : Option Command} {source input other other_input : List ℕ} {workers throttle others limit seed : ℕ}
    {recording records : Bool}
    → asked ≡ Some (Run source input workers throttle recording) → asked ≡ Some (Play other other_input others limit seed records) → ⊥
run_is_not_play {source = source} {input = input} {other = other} {other_input = other_input} {workers = workers} {throttle = throttle}
    {others = others} {limit = limit} {seed = seed} {recording = recording} {records = records} w v =
    let e : Run source input workers throttle recording ≡ Play other other_input others limit seed records = one_command w v in cc (e)

-- a `play` command has one number of workers, one throttling limit and one seed
pub record IsOnePlay (workers others throttle limit seed number : ℕ) : Type 0 where
  pub workers_are : workers ≡ others
  pub throttle_is : throttle ≡ limit
  pub seed_is : seed ≡ number

pub one_play : {asked : Option Command} {source input other other_input : List ℕ} {workers throttle seed others limit number : ℕ}
    {recording records : Bool}
    → asked ≡ Some (Play source input workers throttle seed recording) → asked ≡ Some (Play other other_input others limit number records)
    → IsOnePlay workers others throttle limit seed number
one_play {source = source} {input = input} {other = other} {other_input = other_input} {workers = workers} {throttle = throttle}
    {seed = seed} {others = others} {limit = limit} {number = number} {recording = recording} {records = records} w v =
    let e : Play source input workers throttle seed recording ≡ Play other other_input others limit number records = one_command w v in
    record { workers_are = cc (e); throttle_is = cc (e); seed_is = cc (e) }

-- it has one throttling limit
pub one_limit : {asked : Option Command} {tree : SyntaxTree} {numbers : List ℤ} {throttle other : ℕ} {log : RunLog}
    → IsLogOf asked tree numbers throttle log
    → RunsUnder asked other → throttle ≡ other
one_limit {throttle = throttle} {other = other} (OfRun source input workers recording w) v = let e : Some throttle ≡ Some other =
    rw w at v in cc (e)
one_limit {throttle = throttle} {other = other} (OfPlay source input workers seed recording w is) v = let e : Some throttle ≡ Some other =
    rw w at v in cc (e)
one_limit {throttle = throttle} {other = other} (OfWave source input workers w fits) v = let e : None ≡ Some other = rw w at v in
    absurd (cc (e))

-- a command with such a limit takes its source as it is
pub runs_no_wave : (asked : Option Command) (throttle : ℕ) → RunsUnder asked throttle → asks_wave asked ≡ false
runs_no_wave None throttle v = refl
runs_no_wave (Some (Run source input workers limit recording)) throttle v = refl
runs_no_wave (Some (Play source input workers limit seed recording)) throttle v = refl
runs_no_wave (Some (Serial source input)) throttle v = refl
runs_no_wave (Some (Format source)) throttle v = refl
runs_no_wave (Some (Bench seed size)) throttle v = refl
runs_no_wave (Some (CheckRecord source input saved limit)) throttle v = refl
runs_no_wave (Some (Wave source input workers limit)) throttle v = absurd (let e : None ≡ Some throttle = v in cc (e))
runs_no_wave (Some (Span source input)) throttle v = refl

-- a command without a run makes none
pub runs_nothing : {asked : Option Command} {c : Command} {throttle : ℕ} → asked ≡ Some c → throttle_in c ≡ None → RunsUnder asked throttle
    → ⊥
runs_nothing {asked} {c} {throttle} w none v = let e : None ≡ Some throttle = sym none ∙ rw w at v in cc (e)

-- a `serial` command is not a `format` command
pub serial_is_not_format : {asked : Option Command} {source input other : List ℕ} → asked ≡ Some (Serial source input)
    → asked ≡ Some (Format other) → ⊥
serial_is_not_format {asked} {source} {input} {other} w v = let e : Serial source input ≡ Format other = one_command w v in cc (e)

-- words that are no command have no source
pub no_source : {asked : Option Command} {source : List ℕ} → asked ≡ None → NamesSource asked source → ⊥
no_source {asked} {source} n w = let e : None ≡ Some source = rw n at w in cc (e)

-- nor an input
pub no_input : {asked : Option Command} {input : List ℕ} → asked ≡ None → NamesInput asked input → ⊥
no_input {asked} {input} n w = let e : None ≡ Some input = rw n at w in cc (e)

-- nor a record
pub no_record : {asked : Option Command} {saved : List ℕ} → asked ≡ None → NamesRecord asked saved → ⊥
no_record {asked} {saved} n w = let e : None ≡ Some saved = rw n at w in cc (e)

-- they are not a command
pub no_command : {asked : Option Command} {c : Command} → asked ≡ None → asked ≡ Some c → ⊥
no_command {asked} {c} n w = let e : None ≡ Some c = sym n ∙ w in cc (e)

-- a `format` command has no input
pub format_has_no_input : {asked : Option Command} {source input : List ℕ} → asked ≡ Some (Format source) → NamesInput asked input → ⊥
format_has_no_input {asked} {source} {input} v w = let e : None ≡ Some input = rw v at w in cc (e)

-- it keeps no log
pub format_keeps_no_log : {asked : Option Command} {source : List ℕ} → asked ≡ Some (Format source) → KeepsLog asked → ⊥
format_keeps_no_log w keeps = let d : false ≡ true = rw w at keeps in cc (d)

-- it is no `run` command
pub format_asks_no_run : {asked : Option Command} {source : List ℕ} → asked ≡ Some (Format source) → AsksRun asked → ⊥
format_asks_no_run w asks = let d : false ≡ true = rw w at asks in cc (d)

-- words that are no command make no run
pub no_run : {asked : Option Command} {tree : SyntaxTree} {numbers : List ℤ} {throttle : ℕ} {log : RunLog} → asked ≡ None
    → IsLogOf asked tree numbers throttle log → ⊥
no_run n (OfRun source input workers recording w) = no_command n w
no_run n (OfPlay source input workers seed recording w is) = no_command n w
no_run n (OfWave source input workers w fits) = no_command n w

-- and are under no throttling limit
pub runs_no_command : {asked : Option Command} {throttle : ℕ} → asked ≡ None → RunsUnder asked throttle → ⊥
runs_no_command {asked} {throttle} n w = let e : None ≡ Some throttle = rw n at w in cc (e)

-- `bench` is none of the other commands
pub serial_is_not_bench : {asked : Option Command} {source input : List ℕ} {seed size : ℕ} → asked ≡ Some (Serial source input)
    → asked ≡ Some (Bench seed size) → ⊥
serial_is_not_bench {asked} {source} {input} {seed} {size} w v = let e : Serial source input ≡ Bench seed size = one_command w v in cc (e)

pub format_is_not_bench : {asked : Option Command} {source : List ℕ} {seed size : ℕ} → asked ≡ Some (Format source)
    → asked ≡ Some (Bench seed size) → ⊥
format_is_not_bench {asked} {source} {seed} {size} w v = let e : Format source ≡ Bench seed size = one_command w v in cc (e)

-- it has no source and no input
pub bench_has_no_source : {asked : Option Command} {source : List ℕ} {seed size : ℕ} → asked ≡ Some (Bench seed size)
    → NamesSource asked source → ⊥
bench_has_no_source {asked} {source} v w = let e : None ≡ Some source = rw v at w in cc (e)

pub bench_has_no_input : {asked : Option Command} {input : List ℕ} {seed size : ℕ} → asked ≡ Some (Bench seed size)
    → NamesInput asked input → ⊥
bench_has_no_input {asked} {input} v w = let e : None ≡ Some input = rw v at w in cc (e)

pub bench_has_no_record : {asked : Option Command} {saved : List ℕ} {seed size : ℕ} → asked ≡ Some (Bench seed size)
    → NamesRecord asked saved → ⊥
bench_has_no_record {asked} {saved} v w = let e : None ≡ Some saved = rw v at w in cc (e)

-- it keeps no log
pub bench_keeps_no_log : {asked : Option Command} {seed size : ℕ} → asked ≡ Some (Bench seed size) → KeepsLog asked → ⊥
bench_keeps_no_log w keeps = let d : false ≡ true = rw w at keeps in cc (d)

-- it is no `run` command
pub bench_asks_no_run : {asked : Option Command} {seed size : ℕ} → asked ≡ Some (Bench seed size) → AsksRun asked → ⊥
bench_asks_no_run w asks = let d : false ≡ true = rw w at asks in cc (d)

-- it has one seed and one size
pub one_bench : {asked : Option Command} {seed size other others : ℕ} → asked ≡ Some (Bench seed size) → asked ≡ Some (Bench other others)
    → (seed ≡ other) × (size ≡ others)
one_bench {asked} {seed} {size} {other} {others} w v = let e : Bench seed size ≡ Bench other others = one_command w v in (cc (e), cc (e))

-- the words do not ask for two different commands
pub apart : {asked : Option Command} {c d : Command} → asked ≡ Some c → asked ≡ Some d → (c ≡ d → ⊥) → ⊥
apart w v other = other (one_command w v)

-- a command that takes its source as a wave loop is `wave`
pub record IsWaveCommand (asked : Option Command) : Type 0 where
  pub source : List ℕ
  pub input : List ℕ
  pub workers : ℕ
  pub throttle : ℕ
  pub command : asked ≡ Some (Wave source input workers throttle)

pub wave_command : (asked : Option Command) → asks_wave asked ≡ true → IsWaveCommand asked
wave_command None is = cc (is)
wave_command (Some (Run source input workers throttle recording)) is = cc (is)
wave_command (Some (Play source input workers throttle seed recording)) is = cc (is)
wave_command (Some (Serial source input)) is = cc (is)
wave_command (Some (Format source)) is = cc (is)
wave_command (Some (Bench seed size)) is = cc (is)
wave_command (Some (CheckRecord source input saved throttle)) is = cc (is)
wave_command (Some (Span source input)) is = cc (is)
wave_command (Some (Wave source input workers throttle)) is =
    record { source = source; input = input; workers = workers; throttle = throttle; command = refl }

-- a `check-record` command has one name of its record and one throttling limit
pub record IsOneCheck (saved name : List ℕ) (throttle limit : ℕ) : Type 0 where
  pub saved_is : saved ≡ name
  pub throttle_is : throttle ≡ limit

pub one_check : {asked : Option Command} {source input saved other other_input name : List ℕ} {throttle limit : ℕ}
    → asked ≡ Some (CheckRecord source input saved throttle) → asked ≡ Some (CheckRecord other other_input name limit)
    → IsOneCheck saved name throttle limit
one_check {source = source} {input = input} {saved = saved} {other = other} {other_input = other_input} {name = name} {throttle = throttle}
    {limit = limit} w v =
    let e : CheckRecord source input saved throttle ≡ CheckRecord other other_input name limit = one_command w v in
    record { saved_is = cc (e); throttle_is = cc (e) }
