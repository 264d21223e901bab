-- Worked choices and texts.
use Rattle.std.specs.Prelude.{◌≡◌, codes}
use Rattle.pipe_gen.specs.Choices.{choice}
use Rattle.pipe_gen.specs.Workload.{input_text, item, source_text}

-- the first choices of the seeds 1 and 0
abbrev pub FirstChoices : Type 0
FirstChoices = (choice 1 1 ≡ 11408) × (choice 1 2 ≡ 1800) × (choice 1 3 ≡ 63) × (choice 0 1 ≡ 47912)

-- the first item of seed 0, and the input of seed 1 and size 3
abbrev pub FirstItems : Type 0
FirstItems = (item 0 1 ≡ 912) × (input_text 1 3 ≡ codes "408\n800\n63\n")

-- the source of size 3
abbrev pub SmallSource : Type 0
SmallSource = source_text 3 ≡ codes
    "limits iterations 3, stages 6, steps 100, emits 3;\ncell sum = 0;\npipe_while (more()) {\n  let x = take();\n  pipe_continue(1);\n  let a = x * 3 + 1;\n  pipe_continue(2);\n  a = a % 1024;\n  pipe_continue(3);\n  a = a * a;\n  pipe_continue(4);\n  a = a % 1000;\n  pipe_wait(5);\n  sum = sum + a;\n  emit sum;\n}\n"
