-- Which words are a command.
use Rattle.std.specs.Prelude.{ℕ, ◌≤◌, Bool, true, false, List, [], ◌∷◌, Option, None, Some, nat_eq, option_map, option_and_then, codes, if◌then◌else◌}
use Rattle.std.specs.Cmp.Lexicographic.{pointwise}
use Rattle.text_lines.specs.Number.{number_within}
use Rattle.bqd.specs.declared.command.Command.{Command}
use Rattle.bqd.specs.declared.command.Command.TheVariants.{Run, Gen, Check, Play, Drill}

-- the most hands that a run has
abbrev pub most_hands : ℕ
most_hands = 16

-- the most dequeues that a hand makes as one
abbrev pub most_batch : ℕ
most_batch = 256

-- the most jobs of a file that is made up
abbrev pub most_generated : ℕ
most_generated = 500000

-- the word is this text, letter by letter
abbrev pub is_word : List ℕ → List ℕ → Bool
is_word text word = pointwise nat_eq word text

-- `run` with these numbers of hands and of dequeues
abbrev pub run_in : List ℕ → List ℕ → Option Command
run_in hands batch = option_and_then (λ h. option_map (λ b. Run h b) (number_within 1 most_batch batch)) (number_within 1 most_hands hands)

-- `gen` with this number of jobs
abbrev pub gen_in : List ℕ → Option Command
gen_in jobs = option_map Gen (number_within 0 most_generated jobs)

-- `drill` with these numbers of jobs, of hands and of dequeues
abbrev pub drill_in : List ℕ → List ℕ → List ℕ → Option Command
drill_in jobs hands batch = option_and_then (λ n. option_and_then (λ h. option_map (λ b. Drill n h b) (number_within 1 most_batch batch)) (number_within 1 most_hands hands)) (number_within 0 most_generated jobs)

-- the commands of one word
abbrev pub alone : List ℕ → Option Command
alone name = if is_word (codes "check") name then Some Check else if is_word (codes "play") name then Some Play else None

-- the command that the words after the program's name are: `run` with two numbers, `drill` with three, `gen` with one,
-- or `check` or `play` alone
abbrev pub command_in : List (List ℕ) → Option Command
command_in (name ∷ hands ∷ batch ∷ []) = if is_word (codes "run") name then run_in hands batch else None
command_in (name ∷ jobs ∷ hands ∷ batch ∷ []) = if is_word (codes "drill") name then drill_in jobs hands batch else None
command_in (name ∷ jobs ∷ []) = if is_word (codes "gen") name then gen_in jobs else None
command_in (name ∷ []) = alone name
command_in _ = None

-- the numbers of a command are those that it may have
abbrev pub IsInRange : Command → Type 0
IsInRange (Run hands batch) = ((1 ≤ hands) × (hands ≤ most_hands)) × ((1 ≤ batch) × (batch ≤ most_batch))
IsInRange (Gen jobs) = jobs ≤ most_generated
IsInRange (Drill jobs hands batch) = (jobs ≤ most_generated) × ((1 ≤ hands) × (hands ≤ most_hands)) × ((1 ≤ batch) × (batch ≤ most_batch))
IsInRange Check = Unit {0}
IsInRange Play = Unit {0}

-- whether a command reads its input
abbrev pub reads : Option Command → Bool
reads None = false
reads (Some (Run hands batch)) = true
reads (Some (Gen jobs)) = false
reads (Some (Drill jobs hands batch)) = false
reads (Some Check) = true
reads (Some Play) = true

-- whether a command runs jobs
abbrev pub runs : Option Command → Bool
runs None = false
runs (Some (Run hands batch)) = true
runs (Some (Gen jobs)) = false
runs (Some (Drill jobs hands batch)) = true
runs (Some Check) = false
runs (Some Play) = false

-- whether a command judges a history
abbrev pub checks : Option Command → Bool
checks (Some Check) = true
checks _ = false
