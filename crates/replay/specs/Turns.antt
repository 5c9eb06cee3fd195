-- The turns of an exact replay, one after the other: the order in which commands, records and rounds come.
use Rattle.std.specs.Prelude.{ℕ, zero, suc, ◌-◌, ◌%◌, ◌==◌, List, [], ◌∷◌, ◌++◌, map, length, if◌then◌else◌}
use Rattle.actors.specs.Actors.{numbers_from}
pub use Rattle.actors.specs.Actors.{due_to}
pub use Rattle.guarantees.specs.TurnByTurn.{Turn, TheCommand, TheRecord, TheRound}

-- how many commands were due before
abbrev pub due_before : List ℕ → ℕ → ℕ
due_before starts zero = 0
due_before starts (suc number) = due_to starts number

-- the commands from one number up to another
abbrev pub commands_between : ℕ → ℕ → List Turn
commands_between from end = map (λ (number : ℕ). TheCommand number) (numbers_from from (end - from))

-- a round comes after every 64 records
abbrev pub rounds_at : ℕ → List Turn
rounds_at number = if number % 64 == 0 then TheRound ∷ [] else []

-- the turns of N records: before each record the commands that are due, then the record, then a round, if it is its time
abbrev pub turns_to : List ℕ → ℕ → List Turn
turns_to starts zero = []
turns_to starts (suc number) =
    turns_to starts number ++
    (commands_between (due_before starts number) (due_to starts number) ++ TheRecord number ∷ rounds_at (suc number))

-- all turns: behind the last record the commands that are left, and the last round
abbrev pub all_turns : List ℕ → ℕ → List Turn
all_turns starts records = turns_to starts records ++ (commands_between (due_before starts records) (length starts) ++ TheRound ∷ [])
