-- Ports whose replies are counted.
use Rattle.std.specs.Prelude.{◌≡◌, ℕ, ◌+◌, ◌%◌, ◌^◌}
use Rattle.semantics.specs.declared.call.Caller.{Caller}

-- the count of one reply more; it wraps where no replay comes
abbrev pub next_count : ℕ → ℕ
next_count count = (count + 1) % 2 ^ 64

-- of this many more
abbrev pub count_after : ℕ → ℕ → ℕ
count_after count replies = (count + replies) % 2 ^ 64

-- a reply of the port within, which is counted
pub record IsReplyCounted (given : Type 0) (who who' : Caller) (count count' : ℕ) : Type 0 where
  pub given_within : given
  pub same_actor : who' ≡ who
  pub one_more : count' ≡ next_count count

-- a refusal of the port within, which is not
pub record IsRefusalUncounted (refused : Type 0) (who who' : Caller) (count count' : ℕ) : Type 0 where
  pub refused_within : refused
  pub same_actor : who' ≡ who
  pub same_count : count' ≡ count
