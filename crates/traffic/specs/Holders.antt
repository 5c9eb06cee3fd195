-- Which backend has an address: the only number with which a script names it.
use Rattle.std.specs.Prelude.{ℕ, ◌==◌, List, [], ◌∷◌, Option, Some, None, if◌then◌else◌}
use Rattle.std.specs.Ordering.{nat_cmp}
use Rattle.std.specs.BTreeMap.{get}
use Rattle.traffic.specs.declared.backends.Backends.{Backends}
use Rattle.traffic.specs.declared.backends.Holder.{Holder}
use Rattle.traffic.specs.declared.backends.Holder.TheVariants.{One, Several}

-- who has an address that one number more is named with
abbrev pub merged : Option Holder → ℕ → Holder
merged None number = One number
merged (Some (One other)) number = if other == number then One number else Several
merged (Some Several) number = Several

-- who has an address after a backend was named, by its number and its address
abbrev pub holder_after : ℕ → ℕ → ℕ → Option Holder → Option Holder
holder_after number named address older = if named == address then Some (merged older number) else older

-- who has an address by backends as (number, address), the newest first
abbrev pub holder_among : ℕ → List (ℕ × ℕ) → Option Holder
holder_among address [] = None
holder_among address (backend ∷ older) = holder_after backend.0 backend.1 address (holder_among address older)

abbrev pub only_number : Option Holder → Option ℕ
only_number None = None
only_number (Some (One number)) = Some number
only_number (Some Several) = None

-- what a table has for an address
abbrev pub holder_in : Backends → ℕ → Option Holder
holder_in table address = get nat_cmp table.holders address
