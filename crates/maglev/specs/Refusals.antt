-- Which lists of backends are refused.
use Rattle.std.specs.Prelude.{◌≡◌, ℕ, ◌<◌, ◌⊎◌, List, length, slice_get, map}
use Rattle.maglev.specs.declared.backend.Backend.{Backend}

-- an element is in the list again later
pub record HasRepeat {X : Type 0} (xs : List X) : Type 0 where
  pub first : ℕ
  pub later : ℕ
  pub before : first < later
  pub within : later < length xs
  pub same : slice_get xs first ≡ slice_get xs later

-- more backends than 256, or than slots
abbrev pub AreTooMany : ℕ → ℕ → Type 0
AreTooMany size count = (256 < count) ⊎ (size < count)

-- the numbers of the backends, in the order of the list
abbrev pub backend_numbers : List Backend → List ℕ
backend_numbers backends = map (λ backend. backend.number) backends

-- two of the backends have one number, or one address
abbrev pub HaveRepeat : List Backend → Type 0
HaveRepeat backends = HasRepeat (backend_numbers backends) ⊎ HasRepeat (map (λ backend. backend.address) backends)
