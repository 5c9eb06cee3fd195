-- The preferences of a backend's address: two hashes of the address, by a byte that is put before it.
use Rattle.std.specs.Prelude.{ℕ, ◌+◌, ◌-◌, ◌%◌, List, ◌∷◌, map}
use Rattle.wire.specs.Fnv.{fnv1a64_of}
use Rattle.maglev.specs.declared.backend.Backend.{Backend}
use Rattle.maglev.specs.declared.preference.Preference.{Preference}

abbrev pub hashed_preference : ℕ → Backend → Preference
hashed_preference size backend = record {
  number = backend.number;
  offset = fnv1a64_of (1 ∷ backend.address.0) % size;
  skip = fnv1a64_of (2 ∷ backend.address.0) % (size - 1) + 1;
}

-- the preference lists of the backends, in the order of the list
abbrev pub hashed_preferences : ℕ → List Backend → List Preference
hashed_preferences size backends = map (hashed_preference size) backends
