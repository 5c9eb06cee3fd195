-- The sizes of lookup tables that are served.
use Rattle.std.proofs.Common.{◌≡◌, ◌⊎◌, inl, inr, ℕ, zero, suc, ◌<◌, length, sym, arith}
use Rattle.std.specs.Prelude.{slice_index_or}
use Rattle.maglev.specs.RingSize.{IsRingSize, ring_sizes}
use Rattle.conntrack.specs.SteeringMaps.{ring_entries}

-- the maps of steering tell the table's size, of those that are served
pub four_sizes : (size : ℕ) → IsRingSize size → (size ≡ 7) ⊎ ((size ≡ 251) ⊎ ((size ≡ 4093) ⊎ (size ≡ 65537)))
four_sizes size served = at_place served.0 served.1 served.2
  where
    at_place : (place : ℕ) → place < length ring_sizes → slice_index_or ring_sizes place size ≡ size →
        (size ≡ 7) ⊎ ((size ≡ 251) ⊎ ((size ≡ 4093) ⊎ (size ≡ 65537)))
    at_place zero below is = inl (sym is)
    at_place (suc zero) below is = inr (inl (sym is))
    at_place (suc (suc zero)) below is = inr (inr (inl (sym is)))
    at_place (suc (suc (suc zero))) below is = inr (inr (inr (sym is)))
    at_place (suc (suc (suc (suc place)))) below is = absurd (omega (arith, below))

pub one_size : (size other : ℕ) → IsRingSize size → IsRingSize other → ring_entries size ≡ ring_entries other → size ≡ other
one_size size other served served' same =
    let one = four_sizes size served in
    let two = four_sizes other served' in
    omega (arith, one, two, same)
