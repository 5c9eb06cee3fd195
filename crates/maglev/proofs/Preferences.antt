-- What a preference list has: a permutation of the slots, and what is left of one is one itself.
use Rattle.std.proofs.Common.{◌≡◌, ℕ, ◌+◌, ◌*◌, ◌%◌, ap, ◌∙◌, arith}
use Rattle.std.proofs.Math.Nat.{mod-lt, mod-add-mod}
use Rattle.maglev.specs.declared.preference.Preference.{Preference}
use Rattle.maglev.specs.Population.{preferred_slot, IsPreference, IsPermutationOfSlots}
use Rattle.maglev.specs.RingSize.{IsRingSize}
use Rattle.maglev.proofs.Residues.{inverse, same_multiple, multiple_at}
use Rattle.maglev.proofs.Sizes.{prime_size, size_bounds}

-- each preference list is a permutation of the slots
pub IsPermutationOfSlots-from_prime : (size : ℕ) (preference : Preference) → IsRingSize size → IsPreference size preference → IsPermutationOfSlots size preference
IsPermutationOfSlots-from_prime size preference served fits =
    let bounds = size_bounds size served in
    let inverted = inverse size preference.skip (omega arith) (prime_size size served) fits.skip_positive fits.skip_below in
    record {
      within = λ choice _. mod-lt (preference.offset + choice * preference.skip) (omega arith);
      every_slot = λ slot below. multiple_at size preference.offset preference.skip inverted.0 slot inverted.1 fits.offset_below below;
      once = λ i j i_below j_below same. same_multiple size preference.offset preference.skip inverted.0 i j inverted.1 fits.offset_below i_below j_below same;
    }

-- the list from place `passed` on begins at the slot preferred there
pub preferred_slot-later : (size offset skip passed choice : ℕ) (number : ℕ)
    → preferred_slot size (record { number = number; offset = (offset + passed * skip) % size; skip = skip }) choice
    ≡ preferred_slot size (record { number = number; offset = offset; skip = skip }) (passed + choice)
preferred_slot-later size offset skip passed choice number =
    let sums : offset + passed * skip + choice * skip ≡ offset + (passed + choice) * skip = omega arith in
    mod-add-mod (offset + passed * skip) size (choice * skip) ∙ ap (λ z. z % size) sums
