-- What the outer header has in its fields, and that its checksum verifies.
use Rattle.std.proofs.Common.{◌≡◌, ℕ, ◌+◌, ◌*◌, ◌/◌, ◌%◌, [], ◌∷◌, ◌++◌, length, get_or, refl, arith}
use Rattle.std.proofs.lemmas.Grind.{common_steps}
use Rattle.wire.specs.BigEndian.{be_word_at}
use Rattle.wire.specs.Checksum.{ones_sum_of, ComplementInPlace}
use Rattle.ipip.specs.declared.ends.Tunnel.{Tunnel}
use Rattle.ipip.specs.Encapsulation.{header_with, outer_header}

-- the sum over the header is all ones
pub outer_header-verifies : (service total : ℕ) (tunnel : Tunnel) → ComplementInPlace (header_with 0 service total tunnel) → ones_sum_of (outer_header service total tunnel) ≡ 65535
unfolding outer_header
outer_header-verifies service total tunnel law =
    law (0x45 ∷ service ∷ total / 256 ∷ total % 256 ∷ 0 ∷ 0 ∷ 0x40 ∷ 0 ∷ 64 ∷ 4 ∷ []) (tunnel.source.0 ++ tunnel.target.0) refl refl

pub outer_header-length : (service total : ℕ) (tunnel : Tunnel) → length tunnel.source.0 ≡ 4 → length tunnel.target.0 ≡ 4 → length (outer_header service total tunnel) ≡ 20
unfolding outer_header
outer_header-length service total tunnel four four' = grind (arith, common_steps)

pub outer_header-version : (service total : ℕ) (tunnel : Tunnel) → get_or (outer_header service total tunnel) 0 0 ≡ 0x45
unfolding outer_header
outer_header-version service total tunnel = refl

pub outer_header-total : (service total : ℕ) (tunnel : Tunnel) → be_word_at 2 (outer_header service total tunnel) ≡ total
unfolding outer_header
outer_header-total service total tunnel = let whole : total / 256 * 256 + total % 256 ≡ total = omega arith in whole

pub outer_header-time_to_live : (service total : ℕ) (tunnel : Tunnel) → get_or (outer_header service total tunnel) 8 0 ≡ 64
unfolding outer_header
outer_header-time_to_live service total tunnel = refl
