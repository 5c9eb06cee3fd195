use Rattle.std.proofs.Common.{◌≡◌, ◌++◌, ◌∷◌, ℕ, List, refl}
use Rattle.control.specs.ScriptText.{address_text, mac_text, gateway_text}
use Rattle.control.proofs.Words.{address_lacks, mac_lacks}
use Rattle.control.proofs.reading.gateway_of.Goals as goal

pub returns : goal.returns
unfolding gateway_text
returns c = λ source source_mac destination_mac a b d is.
    let first = c.cut.ensures.both (address_text source) (mac_text source_mac ++ 32 ∷ mac_text destination_mac) is (address_lacks source a) in
    let second = c.cut-2.ensures.both (mac_text source_mac) (mac_text destination_mac) first.1 (mac_lacks source_mac b) in
    rw (c.address_of.ensures source a first.0, c.mac_of.ensures source_mac b second.0, c.mac_of-2.ensures destination_mac d second.1) refl
