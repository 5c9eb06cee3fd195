use Rattle.std.proofs.Common.{◌≡◌, ◌++◌, ◌∷◌, ℕ, Bool, List, refl, arith}
use Rattle.std.specs.Fmt.{decimal}
use Rattle.control.specs.ScriptText.{ActionFits, address_text, transport_text, notrack_text, vip_text}
use Rattle.control.proofs.Words.{decimal_lacks, address_lacks, notrack_parts}
use Rattle.control.proofs.reading.vip_of.Goals as goal

pub returns : goal.returns
unfolding vip_text ActionFits
returns c = λ service is_notrack fits is.
    let first = c.cut.ensures.both (address_text service.address.0) (decimal service.port ++ 32 ∷ (transport_text service.transport ++ notrack_text is_notrack)) is (address_lacks service.address.0 fits.0) in
    let second = c.cut-2.ensures.both (decimal service.port) (transport_text service.transport ++ notrack_text is_notrack) first.1 (decimal_lacks 32 service.port (omega arith) (omega (arith, fits.1))) in
    let third = notrack_parts service.transport is_notrack c.cut-2.result.1.now c.cut-3.result.0.now c.cut-3.result.1.now c.cut-3.ensures.both c.cut-3.ensures.whole second.1 in
    rw (c.address_of.ensures service.address.0 fits.0 first.0, c.port_of.ensures service.port fits.1 second.0, c.transport_of.ensures service.transport third.0, c.is_notrack.ensures is_notrack third.1) refl
