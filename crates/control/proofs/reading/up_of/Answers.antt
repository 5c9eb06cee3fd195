use Rattle.std.proofs.Common.{◌≡◌, ℕ, List, refl, arith}
use Rattle.std.specs.Fmt.{decimal}
use Rattle.control.specs.ScriptText.{address_text}
use Rattle.control.proofs.Words.{decimal_lacks}
use Rattle.control.proofs.reading.up_of.Goals as goal

pub returns : goal.returns
returns c = λ backend address backend_fits address_fits is.
    let parts = c.cut.ensures.both (decimal backend) (address_text address) is (decimal_lacks 32 backend (omega arith) (omega (arith, backend_fits))) in
    rw (c.count_of.ensures backend backend_fits parts.0, c.address_of.ensures address address_fits parts.1) refl
