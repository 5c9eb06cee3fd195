use Rattle.std.proofs.Common.{◌≡◌, ◌+◌, ◌≤◌, length, take, arith, ap}
use Rattle.std.proofs.lemmas.List.{length-take-le}
use Rattle.semantics.proofs.BytesLemmas.{IsPadded-overwritten}
use Rattle.semantics.proofs.bytes.Bytes.append.Goals as goal

pub invariant_of-self : goal.invariant_of-self
invariant_of-self g c =
    let fits : c.self.inside.len ≤ length c.self.inside.bytes = rw c.self.invariant.whole c.self.invariant.fits in
    let counted : length (take c.self.inside.len c.self.inside.bytes) ≡ c.self.inside.len = length-take-le c.self.inside.len c.self.inside.bytes fits in
    let viewed : length (take c.self.inside.len c.self.inside.bytes) ≡ length c.args.self.now = ap length c.self.view_is in
    let room : c.self.inside.len + length c.args.items.now ≤ g.row.N = omega (arith, counted, viewed, c.requires) in
    rw c.write.ensures (IsPadded-overwritten g.row.N c.self.inside.len c.self.inside.bytes c.args.items.now c.self.invariant room)
