use Rattle.std.proofs.Common.{◌≡◌, ◌-◌, ℕ, List, length, rules, ap}
use Rattle.wire.specs.FrameView.{FrameView}
use Rattle.ipip.proofs.FrontLemmas.{written_headers}
use Rattle.ipip.proofs.encapsulation.put_headers.Goals as goal

pub returns : goal.returns
returns c =
    let old = c.args.frame.now in
    let fourteen : length c.args.ethernet.now ≡ 14 = search rules in
    let twenty : length c.args.outer.now ≡ 20 = search rules in
    let to_view : List ℕ → FrameView = λ bytes. record { bytes = bytes; headroom = old.headroom - 20 } in
    rw (c.write-2.ensures, c.write.ensures, c.grow_front.ensures)
    (ap to_view (written_headers c.args.ethernet.now c.args.outer.now old.bytes fourteen twenty))
