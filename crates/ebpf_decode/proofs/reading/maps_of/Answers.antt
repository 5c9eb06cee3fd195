use Rattle.std.proofs.Common.{sym, arith}
use Rattle.ebpf_decode.specs.ImageFormat.{maps_at}
use Rattle.ebpf_decode.proofs.Loops.{map_more, map_refused, maps_done}
use Rattle.ebpf_decode.proofs.reading.maps_of.Goals as goal

pub returns-in-None-clause-given : goal.returns-in-None-clause-given
returns-in-None-clause-given c = λ _. map_refused c.args.version c.loop-place.maps.items c.args.count c.loop-place.place c.loop-place.rest.now (maps_at c.args.version 0 c.args.count c.args.bytes.now) c.loop-place-test.true (sym c.in-None.ensures) c.loop-place.invariant.1

pub loop-place-preserved : goal.loop-place-preserved
loop-place-preserved c =
    let more = map_more c.args.version c.loop-place.maps.items c.args.count c.loop-place.place c.loop-place.rest.now c.in-Some.map (maps_at c.args.version 0 c.args.count c.args.bytes.now) c.loop-place-test.true (sym c.in-Some.ensures) c.loop-place.invariant.1 in
    (omega (arith, c.loop-place.invariant.0, c.split_at.ensures.back_len, c.loop-place-test.true), rw (c.in_ok-push-in-Some.ensures.items, c.split_at.ensures.back) more)

pub returns-clause-given : goal.returns-clause-given
returns-clause-given c = maps_done c.args.version c.loop-place.maps.items c.args.count c.loop-place.place c.loop-place.rest.now (maps_at c.args.version 0 c.args.count c.args.bytes.now) c.loop-place-test.false c.loop-place.invariant.1
