use Rattle.std.proofs.Common.{◌≡◌, ◌+◌, ◌<◌, suc, arith}
use Rattle.lru_maps.proofs.Uses.{filled}
use Rattle.lru_maps.proofs.recency.Recency.new.Goals as goal

pub loop-number-preserved : goal.loop-number-preserved
loop-number-preserved c =
    let fits : c.loop-number.number < c.loop-number.cache.cap = omega (arith, c.loop-number.invariant.cap, c.loop-number-test.true) in
    let more = filled c.loop-number.number c.loop-number.cache.cap c.loop-number.cache.entries _ c.loop-number.invariant.order fits in
    let next : c.loop-number.number + 1 ≡ suc c.loop-number.number = omega arith in
    rw (c.in-Ok.ensures.entries, next) (record { order = more; cap = c.loop-number.invariant.cap })
