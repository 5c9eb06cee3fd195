use Rattle.std.proofs.Common.{◌≡◌}
use Rattle.lru_maps.specs.Recency.{order_of, countdown}
use Rattle.lru_maps.proofs.recency.Recency.new.Given as goal

abbrev pub invariant-loop-number : goal.invariant-loop-number
invariant-loop-number l = record { order : order_of l.cache.entries ≡ countdown l.number; cap : l.cache.cap ≡ l.capacity }
