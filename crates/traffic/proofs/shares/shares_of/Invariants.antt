use Rattle.std.proofs.Common.{take}
use Rattle.traffic.specs.Shares.{AreShares}
use Rattle.traffic.proofs.shares.shares_of.Given as goal

abbrev pub invariant-slots : goal.invariant-slots
invariant-slots l = AreShares (take l.word-index l.table) l.words l.shares.items
