use Rattle.std.proofs.Common.{◌≡◌}
use Rattle.shard_tests.proofs.journal_rows.counted.Given as goal

abbrev pub invariant-entries : goal.invariant-entries
invariant-entries l = l.journal.reserve ≡ 1048577
