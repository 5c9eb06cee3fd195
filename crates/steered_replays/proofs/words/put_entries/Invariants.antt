use Rattle.std.proofs.Common.{◌≡◌, take}
use Rattle.steered_replays.specs.LastWords.{words_after}
use Rattle.steered_replays.proofs.words.put_entries.Given as goal

abbrev pub invariant-entries : goal.invariant-entries
invariant-entries l = l.words.items ≡ words_after l.fn.words.items (take l.place l.journal)
