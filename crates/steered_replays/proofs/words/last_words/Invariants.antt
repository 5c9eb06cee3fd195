use Rattle.std.proofs.Common.{◌≡◌, ◌*◌, replicate}
use Rattle.conntrack.specs.SteeringMaps.{map_place}
use Rattle.steered_replays.specs.LastWords.{words_over}
use Rattle.steered_replays.proofs.words.last_words.Given as goal

abbrev pub invariant-shards : goal.invariant-shards
invariant-shards l = l.words.items ≡ words_over l.journals (map_place l.fn.map * l.journals.options.shards) l.part (replicate l.count 0)
