-- What shards are opened with: two workers, one shard for each map, room for as many calls as the frames make.
use Rattle.semantics.specs.declared.options.Options.{Options}

abbrev pub bench_options : Options
bench_options = record { workers = 2; shards = 1; journal = 16384 }
