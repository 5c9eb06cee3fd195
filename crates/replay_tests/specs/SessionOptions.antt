-- What shards are opened with in tests of sessions: two workers, one shard for each map.
use Rattle.semantics.specs.declared.options.Options.{Options}

abbrev pub session_options : Options
session_options = record { workers = 2; shards = 1; journal = 1024 }
