use Rattle.std.proofs.Common.{rules}
use Rattle.bench_parts.proofs.frame_times.putting.put_one.Goals as goal

-- a key and a value of the map's sizes
pub update-requires : goal.update-requires
update-requires c = record {
  at = record {
    definition = c.in-Some.definition;
    known = search rules;
    key_size = search rules;
    bytes = search rules;
  };
  value_size = search rules;
  value_bytes = search rules;
}
