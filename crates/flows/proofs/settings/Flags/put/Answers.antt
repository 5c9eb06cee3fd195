use Rattle.std.proofs.Common.{◌∙◌, ap, Bool, false, Option, string_bytes, unwrap_or}
use Rattle.std.specs.BTreeMap.{get_by_text}
use Rattle.std.specs.Str.{bytes_eq}
use Rattle.std.proofs.lemmas.Map.Text.{btree_map_updates_text}
use Rattle.flows.proofs.SettingLemmas.{read_flag}
use Rattle.flows.proofs.settings.Flags.put.Goals as goal

pub returns : goal.returns
returns c = λ other.
    ap (λ (o : Option Bool). unwrap_or o false)
    (btree_map_updates_text (string_bytes c.args.name) c.args.self.now.set c.insert.new.self _ c.in_ok-insert.ensures.updates other)
    ∙ read_flag (bytes_eq (string_bytes c.args.name) other) c.args.is_so (get_by_text c.args.self.now.set other)
