use Rattle.std.proofs.Common.{◌≡◌, string_bytes}
use Rattle.std.proofs.lemmas.Map.Text.{btree_map_updates_text}
use Rattle.std.proofs.lemmas.Result.{IfOk-at_ok}
use Rattle.comparison.proofs.CountLemmas.{one_more_from_set}
use Rattle.comparison.proofs.kinds.add.Goals as goal

-- the key has the change's bytes, so `insert` set the change's count
pub returns : goal.returns
returns c =
    let key_is_change = IfOk-at_ok (λ s. string_bytes s ≡ c.args.change.now) c.in_ok-key.was c.from_str.ensures.ok in
    let sets = btree_map_updates_text (string_bytes c.in_ok-key.key) c.args.counts.now c.insert.new.self _ c.in_ok-insert.ensures.updates in
    one_more_from_set c.requires.no_zero (rw (key_is_change, c.count_of-next.ensures) at sets)
