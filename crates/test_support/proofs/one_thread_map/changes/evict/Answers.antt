use Rattle.std.proofs.Common.{◌≡◌, false, refl}
use Rattle.semantics.specs.SequentialShard.{is_full_of_keys}
use Rattle.test_support.specs.OneThread.{state_of_lists}
use Rattle.test_support.proofs.one_thread_map.changes.evict.Goals as goal

-- src/changes.rt:54:1
pub returns-else-is_full_of_keys-clause-state : goal.returns-else-is_full_of_keys-clause-state
returns-else-is_full_of_keys-clause-state c =
    let said : c.is_full_of_keys.result ≡ is_full_of_keys c.args.plan.now (state_of_lists c.args.state.now) =
    c.is_full_of_keys.ensures (state_of_lists c.args.state.now) c.counts_of.ensures.present c.counts_of.ensures.waiting in
    let no : c.is_full_of_keys.result ≡ false = c.if-is_full_of_keys.false in
    let not_full : is_full_of_keys c.args.plan.now (state_of_lists c.args.state.now) ≡ false = cc in
    rw not_full refl
