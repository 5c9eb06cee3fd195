-- What the calls of a pass's port return: the replies of a legal history.
use Rattle.std.proofs.Common.{◌≡◌, ℕ, ◌+◌, ◌*◌, ◌/◌, ◌^◌, ◌<◌, ◌≤◌, true, List, ◌++◌, length, Some, arith, refl, sym, subst}
use Rattle.std.specs.Prelude.{IsTrue, slice_get}
use Rattle.std.proofs.Math.Nat.{mul-le-mul_right}
use Rattle.ebpf_decode.specs.declared.map.MapDef.{MapDef}
use Rattle.ebpf_decode.specs.declared.version.Version.TheVariants.{V2}
use Rattle.semantics.specs.declared.options.Options.{Options}
use Rattle.semantics.specs.declared.plan.ShardPlan.{ShardPlan}
use Rattle.semantics.specs.declared.call.CellRef.{CellRef}
use Rattle.semantics.specs.declared.call.Call.{Call}
use Rattle.semantics.specs.declared.call.Call.TheVariants.{Lookup, Load, Atomic}
use Rattle.semantics.specs.declared.call.Reply.{Reply}
use Rattle.semantics.specs.declared.call.Reply.TheVariants.{Word}
use Rattle.semantics.specs.declared.call.Entry.{Entry}
use Rattle.semantics.specs.ShardPlan.{AreOptions}
use Rattle.semantics.specs.PlanLimits.{HasImageSizes}
use Rattle.semantics.specs.Reclamation.{inside_count}
use Rattle.semantics.specs.SequentialShard.{shard_after, cell_of_key, lookup_reply, reply_of}
use Rattle.semantics.specs.History.{IsLegalStep, IsLegalHistory}
use Rattle.semantics.specs.RunTrace.{IsReplyTo}
use Rattle.semantics.proofs.shared.PlanLemmas.{some_shards, few_parts}
use Rattle.semantics.proofs.shared.FirstElement.{nothing_found}
use Rattle.semantics.proofs.shared.ImageSizes.{image_sizes}
use Rattle.journals.specs.JournalsView.{AreImageMaps}
use Rattle.map_port.specs.Served.{program_over, reply_of_handle}
use Rattle.shards.specs.CallerView.{CallerView}
use Rattle.shards.specs.SharedMaps.{ArePlans}
use Rattle.shard_port.specs.Asking.{asked_entry}
use Rattle.shard_port.specs.PortView.{cell_of_handle, handle_of, has_small_cell}
use Rattle.shard_port.specs.PassPorts.{entering_by_own, IsAskedAt}
use Rattle.semantics.proofs.shared.CellBytes.{number_below}
use Rattle.semantics.proofs.shared.CallNumbers.{not_over}
use Rattle.semantics.specs.Cells.{word_in}
use Rattle.shard_port.proofs.shared.ReadyLemmas.{plan_number}
use Rattle.shard_port.proofs.shared.MayAskLemmas.{served_by}
use Rattle.shard_port.proofs.GivenLemmas.{sizes_at, small_of_kind, plan_reserve, found_again, found_formed}

-- ---- the history in which the call was answered

-- what the caller had seen when its call was answered
pub older_of : {plan : ShardPlan} {number worker : ℕ} {before after : CallerView} {call : Call} {reply : Reply} →
    IsAskedAt plan number worker before after call reply → List Entry
older_of {plan} {number} {worker} {before} asked = entering_by_own worker number before.own ++ asked.earlier

pub legal_step : (plan : ShardPlan) (number worker : ℕ) (before after : CallerView) (call : Call) (reply : Reply) →
    (asked : IsAskedAt plan number worker before after call reply) →
    IsLegalStep plan (entering_by_own worker number before.own ++ asked.earlier) (asked_entry worker call reply) ×
    IsLegalHistory plan (entering_by_own worker number before.own ++ asked.earlier)
legal_step plan number worker before after call reply asked = subst (IsLegalHistory plan) asked.seen asked.legal

pub answered : (plan : ShardPlan) (number worker : ℕ) (before after : CallerView) (call : Call) (reply : Reply) →
    (asked : IsAskedAt plan number worker before after call reply) →
    reply ≡ reply_of plan (entering_by_own worker number before.own ++ asked.earlier)
    (shard_after plan (entering_by_own worker number before.own ++ asked.earlier)) call
answered plan number worker before after call reply asked = (legal_step plan number worker before after call reply asked).0.step.replied

-- ---- lookups

few_shards : (maps : List MapDef) (options : Options) (count : ℕ) (plan : ℕ → ShardPlan) → ArePlans maps options count plan →
    AreOptions maps options → AreImageMaps maps → count ≤ 128
few_shards maps options count plan plans are image =
    let counted : count ≡ length maps * options.shards = plans.count_is in
    let at_most : length maps * options.shards ≤ 16 * options.shards = mul-le-mul_right options.shards image.few in
    let parts : options.shards ≤ 8 = few_parts maps options are in
    omega (arith, counted, at_most, parts)

pub record IsSmallShard (options : Options) (plan : ShardPlan) (number : ℕ) (maps : List MapDef) : Type 0 where
  pub below : plan.number < 128
  pub sizes : HasImageSizes plan.definition
  pub short : plan.reserve ≤ 4000000000
  pub numbered : plan.number ≡ number
  pub defined : slice_get maps (number / options.shards) ≡ Some plan.definition

pub small_shard : (maps : List MapDef) (options : Options) (count : ℕ) (plan : ℕ → ShardPlan) (number : ℕ) → ArePlans maps options count plan →
    AreOptions maps options → AreImageMaps maps → number < count → IsSmallShard options (plan number) number maps
small_shard maps options count plan number plans are image within =
    let planned = plan_number options number (slice_get maps (number / options.shards)) (plan number) (plans.each number within) in
    let few : count ≤ 128 = few_shards maps options count plan plans are image in
    let same : (plan number).number ≡ number = planned.0 in
    let reserve : (plan number).reserve ≡ options.journal =
    plan_reserve options number (slice_get maps (number / options.shards)) (plan number) (plans.each number within) in
    let most : options.journal ≤ 4000000000 = are.greatest_journal in
    record {
      below = omega (arith, within, few, same);
      sizes = sizes_at maps (number / options.shards) (plan number).definition (image_sizes V2 maps image.allowed) planned.4;
      short = omega (arith, reserve, most);
      numbered = same;
      defined = planned.4;
    }

pub small_lookup : (maps : List MapDef) (options : Options) (count : ℕ) (plan : ℕ → ShardPlan) (number worker : ℕ)
    (before after : CallerView) (key : List ℕ) (reply : Reply) → ArePlans maps options count plan → AreOptions maps options →
    AreImageMaps maps → number < count → IsAskedAt (plan number) number worker before after (Lookup number key) reply →
    IsTrue (has_small_cell reply)
small_lookup maps options count plan number worker before after key reply plans are image within asked =
    let at = small_shard maps options count plan number plans are image within in
    let history : List Entry = entering_by_own worker number before.own ++ asked.earlier in
    let step = legal_step (plan number) number worker before after (Lookup number key) reply asked in
    let room : length history + inside_count history + 0 + 1 ≤ (plan number).reserve =
    not_over (plan number).reserve (length history + inside_count history + 0 + 1) step.0.room in
    let most : (plan number).reserve ≤ 4000000000 = at.short in
    let short : length history < 2 ^ 32 = omega (arith, room, most) in
    let small : has_small_cell (lookup_reply (plan number) (cell_of_key (plan number) (shard_after (plan number) history) key)) ≡ true =
    small_of_kind (plan number).definition.kind (plan number) history key refl at.below at.sizes.most_entries short in
    subst (λ (one : Reply). has_small_cell one ≡ true)
    (sym (answered (plan number) number worker before after (Lookup number key) reply asked)) small

pub found_told : (plan : ShardPlan) (number worker : ℕ) (before after : CallerView) (key : List ℕ) (reply : Reply) →
    IsTrue (has_small_cell reply) → IsAskedAt plan number worker before after (Lookup number key) reply →
    reply ≡ reply_of_handle cell_of_handle (handle_of reply)
found_told plan number worker before after key reply small asked =
    let history : List Entry = entering_by_own worker number before.own ++ asked.earlier in
    let is : reply ≡ lookup_reply plan (cell_of_key plan (shard_after plan history) key) =
    answered plan number worker before after (Lookup number key) reply asked in
    subst (λ (one : Reply). one ≡ reply_of_handle cell_of_handle (handle_of one)) (sym is)
    (found_again plan (cell_of_key plan (shard_after plan history) key) (subst (λ (one : Reply). has_small_cell one ≡ true) is small))

pub lookup_formed : (maps : List MapDef) (options : Options) (count : ℕ) (plan : ℕ → ShardPlan) (number worker : ℕ)
    (before after : CallerView) (key : List ℕ) (reply : Reply) → ArePlans maps options count plan → AreOptions maps options →
    AreImageMaps maps → number < count → IsAskedAt (plan number) number worker before after (Lookup number key) reply →
    IsReplyTo (program_over (served_by maps options)) (Lookup number key) reply
lookup_formed maps options count plan number worker before after key reply plans are image within asked =
    let at = small_shard maps options count plan number plans are image within in
    let history : List Entry = entering_by_own worker number before.own ++ asked.earlier in
    subst (IsReplyTo (program_over (served_by maps options)) (Lookup number key))
    (sym (answered (plan number) number worker before after (Lookup number key) reply asked))
    (found_formed (served_by maps options) (plan number) number key (cell_of_key (plan number) (shard_after (plan number) history) key)
    at.numbered (λ none. nothing_found (program_over (served_by maps options)) (plan number) (shard_after (plan number) history) number key
    (some_shards maps options are) at.defined at.sizes.some_entries none))

-- ---- words

pub word_below : (plan : ShardPlan) (number worker : ℕ) (before after : CallerView) (cell : CellRef) (offset size value : ℕ) →
    IsAskedAt plan number worker before after (Load cell offset size) (Word value) → value < 256 ^ size
word_below plan number worker before after cell offset size value asked =
    let history : List Entry = entering_by_own worker number before.own ++ asked.earlier in
    let legal = legal_step plan number worker before after (Load cell offset size) (Word value) asked in
    subst (λ (one : Reply). word_in one < 256 ^ size)
    (sym (answered plan number worker before after (Load cell offset size) (Word value) asked))
    (number_below plan history cell.id offset size legal.1)

pub changed_below : (plan : ShardPlan) (number worker : ℕ) (before after : CallerView) (cell : CellRef)
    (offset size op value expected old : ℕ) →
    IsAskedAt plan number worker before after (Atomic cell offset size op value expected) (Word old) → old < 256 ^ size
changed_below plan number worker before after cell offset size op value expected old asked =
    let history : List Entry = entering_by_own worker number before.own ++ asked.earlier in
    let legal = legal_step plan number worker before after (Atomic cell offset size op value expected) (Word old) asked in
    subst (λ (one : Reply). word_in one < 256 ^ size)
    (sym (answered plan number worker before after (Atomic cell offset size op value expected) (Word old) asked))
    (number_below plan history cell.id offset size legal.1)
