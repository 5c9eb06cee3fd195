-- The calls of a pass's port, by what its parts ensure.
use Rattle.std.proofs.Common.{◌≡◌, ℕ, ◌^◌, ◌<◌, List, Option, sym, ◌∙◌, ap, subst}
use Rattle.std.specs.Prelude.{ℤ, IsTrue, FitsSigned}
use Rattle.std.specs.Int.{w32}
use Rattle.isa.specs.declared.operation.AtomicOp.{AtomicOp}
use Rattle.isa.specs.InstructionCodes.{atomic_code}
use Rattle.semantics.specs.declared.plan.ShardPlan.{ShardPlan}
use Rattle.semantics.specs.declared.call.CellRef.{CellRef}
use Rattle.semantics.specs.declared.call.Call.{Call}
use Rattle.semantics.specs.declared.call.Call.TheVariants.{Lookup, Load, Store, Atomic, Update, Delete}
use Rattle.semantics.specs.declared.call.Reply.{Reply}
use Rattle.semantics.specs.declared.call.Reply.TheVariants.{Word, Done, Answer}
use Rattle.semantics.specs.ShardPlan.{AreOptions}
use Rattle.semantics.specs.History.{shard_of_call, Meets}
use Rattle.semantics.specs.RunTrace.{IsReplyTo}
use Rattle.journal.specs.Entries.{found_reply}
use Rattle.journals.specs.JournalsView.{AreImageMaps}
use Rattle.semantics.specs.ServedCalls.{IsKeyOf, IsPairOf}
use Rattle.map_port.specs.Served.{served_shard, IsReadable, IsStorable, IsAtomic, program_over, lookup_call, update_call, delete_call, reply_of_handle}
use Rattle.semantics.proofs.shared.PlanLemmas.{some_shards}
use Rattle.shards.specs.Passes.{PassView, view_at, own_at, IsElsewhereSame}
use Rattle.shards.specs.SharedMaps.{SharedMaps, ArePlans}
use Rattle.shard_port.specs.PortView.{IsRunCall, cell_of_handle, handle_of, has_small_cell}
use Rattle.shard_port.specs.PassPorts.{is_worker_below, worker_number, inside_own, served_of, port_of, has_found, IsAskedBy, IsTurnedAwayBy, PassGives, PassRefuses}
use Rattle.shard_port.proofs.shared.PassAskLemmas.{is_worker}
use Rattle.shard_port.proofs.PassMetLemmas.{IsAtKey, at_key, lookup_met, update_met, delete_met, at_place, load_met, store_met, change_met}
use Rattle.shard_port.proofs.PassGivenLemmas.{small_lookup, found_told, lookup_formed, word_below, changed_below}

-- what is known before each call
pub record Stands (count : ℕ) (plan : ℕ → ShardPlan) (shards : SharedMaps) (pass : PassView) : Type 0 where
  pub plans : ArePlans shards.maps shards.options count plan
  pub options : AreOptions shards.maps shards.options
  pub maps : AreImageMaps shards.maps
  pub below : IsTrue (is_worker_below shards.options.workers pass.who)

-- ---- any call

given_one : (count : ℕ) (plan : ℕ → ShardPlan) (shards shards' : SharedMaps) (before after : PassView) (call : Call) (reply : Reply) →
    Stands count plan shards before → shards' ≡ shards → shard_of_call call < count → IsElsewhereSame (shard_of_call call) before after →
    IsRunCall call → IsReplyTo (program_over (served_of shards)) call reply →
    IsAskedBy (plan (shard_of_call call)) (shard_of_call call) before after call reply → PassGives plan count (port_of shards before) call reply (port_of shards' after)
given_one count plan shards shards' before after call reply stands same within elsewhere run formed asked = record {
  same_maps = ap served_of same;
  some_shard = some_shards shards.maps shards.options stands.options;
  within = within;
  elsewhere = elsewhere;
  is_worker = is_worker shards.options.workers before.who stands.below;
  run_call = run;
  formed = formed;
  asked = asked;
}

refused_one : (count : ℕ) (plan : ℕ → ShardPlan) (shards shards' : SharedMaps) (before after : PassView) (call : Call) →
    Stands count plan shards before → shards' ≡ shards → shard_of_call call < count → IsElsewhereSame (shard_of_call call) before after →
    IsTurnedAwayBy (plan (shard_of_call call)) (shard_of_call call) before after call → PassRefuses plan count (port_of shards before) call (port_of shards' after)
refused_one count plan shards shards' before after call stands same within elsewhere away = record {
  same_maps = ap served_of same;
  within = within;
  elsewhere = elsewhere;
  is_worker = is_worker shards.options.workers before.who stands.below;
  turned_away = away;
}

-- ---- keys

key_within : (count : ℕ) (plan : ℕ → ShardPlan) (shards : SharedMaps) (before : PassView) (map : ℕ) (key : List ℕ) (number : ℕ) →
    Stands count plan shards before → IsKeyOf shards.maps map key → number ≡ served_shard (served_of shards) map key → number < count
key_within count plan shards before map key number stands of_map is =
    let at : IsAtKey shards.options count plan before.who (own_at before number) (served_shard (served_of shards) map key) of_map.definition key =
    at_key shards.maps shards.options count plan before.who (own_at before number) map key stands.plans stands.options stands.below of_map in
    subst (λ (n : ℕ). n < count) (sym is) at.within

pub met_lookup : (count : ℕ) (plan : ℕ → ShardPlan) (shards : SharedMaps) (pass : PassView) (map : ℕ) (key : List ℕ) (number : ℕ)
    (bytes : List ℕ) → Stands count plan shards pass → IsKeyOf shards.maps map key → number ≡ served_shard (served_of shards) map key →
    bytes ≡ key → Meets (plan number) (inside_own (worker_number pass.who) number (own_at pass number)) pass.who (Lookup number bytes)
met_lookup count plan shards pass map key number bytes stands of_map is same =
    subst (λ (list : List ℕ). Meets (plan number) (inside_own (worker_number pass.who) number (own_at pass number)) pass.who (Lookup number list))
    (sym same)
    (subst (λ (n : ℕ). Meets (plan n) (inside_own (worker_number pass.who) n (own_at pass n)) pass.who (Lookup n key)) (sym is)
    (lookup_met shards.maps shards.options count plan pass.who (own_at pass (served_shard (served_of shards) map key)) map key stands.plans
    stands.options stands.below of_map))

pub met_delete : (count : ℕ) (plan : ℕ → ShardPlan) (shards : SharedMaps) (pass : PassView) (map : ℕ) (key : List ℕ) (number : ℕ)
    (bytes : List ℕ) → Stands count plan shards pass → IsKeyOf shards.maps map key → number ≡ served_shard (served_of shards) map key →
    bytes ≡ key → Meets (plan number) (inside_own (worker_number pass.who) number (own_at pass number)) pass.who (Delete number bytes)
met_delete count plan shards pass map key number bytes stands of_map is same =
    subst (λ (list : List ℕ). Meets (plan number) (inside_own (worker_number pass.who) number (own_at pass number)) pass.who (Delete number list))
    (sym same)
    (subst (λ (n : ℕ). Meets (plan n) (inside_own (worker_number pass.who) n (own_at pass n)) pass.who (Delete n key)) (sym is)
    (delete_met shards.maps shards.options count plan pass.who (own_at pass (served_shard (served_of shards) map key)) map key stands.plans
    stands.options stands.below of_map))

pub met_update : (count : ℕ) (plan : ℕ → ShardPlan) (shards : SharedMaps) (pass : PassView) (map : ℕ) (key value : List ℕ) (flags : ℕ)
    (number : ℕ) (bytes value_bytes : List ℕ) → Stands count plan shards pass → flags < 2 ^ 64 → IsPairOf shards.maps map key value →
    number ≡ served_shard (served_of shards) map key → bytes ≡ key → value_bytes ≡ value →
    Meets (plan number) (inside_own (worker_number pass.who) number (own_at pass number)) pass.who (Update number bytes value_bytes flags)
met_update count plan shards pass map key value flags number bytes value_bytes stands few pair is same same_value =
    subst (λ (list : List ℕ). Meets (plan number) (inside_own (worker_number pass.who) number (own_at pass number)) pass.who
    (Update number bytes list flags)) (sym same_value)
    (subst (λ (list : List ℕ). Meets (plan number) (inside_own (worker_number pass.who) number (own_at pass number)) pass.who
    (Update number list value flags)) (sym same)
    (subst (λ (n : ℕ). Meets (plan n) (inside_own (worker_number pass.who) n (own_at pass n)) pass.who (Update n key value flags)) (sym is)
    (update_met shards.maps shards.options count plan pass.who (own_at pass (served_shard (served_of shards) map key)) map key value flags
    stands.plans stands.options stands.below few pair)))

lookup_same : (number number' : ℕ) (bytes key : List ℕ) → number ≡ number' → bytes ≡ key → Lookup number bytes ≡ Lookup number' key
lookup_same number number' bytes key is same = ap (λ (n : ℕ). Lookup n bytes) is ∙ ap (λ (list : List ℕ). Lookup number' list) same

delete_same : (number number' : ℕ) (bytes key : List ℕ) → number ≡ number' → bytes ≡ key → Delete number bytes ≡ Delete number' key
delete_same number number' bytes key is same = ap (λ (n : ℕ). Delete n bytes) is ∙ ap (λ (list : List ℕ). Delete number' list) same

update_same : (number number' : ℕ) (bytes key value_bytes value : List ℕ) (flags : ℕ) → number ≡ number' → bytes ≡ key →
    value_bytes ≡ value → Update number bytes value_bytes flags ≡ Update number' key value flags
update_same number number' bytes key value_bytes value flags is same same_value =
    ap (λ (n : ℕ). Update n bytes value_bytes flags) is ∙ ap (λ (list : List ℕ). Update number' list value_bytes flags) same
    ∙ ap (λ (list : List ℕ). Update number' key list flags) same_value

-- the reply of a lookup, whose cell has a handle
pub small_found : (count : ℕ) (plan : ℕ → ShardPlan) (shards : SharedMaps) (before after : PassView) (map : ℕ) (key : List ℕ) (number : ℕ)
    (bytes : List ℕ) (found : Option ℕ) → Stands count plan shards before → IsKeyOf shards.maps map key →
    number ≡ served_shard (served_of shards) map key →
    IsAskedBy (plan number) number before after (Lookup number bytes)
    (found_reply number found) → IsTrue (has_small_cell (found_reply number found))
small_found count plan shards before after map key number bytes found stands of_map is asked =
    small_lookup shards.maps shards.options count plan number (worker_number before.who) (view_at before number) (view_at after number) bytes
    (found_reply number found) stands.plans stands.options stands.maps
    (key_within count plan shards before map key number stands of_map is) asked.at

pub lookup_given : (count : ℕ) (plan : ℕ → ShardPlan) (shards shards' : SharedMaps) (before after : PassView) (map : ℕ) (key : List ℕ)
    (number : ℕ) (bytes : List ℕ) (found : Option ℕ) (handle : ℕ) → Stands count plan shards before → shards' ≡ shards →
    IsElsewhereSame number before after → IsKeyOf shards.maps map key → number ≡ served_shard (served_of shards) map key → bytes ≡ key →
    handle ≡ handle_of (found_reply number found) →
    IsAskedBy (plan number) number before after (Lookup number bytes)
    (found_reply number found) →
    PassGives plan count (port_of shards before) (lookup_call (served_of shards) map key) (reply_of_handle cell_of_handle handle)
    (port_of shards' after)
lookup_given count plan shards shards' before after map key number bytes found handle stands same_shards elsewhere of_map is same told asked =
    let reply : Reply = found_reply number found in
    let within : number < count = key_within count plan shards before map key number stands of_map is in
    let small : IsTrue (has_small_cell reply) = small_found count plan shards before after map key number bytes found stands of_map is asked in
    let formed : IsReplyTo (program_over (served_of shards)) (Lookup number bytes) reply =
    lookup_formed shards.maps shards.options count plan number (worker_number before.who) (view_at before number) (view_at after number) bytes
    reply stands.plans stands.options stands.maps within asked.at in
    let given : PassGives plan count (port_of shards before) (Lookup number bytes) reply (port_of shards' after) =
    given_one count plan shards shards' before after (Lookup number bytes) reply stands same_shards within elsewhere tt formed asked in
    let by_handle : reply ≡ reply_of_handle cell_of_handle handle =
    found_told (plan number) number (worker_number before.who) (view_at before number) (view_at after number) bytes reply small asked.at
    ∙ ap (reply_of_handle cell_of_handle) (sym told) in
    subst (λ (call : Call). PassGives plan count (port_of shards before) call (reply_of_handle cell_of_handle handle) (port_of shards' after))
    (lookup_same number (served_shard (served_of shards) map key) bytes key is same)
    (subst (λ (one : Reply). PassGives plan count (port_of shards before) (Lookup number bytes) one (port_of shards' after)) by_handle given)

pub lookup_refused : (count : ℕ) (plan : ℕ → ShardPlan) (shards shards' : SharedMaps) (before after : PassView) (map : ℕ) (key : List ℕ)
    (number : ℕ) (bytes : List ℕ) → Stands count plan shards before → shards' ≡ shards → IsElsewhereSame number before after →
    IsKeyOf shards.maps map key → number ≡ served_shard (served_of shards) map key → bytes ≡ key →
    IsTurnedAwayBy (plan number) number before after (Lookup number bytes) →
    PassRefuses plan count (port_of shards before) (lookup_call (served_of shards) map key) (port_of shards' after)
lookup_refused count plan shards shards' before after map key number bytes stands same_shards elsewhere of_map is same away =
    subst (λ (call : Call). PassRefuses plan count (port_of shards before) call (port_of shards' after))
    (lookup_same number (served_shard (served_of shards) map key) bytes key is same)
    (refused_one count plan shards shards' before after (Lookup number bytes) stands same_shards
    (key_within count plan shards before map key number stands of_map is) elsewhere away)

pub delete_given : (count : ℕ) (plan : ℕ → ShardPlan) (shards shards' : SharedMaps) (before after : PassView) (map : ℕ) (key : List ℕ)
    (number : ℕ) (bytes : List ℕ) (code told : ℤ) → Stands count plan shards before → shards' ≡ shards → IsElsewhereSame number before after →
    IsKeyOf shards.maps map key → number ≡ served_shard (served_of shards) map key → bytes ≡ key → FitsSigned w32 code →
    told ≡ code → IsAskedBy (plan number) number before after (Delete number bytes) (Answer code) →
    PassGives plan count (port_of shards before) (delete_call (served_of shards) map key) (Answer told) (port_of shards' after)
delete_given count plan shards shards' before after map key number bytes code told stands same_shards elsewhere of_map is same fits is_told asked =
    subst (λ (call : Call). PassGives plan count (port_of shards before) call (Answer told) (port_of shards' after))
    (delete_same number (served_shard (served_of shards) map key) bytes key is same)
    (subst (λ (z : ℤ). PassGives plan count (port_of shards before) (Delete number bytes) (Answer z) (port_of shards' after)) (sym is_told)
    (given_one count plan shards shards' before after (Delete number bytes) (Answer code) stands same_shards
    (key_within count plan shards before map key number stands of_map is) elsewhere tt fits asked))

pub delete_refused : (count : ℕ) (plan : ℕ → ShardPlan) (shards shards' : SharedMaps) (before after : PassView) (map : ℕ) (key : List ℕ)
    (number : ℕ) (bytes : List ℕ) → Stands count plan shards before → shards' ≡ shards → IsElsewhereSame number before after →
    IsKeyOf shards.maps map key → number ≡ served_shard (served_of shards) map key → bytes ≡ key →
    IsTurnedAwayBy (plan number) number before after (Delete number bytes) →
    PassRefuses plan count (port_of shards before) (delete_call (served_of shards) map key) (port_of shards' after)
delete_refused count plan shards shards' before after map key number bytes stands same_shards elsewhere of_map is same away =
    subst (λ (call : Call). PassRefuses plan count (port_of shards before) call (port_of shards' after))
    (delete_same number (served_shard (served_of shards) map key) bytes key is same)
    (refused_one count plan shards shards' before after (Delete number bytes) stands same_shards
    (key_within count plan shards before map key number stands of_map is) elsewhere away)

pub update_given : (count : ℕ) (plan : ℕ → ShardPlan) (shards shards' : SharedMaps) (before after : PassView) (map : ℕ)
    (key value : List ℕ) (flags number : ℕ) (bytes value_bytes : List ℕ) (code told : ℤ) → Stands count plan shards before → shards' ≡ shards →
    IsElsewhereSame number before after → IsPairOf shards.maps map key value → number ≡ served_shard (served_of shards) map key →
    bytes ≡ key → value_bytes ≡ value → FitsSigned w32 code →
    told ≡ code → IsAskedBy (plan number) number before after
    (Update number bytes value_bytes flags) (Answer code) →
    PassGives plan count (port_of shards before) (update_call (served_of shards) map key value flags) (Answer told) (port_of shards' after)
update_given count plan shards shards' before after map key value flags number bytes value_bytes code told stands same_shards elsewhere pair is same
    same_value fits is_told asked =
    subst (λ (call : Call). PassGives plan count (port_of shards before) call (Answer told) (port_of shards' after))
    (update_same number (served_shard (served_of shards) map key) bytes key value_bytes value flags is same same_value)
    (subst (λ (z : ℤ). PassGives plan count (port_of shards before) (Update number bytes value_bytes flags) (Answer z) (port_of shards' after))
    (sym is_told) (given_one count plan shards shards' before after (Update number bytes value_bytes flags) (Answer code) stands same_shards
    (key_within count plan shards before map key number stands pair.at is) elsewhere tt fits asked))

pub update_refused : (count : ℕ) (plan : ℕ → ShardPlan) (shards shards' : SharedMaps) (before after : PassView) (map : ℕ)
    (key value : List ℕ) (flags number : ℕ) (bytes value_bytes : List ℕ) → Stands count plan shards before → shards' ≡ shards →
    IsElsewhereSame number before after → IsPairOf shards.maps map key value → number ≡ served_shard (served_of shards) map key →
    bytes ≡ key → value_bytes ≡ value →
    IsTurnedAwayBy (plan number) number before after
    (Update number bytes value_bytes flags) →
    PassRefuses plan count (port_of shards before) (update_call (served_of shards) map key value flags) (port_of shards' after)
update_refused count plan shards shards' before after map key value flags number bytes value_bytes stands same_shards elsewhere pair is same
    same_value away =
    subst (λ (call : Call). PassRefuses plan count (port_of shards before) call (port_of shards' after))
    (update_same number (served_shard (served_of shards) map key) bytes key value_bytes value flags is same same_value)
    (refused_one count plan shards shards' before after (Update number bytes value_bytes flags) stands same_shards
    (key_within count plan shards before map key number stands pair.at is) elsewhere away)

-- ---- cells

readable_at : (shards : SharedMaps) (pass : PassView) (handle : ℕ) (cell : CellRef) (offset size : ℕ) → cell ≡ cell_of_handle handle →
    IsReadable (served_of shards) (has_found (port_of shards pass)) (cell_of_handle handle) offset size →
    IsReadable (served_of shards) (has_found (port_of shards pass)) cell offset size
readable_at shards pass handle cell offset size is readable =
    subst (λ (one : CellRef). IsReadable (served_of shards) (has_found (port_of shards pass)) one offset size) (sym is) readable

pub cell_within : (count : ℕ) (plan : ℕ → ShardPlan) (shards : SharedMaps) (pass : PassView) (handle : ℕ) (cell : CellRef)
    (offset size : ℕ) → Stands count plan shards pass → cell ≡ cell_of_handle handle →
    IsReadable (served_of shards) (has_found (port_of shards pass)) (cell_of_handle handle) offset size → cell.shard < count
cell_within count plan shards pass handle cell offset size stands is readable =
    (at_place shards.maps shards.options count plan pass cell offset size stands.plans stands.options stands.below
    (readable_at shards pass handle cell offset size is readable)).within

pub met_load : (count : ℕ) (plan : ℕ → ShardPlan) (shards : SharedMaps) (pass : PassView) (handle : ℕ) (cell : CellRef)
    (offset size : ℕ) → Stands count plan shards pass → cell ≡ cell_of_handle handle →
    IsReadable (served_of shards) (has_found (port_of shards pass)) (cell_of_handle handle) offset size →
    Meets (plan cell.shard) (inside_own (worker_number pass.who) cell.shard (own_at pass cell.shard)) pass.who (Load cell offset size)
met_load count plan shards pass handle cell offset size stands is readable =
    load_met shards.maps shards.options count plan pass cell offset size stands.plans stands.options stands.below
    (readable_at shards pass handle cell offset size is readable)

pub met_store : (count : ℕ) (plan : ℕ → ShardPlan) (shards : SharedMaps) (pass : PassView) (handle : ℕ) (cell : CellRef)
    (offset size value : ℕ) → Stands count plan shards pass → cell ≡ cell_of_handle handle →
    IsStorable (served_of shards) (has_found (port_of shards pass)) (cell_of_handle handle) offset size value →
    Meets (plan cell.shard) (inside_own (worker_number pass.who) cell.shard (own_at pass cell.shard)) pass.who (Store cell offset size value)
met_store count plan shards pass handle cell offset size value stands is storable =
    store_met shards.maps shards.options count plan pass cell offset size value stands.plans stands.options stands.below
    (subst (λ (one : CellRef). IsStorable (served_of shards) (has_found (port_of shards pass)) one offset size value) (sym is) storable)

pub met_change : (count : ℕ) (plan : ℕ → ShardPlan) (shards : SharedMaps) (pass : PassView) (handle : ℕ) (cell : CellRef)
    (offset size : ℕ) (op : AtomicOp) (value expected : ℕ) → Stands count plan shards pass → cell ≡ cell_of_handle handle →
    IsAtomic (served_of shards) (has_found (port_of shards pass)) (cell_of_handle handle) offset size op value expected →
    Meets (plan cell.shard) (inside_own (worker_number pass.who) cell.shard (own_at pass cell.shard)) pass.who
    (Atomic cell offset size (atomic_code op) value expected)
met_change count plan shards pass handle cell offset size op value expected stands is atomic =
    change_met shards.maps shards.options count plan pass cell offset size op value expected stands.plans stands.options stands.below
    (subst (λ (one : CellRef). IsAtomic (served_of shards) (has_found (port_of shards pass)) one offset size op value expected) (sym is)
    atomic)

pub load_given : (count : ℕ) (plan : ℕ → ShardPlan) (shards shards' : SharedMaps) (before after : PassView) (handle : ℕ) (cell : CellRef)
    (offset size value : ℕ) → Stands count plan shards before → shards' ≡ shards → cell ≡ cell_of_handle handle →
    IsElsewhereSame cell.shard before after →
    IsReadable (served_of shards) (has_found (port_of shards before)) (cell_of_handle handle) offset size →
    IsAskedBy (plan cell.shard) cell.shard before after
    (Load cell offset size) (Word value) →
    PassGives plan count (port_of shards before) (Load (cell_of_handle handle) offset size) (Word value) (port_of shards' after)
load_given count plan shards shards' before after handle cell offset size value stands same_shards is elsewhere readable asked =
    subst (λ (one : CellRef). PassGives plan count (port_of shards before) (Load one offset size) (Word value) (port_of shards' after)) is
    (given_one count plan shards shards' before after (Load cell offset size) (Word value) stands same_shards
    (cell_within count plan shards before handle cell offset size stands is readable) elsewhere tt
    (word_below (plan cell.shard) cell.shard (worker_number before.who) (view_at before cell.shard) (view_at after cell.shard) cell offset size
    value asked.at) asked)

pub store_given : (count : ℕ) (plan : ℕ → ShardPlan) (shards shards' : SharedMaps) (before after : PassView) (handle : ℕ) (cell : CellRef)
    (offset size value : ℕ) → Stands count plan shards before → shards' ≡ shards → cell ≡ cell_of_handle handle →
    IsElsewhereSame cell.shard before after →
    IsReadable (served_of shards) (has_found (port_of shards before)) (cell_of_handle handle) offset size →
    IsAskedBy (plan cell.shard) cell.shard before after
    (Store cell offset size value) Done →
    PassGives plan count (port_of shards before) (Store (cell_of_handle handle) offset size value) Done (port_of shards' after)
store_given count plan shards shards' before after handle cell offset size value stands same_shards is elsewhere readable asked =
    subst (λ (one : CellRef). PassGives plan count (port_of shards before) (Store one offset size value) Done (port_of shards' after)) is
    (given_one count plan shards shards' before after (Store cell offset size value) Done stands same_shards
    (cell_within count plan shards before handle cell offset size stands is readable) elsewhere tt tt asked)

pub change_given : (count : ℕ) (plan : ℕ → ShardPlan) (shards shards' : SharedMaps) (before after : PassView) (handle : ℕ) (cell : CellRef)
    (offset size op value expected old : ℕ) → Stands count plan shards before → shards' ≡ shards → cell ≡ cell_of_handle handle →
    IsElsewhereSame cell.shard before after →
    IsReadable (served_of shards) (has_found (port_of shards before)) (cell_of_handle handle) offset size →
    IsAskedBy (plan cell.shard) cell.shard before after
    (Atomic cell offset size op value expected) (Word old) →
    PassGives plan count (port_of shards before) (Atomic (cell_of_handle handle) offset size op value expected) (Word old)
    (port_of shards' after)
change_given count plan shards shards' before after handle cell offset size op value expected old stands same_shards is elsewhere readable
    asked =
    subst (λ (one : CellRef). PassGives plan count (port_of shards before) (Atomic one offset size op value expected) (Word old)
    (port_of shards' after)) is
    (given_one count plan shards shards' before after (Atomic cell offset size op value expected) (Word old) stands same_shards
    (cell_within count plan shards before handle cell offset size stands is readable) elsewhere tt
    (changed_below (plan cell.shard) cell.shard (worker_number before.who) (view_at before cell.shard) (view_at after cell.shard) cell offset
    size op value expected old asked.at) asked)

-- a refusal of a call of a cell
pub cell_refused : (count : ℕ) (plan : ℕ → ShardPlan) (shards shards' : SharedMaps) (before after : PassView) (handle : ℕ) (cell : CellRef)
    (offset size : ℕ) (call : CellRef → Call) → ((one : CellRef) → shard_of_call (call one) ≡ one.shard) →
    Stands count plan shards before → shards' ≡ shards →
    cell ≡ cell_of_handle handle → IsElsewhereSame cell.shard before after →
    IsReadable (served_of shards) (has_found (port_of shards before)) (cell_of_handle handle) offset size →
    IsTurnedAwayBy (plan cell.shard) cell.shard before after (call cell) →
    PassRefuses plan count (port_of shards before) (call (cell_of_handle handle)) (port_of shards' after)
cell_refused count plan shards shards' before after handle cell offset size call own stands same_shards is elsewhere readable away =
    let at : cell.shard ≡ shard_of_call (call cell) = sym (own cell) in
    subst (λ (one : CellRef). PassRefuses plan count (port_of shards before) (call one) (port_of shards' after)) is
    (refused_one count plan shards shards' before after (call cell) stands same_shards
    (subst (λ (n : ℕ). n < count) at (cell_within count plan shards before handle cell offset size stands is readable))
    (subst (λ (n : ℕ). IsElsewhereSame n before after) at elsewhere)
    (subst (λ (n : ℕ). IsTurnedAwayBy (plan n) n before after (call cell)) at away))
