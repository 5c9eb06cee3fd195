-- What the calls of each kind return.
use Rattle.std.proofs.Common.{◌≡◌, ℕ, zero, suc, ◌+◌, ◌-◌, ◌*◌, ◌/◌, ◌%◌, ◌^◌, ◌<◌, ◌≤◌, Bool, true, false, nat_lt, List, [], ◌∷◌, length, reverse, Option, Some, None, arith, refl, sym, ◌∙◌, ap, subst, add-one}
use Rattle.std.specs.Prelude.{◌==◌, IsTrue, slice_get, find, option_map, bytes_eq, if◌then◌else◌}
use Rattle.std.specs.List.{AllByRecursion}
use Rattle.std.proofs.lemmas.Option.{slice_get_within}
use Rattle.std.proofs.lemmas.Nat.{div-mul-add, mod-mul-add}
use Rattle.std.proofs.Math.Nat.{ℕ_set, mul-le-mul_right, div-le_self}
use Rattle.std.specs.Coded.{Coded-set, coded_bool, le_prop}
use Rattle.std.proofs.Math.Logic.{∥∥₁_elim}
use Rattle.std.proofs.lemmas.Bool.{false≢true}
use Rattle.std.proofs.lemmas.Bool.Decides.{nat_tests}
use Rattle.ebpf_decode.specs.declared.map.MapDef.{MapDef}
use Rattle.ebpf_decode.specs.declared.map.MapKind.{MapKind}
use Rattle.ebpf_decode.specs.declared.map.MapKind.TheVariants.{Hash, Array, LruHash}
use Rattle.semantics.specs.declared.options.Options.{Options}
use Rattle.semantics.specs.declared.plan.PresentKey.{PresentKey}
use Rattle.semantics.specs.declared.plan.ShardPlan.{ShardPlan}
use Rattle.semantics.specs.declared.call.Caller.TheVariants.{Worker}
use Rattle.semantics.specs.declared.call.CellRef.{CellRef}
use Rattle.semantics.specs.declared.call.Entry.{Entry}
use Rattle.semantics.specs.declared.call.Call.{Call}
use Rattle.semantics.specs.declared.call.Call.TheVariants.{Lookup, Load, Atomic}
use Rattle.semantics.specs.declared.call.Reply.{Reply}
use Rattle.semantics.specs.declared.call.Reply.TheVariants.{Cell}
use Rattle.semantics.specs.LittleEndian.{number_of_bytes}
use Rattle.semantics.specs.ShardPlan.{plan_for_map}
use Rattle.semantics.specs.PlanLimits.{IsIndexSize, HasImageSizes}
use Rattle.semantics.specs.Reclamation.{inside_count}
use Rattle.semantics.specs.SequentialShard.{shard_after, opening_cells, cell_of_kind, cell_of_index, cell_of_present, cell_of_key, lookup_reply}
use Rattle.semantics.specs.ServedCalls.{IsKeyOf}
use Rattle.semantics.specs.History.{meets_part}
use Rattle.semantics.specs.RunTrace.{IsReplyTo, MayBeAbsent}
use Rattle.semantics.proofs.shared.FirstElement.{nothing_found}
use Rattle.semantics.proofs.shared.IdLemmas.{ids_are_few}
use Rattle.semantics.proofs.shared.HoldingLemmas.{each_find, each_weaker, sound_after}
use Rattle.semantics.proofs.shared.ConditionLemmas.{first_true, second_true}
use Rattle.shard_core.specs.JournaledShard.{JournaledShard}
use Rattle.map_port.specs.Served.{Maps, program_over, reply_of_handle}
use Rattle.semantics.proofs.shared.PlanLemmas.{some_shards, few_parts}
use Rattle.shard_port.specs.Asking.{entered, IsAnsweredAmong}
use Rattle.shard_port.specs.PortView.{IsShardOf, IsPortReady, IsRunCall, SetsBytes, IsGivenBy, cell_of_handle, handle_of, has_small_cell}
use Rattle.shard_port.specs.PortLaws.{both_true}
use Rattle.semantics.proofs.shared.CellBytes.{number_in_cell-below}
use Rattle.semantics.proofs.shared.CallNumbers.{not_over}
use Rattle.semantics.specs.Cells.{word_in}
use Rattle.shard_port.proofs.shared.ReadyLemmas.{plan_number, bytes_entered}
use Rattle.shard_port.proofs.shared.MayAskLemmas.{served_by}

-- ---- maps

pub sizes_at : (maps : List MapDef) (map : ℕ) (definition : MapDef) → AllByRecursion HasImageSizes maps → slice_get maps map ≡ Some definition → HasImageSizes definition
sizes_at [] map definition each known = cc
sizes_at (first ∷ rest) zero definition each known = let same : first ≡ definition = cc in subst HasImageSizes same each.0
sizes_at (first ∷ rest) (suc map) definition each known = sizes_at rest map definition each.1 known

pub some_same : (one other : MapDef) → Some one ≡ Some other → one ≡ other
some_same one other same = cc

pub index_size_prop : (kind : MapKind) (size : ℕ) → IsProp (IsIndexSize kind size)
index_size_prop Hash size = λ one other. refl
index_size_prop Array size = ℕ_set size 4
index_size_prop LruHash size = λ one other. refl

pub index_size : (maps : List MapDef) (options : Options) (worker : ℕ) (shards : List JournaledShard) (map : ℕ) (key : List ℕ) (definition : MapDef) → IsPortReady maps options worker shards → IsKeyOf maps map key → slice_get maps map ≡ Some definition → IsIndexSize definition.kind (length key)
index_size maps options worker shards map key definition ready of_map known =
    let same : of_map.definition ≡ definition = some_same _ _ (sym of_map.known ∙ known) in
    let sized : length key ≡ definition.key_size = of_map.key_size ∙ ap (λ (one : MapDef). one.key_size) same in
    subst (IsIndexSize definition.kind) (sym sized) (sizes_at maps map definition ready.sizes known).index_size

-- ---- small cells

small : (plan : ShardPlan) (id : ℕ) → plan.number < 128 → id < 2 ^ 32 → has_small_cell (lookup_reply plan (Some id)) ≡ true
small plan id few below = both_true (nat_lt plan.number 128) (nat_lt id (2 ^ 32)) (grind (arith, nat_tests)) (grind (arith, nat_tests))

small_index : (plan : ShardPlan) (index : ℕ) → plan.number < 128 → plan.definition.max_entries ≤ 131072 → has_small_cell (lookup_reply plan (cell_of_index plan index)) ≡ true
small_index plan index few entries = by_test (nat_lt index plan.definition.max_entries) refl
  where
    by_test : (known : Bool) → nat_lt index plan.definition.max_entries ≡ known → has_small_cell (lookup_reply plan (if known then Some (index / plan.parts) else None)) ≡ true
    by_test true is =
        let within : index < plan.definition.max_entries = grind (arith, nat_tests) in
        let less : index / plan.parts ≤ index = div-le_self index plan.parts in
        small plan (index / plan.parts) few (omega (arith, within, less, entries))
    by_test false is = refl

small_present : (plan : ShardPlan) (key : List ℕ) (present : List PresentKey) → plan.number < 128 → AllByRecursion (λ (one : PresentKey). one.cell < 2 ^ 32) present → has_small_cell (lookup_reply plan (cell_of_present present key)) ≡ true
small_present plan key present few below = by_found (find (λ (one : PresentKey). bytes_eq one.key key) present) refl
  where
    by_found : (found : Option PresentKey) → find (λ (one : PresentKey). bytes_eq one.key key) present ≡ found → has_small_cell (lookup_reply plan (option_map (λ (one : PresentKey). one.cell) found)) ≡ true
    by_found None is = refl
    by_found (Some one) is = small plan one.cell few (each_find (λ (one : PresentKey). one.cell < 2 ^ 32) (λ (one : PresentKey). bytes_eq one.key key) present one below is)

few_shards : (maps : List MapDef) (options : Options) (worker : ℕ) (shards : List JournaledShard) → IsPortReady maps options worker shards → length shards ≤ 128
few_shards maps options worker shards ready =
    let counted : length shards ≡ length maps * options.shards = ready.are_shards.count in
    let at_most : length maps * options.shards ≤ 16 * options.shards = mul-le-mul_right options.shards ready.few in
    let parts : options.shards ≤ 8 = few_parts maps options ready.are_options in
    omega (arith, counted, at_most, parts)

-- a map that begins without cells has no more than its entries
few_cells : (plan : ShardPlan) (history : List Entry) (kind : MapKind) → plan.definition.kind ≡ kind → opening_cells kind plan ≡ [] → length history < 2 ^ 32 → length (shard_after plan history).cells < 2 ^ 32
few_cells plan history kind is none short =
    let some : length (shard_after plan history).cells ≤ length (opening_cells plan.definition.kind plan) + length history = ids_are_few plan history in
    let opened : length (opening_cells plan.definition.kind plan) ≡ 0 = ap (λ one. length (opening_cells one plan)) is ∙ ap length none in
    omega (arith, some, opened, short)

small_keyed : (plan : ShardPlan) (history : List Entry) (key : List ℕ) → plan.number < 128 → length (shard_after plan history).cells < 2 ^ 32 → has_small_cell (lookup_reply plan (cell_of_present (shard_after plan history).present key)) ≡ true
small_keyed plan history key few short =
    small_present plan key (shard_after plan history).present few
    (each_weaker (λ (one : PresentKey). one.cell < length (shard_after plan history).cells) (λ (one : PresentKey). one.cell < 2 ^ 32) (λ one below. omega (arith, below, short)) (shard_after plan history).present (sound_after plan history).present)

pub small_of_kind : (kind : MapKind) (plan : ShardPlan) (history : List Entry) (key : List ℕ) → plan.definition.kind ≡ kind → plan.number < 128 → plan.definition.max_entries ≤ 131072 → length history < 2 ^ 32 → has_small_cell (lookup_reply plan (cell_of_kind kind plan (shard_after plan history) key)) ≡ true
small_of_kind Hash plan history key is few entries short = small_keyed plan history key few (few_cells plan history Hash is refl short)
small_of_kind Array plan history key is few entries short = small_index plan (number_of_bytes key) few entries
small_of_kind LruHash plan history key is few entries short = small_keyed plan history key few (few_cells plan history LruHash is refl short)

pub plan_reserve : (options : Options) (number : ℕ) (definition : Option MapDef) (plan : ShardPlan) → plan_for_map options number definition ≡ Some plan → plan.reserve ≡ options.journal
plan_reserve options number None plan is = cc
plan_reserve options number (Some definition) plan is =
    let same : (record { number = number; part = number % options.shards; parts = options.shards; definition = definition; workers = options.workers; reserve = options.journal }) ≡ plan = cc in
    ap (λ (one : ShardPlan). one.reserve) (sym same)

pub small_lookup : (maps : List MapDef) (options : Options) (worker : ℕ) (before : List JournaledShard) (number : ℕ) (key : List ℕ) (reply : Reply) (after : List JournaledShard) → IsPortReady maps options worker before → IsAnsweredAmong worker before (Lookup number key) reply after → IsTrue (has_small_cell reply)
small_lookup maps options worker before number key reply after ready among =
    let plan : ShardPlan = among.shard.plan in
    let is : IsShardOf maps options number among.shard = ready.are_shards.each number among.shard among.known in
    let planned = plan_number options number (slice_get maps (number / options.shards)) plan is.planned in
    let sizes : HasImageSizes plan.definition = sizes_at maps (number / options.shards) plan.definition ready.sizes planned.4 in
    let within : number < length before = slice_get_within before number among.shard among.known in
    let few : length before ≤ 128 = few_shards maps options worker before ready in
    let numbered : plan.number ≡ number = planned.0 in
    let below : plan.number < 128 = omega (arith, within, few, numbered) in
    let history : List Entry = reverse (entered worker among.shard).journal in
    let reserve : plan.reserve ≡ options.journal = plan_reserve options number (slice_get maps (number / options.shards)) plan is.planned in
    let most : options.journal ≤ 4000000000 = ready.are_options.greatest_journal in
    let room : length history + inside_count history + 0 + 1 ≤ plan.reserve = not_over plan.reserve (length history + inside_count history + 0 + 1) among.answered.room in
    let short : length history < 2 ^ 32 = omega (arith, room, reserve, most) in
    let small : has_small_cell (lookup_reply plan (cell_of_key plan (shard_after plan history) key)) ≡ true = small_of_kind plan.definition.kind plan history key refl below sizes.most_entries short in
    subst (λ (one : Reply). has_small_cell one ≡ true) (sym among.answered.replied) small

-- ---- lookups

pub found_again : (plan : ShardPlan) (found : Option ℕ) → has_small_cell (lookup_reply plan found) ≡ true → lookup_reply plan found ≡ reply_of_handle cell_of_handle (handle_of (lookup_reply plan found))
found_again plan None small = refl
found_again plan (Some id) small =
    let low : IsTrue (nat_lt id (2 ^ 32)) = second_true (nat_lt plan.number 128) (nat_lt id (2 ^ 32)) small in
    let below : id < 2 ^ 32 = grind (arith, nat_tests) in
    let place : suc (plan.number * 2 ^ 32 + id) - 1 ≡ plan.number * 2 ^ 32 + id = omega arith in
    let shard : plan.number ≡ (suc (plan.number * 2 ^ 32 + id) - 1) / 2 ^ 32 = sym (div-mul-add plan.number (2 ^ 32) id below) ∙ ap (λ n. n / 2 ^ 32) (sym place) in
    let cell : id ≡ (suc (plan.number * 2 ^ 32 + id) - 1) % 2 ^ 32 = sym (mod-mul-add plan.number (2 ^ 32) id below) ∙ ap (λ n. n % 2 ^ 32) (sym place) in
    rw add-one (ap (λ n. Cell (record { shard = n; id = id })) shard ∙ ap (λ n. Cell (record { shard = (suc (plan.number * 2 ^ 32 + id) - 1) / 2 ^ 32; id = n })) cell)

pub found_told : (worker : ℕ) (before : List JournaledShard) (number : ℕ) (key : List ℕ) (reply : Reply) (after : List JournaledShard) → IsTrue (has_small_cell reply) → IsAnsweredAmong worker before (Lookup number key) reply after → reply ≡ reply_of_handle cell_of_handle (handle_of reply)
found_told worker before number key reply after small among =
    let is : reply ≡ lookup_reply among.shard.plan (cell_of_key among.shard.plan (shard_after among.shard.plan (reverse (entered worker among.shard).journal)) key) = among.answered.replied in
    subst (λ (one : Reply). one ≡ reply_of_handle cell_of_handle (handle_of one)) (sym is)
    (found_again among.shard.plan (cell_of_key among.shard.plan (shard_after among.shard.plan (reverse (entered worker among.shard).journal)) key) (subst (λ (one : Reply). has_small_cell one ≡ true) is small))

-- what a lookup finds in its shard, which its worker has entered before
abbrev found_there : {worker : ℕ} {before : List JournaledShard} {number : ℕ} {key : List ℕ} {reply : Reply} {after : List JournaledShard} →
    IsAnsweredAmong worker before (Lookup number key) reply after → Option ℕ
found_there {worker} {before} {number} {key} among =
    cell_of_key among.shard.plan (shard_after among.shard.plan (reverse (entered worker among.shard).journal)) key

-- where nothing was found, nothing has to be there
absent_where : (maps : List MapDef) (options : Options) (worker : ℕ) (before : List JournaledShard) (number : ℕ) (key : List ℕ) (reply : Reply) (after : List JournaledShard) →
    IsPortReady maps options worker before → (among : IsAnsweredAmong worker before (Lookup number key) reply after) → found_there among ≡ None →
    MayBeAbsent (program_over (served_by maps options)) number key
absent_where maps options worker before number key reply after ready among none =
    let plan : ShardPlan = among.shard.plan in
    let is : IsShardOf maps options number among.shard = ready.are_shards.each number among.shard among.known in
    let planned = plan_number options number (slice_get maps (number / options.shards)) plan is.planned in
    let sizes : HasImageSizes plan.definition = sizes_at maps (number / options.shards) plan.definition ready.sizes planned.4 in
    nothing_found (program_over (served_by maps options)) plan (shard_after plan (reverse (entered worker among.shard).journal)) number key
    (some_shards maps options ready.are_options) planned.4 sizes.some_entries none

may_be_absent : (maps : List MapDef) (options : Options) (worker : ℕ) (before : List JournaledShard) (number : ℕ) (key : List ℕ) (reply : Reply) (after : List JournaledShard) →
    ∥ IsPortReady maps options worker before ∥₁ → (among : IsAnsweredAmong worker before (Lookup number key) reply after) → found_there among ≡ None →
    MayBeAbsent (program_over (served_by maps options)) number key
may_be_absent maps options worker before number key reply after is_ready among none map definition known array own first =
    let impossible : false ≡ true = ∥∥₁_elim is_ready (Coded-set coded_bool false true)
    (λ (ready : IsPortReady maps options worker before). absurd (absent_where maps options worker before number key reply after ready among none map definition known array own first)) in
    absurd (false≢true impossible)

pub found_formed : (served : Maps) (plan : ShardPlan) (number : ℕ) (key : List ℕ) (found : Option ℕ) → plan.number ≡ number → (found ≡ None → MayBeAbsent (program_over served) number key) →
    IsReplyTo (program_over served) (Lookup number key) (lookup_reply plan found)
found_formed served plan number key None same absent = absent refl
found_formed served plan number key (Some id) same absent = same

pub lookup_formed : (maps : List MapDef) (options : Options) (worker : ℕ) (before : List JournaledShard) (number : ℕ) (key : List ℕ) (reply : Reply) (after : List JournaledShard) →
    ∥ IsPortReady maps options worker before ∥₁ → IsAnsweredAmong worker before (Lookup number key) reply after →
    IsReplyTo (program_over (served_by maps options)) (Lookup number key) reply
lookup_formed maps options worker before number key reply after ready among =
    let named : IsTrue (number == among.shard.plan.number) = first_true (number == among.shard.plan.number) (meets_part among.shard.plan (reverse (entered worker among.shard).journal) (Worker worker) (Lookup number key)) among.answered.met in
    let same : among.shard.plan.number ≡ number = grind (arith, nat_tests) in
    subst (IsReplyTo (program_over (served_by maps options)) (Lookup number key)) (sym among.answered.replied)
    (found_formed (served_by maps options) among.shard.plan number key _ same (may_be_absent maps options worker before number key reply after ready among))

-- ---- words

pub load_below : (maps : List MapDef) (options : Options) (worker : ℕ) (before : List JournaledShard) (cell : CellRef) (offset size : ℕ) (reply : Reply) (after : List JournaledShard) → IsPortReady maps options worker before → IsAnsweredAmong worker before (Load cell offset size) reply after → word_in reply < 256 ^ size
load_below maps options worker before cell offset size reply after ready among =
    let is : IsShardOf maps options cell.shard among.shard = ready.are_shards.each cell.shard among.shard among.known in
    subst (λ (one : Reply). word_in one < 256 ^ size) (sym among.answered.replied)
    (number_in_cell-below (shard_after among.shard.plan (reverse (entered worker among.shard).journal)) cell.id offset size (bytes_entered worker among.shard is.bytes))

pub change_below : (maps : List MapDef) (options : Options) (worker : ℕ) (before : List JournaledShard) (cell : CellRef) (offset size op value expected : ℕ) (reply : Reply) (after : List JournaledShard) → IsPortReady maps options worker before → IsAnsweredAmong worker before (Atomic cell offset size op value expected) reply after → word_in reply < 256 ^ size
change_below maps options worker before cell offset size op value expected reply after ready among =
    let is : IsShardOf maps options cell.shard among.shard = ready.are_shards.each cell.shard among.shard among.known in
    subst (λ (one : Reply). word_in one < 256 ^ size) (sym among.answered.replied)
    (number_in_cell-below (shard_after among.shard.plan (reverse (entered worker among.shard).journal)) cell.id offset size (bytes_entered worker among.shard is.bytes))

-- ---- together

pub given_by : (maps maps' : List MapDef) (options options' : Options) (worker worker' : ℕ) (before after : List JournaledShard) (call : Call) (reply : Reply) →
    maps' ≡ maps → options' ≡ options → worker' ≡ worker → ∥ IsPortReady maps options worker before ∥₁ → IsRunCall call → SetsBytes call →
    IsReplyTo (program_over (served_by maps options)) call reply → IsAnsweredAmong worker before call reply after →
    IsGivenBy (record { served = served_by maps options; worker = worker; shards = before }) call reply (record { served = served_by maps' options'; worker = worker'; shards = after })
given_by maps maps' options options' worker worker' before after call reply same_maps same_options same_worker is_ready run sets formed among = record {
  same_maps = ap (λ ms. served_by ms options') same_maps ∙ ap (λ os. served_by maps os) same_options;
  same_worker = same_worker;
  some_shard = ∥∥₁_elim is_ready le_prop (λ (ready : IsPortReady maps options worker before). some_shards maps options ready.are_options);
  run_call = run;
  sets_bytes = sets;
  formed = formed;
  answered = among;
}
