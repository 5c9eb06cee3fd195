-- A call that a pass's port takes is one that its shard serves.
use Rattle.std.proofs.Common.{◌≡◌, ℕ, ◌+◌, ◌*◌, ◌/◌, ◌^◌, ◌<◌, ◌≤◌, true, List, length, Option, Some, None, arith, refl, sym, ◌∙◌, ap, subst}
use Rattle.std.specs.Prelude.{◌==◌, IsTrue, slice_get}
use Rattle.std.proofs.lemmas.Bool.Decides.{nat_tests}
use Rattle.std.proofs.lemmas.Option.{slice_get_within}
use Rattle.std.proofs.Math.Nat.{div-lt_iff_lt-mul}
use Rattle.isa.specs.declared.operation.AtomicOp.{AtomicOp}
use Rattle.ebpf_decode.specs.declared.map.MapDef.{MapDef}
use Rattle.semantics.specs.declared.options.Options.{Options}
use Rattle.semantics.specs.declared.plan.ShardPlan.{ShardPlan}
use Rattle.semantics.specs.declared.call.Caller.{Caller}
use Rattle.semantics.specs.declared.call.Caller.TheVariants.{Worker, Controller, Reclaimer}
use Rattle.semantics.specs.declared.call.CellRef.{CellRef}
use Rattle.semantics.specs.declared.call.Entry.{Entry}
use Rattle.semantics.specs.declared.call.Call.TheVariants.{Load, Store}
use Rattle.semantics.specs.Program.{shard_of_key, value_size_of}
use Rattle.semantics.specs.ShardPlan.{AreOptions}
use Rattle.semantics.specs.PlanLimits.{IsIndexSize}
use Rattle.semantics.proofs.shared.PlanLemmas.{some_shards}
use Rattle.semantics.proofs.shared.ImageSizes.{image_sizes}
use Rattle.ebpf_decode.specs.declared.version.Version.TheVariants.{V2}
use Rattle.journals.specs.JournalsView.{AreImageMaps}
use Rattle.shard_port.proofs.GivenLemmas.{sizes_at, some_same}
use Rattle.semantics.specs.Reclamation.{is_inside, holds}
use Rattle.semantics.specs.ServedCalls.{IsKeyOf, IsPairOf}
use Rattle.semantics.specs.History.{is_inside_worker, is_holder, is_own_key, is_load_size, is_in_cell, Meets}
use Rattle.semantics.proofs.shared.ConditionLemmas.{first_true, second_true, bytes_test}
use Rattle.map_port.specs.Served.{Maps, served_shard, IsReadable, IsStorable, IsAtomic, lookup_call, update_call, delete_call, atomic_call}
use Rattle.shards.specs.SharedMaps.{ArePlans}
use Rattle.shards.specs.Passes.{PassView, own_at}
use Rattle.shards.proofs.shared.Keys as keys
use Rattle.shard_port.specs.PortLaws.{both_true}
use Rattle.shard_port.specs.PassPorts.{is_worker_below, worker_number, inside_own, has_found}
use Rattle.shards.specs.HeldCells.{holds_own}
use Rattle.shard_port.specs.PassPortLaws.{inside_once, stays_inside}
use Rattle.shard_port.proofs.shared.ReadyLemmas.{plan_number}
use Rattle.shard_port.proofs.shared.MayAskLemmas.{served_by, same_test, flags_test, fits_test, known_op, load_of_atomic, in_cell_of}
use Rattle.shard_port.proofs.shared.PassAskLemmas.{planned_at, below_workers}

-- ---- keys

pub shard_known : (served : Maps) (map : ℕ) (key : List ℕ) (definition : MapDef) → slice_get served.maps map ≡ Some definition →
    served_shard served map key ≡ shard_of_key map definition.kind served.shards key
shard_known served map key definition known = rw known refl

pub index_size : (maps : List MapDef) (options : Options) (map : ℕ) (key : List ℕ) (definition : MapDef) → AreImageMaps maps →
    IsKeyOf maps map key → slice_get maps map ≡ Some definition → IsIndexSize definition.kind (length key)
index_size maps options map key definition image of_map known =
    let same : of_map.definition ≡ definition = some_same _ _ (sym of_map.known ∙ known) in
    let sized : length key ≡ definition.key_size = of_map.key_size ∙ ap (λ (one : MapDef). one.key_size) same in
    subst (IsIndexSize definition.kind) (sym sized) (sizes_at maps map definition (image_sizes V2 maps image.allowed) known).index_size

-- the shard of a key, which its caller has entered
pub record IsAtKey (options : Options) (count : ℕ) (plan : ℕ → ShardPlan) (who : Caller) (own : List Entry) (number : ℕ)
    (definition : MapDef) (key : List ℕ) : Type 0 where
  pub within : number < count
  pub numbered : (number == (plan number).number) ≡ true
  pub inside : is_inside_worker (plan number) (inside_own (worker_number who) number own) who ≡ true
  pub own_key : is_own_key (plan number) key ≡ true
  pub defined : (plan number).definition ≡ definition

inside_worker : (options : Options) (plan : ShardPlan) (who : Caller) (number : ℕ) (own : List Entry) → plan.workers ≡ options.workers →
    IsTrue (is_worker_below options.workers who) → is_inside_worker plan (inside_own (worker_number who) number own) who ≡ true
inside_worker options plan (Worker worker) number own same below =
    both_true _ _ (below_workers options plan worker same below) (inside_once worker number own)
inside_worker options plan Controller number own same below = cc
inside_worker options plan Reclaimer number own same below = cc

pub at_key : (maps : List MapDef) (options : Options) (count : ℕ) (plan : ℕ → ShardPlan) (who : Caller) (own : List Entry) (map : ℕ)
    (key : List ℕ) → ArePlans maps options count plan → AreOptions maps options → IsTrue (is_worker_below options.workers who) →
    (of_map : IsKeyOf maps map key) →
    IsAtKey options count plan who own (served_shard (served_by maps options) map key) of_map.definition key
at_key maps options count plan who own map key plans are below of_map =
    let definition : MapDef = of_map.definition in
    let at : keys.IsAtKey maps options count plan (shard_of_key map definition.kind options.shards key) definition key =
    keys.at_key maps options count plan map definition key plans are of_map.known of_map.key_size of_map.bytes in
    subst (λ (n : ℕ). IsAtKey options count plan who own n definition key)
    (sym (shard_known (served_by maps options) map key definition of_map.known)) (record {
      within = at.within;
      numbered = same_test _ _ (sym at.is.numbered);
      inside =
          inside_worker options (plan (shard_of_key map definition.kind options.shards key)) who
          (shard_of_key map definition.kind options.shards key) own at.is.workers below;
      own_key = at.own_key;
      defined = at.is.defined;
    })

pub lookup_met : (maps : List MapDef) (options : Options) (count : ℕ) (plan : ℕ → ShardPlan) (who : Caller) (own : List Entry) (map : ℕ)
    (key : List ℕ) → ArePlans maps options count plan → AreOptions maps options → IsTrue (is_worker_below options.workers who) →
    IsKeyOf maps map key →
    Meets (plan (served_shard (served_by maps options) map key))
    (inside_own (worker_number who) (served_shard (served_by maps options) map key) own) who (lookup_call (served_by maps options) map key)
lookup_met maps options count plan who own map key plans are below of_map =
    let at = at_key maps options count plan who own map key plans are below of_map in
    both_true _ _ at.numbered (both_true _ _ at.inside at.own_key)

pub delete_met : (maps : List MapDef) (options : Options) (count : ℕ) (plan : ℕ → ShardPlan) (who : Caller) (own : List Entry) (map : ℕ)
    (key : List ℕ) → ArePlans maps options count plan → AreOptions maps options → IsTrue (is_worker_below options.workers who) →
    IsKeyOf maps map key →
    Meets (plan (served_shard (served_by maps options) map key))
    (inside_own (worker_number who) (served_shard (served_by maps options) map key) own) who (delete_call (served_by maps options) map key)
delete_met maps options count plan (Worker worker) own map key plans are below of_map =
    let at = at_key maps options count plan (Worker worker) own map key plans are below of_map in
    both_true _ _ at.numbered (both_true _ _ at.inside at.own_key)
delete_met maps options count plan Controller own map key plans are below of_map = cc
delete_met maps options count plan Reclaimer own map key plans are below of_map = cc

pub update_met : (maps : List MapDef) (options : Options) (count : ℕ) (plan : ℕ → ShardPlan) (who : Caller) (own : List Entry) (map : ℕ)
    (key value : List ℕ) (flags : ℕ) → ArePlans maps options count plan → AreOptions maps options →
    IsTrue (is_worker_below options.workers who) → flags < 2 ^ 64 → IsPairOf maps map key value →
    Meets (plan (served_shard (served_by maps options) map key))
    (inside_own (worker_number who) (served_shard (served_by maps options) map key) own) who
    (update_call (served_by maps options) map key value flags)
update_met maps options count plan (Worker worker) own map key value flags plans are below few pair =
    let at = at_key maps options count plan (Worker worker) own map key plans are below pair.at in
    let number : ℕ = served_shard (served_by maps options) map key in
    let sized : length value ≡ (plan number).definition.value_size =
    pair.value_size ∙ ap (λ (one : MapDef). one.value_size) (sym at.defined) in
    both_true _ _ at.numbered
    (both_true _ _ (both_true _ _ at.inside at.own_key)
    (both_true _ _ (both_true _ _ (same_test _ _ sized) (bytes_test value pair.value_bytes)) (flags_test flags few)))
update_met maps options count plan Controller own map key value flags plans are below few pair = cc
update_met maps options count plan Reclaimer own map key value flags plans are below few pair = cc

-- ---- cells

-- a place in a cell that was handed out
pub record IsAtPlace (options : Options) (count : ℕ) (plan : ℕ → ShardPlan) (who : Caller) (own : List Entry) (cell : CellRef)
    (offset size : ℕ) : Type 0 where
  pub within : cell.shard < count
  pub numbered : (cell.shard == (plan cell.shard).number) ≡ true
  pub holder : is_holder (plan cell.shard) (inside_own (worker_number who) cell.shard own) who cell.id ≡ true
  pub is_size : is_load_size size ≡ true
  pub in_cell : is_in_cell (plan cell.shard) offset size ≡ true

some_map : (maps : List MapDef) (map offset size : ℕ) (found : Option MapDef) → slice_get maps map ≡ found → is_load_size size ≡ true →
    offset + size ≤ value_size_of found → (definition : MapDef) × (slice_get maps map ≡ Some definition)
some_map maps map offset size (Some definition) is size_is inside = (definition, is)
some_map maps map offset size None is size_is inside =
    let none : size ≡ 0 = omega (arith, inside) in
    let bad : is_load_size 0 ≡ true = subst (λ (n : ℕ). is_load_size n ≡ true) none size_is in
    absurd (cc bad)

holder_of : (options : Options) (plan : ShardPlan) (who : Caller) (number cell : ℕ) (own : List Entry) → plan.workers ≡ options.workers →
    IsTrue (is_worker_below options.workers who) → IsTrue (holds_own who own cell) →
    is_holder plan (inside_own (worker_number who) number own) who cell ≡ true
holder_of options plan (Worker worker) number cell own same below held =
    let inside : is_inside worker own ≡ true = first_true (is_inside worker own) (holds worker cell own) held in
    let found : holds worker cell own ≡ true = second_true (is_inside worker own) (holds worker cell own) held in
    both_true _ _ (below_workers options plan worker same below)
    (subst (λ (list : List Entry). holds worker cell list ≡ true) (sym (stays_inside worker number own inside)) found)
holder_of options plan Controller number cell own same below held = cc
holder_of options plan Reclaimer number cell own same below held = cc

pub at_place : (maps : List MapDef) (options : Options) (count : ℕ) (plan : ℕ → ShardPlan) (pass : PassView) (cell : CellRef)
    (offset size : ℕ) → ArePlans maps options count plan → AreOptions maps options → IsTrue (is_worker_below options.workers pass.who) →
    IsReadable (served_by maps options) (has_found (record { served = served_by maps options; pass = pass })) cell offset size →
    IsAtPlace options count plan pass.who (own_at pass cell.shard) cell offset size
at_place maps options count plan pass cell offset size plans are below readable =
    let map : ℕ = readable.map in
    let of_map : IsTrue (cell.shard / options.shards == map) =
    first_true (cell.shard / options.shards == map) (holds_own pass.who (own_at pass cell.shard) cell.id) readable.holds in
    let held : IsTrue (holds_own pass.who (own_at pass cell.shard) cell.id) =
    second_true (cell.shard / options.shards == map) (holds_own pass.who (own_at pass cell.shard) cell.id) readable.holds in
    let place : cell.shard / options.shards ≡ map = grind (arith, nat_tests) in
    let known = some_map maps map offset size (slice_get maps map) refl readable.is_size readable.inside in
    let among : map < length maps = slice_get_within maps map known.0 known.1 in
    let some : 0 < options.shards = some_shards maps options are in
    let below_all : cell.shard < length maps * options.shards =
    (div-lt_iff_lt-mul some).0 (subst (λ (n : ℕ). n < length maps) (sym place) among) in
    let counted : count ≡ length maps * options.shards = plans.count_is in
    let within : cell.shard < count = omega (arith, below_all, counted) in
    let at = planned_at maps options count plan cell.shard plans within in
    let planned = plan_number options cell.shard (slice_get maps (cell.shard / options.shards)) (plan cell.shard)
    (plans.each cell.shard within) in
    let defined : slice_get maps map ≡ Some (plan cell.shard).definition = ap (slice_get maps) (sym place) ∙ planned.4 in
    record {
      within = within;
      numbered = at.numbered_test;
      holder = holder_of options (plan cell.shard) pass.who cell.shard cell.id (own_at pass cell.shard) at.workers below held;
      is_size = readable.is_size;
      in_cell = in_cell_of maps map (plan cell.shard) offset size defined readable.inside;
    }

pub load_met : (maps : List MapDef) (options : Options) (count : ℕ) (plan : ℕ → ShardPlan) (pass : PassView) (cell : CellRef)
    (offset size : ℕ) → ArePlans maps options count plan → AreOptions maps options → IsTrue (is_worker_below options.workers pass.who) →
    IsReadable (served_by maps options) (has_found (record { served = served_by maps options; pass = pass })) cell offset size →
    Meets (plan cell.shard) (inside_own (worker_number pass.who) cell.shard (own_at pass cell.shard)) pass.who (Load cell offset size)
load_met maps options count plan pass cell offset size plans are below readable =
    let at = at_place maps options count plan pass cell offset size plans are below readable in
    both_true _ _ at.numbered (both_true _ _ (both_true _ _ at.holder at.is_size) at.in_cell)

pub store_met : (maps : List MapDef) (options : Options) (count : ℕ) (plan : ℕ → ShardPlan) (pass : PassView) (cell : CellRef)
    (offset size value : ℕ) → ArePlans maps options count plan → AreOptions maps options →
    IsTrue (is_worker_below options.workers pass.who) →
    IsStorable (served_by maps options) (has_found (record { served = served_by maps options; pass = pass })) cell offset size value →
    Meets (plan cell.shard) (inside_own (worker_number pass.who) cell.shard (own_at pass cell.shard)) pass.who (Store cell offset size value)
store_met maps options count plan pass cell offset size value plans are below storable =
    let at = at_place maps options count plan pass cell offset size plans are below storable.at in
    both_true _ _ at.numbered
    (both_true _ _ (both_true _ _ (both_true _ _ at.holder at.is_size) at.in_cell) (fits_test value size storable.fits))

pub change_met : (maps : List MapDef) (options : Options) (count : ℕ) (plan : ℕ → ShardPlan) (pass : PassView) (cell : CellRef)
    (offset size : ℕ) (op : AtomicOp) (value expected : ℕ) → ArePlans maps options count plan → AreOptions maps options →
    IsTrue (is_worker_below options.workers pass.who) →
    IsAtomic (served_by maps options) (has_found (record { served = served_by maps options; pass = pass })) cell offset size op value
    expected →
    Meets (plan cell.shard) (inside_own (worker_number pass.who) cell.shard (own_at pass cell.shard)) pass.who
    (atomic_call cell offset size op value expected)
change_met maps options count plan pass cell offset size op value expected plans are below atomic =
    let at = at_place maps options count plan pass cell offset size plans are below (load_of_atomic atomic) in
    both_true _ _ at.numbered
    (both_true _ _ (both_true _ _ (both_true _ _ (both_true _ _ (both_true _ _ (both_true _ _ at.holder atomic.is_size)
    (both_true _ _ at.in_cell (same_test _ _ atomic.aligned))) (known_op op)) (fits_test value size atomic.fits))
    (fits_test expected size atomic.expected_fits)) atomic.compares)
