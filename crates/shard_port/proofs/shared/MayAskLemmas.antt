-- A call that the port takes is one that its shard serves.
use Rattle.std.proofs.Common.{◌≡◌, ℕ, zero, suc, ◌+◌, ◌*◌, ◌/◌, ◌%◌, ◌^◌, ◌<◌, ◌≤◌, Bool, true, false, ◌||◌, nat_lt, List, [], ◌∷◌, ◌++◌, length, reverse, Option, Some, None, arith, refl, sym, ◌∙◌, ap, subst}
use Rattle.std.specs.Prelude.{◌==◌, IsTrue, is_some, slice_get, if◌then◌else◌}
use Rattle.std.proofs.lemmas.Option.{slice_get_within}
use Rattle.std.proofs.lemmas.Nat.{div-mul-add, mod-mul-add}
use Rattle.std.proofs.Math.Nat.{mod-lt}
use Rattle.std.proofs.lemmas.Bool.Decides.{nat_tests}
use Rattle.isa.specs.declared.operation.AtomicOp.{AtomicOp}
use Rattle.isa.specs.declared.operation.AtomicOp.TheVariants.{AtomicAdd, AtomicOr, AtomicAnd, AtomicXor, FetchAdd, FetchOr, FetchAnd, FetchXor, Exchange, CompareExchange}
use Rattle.ebpf_decode.specs.declared.map.MapDef.{MapDef}
use Rattle.isa.specs.InstructionCodes.{atomic_code, atomic_op_of}
use Rattle.semantics.specs.declared.options.Options.{Options}
use Rattle.semantics.specs.declared.plan.ShardPlan.{ShardPlan}
use Rattle.semantics.specs.declared.call.CellRef.{CellRef}
use Rattle.semantics.specs.declared.call.Call.TheVariants.{Load, Store}
use Rattle.semantics.specs.Program.{part_of_key, shard_number_of_key}
use Rattle.semantics.specs.Reclamation.{is_inside, holds}
use Rattle.semantics.specs.ServedCalls.{Held, IsKeyOf, IsPairOf, IsServedLoad, IsServedAtomic}
use Rattle.semantics.specs.History.{are_flags, is_own_key, is_load_size, is_in_cell, fits_size}
use Rattle.semantics.proofs.shared.ConditionLemmas.{first_true, second_true, bytes_test}
use Rattle.semantics.specs.Program.{Program, value_size_of}
use Rattle.shard_core.specs.JournaledShard.{JournaledShard}
use Rattle.map_port.specs.Served.{Maps, served_shard, IsReadable, IsStorable, IsAtomic, lookup_call, update_call, delete_call, atomic_call}
use Rattle.semantics.proofs.shared.PlanLemmas.{some_shards, below_count}
use Rattle.shard_port.specs.Asking.{is_in, enter_by, entered, may_ask_at}
use Rattle.shard_port.specs.PortView.{holds_at, is_handed_out, IsShardOf, IsPortReady}
use Rattle.shard_port.specs.PortLaws.{same_worker, append_none, newest_first, stays_entered, held_is_inside, both_true}
use Rattle.shard_port.proofs.shared.ReadyLemmas.{plan_number, is_worker_of}

inside_once_entered : (worker : ℕ) (shard : JournaledShard) → is_inside worker (reverse (entered worker shard).journal) ≡ true
inside_once_entered worker shard = by_test (is_in worker shard) refl
  where
    by_test : (inside : Bool) → is_in worker shard ≡ inside →
        is_inside worker (reverse (shard.journal ++ (if inside then [] else enter_by worker shard.plan.number ∷ []))) ≡ true
    by_test true is = rw (append_none shard.journal) is
    by_test false is = rw (newest_first shard (enter_by worker shard.plan.number), same_worker worker) refl

-- ---- the shard of a key

-- the maps that a port serves
abbrev pub served_by : List MapDef → Options → Maps
served_by maps options = record { maps = maps; shards = options.shards }

pub shard_of_known : (served : Maps) (map : ℕ) (key : List ℕ) (definition : MapDef) → slice_get served.maps map ≡ Some definition →
    served_shard served map key ≡ map * served.shards + part_of_key definition.kind served.shards key
shard_of_known served map key definition known = rw known refl

found_at : (shards : List JournaledShard) (number : ℕ) → number < length shards →
    (shard : JournaledShard) × (slice_get shards number ≡ Some shard)
found_at [] number within = absurd (omega arith)
found_at (first ∷ rest) zero within = (first, refl)
found_at (first ∷ rest) (suc number) within = found_at rest number (omega arith)

pub flags_test : (flags : ℕ) → flags < 2 ^ 64 → are_flags flags ≡ true
flags_test flags few = grind (arith, nat_tests)

pub same_test : (a b : ℕ) → a ≡ b → (a == b) ≡ true
same_test a b same = grind (arith, nat_tests)

pub record IsAtKey (maps : List MapDef) (options : Options) (worker : ℕ) (shards : List JournaledShard) (map : ℕ) (key : List ℕ) : Type 0
  where
    pub shard : JournaledShard
    pub known : slice_get shards (served_shard (served_by maps options) map key) ≡ Some shard
    pub is_worker : nat_lt worker shard.plan.workers ≡ true
    pub numbered : (served_shard (served_by maps options) map key == shard.plan.number) ≡ true
    pub inside : is_inside worker (reverse (entered worker shard).journal) ≡ true
    pub own_key : is_own_key shard.plan key ≡ true
    pub definition : slice_get maps map ≡ Some shard.plan.definition

pub at_key : (maps : List MapDef) (options : Options) (worker : ℕ) (shards : List JournaledShard) (map : ℕ) (key : List ℕ) →
    IsPortReady maps options worker shards → IsKeyOf maps map key → IsAtKey maps options worker shards map key
at_key maps options worker shards map key ready of_map =
    let parts : ℕ = options.shards in
    let definition : MapDef = of_map.definition in
    let part : ℕ = part_of_key definition.kind parts key in
    let some : 0 < parts = some_shards maps options ready.are_options in
    let below : part < parts = mod-lt (shard_number_of_key definition.kind key) some in
    let number : ℕ = served_shard (served_by maps options) map key in
    let at : number ≡ map * parts + part = shard_of_known (served_by maps options) map key definition of_map.known in
    let counted : length shards ≡ length maps * parts = ready.are_shards.count in
    let here : map * parts + part < length maps * parts =
    below_count map (length maps) parts part (slice_get_within maps map definition of_map.known) below in
    let within : number < length shards = omega (arith, at, counted, here) in
    let found = found_at shards number within in
    let is : IsShardOf maps options number found.0 = ready.are_shards.each number found.0 found.1 in
    let plan = plan_number options number (slice_get maps (number / parts)) found.0.plan is.planned in
    let of_number : number / parts ≡ map = ap (λ n. n / parts) at ∙ div-mul-add map parts part below in
    let of_part : number % parts ≡ part = ap (λ n. n % parts) at ∙ mod-mul-add map parts part below in
    let defined : slice_get maps map ≡ Some found.0.plan.definition = ap (slice_get maps) (sym of_number) ∙ plan.4 in
    let same : definition ≡ found.0.plan.definition = cc (of_map.known, defined) in
    let sized : length key ≡ found.0.plan.definition.key_size = of_map.key_size ∙ ap (λ (one : MapDef). one.key_size) same in
    let own_part : part_of_key found.0.plan.definition.kind found.0.plan.parts key ≡ found.0.plan.part =
    ap (λ (one : MapDef). part_of_key one.kind found.0.plan.parts key) (sym same) ∙ ap (λ n. part_of_key definition.kind n key) plan.2 ∙
    sym of_part ∙ sym plan.1 in
    record {
      shard = found.0;
      known = found.1;
      is_worker = is_worker_of maps options worker number found.0 ready.is_worker is;
      numbered = same_test number found.0.plan.number (sym plan.0);
      inside = inside_once_entered worker found.0;
      own_key = both_true _ _ (same_test _ _ sized) (both_true _ _ (same_test _ _ own_part) (bytes_test key of_map.bytes));
      definition = defined;
    }

pub may_lookup : (maps : List MapDef) (options : Options) (worker : ℕ) (shards : List JournaledShard) (map : ℕ) (key : List ℕ) →
    IsPortReady maps options worker shards → IsKeyOf maps map key →
    IsTrue (may_ask_at worker (slice_get shards (served_shard (served_by maps options) map key)) (lookup_call (served_by maps options) map key))
may_lookup maps options worker shards map key ready of_map =
    let at = at_key maps options worker shards map key ready of_map in
    rw at.known (both_true _ _ at.is_worker (both_true _ _ at.numbered (both_true _ _ (both_true _ _ at.is_worker at.inside) at.own_key)))

pub may_delete : (maps : List MapDef) (options : Options) (worker : ℕ) (shards : List JournaledShard) (map : ℕ) (key : List ℕ) →
    IsPortReady maps options worker shards → IsKeyOf maps map key →
    IsTrue (may_ask_at worker (slice_get shards (served_shard (served_by maps options) map key)) (delete_call (served_by maps options) map key))
may_delete maps options worker shards map key ready of_map =
    let at = at_key maps options worker shards map key ready of_map in
    rw at.known (both_true _ _ at.is_worker (both_true _ _ at.numbered (both_true _ _ (both_true _ _ at.is_worker at.inside) at.own_key)))

pub may_update : (maps : List MapDef) (options : Options) (worker : ℕ) (shards : List JournaledShard) (map : ℕ) (key value : List ℕ)
    (flags : ℕ) → IsPortReady maps options worker shards → flags < 2 ^ 64 → IsPairOf maps map key value →
    IsTrue (may_ask_at worker (slice_get shards (served_shard (served_by maps options) map key))
    (update_call (served_by maps options) map key value flags))
may_update maps options worker shards map key value flags ready few pair =
    let at = at_key maps options worker shards map key ready pair.at in
    let same : pair.at.definition ≡ at.shard.plan.definition = cc (pair.at.known, at.definition) in
    let sized : length value ≡ at.shard.plan.definition.value_size = pair.value_size ∙ ap (λ (one : MapDef). one.value_size) same in
    rw at.known (both_true _ _ at.is_worker (both_true _ _ at.numbered
    (both_true _ _ (both_true _ _ (both_true _ _ at.is_worker at.inside) at.own_key)
    (both_true _ _ (both_true _ _ (same_test _ _ sized) (bytes_test value pair.value_bytes)) (flags_test flags few)))))

-- ---- the shard of a cell

holder : (worker cell : ℕ) (found : Option JournaledShard) → holds_at worker found cell ≡ true →
    (shard : JournaledShard) × (found ≡ Some shard) × (holds worker cell (reverse shard.journal) ≡ true)
holder worker cell None held = cc
holder worker cell (Some shard) held = (shard, refl, held)

pub record IsAtCell (maps : List MapDef) (options : Options) (worker : ℕ) (shards : List JournaledShard) (map : ℕ) (cell : CellRef) : Type 0
  where
    pub shard : JournaledShard
    pub known : slice_get shards cell.shard ≡ Some shard
    pub is_worker : nat_lt worker shard.plan.workers ≡ true
    pub numbered : (cell.shard == shard.plan.number) ≡ true
    pub held : holds worker cell.id (reverse (entered worker shard).journal) ≡ true
    pub definition : slice_get maps map ≡ Some shard.plan.definition

pub at_cell : (maps : List MapDef) (options : Options) (worker : ℕ) (shards : List JournaledShard) (map : ℕ) (cell : CellRef) →
    IsPortReady maps options worker shards → IsTrue (is_handed_out (record {
      served = served_by maps options;
      worker = worker;
      shards =
          shards;
    }) map cell.shard cell.id) → IsAtCell maps options worker shards map cell
at_cell maps options worker shards map cell ready handed =
    let of_map : IsTrue (cell.shard / options.shards == map) =
    first_true (cell.shard / options.shards == map) (holds_at worker (slice_get shards cell.shard) cell.id) handed in
    let there : holds_at worker (slice_get shards cell.shard) cell.id ≡ true =
    second_true (cell.shard / options.shards == map) (holds_at worker (slice_get shards cell.shard) cell.id) handed in
    let place : cell.shard / options.shards ≡ map = grind (arith, nat_tests) in
    let found = holder worker cell.id (slice_get shards cell.shard) there in
    let is : IsShardOf maps options cell.shard found.0 = ready.are_shards.each cell.shard found.0 found.1 in
    let plan = plan_number options cell.shard (slice_get maps (cell.shard / options.shards)) found.0.plan is.planned in
    let inside : is_in worker found.0 ≡ true = held_is_inside found.0.plan worker cell.id (reverse found.0.journal) is.legal found.2 in
    record {
      shard = found.0;
      known = found.1;
      is_worker = is_worker_of maps options worker cell.shard found.0 ready.is_worker is;
      numbered = same_test cell.shard found.0.plan.number (sym plan.0);
      held = subst (λ (one : JournaledShard). holds worker cell.id (reverse one.journal) ≡ true) (sym (stays_entered worker found.0 inside))
          found.2;
      definition = ap (slice_get maps) (sym place) ∙ plan.4;
    }

pub in_cell_of : (maps : List MapDef) (map : ℕ) (plan : ShardPlan) (offset size : ℕ) → slice_get maps map ≡ Some plan.definition →
    offset + size ≤ value_size_of (slice_get maps map) → is_in_cell plan offset size ≡ true
in_cell_of maps map plan offset size defined inside =
    let sized : value_size_of (slice_get maps map) ≡ plan.definition.value_size = ap value_size_of defined in
    let within : offset + size ≤ plan.definition.value_size = omega (arith, sized, inside) in
    grind (arith, nat_tests)

-- what a Load, a Store and an atomic operation share
pub record IsAtPlace (maps : List MapDef) (options : Options) (worker : ℕ) (shards : List JournaledShard) (cell : CellRef)
    (offset size : ℕ) : Type 0 where
  pub shard : JournaledShard
  pub known : slice_get shards cell.shard ≡ Some shard
  pub is_worker : nat_lt worker shard.plan.workers ≡ true
  pub numbered : (cell.shard == shard.plan.number) ≡ true
  pub held : holds worker cell.id (reverse (entered worker shard).journal) ≡ true
  pub is_size : is_load_size size ≡ true
  pub in_cell : is_in_cell shard.plan offset size ≡ true

pub at_place : (maps : List MapDef) (options : Options) (worker : ℕ) (shards : List JournaledShard) (cell : CellRef) (offset size : ℕ) →
    IsPortReady maps options worker shards → IsReadable (served_by maps options)
    (is_handed_out (record { served = served_by maps options; worker = worker; shards = shards })) cell offset size →
    IsAtPlace maps options worker shards cell offset size
at_place maps options worker shards cell offset size ready readable =
    let at = at_cell maps options worker shards readable.map cell ready readable.holds in
    record {
      shard = at.shard;
      known = at.known;
      is_worker = at.is_worker;
      numbered = at.numbered;
      held = at.held;
      is_size = readable.is_size;
      in_cell = in_cell_of maps readable.map at.shard.plan offset size at.definition readable.inside;
    }

pub fits_test : (value size : ℕ) → value < 256 ^ size → fits_size value size ≡ true
fits_test value size fits = grind (arith, nat_tests)

-- four or eight bytes are a size of loads
size_of_atomic : (four eight two one : Bool) → IsTrue (four || eight) → IsTrue (one || two || four || eight)
size_of_atomic true eight two true either = refl
size_of_atomic true eight true false either = refl
size_of_atomic true eight false false either = refl
size_of_atomic false true two true either = refl
size_of_atomic false true true false either = refl
size_of_atomic false true false false either = refl
size_of_atomic false false two one either = absurd cc

-- where an atomic operation may be made a load may
pub load_of_atomic : {program : Program} {held : Held} {cell : CellRef} {offset size op value expected : ℕ} →
    IsServedAtomic program held cell offset size op value expected → IsServedLoad program held cell offset size
load_of_atomic {size = size} atomic = record {
  map = atomic.map;
  holds = atomic.holds;
  is_size = size_of_atomic (size == 4) (size == 8) (size == 2) (size == 1) atomic.is_size;
  inside = atomic.inside;
}

pub known_op : (op : AtomicOp) → is_some (atomic_op_of (atomic_code op)) ≡ true
known_op AtomicAdd = refl
known_op AtomicOr = refl
known_op AtomicAnd = refl
known_op AtomicXor = refl
known_op FetchAdd = refl
known_op FetchOr = refl
known_op FetchAnd = refl
known_op FetchXor = refl
known_op Exchange = refl
known_op CompareExchange = refl

pub may_load : (maps : List MapDef) (options : Options) (worker : ℕ) (shards : List JournaledShard) (cell : CellRef) (offset size : ℕ) →
    IsPortReady maps options worker shards → IsReadable (served_by maps options)
    (is_handed_out (record { served = served_by maps options; worker = worker; shards = shards })) cell offset size →
    IsTrue (may_ask_at worker (slice_get shards cell.shard) (Load cell offset size))
may_load maps options worker shards cell offset size ready readable =
    let at = at_place maps options worker shards cell offset size ready readable in
    rw at.known (both_true _ _ at.is_worker (both_true _ _ at.numbered
    (both_true _ _ (both_true _ _ (both_true _ _ at.is_worker at.held) at.is_size) at.in_cell)))

pub may_store : (maps : List MapDef) (options : Options) (worker : ℕ) (shards : List JournaledShard) (cell : CellRef)
    (offset size value : ℕ) → IsPortReady maps options worker shards →
    IsStorable (served_by maps options) (is_handed_out (record { served = served_by maps options; worker = worker; shards = shards })) cell
    offset size value → IsTrue (may_ask_at worker (slice_get shards cell.shard) (Store cell offset size value))
may_store maps options worker shards cell offset size value ready storable =
    let at = at_place maps options worker shards cell offset size ready storable.at in
    rw at.known (both_true _ _ at.is_worker (both_true _ _ at.numbered
    (both_true _ _ (both_true _ _ (both_true _ _ (both_true _ _ at.is_worker at.held) at.is_size) at.in_cell)
    (fits_test value size storable.fits))))

pub may_change : (maps : List MapDef) (options : Options) (worker : ℕ) (shards : List JournaledShard) (cell : CellRef) (offset size : ℕ)
    (op : AtomicOp) (value expected : ℕ) → IsPortReady maps options worker shards →
    IsAtomic (served_by maps options) (is_handed_out (record { served = served_by maps options; worker = worker; shards = shards })) cell
    offset size op value expected → IsTrue (may_ask_at worker (slice_get shards cell.shard)
    (atomic_call cell offset size op value expected))
may_change maps options worker shards cell offset size op value expected ready atomic =
    let at = at_place maps options worker shards cell offset size ready (load_of_atomic atomic) in
    rw at.known (both_true _ _ at.is_worker (both_true _ _ at.numbered
    (both_true _ _ (both_true _ _ (both_true _ _ (both_true _ _ (both_true _ _ (both_true _ _ (both_true _ _ at.is_worker at.held)
    atomic.is_size) (both_true _ _ at.in_cell (same_test _ _ atomic.aligned))) (known_op op)) (fits_test value size atomic.fits))
    (fits_test expected size atomic.expected_fits)) atomic.compares)))
