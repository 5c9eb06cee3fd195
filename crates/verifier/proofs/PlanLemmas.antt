-- What the plan of a shard's number is, and which calls its workers may make.
use Rattle.std.proofs.Common.{◌≡◌, ℕ, ◌+◌, ◌*◌, ◌/◌, ◌%◌, ◌^◌, ◌<◌, ◌≤◌, ◌==◌, ◌&&◌, Bool, true, false, nat_lt, nat_le, List, length, Option, Some, None, slice_get, All, IsTrue, refl, sym, ◌∙◌, ap, subst, ⊎_elim, div-lt_iff_lt-mul, arith}
use Rattle.std.specs.Prelude.{is_some}
use Rattle.std.proofs.lemmas.Bool.{and_parts}
use Rattle.std.proofs.lemmas.Bool.Decides.{nat_tests}
use Rattle.std.proofs.lemmas.Nat.{div_below, mod_below, mod-mul-add, div-mul-add}
use Rattle.std.proofs.lemmas.Option.{slice_get_cases, slice_get_within, get_or_from_slice_get}
use Rattle.std.proofs.lemmas.List.Elements.{All-get_or}
use Rattle.semantics.proofs.shared.ConditionLemmas.{bytes_test}
use Rattle.isa.specs.InstructionCodes.{atomic_op_of}
use Rattle.ebpf_decode.specs.declared.map.MapDef.{MapDef}
use Rattle.ebpf_decode.specs.declared.insn.Insn.{Insn}
use Rattle.semantics.specs.declared.options.Options.{Options}
use Rattle.semantics.specs.declared.plan.ShardPlan.{ShardPlan}
use Rattle.semantics.specs.declared.call.CellRef.{CellRef}
use Rattle.semantics.specs.declared.call.Caller.TheVariants.{Worker}
use Rattle.semantics.specs.declared.call.Call.TheVariants.{Enter, Leave, Lookup, Load, Store, Atomic, Update, Delete}
use Rattle.semantics.specs.declared.call.Entry.{Entry}
use Rattle.semantics.specs.Program.{shard_number_of_key, shard_of_key}
use Rattle.semantics.specs.Reclamation.{is_inside, holds}
use Rattle.semantics.specs.ShardPlan.{plan_for_map, plan_at, AreOptions}
use Rattle.semantics.specs.History.{is_holder, is_inside_worker, is_own_key, is_value, is_load_size, is_atomic_size, is_in_cell, is_aligned, fits_size, Meets}
use Rattle.abstract_state.specs.States.{value_size_of}
use Rattle.abstract_state.specs.Abstraction.{Held}
use Rattle.abstract_state.specs.Soundness.{IsKeyOf, IsServedLoad, IsServedAtomic}
use Rattle.semantics.proofs.shared.PlanLemmas.{some_shards, plan_of}

-- ---- the plan of a number

pub record IsPlanOf (maps : List MapDef) (options : Options) (shard : ℕ) (plan : ShardPlan) : Type 0 where
  pub number : plan.number ≡ shard
  pub part : plan.part ≡ shard % options.shards
  pub parts : plan.parts ≡ options.shards
  pub workers : plan.workers ≡ options.workers
  pub reserve : plan.reserve ≡ options.journal
  pub definition : slice_get maps (shard / options.shards) ≡ Some plan.definition
  pub within : shard / options.shards < length maps

known_plan : (maps : List MapDef) (options : Options) (shard : ℕ) (found : Option MapDef) (plan : ShardPlan) → slice_get maps (shard / options.shards) ≡ found →
    plan_for_map options shard found ≡ Some plan → IsPlanOf maps options shard plan
known_plan maps options shard None plan is planned = absurd cc
known_plan maps options shard (Some definition) plan is planned =
    let same : plan_of options shard definition ≡ plan = cc
    in subst (λ one. IsPlanOf maps options shard one) same (record {
      number = refl;
      part = refl;
      parts = refl;
      workers = refl;
      reserve = refl;
      definition = is;
      within = slice_get_within maps (shard / options.shards) definition is;
    })

-- what the plan of a number is
pub plan_facts : (maps : List MapDef) (options : Options) (shard : ℕ) (plan : ShardPlan) → plan_at maps options shard ≡ Some plan → IsPlanOf maps options shard plan
plan_facts maps options shard plan planned = known_plan maps options shard (slice_get maps (shard / options.shards)) plan refl planned

pub plan_from : (maps : List MapDef) (options : Options) (shard : ℕ) (definition : MapDef) → slice_get maps (shard / options.shards) ≡ Some definition →
    plan_at maps options shard ≡ Some (plan_of options shard definition)
plan_from maps options shard definition known = ap (plan_for_map options shard) known

-- each number below the number of shards has a plan
pub plan_exists : (maps : List MapDef) (options : Options) (shard : ℕ) → shard < length maps * options.shards → 0 < options.shards →
    (plan : ShardPlan) × (plan_at maps options shard ≡ Some plan)
plan_exists maps options shard below some =
    let found = slice_get_at maps (shard / options.shards) (div_below shard options.shards (length maps) some below)
    in (plan_of options shard found.0, plan_from maps options shard found.0 found.1)
  where
    slice_get_at : (xs : List MapDef) (i : ℕ) → i < length xs → (x : MapDef) × (slice_get xs i ≡ Some x)
    slice_get_at xs i within = ⊎_elim
        (λ is. (is.0, is.2))
        (λ past. absurd (omega (arith, past.0)))
        (slice_get_cases xs i).1

-- and no other number
pub plan_within : (maps : List MapDef) (options : Options) (shard : ℕ) (plan : ShardPlan) → 0 < options.shards → plan_at maps options shard ≡ Some plan →
    shard < length maps * options.shards
plan_within maps options shard plan some planned =
    (div-lt_iff_lt-mul some).0 (plan_facts maps options shard plan planned).within

-- ---- calls that a worker may make

below_true : (a b : ℕ) → a < b → nat_lt a b ≡ true
below_true a b h = grind (arith, nat_tests)

same_true : (a b : ℕ) → a ≡ b → (a == b) ≡ true
same_true a b h = grind (arith, nat_tests)

at_most_true : (a b : ℕ) → a ≤ b → nat_le a b ≡ true
at_most_true a b h = grind (arith, nat_tests)

pub both : (a b : Bool) → a ≡ true → b ≡ true → (a && b) ≡ true
both true b p q = q
both false b p q = absurd cc

pub enter_meets : (plan : ShardPlan) (h : List Entry) (worker : ℕ) → worker < plan.workers → is_inside worker h ≡ false →
    Meets plan h (Worker worker) (Enter plan.number)
enter_meets plan h worker few outside =
    both (plan.number == plan.number) _ (same_true plan.number plan.number refl)
    (both (nat_lt worker plan.workers) _ (below_true worker plan.workers few) (rw outside refl))

pub leave_meets : (plan : ShardPlan) (h : List Entry) (worker : ℕ) → worker < plan.workers → is_inside worker h ≡ true →
    Meets plan h (Worker worker) (Leave plan.number)
leave_meets plan h worker few inside =
    both (plan.number == plan.number) _ (same_true plan.number plan.number refl)
    (both (nat_lt worker plan.workers) _ (below_true worker plan.workers few) inside)

-- the number of a map's shard, taken apart
shard_map : (map shards part : ℕ) → part < shards → (map * shards + part) / shards ≡ map
shard_map map shards part below = div-mul-add map shards part below

pub record IsPlannedLookup (maps : List MapDef) (options : Options) (shard : ℕ) (key : List ℕ) (map : ℕ) : Type 0 where
  pub plan : ShardPlan
  pub planned : plan_at maps options shard ≡ Some plan
  pub of_map : map ≡ shard / options.shards
  pub below : shard < length maps * options.shards
  pub value_size : plan.definition.value_size ≡ value_size_of (slice_get maps map)
  pub meets : (h : List Entry) (worker : ℕ) → worker < options.workers → is_inside worker h ≡ true → Meets plan h (Worker worker) (Lookup shard key)

-- a lookup of a key in its shard is one that the shard serves
pub lookup_plan : (maps : List MapDef) (options : Options) (shard map : ℕ) (key : List ℕ) → 0 < options.shards → (of_key : IsKeyOf maps map key) →
    shard ≡ shard_of_key map of_key.definition.kind options.shards key → IsPlannedLookup maps options shard key map
lookup_plan maps options shard map key some of_key own =
    let definition : MapDef = of_key.definition
    in let part : ℕ = shard_number_of_key definition.kind key % options.shards
    in let small : part < options.shards = mod_below (shard_number_of_key definition.kind key) options.shards some
    in let in_part : shard ≡ map * options.shards + part = own
    in let of_map : shard / options.shards ≡ map = ap (λ n. n / options.shards) in_part ∙ shard_map map options.shards part small
    in let of_part : shard % options.shards ≡ part = ap (λ n. n % options.shards) in_part ∙ mod-mul-add map options.shards part small
    in let planned : plan_at maps options shard ≡ Some (plan_of options shard definition) =
    plan_from maps options shard definition (ap (slice_get maps) of_map ∙ of_key.known)
    in record {
      plan = plan_of options shard definition;
      planned = planned;
      of_map = sym of_map;
      below = plan_within maps options shard (plan_of options shard definition) some planned;
      value_size = sym (ap value_size_of of_key.known);
      meets = λ h worker few inside.
          both (shard == shard) _ (same_true shard shard refl)
          (both (nat_lt worker options.workers && is_inside worker h) _ (both (nat_lt worker options.workers) _ (below_true worker options.workers few) inside)
          (both (length key == definition.key_size) _ (same_true (length key) definition.key_size of_key.key_size)
          (both (part == shard % options.shards) _ (same_true part (shard % options.shards) (sym of_part)) (bytes_test key of_key.bytes))));
    }

-- a load from a held cell is one that the cell's shard serves
pub load_meets : (maps : List MapDef) (code : List Insn) (options : Options) (held : Held) (cell : CellRef) (offset size : ℕ) (plan : ShardPlan) (h : List Entry) (worker : ℕ) →
    ((map : ℕ) → IsTrue (held map cell.shard cell.id) → (cell.shard / options.shards ≡ map) × (holds worker cell.id h ≡ true)) →
    IsServedLoad (record { code = code; maps = maps; shards = options.shards }) held cell offset size →
    plan_at maps options cell.shard ≡ Some plan → worker < options.workers → Meets plan h (Worker worker) (Load cell offset size)
load_meets maps code options held cell offset size plan h worker of_held served planned few =
    let facts = plan_facts maps options cell.shard plan planned
    in let of_map = of_held served.map served.holds
    in let definition : slice_get maps served.map ≡ Some plan.definition = ap (slice_get maps) (sym of_map.0) ∙ facts.definition
    in let sized : value_size_of (slice_get maps served.map) ≡ plan.definition.value_size = ap value_size_of definition
    in let inside : offset + size ≤ plan.definition.value_size = omega (arith, sized, served.inside)
    in let known : worker < plan.workers = omega (arith, facts.workers, few)
    in both (cell.shard == plan.number) _ (same_true cell.shard plan.number (sym facts.number))
    (both (nat_lt worker plan.workers && holds worker cell.id h && is_load_size size) _
    (both (nat_lt worker plan.workers && holds worker cell.id h) _ (both (nat_lt worker plan.workers) _ (below_true worker plan.workers known) of_map.1) served.is_size)
    (at_most_true (offset + size) plan.definition.value_size inside))

-- a store of a number of the size to such a place
pub store_meets : (plan : ShardPlan) (h : List Entry) (worker : ℕ) (cell : CellRef) (offset size value : ℕ) → Meets plan h (Worker worker) (Load cell offset size) → value < 256 ^ size →
    Meets plan h (Worker worker) (Store cell offset size value)
store_meets plan h worker cell offset size value loads fits =
    let parts = and_parts (cell.shard == plan.number) (is_holder plan h (Worker worker) cell.id && is_load_size size && is_in_cell plan offset size) loads
    in both (cell.shard == plan.number) _ parts.0
    (both (is_holder plan h (Worker worker) cell.id && is_load_size size && is_in_cell plan offset size) _ parts.1 (below_true value (256 ^ size) fits))

-- an atomic operation on a held cell is one that the cell's shard serves
pub atomic_meets : (maps : List MapDef) (code : List Insn) (options : Options) (held : Held) (cell : CellRef) (offset size op value expected : ℕ) (plan : ShardPlan) (h : List Entry) (worker : ℕ) →
    ((map : ℕ) → IsTrue (held map cell.shard cell.id) → (cell.shard / options.shards ≡ map) × (holds worker cell.id h ≡ true)) →
    IsServedAtomic (record { code = code; maps = maps; shards = options.shards }) held cell offset size op value expected →
    plan_at maps options cell.shard ≡ Some plan → worker < options.workers → Meets plan h (Worker worker) (Atomic cell offset size op value expected)
atomic_meets maps code options held cell offset size op value expected plan h worker of_held served planned few =
    let facts = plan_facts maps options cell.shard plan planned
    in let of_map = of_held served.map served.holds
    in let definition : slice_get maps served.map ≡ Some plan.definition = ap (slice_get maps) (sym of_map.0) ∙ facts.definition
    in let sized : value_size_of (slice_get maps served.map) ≡ plan.definition.value_size = ap value_size_of definition
    in let inside : offset + size ≤ plan.definition.value_size = omega (arith, sized, served.inside)
    in let known : worker < plan.workers = omega (arith, facts.workers, few)
    in let holder : is_holder plan h (Worker worker) cell.id ≡ true = both (nat_lt worker plan.workers) _ (below_true worker plan.workers known) of_map.1
    in let place : (is_in_cell plan offset size && is_aligned offset size) ≡ true =
    both (is_in_cell plan offset size) _ (at_most_true (offset + size) plan.definition.value_size inside) (same_true (offset % size) 0 served.aligned)
    in let one : (is_holder plan h (Worker worker) cell.id && is_atomic_size size) ≡ true = both (is_holder plan h (Worker worker) cell.id) _ holder served.is_size
    in let two : (is_holder plan h (Worker worker) cell.id && is_atomic_size size && (is_in_cell plan offset size && is_aligned offset size)) ≡ true =
    both (is_holder plan h (Worker worker) cell.id && is_atomic_size size) _ one place
    in let three : (is_holder plan h (Worker worker) cell.id && is_atomic_size size && (is_in_cell plan offset size && is_aligned offset size) && is_some (atomic_op_of op)) ≡ true =
    both (is_holder plan h (Worker worker) cell.id && is_atomic_size size && (is_in_cell plan offset size && is_aligned offset size)) _ two served.known
    in let four : (is_holder plan h (Worker worker) cell.id && is_atomic_size size && (is_in_cell plan offset size && is_aligned offset size) && is_some (atomic_op_of op) &&
    fits_size value size) ≡ true =
    both (is_holder plan h (Worker worker) cell.id && is_atomic_size size && (is_in_cell plan offset size && is_aligned offset size) && is_some (atomic_op_of op)) _ three
    (below_true value (256 ^ size) served.fits)
    in let five : (is_holder plan h (Worker worker) cell.id && is_atomic_size size && (is_in_cell plan offset size && is_aligned offset size) && is_some (atomic_op_of op) &&
    fits_size value size && fits_size expected size) ≡ true =
    both (is_holder plan h (Worker worker) cell.id && is_atomic_size size && (is_in_cell plan offset size && is_aligned offset size) && is_some (atomic_op_of op) &&
    fits_size value size) _ four (below_true expected (256 ^ size) served.expected_fits)
    in both (cell.shard == plan.number) _ (same_true cell.shard plan.number (sym facts.number))
    (both (is_holder plan h (Worker worker) cell.id && is_atomic_size size && (is_in_cell plan offset size && is_aligned offset size) && is_some (atomic_op_of op) &&
    fits_size value size && fits_size expected size) _ five served.compares)

-- who may look a key up may delete it, and update it with a value of the map's size
pub delete_meets : (plan : ShardPlan) (h : List Entry) (worker shard : ℕ) (key : List ℕ) → Meets plan h (Worker worker) (Lookup shard key) → Meets plan h (Worker worker) (Delete shard key)
delete_meets plan h worker shard key looks = looks

pub update_meets : (plan : ShardPlan) (h : List Entry) (worker shard : ℕ) (key value : List ℕ) (flags : ℕ) → Meets plan h (Worker worker) (Lookup shard key) →
    length value ≡ plan.definition.value_size → All (λ byte. byte < 256) value → flags < 2 ^ 64 → Meets plan h (Worker worker) (Update shard key value flags)
update_meets plan h worker shard key value flags looks size bytes small =
    let parts = and_parts (shard == plan.number) (is_inside_worker plan h (Worker worker) && is_own_key plan key) looks
    in both (shard == plan.number) _ parts.0
    (both (is_inside_worker plan h (Worker worker) && is_own_key plan key) _ parts.1
    (both (is_value plan value) _ (both (length value == plan.definition.value_size) _ (same_true (length value) plan.definition.value_size size) (bytes_test value bytes))
    (below_true flags (2 ^ 64) small)))

-- ---- plans of images that may be opened with the options

at_plan : (maps : List MapDef) (options : Options) (shard : ℕ) (plan : ShardPlan) (P : MapDef → Type 0) → plan_at maps options shard ≡ Some plan → All P maps → P plan.definition
at_plan maps options shard plan P planned all =
    let facts = plan_facts maps options shard plan planned
    in subst P (get_or_from_slice_get maps (shard / options.shards) plan.definition plan.definition facts.definition)
    (All-get_or P maps (shard / options.shards) plan.definition facts.within all)

pub plan_in_equal_parts : (maps : List MapDef) (options : Options) (shard : ℕ) (plan : ShardPlan) → AreOptions maps options →
    plan_at maps options shard ≡ Some plan → plan.definition.max_entries % plan.parts ≡ 0
plan_in_equal_parts maps options shard plan fits planned =
    let facts = plan_facts maps options shard plan planned
    in ap (λ parts. plan.definition.max_entries % parts) facts.parts
    ∙ at_plan maps options shard plan (λ definition. definition.max_entries % options.shards ≡ 0) planned fits.in_equal_parts

pub plan_has_parts : (maps : List MapDef) (options : Options) (shard : ℕ) (plan : ShardPlan) → AreOptions maps options →
    plan_at maps options shard ≡ Some plan → 0 < plan.parts
plan_has_parts maps options shard plan fits planned = omega (arith, some_shards maps options fits, (plan_facts maps options shard plan planned).parts)
