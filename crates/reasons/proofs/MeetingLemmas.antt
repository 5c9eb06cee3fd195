-- Where edges meet: if none brings what disagrees with a known kind, a known kind is left.
use Rattle.std.proofs.Common.{◌≡◌, ℕ, zero, suc, ◌+◌, ◌<◌, ◌≤◌, ◌==◌, ◌&&◌, min, Bool, true, false, if◌then◌else◌, List, [], ◌∷◌, length, get_or, Option, Some, None, Ok, Err, refl, sym, ap, subst, ◌∙◌, ⊎_elim, arith}
use Rattle.std.specs.Prelude.{slice_index_or, IfSome}
use Rattle.std.proofs.lemmas.Bool.{eqb-true, eq-eqb, ne_eqb, and_parts, cases_eq, cases_lt, false≢true, true_from_ne_false}
use Rattle.std.proofs.lemmas.Option.{IfSome_then}
use Rattle.isa.specs.declared.operation.Register.{Register}
use Rattle.isa.specs.InstructionCodes.{register_number}
use Rattle.ebpf_decode.specs.declared.insn.Insn.{Insn}
use Rattle.ebpf_decode.specs.declared.map.MapDef.{MapDef}
use Rattle.ebpf_decode.specs.declared.version.Version.{Version}
use Rattle.ebpf_decode.specs.declared.version.Version.TheVariants.{V1, V2}
use Rattle.ebpf_decode.specs.InstructionEncoding.{slot_count, total_slots}
use Rattle.semantics.specs.Program.{instruction_at}
use Rattle.abstract_scalar.specs.Intervals.{constant_of}
use Rattle.abstract_state.specs.declared.kind.Kind.{Kind}
use Rattle.abstract_state.specs.declared.kind.Kind.TheVariants.{Unset, Scalar, Ctx, Stack, Packet, PacketEnd, Map, ValueOrNull, Value}
use Rattle.abstract_state.specs.declared.kind.Offsets.{Offsets}
use Rattle.abstract_state.specs.declared.flow.Flow.{Flow}
use Rattle.abstract_state.specs.declared.flow.Flow.TheVariants.{Ends, Falls, Jumps, Splits}
use Rattle.abstract_state.specs.declared.state.State.{State}
use Rattle.abstract_state.specs.States.{Checked, kind_of, opening_state}
use Rattle.abstract_state.specs.Join.{zip_with, hull_of_offsets, may_join, join_kind, join_of}
use Rattle.abstract_state.specs.Flow.{flow_of}
use Rattle.image_shape.proofs.shared.SlotLemmas.{none_inside, past_end}
use Rattle.verifier.specs.Surveys.{slot_of_index}
use Rattle.verifier.specs.Dataflow.{known_at, joined_where, is_target, is_next, arriving, arriving_if, arriving_from, arrived, states_of}
use Rattle.verifier.proofs.shared.EntryStates.{are_entry_states}
use Rattle.reasons.specs.Origins.{is_unset, disagree, is_sought, brought_from, Brings, NoneBrings, IsUnsetAt}
use Rattle.reasons.specs.declared.origin.Arrival.{Arrival}
use Rattle.reasons.proofs.FairLemmas.{HasVersion, flows_version}

-- ---- kinds that may be joined

-- what two kinds share whose join is known
abbrev core_of_offsets : Version → Offsets → Offsets
core_of_offsets V1 off = off
core_of_offsets V2 off = record { low = 0; high = 0 }

abbrev core : Version → Kind → Kind
core version Unset = Unset
core version (Scalar i) = Scalar (constant_of 0)
core version Ctx = Ctx
core version (Stack place) = Stack place
core version (Packet id off range) = Packet id off 0
core version PacketEnd = PacketEnd
core version (Map map) = Map map
core version (ValueOrNull map id) = ValueOrNull map id
core version (Value map id off) = Value map id (core_of_offsets version off)

chosen : (test : Bool) (kind : Kind) → is_unset (if test then kind else Unset) ≡ false → test ≡ true
chosen true kind e = refl
chosen false kind e = absurd cc

same_offsets : (a b : Offsets) → a.low ≡ b.low → a.high ≡ b.high → a ≡ b
same_offsets a b low high = let e : (record { low = a.low; high = a.high }) ≡ b = rw (low, high) refl in e

shared_offsets : (version : Version) (a b : Offsets) → may_join version a b ≡ true → core_of_offsets version a ≡ core_of_offsets version b
shared_offsets V1 a b e =
    let parts = and_parts (a.low == b.low) (a.high == b.high) e
    in same_offsets a b (eqb-true a.low b.low parts.0) (eqb-true a.high b.high parts.1)
shared_offsets V2 a b e = refl

-- what is joined to a known kind shares it
shares : (version : Version) (a b : Kind) → is_unset (join_kind version a b) ≡ false → core version a ≡ core version b
shares version Unset b e = absurd cc
shares version (Scalar i) (Scalar j) e = refl
shares version (Scalar i) other e = absurd cc
shares version Ctx Ctx e = refl
shares version Ctx other e = absurd cc
shares version (Stack place) (Stack other) e = ap Stack (eqb-true place other (chosen (place == other) (Stack place) e))
shares version (Stack place) other e = absurd cc
shares version (Packet id off range) (Packet other place known) e =
    let parts = and_parts (id == other) (off == place) (chosen ((id == other) && (off == place)) (Packet id off (min range known)) e)
    in rw (eqb-true id other parts.0, eqb-true off place parts.1) refl
shares version (Packet id off range) other e = absurd cc
shares version PacketEnd PacketEnd e = refl
shares version PacketEnd other e = absurd cc
shares version (Map map) (Map other) e = ap Map (eqb-true map other (chosen (map == other) (Map map) e))
shares version (Map map) other e = absurd cc
shares version (ValueOrNull map id) (ValueOrNull other found) e =
    let parts = and_parts (map == other) (id == found) (chosen ((map == other) && (id == found)) (ValueOrNull map id) e)
    in rw (eqb-true map other parts.0, eqb-true id found parts.1) refl
shares version (ValueOrNull map id) other e = absurd cc
shares version (Value map id off) (Value other found place) e =
    let all = and_parts ((map == other) && (id == found)) (may_join version off place)
    (chosen (((map == other) && (id == found)) && may_join version off place) (Value map id (hull_of_offsets off place)) e)
    in let parts = and_parts (map == other) (id == found) all.0
    in rw (eqb-true map other parts.0, eqb-true id found parts.1, shared_offsets version off place all.1) refl
shares version (Value map id off) other e = absurd cc

same_hull : (version : Version) (off : Offsets) → core_of_offsets version (hull_of_offsets off off) ≡ core_of_offsets version off
same_hull V1 off = same_offsets (hull_of_offsets off off) off (omega arith) (omega arith)
same_hull V2 off = refl

may_join_shared : (version : Version) (a b : Offsets) → core_of_offsets version a ≡ core_of_offsets version b → may_join version a b ≡ true
may_join_shared V1 a b e = rw (eq-eqb a.low b.low (ap (λ off. off.low) e), eq-eqb a.high b.high (ap (λ off. off.high) e)) refl
may_join_shared V2 a b e = refl

hull_shared : (version : Version) (a b : Offsets) → core_of_offsets version a ≡ core_of_offsets version b → core_of_offsets version (hull_of_offsets a b) ≡ core_of_offsets version a
hull_shared V1 a b e = subst (λ off. core_of_offsets V1 (hull_of_offsets a off) ≡ core_of_offsets V1 a) e (same_hull V1 a)
hull_shared V2 a b e = refl

joined_value : (version : Version) (map id other found : ℕ) (off place : Offsets) → map ≡ other → id ≡ found → core_of_offsets version off ≡ core_of_offsets version place →
    core version (join_kind version (Value map id off) (Value other found place)) ≡ core version (Value map id off)
joined_value version map id other found off place m n e =
    rw (eq-eqb map other m, eq-eqb id found n, may_join_shared version off place e) (ap (Value map id) (hull_shared version off place e))

-- and the join of two known kinds that share it shares it too
joins : (version : Version) (a b : Kind) → is_unset a ≡ false → core version a ≡ core version b → core version (join_kind version a b) ≡ core version a
joins version Unset b set e = absurd cc
joins version (Scalar i) (Scalar j) set e = refl
joins version (Scalar i) other set e = absurd cc
joins version Ctx Ctx set e = refl
joins version Ctx other set e = absurd cc
joins version (Stack place) (Stack other) set e = let same : place ≡ other = cc in rw (eq-eqb place other same) refl
joins version (Stack place) other set e = absurd cc
joins version (Packet id off range) (Packet other place known) set e =
    let one : id ≡ other = cc in let two : off ≡ place = cc in rw (eq-eqb id other one, eq-eqb off place two) refl
joins version (Packet id off range) other set e = absurd cc
joins version PacketEnd PacketEnd set e = refl
joins version PacketEnd other set e = absurd cc
joins version (Map map) (Map other) set e = let same : map ≡ other = cc in rw (eq-eqb map other same) refl
joins version (Map map) other set e = absurd cc
joins version (ValueOrNull map id) (ValueOrNull other found) set e =
    let one : map ≡ other = cc in let two : id ≡ found = cc in rw (eq-eqb map other one, eq-eqb id found two) refl
joins version (ValueOrNull map id) other set e = absurd cc
joins version (Value map id off) (Value other found place) set e =
    let one : map ≡ other = cc in let two : id ≡ found = cc in let three : core_of_offsets version off ≡ core_of_offsets version place = cc
    in joined_value version map id other found off place one two three
joins version (Value map id off) other set e = absurd cc

core_unset : (version : Version) (kind : Kind) → is_unset (core version kind) ≡ is_unset kind
core_unset version Unset = refl
core_unset version kind = refl

set_by_core : (version : Version) (a b : Kind) → core version a ≡ core version b → is_unset b ≡ false → is_unset a ≡ false
set_by_core version a b e set = sym (core_unset version a) ∙ ap is_unset e ∙ core_unset version b ∙ set

join_left_unset : (version : Version) (kind : Kind) → join_kind version kind Unset ≡ Unset
join_left_unset version Unset = refl
join_left_unset version kind = refl

-- ---- joined states

zip_registers : (version : Version) (xs ys : List Kind) (k : ℕ) →
    slice_index_or (zip_with (join_kind version) xs ys) k Unset ≡ join_kind version (slice_index_or xs k Unset) (slice_index_or ys k Unset)
zip_registers version [] ys k = refl
zip_registers version (x ∷ xs) [] k = sym (join_left_unset version (slice_index_or (x ∷ xs) k Unset))
zip_registers version (x ∷ xs) (y ∷ ys) zero = refl
zip_registers version (x ∷ xs) (y ∷ ys) (suc k) = zip_registers version xs ys k

kind_of_join : (a b : State) (register : Register) → kind_of (join_of a b) register ≡ join_kind a.version (kind_of a register) (kind_of b register)
kind_of_join a b register = zip_registers a.version a.registers b.registers (register_number register)

-- what is known of the register can be joined to the kind
pub record Fits (version : Version) (register : Register) (kind : Kind) (state : State) : Type 0 where
  pub version_is : state.version ≡ version
  pub shared : core version (kind_of state register) ≡ core version kind

fits_join : (version : Version) (register : Register) (kind : Kind) (a b : State) → is_unset kind ≡ false → Fits version register kind a → Fits version register kind b →
    Fits version register kind (join_of a b)
fits_join version register kind a b set one other = record {
  version_is = one.version_is;
  shared =
      ap (core version) (kind_of_join a b register ∙ ap (λ v. join_kind v (kind_of a register) (kind_of b register)) one.version_is)
      ∙ joins version (kind_of a register) (kind_of b register) (set_by_core version (kind_of a register) kind one.shared set) (one.shared ∙ sym other.shared)
      ∙ one.shared;
}

-- both parts of a join that fits do
join_fits_both : (version : Version) (register : Register) (kind : Kind) (a b : State) → is_unset kind ≡ false → a.version ≡ version → b.version ≡ version →
    Fits version register kind (join_of a b) → Fits version register kind a × Fits version register kind b
join_fits_both version register kind a b set first second fits =
    let is : kind_of (join_of a b) register ≡ join_kind version (kind_of a register) (kind_of b register) =
    kind_of_join a b register ∙ ap (λ v. join_kind v (kind_of a register) (kind_of b register)) first
    in let known : is_unset (join_kind version (kind_of a register) (kind_of b register)) ≡ false =
    ap is_unset (sym is) ∙ set_by_core version (kind_of (join_of a b) register) kind fits.shared set
    in let same : core version (kind_of a register) ≡ core version (kind_of b register) = shares version (kind_of a register) (kind_of b register) known
    in let one_set : is_unset (kind_of a register) ≡ false = joined_set version (kind_of a register) (kind_of b register) known
    in let one : core version (kind_of a register) ≡ core version kind =
    sym (joins version (kind_of a register) (kind_of b register) one_set same) ∙ ap (core version) (sym is) ∙ fits.shared
    in (record { version_is = first; shared = one }, record { version_is = second; shared = sym same ∙ one })
  where
    joined_set : (v : Version) (x y : Kind) → is_unset (join_kind v x y) ≡ false → is_unset x ≡ false
    joined_set v Unset y e = e
    joined_set v x y e = refl

-- ---- edges

joined_fits : (version : Version) (register : Register) (kind : Kind) (leads : Bool) (state : State) (known : Option State) → is_unset kind ≡ false →
    IfSome (joined_where leads state None) (Fits version register kind) → IfSome known (Fits version register kind) →
    IfSome (joined_where leads state known) (Fits version register kind)
joined_fits version register kind true state None set one rest = one
joined_fits version register kind true state (Some known) set one rest = fits_join version register kind known state set rest one
joined_fits version register kind false state known set one rest = rest

-- the edges of a conditional jump, to one slot or to two
split_fits : (version : Version) (register : Register) (kind : Kind) (falls jumps : Bool) (taken fallen : State) (known : Option State) → is_unset kind ≡ false →
    taken.version ≡ version → fallen.version ≡ version →
    IfSome (joined_where falls fallen (joined_where jumps taken None)) (Fits version register kind) → IfSome known (Fits version register kind) →
    IfSome (joined_where falls fallen (joined_where jumps taken known)) (Fits version register kind)
split_fits version register kind true true taken fallen known set first second brought rest =
    let both = join_fits_both version register kind taken fallen set first second brought
    in joined_fits version register kind true fallen (joined_where true taken known) set both.1
    (joined_fits version register kind true taken known set both.0 rest)
split_fits version register kind true false taken fallen known set first second brought rest =
    joined_fits version register kind true fallen known set brought rest
split_fits version register kind false true taken fallen known set first second brought rest =
    joined_fits version register kind true taken known set brought rest
split_fits version register kind false false taken fallen known set first second brought rest = rest

arriving_fits : (version : Version) (register : Register) (kind : Kind) (slot : ℕ) (insn : Insn) (target : ℕ) (flow : Flow) (known : Option State) → is_unset kind ≡ false →
    HasVersion version flow → IfSome (arriving slot insn target flow None) (Fits version register kind) → IfSome known (Fits version register kind) →
    IfSome (arriving slot insn target flow known) (Fits version register kind)
arriving_fits version register kind slot insn target Ends known set has brought rest = rest
arriving_fits version register kind slot insn target (Falls state) known set has brought rest =
    joined_fits version register kind (is_next slot insn target) state known set brought rest
arriving_fits version register kind slot insn target (Jumps state) known set has brought rest =
    joined_fits version register kind (is_target slot insn target) state known set brought rest
arriving_fits version register kind slot insn target (Splits taken fallen) known set has brought rest =
    split_fits version register kind (is_next slot insn target) (is_target slot insn target) taken fallen known set has.0 has.1 brought rest

if_fits : (version : Version) (register : Register) (kind : Kind) (maps : List MapDef) (slot : ℕ) (insn : Insn) (state : State) (target : ℕ) (after : Checked Flow)
    (known : Option State) → is_unset kind ≡ false → state.version ≡ version → flow_of maps state slot insn ≡ after →
    IfSome (arriving_if slot insn target after None) (Fits version register kind) → IfSome known (Fits version register kind) →
    IfSome (arriving_if slot insn target after known) (Fits version register kind)
if_fits version register kind maps slot insn state target (Ok flow) known set has e brought rest =
    arriving_fits version register kind slot insn target flow known set (subst (λ v. HasVersion v flow) has (flows_version maps state slot insn flow e)) brought rest
if_fits version register kind maps slot insn state target (Err why) known set has e brought rest = rest

from_fits : (version : Version) (register : Register) (kind : Kind) (maps : List MapDef) (slot : ℕ) (begins : Option Insn) (here : Option State) (target : ℕ)
    (known : Option State) → is_unset kind ≡ false → IfSome here (λ state. state.version ≡ version) →
    IfSome (arriving_from maps slot begins here target None) (Fits version register kind) → IfSome known (Fits version register kind) →
    IfSome (arriving_from maps slot begins here target known) (Fits version register kind)
from_fits version register kind maps slot (Some insn) (Some state) target known set has brought rest =
    if_fits version register kind maps slot insn state target (flow_of maps state slot insn) known set has refl brought rest
from_fits version register kind maps slot (Some insn) None target known set has brought rest = rest
from_fits version register kind maps slot None here target known set has brought rest = rest

-- ---- every state that is known has the program's version

where_version : (version : Version) (leads : Bool) (state : State) (known : Option State) → state.version ≡ version → IfSome known (λ s. s.version ≡ version) →
    IfSome (joined_where leads state known) (λ s. s.version ≡ version)
where_version version true state None e rest = e
where_version version true state (Some known) e rest = rest
where_version version false state known e rest = rest

arriving_version : (version : Version) (slot : ℕ) (insn : Insn) (target : ℕ) (flow : Flow) (known : Option State) → HasVersion version flow →
    IfSome known (λ s. s.version ≡ version) → IfSome (arriving slot insn target flow known) (λ s. s.version ≡ version)
arriving_version version slot insn target Ends known has rest = rest
arriving_version version slot insn target (Falls state) known has rest = where_version version (is_next slot insn target) state known has rest
arriving_version version slot insn target (Jumps state) known has rest = where_version version (is_target slot insn target) state known has rest
arriving_version version slot insn target (Splits taken fallen) known has rest =
    where_version version (is_next slot insn target) fallen (joined_where (is_target slot insn target) taken known) has.1
    (where_version version (is_target slot insn target) taken known has.0 rest)

if_version : (version : Version) (maps : List MapDef) (slot : ℕ) (insn : Insn) (state : State) (target : ℕ) (after : Checked Flow) (known : Option State) →
    state.version ≡ version → flow_of maps state slot insn ≡ after → IfSome known (λ s. s.version ≡ version) →
    IfSome (arriving_if slot insn target after known) (λ s. s.version ≡ version)
if_version version maps slot insn state target (Ok flow) known has e rest =
    arriving_version version slot insn target flow known (subst (λ v. HasVersion v flow) has (flows_version maps state slot insn flow e)) rest
if_version version maps slot insn state target (Err why) known has e rest = rest

from_version : (version : Version) (maps : List MapDef) (slot : ℕ) (begins : Option Insn) (here : Option State) (target : ℕ) (known : Option State) →
    IfSome here (λ s. s.version ≡ version) → IfSome known (λ s. s.version ≡ version) →
    IfSome (arriving_from maps slot begins here target known) (λ s. s.version ≡ version)
from_version version maps slot (Some insn) (Some state) target known has rest =
    if_version version maps slot insn state target (flow_of maps state slot insn) known has refl rest
from_version version maps slot (Some insn) None target known has rest = rest
from_version version maps slot None here target known has rest = rest

start_version : (version : Version) (first : Bool) → IfSome (if first then Some (opening_state version) else None) (λ s. s.version ≡ version)
start_version version true = refl
start_version version false = tt

arrived_version : (version : Version) (maps : List MapDef) (code : List Insn) (states : List (Option State)) (target end : ℕ) →
    ((k : ℕ) → k < end → IfSome (known_at states k) (λ s. s.version ≡ version)) → IfSome (arrived version maps code states target end) (λ s. s.version ≡ version)
arrived_version version maps code states target zero each = start_version version (target == 0)
arrived_version version maps code states target (suc end) each =
    from_version version maps end (instruction_at code end) (known_at states end) target (arrived version maps code states target end) (each end (omega arith))
    (arrived_version version maps code states target end (λ k h. each k (omega arith)))

known_version : (version : Version) (maps : List MapDef) (code : List Insn) (end slot : ℕ) → slot < end → slot < total_slots code →
    IfSome (known_at (states_of version maps code) slot) (λ s. s.version ≡ version)
known_version version maps code zero slot h inside = absurd (omega arith)
known_version version maps code (suc end) slot h inside =
    subst (λ known. IfSome known (λ s. s.version ≡ version)) (sym (are_entry_states version maps code slot inside))
    (arrived_version version maps code (states_of version maps code) slot slot (λ k g. known_version version maps code end k (omega arith) (omega arith)))

-- ---- what arrives where nothing disagrees

arrived_fits : (version : Version) (maps : List MapDef) (code : List Insn) (register : Register) (kind : Kind) (target end : ℕ) → is_unset kind ≡ false → 0 < target →
    target < total_slots code → end ≤ target →
    ((from : ℕ) → from < target → IfSome (brought_from version maps code from target) (Fits version register kind)) →
    IfSome (arrived version maps code (states_of version maps code) target end) (Fits version register kind)
arrived_fits version maps code register kind target zero set past inside h each = rw (ne_eqb target 0 (λ e. omega (arith, e))) tt
arrived_fits version maps code register kind target (suc end) set past inside h each =
    from_fits version register kind maps end (instruction_at code end) (known_at (states_of version maps code) end) target
    (arrived version maps code (states_of version maps code) target end) set (known_version version maps code (suc end) end (omega arith) (omega arith))
    (each end (omega arith)) (arrived_fits version maps code register kind target end set past inside (omega arith) each)

never_fits : (version : Version) (maps : List MapDef) (code : List Insn) (register : Register) (kind : Kind) (target : ℕ) → is_unset kind ≡ false →
    IsUnsetAt version maps code register target → 0 < target → target < total_slots code →
    ((from : ℕ) → from < target → IfSome (brought_from version maps code from target) (Fits version register kind)) → ⊥
never_fits version maps code register kind target set unset past inside each =
    let is : arrived version maps code (states_of version maps code) target target ≡ Some unset.state =
    sym (are_entry_states version maps code target inside) ∙ unset.known
    in let fits : Fits version register kind unset.state =
    subst (λ known. IfSome known (Fits version register kind)) is (arrived_fits version maps code register kind target target set past inside (omega arith) each)
    in false≢true (sym (set_by_core version (kind_of unset.state register) kind fits.shared set) ∙ ap is_unset unset.unset)

-- something arrives at a slot that has something known
pub some_arrive : (version : Version) (maps : List MapDef) (code : List Insn) (register : Register) (target : ℕ) →
    IsUnsetAt version maps code register target → 0 < target → target < total_slots code → NoneBrings version maps code target register None → ⊥
some_arrive version maps code register target unset past inside none =
    never_fits version maps code register Ctx target refl unset past inside
    (λ from h. IfSome_then (brought_from version maps code from target) (none from h) (λ brought e. absurd (false≢true (sym e))))

agrees : (version : Version) (kind other : Kind) → is_unset kind ≡ false → disagree version kind other ≡ false → is_unset (join_kind version kind other) ≡ false
agrees version Unset other set e = absurd cc
agrees version kind other set e = e

if_both : (known : Option State) (P Q R : State → Type 0) → IfSome known P → IfSome known Q → ((s : State) → P s → Q s → R s) → IfSome known R
if_both None P Q R p q both = tt
if_both (Some s) P Q R p q both = both s p q

-- and if nothing disagrees with a kind, that kind is unset
pub left_so : (version : Version) (maps : List MapDef) (code : List Insn) (register : Register) (kind : Kind) (target : ℕ) →
    IsUnsetAt version maps code register target → 0 < target → target < total_slots code → NoneBrings version maps code target register (Some kind) →
    is_unset kind ≡ true
left_so version maps code register kind target unset past inside none =
    true_from_ne_false (is_unset kind) (λ set. never_fits version maps code register kind target set unset past inside
    (λ from h. if_both (brought_from version maps code from target) (λ s. s.version ≡ version)
    (λ brought. is_sought version (Some kind) (kind_of brought register) ≡ false) (Fits version register kind)
    (from_version version maps from (instruction_at code from) (known_at (states_of version maps code) from) target None
    (known_version version maps code (suc from) from (omega arith) (omega arith)) tt)
    (none from h)
    (λ s has e. record {
      version_is = has;
      shared = sym (shares version kind (kind_of s register) (agrees version kind (kind_of s register) set e));
    })))

-- ---- what a search over the instructions has seen

-- nothing from a slot before the end brings what is sought
abbrev pub NoneBefore : Version → List MapDef → List Insn → ℕ → Register → Option Kind → ℕ → Type 0
NoneBefore version maps code target register unlike end =
    (from : ℕ) → from < end → IfSome (brought_from version maps code from target) (λ brought. is_sought version unlike (kind_of brought register) ≡ false)

nothing_begins : (version : Version) (maps : List MapDef) (code : List Insn) (target : ℕ) (register : Register) (unlike : Option Kind) (from : ℕ) →
    instruction_at code from ≡ None →
    IfSome (brought_from version maps code from target) (λ brought. is_sought version unlike (kind_of brought register) ≡ false)
nothing_begins version maps code target register unlike from e = rw e tt

-- past the last instruction nothing begins
pub none_at_all : (version : Version) (maps : List MapDef) (code : List Insn) (target : ℕ) (register : Register) (unlike : Option Kind) (slot : ℕ) →
    slot ≡ total_slots code → NoneBefore version maps code target register unlike slot → NoneBrings version maps code target register unlike
none_at_all version maps code target register unlike slot end none = λ from h. ⊎_elim
    (λ before. none from before)
    (λ past. nothing_begins version maps code target register unlike from (past_end code from (omega (arith, end))))
    (cases_lt from slot)

-- one more instruction
pub none_more : (version : Version) (maps : List MapDef) (code : List Insn) (target : ℕ) (register : Register) (unlike : Option Kind) (index slot next : ℕ) (d : Insn) →
    index < length code → slot ≡ slot_of_index code index → next ≡ slot + slot_count (get_or code index d) → NoneBefore version maps code target register unlike slot →
    IfSome (brought_from version maps code slot target) (λ brought. is_sought version unlike (kind_of brought register) ≡ false) →
    NoneBefore version maps code target register unlike next
none_more version maps code target register unlike index slot next d inside at further none here = λ from h. ⊎_elim
    (λ before. none from before)
    (λ past. ⊎_elim
    (λ same. subst (λ k. IfSome (brought_from version maps code k target) (λ brought. is_sought version unlike (kind_of brought register) ≡ false)) (sym same) here)
    (λ apart. nothing_begins version maps code target register unlike from
    (none_inside code index d slot from inside at (after_it from slot past apart) (omega (arith, further))))
    (cases_eq from slot))
    (cases_lt from slot)
  where
    after_it : (k n : ℕ) → n ≤ k → (k ≡ n → ⊥) → n < k
    after_it k n le apart = ⊎_elim (λ lt. lt) (λ ge. absurd (apart (omega arith))) (cases_lt n k)

-- what an edge brings is what the edges from its slot bring
brought_is : (version : Version) (maps : List MapDef) (code : List Insn) (target : ℕ) (register : Register) (arrival : Arrival) →
    (brings : Brings version maps code target register arrival) → brought_from version maps code arrival.from target ≡ Some brings.arrives.brought
brought_is version maps code target register arrival brings = rw (brings.here, brings.arrives.is) brings.arrives.brings

pub not_sought : (version : Version) (maps : List MapDef) (code : List Insn) (target : ℕ) (register : Register) (unlike : Option Kind) (slot : ℕ) (arrival : Arrival) →
    Brings version maps code target register arrival → arrival.from ≡ slot → is_sought version unlike arrival.after ≡ false →
    IfSome (brought_from version maps code slot target) (λ brought. is_sought version unlike (kind_of brought register) ≡ false)
not_sought version maps code target register unlike slot arrival brings at e =
    subst (λ from. IfSome (brought_from version maps code from target) (λ brought. is_sought version unlike (kind_of brought register) ≡ false)) at
    (subst (λ known. IfSome known (λ brought. is_sought version unlike (kind_of brought register) ≡ false))
    (sym (brought_is version maps code target register arrival brings))
    (ap (is_sought version unlike) (sym brings.arrives.after) ∙ e))

pub none_there : (version : Version) (maps : List MapDef) (code : List Insn) (target : ℕ) (register : Register) (unlike : Option Kind) (slot : ℕ) →
    brought_from version maps code slot target ≡ None →
    IfSome (brought_from version maps code slot target) (λ brought. is_sought version unlike (kind_of brought register) ≡ false)
none_there version maps code target register unlike slot e = rw e tt
