-- A fact that holds of the ids: what it says of a state is sound for the same run.
use Rattle.std.proofs.Common.{◌≡◌, inl, inr, ℕ, ◌+◌, ◌<◌, ◌≤◌, Bool, true, false, if◌then◌else◌, ◌==◌, List, length, map, max, Some, None, refl, sym, ◌∙◌, subst, ⊎_elim, arith}
use Rattle.std.proofs.lemmas.Option.{none-some}
use Rattle.std.proofs.lemmas.Bool.{eqb-true, cases_lt}
use Rattle.std.proofs.lemmas.List.{get_or-map, length-map}
use Rattle.ebpf_decode.specs.declared.map.MapDef.{MapDef}
use Rattle.isa.specs.InstructionCodes.{register_number}
use Rattle.semantics.specs.declared.call.CellRef.{CellRef}
use Rattle.semantics.specs.RegisterValue.{RegisterValue}
use Rattle.semantics.specs.MachineState.{MachineState, StackByte, register_value}
use Rattle.abstract_scalar.specs.Intervals.{constant_of}
use Rattle.abstract_scalar.proofs.shared.Soundness.{constant_covers}
use Rattle.abstract_state.specs.declared.kind.Kind.{Kind}
use Rattle.abstract_state.specs.Places.{at_offset}
use Rattle.abstract_state.specs.declared.kind.Kind.TheVariants.{Unset, Scalar, Ctx, Stack, Packet, PacketEnd, Map, ValueOrNull, Value}
use Rattle.abstract_state.specs.declared.kind.StackWord.{StackWord}
use Rattle.abstract_state.specs.declared.kind.StackWord.TheVariants.{Spilled, Bytes}
use Rattle.abstract_state.specs.declared.fact.Fact.{Fact}
use Rattle.abstract_state.specs.declared.fact.Fact.TheVariants.{Nothing, Null, Range, HeadMoved}
use Rattle.abstract_state.specs.declared.state.State.{State}
use Rattle.abstract_state.specs.States.{kind_of, word_of}
use Rattle.abstract_state.specs.Facts.{told_null, told_range, told_moved, told_kind, told_word, told_start, told}
use Rattle.abstract_state.specs.Abstraction.{Held, KindScope, KindCovers, IsPacketPlace, IsLookedUp, WordCovers, kind_scope_of, places_of, Abstracts}
use Rattle.abstract_state.proofs.shared.Writing.{number_below}
use Rattle.abstract_state.proofs.JoinWords.{spilled_covers}

-- the fact is true of the ids; that the head is moved forgets what was known
abbrev pub FactHolds : KindScope → Fact → Type 0
FactHolds s Nothing = Unit {0}
FactHolds s (Null id true) = s.ids.found id ≡ None
FactHolds s (Null id false) = (cell : CellRef) × (s.ids.found id ≡ Some cell)
FactHolds s (Range id range) = s.ids.base id + range ≤ s.size
FactHolds s HeadMoved = Unit {0}

-- ---- kinds

where_equal : (s : KindScope) (t : Bool) (a b : Kind) (v : RegisterValue) → (t ≡ true → KindCovers s a v) → KindCovers s b v → KindCovers s (if t then a else b) v
where_equal s true a b v p q = p refl
where_equal s false a b v p q = q

null_found : (s : KindScope) (map found : ℕ) (v : RegisterValue) → s.ids.found found ≡ None → IsLookedUp s map found v → KindCovers s (Scalar (constant_of 0)) v
null_found s map found v none (inl c) = record { number = 0; is = c.is; within = constant_covers 0 0 refl; word = omega arith }
null_found s map found v none (inr c) = absurd (none-some c.cell (sym none ∙ c.found))

cell_found : (s : KindScope) (map found : ℕ) (v : RegisterValue) (cell : CellRef) → s.ids.found found ≡ Some cell → IsLookedUp s map found v → KindCovers s (Value map found (at_offset 0)) v
cell_found s map found v cell some (inl c) = absurd (none-some cell (sym c.found ∙ some))
cell_found s map found v cell some (inr c) = c

null_told : (s : KindScope) (id : ℕ) (is_null : Bool) (map found : ℕ) (v : RegisterValue) → FactHolds s (Null id is_null) → IsLookedUp s map found v →
    KindCovers s (told_null id is_null (ValueOrNull map found)) v
null_told s id true map found v h c =
    where_equal s (id == found) (Scalar (constant_of 0)) (ValueOrNull map found) v
    (λ t. let e : id ≡ found = eqb-true id found t in null_found s map found v (subst (λ x. s.ids.found x ≡ None) e h) c) c
null_told s id false map found v h c =
    where_equal s (id == found) (Value map found (at_offset 0)) (ValueOrNull map found) v
    (λ t. let e : id ≡ found = eqb-true id found t in cell_found s map found v h.0 (subst (λ x. s.ids.found x ≡ Some h.0) e h.1) c) c

-- a range that is known to lie in the packet, and another
farther : (base known range size : ℕ) → (0 < known → base + known ≤ size) → base + range ≤ size → base + max known range ≤ size
farther base known range size h l = ⊎_elim
    (λ some. let k : base + known ≤ size = h some in omega arith)
    (λ none. omega arith)
    (cases_lt 0 known)

range_told : (s : KindScope) (id range base off known : ℕ) (v : RegisterValue) → FactHolds s (Range id range) → IsPacketPlace s base off known v →
    KindCovers s (told_range id range (Packet base off known)) v
range_told s id range base off known v h c =
    where_equal s (id == base) (Packet base off (max known range)) (Packet base off known) v
    (λ t. let e : id ≡ base = eqb-true id base t
    in let l : s.ids.base base + range ≤ s.size = subst (λ x. s.ids.base x + range ≤ s.size) e h
    in record { is = c.is; reached = λ p. farther (s.ids.base base) known range s.size c.reached l; earlier = c.earlier; near = c.near }) c

null_kind : (s : KindScope) (id : ℕ) (is_null : Bool) (kind : Kind) (v : RegisterValue) → FactHolds s (Null id is_null) → KindCovers s kind v →
    KindCovers s (told_null id is_null kind) v
null_kind s id is_null Unset v h c = c
null_kind s id is_null (Scalar i) v h c = c
null_kind s id is_null Ctx v h c = c
null_kind s id is_null (Stack place) v h c = c
null_kind s id is_null (Packet base off range) v h c = c
null_kind s id is_null PacketEnd v h c = c
null_kind s id is_null (Map map) v h c = c
null_kind s id is_null (ValueOrNull map found) v h c = null_told s id is_null map found v h c
null_kind s id is_null (Value map found off) v h c = c

range_kind : (s : KindScope) (id range : ℕ) (kind : Kind) (v : RegisterValue) → FactHolds s (Range id range) → KindCovers s kind v →
    KindCovers s (told_range id range kind) v
range_kind s id range Unset v h c = c
range_kind s id range (Scalar i) v h c = c
range_kind s id range Ctx v h c = c
range_kind s id range (Stack place) v h c = c
range_kind s id range (Packet base off known) v h c = range_told s id range base off known v h c
range_kind s id range PacketEnd v h c = c
range_kind s id range (Map map) v h c = c
range_kind s id range (ValueOrNull map found) v h c = c
range_kind s id range (Value map found off) v h c = c

moved_kind : (s : KindScope) (kind : Kind) (v : RegisterValue) → KindCovers s kind v → KindCovers s (told_moved kind) v
moved_kind s Unset v c = c
moved_kind s (Scalar i) v c = c
moved_kind s Ctx v c = c
moved_kind s (Stack place) v c = c
moved_kind s (Packet base off known) v c = tt
moved_kind s PacketEnd v c = tt
moved_kind s (Map map) v c = c
moved_kind s (ValueOrNull map found) v c = c
moved_kind s (Value map found off) v c = c

pub kind_told : (s : KindScope) (fact : Fact) (kind : Kind) (v : RegisterValue) → FactHolds s fact → KindCovers s kind v → KindCovers s (told_kind fact kind) v
kind_told s Nothing kind v h c = c
kind_told s (Null id is_null) kind v h c = null_kind s id is_null kind v h c
kind_told s (Range id range) kind v h c = range_kind s id range kind v h c
kind_told s HeadMoved kind v h c = moved_kind s kind v c

-- ---- words and states

pub word_told : (s : KindScope) (fact : Fact) (word : StackWord) (places : List StackByte) → FactHolds s fact → WordCovers s word places →
    WordCovers s (told_word fact word) places
word_told s fact (Spilled kind) places h c =
    spilled_covers s (told_kind fact kind) places (record { value = c.value; covered = kind_told s fact kind c.value h c.covered; stored = c.stored })
word_told s fact (Bytes set) places h c = c

start_chosen : (t : Bool) (a b size : ℕ) → (t ≡ true → a ≤ size) → (0 < b → b ≤ size) → 0 < (if t then a else b) → (if t then a else b) ≤ size
start_chosen true a b size p q h = p refl
start_chosen false a b size p q h = q h

start_told : (s : KindScope) (fact : Fact) (known : ℕ) → FactHolds s fact → (0 < known → known ≤ s.size) →
    0 < told_start fact known → told_start fact known ≤ s.size
start_told s Nothing known h l p = l p
start_told s (Null id is_null) known h l p = l p
start_told s (Range id range) known h l p =
    start_chosen (id == 0) (max known range) known s.size
    (λ t. let k : 0 + max known range ≤ s.size = farther 0 known range s.size (λ q. let m : known ≤ s.size = l q in omega arith) (omega arith) in omega arith) l p
start_told s HeadMoved known h l p = absurd (omega arith)

pub told_sound : (maps : List MapDef) (held : Held) (fact : Fact) (state : State) (machine : MachineState) (a : Abstracts maps held state machine) →
    FactHolds (kind_scope_of maps held a.ids machine) fact → Abstracts maps held (told fact state) machine
told_sound maps held fact state machine a h = record {
  ids = a.ids;
  registers = λ register.
      let l : register_number register < 11 = number_below register
      in let e : length state.registers ≡ 11 = a.is_machine.eleven_kinds
      in rw (get_or-map (told_kind fact) state.registers (register_number register) Unset Unset (omega arith))
      (kind_told (kind_scope_of maps held a.ids machine) fact (kind_of state register) (register_value machine register) h (a.registers register));
  stack = λ word l.
      let e : length state.stack ≡ 64 = a.is_machine.word_count
      in rw (get_or-map (told_word fact) state.stack word (Spilled Unset) (Spilled Unset) (omega arith))
      (word_told (kind_scope_of maps held a.ids machine) fact (word_of state word) (places_of word machine.stack) h (a.stack word l));
  start = start_told (kind_scope_of maps held a.ids machine) fact state.start_range h a.start;
  bases = a.bases;
  is_machine = record {
    eleven = a.is_machine.eleven;
    eleven_kinds = length-map state.registers (told_kind fact) ∙ a.is_machine.eleven_kinds;
    stack_size = a.is_machine.stack_size;
    word_count = length-map state.stack (told_word fact) ∙ a.is_machine.word_count;
    worker = a.is_machine.worker;
    time = a.is_machine.time;
    frame = a.is_machine.frame;
  };
}
