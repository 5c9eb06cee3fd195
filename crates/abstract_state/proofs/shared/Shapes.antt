-- Every state describes eleven registers and 64 words of eight bytes.
use Rattle.std.proofs.Common.{◌≡◌, ℕ, ◌+◌, ◌-◌, ◌<◌, ◌≤◌, ◌%◌, ◌/◌, nat_le, ◌==◌, ◌&&◌, Bool, true, false, List, ◌++◌, length, map, take, drop, replicate, ℤ, pos, negsuc, ◌+ℤ◌, Option, Some, None, Ok, Err, ⊎_elim, refl, sym, ◌∙◌, ap, subst, arith}
use Rattle.std.proofs.lemmas.Grind.{get_or-set_at}
use Rattle.std.proofs.lemmas.List.{get_or-replicate, get_or-set_other, get_or-map, length-set, length-map, length-replicate, length-append, length-take-le, length-drop}
use Rattle.std.proofs.lemmas.Bool.{cases_eq, eqb-true, leb-true}
use Rattle.isa.specs.Words.{width_bits, twos_complement}
use Rattle.isa.specs.declared.operation.Width.{Width}
use Rattle.isa.specs.declared.operation.Size.{Size}
use Rattle.isa.specs.declared.operation.Size.TheVariants.{U8, U16, U32, U64}
use Rattle.isa.specs.declared.operation.AtomicOp.{AtomicOp}
use Rattle.isa.specs.declared.operation.Test.{Test}
use Rattle.isa.specs.declared.operation.SourceOperand.{SourceOperand}
use Rattle.isa.specs.declared.operation.SourceOperand.TheVariants.{Reg}
use Rattle.isa.specs.declared.operation.Register.{Register}
use Rattle.isa.specs.declared.operation.Register.TheVariants.{R0}
use Rattle.ebpf_decode.specs.declared.insn.Insn.{Insn}
use Rattle.ebpf_decode.specs.declared.insn.Insn.TheVariants.{Alu, Neg, Movsx, Movsx32, End, Ja, Ja32, JumpIf, Ldx, Ldxs, St, Stx, AtomicUpdate, Lddw, Ldmap, Ldval, CallHelper, Exit}
use Rattle.ebpf_decode.specs.declared.map.MapDef.{MapDef}
use Rattle.isa.specs.InstructionCodes.{register_number, size_bytes, width_size}
use Rattle.isa.specs.Atomic.{fetched_register}
use Rattle.abstract_scalar.specs.declared.interval.Interval.{Interval}
use Rattle.abstract_scalar.specs.Intervals.{constant_of, interval_of, full_of}
use Rattle.abstract_scalar.specs.Transfer.{neg_of, movsx64_of, movsx32_of, swap_of}
use Rattle.ebpf_decode.specs.declared.version.Version.{Version}
use Rattle.abstract_state.specs.declared.kind.Kind.{Kind}
use Rattle.abstract_state.specs.declared.kind.Kind.TheVariants.{Unset, Scalar, Ctx, Stack, Packet, PacketEnd, Map, ValueOrNull, Value}
use Rattle.abstract_state.specs.declared.kind.StackWord.{StackWord}
use Rattle.abstract_state.specs.declared.kind.StackWord.TheVariants.{Spilled, Bytes}
use Rattle.abstract_state.specs.declared.fact.Fact.{Fact}
use Rattle.abstract_state.specs.declared.fact.Fact.TheVariants.{HeadMoved}
use Rattle.semantics.specs.declared.linux.Helper.{Helper}
use Rattle.semantics.specs.declared.linux.Helper.TheVariants.{MapLookupElem, MapUpdateElem, MapDeleteElem, KtimeGetNs, GetSmpProcessorId, XdpAdjustHead}
use Rattle.abstract_state.specs.declared.flow.Flow.{Flow}
use Rattle.abstract_state.specs.declared.flow.Flow.TheVariants.{Ends, Falls, Jumps, Splits}
use Rattle.abstract_state.specs.declared.broken_rule.BrokenRule.{BrokenRule}
use Rattle.abstract_state.specs.declared.broken_rule.BrokenRule.TheVariants.{WrongKind, ContextAccess, Misaligned, StackBounds, PointerLeak}
use Rattle.abstract_state.specs.declared.state.State.{State}
use Rattle.abstract_state.specs.States.{Checked, ◌>>=◌, kind_of, with_kind, word_of, with_word, no_bytes, stack_size, opening_state}
use Rattle.abstract_state.specs.Join.{zip_with, spilled, bytes_of_kind, bytes_of_word, join_kind, join_word, join_of}
use Rattle.abstract_state.specs.Places.{range_within, aligned, stack_access, packet_access, value_access, atomic_access}
use Rattle.abstract_state.specs.Words.{storable, storable_number, with_set, word_stored}
use Rattle.abstract_state.specs.Facts.{told_kind, told_word, told}
use Rattle.abstract_state.specs.Arithmetic.{source_kind, blamed, alu_kind, after_alu_of}
use Rattle.abstract_state.specs.Refinement.{allowed_test, number_cut, fact_of, refined, refine_state}
use Rattle.abstract_state.specs.Access.{loaded_kind, load_of, signed_loaded, signed_load_of, stack_stored, stored, store_of, with_fetched_kind, expects, checked_atomic, atomic_of}
use Rattle.abstract_state.specs.Calls.{helper_at, key_arguments, update_arguments, head_arguments, any_number, after_return, checked_call}
use Rattle.abstract_state.specs.Flow.{checked_value_address, address_flow, writable, fetch_writable, reads, reads_both, reads_operands, reads_atomic, reads_arguments, alu_flow, operand_of, unary_flow, load_flow, store_flow, store_register_flow, atomic_flow, number_flow, known_map, map_flow, call_flow, test_flow, exit_kind, falls, flow_of}
use Rattle.abstract_state.specs.Soundness.{IsShaped, FlowIsShaped, StatesAreShaped}
use Rattle.abstract_state.proofs.shared.Inverting.{err_not_ok, ok_value, ok_then, ok_if}
use Rattle.abstract_state.proofs.shared.JoinStates.{at_place, length-zip_with}

-- ---- words

no_eight : length no_bytes ≡ 8
no_eight = length-replicate 8 false

kind_eight : (kind : Kind) → length (bytes_of_kind kind) ≡ 8
kind_eight Unset = no_eight
kind_eight (Scalar i) = length-replicate 8 true
kind_eight Ctx = no_eight
kind_eight (Stack place) = no_eight
kind_eight (Packet id off range) = no_eight
kind_eight PacketEnd = no_eight
kind_eight (Map map) = no_eight
kind_eight (ValueOrNull map id) = no_eight
kind_eight (Value map id off) = no_eight

spilled_eight : (kind : Kind) → length (bytes_of_word (spilled kind)) ≡ 8
spilled_eight Unset = no_eight
spilled_eight (Scalar i) = length-replicate 8 true
spilled_eight Ctx = no_eight
spilled_eight (Stack place) = no_eight
spilled_eight (Packet id off range) = no_eight
spilled_eight PacketEnd = no_eight
spilled_eight (Map map) = no_eight
spilled_eight (ValueOrNull map id) = no_eight
spilled_eight (Value map id off) = no_eight

both_eight : (a b : List Bool) → length a ≡ 8 → length b ≡ 8 → length (zip_with (λ x y. x && y) a b) ≡ 8
both_eight a b m n = length-zip_with (λ x y. x && y) a b (m ∙ sym n) ∙ m

word_eight : (version : Version) (a b : StackWord) → length (bytes_of_word a) ≡ 8 → length (bytes_of_word b) ≡ 8 → length (bytes_of_word (join_word version a b)) ≡ 8
word_eight version (Spilled kind) (Spilled other) m n = spilled_eight (join_kind version kind other)
word_eight version (Spilled kind) (Bytes set) m n = both_eight (bytes_of_kind kind) set m n
word_eight version (Bytes set) (Spilled other) m n = both_eight set (bytes_of_kind other) m n
word_eight version (Bytes set) (Bytes other) m n = both_eight set other m n

told_eight : (fact : Fact) (word : StackWord) → length (bytes_of_word word) ≡ 8 → length (bytes_of_word (told_word fact word)) ≡ 8
told_eight fact (Spilled kind) h = spilled_eight (told_kind fact kind)
told_eight fact (Bytes set) h = h

set_eight : (set : List Bool) (from count : ℕ) → length set ≡ 8 → from + count ≤ 8 → length (with_set set from count) ≡ 8
set_eight set from count h inside =
    let front : length (take from set) ≡ from = length-take-le from set (omega arith)
    in let middle : length (replicate count true) ≡ count = length-replicate count true
    in let back : length (drop (from + count) set) ≡ length set - (from + count) = length-drop (from + count) set
    in let whole : length (take from set ++ replicate count true) ≡ length (take from set) + length (replicate count true) =
    length-append (take from set) (replicate count true)
    in let all : length (with_set set from count) ≡ length (take from set ++ replicate count true) + length (drop (from + count) set) =
    length-append (take from set ++ replicate count true) (drop (from + count) set)
    in omega arith

-- an aligned access stays inside its word
pub inside_word : (size : Size) (from : ℕ) → from % size_bytes size ≡ 0 → from % 8 + size_bytes size ≤ 8
inside_word U8 from h = omega arith
inside_word U16 from h = omega arith
inside_word U32 from h = omega arith
inside_word U64 from h = omega arith

stored_eight : (size : Size) (from : ℕ) (kind : Kind) (word : StackWord) → length (bytes_of_word word) ≡ 8 → from + size_bytes size ≤ 8 →
    length (bytes_of_word (word_stored size from kind word)) ≡ 8
stored_eight U8 from kind word h inside = set_eight (bytes_of_word word) from 1 h inside
stored_eight U16 from kind word h inside = set_eight (bytes_of_word word) from 2 h inside
stored_eight U32 from kind word h inside = set_eight (bytes_of_word word) from 4 h inside
stored_eight U64 from kind word h inside = kind_eight kind

-- ---- states

opening_shaped : (version : Version) → IsShaped (opening_state version)
opening_shaped version = record {
  eleven = refl;
  words = length-replicate 64 (Bytes no_bytes);
  eight = λ word h. rw (get_or-replicate 64 word (Bytes no_bytes) (Spilled Unset) h) no_eight;
}

join_shaped : (a b : State) → IsShaped a → IsShaped b → IsShaped (join_of a b)
join_shaped a b m n = record {
  eleven = length-zip_with (join_kind a.version) a.registers b.registers (m.eleven ∙ sym n.eleven) ∙ m.eleven;
  words = length-zip_with (join_word a.version) a.stack b.stack (m.words ∙ sym n.words) ∙ m.words;
  eight = λ word h.
      let p : length a.stack ≡ 64 = m.words
      in let q : length b.stack ≡ 64 = n.words
      in rw (at_place (join_word a.version) a.stack b.stack word (Spilled Unset) (Spilled Unset) (Spilled Unset) (omega arith) (omega arith))
      (word_eight a.version (word_of a word) (word_of b word) (m.eight word h) (n.eight word h));
}

kind_shaped : (state : State) (register : Register) (kind : Kind) → IsShaped state → IsShaped (with_kind state register kind)
kind_shaped state register kind s =
    record { eleven = length-set state.registers (register_number register) kind ∙ s.eleven; words = s.words; eight = s.eight }

told_shaped : (fact : Fact) (state : State) → IsShaped state → IsShaped (told fact state)
told_shaped fact state s = record {
  eleven = length-map state.registers (told_kind fact) ∙ s.eleven;
  words = length-map state.stack (told_word fact) ∙ s.words;
  eight = λ word h.
      let p : length state.stack ≡ 64 = s.words
      in rw (get_or-map (told_word fact) state.stack word (Spilled Unset) (Spilled Unset) (omega arith)) (told_eight fact (word_of state word) (s.eight word h));
}

returned_shaped : (answer : Kind) (state : State) → IsShaped state → IsShaped (after_return answer state)
returned_shaped answer state s = record {
  eleven = let l : length (drop 6 state.registers) ≡ length state.registers - 6 = length-drop 6 state.registers
      in let m : length state.registers ≡ 11 = s.eleven in omega arith;
  words = s.words;
  eight = s.eight;
}

word_shaped : (state : State) (place : ℕ) (word : StackWord) → IsShaped state → length (bytes_of_word word) ≡ 8 → IsShaped (with_word state place word)
word_shaped state place word s e = record {
  eleven = s.eleven;
  words = length-set state.stack place word ∙ s.words;
  eight = λ other h.
      let p : length state.stack ≡ 64 = s.words
      in ⊎_elim
      (λ same. rw (get_or-set_at state.stack place other word (Spilled Unset) same (omega arith)) e)
      (λ differs. rw (get_or-set_other state.stack place other word (Spilled Unset) differs) (s.eight other h))
      (cases_eq other place);
}

stack_shaped : (state : State) (size : Size) (from : ℕ) (kind : Kind) → IsShaped state → from / 8 < 64 → from % size_bytes size ≡ 0 →
    IsShaped (stack_stored state size from kind)
stack_shaped state size from kind s low multiple =
    word_shaped state (from / 8) (word_stored size (from % 8) kind (word_of state (from / 8))) s
    (stored_eight size (from % 8) kind (word_of state (from / 8)) (s.eight (from / 8) low) (inside_word size from multiple))

-- ---- checks that leave a state

abbrev Keeps : Checked State → Type 0
Keeps made = (after : State) → made ≡ Ok after → IsShaped after

keeps_ok : (state : State) → IsShaped state → Keeps (Ok state)
keeps_ok state s after e = subst IsShaped (ok_value state after e) s

keeps_err : (why : BrokenRule) → Keeps (Err why)
keeps_err why after e = absurd (err_not_ok why after e)

keeps_then : {A : Type 0} (first : Checked A) (go : A → Checked State) → ((x : A) → first ≡ Ok x → Keeps (go x)) → Keeps (first >>= go)
keeps_then first go k after e = let p = ok_then first go after e in k p.value p.is after p.next

kind_kept : (state : State) (dst : Register) (made : Checked Kind) → IsShaped state → Keeps (made >>= (λ kind. Ok (with_kind state dst kind)))
kind_kept state dst made s = keeps_then made (λ kind. Ok (with_kind state dst kind)) (λ kind e. keeps_ok (with_kind state dst kind) (kind_shaped state dst kind s))

-- ---- stores

range_is : (place : ℤ) (count limit from : ℕ) (why : BrokenRule) → range_within place count limit why ≡ Ok from → from + count ≤ limit
range_is (pos place) count limit from why e =
    let c = ok_if (nat_le (place + count) limit) (Ok place) why from e
    in let same : place ≡ from = ok_value place from c.next
    in let l : place + count ≤ limit = leb-true (place + count) limit c.holds
    in omega arith
range_is (negsuc below) count limit from why e = absurd (err_not_ok why from e)

pub record Lies (size : Size) (from : ℕ) : Type 0 where
  pub low : from / 8 < 64
  pub multiple : from % size_bytes size ≡ 0

some_bytes : (size : Size) → 0 < size_bytes size
some_bytes U8 = omega arith
some_bytes U16 = omega arith
some_bytes U32 = omega arith
some_bytes U64 = omega arith

lies : (place : ℕ) (offset : ℤ) (size : Size) (from : ℕ) → stack_access place offset (size_bytes size) ≡ Ok from → Lies size from
lies place offset size from e =
    let p = ok_then (range_within (pos place +ℤ offset) (size_bytes size) stack_size StackBounds) (λ at. aligned at (size_bytes size)) from e
    in let l : p.value + size_bytes size ≤ 512 = range_is (pos place +ℤ offset) (size_bytes size) stack_size p.value StackBounds p.is
    in let c = ok_if (p.value % size_bytes size == 0) (Ok p.value) Misaligned from p.next
    in let same : p.value ≡ from = ok_value p.value from c.next
    in let m : p.value % size_bytes size ≡ 0 = eqb-true (p.value % size_bytes size) 0 c.holds
    in let some : 0 < size_bytes size = some_bytes size
    in record { low = omega arith; multiple = ap (λ at. at % size_bytes size) (sym same) ∙ m }

store_kept : (maps : List MapDef) (state : State) (size : Size) (target : Kind) (offset : ℤ) (dst : Register) (kind : Kind) → IsShaped state →
    Keeps (stored maps state size target offset dst kind)
store_kept maps state size Ctx offset dst kind s = keeps_err ContextAccess
store_kept maps state size (Stack place) offset dst kind s =
    keeps_then (stack_access place offset (size_bytes size)) (λ from. storable size kind >>= (λ _. Ok (stack_stored state size from kind)))
    (λ from e. let at = lies place offset size from e
    in keeps_then (storable size kind) (λ _. Ok (stack_stored state size from kind))
    (λ _ f. keeps_ok (stack_stored state size from kind) (stack_shaped state size from kind s at.low at.multiple)))
store_kept maps state size (Packet id off range) offset dst kind s =
    keeps_then (packet_access off range offset (size_bytes size)) (λ from. storable_number kind >>= (λ _. Ok state))
    (λ from e. keeps_then (storable_number kind) (λ _. Ok state) (λ _ f. keeps_ok state s))
store_kept maps state size (Value map id off) offset dst kind s =
    keeps_then (value_access maps map off offset (size_bytes size)) (λ from. storable_number kind >>= (λ _. Ok state))
    (λ from e. keeps_then (storable_number kind) (λ _. Ok state) (λ _ f. keeps_ok state s))
store_kept maps state size Unset offset dst kind s = keeps_err (WrongKind dst)
store_kept maps state size (Scalar i) offset dst kind s = keeps_err (WrongKind dst)
store_kept maps state size PacketEnd offset dst kind s = keeps_err (WrongKind dst)
store_kept maps state size (Map map) offset dst kind s = keeps_err (WrongKind dst)
store_kept maps state size (ValueOrNull map id) offset dst kind s = keeps_err (WrongKind dst)

fetched_shaped : (state : State) (register : Option Register) (width : Width) → IsShaped state → IsShaped (with_fetched_kind state register width)
fetched_shaped state None width s = s
fetched_shaped state (Some register) width s = kind_shaped state register (Scalar (full_of (width_bits width))) s

atomic_kept : (maps : List MapDef) (state : State) (width : Width) (op : AtomicOp) (target : Kind) (offset : ℤ) (dst src : Register) → IsShaped state →
    Keeps (checked_atomic maps state width op target offset dst src)
atomic_kept maps state width op Unset offset dst src s = keeps_err (WrongKind dst)
atomic_kept maps state width op (Scalar i) offset dst src s = keeps_err (WrongKind dst)
atomic_kept maps state width op Ctx offset dst src s = keeps_err (WrongKind dst)
atomic_kept maps state width op (Stack place) offset dst src s = keeps_err (WrongKind dst)
atomic_kept maps state width op (Packet id off range) offset dst src s = keeps_err (WrongKind dst)
atomic_kept maps state width op PacketEnd offset dst src s = keeps_err (WrongKind dst)
atomic_kept maps state width op (Map map) offset dst src s = keeps_err (WrongKind dst)
atomic_kept maps state width op (ValueOrNull map id) offset dst src s = keeps_err (WrongKind dst)
atomic_kept maps state width op (Value map id off) offset dst src s =
    keeps_then (atomic_access maps map off offset (size_bytes (width_size width))) (λ from.
    storable_number (kind_of state src) >>= (λ _. expects op (kind_of state R0) >>= (λ _. Ok (with_fetched_kind state (fetched_register op src) width))))
    (λ from e. keeps_then (storable_number (kind_of state src)) (λ _. expects op (kind_of state R0) >>= (λ _. Ok (with_fetched_kind state (fetched_register op src) width)))
    (λ _ f. keeps_then (expects op (kind_of state R0)) (λ _. Ok (with_fetched_kind state (fetched_register op src) width))
    (λ _ g. keeps_ok (with_fetched_kind state (fetched_register op src) width) (fetched_shaped state (fetched_register op src) width s))))

-- ---- calls

call_kept : (maps : List MapDef) (state : State) (slot : ℕ) (helper : Helper) → IsShaped state → Keeps (checked_call maps state slot helper)
call_kept maps state slot MapLookupElem s = keeps_then (key_arguments maps state) (λ map. Ok (after_return (ValueOrNull map slot) state))
    (λ map e. keeps_ok (after_return (ValueOrNull map slot) state) (returned_shaped (ValueOrNull map slot) state s))
call_kept maps state slot MapUpdateElem s = keeps_then (update_arguments maps state) (λ _. Ok (after_return any_number state))
    (λ _ e. keeps_ok (after_return any_number state) (returned_shaped any_number state s))
call_kept maps state slot MapDeleteElem s = keeps_then (key_arguments maps state) (λ _. Ok (after_return any_number state))
    (λ _ e. keeps_ok (after_return any_number state) (returned_shaped any_number state s))
call_kept maps state slot KtimeGetNs s = keeps_ok (after_return any_number state) (returned_shaped any_number state s)
call_kept maps state slot GetSmpProcessorId s = keeps_ok (after_return (Scalar (interval_of 0 7)) state) (returned_shaped (Scalar (interval_of 0 7)) state s)
call_kept maps state slot XdpAdjustHead s = keeps_then (head_arguments state) (λ _. Ok (after_return any_number (told HeadMoved state)))
    (λ _ e. keeps_ok (after_return any_number (told HeadMoved state)) (returned_shaped any_number (told HeadMoved state) (told_shaped HeadMoved state s)))

-- ---- what flows out

refined_shaped : (cut : Option Kind) (fact : Fact) (state : State) (dst : Register) → IsShaped state → IsShaped (refined cut fact state dst)
refined_shaped (Some kind) fact state dst s = kind_shaped state dst kind s
refined_shaped None fact state dst s = told_shaped fact state s

edge_shaped : (state : State) (width : Width) (test : Test) (dst : Register) (source : SourceOperand) (taken : Bool) → IsShaped state →
    IsShaped (refine_state state width test dst source taken)
edge_shaped state width test dst source taken s =
    refined_shaped (number_cut width test taken (kind_of state dst) (source_kind state source)) (fact_of test taken (kind_of state dst) (source_kind state source)) state dst s

falls_shaped : (made : Checked State) (flow : Flow) → Keeps made → falls made ≡ Ok flow → FlowIsShaped flow
falls_shaped (Ok state) flow k e = subst FlowIsShaped (ok_value (Falls state) flow e) (k state refl)
falls_shaped (Err why) flow k e = absurd (err_not_ok why flow e)

unary_kept : (state : State) (dst operand : Register) (change : Interval → Interval) → IsShaped state → Keeps (unary_flow state dst operand change)
unary_kept state dst operand change s =
    keeps_then (operand_of state dst operand) (λ i. Ok (with_kind state dst (Scalar (change i))))
    (λ i e. keeps_ok (with_kind state dst (Scalar (change i))) (kind_shaped state dst (Scalar (change i)) s))

load_kept : (state : State) (dst source : Register) (made : Checked State) → Keeps made → Keeps (load_flow state dst source made)
load_kept state dst source made k =
    keeps_then (writable dst) (λ _. reads state source >>= (λ _. made)) (λ _ e. keeps_then (reads state source) (λ _. made) (λ _ f. k))

splits_shaped : (state : State) (width : Width) (test : Test) (dst : Register) (source : SourceOperand) (flow : Flow) → IsShaped state →
    test_flow state width test dst source ≡ Ok flow → FlowIsShaped flow
splits_shaped state width test dst source flow s e =
    let read = ok_then (reads_both state dst source) (λ _. allowed_test width test (kind_of state dst) (source_kind state source) dst source >>=
    (λ _. Ok (Splits (refine_state state width test dst source true) (refine_state state width test dst source false)))) flow e
    in let allowed = ok_then (allowed_test width test (kind_of state dst) (source_kind state source) dst source)
    (λ _. Ok (Splits (refine_state state width test dst source true) (refine_state state width test dst source false))) flow read.next
    in subst FlowIsShaped (ok_value (Splits (refine_state state width test dst source true) (refine_state state width test dst source false)) flow allowed.next)
    (edge_shaped state width test dst source true s, edge_shaped state width test dst source false s)

end_shaped : (kind : Kind) (flow : Flow) → exit_kind kind ≡ Ok flow → FlowIsShaped flow
end_shaped (Scalar i) flow e = subst FlowIsShaped (ok_value Ends flow e) tt
end_shaped Unset flow e = absurd (err_not_ok PointerLeak flow e)
end_shaped Ctx flow e = absurd (err_not_ok PointerLeak flow e)
end_shaped (Stack place) flow e = absurd (err_not_ok PointerLeak flow e)
end_shaped (Packet id off range) flow e = absurd (err_not_ok PointerLeak flow e)
end_shaped PacketEnd flow e = absurd (err_not_ok PointerLeak flow e)
end_shaped (Map map) flow e = absurd (err_not_ok PointerLeak flow e)
end_shaped (ValueOrNull map id) flow e = absurd (err_not_ok PointerLeak flow e)
end_shaped (Value map id off) flow e = absurd (err_not_ok PointerLeak flow e)

flow_shaped : (maps : List MapDef) (state : State) (slot : ℕ) (insn : Insn) (flow : Flow) → IsShaped state → flow_of maps state slot insn ≡ Ok flow → FlowIsShaped flow
flow_shaped maps state slot (Alu width op dst source) flow s e = falls_shaped (alu_flow maps state slot width op dst source) flow
    (keeps_then (writable dst) (λ _. reads_operands state op dst source >>= (λ _. after_alu_of maps state slot width op dst source))
    (λ _ f. keeps_then (reads_operands state op dst source) (λ _. after_alu_of maps state slot width op dst source)
    (λ _ g. kind_kept state dst (alu_kind maps state.version slot width op (kind_of state dst) (source_kind state source) dst (blamed dst source)) s))) e
flow_shaped maps state slot (Neg width dst) flow s e = falls_shaped (unary_flow state dst dst (neg_of width)) flow (unary_kept state dst dst (neg_of width) s) e
flow_shaped maps state slot (Movsx extension dst src) flow s e =
    falls_shaped (unary_flow state dst src (movsx64_of extension)) flow (unary_kept state dst src (movsx64_of extension) s) e
flow_shaped maps state slot (Movsx32 extension dst src) flow s e =
    falls_shaped (unary_flow state dst src (movsx32_of extension)) flow (unary_kept state dst src (movsx32_of extension) s) e
flow_shaped maps state slot (End order width dst) flow s e =
    falls_shaped (unary_flow state dst dst (swap_of order width)) flow (unary_kept state dst dst (swap_of order width) s) e
flow_shaped maps state slot (Ja distance) flow s e = subst FlowIsShaped (ok_value (Jumps state) flow e) s
flow_shaped maps state slot (Ja32 distance) flow s e = subst FlowIsShaped (ok_value (Jumps state) flow e) s
flow_shaped maps state slot (JumpIf width test dst source distance) flow s e = splits_shaped state width test dst source flow s e
flow_shaped maps state slot (Ldx size dst src offset) flow s e = falls_shaped (load_flow state dst src (load_of maps state size dst src offset)) flow
    (load_kept state dst src (load_of maps state size dst src offset) (kind_kept state dst (loaded_kind maps state size (kind_of state src) offset src) s)) e
flow_shaped maps state slot (Ldxs extension dst src offset) flow s e = falls_shaped (load_flow state dst src (signed_load_of maps state extension dst src offset)) flow
    (load_kept state dst src (signed_load_of maps state extension dst src offset) (kind_kept state dst (signed_loaded maps state extension (kind_of state src) offset src) s)) e
flow_shaped maps state slot (St size dst offset immediate) flow s e = falls_shaped (store_flow maps state size dst offset immediate) flow
    (keeps_then (reads state dst) (λ _. store_of maps state size dst offset (Scalar (constant_of (twos_complement 64 immediate))))
    (λ _ f. store_kept maps state size (kind_of state dst) offset dst (Scalar (constant_of (twos_complement 64 immediate))) s)) e
flow_shaped maps state slot (Stx size dst src offset) flow s e = falls_shaped (store_register_flow maps state size dst src offset) flow
    (keeps_then (reads_both state dst (Reg src)) (λ _. store_of maps state size dst offset (kind_of state src))
    (λ _ f. store_kept maps state size (kind_of state dst) offset dst (kind_of state src) s)) e
flow_shaped maps state slot (AtomicUpdate width op dst src offset) flow s e = falls_shaped (atomic_flow maps state width op dst src offset) flow
    (keeps_then (fetch_writable (fetched_register op src)) (λ _. reads_atomic state op dst src >>= (λ _. atomic_of maps state width op dst src offset))
    (λ _ f. keeps_then (reads_atomic state op dst src) (λ _. atomic_of maps state width op dst src offset)
    (λ _ g. atomic_kept maps state width op (kind_of state dst) offset dst src s))) e
flow_shaped maps state slot (Lddw dst value) flow s e = falls_shaped (number_flow state dst value) flow
    (keeps_then (writable dst) (λ _. Ok (with_kind state dst (Scalar (constant_of value))))
    (λ _ f. keeps_ok (with_kind state dst (Scalar (constant_of value))) (kind_shaped state dst (Scalar (constant_of value)) s))) e
flow_shaped maps state slot (Ldmap dst map) flow s e = falls_shaped (map_flow maps state dst map) flow
    (keeps_then (writable dst) (λ _. known_map maps map >>= (λ kind. Ok (with_kind state dst kind))) (λ _ f. kind_kept state dst (known_map maps map) s)) e
flow_shaped maps state slot (Ldval dst map offset) flow s e = falls_shaped (address_flow maps state slot dst map offset) flow
    (keeps_then (writable dst) (λ _. checked_value_address maps slot map offset >>= (λ kind. Ok (with_kind state dst kind)))
    (λ _ f. kind_kept state dst (checked_value_address maps slot map offset) s)) e
flow_shaped maps state slot (CallHelper number) flow s e = falls_shaped (call_flow maps state slot number) flow
    (keeps_then (helper_at number) (λ helper. reads_arguments state helper >>= (λ _. checked_call maps state slot helper))
    (λ helper f. keeps_then (reads_arguments state helper) (λ _. checked_call maps state slot helper) (λ _ g. call_kept maps state slot helper s))) e
flow_shaped maps state slot Exit flow s e =
    let read = ok_then (reads state R0) (λ _. exit_kind (kind_of state R0)) flow e in end_shaped (kind_of state R0) flow read.next

pub states_shaped : StatesAreShaped
states_shaped = record { opening = opening_shaped; joined = join_shaped; flowed = flow_shaped }
