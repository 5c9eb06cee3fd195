-- What an arithmetic operation makes of kinds represents what it makes of the values.
use Rattle.std.proofs.Common.{◌≡◌, ℕ, ◌+◌, ◌*◌, ◌<◌, ◌≤◌, ◌^◌, inl, inr, pos, Ok, Err, refl, sym, ◌∙◌, ap, subst, arith}
use Rattle.isa.specs.Alu.{alu_value}
use Rattle.isa.proofs.shared.Bounds.{alu_value-fits}
use Rattle.isa.specs.declared.operation.Width.{Width}
use Rattle.isa.specs.declared.operation.Width.TheVariants.{Bits32, Bits64}
use Rattle.isa.specs.declared.operation.AluOp.{AluOp}
use Rattle.isa.specs.declared.operation.AluOp.TheVariants.{Mov}
use Rattle.isa.specs.declared.operation.Register.{Register}
use Rattle.semantics.specs.RegisterValue.{RegisterValue, Number, ContextPointer, StackPointer, PacketPointer, MapPointer, CellPointer}
use Rattle.semantics.specs.RegisterValue as meaning
use Rattle.semantics.specs.Step.{Outcome}
use Rattle.semantics.specs.Arithmetic.{changed_number, moved_value, combined_value, alu_outcome}
use Rattle.abstract_scalar.specs.declared.interval.Interval.{Interval}
use Rattle.abstract_scalar.specs.Intervals.{Covers}
use Rattle.abstract_scalar.specs.Transfer.{transfer_of}
use Rattle.abstract_scalar.proofs.shared.Soundness.{transfer_covers}
use Rattle.ebpf_decode.specs.declared.version.Version.{Version}
use Rattle.abstract_state.specs.declared.kind.Kind.{Kind}
use Rattle.abstract_state.specs.declared.kind.Kind.TheVariants.{Unset, Scalar, Ctx, Stack, Packet, PacketEnd, Map, ValueOrNull, Value}
use Rattle.abstract_state.specs.declared.broken_rule.BrokenRule.TheVariants.{WrongKind, UnsetRegister}
use Rattle.abstract_state.specs.States.{Checked}
use Rattle.abstract_state.specs.Arithmetic.{number_kind, moved_kind, combined_kind, alu_kind}
use Rattle.abstract_state.specs.Flow.{check_set}
use Rattle.abstract_state.specs.Abstraction.{KindScope, KindCovers, IsNumberIn}
use Rattle.abstract_state.proofs.shared.Inverting.{err_not_ok, ok_value}
use Rattle.abstract_state.proofs.shared.Following.{Gives, gives}
use Rattle.abstract_state.proofs.Pointers.{SmallValues, pointer_combined}

-- where an instruction is: the setting at it, and the slot where the run goes on
pub record Stands (s : KindScope) (slot : ℕ) : Type 0 where
  pub later : s.slot < slot
  pub bases : (id : ℕ) → s.ids.base id ≤ 131070 * id

-- a value that is made of values with the ids as they are
made : (s : KindScope) (slot : ℕ) (new kind : Kind) (outcome : Outcome RegisterValue) (value : RegisterValue) → Stands s slot →
    ◌≡◌ {A = Checked Kind} (Ok new) (Ok kind) → outcome ≡ Ok value → KindCovers s new value → Gives s slot kind outcome
made s slot new kind outcome value st e is covered =
    subst (λ k. Gives s slot k outcome) (ok_value new kind e)
    (let later : s.slot < slot = st.later in gives s slot new outcome value (omega arith) st.bases is covered)

-- ---- numbers

-- a change of a number
pub number_changed : (s : KindScope) (slot : ℕ) (i : Interval) (v : RegisterValue) (change : Interval → Interval) (meaning : ℕ → ℕ) → Stands s slot →
    ((n : ℕ) → n < 2 ^ 64 → Covers i n → Covers (change i) (meaning n)) → ((n : ℕ) → n < 2 ^ 64 → meaning n < 2 ^ 64) →
    IsNumberIn i v → Gives s slot (Scalar (change i)) (changed_number v meaning)
number_changed s slot i v change meaning st sound fits c =
    let later : s.slot < slot = st.later
    in gives s slot (Scalar (change i)) (changed_number v meaning) (Number (meaning c.number)) (omega arith) st.bases
    (ap (λ x. changed_number x meaning) c.is)
    (record { number = meaning c.number; is = refl; within = sound c.number c.word c.within; word = fits c.number c.word })

-- two numbers
numbers_by : (s : KindScope) (slot : ℕ) (width : Width) (op : AluOp) (i j : Interval) (u v : RegisterValue) → Stands s slot →
    IsNumberIn i u → IsNumberIn j v → Gives s slot (Scalar (transfer_of width op i j)) (combined_value width op u v)
numbers_by s slot width op i j u v st c d =
    subst (λ x. Gives s slot (Scalar (transfer_of width op i j)) (combined_value width op x v)) (sym c.is)
    (number_changed s slot j v (transfer_of width op i) (λ b. alu_value width op c.number b) st
    (λ n h covers. transfer_covers width op i j c.number n c.word h c.within covers)
    (λ n h. alu_value-fits width op c.number n c.word h) d)

numbers_combined : (s : KindScope) (slot : ℕ) (width : Width) (op : AluOp) (i : Interval) (other : Kind) (u v : RegisterValue) (source : Register) (kind : Kind) →
    Stands s slot → IsNumberIn i u → KindCovers s other v → number_kind other source (transfer_of width op i) ≡ Ok kind →
    Gives s slot kind (combined_value width op u v)
numbers_combined s slot width op i (Scalar j) u v source kind st c d e =
    subst (λ k. Gives s slot k (combined_value width op u v)) (ok_value (Scalar (transfer_of width op i j)) kind e)
    (numbers_by s slot width op i j u v st c d)
numbers_combined s slot width op i Unset u v source kind st c d e = absurd (err_not_ok (WrongKind source) kind e)
numbers_combined s slot width op i Ctx u v source kind st c d e = absurd (err_not_ok (WrongKind source) kind e)
numbers_combined s slot width op i (Stack place) u v source kind st c d e = absurd (err_not_ok (WrongKind source) kind e)
numbers_combined s slot width op i (Packet id off range) u v source kind st c d e = absurd (err_not_ok (WrongKind source) kind e)
numbers_combined s slot width op i PacketEnd u v source kind st c d e = absurd (err_not_ok (WrongKind source) kind e)
numbers_combined s slot width op i (Map map) u v source kind st c d e = absurd (err_not_ok (WrongKind source) kind e)
numbers_combined s slot width op i (ValueOrNull map id) u v source kind st c d e = absurd (err_not_ok (WrongKind source) kind e)
numbers_combined s slot width op i (Value map id off) u v source kind st c d e = absurd (err_not_ok (WrongKind source) kind e)

-- ---- moves

-- a move of 64 bits leaves each value as it is that is set
copied : (u c : RegisterValue) → u ≡ c → moved_value Bits64 c ≡ Ok c → moved_value Bits64 u ≡ Ok u
copied u c e h = subst (λ x. moved_value Bits64 x ≡ Ok x) (sym e) h

number_moved : (s : KindScope) (slot : ℕ) (width : Width) (i : Interval) (v : RegisterValue) (kind : Kind) → Stands s slot → IsNumberIn i v →
    ◌≡◌ {A = Checked Kind} (Ok (Scalar (transfer_of width Mov i i))) (Ok kind) → Gives s slot kind (moved_value width v)
number_moved s slot width i v kind st c e =
    made s slot (Scalar (transfer_of width Mov i i)) kind (moved_value width v) (Number (alu_value width Mov 0 c.number)) st e
    (ap (moved_value width) c.is)
    (record {
      number = alu_value width Mov 0 c.number;
      is = refl;
      within = transfer_covers width Mov i i c.number c.number c.word c.word c.within c.within;
      word = alu_value-fits width Mov c.number c.number c.word c.word;
    })

looked_up_moved : (s : KindScope) (map id : ℕ) (v : RegisterValue) → KindCovers s (ValueOrNull map id) v → moved_value Bits64 v ≡ Ok v
looked_up_moved s map id v (inl c) = copied v (Number 0) c.is refl
looked_up_moved s map id v (inr c) = copied v (CellPointer map c.cell.shard c.cell.id (pos c.at)) c.is refl

-- what is set and no number is copied by a move of 64 bits alone
pointer_moved : (s : KindScope) (slot : ℕ) (width : Width) (old kind : Kind) (v : RegisterValue) (source : Register) → Stands s slot → KindCovers s old v →
    moved_value Bits64 v ≡ Ok v → (moved_kind Bits64 old source ≡ Ok old) → (moved_kind Bits32 old source ≡ Err (WrongKind source)) →
    moved_kind width old source ≡ Ok kind → Gives s slot kind (moved_value width v)
pointer_moved s slot Bits64 old kind v source st c same stays not e = made s slot old kind (moved_value Bits64 v) v st (sym stays ∙ e) same c
pointer_moved s slot Bits32 old kind v source st c same stays not e = absurd (err_not_ok (WrongKind source) kind (sym not ∙ e))

moved : (s : KindScope) (slot : ℕ) (width : Width) (second kind : Kind) (v : RegisterValue) (source : Register) → Stands s slot →
    check_set second source ≡ Ok tt → KindCovers s second v → moved_kind width second source ≡ Ok kind → Gives s slot kind (moved_value width v)
moved s slot width Unset kind v source st set c e = absurd (err_not_ok (UnsetRegister source) tt set)
moved s slot width (Scalar i) kind v source st set c e = number_moved s slot width i v kind st c e
moved s slot width Ctx kind v source st set c e = pointer_moved s slot width Ctx kind v source st c (copied v ContextPointer c refl) refl refl e
moved s slot width (Stack place) kind v source st set c e =
    pointer_moved s slot width (Stack place) kind v source st c (copied v (StackPointer c.at) c.is refl) refl refl e
moved s slot width (Packet id off range) kind v source st set c e =
    pointer_moved s slot width (Packet id off range) kind v source st c
    (copied v (PacketPointer s.generation (pos (s.ids.base id + off))) c.is refl) refl refl e
moved s slot width PacketEnd kind v source st set c e =
    pointer_moved s slot width PacketEnd kind v source st c (copied v (meaning.PacketEnd s.generation) c refl) refl refl e
moved s slot width (Map map) kind v source st set c e =
    pointer_moved s slot width (Map map) kind v source st c (copied v (MapPointer map) c.is refl) refl refl e
moved s slot width (ValueOrNull map id) kind v source st set c e =
    pointer_moved s slot width (ValueOrNull map id) kind v source st c (looked_up_moved s map id v c) refl refl e
moved s slot width (Value map id off) kind v source st set c e =
    pointer_moved s slot width (Value map id off) kind v source st c
    (copied v (CellPointer map c.cell.shard c.cell.id (pos c.at)) c.is refl) refl refl e

-- ---- the table

combined : (s : KindScope) (version : Version) (slot : ℕ) → SmallValues s → (width : Width) (op : AluOp) (first second kind : Kind) (u v : RegisterValue) (dst source : Register) → Stands s slot →
    KindCovers s first u → KindCovers s second v → combined_kind s.maps version s.slot width op first second dst source ≡ Ok kind →
    Gives s slot kind (combined_value width op u v)
combined s version slot small width op Unset second kind u v dst source st c d e = pointer_combined s version slot small width op Unset second u v dst source kind c d st.later st.bases e
combined s version slot small width op (Scalar i) second kind u v dst source st c d e = numbers_combined s slot width op i second u v source kind st c d e
combined s version slot small width op Ctx second kind u v dst source st c d e = pointer_combined s version slot small width op Ctx second u v dst source kind c d st.later st.bases e
combined s version slot small width op (Stack place) second kind u v dst source st c d e = pointer_combined s version slot small width op (Stack place) second u v dst source kind c d st.later st.bases e
combined s version slot small width op (Packet id off range) second kind u v dst source st c d e = pointer_combined s version slot small width op (Packet id off range) second u v dst source kind c d st.later st.bases e
combined s version slot small width op PacketEnd second kind u v dst source st c d e = pointer_combined s version slot small width op PacketEnd second u v dst source kind c d st.later st.bases e
combined s version slot small width op (Map map) second kind u v dst source st c d e = pointer_combined s version slot small width op (Map map) second u v dst source kind c d st.later st.bases e
combined s version slot small width op (ValueOrNull map id) second kind u v dst source st c d e = pointer_combined s version slot small width op (ValueOrNull map id) second u v dst source kind c d st.later st.bases e
combined s version slot small width op (Value map id off) second kind u v dst source st c d e = pointer_combined s version slot small width op (Value map id off) second u v dst source kind c d st.later st.bases e

-- any operation on operands that are set
pub operation_gives : (s : KindScope) (version : Version) (slot : ℕ) → SmallValues s → (width : Width) (op : AluOp) (first second kind : Kind) (u v : RegisterValue) (dst source : Register) → Stands s slot →
    check_set second source ≡ Ok tt → KindCovers s first u → KindCovers s second v → alu_kind s.maps version s.slot width op first second dst source ≡ Ok kind →
    Gives s slot kind (alu_outcome width op u v)
operation_gives s version slot small width Mov first second kind u v dst source st set c d e = moved s slot width second kind v source st set d e
operation_gives s version slot small width op first second kind u v dst source st set c d e = combined s version slot small width op first second kind u v dst source st c d e
