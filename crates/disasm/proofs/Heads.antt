-- Every first word is found again by its name.
use Rattle.std.proofs.Common.{◌≡◌, ℕ, List, Option, Some, refl, bytes_eq, true}
use Rattle.std.specs.List.{find}
use Rattle.isa.specs.declared.operation.Width.TheVariants.{Bits32, Bits64}
use Rattle.isa.specs.declared.operation.AluOp.TheVariants.{Add, Sub, Mul, Div, Sdiv, Or, And, Lsh, Rsh, Mod, Smod, Xor, Mov, Arsh}
use Rattle.isa.specs.declared.operation.Extension.TheVariants.{I8, I16, I32}
use Rattle.isa.specs.declared.operation.ShortExtension.TheVariants.{Short8, Short16}
use Rattle.isa.specs.declared.operation.ByteOrder.TheVariants.{ToLittle, ToBig, Swapped}
use Rattle.isa.specs.declared.operation.SwapWidth.TheVariants.{Swap16, Swap32, Swap64}
use Rattle.isa.specs.declared.operation.Test.TheVariants.{Eq, Gt, Ge, Set, Ne, Sgt, Sge, Lt, Le, Slt, Sle}
use Rattle.isa.specs.declared.operation.AtomicOp.TheVariants.{AtomicAdd, AtomicOr, AtomicAnd, AtomicXor, FetchAdd, FetchOr, FetchAnd, FetchXor, Exchange, CompareExchange}
use Rattle.isa.specs.declared.operation.Size.TheVariants.{U8, U16, U32, U64}
use Rattle.disasm.specs.declared.head.Head.{Head}
use Rattle.disasm.specs.declared.head.Head.TheVariants.{Alu, Neg, Movsx, Movsx32, End, Ja, Ja32, JumpIf, Ldx, Ldxs, St, Stx, Atomic, Lddw, Ldmap, Ldval, Call, Exit}
use Rattle.disasm.specs.declared.head.TheConstants.{HEADS}
use Rattle.disasm.specs.Names.{head_name}
use Rattle.text_lines.proofs.shared.ByteLemmas.{all_bytes}
use Rattle.disasm.proofs.shared.Bytes.{word_byte}

abbrev pub by_name : List ℕ → Option Head
by_name name = find (λ head. bytes_eq (head_name head) name) HEADS

pub named_again : (head : Head) → by_name (head_name head) ≡ Some head
unfolding head_name
named_again (Alu Bits64 Add) = refl
named_again (Alu Bits64 Sub) = refl
named_again (Alu Bits64 Mul) = refl
named_again (Alu Bits64 Div) = refl
named_again (Alu Bits64 Sdiv) = refl
named_again (Alu Bits64 Or) = refl
named_again (Alu Bits64 And) = refl
named_again (Alu Bits64 Lsh) = refl
named_again (Alu Bits64 Rsh) = refl
named_again (Alu Bits64 Mod) = refl
named_again (Alu Bits64 Smod) = refl
named_again (Alu Bits64 Xor) = refl
named_again (Alu Bits64 Mov) = refl
named_again (Alu Bits64 Arsh) = refl
named_again (Alu Bits32 Add) = refl
named_again (Alu Bits32 Sub) = refl
named_again (Alu Bits32 Mul) = refl
named_again (Alu Bits32 Div) = refl
named_again (Alu Bits32 Sdiv) = refl
named_again (Alu Bits32 Or) = refl
named_again (Alu Bits32 And) = refl
named_again (Alu Bits32 Lsh) = refl
named_again (Alu Bits32 Rsh) = refl
named_again (Alu Bits32 Mod) = refl
named_again (Alu Bits32 Smod) = refl
named_again (Alu Bits32 Xor) = refl
named_again (Alu Bits32 Mov) = refl
named_again (Alu Bits32 Arsh) = refl
named_again (Neg Bits64) = refl
named_again (Neg Bits32) = refl
named_again (Movsx I8) = refl
named_again (Movsx I16) = refl
named_again (Movsx I32) = refl
named_again (Movsx32 Short8) = refl
named_again (Movsx32 Short16) = refl
named_again (End ToLittle Swap16) = refl
named_again (End ToLittle Swap32) = refl
named_again (End ToLittle Swap64) = refl
named_again (End ToBig Swap16) = refl
named_again (End ToBig Swap32) = refl
named_again (End ToBig Swap64) = refl
named_again (End Swapped Swap16) = refl
named_again (End Swapped Swap32) = refl
named_again (End Swapped Swap64) = refl
named_again Ja = refl
named_again Ja32 = refl
named_again (JumpIf Bits64 Eq) = refl
named_again (JumpIf Bits64 Gt) = refl
named_again (JumpIf Bits64 Ge) = refl
named_again (JumpIf Bits64 Set) = refl
named_again (JumpIf Bits64 Ne) = refl
named_again (JumpIf Bits64 Sgt) = refl
named_again (JumpIf Bits64 Sge) = refl
named_again (JumpIf Bits64 Lt) = refl
named_again (JumpIf Bits64 Le) = refl
named_again (JumpIf Bits64 Slt) = refl
named_again (JumpIf Bits64 Sle) = refl
named_again (JumpIf Bits32 Eq) = refl
named_again (JumpIf Bits32 Gt) = refl
named_again (JumpIf Bits32 Ge) = refl
named_again (JumpIf Bits32 Set) = refl
named_again (JumpIf Bits32 Ne) = refl
named_again (JumpIf Bits32 Sgt) = refl
named_again (JumpIf Bits32 Sge) = refl
named_again (JumpIf Bits32 Lt) = refl
named_again (JumpIf Bits32 Le) = refl
named_again (JumpIf Bits32 Slt) = refl
named_again (JumpIf Bits32 Sle) = refl
named_again (Ldx U32) = refl
named_again (Ldx U16) = refl
named_again (Ldx U8) = refl
named_again (Ldx U64) = refl
named_again (Ldxs I8) = refl
named_again (Ldxs I16) = refl
named_again (Ldxs I32) = refl
named_again (St U32) = refl
named_again (St U16) = refl
named_again (St U8) = refl
named_again (St U64) = refl
named_again (Stx U32) = refl
named_again (Stx U16) = refl
named_again (Stx U8) = refl
named_again (Stx U64) = refl
named_again (Atomic Bits64 AtomicAdd) = refl
named_again (Atomic Bits64 AtomicOr) = refl
named_again (Atomic Bits64 AtomicAnd) = refl
named_again (Atomic Bits64 AtomicXor) = refl
named_again (Atomic Bits64 FetchAdd) = refl
named_again (Atomic Bits64 FetchOr) = refl
named_again (Atomic Bits64 FetchAnd) = refl
named_again (Atomic Bits64 FetchXor) = refl
named_again (Atomic Bits64 Exchange) = refl
named_again (Atomic Bits64 CompareExchange) = refl
named_again (Atomic Bits32 AtomicAdd) = refl
named_again (Atomic Bits32 AtomicOr) = refl
named_again (Atomic Bits32 AtomicAnd) = refl
named_again (Atomic Bits32 AtomicXor) = refl
named_again (Atomic Bits32 FetchAdd) = refl
named_again (Atomic Bits32 FetchOr) = refl
named_again (Atomic Bits32 FetchAnd) = refl
named_again (Atomic Bits32 FetchXor) = refl
named_again (Atomic Bits32 Exchange) = refl
named_again (Atomic Bits32 CompareExchange) = refl
named_again Lddw = refl
named_again Ldmap = refl
named_again Ldval = refl
named_again Call = refl
named_again Exit = refl

pub head_word : (head : Head) → all_bytes (word_byte 128) (head_name head) ≡ true
unfolding head_name
head_word (Alu Bits64 Add) = refl
head_word (Alu Bits64 Sub) = refl
head_word (Alu Bits64 Mul) = refl
head_word (Alu Bits64 Div) = refl
head_word (Alu Bits64 Sdiv) = refl
head_word (Alu Bits64 Or) = refl
head_word (Alu Bits64 And) = refl
head_word (Alu Bits64 Lsh) = refl
head_word (Alu Bits64 Rsh) = refl
head_word (Alu Bits64 Mod) = refl
head_word (Alu Bits64 Smod) = refl
head_word (Alu Bits64 Xor) = refl
head_word (Alu Bits64 Mov) = refl
head_word (Alu Bits64 Arsh) = refl
head_word (Alu Bits32 Add) = refl
head_word (Alu Bits32 Sub) = refl
head_word (Alu Bits32 Mul) = refl
head_word (Alu Bits32 Div) = refl
head_word (Alu Bits32 Sdiv) = refl
head_word (Alu Bits32 Or) = refl
head_word (Alu Bits32 And) = refl
head_word (Alu Bits32 Lsh) = refl
head_word (Alu Bits32 Rsh) = refl
head_word (Alu Bits32 Mod) = refl
head_word (Alu Bits32 Smod) = refl
head_word (Alu Bits32 Xor) = refl
head_word (Alu Bits32 Mov) = refl
head_word (Alu Bits32 Arsh) = refl
head_word (Neg Bits64) = refl
head_word (Neg Bits32) = refl
head_word (Movsx I8) = refl
head_word (Movsx I16) = refl
head_word (Movsx I32) = refl
head_word (Movsx32 Short8) = refl
head_word (Movsx32 Short16) = refl
head_word (End ToLittle Swap16) = refl
head_word (End ToLittle Swap32) = refl
head_word (End ToLittle Swap64) = refl
head_word (End ToBig Swap16) = refl
head_word (End ToBig Swap32) = refl
head_word (End ToBig Swap64) = refl
head_word (End Swapped Swap16) = refl
head_word (End Swapped Swap32) = refl
head_word (End Swapped Swap64) = refl
head_word Ja = refl
head_word Ja32 = refl
head_word (JumpIf Bits64 Eq) = refl
head_word (JumpIf Bits64 Gt) = refl
head_word (JumpIf Bits64 Ge) = refl
head_word (JumpIf Bits64 Set) = refl
head_word (JumpIf Bits64 Ne) = refl
head_word (JumpIf Bits64 Sgt) = refl
head_word (JumpIf Bits64 Sge) = refl
head_word (JumpIf Bits64 Lt) = refl
head_word (JumpIf Bits64 Le) = refl
head_word (JumpIf Bits64 Slt) = refl
head_word (JumpIf Bits64 Sle) = refl
head_word (JumpIf Bits32 Eq) = refl
head_word (JumpIf Bits32 Gt) = refl
head_word (JumpIf Bits32 Ge) = refl
head_word (JumpIf Bits32 Set) = refl
head_word (JumpIf Bits32 Ne) = refl
head_word (JumpIf Bits32 Sgt) = refl
head_word (JumpIf Bits32 Sge) = refl
head_word (JumpIf Bits32 Lt) = refl
head_word (JumpIf Bits32 Le) = refl
head_word (JumpIf Bits32 Slt) = refl
head_word (JumpIf Bits32 Sle) = refl
head_word (Ldx U32) = refl
head_word (Ldx U16) = refl
head_word (Ldx U8) = refl
head_word (Ldx U64) = refl
head_word (Ldxs I8) = refl
head_word (Ldxs I16) = refl
head_word (Ldxs I32) = refl
head_word (St U32) = refl
head_word (St U16) = refl
head_word (St U8) = refl
head_word (St U64) = refl
head_word (Stx U32) = refl
head_word (Stx U16) = refl
head_word (Stx U8) = refl
head_word (Stx U64) = refl
head_word (Atomic Bits64 AtomicAdd) = refl
head_word (Atomic Bits64 AtomicOr) = refl
head_word (Atomic Bits64 AtomicAnd) = refl
head_word (Atomic Bits64 AtomicXor) = refl
head_word (Atomic Bits64 FetchAdd) = refl
head_word (Atomic Bits64 FetchOr) = refl
head_word (Atomic Bits64 FetchAnd) = refl
head_word (Atomic Bits64 FetchXor) = refl
head_word (Atomic Bits64 Exchange) = refl
head_word (Atomic Bits64 CompareExchange) = refl
head_word (Atomic Bits32 AtomicAdd) = refl
head_word (Atomic Bits32 AtomicOr) = refl
head_word (Atomic Bits32 AtomicAnd) = refl
head_word (Atomic Bits32 AtomicXor) = refl
head_word (Atomic Bits32 FetchAdd) = refl
head_word (Atomic Bits32 FetchOr) = refl
head_word (Atomic Bits32 FetchAnd) = refl
head_word (Atomic Bits32 FetchXor) = refl
head_word (Atomic Bits32 Exchange) = refl
head_word (Atomic Bits32 CompareExchange) = refl
head_word Lddw = refl
head_word Ldmap = refl
head_word Ldval = refl
head_word Call = refl
head_word Exit = refl
