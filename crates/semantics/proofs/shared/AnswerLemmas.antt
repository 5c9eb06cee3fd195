-- What updates and deletions answer fits 32 bits.
use Rattle.std.proofs.Common.{ℕ, ◌&&◌, Bool, true, false, ℤ, List, Option, Some, None, arith}
use Rattle.std.specs.Prelude.{FitsSigned, if◌then◌else◌}
use Rattle.std.specs.Int.{w32}
use Rattle.ebpf_decode.specs.declared.map.MapKind.{MapKind}
use Rattle.ebpf_decode.specs.declared.map.MapKind.TheVariants.{Array, Hash, LruHash}
use Rattle.semantics.specs.declared.linux.Errno.{Errno}
use Rattle.semantics.specs.declared.linux.Errno.TheVariants.{NoEntry, TooBig, NoMemory, Exists, Invalid}
use Rattle.semantics.specs.declared.linux.UpdateFlags.{UpdateFlags}
use Rattle.semantics.specs.declared.linux.UpdateFlags.TheVariants.{Any, NoExist, Exist}
use Rattle.semantics.specs.declared.plan.ShardPlan.{ShardPlan}
use Rattle.semantics.specs.Linux.{errno_code, success, update_flags_of}
use Rattle.semantics.specs.SequentialShard.{SequentialShard, cell_of_key, has_free_cell, is_full_of_keys, is_hash, present_key_answer, array_update_answer, new_key_answer}
use Rattle.semantics.specs.SequentialShard.{absent_key_answer, keyed_update_answer, update_answer_of_kind, update_answer_by, update_answer, delete_answer_of_kind, delete_answer}

errno_fits : (errno : Errno) → FitsSigned w32 (errno_code errno)
errno_fits NoEntry = search arith
errno_fits TooBig = search arith
errno_fits NoMemory = search arith
errno_fits Exists = search arith
errno_fits Invalid = search arith

success_fits : FitsSigned w32 success
success_fits = search arith

either_fits : (t : Bool) (a b : ℤ) → FitsSigned w32 a → FitsSigned w32 b → FitsSigned w32 (if t then a else b)
either_fits true a b p q = p
either_fits false a b p q = q

present_key_fits : (flags : UpdateFlags) → FitsSigned w32 (present_key_answer flags)
present_key_fits Any = success_fits
present_key_fits NoExist = errno_fits Exists
present_key_fits Exist = success_fits

new_key_fits : (plan : ShardPlan) (shard : SequentialShard) → FitsSigned w32 (new_key_answer plan shard)
new_key_fits plan shard =
    either_fits (is_hash plan.definition.kind && is_full_of_keys plan shard) (errno_code TooBig)
    (if has_free_cell plan shard then success else errno_code NoMemory) (errno_fits TooBig)
    (either_fits (has_free_cell plan shard) success (errno_code NoMemory) success_fits (errno_fits NoMemory))

absent_fits : (plan : ShardPlan) (shard : SequentialShard) (flags : UpdateFlags) → FitsSigned w32 (absent_key_answer plan shard flags)
absent_fits plan shard Any = new_key_fits plan shard
absent_fits plan shard NoExist = new_key_fits plan shard
absent_fits plan shard Exist = errno_fits NoEntry

keyed_answer_fits : (plan : ShardPlan) (shard : SequentialShard) (flags : UpdateFlags) (cell : Option ℕ) →
    FitsSigned w32 (keyed_update_answer plan shard flags cell)
keyed_answer_fits plan shard flags (Some cell) = present_key_fits flags
keyed_answer_fits plan shard flags None = absent_fits plan shard flags

array_fits : (flags : UpdateFlags) (cell : Option ℕ) → FitsSigned w32 (array_update_answer flags cell)
array_fits flags None = errno_fits TooBig
array_fits flags (Some cell) = present_key_fits flags

update_of_kind_fits : (kind : MapKind) (plan : ShardPlan) (shard : SequentialShard) (flags : UpdateFlags) (cell : Option ℕ) →
    FitsSigned w32 (update_answer_of_kind kind plan shard flags cell)
update_of_kind_fits Array plan shard flags cell = array_fits flags cell
update_of_kind_fits Hash plan shard flags cell = keyed_answer_fits plan shard flags cell
update_of_kind_fits LruHash plan shard flags cell = keyed_answer_fits plan shard flags cell

update_by_fits : (kind : MapKind) (plan : ShardPlan) (shard : SequentialShard) (flags : Option UpdateFlags) (cell : Option ℕ) →
    FitsSigned w32 (update_answer_by kind plan shard flags cell)
update_by_fits kind plan shard None cell = errno_fits Invalid
update_by_fits kind plan shard (Some flags) cell = update_of_kind_fits kind plan shard flags cell

pub update_fits : (plan : ShardPlan) (shard : SequentialShard) (key : List ℕ) (flags : ℕ) → FitsSigned w32 (update_answer plan shard key flags)
update_fits plan shard key flags = update_by_fits plan.definition.kind plan shard (update_flags_of flags) (cell_of_key plan shard key)

deletion_fits : (kind : MapKind) (cell : Option ℕ) → FitsSigned w32 (delete_answer_of_kind kind cell)
deletion_fits Array cell = errno_fits Invalid
deletion_fits Hash (Some cell) = success_fits
deletion_fits Hash None = errno_fits NoEntry
deletion_fits LruHash (Some cell) = success_fits
deletion_fits LruHash None = errno_fits NoEntry

pub delete_fits : (plan : ShardPlan) (shard : SequentialShard) (key : List ℕ) → FitsSigned w32 (delete_answer plan shard key)
delete_fits plan shard key = deletion_fits plan.definition.kind (cell_of_key plan shard key)
