-- What runs of a program that only reads ask of maps, and what maps in which nothing has happened answer.
use Rattle.std.specs.Prelude.{◌≡◌, ℕ, zero, suc, ◌<◌, ◌^◌, Bool, true, false, List, [], IsTrue}
use Rattle.std.specs.List.{AllByRecursion}
use Rattle.ebpf_decode.specs.declared.insn.Insn.{Insn}
use Rattle.ebpf_decode.specs.declared.map.MapDef.{MapDef}
use Rattle.semantics.specs.declared.call.Call.{Call}
use Rattle.semantics.specs.declared.call.Call.TheVariants.{Enter, Leave, Lookup, Load, Reclaim}
use Rattle.semantics.specs.declared.call.Reply.{Reply}
use Rattle.semantics.specs.declared.call.Entry.{Entry}
use Rattle.semantics.specs.declared.plan.ShardPlan.{ShardPlan}
use Rattle.semantics.specs.MachineState.{MachineState, initial_state}
use Rattle.semantics.specs.Program.{Program}
use Rattle.semantics.specs.History.{IsLegalHistory}
use Rattle.semantics.specs.RunTrace.{RunStand, HasExited, HasTrapped, GoesOn, trace_of, AreReplies}
use Rattle.semantics.specs.SequentialShard.{opening_shard, shard_after, reply_of}
use Rattle.semantics.specs.Semantics.{next_step}
use Rattle.semantics.specs.Step.{Step, Continues, CallsMap, Exits, Traps}
use Rattle.semantics.specs.System.{IsInputFrame, input_frame}

-- ---- calls

-- a lookup or a load
abbrev pub is_read : Call → Bool
is_read (Lookup shard key) = true
is_read (Load cell offset size) = true
is_read call = false

abbrev pub AreReads : List Call → Type 0
AreReads calls = AllByRecursion (λ (call : Call). IsTrue (is_read call)) calls

-- on whichever frame and with whichever replies, a run asks for nothing but lookups and loads
abbrev pub OnlyReads : List MapDef → List Insn → Type 0
OnlyReads maps code =
    (shards count : ℕ) (frame : List ℕ) (worker now : ℕ) (replies : List Reply) → IsInputFrame frame → worker < 8 → now < 2 ^ 64 →
    (let program : Program = record { code = code; maps = maps; shards = shards } in
    AreReplies program (trace_of count program (initial_state (input_frame frame) worker now) replies).calls replies →
    AreReads (trace_of count program (initial_state (input_frame frame) worker now) replies).calls)

-- ---- histories

-- a call that leaves a shard as it was opened: of one that frees cells, since none was retired
abbrev pub is_quiet : Call → Bool
is_quiet (Enter shard) = true
is_quiet (Leave shard) = true
is_quiet (Reclaim shard) = true
is_quiet call = is_read call

abbrev pub AreQuiet : List Entry → Type 0
AreQuiet history = AllByRecursion (λ (entry : Entry). IsTrue (is_quiet entry.call)) history

-- what a shard answers as it was opened
abbrev pub opening_reply : ShardPlan → Call → Reply
opening_reply plan call = reply_of plan [] (opening_shard plan) call

-- the entry's reply is that of the shard as it was opened, if it reads
abbrev pub IsReadAtOpening : ShardPlan → Entry → Type 0
IsReadAtOpening plan entry = IsTrue (is_read entry.call) → entry.reply ≡ opening_reply plan entry.call

-- a shard that saw no other call is as it was opened, and each entry of its legal history that reads has the reply that it would have there
abbrev pub QuietShardsAreAsOpened : Type 0
QuietShardsAreAsOpened =
    (plan : ShardPlan) (history : List Entry) → IsLegalHistory plan history → AreQuiet history →
    (shard_after plan history ≡ opening_shard plan) × AllByRecursion (IsReadAtOpening plan) history

-- ---- runs

-- how a run goes on after one step, where each call is given the answer that this function has for it
abbrev pub after_step : (MachineState → RunStand) → (Call → Reply) → Step → RunStand
after_step rest answer (Continues next) = rest next
after_step rest answer (CallsMap call next) = rest (next (answer call))
after_step rest answer (Exits verdict last) = HasExited verdict last
after_step rest answer (Traps cause) = HasTrapped cause

-- after at most N instructions
abbrev pub stand_with : ℕ → Program → (Call → Reply) → MachineState → RunStand
stand_with zero program answer state = GoesOn
stand_with (suc count) program answer state = after_step (stand_with count program answer) answer (next_step program state)
