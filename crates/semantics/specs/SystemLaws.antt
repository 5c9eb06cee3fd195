-- Whatever happens around a safe image, each shard has one legal history.
use Rattle.std.specs.Prelude.{◌≡◌, ℕ, List, Some}
use Rattle.ebpf_decode.specs.declared.insn.Insn.{Insn}
use Rattle.ebpf_decode.specs.declared.map.MapDef.{MapDef}
use Rattle.semantics.specs.declared.options.Options.{Options}
use Rattle.semantics.specs.ShardPlan.{ShardPlan, plan_at, AreOptions}
use Rattle.semantics.specs.History.{IsLegalHistory}
use Rattle.semantics.specs.System.{Setting, SystemEvent, CanAllHappen, system_after, history_of}
use Rattle.semantics.specs.Safety.{IsSafeImage}

abbrev pub ReachedHistoriesAreLegal : Type 0
ReachedHistoriesAreLegal =
    (maps : List MapDef) (code : List Insn) (options : Options) (events : List SystemEvent) →
    IsSafeImage maps code → AreOptions maps options →
    (let setting : Setting = record { maps = maps; code = code; options = options } in
    CanAllHappen setting events → (number : ℕ) (plan : ShardPlan) → plan_at maps options number ≡ Some plan →
    IsLegalHistory plan (history_of (system_after setting events) number))
