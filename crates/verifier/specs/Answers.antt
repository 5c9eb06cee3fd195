-- There is one answer to a program; of an accepted one each instruction has an entry state, and it is safe.
use Rattle.std.specs.Prelude.{◌≡◌, ◌≢◌, ℕ, ◌<◌, List, Option, Some, None, IsSome}
use Rattle.ebpf_decode.specs.declared.insn.Insn.{Insn}
use Rattle.ebpf_decode.specs.declared.map.MapDef.{MapDef}
use Rattle.ebpf_decode.specs.declared.version.Version.{Version}
use Rattle.ebpf_decode.specs.ImageContents.{IsEncodable}
use Rattle.ebpf_decode.specs.Jumps.{jump_distance}
use Rattle.semantics.specs.Program.{instruction_at}
use Rattle.semantics.specs.Safety.{IsSafeImage}
use Rattle.abstract_state.specs.declared.broken_rule.BrokenRule.{BrokenRule}
use Rattle.abstract_state.specs.declared.state.State.{State}
use Rattle.verifier.specs.declared.reject.Reject.{Reject}
use Rattle.verifier.specs.declared.reject.Reject.TheVariants.{Memory}
use Rattle.verifier.specs.Dataflow.{known_at, Accepts, IsFirstBroken, IsFirstReject}
use Rattle.verifier.specs.Rejects.{reject_of_rule}

-- a program that some entry states let through can be rejected only for lack of memory
abbrev pub HasOneAnswer : Type 0
HasOneAnswer =
    (version : Version) (maps : List MapDef) (code : List Insn) (states : List (Option State)) (reject : Reject) →
    Accepts version maps code states → IsFirstReject version maps code reject →
    reject ≡ Memory

-- a refused program has one first reject, unless memory is refused
abbrev pub FirstRejectIsOne : Type 0
FirstRejectIsOne =
    (version : Version) (maps : List MapDef) (code : List Insn) (one other : Reject) →
    IsFirstReject version maps code one → IsFirstReject version maps code other →
    one ≢ Memory → other ≢ Memory → one ≡ other

-- a rule that is broken before the first jump is returned, whatever memory there is
abbrev pub RuleBeforeJumpsIsTold : Type 0
RuleBeforeJumpsIsTold =
    (version : Version) (maps : List MapDef) (code : List Insn) (slot : ℕ) (why : BrokenRule) (reject : Reject) →
    IsFirstBroken version maps code slot why →
    ((before : ℕ) (insn : Insn) → before < slot → instruction_at code before ≡ Some insn → jump_distance insn ≡ None) →
    IsFirstReject version maps code reject → reject ≡ reject_of_rule slot why

-- at each slot at which an instruction begins something is known: so what is said of the instructions with an entry state is said of all
abbrev pub EachInstructionHasState : Type 0
EachInstructionHasState =
    (version : Version) (maps : List MapDef) (code : List Insn) (states : List (Option State)) (slot : ℕ) (insn : Insn) →
    Accepts version maps code states →
    instruction_at code slot ≡ Some insn → IsSome (known_at states slot)

-- a program of an image, of any version and over maps of any kind, that some entry states let through is safe
abbrev pub AcceptedIsSafe : Type 0
AcceptedIsSafe =
    (version : Version) (maps : List MapDef) (code : List Insn) (states : List (Option State)) →
    IsEncodable version maps code → Accepts version maps code states →
    IsSafeImage maps code
