-- What is known of a function that changes a state in place: the state after it, where no rule was broken.
use Rattle.std.specs.Prelude.{Bool, true, false, Ok, Err}
use Rattle.ebpf_decode.specs.declared.insn.Insn.{Insn}
use Rattle.ebpf_decode.specs.declared.insn.Insn.TheVariants.{JumpIf}
use Rattle.abstract_state.specs.declared.state.State.{State}
use Rattle.abstract_state.specs.declared.flow.Flow.{Flow}
use Rattle.abstract_state.specs.declared.flow.Flow.TheVariants as flow
use Rattle.abstract_state.specs.declared.flow.Way.{Way}
use Rattle.abstract_state.specs.declared.flow.Way.TheVariants as way
use Rattle.abstract_state.specs.States.{Checked}
use Rattle.abstract_state.specs.Refinement.{refine_state}

-- the state after it, where no rule was broken
abbrev pub kept : {A : Type 0} → Checked A → State → Checked State
kept (Ok a) state = Ok state
kept (Err why) state = Err why

-- what is known on the edge of a conditional jump where it is taken, or where it isn't
abbrev pub edge_state : Insn → State → Bool → State
edge_state (JumpIf width test dst source distance) state taken = refine_state state width test dst source taken
edge_state insn state taken = state

-- what is known on each edge, by where a run goes on and the state after it
abbrev pub flow_by : Insn → Way → State → Flow
flow_by insn way.Ends state = flow.Ends
flow_by insn way.Falls state = flow.Falls state
flow_by insn way.Jumps state = flow.Jumps state
flow_by insn way.Splits state = flow.Splits (edge_state insn state true) (edge_state insn state false)

abbrev pub flow_kept : Insn → Checked Way → State → Checked Flow
flow_kept insn (Ok way) state = Ok (flow_by insn way state)
flow_kept insn (Err why) state = Err why
