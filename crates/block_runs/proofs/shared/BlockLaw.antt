-- Blocks that do their parts do the whole.
use Rattle.std.proofs.Common.{◌≡◌, ◌≤◌, ℕ, zero, suc, ◌+◌, ◌==◌, ◌++◌, Bool, true, false, List, [], ◌∷◌, refl, sym, ap, subst, arith, ℤ}
use Rattle.std.proofs.Common.{◌∙◌}
use Rattle.std.specs.Prelude.{Some, Ok, Err}
use Rattle.std.proofs.lemmas.Bool.{eqb-true}
use Rattle.ebpf_decode.specs.declared.insn.Insn.{Insn}
use Rattle.ebpf_decode.specs.declared.insn.Insn.TheVariants.{JumpIf, Lddw, Ldmap, Ldval}
use Rattle.ebpf_decode.specs.InstructionEncoding.{slot_count}
use Rattle.semantics.specs.declared.call.Call.{Call}
use Rattle.semantics.specs.declared.call.Call.TheVariants.{Lookup, Load, Atomic, Update}
use Rattle.semantics.specs.declared.call.Reply.{Reply}
use Rattle.semantics.specs.declared.call.Reply.TheVariants.{Cell, Null, Word, Answer}
use Rattle.semantics.specs.declared.verdict.Verdict.{Verdict}
use Rattle.semantics.specs.MachineState.{MachineState, register_value}
use Rattle.semantics.specs.Program.{Program, instruction_at}
use Rattle.semantics.specs.Step.{Outcome, Step, Continues, CallsMap, Exits, Traps, or_trap}
use Rattle.semantics.specs.Arithmetic.{source_value}
use Rattle.semantics.specs.Comparison.{jump_outcome}
use Rattle.semantics.specs.Memory.{cell_ref}
use Rattle.semantics.specs.RunTrace.{IsReplyTo, trace_of, trace_from, AreReplies}
use Rattle.semantics.specs.Semantics.{instruction_step, next_step, step_of, jump_step, branch_step, at_next_slot}
use Rattle.block_runs.specs.Plan.{Plan, Asks, Ends, Does, outcome_of, plan_outcome, asked, RunOutcome, Waiting, Ended}
use Rattle.block_runs.proofs.shared.Blocks.{Promise, Named, BlocksMeet, Arrives, Meets, MeetsStep, MeetsTest, MeetsJump, AsksThis}
use Rattle.block_runs.proofs.shared.Blocks.{EndsThis, ForReplies, by_test, comes, slot_after, code_of, longest, longest_of, BlocksJoin}

-- ---- one step

pub does_more : (n m : ℕ) → n ≤ m → (program : Program) (state : MachineState) (plan : Plan) → Does n program state plan → Does m program state plan
does_more n m at_most program state plan does count enough replies fit = does count (omega arith) replies fit

abbrev answers_after : ℕ → Program → MachineState → List Reply → Step → Type 0
answers_after count program state replies step = AreReplies program (trace_from (trace_of count program) state step replies).calls replies

abbrev after_step : ℕ → Program → MachineState → List Reply → Step → RunOutcome
after_step count program state replies step = outcome_of (trace_from (trace_of count program) state step replies)

pub goes : (n : ℕ) (program : Program) (state next : MachineState) (plan : Plan) → next_step program state ≡ Continues next →
    Does n program next plan → Does (suc n) program state plan
goes n program state next plan is does zero enough replies fit = absurd (omega arith)
goes n program state next plan is does (suc count) enough replies fit =
    subst (λ step. after_step count program state replies step ≡ plan_outcome plan replies) (sym is)
    (does count (omega arith) replies (subst (answers_after count program state replies) is fit))

pub ends : (n : ℕ) (program : Program) (state last : MachineState) (verdict : Verdict) (plan : Plan) → next_step program state ≡ Exits verdict last →
    EndsThis verdict last.frame plan → Does (suc n) program state plan
ends n program state last verdict plan is this zero enough replies fit = absurd (omega arith)
ends n program state last verdict (Asks call onward) is this (suc count) enough replies fit = absurd this
ends n program state last verdict (Ends planned left) is this (suc count) enough replies fit =
    subst (λ step. after_step count program state replies step ≡ plan_outcome (Ends planned left) replies) (sym is)
    (λ i. record { calls = []; ending = Ended (this.0 i) (this.1 i) })

pub asks : (n : ℕ) (program : Program) (state : MachineState) (call : Call) (next : Reply → MachineState) (plan : Plan) →
    next_step program state ≡ CallsMap call next →
    AsksThis call plan (λ onward. (reply : Reply) → IsReplyTo program call reply → Does n program (next reply) (onward reply)) →
    Does (suc n) program state plan
asks n program state call next (Ends verdict frame) is this count enough replies fit = absurd this
asks n program state call next (Asks planned onward) is this zero enough replies fit = absurd (omega arith)
asks n program state call next (Asks planned onward) is this (suc count) enough [] fit =
    subst (λ step. after_step count program state [] step ≡ plan_outcome (Asks planned onward) []) (sym is)
    (ap (λ (c : Call). record { calls = c ∷ []; ending = Waiting }) this.0)
asks n program state call next (Asks planned onward) is this (suc count) enough (reply ∷ replies) fit =
    subst (λ step. after_step count program state (reply ∷ replies) step ≡ plan_outcome (Asks planned onward) (reply ∷ replies)) (sym is)
    (ap (asked call) (this.1 reply (subst (answers_after count program state (reply ∷ replies)) is fit).0 count (omega arith) replies
    (subst (answers_after count program state (reply ∷ replies)) is fit).1)
    ∙ ap (λ (c : Call). asked c (plan_outcome (onward reply) replies)) this.0)

-- every reply is of one of the forms
pub every_reply : (program : Program) (call : Call) (holds : Reply → Type 0) → ForReplies program call holds →
    (reply : Reply) → IsReplyTo program call reply → holds reply
every_reply program (Lookup shard key) holds each (Cell cell) fit = subst (λ s. holds (Cell (cell_ref s cell.id))) (sym fit) (each.0 cell.id)
every_reply program (Lookup shard key) holds each Null fit = each.1
every_reply program (Lookup shard key) holds each _ fit = absurd fit
every_reply program (Load cell offset size) holds each (Word word) fit = each word fit
every_reply program (Load cell offset size) holds each _ fit = absurd fit
every_reply program (Atomic cell offset size op value expected) holds each (Word word) fit = each word fit
every_reply program (Atomic cell offset size op value expected) holds each _ fit = absurd fit
every_reply program (Update shard key value flags) holds each (Answer code) fit = each code fit
every_reply program (Update shard key value flags) holds each _ fit = absurd fit
every_reply program _ holds each reply fit = each reply fit

-- ---- the instructions of a list

-- from this slot on the code has these instructions
abbrev HasAt : List Insn → ℕ → List Insn → Type 0
HasAt code slot [] = Unit {0}
HasAt code slot (insn ∷ rest) = (instruction_at code slot ≡ Some insn) × HasAt code (slot + slot_count insn) rest

-- what is shown of a state where one instruction leads to it
abbrev DoesAt : ℕ → Program → ℕ → Promise → Type 0
DoesAt n program slot rest = (state : MachineState) (plan : Plan) → state.slot ≡ slot → rest state plan → Does n program state plan

abbrev DoesWhere : ℕ → Program → Promise → Type 0
DoesWhere n program leaves = (state : MachineState) (plan : Plan) → leaves state plan → Does n program state plan

come : (n : ℕ) (program : Program) (leaves rest : Promise) (slot : ℕ) → DoesAt n program slot rest → DoesWhere n program leaves →
    (state : MachineState) (plan : Plan) → comes leaves rest slot state plan → Does n program state plan
come n program leaves rest slot on left state plan meet = by (state.slot == slot) refl meet
  where
    by : (here : Bool) → (state.slot == slot) ≡ here → by_test here (rest state plan) (leaves state plan) → Does n program state plan
    by true is meets = on state plan (eqb-true state.slot slot is) meets
    by false is meets = left state plan meets

step_meets : (n : ℕ) (program : Program) (leaves rest : Promise) (slot : ℕ) → DoesAt n program slot rest → DoesWhere n program leaves →
    (state : MachineState) (plan : Plan) (step : Step) → next_step program state ≡ step → MeetsStep program leaves rest slot step plan →
    Does (suc n) program state plan
step_meets n program leaves rest slot on left state plan (Continues next) is meet =
    goes n program state next plan is (come n program leaves rest slot on left next plan meet)
step_meets n program leaves rest slot on left state (Asks planned onward) (CallsMap call next) is meet =
    asks n program state call next (Asks planned onward) is (
      meet.0,
      λ reply fit. come n program leaves rest slot on left (next reply) (onward reply)
          (every_reply program call (λ r. comes leaves rest slot (next r) (onward r)) meet.1 reply fit),
    )
step_meets n program leaves rest slot on left state (Ends verdict frame) (CallsMap call next) is meet = absurd meet
step_meets n program leaves rest slot on left state plan (Exits verdict last) is meet = ends n program state last verdict plan is meet
step_meets n program leaves rest slot on left state plan (Traps cause) is meet = absurd meet

jump_meets : (n : ℕ) (program : Program) (leaves : Promise) → DoesWhere n program leaves →
    (state : MachineState) (plan : Plan) (step : Step) → next_step program state ≡ step → MeetsJump leaves step plan → Does (suc n) program state plan
jump_meets n program leaves left state plan (Continues next) is meet = goes n program state next plan is (left next plan meet)
jump_meets n program leaves left state plan (CallsMap call next) is meet = absurd meet
jump_meets n program leaves left state plan (Exits verdict last) is meet = absurd meet
jump_meets n program leaves left state plan (Traps cause) is meet = absurd meet

test_meets : (n : ℕ) (program : Program) (leaves rest : Promise) (insn : Insn) (distance : ℤ) (state : MachineState) (plan : Plan) →
    DoesAt n program (state.slot + slot_count insn) rest → DoesWhere n program leaves →
    (outcome : Outcome Bool) → next_step program state ≡ or_trap outcome (branch_step insn state distance) →
    MeetsTest leaves rest insn state distance outcome plan → Does (suc n) program state plan
unfolding MeetsTest
test_meets n program leaves rest insn distance state plan on left (Ok true) is meet =
    jump_meets n program leaves left state plan (jump_step state distance) is meet
test_meets n program leaves rest insn distance state plan on left (Ok false) is meet =
    goes n program state (at_next_slot insn state) plan is (on (at_next_slot insn state) plan refl meet)
test_meets n program leaves rest insn distance state plan on left (Err cause) is meet = absurd meet

longest_more : (insns : List Insn) (more : ℕ) → more ≤ longest insns more
longest_more [] more = omega arith
longest_more (insn ∷ rest) more = let rest_more = longest_more rest more in omega arith

leaves_more : (more : ℕ) (program : Program) (leaves : Promise) (insns : List Insn) → DoesWhere more program leaves → DoesWhere (longest insns more) program leaves
leaves_more more program leaves insns left state plan meet = does_more more (longest insns more) (longest_more insns more) program state plan (left state plan meet)

at_instruction : (program : Program) (state : MachineState) (insn : Insn) → instruction_at program.code state.slot ≡ Some insn →
    next_step program state ≡ instruction_step program insn state
at_instruction program state insn is = ap (λ found. step_of program found state) is

meets : (leaves : Promise) (program : Program) (more : ℕ) → DoesWhere more program leaves → (insns : List Insn) (state : MachineState) (plan : Plan) →
    HasAt program.code state.slot insns → Meets leaves program insns state plan → Does (longest insns more) program state plan
meets leaves program more left [] state plan at meet = left state plan meet
meets leaves program more left (JumpIf width test dst source distance ∷ rest) state plan at meet =
    test_meets (longest rest more) program leaves (Meets leaves program rest) (JumpIf width test dst source distance) distance state plan
    (λ next left_plan here meets_rest. meets leaves program more left rest next left_plan
    (subst (λ slot. HasAt program.code slot rest) (sym here) at.1) meets_rest)
    (leaves_more more program leaves rest left)
    (jump_outcome state width test (register_value state dst) (source_value state source))
    (at_instruction program state (JumpIf width test dst source distance) at.0) meet
meets leaves program more left (insn ∷ rest) state plan at meet =
    step_meets (longest rest more) program leaves (Meets leaves program rest) (state.slot + slot_count insn)
    (λ next left_plan here meets_rest. meets leaves program more left rest next left_plan
    (subst (λ slot. HasAt program.code slot rest) (sym here) at.1) meets_rest)
    (leaves_more more program leaves rest left)
    state plan (instruction_step program insn state) (at_instruction program state insn at.0) meet

-- ---- where instructions are

-- from this slot on the code is this rest of it
abbrev GoesOn : List Insn → ℕ → List Insn → Type 0
GoesOn code start rest = (slot : ℕ) → instruction_at code (start + slot) ≡ instruction_at rest slot

past_one : (insn : Insn) (rest : List Insn) (slot : ℕ) → instruction_at (insn ∷ rest) (slot_count insn + slot) ≡ instruction_at rest slot
unfolding slot_count
past_one (Lddw dst value) rest slot = subst (λ n. instruction_at (Lddw dst value ∷ rest) n ≡ instruction_at rest slot) (two slot) refl
  where
    two : (n : ℕ) → suc (suc n) ≡ 2 + n
    two n = omega arith
past_one (Ldmap dst map) rest slot = subst (λ n. instruction_at (Ldmap dst map ∷ rest) n ≡ instruction_at rest slot) (two slot) refl
  where
    two : (n : ℕ) → suc (suc n) ≡ 2 + n
    two n = omega arith
past_one (Ldval dst map offset) rest slot = subst (λ n. instruction_at (Ldval dst map offset ∷ rest) n ≡ instruction_at rest slot) (two slot) refl
  where
    two : (n : ℕ) → suc (suc n) ≡ 2 + n
    two n = omega arith
past_one insn rest slot = subst (λ n. instruction_at (insn ∷ rest) n ≡ instruction_at rest slot) (one slot) refl
  where
    one : (n : ℕ) → suc n ≡ 1 + n
    one n = omega arith

next_goes_on : (code : List Insn) (start : ℕ) (insn : Insn) (rest : List Insn) → GoesOn code start (insn ∷ rest) → GoesOn code (start + slot_count insn) rest
next_goes_on code start insn rest on slot =
    subst (λ n. instruction_at code n ≡ instruction_at rest slot) (together start (slot_count insn) slot) (on (slot_count insn + slot) ∙ past_one insn rest slot)
  where
    together : (a b c : ℕ) → a + (b + c) ≡ a + b + c
    together a b c = omega arith

here_is : (code : List Insn) (start : ℕ) (insn : Insn) (rest : List Insn) → GoesOn code start (insn ∷ rest) → instruction_at code start ≡ Some insn
here_is code start insn rest on = subst (λ n. instruction_at code n ≡ Some insn) (none start) (on 0)
  where
    none : (a : ℕ) → a + 0 ≡ a
    none a = omega arith

has_block : (code block after : List Insn) (start : ℕ) → GoesOn code start (block ++ after) → HasAt code start block
has_block code [] after start on = tt
has_block code (insn ∷ block) after start on =
    (here_is code start insn (block ++ after) on, has_block code block after (start + slot_count insn) (next_goes_on code start insn (block ++ after) on))

past_block : (code block after : List Insn) (start : ℕ) → GoesOn code start (block ++ after) → GoesOn code (slot_after start block) after
past_block code [] after start on = on
past_block code (insn ∷ block) after start on =
    past_block code block after (start + slot_count insn) (next_goes_on code start insn (block ++ after) on)

-- ---- the law

first_or_later : {Part : Type 0} (promise : Part → Promise) (program : Program) (start : ℕ) (block : Named Part) (blocks : List (Named Part)) →
    GoesOn program.code start (block.1 ++ code_of blocks) →
    ((state : MachineState) (plan : Plan) → promise block.0 state plan →
    (state.slot ≡ start) × Meets (Arrives promise (slot_after start block.1) blocks) program block.1 state plan) →
    DoesWhere (longest_of blocks) program (Arrives promise (slot_after start block.1) blocks) →
    (state : MachineState) (plan : Plan) (here : Bool) →
    by_test here (promise block.0 state plan) (Arrives promise (slot_after start block.1) blocks state plan) →
    Does (longest block.1 (longest_of blocks)) program state plan
first_or_later promise program start block blocks on meet rest state plan true promised =
    let met = meet state plan promised in
    meets (Arrives promise (slot_after start block.1) blocks) program (longest_of blocks) rest block.1 state plan
    (subst (λ slot. HasAt program.code slot block.1) (sym met.0) (has_block program.code block.1 (code_of blocks) start on)) met.1
first_or_later promise program start block blocks on meet rest state plan false later =
    does_more (longest_of blocks) (longest block.1 (longest_of blocks)) (longest_more block.1 (longest_of blocks)) program state plan
    (rest state plan later)

joined_from : {Part : Type 0} (promise : Part → Promise) (program : Program) (start : ℕ) (blocks : List (Named Part)) →
    GoesOn program.code start (code_of blocks) → BlocksMeet promise program start blocks →
    DoesWhere (longest_of blocks) program (Arrives promise start blocks)
joined_from promise program start [] on meet state plan arrives = absurd arrives
joined_from promise program start (block ∷ blocks) on meet state plan arrives =
    first_or_later promise program start block blocks on meet.0
    (joined_from promise program (slot_after start block.1) blocks (past_block program.code block.1 (code_of blocks) start on) meet.1)
    state plan (state.slot == start) arrives

pub blocks_join : BlocksJoin
blocks_join Part promise program blocks is meet state plan arrives =
    joined_from promise program 0 blocks
    (λ slot. subst (λ n. instruction_at program.code n ≡ instruction_at (code_of blocks) slot) (none slot)
    (ap (λ code. instruction_at code slot) is)) meet state plan arrives
  where
    none : (n : ℕ) → n ≡ 0 + n
    none n = omega arith
