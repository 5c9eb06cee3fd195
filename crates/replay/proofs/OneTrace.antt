-- A run over ports that give alike replies has one end: the program asks the same calls, one after the other, and stands alike.
use Rattle.std.proofs.Common.{◌≡◌, ℕ, zero, suc, List, [], ◌∷◌, ◌++◌, sym, ap, ◌∙◌, subst}
use Rattle.semantics.specs.declared.call.Call.{Call}
use Rattle.semantics.specs.declared.call.Reply.{Reply}
use Rattle.semantics.specs.declared.verdict.Verdict.{Verdict}
use Rattle.semantics.specs.MachineState.{MachineState}
use Rattle.semantics.specs.Program.{Program}
use Rattle.semantics.specs.RunTrace.{RunTrace, RunStand, HasExited, Waits, HasTrapped, GoesOn, trace_of, trace_from, with_call, without_calls}
use Rattle.semantics.specs.Step.{TrapCause, Step, Continues, CallsMap, Exits, Traps}
use Rattle.semantics.specs.Semantics.{next_step}
use Rattle.map_port.specs.Exchanges.{Exchange, calls_in, replies_in, IsChain}

-- ---- traces

-- these calls, and so it stands
abbrev pub trace_with : List Call → RunStand → RunTrace
trace_with calls stand = record { calls = calls; stand = stand }

calls_of : (one other : List Call) (stand stand' : RunStand) → trace_with one stand ≡ trace_with other stand' → one ≡ other
calls_of one other stand stand' same = ap (λ (trace : RunTrace). trace.calls) same

stand_of : (one other : List Call) (stand stand' : RunStand) → trace_with one stand ≡ trace_with other stand' → stand ≡ stand'
stand_of one other stand stand' same = ap (λ (trace : RunTrace). trace.stand) same

-- a first call is the first of the calls, and what comes behind it is the rest
first_call : (call first : Call) (rest : RunTrace) (later : List Call) (stand : RunStand) → with_call call rest ≡ trace_with (first ∷ later) stand → call ≡ first
first_call call first rest later stand same =
    let made : call ∷ rest.calls ≡ first ∷ later = calls_of (call ∷ rest.calls) (first ∷ later) rest.stand stand same in cc

rest_is : (call first : Call) (rest : RunTrace) (later : List Call) (stand : RunStand) → with_call call rest ≡ trace_with (first ∷ later) stand →
    rest ≡ trace_with later stand
rest_is call first rest later stand same =
    let made : call ∷ rest.calls ≡ first ∷ later = calls_of (call ∷ rest.calls) (first ∷ later) rest.stand stand same in
    let calls_are : rest.calls ≡ later = cc in
    let stands : rest.stand ≡ stand = stand_of (call ∷ rest.calls) (first ∷ later) rest.stand stand same in
    ap (λ (calls : List Call). trace_with calls rest.stand) calls_are ∙ ap (λ (one : RunStand). trace_with later one) stands

-- ---- ports

module _ {P : Type 0} (gives : P → Call → Reply → P → Type 0) (refuses : P → Call → P → Type 0) where
  -- a run has come to its end where its last reply left the port, or it waits for a reply that the port refuses
  abbrev pub EndsSo : List Call → RunStand → P → P → Type 0
  EndsSo [] (HasExited verdict last) middle after = middle ≡ after
  EndsSo [] (Waits state) middle after = ⊥
  EndsSo [] (HasTrapped cause) middle after = ⊥
  EndsSo [] GoesOn middle after = ⊥
  EndsSo (call ∷ []) (HasExited verdict last) middle after = ⊥
  EndsSo (call ∷ []) (Waits state) middle after = refuses middle call after
  EndsSo (call ∷ []) (HasTrapped cause) middle after = ⊥
  EndsSo (call ∷ []) GoesOn middle after = ⊥
  EndsSo (call ∷ more ∷ later) stand middle after = ⊥

  -- so many instructions from a state, over a port
  pub record IsPlayed (count : ℕ) (program : Program) (state : MachineState) (before after : P) (stand : RunStand) : Type 0 where
    pub made : List Exchange
    pub pending : List Call
    pub middle : P
    pub chain : IsChain gives before made middle
    pub trace : trace_of count program state (replies_in made) ≡ trace_with (calls_in made ++ pending) stand
    pub ends : EndsSo pending stand middle after

  -- ---- one step

  -- an exit: nothing was asked, and the port is as it was
  exits_so : (verdict : Verdict) (last : MachineState) (made : List Exchange) (pending : List Call) (stand : RunStand) (before middle after : P) →
      without_calls (HasExited verdict last) ≡ trace_with (calls_in made ++ pending) stand → IsChain gives before made middle →
      EndsSo pending stand middle after → (HasExited verdict last ≡ stand) × (before ≡ after)
  exits_so verdict last [] [] stand before middle after trace chain ends =
      let same : HasExited verdict last ≡ stand = stand_of [] [] (HasExited verdict last) stand trace in
      let at : middle ≡ after = subst (λ (one : RunStand). EndsSo [] one middle after) (sym same) ends in
      (same, chain ∙ at)
  exits_so verdict last [] (call ∷ later) stand before middle after trace chain ends =
      absurd (let none : [] ≡ call ∷ later = calls_of [] (call ∷ later) (HasExited verdict last) stand trace in cc)
  exits_so verdict last (one ∷ more) pending stand before middle after trace chain ends =
      absurd (let none : [] ≡ one.call ∷ (calls_in more ++ pending) = calls_of [] (one.call ∷ (calls_in more ++ pending)) (HasExited verdict last) stand trace in cc)

  -- a call without a reply: the port refuses it
  waits_so : (call : Call) (state : MachineState) (pending : List Call) (stand : RunStand) (before middle after : P) →
      with_call call (without_calls (Waits state)) ≡ trace_with pending stand → before ≡ middle → EndsSo pending stand middle after →
      (Waits state ≡ stand) × refuses before call after
  waits_so call state [] stand before middle after trace chain ends =
      absurd (let none : call ∷ [] ≡ [] = calls_of (call ∷ []) [] (Waits state) stand trace in cc)
  waits_so call state (first ∷ []) stand before middle after trace chain ends =
      let made : call ∷ [] ≡ first ∷ [] = calls_of (call ∷ []) (first ∷ []) (Waits state) stand trace in
      let same : Waits state ≡ stand = stand_of (call ∷ []) (first ∷ []) (Waits state) stand trace in
      let asked : call ≡ first = cc in
      let at : refuses middle first after = subst (λ (one : RunStand). EndsSo (first ∷ []) one middle after) (sym same) ends in
      (same, subst (λ (port : P). refuses port call after) (sym chain) (subst (λ (one : Call). refuses middle one after) (sym asked) at))
  waits_so call state (first ∷ second ∷ later) stand before middle after trace chain ends =
      absurd (let more : call ∷ [] ≡ first ∷ second ∷ later = calls_of (call ∷ []) (first ∷ second ∷ later) (Waits state) stand trace in cc)

  -- no run ends in a trap, nor before its last instruction
  no_trap : (cause : TrapCause) (calls pending : List Call) (stand : RunStand) (middle after : P) →
      without_calls (HasTrapped cause) ≡ trace_with calls stand → EndsSo pending stand middle after → ⊥
  no_trap cause calls [] stand middle after trace ends =
      subst (λ (one : RunStand). EndsSo [] one middle after) (sym (stand_of [] calls (HasTrapped cause) stand trace)) ends
  no_trap cause calls (call ∷ []) stand middle after trace ends =
      subst (λ (one : RunStand). EndsSo (call ∷ []) one middle after) (sym (stand_of [] calls (HasTrapped cause) stand trace)) ends
  no_trap cause calls (call ∷ more ∷ later) stand middle after trace ends = ends

  not_over : (calls pending : List Call) (stand : RunStand) (middle after : P) → without_calls GoesOn ≡ trace_with calls stand →
      EndsSo pending stand middle after → ⊥
  not_over calls [] stand middle after trace ends =
      subst (λ (one : RunStand). EndsSo [] one middle after) (sym (stand_of [] calls GoesOn stand trace)) ends
  not_over calls (call ∷ []) stand middle after trace ends =
      subst (λ (one : RunStand). EndsSo (call ∷ []) one middle after) (sym (stand_of [] calls GoesOn stand trace)) ends
  not_over calls (call ∷ more ∷ later) stand middle after trace ends = ends

-- ---- two ports that are alike

module _ {P : Type 0} (gives gives' : P → Call → Reply → P → Type 0) (refuses refuses' : P → Call → P → Type 0) (Alike : P → P → Type 0)
    (one_reply : (one other : P) (call : Call) (reply reply' : Reply) (after after' : P) → Alike one other → gives one call reply after →
    gives' other call reply' after' → (reply ≡ reply') × Alike after after')
    (refused_alike : (one other : P) (call : Call) (after after' : P) → Alike one other → refuses one call after → refuses' other call after' →
    Alike after after')
    (given_refused : (one other : P) (call : Call) (reply : Reply) (after after' : P) → Alike one other → gives one call reply after →
    refuses' other call after' → ⊥)
    (refused_given : (one other : P) (call : Call) (reply : Reply) (after after' : P) → Alike one other → refuses one call after →
    gives' other call reply after' → ⊥)
  where
    abbrev HaveOneEnd : ℕ → Program → Type 0
    HaveOneEnd count program =
        (state : MachineState) (one other after after' : P) (stand stand' : RunStand) → Alike one other →
        IsPlayed gives refuses count program state one after stand → IsPlayed gives' refuses' count program state other after' stand' →
        (stand ≡ stand') × Alike after after'

    alike_by : (one other one' other' : P) → one ≡ one' → other ≡ other' → Alike one other → Alike one' other'
    alike_by one other one' other' first second alike =
        subst (λ (port : P). Alike one' port) second (subst (λ (port : P). Alike port other) first alike)

    by_call : (count : ℕ) (program : Program) → HaveOneEnd count program → (state : MachineState) (call : Call) (next : Reply → MachineState)
        (one other after after' middle middle' : P) (made made' : List Exchange) (pending pending' : List Call) (stand stand' : RunStand) → Alike one other →
        IsChain gives one made middle → IsChain gives' other made' middle' →
        trace_from (trace_of count program) state (CallsMap call next) (replies_in made) ≡ trace_with (calls_in made ++ pending) stand →
        trace_from (trace_of count program) state (CallsMap call next) (replies_in made') ≡ trace_with (calls_in made' ++ pending') stand' →
        EndsSo gives refuses pending stand middle after → EndsSo gives' refuses' pending' stand' middle' after' → (stand ≡ stand') × Alike after after'
    by_call count program rest state call next one other after after' middle middle' [] [] pending pending' stand stand' alike chain chain' trace trace' ends ends' =
        let first = waits_so gives refuses call state pending stand one middle after trace chain ends in
        let second = waits_so gives' refuses' call state pending' stand' other middle' after' trace' chain' ends' in
        (sym first.0 ∙ second.0, refused_alike one other call after after' alike first.1 second.1)
    by_call count program rest state call next one other after after' middle middle' [] (second ∷ others) pending pending' stand stand' alike chain chain' trace trace' ends ends' =
        let first = waits_so gives refuses call state pending stand one middle after trace chain ends in
        let asked : call ≡ second.call = first_call call second.call (trace_of count program (next second.reply) (replies_in others)) (calls_in others ++ pending') stand' trace' in
        absurd (refused_given one other call second.reply after chain'.0 alike first.1
        (subst (λ (asked : Call). gives' other asked second.reply chain'.0) (sym asked) chain'.1))
    by_call count program rest state call next one other after after' middle middle' (first ∷ more) [] pending pending' stand stand' alike chain chain' trace trace' ends ends' =
        let second = waits_so gives' refuses' call state pending' stand' other middle' after' trace' chain' ends' in
        let asked : call ≡ first.call = first_call call first.call (trace_of count program (next first.reply) (replies_in more)) (calls_in more ++ pending) stand trace in
        absurd (given_refused one other call first.reply chain.0 after' alike
        (subst (λ (asked : Call). gives one asked first.reply chain.0) (sym asked) chain.1) second.1)
    by_call count program rest state call next one other after after' middle middle' (first ∷ more) (second ∷ others) pending pending' stand stand' alike chain chain' trace trace' ends ends' =
        let asked : call ≡ first.call = first_call call first.call (trace_of count program (next first.reply) (replies_in more)) (calls_in more ++ pending) stand trace in
        let asked' : call ≡ second.call = first_call call second.call (trace_of count program (next second.reply) (replies_in others)) (calls_in others ++ pending') stand' trace' in
        let replied = one_reply one other call first.reply second.reply chain.0 chain'.0 alike
        (subst (λ (asked : Call). gives one asked first.reply chain.0) (sym asked) chain.1)
        (subst (λ (asked : Call). gives' other asked second.reply chain'.0) (sym asked') chain'.1) in
        let onward = rest_is call first.call (trace_of count program (next first.reply) (replies_in more)) (calls_in more ++ pending) stand trace in
        let onward' = rest_is call second.call (trace_of count program (next second.reply) (replies_in others)) (calls_in others ++ pending') stand' trace' in
        rest (next first.reply) chain.0 chain'.0 after after' stand stand' replied.1
        (record { made = more; pending = pending; middle = middle; chain = chain.2; trace = onward; ends = ends })
        (record {
          made = others;
          pending = pending';
          middle = middle';
          chain = chain'.2;
          trace = ap (λ (reply : Reply). trace_of count program (next reply) (replies_in others)) replied.0 ∙ onward';
          ends = ends';
        })

    by_step : (count : ℕ) (program : Program) → HaveOneEnd count program → (state : MachineState) (step : Step)
        (one other after after' middle middle' : P) (made made' : List Exchange) (pending pending' : List Call) (stand stand' : RunStand) → Alike one other →
        IsChain gives one made middle → IsChain gives' other made' middle' →
        trace_from (trace_of count program) state step (replies_in made) ≡ trace_with (calls_in made ++ pending) stand →
        trace_from (trace_of count program) state step (replies_in made') ≡ trace_with (calls_in made' ++ pending') stand' →
        EndsSo gives refuses pending stand middle after → EndsSo gives' refuses' pending' stand' middle' after' → (stand ≡ stand') × Alike after after'
    by_step count program rest state (Continues next) one other after after' middle middle' made made' pending pending' stand stand' alike chain chain' trace trace' ends ends' =
        rest next one other after after' stand stand' alike
        (record { made = made; pending = pending; middle = middle; chain = chain; trace = trace; ends = ends })
        (record { made = made'; pending = pending'; middle = middle'; chain = chain'; trace = trace'; ends = ends' })
    by_step count program rest state (CallsMap call next) one other after after' middle middle' made made' pending pending' stand stand' alike chain chain' trace trace' ends ends' =
        by_call count program rest state call next one other after after' middle middle' made made' pending pending' stand stand' alike chain chain' trace trace' ends ends'
    by_step count program rest state (Exits verdict last) one other after after' middle middle' made made' pending pending' stand stand' alike chain chain' trace trace' ends ends' =
        let first = exits_so gives refuses verdict last made pending stand one middle after trace chain ends in
        let second = exits_so gives' refuses' verdict last made' pending' stand' other middle' after' trace' chain' ends' in
        (sym first.0 ∙ second.0, alike_by one other after after' first.1 second.1 alike)
    by_step count program rest state (Traps cause) one other after after' middle middle' made made' pending pending' stand stand' alike chain chain' trace trace' ends ends' =
        absurd (no_trap gives refuses cause (calls_in made ++ pending) pending stand middle after trace ends)

    pub one_end : (count : ℕ) (program : Program) → HaveOneEnd count program
    one_end zero program state one other after after' stand stand' alike played played' =
        absurd (not_over gives refuses (calls_in played.made ++ played.pending) played.pending stand played.middle after played.trace played.ends)
    one_end (suc count) program state one other after after' stand stand' alike played played' =
        by_step count program (one_end count program) state (next_step program state) one other after after' played.middle played'.middle played.made played'.made
        played.pending played'.pending stand stand' alike played.chain played'.chain played.trace played'.trace played.ends played'.ends
