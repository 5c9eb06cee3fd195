use Rattle.std.proofs.Common.{◌≡◌, ◌+◌, ◌<◌, ℕ, List, sym, ap, ◌∙◌, subst, length, add-one, arith}
use Rattle.std.specs.Prelude.{slice_get}
use Rattle.std.proofs.lemmas.List.{length-map}
use Rattle.semantics.specs.declared.options.Options.{Options}
use Rattle.control.specs.declared.command.Command.{Command}
use Rattle.machine.specs.Running.{program_of}
use Rattle.wire.specs.declared.records.Sent.{Sent}
use Rattle.replay.specs.InTurn.{IsTurn, AreTurns}
use Rattle.replay.specs.Turns.{TheRecord, commands_between, due_before, rounds_at, turns_to}
use Rattle.replay.specs.TurnStates.{state_in, with_earlier}
use Rattle.replay.specs.TurnsTaken.{AreTaken}
use Rattle.replay.proofs.PieceLemmas.{turn_with, turns_with}
use Rattle.replay.proofs.TurnLemmas.{due_is, record_more, setting_more, setting_stays, still_serves}
use Rattle.replay.proofs.single_thread.Turns.piece_turns.Goals as goal

pub records-init : goal.records-init
records-init g c =
    let none : c.args.taken ≡ c.args.taken + 0 = omega arith in
    record {
      next_is = c.requires.ready.next_is ∙ ap (due_before c.args.starts.now) none;
      within = c.requires.ready.within;
      same = setting_stays (state_in c.args.self.now);
      turns = λ records sent ends first there were.
          subst (λ (n : ℕ). AreTurns (program_of c.args.verified.now c.args.self.now.all.options.shards) c.args.script.now records
          c.args.self.now.all.options.workers (turns_to c.args.starts.now n) first (with_earlier sent ends (state_in c.args.self.now))) none were;
      counted = c.requires.ready.counted ∙ none;
    }

pub commands-requires-clause-within : goal.commands-requires-clause-within
commands-requires-clause-within g c =
    let within = c.due-end.ensures.within in
    let count : length c.args.starts.now ≡ length c.args.script.now =
    ap (λ l. length l) c.requires.ready.starts_are ∙ length-map c.args.script.now (λ (line : Command). line.frame) in
    omega (arith, within, count)

pub commands-requires-clause-serves : goal.commands-requires-clause-serves
commands-requires-clause-serves g c =
    still_serves c.args.script.now (state_in c.args.self.now) (state_in c.records.self) c.records.invariant.same c.requires.ready.serves

pub record-requires-clause-maps : goal.record-requires-clause-maps
record-requires-clause-maps g c =
    c.in_ok-commands.ensures.same.maps ∙ c.records.invariant.same.maps ∙ c.requires.ready.maps_are

pub record-requires-clause-room : goal.record-requires-clause-room
record-requires-clause-room g c =
    let counted = c.in_ok-commands.ensures.counted ∙ c.records.invariant.counted in
    let room = c.requires.room in
    let test = c.records-test.true in
    let is = c.len-place-end.ensures in
    let ok = c.args.piece.now.records.ok.0 in
    omega (arith, counted, room, test, is, ok)

pub records-preserved : goal.records-preserved
records-preserved g c =
    let i = c.records.invariant in
    let verified = c.args.verified.now in
    let script = c.args.script.now in
    let starts = c.args.starts.now in
    let piece = c.args.piece.now.records.items in
    let place = c.records.place in
    let taken = c.args.taken in
    let number = taken + place in
    let next = c.records.next in
    let end = c.due-end.result in
    let before = state_in c.records.self in
    let one = state_in c.commands.new.self in
    let two = state_in c.record.new.self in
    let after = state_in c.round_at.new.self in
    let options = c.records.self.all.options in
    let program = program_of verified options.shards in
    let due = due_is starts number next end i.next_is c.due-end.ensures in
    let told : AreTaken program script starts (λ (records : List Sent). slice_get records number ≡ slice_get piece place) number (number + 1)
    before after end = record {
      next_is = subst (λ n. end ≡ due_before starts n) (sym (add-one number)) due;
      within = c.due-end.ensures.within;
      turns = λ records sent ends first there were.
          let ran : IsTurn program script records options.workers (TheRecord number) one two =
          subst (λ (o : Options). IsTurn (program_of verified o.shards) script records o.workers (TheRecord number) one two)
          c.in_ok-commands.ensures.same.options (c.in_ok-record.ensures.turn records number there) in
          record_more program script records options.workers starts number next end first (with_earlier sent ends before)
          (with_earlier sent ends one) (with_earlier sent ends two) (with_earlier sent ends after) i.next_is due were
          (turns_with program script options.workers records sent ends (commands_between next end) before one
          (c.in_ok-commands.ensures.turns program records options.workers))
          (turn_with program script options.workers records sent ends (TheRecord number) one two ran)
          (turns_with program script options.workers records sent ends (rounds_at (number + 1)) two after
          (c.round_at.ensures.turns program script records options.workers));
      same = setting_more before two after (setting_more before one two c.in_ok-commands.ensures.same c.in_ok-record.ensures.same)
          c.round_at.ensures.same;
      counted = c.round_at.ensures.counted ∙ c.in_ok-record.ensures.one_more
          ∙ ap (λ (n : ℕ). n + 1) (c.in_ok-commands.ensures.counted ∙ i.counted);
    } in
    let test = c.records-test.true in
    let is = c.len-place-end.ensures in
    let ok = c.args.piece.now.records.ok.0 in
    let below : place < length piece = omega (arith, test, is, ok) in
    let up : taken + place + 1 ≡ taken + (place + 1) = omega arith in
    record {
      next_is = told.next_is ∙ ap (due_before starts) up;
      within = told.within;
      same = setting_more (state_in c.args.self.now) before after i.same told.same;
      turns = λ records sent ends first there were.
          subst (λ (n : ℕ). AreTurns (program_of verified c.args.self.now.all.options.shards) script records c.args.self.now.all.options.workers
          (turns_to starts n) first (with_earlier sent ends after)) up
          (subst (λ (o : Options). AreTurns (program_of verified o.shards) script records o.workers (turns_to starts (taken + place + 1)) first
          (with_earlier sent ends after)) i.same.options
          (told.turns records sent ends first (there place below)
          (subst (λ (o : Options). AreTurns (program_of verified o.shards) script records o.workers (turns_to starts (taken + place)) first
          (with_earlier sent ends before)) (sym i.same.options) (i.turns records sent ends first there were))));
      counted = told.counted ∙ up;
    }
