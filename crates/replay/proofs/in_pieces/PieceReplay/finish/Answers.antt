use Rattle.std.proofs.Common.{◌≡◌, ◌<◌, ◌++◌, ◌^◌, ℕ, List, length, refl, sym, ap, ◌∙◌, subst, arith}
use Rattle.std.proofs.lemmas.List.{append-nil}
use Rattle.map_updates.specs.declared.update.MapUpdate.{MapUpdate}
use Rattle.machine.specs.Running.{program_of}
use Rattle.control.specs.declared.command.Command.{Command}
use Rattle.wire.specs.declared.records.Sent.{Sent}
use Rattle.actors.specs.declared.account.Counts.{Counts}
use Rattle.actors.specs.declared.outcome.ToldEnd.{ToldEnd}
use Rattle.actors.specs.Accounts.{frames_in}
use Rattle.replay.specs.ExactReplays.{IsInTurn, HasBegun, starts_in, first_state}
use Rattle.replay.specs.InTurn.{AreTurns}
use Rattle.replay.specs.TurnStates.{state_in, with_earlier}
use Rattle.replay.specs.Turns.{all_turns, turns_to}
use Rattle.replay.proofs.PieceLemmas.{turns_counted, whole_of, whole_is}
use Rattle.replay.proofs.in_pieces.PieceReplay.finish.Goals as goal

pub returns-clause-none_sent : goal.returns-clause-none_sent
returns-clause-none_sent c = c.in_ok-rest.ensures.sent ∙ c.in_ok-last_turns.ensures.ends.sent ∙ c.requires.none_sent

pub returns-clause-no_ends : goal.returns-clause-no_ends
returns-clause-no_ends c = c.in_ok-rest.ensures.ends ∙ c.in_ok-last_turns.ensures.ends.ends ∙ c.requires.no_ends

pub returns-clause-replayed : goal.returns-clause-replayed
returns-clause-replayed c = λ program options records sent ends under.
    let script = c.args.script.now in
    let starts = c.deref.result.now in
    let taken = c.args.self.taken in
    let before = state_in c.args.self.turns in
    let last = state_in c.last_turns.new.self in
    let rest = c.in_ok-rest.rest in
    let given = c.in_ok-rest.ensures in
    let told = c.in_ok-last_turns.ensures in
    let first = first_state under.begun under.size in
    let same_script : c.commands.result.now ≡ script = c.commands.ensures in
    let starts_are : starts ≡ starts_in script = c.deref.ensures.value ∙ c.requires.starts in
    let each = turns_counted program script records options.workers (turns_to (starts_in script) (length records)) first (with_earlier sent ends before)
    under.in_order (record { each = refl; at_most = omega arith }) in
    let counted : frames_in before.counts ≡ taken = c.requires.counted in
    let few = c.requires.few in
    let no_more_sent : sent ++ before.sent ≡ sent = ap (λ (list : List Sent). sent ++ list) c.requires.none_sent ∙ append-nil sent in
    let no_more_ends : ends ++ before.ends ≡ ends = ap (λ (list : List ToldEnd). ends ++ list) c.requires.no_ends ∙ append-nil ends in
    let few_sent : length sent < 2 ^ 63 =
    (let at_most = each.at_most in let n = ap (λ (list : List Sent). length list) no_more_sent in omega (arith, at_most, n, counted, few)) in
    let few_ends : length ends < 2 ^ 63 =
    (let all = each.each in let n = ap (λ (list : List ToldEnd). length list) no_more_ends in omega (arith, all, n, counted, few)) in
    let whole = whole_of rest sent ends few_sent few_ends in
    let was : AreTurns program c.commands.result.now records options.workers (turns_to starts taken) first (with_earlier sent ends before) =
    subst (λ (n : ℕ). AreTurns program c.commands.result.now records options.workers (turns_to starts n) first (with_earlier sent ends before))
    (sym under.taken)
    (subst (λ (s : List ℕ). AreTurns program c.commands.result.now records options.workers (turns_to s (length records)) first
    (with_earlier sent ends before)) (sym starts_are)
    (subst (λ (s : List Command). AreTurns program s records options.workers (turns_to (starts_in script) (length records)) first
    (with_earlier sent ends before)) (sym same_script) under.in_order)) in
    let in_order : AreTurns program script records options.workers (all_turns (starts_in script) (length records)) first (with_earlier sent ends last) =
    subst (λ (s : List Command). AreTurns program s records options.workers (all_turns (starts_in script) (length records)) first
    (with_earlier sent ends last)) same_script
    (subst (λ (s : List ℕ). AreTurns program c.commands.result.now records options.workers (all_turns s (length records)) first
    (with_earlier sent ends last)) starts_are
    (subst (λ (n : ℕ). AreTurns program c.commands.result.now records options.workers (all_turns starts n) first (with_earlier sent ends last))
    under.taken (told.turns program records sent ends options.workers first was))) in
    let in_turn : IsInTurn program script options records whole = record {
      maps = given.maps ∙ told.same.maps ∙ under.maps;
      options_are = given.options ∙ told.same.options ∙ under.options_are;
      size = under.size;
      size_is_served = under.size_is_served;
      serves = under.serves;
      begun = under.begun;
      first = subst (λ (list : List MapUpdate). HasBegun program.maps options list under.begun) (sym given.updates) under.first;
      last = with_earlier sent ends last;
      in_order = in_order;
      counts = given.counts;
      each_once = ap (λ (counts : Counts). frames_in counts) given.counts ∙ told.counted ∙ counted ∙ under.taken;
      sent = sym (ap (λ (list : List Sent). sent ++ list) told.ends.sent ∙ no_more_sent);
      ends = sym (ap (λ (list : List ToldEnd). ends ++ list) told.ends.ends ∙ no_more_ends);
      refused = given.refused;
      count_is = given.count;
      journals = given.journals;
      legal = given.legal;
    } in
    record {
      whole = whole;
      is_whole = whole_is rest sent ends few_sent few_ends;
      exact = c.turns_are_accounted.ensures program script options records whole under.options_fit in_turn;
    }

pub returns-clause-one_list : goal.returns-clause-one_list
returns-clause-one_list c = λ options records sent ends captured under.
    let made = returns-clause-replayed c (program_of c.args.verified.now options.shards) options records sent ends under in
    record {
      whole = made.whole;
      is_whole = made.is_whole;
      in_turns = c.events_come_in_turns.ensures c.args.script.now options records made.whole under.options_fit captured c.commands_fit.ensures
          made.exact.in_order.turns;
    }
