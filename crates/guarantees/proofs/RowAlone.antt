-- The rows of runs alone, computed.
use Rattle.std.proofs.Common.{◌≡◌, inl, inr, ℕ, ◌%◌, ◌<◌, List, [], ◌∷◌, ◌++◌, length, refl, subst, arith}
use Rattle.std.specs.Prelude.{None, replicate}
use Rattle.std.proofs.lemmas.List.Elements.{All-nil, All-cons, All-replicate}
use Rattle.ebpf_decode.specs.InstructionEncoding.{slot_count}
use Rattle.ebpf_decode.specs.declared.map.MapDef.{MapDef}
use Rattle.map_updates.specs.Misfits.{misfit_of}
use Rattle.map_updates.specs.declared.update.MapUpdate.{MapUpdate}
use Rattle.semantics.specs.declared.call.Call.TheVariants.{Lookup}
use Rattle.semantics.specs.declared.verdict.Verdict.TheVariants.{Tx}
use Rattle.semantics.specs.History.{IsLegalJournal}
use Rattle.semantics.specs.MachineState.{MachineState}
use Rattle.semantics.specs.RunTrace.{RunStand, HasExited, Waits, HasTrapped, GoesOn, trace_of}
use Rattle.semantics.specs.ShardPlan.{AreOptions}
use Rattle.semantics.specs.System.{program_of_setting}
use Rattle.semantics.specs.SystemRows.{frame_of, key_of_byte}
use Rattle.semantics.proofs.shared.ConditionLemmas.{tested_bytes}
use Rattle.journals.specs.JournalsView.{JournalsView, entries_at}
use Rattle.machine.specs.declared.exit.Stop.TheVariants.{JournalFull}
use Rattle.map_port.specs.Exchanges.{Exchange, replies_in}
use Rattle.shard_port.specs.Asking.{enter_by, leave_by}
use Rattle.shard_port.specs.PassSessions.{session_at}
use Rattle.runs.specs.ShardRuns.{HasEnded, HasWaited}
use Rattle.runs.specs.SingleRuns.{IsLegalAt, AreLegalJournalsOf, HasRunAlone, IsCutBehind, HasStoppedAlone}
use Rattle.runs.specs.Updates.{served_by, updates_at}
use Rattle.guarantees.specs.RunRows.{row_setting, row_plan}
use Rattle.guarantees.specs.RunsAlone.{IsAskedAlone, RunsAloneAreOfTheSystem, StoppedRunsAloneAreOfTheSystem}
use Rattle.guarantees.specs.AloneRow.{set_to, row_start, row_journals, read_two, ended_journal, stopped_journal, AloneRow}
use Rattle.guarantees.proofs.RowRuns.{input_of, only_zero}

options : AreOptions row_setting.maps row_setting.options
options = record {
  some_worker = omega arith;
  at_most_eight = omega arith;
  power_of_two = inl refl;
  in_equal_parts = All-cons (λ (definition : MapDef). definition.max_entries % 1 ≡ 0) _ [] refl (All-nil _);
  least_journal = omega arith;
  greatest_journal = omega arith;
}

asked_of : (count number : ℕ) → misfit_of row_setting.maps (set_to number) ≡ None → IsAskedAlone row_setting 0 0 (frame_of 1) (replicate count (set_to number))
asked_of count number fits = record {
  options = options;
  few = omega arith;
  input = input_of (frame_of 1) (omega arith) (omega arith) (tested_bytes (frame_of 1) refl);
  early = omega arith;
  fit = All-replicate (λ (update : MapUpdate). misfit_of row_setting.maps update ≡ None) count (set_to number) fits;
}

abbrev state_of : RunStand → MachineState
state_of (HasExited verdict last) = last
state_of (Waits state) = state
state_of (HasTrapped cause) = row_start
state_of GoesOn = row_start

abbrev last_state : List Exchange → MachineState
last_state exchanges = state_of (trace_of 17 (program_of_setting row_setting) row_start (replies_in exchanges)).stand

journals_of : (journal : JournalsView) → journal.maps ≡ row_setting.maps → journal.options ≡ row_setting.options → length journal.shards ≡ 1 →
    IsLegalJournal row_plan (entries_at journal 0) → AreLegalJournalsOf row_setting.maps row_setting.options journal
journals_of journal maps options count legal = record {
  maps_are = maps;
  options_are = options;
  count = count;
  legal = λ number below. only_zero (λ (n : ℕ). IsLegalAt row_setting.maps row_setting.options n (entries_at journal n))
      (record { plan = row_plan; planned = refl; legal = legal }) number (subst (λ (n : ℕ). number < n) count below);
}

ended_legal : IsLegalJournal row_plan ended_journal
ended_legal = (
  record { step = record { met = refl; replied = refl }; room = refl },
  (
    record { step = record { met = refl; replied = refl }; room = refl },
    (
      record { step = record { met = refl; replied = refl }; room = refl },
      (
        record { step = record { met = refl; replied = refl }; room = refl },
        (
          record { step = record { met = refl; replied = refl }; room = refl },
          tt,
        ),
      ),
    ),
  ),
)

ended : HasEnded (program_of_setting row_setting) row_start read_two Tx (last_state read_two).steps (last_state read_two).frame
unfolding slot_count
ended = record {
  last = last_state read_two;
  trace = refl;
  formed = (refl, (omega arith, tt));
  counted = refl;
  bounded = omega arith;
  sent = refl;
}

ran : HasRunAlone (program_of_setting row_setting) row_start row_setting.options 0 (set_to 2 ∷ []) Tx (last_state read_two).steps (last_state read_two).frame
    (row_journals ended_journal)
ran = record {
  journals_are = journals_of (row_journals ended_journal) refl refl refl ended_legal;
  exchanges = read_two;
  ended = ended;
  within = (omega arith, (omega arith, tt));
  written = only_zero (λ (n : ℕ). entries_at (row_journals ended_journal) n
      ≡ updates_at (served_by row_setting.maps row_setting.options) n (set_to 2 ∷ []) ++ session_at 0 n read_two) refl;
}

stopped_legal : IsLegalJournal row_plan stopped_journal
stopped_legal = (
  record { step = record { met = refl; replied = refl }; room = refl },
  (
    record { step = record { met = refl; replied = refl }; room = refl },
    (
      record { step = record { met = refl; replied = refl }; room = refl },
      (
        record { step = record { met = refl; replied = refl }; room = refl },
        (
          record { step = record { met = refl; replied = refl }; room = refl },
          (
            record { step = record { met = refl; replied = refl }; room = refl },
            (
              record { step = record { met = refl; replied = refl }; room = refl },
              (
                record { step = record { met = refl; replied = refl }; room = refl },
                (
                  record { step = record { met = refl; replied = refl }; room = refl },
                  (
                    record { step = record { met = refl; replied = refl }; room = refl },
                    (
                      record { step = record { met = refl; replied = refl }; room = refl },
                      (
                        record { step = record { met = refl; replied = refl }; room = refl },
                        (
                          record { step = record { met = refl; replied = refl }; room = refl },
                          (
                            record { step = record { met = refl; replied = refl }; room = refl },
                            (
                              record { step = record { met = refl; replied = refl }; room = refl },
                              (
                                record { step = record { met = refl; replied = refl }; room = refl },
                                tt,
                              ),
                            ),
                          ),
                        ),
                      ),
                    ),
                  ),
                ),
              ),
            ),
          ),
        ),
      ),
    ),
  ),
)

waited : HasWaited (program_of_setting row_setting) row_start [] (Lookup 0 (key_of_byte 0)) (last_state []).frame
unfolding slot_count
waited = record { waiting = last_state []; trace = refl; formed = tt; kept_back = refl }

stops : HasStoppedAlone (program_of_setting row_setting) row_start row_setting.options 0 (replicate 14 (set_to 5)) (last_state []).frame (JournalFull 0)
    (row_journals stopped_journal)
stops = record {
  journals_are = journals_of (row_journals stopped_journal) refl refl refl stopped_legal;
  exchanges = [];
  refused = Lookup 0 (key_of_byte 0);
  named = refl;
  waited = waited;
  within = tt;
  refused_within = omega arith;
  written = only_zero (λ (n : ℕ). IsCutBehind (updates_at (served_by row_setting.maps row_setting.options) n (replicate 14 (set_to 5))) 0 n []
      (Lookup 0 (key_of_byte 0)) (entries_at (row_journals stopped_journal) n))
      (record { own = enter_by 0 0 ∷ leave_by 0 0 ∷ []; session = inr (record { own_shard = refl; first_call = refl; visit = refl }); both = refl });
  plan = row_plan;
  planned = refl;
  full = inr (record { full = refl; leaves = refl });
}

pub alone_row : RunsAloneAreOfTheSystem → StoppedRunsAloneAreOfTheSystem → AloneRow
alone_row ends halts = record {
  asked = asked_of 1 2 refl;
  last = last_state read_two;
  ran = ran;
  ended =
      ends row_setting 0 0 (frame_of 1) (set_to 2 ∷ []) Tx (last_state read_two).steps (last_state read_two).frame (row_journals ended_journal)
      (asked_of 1 2 refl) ran;
  asked_more = asked_of 14 5 refl;
  left = (last_state []).frame;
  stops = stops;
  stopped =
      halts row_setting 0 0 (frame_of 1) (replicate 14 (set_to 5)) (last_state []).frame (JournalFull 0) (row_journals stopped_journal)
      (asked_of 14 5 refl) stops;
}
