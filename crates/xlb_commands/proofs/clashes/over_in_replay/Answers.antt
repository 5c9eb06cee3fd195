use Rattle.std.proofs.Common.{◌≡◌, ◌≢◌, ◌⊎◌, ◌∙◌, inl, inr, ℕ, List, Some, rules, sym}
use Rattle.command_line.specs.declared.commands.ReplayFiles.{ReplayFiles}
use Rattle.command_line.specs.Reading.{text_of}
use Rattle.xlb_commands.specs.Clashes.{IsBeforeReport, IsOverEarlier, IsOverInReplay, IsOverLater, IsReplayInput, IsWrittenBefore}
use Rattle.xlb_commands.proofs.clashes.over_in_replay.Goals as goal

-- what was written before what the maps hold
before_maps : (files : ReplayFiles) (name : List ℕ) → IsWrittenBefore files name ⊎ (text_of files.report ≡ Some name)
    → IsBeforeReport files name ⊎ (text_of files.report ≡ Some name)
before_maps files name (inl before) = inl (inr before)
before_maps files name (inr report) = inr report

module _ (files : ReplayFiles) (written other : List ℕ)
    (sent : (second : List ℕ) → IsReplayInput files second → files.sent.now ≢ second)
    (journals : (name second : List ℕ) → text_of files.journals ≡ Some name → IsReplayInput files second ⊎ (second ≡ files.sent.now)
    → name ≢ second)
    (report : (name second : List ℕ) → text_of files.report ≡ Some name → IsBeforeReport files second → name ≢ second)
    (maps : (name second : List ℕ) → text_of files.maps ≡ Some name → IsBeforeReport files second ⊎ (text_of files.report ≡ Some second)
    → name ≢ second) where
  -- what a replay writes: the sent frames, the journals, the report, or what the maps hold
  earlier_apart : IsOverEarlier files written other → written ≢ other
  earlier_apart (inl both) = λ same. sent other both.1 (sym both.0 ∙ same)
  earlier_apart (inr (inl both)) = journals written other both.0 both.1
  earlier_apart (inr (inr (inl both))) = report written other both.0 both.1
  earlier_apart (inr (inr (inr both))) = maps written other both.0 both.1

  -- the same the other way round
  later_apart : IsOverLater files written other → written ≢ other
  later_apart (inl both) = λ same. journals other written both.0 (inr both.1) (sym same)
  later_apart (inr (inl both)) = λ same. report other written both.0 (inr both.1) (sym same)
  later_apart (inr (inr both)) = λ same. maps other written both.0 (before_maps files written both.1) (sym same)

  replay_apart : IsOverInReplay files written other → written ≢ other
  replay_apart (inl earlier) = earlier_apart earlier
  replay_apart (inr later) = later_apart later

pub returns-clause-none : goal.returns-clause-none
returns-clause-none g c = λ none written other over.
    replay_apart c.args.files.now written other
    (c.frames_or_journals_over.ensures.sent (search rules)) (c.frames_or_journals_over.ensures.journals (search rules))
    (c.report_or_maps_over.ensures.report none) (c.report_or_maps_over.ensures.maps none) over
