-- The flows of a report and a script, as two texts.
use Rattle.std.specs.Prelude.{◌≡◌, ℕ, List, count_by, length}
use Rattle.control.specs.declared.command.Command.{Command}
use Rattle.flows.specs.Reports.{IsGapless}
use Rattle.flows.specs.Stories.{is_stopped_row}
use Rattle.flows.specs.Telling.{moves_until, stories_until}
use Rattle.flows.specs.TableText.{table_text}
use Rattle.flows.specs.SummaryText.{summary_text}

-- the bytes are a report of all records, and the texts are those of its flows
pub record AreFlows (bytes : List ℕ) (commands : List Command) (table summary : List ℕ) : Type 0 where
  pub rows : List (List ℕ)
  pub report : IsGapless bytes rows
  pub table_is : table ≡ table_text (stories_until rows commands (length rows))
  pub summary_is : summary
      ≡ summary_text (stories_until rows commands (length rows)) (moves_until rows commands (length rows)) (count_by is_stopped_row rows)
