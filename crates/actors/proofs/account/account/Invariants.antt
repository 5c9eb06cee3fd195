use Rattle.std.proofs.Common.{◌≡◌, length}
use Rattle.actors.specs.Shares.{frames_of, all_captured}
use Rattle.actors.specs.Accounts.{lists_of, counts_of, frames_in, sent_of, ends_of, AreNext, AreRunsOfShares, AreFatesFrom}
use Rattle.actors.proofs.account.account.Given as goal

pub record Gathered (l : goal.Live-records) : Type 0 where
  pub count : length l.runs.items ≡ length l.fn.runs.items
  pub are_runs : AreRunsOfShares (frames_of l.capture.records.items) (length l.fn.runs.items) (length l.capture.records.items) (lists_of l.runs.items)
  pub left : AreFatesFrom l.number (frames_of l.capture.records.items) (length l.fn.runs.items) (lists_of l.fn.runs.items) (lists_of l.runs.items)
  pub next : AreNext (frames_of l.capture.records.items) (length l.fn.runs.items) l.number l.next.items
  pub counts : l.counts ≡ counts_of (frames_of l.capture.records.items) (length l.fn.runs.items) (lists_of l.fn.runs.items) l.number
  pub frames : frames_in l.counts ≡ l.number
  pub workers : l.workers ≡ length l.fn.runs.items
  pub sent : all_captured l.all.items ≡ sent_of (frames_of l.capture.records.items) (length l.fn.runs.items) (lists_of l.fn.runs.items) l.number
  pub ends : l.ends.items ≡ ends_of (frames_of l.capture.records.items) (length l.fn.runs.items) (lists_of l.fn.runs.items) l.number

abbrev pub invariant-records : goal.invariant-records
invariant-records l = Gathered l
