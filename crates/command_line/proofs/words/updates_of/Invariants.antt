use Rattle.std.proofs.Common.{◌≡◌, ◌+◌, ◌*◌, ℕ, length, Some}
use Rattle.std.specs.Prelude.{slice_get}
use Rattle.clap.specs.Walk.{texts}
use Rattle.map_updates.specs.UpdateWords.{IsWritten}
use Rattle.map_updates.specs.declared.update.MapUpdate.{MapUpdate}
use Rattle.command_line.specs.Reading.{word_at}
use Rattle.command_line.proofs.words.updates_of.Given as goal

pub record AreRead (l : goal.Live-updates) : Type 0 where
  pub count : length l.updates.items ≡ l.place
  pub each :
      (place : ℕ) (update : MapUpdate) → slice_get l.updates.items place ≡ Some update →
      IsWritten (word_at (texts l.words) (3 * place)) (word_at (texts l.words) (3 * place + 1)) (word_at (texts l.words) (3 * place + 2)) update

abbrev pub invariant-updates : goal.invariant-updates
invariant-updates l = AreRead l
