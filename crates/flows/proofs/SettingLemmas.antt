-- What one command more makes of the settings.
use Rattle.std.proofs.Common.{◌≡◌, ◌∙◌, ℕ, ◌+◌, ◌≤◌, ◌<◌, Bool, true, false, cond, List, [], ◌∷◌, Option, Some, None, refl, ap, sym, arith, get_or, length, take, unwrap_or}
use Rattle.std.proofs.lemmas.Bool.Decides.{nat_tests}
use Rattle.std.proofs.lemmas.List.{take_more}
use Rattle.std.proofs.lemmas.List.Sums.{fold-append}
use Rattle.std.specs.List.{prefix_len, slice_get}
use Rattle.control.specs.declared.command.Command.{Command}
use Rattle.flows.specs.declared.settings.Settings.{Settings}
use Rattle.flows.specs.Settings.{before, is_due, is_up, up_by}
use Rattle.flows.specs.Walking.{IsWalked, is_one_due}
use Rattle.flows.proofs.PrefixLemmas.{passes, prefix_end, prefix_more, prefix_wider}

pub up_more : (backend_number : List ℕ) (commands : List Command) (i : ℕ) (d : Command) → i < length commands
    → is_up backend_number (take (i + 1) commands)
    ≡ up_by backend_number (is_up backend_number (take i commands)) (get_or commands i d).action
up_more backend_number commands i d inside =
    ap (is_up backend_number) (take_more commands i d inside)
    ∙ fold-append (λ was (command : Command). up_by backend_number was command.action) false (take i commands) (get_or commands i d ∷ [])

-- a flag that is set, read at any name
pub read_flag : (test is_so : Bool) (old : Option Bool) → unwrap_or (cond test (Some is_so) old) false ≡ cond test is_so (unwrap_or old false)
read_flag true is_so old = refl
read_flag false is_so old = refl

same_test : (place : ℕ) (command : Option Command) → is_one_due place command ≡ passes (is_due place) command
same_test place None = refl
same_test place (Some command) = refl

-- the next command comes before the record, so it is one of those that do
pub due_more : (place : ℕ) (commands : List Command) (i : ℕ) → i ≤ prefix_len (is_due place) commands
    → is_one_due place (slice_get commands i) ≡ true → i + 1 ≤ prefix_len (is_due place) commands
due_more place commands i within is =
    prefix_more (is_due place) commands i within (sym (same_test place (slice_get commands i)) ∙ is)

-- the next one does not, so these are all
pub due_end : (place : ℕ) (commands : List Command) (i : ℕ) → i ≤ prefix_len (is_due place) commands
    → is_one_due place (slice_get commands i) ≡ false → take i commands ≡ before place commands
due_end place commands i within is =
    ap (λ (n : ℕ). take n commands)
    (prefix_end (is_due place) commands i within (sym (same_test place (slice_get commands i)) ∙ is))

due_later : (place : ℕ) (command : Command) → is_due place command ≡ true → is_due (place + 1) command ≡ true
due_later place command is = grind (arith, nat_tests)

-- what comes before a record comes before the next one
pub walked_later : (settings : Settings) (place : ℕ) → IsWalked settings place → IsWalked settings (place + 1)
walked_later settings place walked = record {
  knows = walked.knows;
  due =
      let wider = prefix_wider (is_due place) (is_due (place + 1)) (due_later place) settings.commands.now in
      omega (arith, walked.due, wider);
}
