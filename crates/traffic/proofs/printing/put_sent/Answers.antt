use Rattle.std.proofs.Common.{string_bytes}
use Rattle.std.proofs.lemmas.List.{append_assoc}
use Rattle.traffic.specs.SummaryText.{moves_line, targets_text}
use Rattle.traffic.proofs.printing.put_sent.Goals as goal

pub returns : goal.returns
returns c = λ sent counted moves. record {
  targets = c.in_ok-targets.targets.items;
  rising = c.in_ok-targets.ensures.rising;
  counted = λ address. rw c.in_ok-targets.ensures.list (counted address);
  lines = rw c.in_ok-put_line.ensures (rw c.in_ok-put_targets.ensures (rw c.deref.ensures.value (rw moves
      (append_assoc (string_bytes c.args.text.now) (targets_text c.in_ok-targets.targets.items) (moves_line _)))));
}
