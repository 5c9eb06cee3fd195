use Rattle.std.proofs.Common.{refl}
use Rattle.worked_examples.proofs.passes.two_workers.all_four.Goals as goal

pub returns : goal.returns
returns g c = record {
  controller = c.args.controller;
  reclaimer = c.args.reclaimer;
  first = c.args.first;
  second = c.args.second;
  all = rw (c.push_reserved-4.ensures.items, c.push_reserved-3.ensures.items, c.push_reserved-2.ensures.items, c.push_reserved.ensures.items, c.in_ok-passes.ensures.items) refl;
  who = (c.requires.controller.0, c.requires.reclaimer.0, c.requires.first.0, c.requires.second.0);
  none = (c.requires.controller.1, c.requires.reclaimer.1);
  four = c.requires.first.1;
  one = c.requires.second.1;
}
