use Rattle.std.proofs.Common.{rules, arith}
use Rattle.std.proofs.lemmas.Str.Pattern.{split_parts}
use Rattle.journals.proofs.Lines.{all_read, no_entry, no_feed, not_told, first_told, tells_none, tells_some, earlier_shard, read_more, count_fits}
use Rattle.journals.proofs.parsing.lines_of.Goals as goal

pub returns-in-None : goal.returns-in-None
returns-in-None c =
    let parts = rw c.in-Some.is at (split_parts 10 c.lines.rest.now c.split_once.result c.split_once.ensures.cases (omega arith)) in
    let tells = tells_none _ _ _ _ c.in-None.is c.in_ok-entry_of.ensures in
    all_read _ _ _ _ _ _ _ c.lines.invariant.1 (no_entry _ _ _ _ (not_told _ _ _ c.in-Some.line.now c.in-Some.after.now parts.0 parts.1 tells))

pub returns-then-shard-len : goal.returns-then-shard-len
returns-then-shard-len c =
    let parts = rw c.in-Some.is at (split_parts 10 c.lines.rest.now c.split_once.result c.split_once.ensures.cases (omega arith)) in
    let tells = tells_some _ _ _ _ _ c.in-Some-2.is c.in_ok-entry_of.ensures in
    let first = first_told _ _ _ c.in-Some.line.now c.in-Some.after.now c.in-Some-2.entry parts.0 tells.0 tells.1 in
    all_read _ _ _ _ _ _ _ c.lines.invariant.1 (earlier_shard _ _ _ _ _ c.in-Some-2.entry first (search rules))

pub overflow_add-count : goal.overflow_add-count
overflow_add-count c =
    let fits = count_fits _ _ _ _ _ _ _ c.lines.invariant.1 in
    let parts = rw c.in-Some.is at (split_parts 10 c.lines.rest.now c.split_once.result c.split_once.ensures.cases (omega arith)) in
    search rules

pub lines-preserved : goal.lines-preserved
lines-preserved c =
    let parts = rw c.in-Some.is at (split_parts 10 c.lines.rest.now c.split_once.result c.split_once.ensures.cases (omega arith)) in
    let tells = tells_some _ _ _ _ _ c.in-Some-2.is c.in_ok-entry_of.ensures in
    let first = first_told _ _ _ c.in-Some.line.now c.in-Some.after.now c.in-Some-2.entry parts.0 tells.0 tells.1 in (
      search rules,
      rw c.in_ok-push-in-Some-2.ensures.pushed
          (read_more _ _ _ _ _ _ _ _ c.finish_before.new.present _ c.in-Some-2.entry c.lines.invariant.1 first (search rules) (search rules) c.in_ok-finish_before-in-Some-2.ensures.divided),
    )

pub returns : goal.returns
returns c =
    let lacks = rw c.in_default.is at (split_parts 10 c.lines.rest.now c.split_once.result c.split_once.ensures.cases (omega arith)) in
    all_read _ _ _ _ _ _ _ c.lines.invariant.1 (no_entry _ _ _ _ (no_feed _ _ _ lacks))
