use Rattle.std.proofs.Common.{◌∙◌, ◌+◌, ◌<◌, ℕ, List, ap, arith, string_bytes}
use Rattle.traffic.specs.TableText.{backend_record}
use Rattle.traffic.proofs.TableLemmas.{line_more}
use Rattle.traffic.proofs.tables.put_below.Goals as goal

pub numbers-preserved : goal.numbers-preserved
numbers-preserved c =
    let few : c.numbers.number + 1 < 257 = omega (arith, c.numbers-test.true, c.requires.few) in
    line_more c.args.maps.now c.size.result c.numbers.number c.entry_at-share.result c.record_of-backend.result.now (string_bytes c.args.lines.now)
    (string_bytes c.numbers.lines) (string_bytes c.put_backend.new.lines) c.numbers.invariant c.in_ok-put_backend.ensures c.size.ensures.size
    (c.entry_at-share.ensures ∙ c.requires.shares.each (c.numbers.number + 1) few)
    (c.record_of-backend.ensures ∙ ap (λ (backends : List (List ℕ)). backend_record backends c.numbers.number) c.backends.ensures)
