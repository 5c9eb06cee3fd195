use Rattle.std.proofs.Common.{length, refl, string_bytes}
use Rattle.traffic.proofs.LastShareLemmas.{shares_more}
use Rattle.traffic.proofs.share_lines.put_shares.Goals as goal

pub numbers-preserved : goal.numbers-preserved
numbers-preserved c =
    shares_more c.args.words.now c.args.records.now c.numbers.number c.share_of-share.result (length c.args.words.now) c.word_at-address.result
    (string_bytes c.args.lines.now) (string_bytes c.numbers.lines) (string_bytes c.put_share.new.lines) c.numbers.invariant
    c.in_ok-put_share.ensures c.share_of-share.ensures refl c.word_at-address.ensures
