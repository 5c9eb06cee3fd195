use Rattle.std.proofs.Common.{◌≡◌, ◌∙◌, sym, arith}
use Rattle.control.proofs.Words.{letter_read, vip_case, up_case, down_case, gateway_case}
use Rattle.control.proofs.reading.action_of.Goals as goal

pub returns-then-letter-eq118 : goal.returns-then-letter-eq118
returns-then-letter-eq118 c = λ action fits is.
    vip_case c.args.text.now c.after.result.now c.vip_of.result c.after.ensures c.vip_of.ensures action fits is
    (sym c.if-letter-eq118.true ∙ letter_read c.args.text.now c.as_bytes.result.now c.byte_at-letter.result action c.as_bytes.ensures.value c.byte_at-letter.ensures is)

pub returns-then-letter-eq117 : goal.returns-then-letter-eq117
returns-then-letter-eq117 c = λ action fits is.
    up_case c.args.text.now c.after-then-letter-eq117.result.now c.up_of.result c.after-then-letter-eq117.ensures c.up_of.ensures action fits is
    (sym c.if-letter-eq117.true ∙ letter_read c.args.text.now c.as_bytes.result.now c.byte_at-letter.result action c.as_bytes.ensures.value c.byte_at-letter.ensures is)

pub returns-then-letter-eq100 : goal.returns-then-letter-eq100
returns-then-letter-eq100 c = λ action fits is.
    down_case c.args.text.now c.after-then-letter-eq100.result.now c.count_of.result c.after-then-letter-eq100.ensures c.count_of.ensures action fits is
    (sym c.if-letter-eq100.true ∙ letter_read c.args.text.now c.as_bytes.result.now c.byte_at-letter.result action c.as_bytes.ensures.value c.byte_at-letter.ensures is)

pub returns : goal.returns
returns c = λ action fits is.
    gateway_case c.args.text.now c.after-2.result.now c.gateway_of.result c.after-2.ensures c.gateway_of.ensures c.byte_at-letter.result c.if-letter-eq118.false c.if-letter-eq117.false c.if-letter-eq100.false action fits is
    (letter_read c.args.text.now c.as_bytes.result.now c.byte_at-letter.result action c.as_bytes.ensures.value c.byte_at-letter.ensures is)
