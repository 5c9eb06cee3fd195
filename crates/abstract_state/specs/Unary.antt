-- What an operation with one operand makes of an interval.
use Rattle.abstract_scalar.specs.declared.interval.Interval.{Interval}
use Rattle.abstract_scalar.specs.Transfer.{neg_of, movsx64_of, movsx32_of, swap_of}
use Rattle.abstract_state.specs.declared.transfer.Unary.{Unary}
use Rattle.abstract_state.specs.declared.transfer.Unary.TheVariants.{Neg, Movsx, Movsx32, Swap}

abbrev pub unary_change : Unary → Interval → Interval
unary_change (Neg width) i = neg_of width i
unary_change (Movsx extension) i = movsx64_of extension i
unary_change (Movsx32 extension) i = movsx32_of extension i
unary_change (Swap order width) i = swap_of order width i
