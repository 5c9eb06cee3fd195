-- What the rule sends fits through the tunnel.
use Rattle.std.proofs.Common.{◌≡◌, ◌≤◌, ◌<◌, ℕ, Bool, true, false, List, Option, Some, None, sym, refl, arith}
use Rattle.std.proofs.lemmas.Bool.Decides.{nat_tests}
use Rattle.wire.specs.FlowForm.{HasFlow}
use Rattle.wire.specs.declared.ethernet.Ipv4Address.{Ipv4Address}
use Rattle.wire.specs.PlainIpv4.{IsPlainIpv4, total_length, time_to_live}
use Rattle.ipip.specs.declared.fault.IpipFault.{IpipFault}
use Rattle.ipip.specs.declared.fault.IpipFault.TheVariants.{TtlZero, TooLong, NoRoom, NotPlainIpv4}
use Rattle.conntrack.specs.declared.records.VipRecord.{VipRecord}
use Rattle.conntrack.specs.declared.choosing.Records.{Records}
use Rattle.conntrack.specs.declared.choosing.Choice.TheVariants.{Pass, Tx}
use Rattle.conntrack.specs.SteeringRule.{IsSteered, fits_tunnel, choice_for_service}

sent_fits : (fits : Bool) (records : Records) (vip : Option VipRecord) (number : ℕ) (address : Ipv4Address) (updates : Bool) →
    choice_for_service fits records vip ≡ Tx number address updates → fits ≡ true
sent_fits true records vip number address updates was = refl
sent_fits false records None number address updates was = cc
sent_fits false records (Some vip) number address updates was = cc

-- what a frame must be to be encapsulated
pub record CanGo (frame : List ℕ) : Type 0 where
  pub plain : IsPlainIpv4 frame
  pub alive : 0 < time_to_live frame
  pub short : total_length frame ≤ 1480

fits_goes : (frame : List ℕ) → HasFlow frame → fits_tunnel frame ≡ true → CanGo frame
fits_goes frame flow fits = record {
  plain = flow.plain;
  alive = grind (arith, nat_tests);
  short = grind (arith, nat_tests);
}

-- what holds of no frame that can go does not hold of one that the rule sends
pub sent_can_go : (frame : List ℕ) (records : Records) (number : ℕ) (address : Ipv4Address) (updates : Bool) →
    IsSteered frame records (Tx number address updates) → (CanGo frame → ⊥) → ⊥
sent_can_go frame records number address updates steered cannot =
    let has_none : HasFlow frame → ⊥ =
    (λ flow. cannot (fits_goes frame flow (sent_fits (fits_tunnel frame) records records.vip number address updates (sym (steered.with_flow flow)))))
    in let passes : Tx number address updates ≡ Pass = steered.without_flow has_none
    in cc

-- each refusal of the tunnel says something that does not hold of such a frame
pub never_refused : (frame : List ℕ) (headroom : ℕ) (fault : IpipFault) → CanGo frame → 20 ≤ headroom →
    (fault ≡ NotPlainIpv4 → ¬ IsPlainIpv4 frame) → (fault ≡ TtlZero → time_to_live frame ≡ 0) → (fault ≡ TooLong → 1480 < total_length frame) →
    (fault ≡ NoRoom → headroom < 20) → ⊥
never_refused frame headroom NotPlainIpv4 can room not_plain dead long full = not_plain refl can.plain
never_refused frame headroom TtlZero can room not_plain dead long full =
    let zero : time_to_live frame ≡ 0 = dead refl in let alive : 0 < time_to_live frame = can.alive in omega arith
never_refused frame headroom TooLong can room not_plain dead long full =
    let more : 1480 < total_length frame = long refl in let short : total_length frame ≤ 1480 = can.short in omega arith
never_refused frame headroom NoRoom can room not_plain dead long full =
    let less : headroom < 20 = full refl in omega arith
