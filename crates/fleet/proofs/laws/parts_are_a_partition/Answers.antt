use Rattle.std.proofs.Common.{refl}
use Rattle.std.proofs.lemmas.Bool.{eq-eqb, eqb-true}
use Rattle.fleet.specs.Parts.{is_in_part, part_of_record}
use Rattle.fleet.proofs.LossLemmas.{record_below}
use Rattle.fleet.proofs.shared.PartLemmas.{found, placed, rises}
use Rattle.fleet.proofs.laws.parts_are_a_partition.Goals as goal

pub returns : goal.returns
returns c = λ of lost records some can. record {
  found = λ place sent at. (
    record_below of lost some can place sent,
    found (is_in_part of lost (part_of_record of lost place sent)) records place sent at
        (eq-eqb (part_of_record of lost place sent) (part_of_record of lost place sent) refl),
  );
  placed = λ number behind sent at.
      let it = placed (is_in_part of lost number) records behind sent at in
      (it.0, it.1, eqb-true (part_of_record of lost it.0 sent) number it.2, it.3);
  in_order = λ number place later sent at is lt.
      rises (is_in_part of lost number) records place later sent at (eq-eqb (part_of_record of lost place sent) number is) lt;
}
