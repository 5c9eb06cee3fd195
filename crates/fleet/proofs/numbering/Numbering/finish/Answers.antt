use Rattle.std.proofs.Common.{◌≡◌, ◌∙◌, ◌++◌, ◌∷◌, ℕ, [], List, ap, arith, length, map, rules, sym, take}
use Rattle.fleet.specs.Parts.{number_in_part}
use Rattle.fleet.proofs.NumberLemmas.{left_late, numbers_so_far, one_behind, taken_few}
use Rattle.fleet.proofs.numbering.Numbering.finish.Goals as goal

pub left-init : goal.left-init
left-init c =
    let start : c.len-place.result ≡ length c.args.self.numbers.items = search rules in
    record {
      from = omega (arith, start);
      numbers = λ past are. numbers_so_far c.args.frames.now past c.args.self are
          ∙ ap (λ (n : ℕ). map (number_in_part c.args.self.part.of c.args.self.part.lost c.args.self.part.number past) (take n c.args.frames.now)) (sym start);
    }

pub last_number-requires : goal.last_number-requires
last_number-requires c =
    let are = c.requires.numbered in
    let late = left_late c.args.frames.now c.requires.past c.args.self c.left.place are c.left.invariant.from c.left-test.true in
    let few = taken_few c.args.frames.now c.requires.past c.args.self are in
    let passed = are.passed in
    omega (arith, late, few, passed)

pub left-preserved : goal.left-preserved
left-preserved c = record {
  from = (let from = c.left.invariant.from in omega (arith, from));
  numbers = λ past are.
      c.in_ok-push.ensures.items
      ∙ ap (λ (ns : List ℕ). ns ++ c.last_number.result ∷ []) (c.left.invariant.numbers past are)
      ∙ ap (λ n. map (number_in_part c.args.self.part.of c.args.self.part.lost c.args.self.part.number past) (take c.left.place c.args.frames.now) ++ n ∷ [])
      (c.last_number.ensures ∙ are.taken)
      ∙ sym (one_behind c.args.self.part.of c.args.self.part.lost c.args.self.part.number c.args.frames.now past c.left.place c.left-test.true
      (left_late c.args.frames.now past c.args.self c.left.place are c.left.invariant.from c.left-test.true));
}
