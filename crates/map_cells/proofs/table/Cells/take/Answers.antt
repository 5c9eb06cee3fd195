use Rattle.std.proofs.Common.{◌≡◌, ◌+◌, ◌-◌, ◌*◌, ◌≤◌, [], ◌∷◌, length, refl, ◌∙◌, sym, arith}
use Rattle.std.proofs.lemmas.List.{length-append}
use Rattle.map_cells.proofs.Allotment.{end_of_place, length_of_block, overwritten_whole, taken, taken_in_range, taken_unused, cells_taken, waiting_taken}
use Rattle.map_cells.proofs.table.Cells.take.Goals as goal

pub write_at-requires-clause-within : goal.write_at-requires-clause-within
write_at-requires-clause-within c =
    let inside = c.self.inside in
    let p = c.taken_place-place.result in
    let before = rw c.taken_place-place.ensures.items at c.self.invariant.allotted in
    let ends = end_of_place p inside.places inside.size (taken_in_range inside.places c.self.invariant.few inside.place_of.places c.taken_place-place.new.free.items p before) in
    omega (arith, ends, c.self.invariant.bytes_room)

pub invariant_of-self : goal.invariant_of-self
invariant_of-self c =
    let inside = c.self.inside in
    let p = c.taken_place-place.result in
    let before = rw c.taken_place-place.ensures.items at c.self.invariant.allotted in
    rw c.push.ensures (record {
      small_size = c.self.invariant.small_size;
      few = c.self.invariant.few;
      bytes_room = c.write_at.ensures.len ∙ c.self.invariant.bytes_room;
      place_room = c.self.invariant.place_room;
      free_room = omega (arith, c.self.invariant.free_room, c.taken_place-place.ensures.room);
      retired_room = c.self.invariant.retired_room;
      allotted = taken inside.places c.self.invariant.few inside.place_of.places c.taken_place-place.new.free.items p before;
      waiting = waiting_taken inside.place_of.places p inside.retired.items c.self.invariant.waiting;
    })

pub returns-clause-table : goal.returns-clause-table
returns-clause-table c =
    let inside = c.self.inside in
    let p = c.taken_place-place.result in
    let before = rw c.taken_place-place.ensures.items at c.self.invariant.allotted in
    let ends = end_of_place p inside.places inside.size (taken_in_range inside.places c.self.invariant.few inside.place_of.places c.taken_place-place.new.free.items p before) in
    let size = rw (← c.self.view_is) at c.requires.size in
    let within : p * inside.size + inside.size ≤ length inside.bytes.items = omega (arith, ends, c.self.invariant.bytes_room) in
    let whole = overwritten_whole c.args.bytes.now _ (size ∙ sym (length_of_block inside.size inside.bytes.items p within)) in
    let cells = cells_taken inside.places c.self.invariant.few inside.place_of.places c.taken_place-place.new.free.items p before inside.size inside.bytes.items c.write_at.new.bytes.items c.args.bytes.now c.write_at.ensures.elsewhere (c.write_at.ensures.here ∙ whole) in
    let count : length inside.free.items - 1 ≡ length c.taken_place-place.new.free.items = rw c.taken_place-place.ensures.items (omega (arith, length-append c.taken_place-place.new.free.items (p ∷ []))) in
    rw (← c.self.view_is, c.push.ensures, cells, count) refl

pub push-requires-clause-place : goal.push-requires-clause-place
push-requires-clause-place c =
    let inside = c.self.inside in
    let p = c.taken_place-place.result in
    let before = rw c.taken_place-place.ensures.items at c.self.invariant.allotted in
    rw c.self.invariant.place_room (taken_in_range inside.places c.self.invariant.few inside.place_of.places c.taken_place-place.new.free.items p before)

pub push-requires-clause-unused : goal.push-requires-clause-unused
push-requires-clause-unused c =
    let inside = c.self.inside in
    let before = rw c.taken_place-place.ensures.items at c.self.invariant.allotted in
    taken_unused inside.places c.self.invariant.few inside.place_of.places c.taken_place-place.new.free.items c.taken_place-place.result before
