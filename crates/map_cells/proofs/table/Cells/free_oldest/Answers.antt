use Rattle.std.proofs.Common.{[], ◌∷◌, refl, arith}
use Rattle.std.proofs.lemmas.List.{length-append}
use Rattle.map_cells.proofs.Allotment.{freed, waiting_freed, cells_freed, room_for_freed}
use Rattle.map_cells.proofs.table.Cells.free_oldest.Goals as goal

pub take-place-requires : goal.take-place-requires
take-place-requires c =
    let waiting = rw c.in-Some.ensures.items at c.self.invariant.waiting in
    waiting.kept 0 (omega arith)

pub give_place-requires : goal.give_place-requires
give_place-requires c =
    let inside = c.self.inside in
    let waiting = rw c.in-Some.ensures.items at c.self.invariant.waiting in
    let room = room_for_freed inside.places c.self.invariant.few inside.place_of.places inside.free.items c.in-Some.one.id c.self.invariant.allotted (waiting.kept 0 (omega arith)) in
    omega (arith, room, c.self.invariant.free_room)

pub invariant_of-self : goal.invariant_of-self
invariant_of-self c =
    let inside = c.self.inside in
    let waiting = rw c.in-Some.ensures.items at c.self.invariant.waiting in
    let some = waiting.kept 0 (omega arith) in
    rw (c.give_place.ensures.items, c.take-place.ensures.place, c.take-place.ensures.taken) (record {
      small_size = c.self.invariant.small_size;
      few = c.self.invariant.few;
      bytes_room = c.self.invariant.bytes_room;
      place_room = c.self.invariant.place_room;
      free_room = omega (arith, c.self.invariant.free_room, c.give_place.ensures.room);
      retired_room = omega (arith, c.self.invariant.retired_room, c.pop_front.ensures.capacity);
      allotted = freed inside.places c.self.invariant.few inside.place_of.places inside.free.items c.in-Some.one.id c.self.invariant.allotted some;
      waiting = waiting_freed inside.place_of.places c.in-Some.one c.pop_front.new.self.items waiting;
    })

pub returns : goal.returns
returns c =
    let inside = c.self.inside in
    let cells = cells_freed inside.size inside.bytes.items inside.place_of.places c.in-Some.one.id in
    rw (← c.self.view_is, c.in-Some.ensures.items, c.give_place.ensures.items, c.take-place.ensures.taken, cells, length-append inside.free.items (c.take-place.result ∷ [])) refl
