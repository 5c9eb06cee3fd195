use Rattle.std.proofs.Common.{◌<◌, arith}
use Rattle.std.specs.VecDeque.{deque_len, deque_capacity}
use Rattle.map_cells.proofs.Allotment.{kept_place, waiting_retired}
use Rattle.map_cells.proofs.table.Cells.retire.Goals as goal

pub invariant_of-self : goal.invariant_of-self
invariant_of-self c =
    let inside = c.self.inside in
    let some = kept_place inside.size inside.bytes.items inside.place_of.places c.args.id (rw (← c.self.view_is) at c.requires.kept) in
    let fresh = rw (← c.self.view_is) at c.requires.once in
    let latest = rw (← c.self.view_is) at c.requires.latest in
    let room = rw (← c.self.view_is) at c.requires.room in
    let fits : deque_len inside.retired < deque_capacity inside.retired = omega (arith, room, c.self.invariant.retired_room) in
    let items = rw (c.push_back-placed.ensures.succeeds fits) at c.push_back-placed.ensures.items in
    rw items (record {
      small_size = c.self.invariant.small_size;
      few = c.self.invariant.few;
      bytes_room = c.self.invariant.bytes_room;
      place_room = c.self.invariant.place_room;
      free_room = c.self.invariant.free_room;
      retired_room = omega (arith, c.self.invariant.retired_room, c.push_back-placed.ensures.capacity);
      allotted = c.self.invariant.allotted;
      waiting = waiting_retired inside.place_of.places inside.retired.items c.args.id c.args.stamp c.self.invariant.waiting some fresh latest;
    })
