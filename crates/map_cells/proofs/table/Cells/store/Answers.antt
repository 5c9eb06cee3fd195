use Rattle.std.proofs.Common.{refl}
use Rattle.map_cells.proofs.Allotment.{stands, cells_written}
use Rattle.map_cells.proofs.table.Cells.store.Goals as goal

pub place-place-requires : goal.place-place-requires
place-place-requires c = (stands _ _ _ _ _ _ _ _ _ _ c.self.invariant c.args.id (rw (← c.self.view_is) at c.requires.kept)).some

pub put_number-requires-clause-within : goal.put_number-requires-clause-within
put_number-requires-clause-within c =
    let st = stands _ _ _ _ _ _ _ _ _ _ c.self.invariant c.args.id (rw (← c.self.view_is) at c.requires.kept) in
    rw (c.place-place.ensures) st.within

pub returns : goal.returns
returns c =
    let inside = c.self.inside in
    let st = stands _ _ _ _ _ _ _ _ _ _ c.self.invariant c.args.id (rw (← c.self.view_is) at c.requires.kept) in
    let elsewhere = rw (c.place-place.ensures) at c.put_number.ensures.elsewhere in
    let here = rw (c.place-place.ensures) at c.put_number.ensures.here in
    let changed = cells_written inside.size inside.bytes.items c.put_number.new.bytes.items inside.place_of.places c.args.id inside.places inside.free.items c.self.invariant.allotted st elsewhere in
    rw (← c.self.view_is, changed, here, st.is_cell) refl
