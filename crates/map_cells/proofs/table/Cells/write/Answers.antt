use Rattle.std.proofs.Common.{refl, ◌∙◌, sym}
use Rattle.map_cells.proofs.Allotment.{stands, length_of_block, cells_written, overwritten_whole}
use Rattle.map_cells.proofs.table.Cells.write.Goals as goal

pub place-place-requires : goal.place-place-requires
place-place-requires c = (stands _ _ _ _ _ _ _ _ _ _ c.self.invariant c.args.id (rw (← c.self.view_is) at c.requires.kept)).some

pub write_at-requires-clause-within : goal.write_at-requires-clause-within
write_at-requires-clause-within c =
    let st = stands _ _ _ _ _ _ _ _ _ _ c.self.invariant c.args.id (rw (← c.self.view_is) at c.requires.kept) in
    rw (c.place-place.ensures) st.within

pub returns : goal.returns
returns c =
    let inside = c.self.inside in
    let st = stands _ _ _ _ _ _ _ _ _ _ c.self.invariant c.args.id (rw (← c.self.view_is) at c.requires.kept) in
    let size = rw (← c.self.view_is) at c.requires.size in
    let elsewhere = rw (c.place-place.ensures) at c.write_at.ensures.elsewhere in
    let here = rw (c.place-place.ensures) at c.write_at.ensures.here in
    let changed = cells_written inside.size inside.bytes.items c.write_at.new.bytes.items inside.place_of.places c.args.id inside.places inside.free.items c.self.invariant.allotted st elsewhere in
    let whole = overwritten_whole c.args.bytes.now _ (size ∙ sym (length_of_block _ _ _ st.within)) in
    rw (← c.self.view_is, changed, here, whole) refl
