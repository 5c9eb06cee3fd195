use Rattle.map_cells.proofs.Allotment.{stands, length_of_block}
use Rattle.map_cells.proofs.table.Cells.bytes.Goals as goal

pub place-place-requires : goal.place-place-requires
place-place-requires c = (stands _ _ _ _ _ _ _ _ _ _ c.self.invariant c.args.id (rw (← c.self.view_is) at c.requires)).some

pub block_at-requires : goal.block_at-requires
block_at-requires c =
    let st = stands _ _ _ _ _ _ _ _ _ _ c.self.invariant c.args.id (rw (← c.self.view_is) at c.requires) in
    rw (c.place-place.ensures, c.deref.ensures.value) st.within

pub returns-clause-bytes : goal.returns-clause-bytes
returns-clause-bytes c =
    let st = stands _ _ _ _ _ _ _ _ _ _ c.self.invariant c.args.id (rw (← c.self.view_is) at c.requires) in
    let read = rw (c.place-place.ensures, c.deref.ensures.value) at c.block_at.ensures in
    rw (← c.self.view_is, st.is_cell) read

pub returns-clause-size : goal.returns-clause-size
returns-clause-size c =
    let st = stands _ _ _ _ _ _ _ _ _ _ c.self.invariant c.args.id (rw (← c.self.view_is) at c.requires) in
    let read = rw (c.place-place.ensures, c.deref.ensures.value) at c.block_at.ensures in
    rw (← c.self.view_is, read) (length_of_block _ _ _ st.within)
