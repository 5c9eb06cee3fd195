use Rattle.map_cells.proofs.Writes.{block_here, block_elsewhere}
use Rattle.map_cells.proofs.blocks.write_at.Goals as goal

pub returns-clause-here : goal.returns-clause-here
returns-clause-here c = rw c.write.ensures.items (block_here c.args.size c.args.number c.args.offset c.args.bytes.now.items c.args.piece.now c.requires.within c.requires.piece)

pub returns-clause-elsewhere : goal.returns-clause-elsewhere
returns-clause-elsewhere c = rw c.write.ensures.items (block_elsewhere c.args.size c.args.number c.args.offset c.args.bytes.now.items c.args.piece.now c.requires.within c.requires.piece)
