use Rattle.heapless_c.proofs.shown.node_in.Goals as goal

pub unreachable-requires : goal.unreachable-requires
unreachable-requires c = c.in-Err.ensures.only c.requires.node.0 c.requires.node.1
