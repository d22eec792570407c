use Rattle.std.proofs.Common.{◌≡◌, ◌++◌, drop}
use Rattle.cabling.specs.Wiring.{ports_of}
use Rattle.report_views.specs.PlainGraph.{edges_at}
use Rattle.report_views.proofs.plain.put_edges_at.Given as goal

-- what is written so far, and then the ports that are left, are all ports
abbrev pub invariant-loop-port : goal.invariant-loop-port
invariant-loop-port l =
    l.out.items ++ edges_at l.node l.port (drop l.port (ports_of l.cabling l.node))
    ≡ l.initial.out.items ++ edges_at l.node 0 (ports_of l.cabling l.node)
