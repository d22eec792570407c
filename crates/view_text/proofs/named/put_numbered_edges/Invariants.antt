use Rattle.std.proofs.Common.{◌≡◌, ◌++◌, drop}
use Rattle.view_text.specs.NamedGraph.{numbered_edges}
use Rattle.view_text.proofs.named.put_numbered_edges.Given as goal

abbrev pub invariant-loop-cable : goal.invariant-loop-cable
invariant-loop-cable l =
    l.out.items ++ numbered_edges l.numbers (drop l.cable-index l.cables)
    ≡ l.initial.out.items ++ numbered_edges l.numbers l.cables
