use Rattle.trace_laws.proofs.Feeds.{lines-end-once}
use Rattle.trace_laws.proofs.ReadOn.{traces-are-read-whole}
use Rattle.trace_laws.proofs.TraceLines.{traces-are-of-events}
use Rattle.trace_laws.proofs.laws.traces_are_of_events.Goals as goal

pub returns : goal.returns
returns c =
    let events = traces-are-of-events c.names_are_tested.ensures c.one_tree.ensures c.acts_keep.ensures.nodes in
    record { events = events; ends = lines-end-once; reads = traces-are-read-whole events }
