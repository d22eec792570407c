use Rattle.std.proofs.Common.{◌≡◌, ◌-◌, ◌++◌, length, drop, replicate}
use Rattle.self_id.specs.declared.node.PortStatus.TheVariants.{Absent}
use Rattle.port_state.specs.Group.{statuses_from}
use Rattle.self_identify.proofs.group.statuses.Given as goal

abbrev pub invariant-loop-at : goal.invariant-loop-at
invariant-loop-at l = record {
  count : length l.list ≡ l.at;
  made :
      l.list ++ statuses_from l.at l.parent (drop l.at l.ports) ≡ statuses_from 0 l.parent l.ports;
}

abbrev pub invariant-loop-absent : goal.invariant-loop-absent
invariant-loop-absent l = record {
  count : length l.list ≡ l._absent;
  made :
      l.list ≡ statuses_from 0 l.fn.parent l.ports ++ replicate (l._absent - length l.ports) Absent;
}
