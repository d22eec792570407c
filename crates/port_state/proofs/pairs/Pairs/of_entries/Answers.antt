use Rattle.std.proofs.Common.{◌++◌, ap}
use Rattle.port_state.specs.PortSet.{all_sent}
use Rattle.port_state.specs.declared.signal.Signal.TheVariants as signal
use Rattle.port_state.proofs.OnPorts.{none-sent}
use Rattle.port_state.proofs.pairs.Pairs.of_entries.Goals as goal

pub returns : goal.returns
returns c = ap (λ xs. xs ++ all_sent c.args.entries.now) (none-sent c.none.result signal.Idle c.none.ensures)
