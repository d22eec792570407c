use Rattle.std.proofs.lemmas.Nat.{or_lt}
use Rattle.port_state.proofs.WordBits.{adopted-port}
use Rattle.port_state.proofs.port_words.Words.adopt_all.Goals as goal

pub returns-clause-ports : goal.returns-clause-ports
returns-clause-ports c k = adopted-port c.args.self.now c.asking_ports.result k (c.asking_ports.ensures.bits k)

pub returns-clause-fits : goal.returns-clause-fits
returns-clause-fits c count fits = record {
  connected = fits.connected;
  high = fits.high;
  low = fits.low;
  child = or_lt count c.args.self.now.child c.asking_ports.result fits.child (c.asking_ports.ensures.fits count fits);
  asked = fits.asked;
  named = fits.named;
}
