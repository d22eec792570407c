use Rattle.wave_laws.proofs.Apart.{numbers-apart, states-apart, ids-apart, roles-apart, levels-apart}
use Rattle.wave_laws.proofs.laws.values_are_apart.Goals as goal

pub returns : goal.returns
returns c = record {
  numbers = numbers-apart;
  states = states-apart;
  ids = ids-apart;
  roles = roles-apart;
  levels = levels-apart;
}
