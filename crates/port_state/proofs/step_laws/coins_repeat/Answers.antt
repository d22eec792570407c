use Rattle.port_state.proofs.CoinPlaces.{coin_at-given}
use Rattle.port_state.proofs.step_laws.coins_repeat.Goals as goal

pub returns : goal.returns
returns c = coin_at-given
