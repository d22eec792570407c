-- The coins that a source of coins in memory gives.
use Rattle.port_state.specs.Coins.{Coins, bits, words}
use Rattle.port_state.specs.declared.coins.Source.{Source}
use Rattle.port_state.specs.declared.coins.Source.TheVariants.{Repeated, Generated}

abbrev pub coins_of : Source → Coins
coins_of (Repeated b) = bits b.word b.len b.place
coins_of (Generated g) = words g
