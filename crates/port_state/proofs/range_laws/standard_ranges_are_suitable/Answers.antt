use Rattle.std.proofs.Common.{refl, arith}
use Rattle.self_id.specs.declared.standard.Standard.TheVariants.{Ieee1995, Ieee2000}
use Rattle.port_state.proofs.Suitable.{delays-suit}
use Rattle.port_state.proofs.range_laws.standard_ranges_are_suitable.Goals as goal

pub returns-clause-fine : goal.returns-clause-fine
returns-clause-fine c ns low high = delays-suit Ieee2000 16 323 41 refl ns low (omega (arith, high))

pub returns-clause-fine_older : goal.returns-clause-fine_older
returns-clause-fine_older c ns low high = delays-suit Ieee1995 16 76 41 refl ns low (omega (arith, high))

pub returns-clause-coarse : goal.returns-clause-coarse
returns-clause-coarse c ns low high = delays-suit Ieee2000 4 324 11 refl ns low (omega (arith, high))

pub returns-clause-coarse_older : goal.returns-clause-coarse_older
returns-clause-coarse_older c ns low high = delays-suit Ieee1995 4 96 11 refl ns low (omega (arith, high))
