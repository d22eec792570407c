use Rattle.port_state.proofs.StandardLeast.{least_is_within, delays_are_few}
use Rattle.port_state.proofs.range_laws.standard_times_are_few.Goals as goal

pub returns-clause-least : goal.returns-clause-least
returns-clause-least c = least_is_within

pub returns-clause-few : goal.returns-clause-few
returns-clause-few c = delays_are_few
