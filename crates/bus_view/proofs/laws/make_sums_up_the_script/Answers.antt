use Rattle.bus_view.proofs.Summed.{summed}
use Rattle.bus_view.proofs.laws.make_sums_up_the_script.Goals as goal

pub returns : goal.returns
returns c = summed c.made_scripts_have_no_fault.ensures.told
