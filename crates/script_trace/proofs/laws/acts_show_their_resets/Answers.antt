use Rattle.script_trace.proofs.ActShown.{acts-shown}
use Rattle.script_trace.proofs.laws.acts_show_their_resets.Goals as goal

pub returns : goal.returns
returns c = acts-shown c.acts_by_number.ensures c.worlds_stay_lawful.ensures.act
