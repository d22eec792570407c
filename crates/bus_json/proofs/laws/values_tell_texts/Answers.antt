use Rattle.bus_json.proofs.Told.{values-tell}
use Rattle.bus_json.proofs.laws.values_tell_texts.Goals as goal

pub returns : goal.returns
returns c = values-tell
