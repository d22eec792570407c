use Rattle.view_text.proofs.OneCable.{one_cable, one_less}
use Rattle.view_text.proofs.laws.each_node_hangs_on_one_cable.Goals as goal

pub returns : goal.returns
returns c = record { one = one_cable; count = one_less }
