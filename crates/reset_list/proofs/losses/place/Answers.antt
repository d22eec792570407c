use Rattle.std.proofs.Common.{◌∙◌}
use Rattle.reset_list.specs.Losses.{is_loss}
use Rattle.reset_list.proofs.Update.{place_is}
use Rattle.reset_list.proofs.losses.place.Goals as goal

pub returns : goal.returns
returns c = c.first.ensures ∙ place_is (is_loss c.args.card c.args.cable) c.args.losses.now
