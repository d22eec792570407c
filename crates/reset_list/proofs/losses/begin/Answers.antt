use Rattle.std.proofs.Common.{◌∙◌, refl}
use Rattle.reset_list.specs.Losses.{is_loss, one_more_loss}
use Rattle.reset_list.proofs.Update.{updated_none}
use Rattle.reset_list.proofs.losses.begin.Goals as goal

pub returns : goal.returns
returns c =
    c.in_ok-push.ensures.items
    ∙ updated_none (is_loss c.args.card c.args.cable) (one_more_loss c.args.card c.args.cable c.args.now) c.args.losses.now.items _ c.requires refl
