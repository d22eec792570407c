use Rattle.std.proofs.Common.{length, refl, arith}
use Rattle.std.proofs.lemmas.Option.{slice_get_read}
use Rattle.reset_list.specs.Losses.{is_loss, one_more_loss}
use Rattle.reset_list.proofs.Update.{place_within, updated_at}
use Rattle.reset_list.proofs.losses.again.Goals as goal

pub index-requires : goal.index-requires
index-requires c =
    omega (arith, place_within (is_loss c.args.card c.args.cable) c.args.losses.now.items c.args.at c.requires, c.args.losses.now.ok.0)

pub index_mut-requires : goal.index_mut-requires
index_mut-requires c =
    omega (arith, place_within (is_loss c.args.card c.args.cable) c.args.losses.now.items c.args.at c.requires, c.args.losses.now.ok.0)

pub returns : goal.returns
returns c =
    let losses = c.args.losses.now.items in
    updated_at (is_loss c.args.card c.args.cable) (one_more_loss c.args.card c.args.cable c.args.now) losses c.index.result.now c.more.result c.args.at c.requires
    (slice_get_read losses (length losses) c.args.at c.index.result.now refl (place_within (is_loss c.args.card c.args.cable) losses c.args.at c.requires) c.index.ensures)
    c.more.ensures
