use Rattle.std.proofs.Common.{◌∙◌, List, ap}
use Rattle.reset_list.specs.declared.counts.Tally.{Tally}
use Rattle.reset_list.specs.Counts.{is_tally}
use Rattle.reset_list.specs.Update.{place_of}
use Rattle.reset_list.proofs.counts.Tallies.place.Goals as goal

pub returns : goal.returns
returns c =
    c.copied.ensures ∙ c.get.ensures.value ∙ c.self.invariant (c.args.card, c.args.node)
    ∙ ap (λ (ts : List Tally). place_of (is_tally c.args.card c.args.node) ts) c.self.view_is
