use Rattle.std.proofs.Common.{[]}
use Rattle.std.specs.Prelude.{codes}
use Rattle.view_text.specs.Packet.{field}
use Rattle.view_text.specs.Sentence.{children_sentence}
use Rattle.quad_lanes.proofs.Lemmas.{three}
use Rattle.view_text.proofs.sentence.children_sentence.Goals as goal

pub returns : goal.returns
unfolding children_sentence
returns c =
    three [] _ _ _ (field (codes "Found trees of nodes that wait for a parent: ") c.args.found) _ _ (rw c.new-sentence.ensures at c.put_count.ensures.field) c.put_count-2.ensures.field c.put.ensures
