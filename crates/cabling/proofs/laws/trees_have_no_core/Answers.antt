use Rattle.cabling.proofs.Small.{loopless, small_tree}
use Rattle.cabling.proofs.Whole.{seen_no_loop}
use Rattle.cabling.proofs.laws.trees_have_no_core.Goals as goal

pub returns : goal.returns
returns c = record {
  tree = λ root set core there small k core_is empty label. small_tree c.args.c.now label root set (loopless c.args.c.now root set core c.cables_are_two_ended.ensures there k small core_is empty);
  no_core = λ root set core label tree k core_is h. seen_no_loop c.args.c.now label root set core tree c.cables_are_two_ended.ensures k core_is h;
}
