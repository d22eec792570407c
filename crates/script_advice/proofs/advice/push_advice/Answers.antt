use Rattle.script_advice.specs.declared.advice.LoopAdvice.{LoopAdvice}
use Rattle.script_advice.specs.Advice.{IsAdviceFor}
use Rattle.script_advice.proofs.Advising.{one-advice}
use Rattle.script_advice.proofs.Fewest.{fewest-of}
use Rattle.script_advice.proofs.advice.push_advice.Goals as goal

pub returns : goal.returns
returns c = λ sets so.
    let component =
    c.components_are_whole.ensures.shared c.requires.node c.in-Some.node c.args.part.now.nodes
    c.requires.component c.in-Some.ensures.holds in
    let a : LoopAdvice = record { nodes = c.args.part.now.nodes; advice = c.in_ok-advice.advice } in
    let for : IsAdviceFor c.args.cabling.now a = record {
      node = c.in-Some.node;
      component = component;
      advised = c.in_ok-advice.ensures.advised c.args.part.now.nodes component;
      valid = c.in_ok-advice.ensures.valid;
      fewest = fewest-of c.args.cabling.now c.in-Some.node a.nodes a.advice.pulls a.advice.kept
          c.cables_are_two_ended.ensures c.requires.there component c.in_ok-advice.ensures.valid;
    } in
    one-advice c.args.cabling.now sets c.args.part.now.outcome c.in-Loop.nodes
    c.args.list.now.items c.push.new.self.items a c.in-Loop.is for c.in_ok-push.ensures.items so
