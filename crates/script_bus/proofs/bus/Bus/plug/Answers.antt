use Rattle.std.proofs.Common.{refl, subst}
use Rattle.cabling.specs.declared.cable.End.{End}
use Rattle.cable_world.specs.declared.act.Act.TheVariants as act
use Rattle.script_told.specs.Step.{Acts, Named, end_of}
use Rattle.script_bus.proofs.Doing.{named}
use Rattle.script_bus.proofs.bus.Bus.plug.Goals as goal

pub returns-clause-is : goal.returns-clause-is
returns-clause-is c =
    let bus = c.args.self.now in
    let b = c.args.b.now in
    record {
      is = tt;
      comes = λ r h. named bus c.args.a.now c.in_ok-a.a (λ i. Named bus b (λ j. Acts bus (act.Plug (end_of i c.args.a_port) (end_of j c.args.b_port)))) r c.in_ok-a.ensures.value
          (named bus b c.in_ok-b.b (λ j. Acts bus (act.Plug (end_of c.in_ok-a.a c.args.a_port) (end_of j c.args.b_port))) r c.in_ok-b.ensures.value
          (subst (λ (e : End). Acts bus (act.Plug e (end_of c.in_ok-b.b c.args.b_port)) r) c.end_of.ensures
          (subst (λ (e : End). Acts bus (act.Plug c.end_of.result e) r) c.end_of-2.ensures h)));
      told = λ voice after. refl;
    }
