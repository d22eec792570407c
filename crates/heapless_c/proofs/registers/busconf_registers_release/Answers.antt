use Rattle.std.proofs.Common.{refl, sym, ap, ◌∙◌, arith}
use Rattle.resource_manager.specs.declared.grant.Seen.{Seen}
use Rattle.resource_manager.specs.Register.{Values}
use Rattle.resource_manager.specs.Grant.{release_fault}
use Rattle.heapless_c.specs.Registers.{seen_in, refused}
use Rattle.heapless_c.proofs.registers.busconf_registers_release.Goals as goal

pub returns-in-Err : goal.returns-in-Err
returns-in-Err c =
    let fault = ap (λ (v : Values). release_fault v (seen_in c.args.seen.now) c.args.channel c.args.units) (sym c.registers_in-held.ensures) ∙ ap (λ (s : Seen). release_fault c.registers_in-held.result s c.args.channel c.args.units) (sym c.seen_in.ensures) ∙ sym c.in-Err.ensures.fault in
    refused c.in-Err.found (omega arith) (omega arith) fault refl c.grant_record.ensures refl
