use Rattle.std.proofs.Common.{arith}
use Rattle.resource_manager.proofs.Histories.{freed_between, freed_before, conserves}
use Rattle.resource_manager.proofs.UnderWay.{IsDone, all_made}
use Rattle.resource_manager.proofs.access.serve_all.Goals as goal

pub returns-clause-freed_between : goal.returns-clause-freed_between
returns-clause-freed_between c =
    let done : IsDone c.args.regs.now c.loop-i.regs c.args.accesses.now c.loop-i.answers =
    all_made _ _ c.loop-i.i _ _ (omega arith) (omega arith) c.loop-i.invariant in
    rw done.given (freed_between c.args.accesses.now c.args.regs.now c.requires.permitted)

pub returns-clause-freed_before : goal.returns-clause-freed_before
returns-clause-freed_before c =
    let done : IsDone c.args.regs.now c.loop-i.regs c.args.accesses.now c.loop-i.answers =
    all_made _ _ c.loop-i.i _ _ (omega arith) (omega arith) c.loop-i.invariant in
    rw done.given (freed_before c.args.accesses.now c.args.regs.now c.requires.permitted)

pub returns-clause-conserves : goal.returns-clause-conserves
returns-clause-conserves c =
    let done : IsDone c.args.regs.now c.loop-i.regs c.args.accesses.now c.loop-i.answers =
    all_made _ _ c.loop-i.i _ _ (omega arith) (omega arith) c.loop-i.invariant in
    rw (done.given, done.left) (conserves c.args.accesses.now c.args.regs.now c.requires.permitted)
