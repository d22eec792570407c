use Rattle.std.proofs.Common.{◌==◌, Option, subst}
use Rattle.std.specs.Prelude.{IfOk}
use Rattle.reset_log.specs.declared.notes.Pending.{Pending}
use Rattle.reset_log.specs.Noted.{begun_at}
use Rattle.reset_log.specs.Entries.{waits, entry_of, entry_if}
use Rattle.log_import.specs.codings.Standing.{Advances}
use Rattle.log_import.proofs.Steps.{found_first, both_if}
use Rattle.log_import.proofs.finder.Finder.begin.Goals as goal

pub returns-in-Some-clause-found : goal.returns-in-Some-clause-found
returns-in-Some-clause-found c =
    let held = c.args.self.now.waiting.entries in
    let old = c.args.self.now.judge in
    found_first old c.next.new.self c.next.new.self (entry_of (waits c.args.begun.card held))
    (entry_if (c.args.begun.count == 0) (begun_at c.args.self.now.number c.args.begun)) c.in-Some.found
    (subst (λ (o : Option Pending). Advances old c.next.new.self (entry_of (waits c.args.begun.card held)) o) c.in-Some.is
    (subst (λ (o : Option Pending). Advances old c.next.new.self (entry_of o) c.in_ok-found.field-0) c.remove-before.ensures.value c.in_ok-found.ensures.found))

pub returns-in-None-clause-found : goal.returns-in-None-clause-found
returns-in-None-clause-found c =
    let held = c.args.self.now.waiting.entries in
    let old = c.args.self.now.judge in
    both_if old c.next.new.self c.take_if_whole.new.self.judge (entry_of (waits c.args.begun.card held))
    (entry_if (c.args.begun.count == 0) (begun_at c.args.self.now.number c.args.begun)) c.take_if_whole.result
    (subst (λ (o : Option Pending). Advances old c.next.new.self (entry_of (waits c.args.begun.card held)) o) c.in-None.is
    (subst (λ (o : Option Pending). Advances old c.next.new.self (entry_of o) c.in_ok-found.field-0) c.remove-before.ensures.value c.in_ok-found.ensures.found))
    (subst (λ (p : Pending). IfOk c.take_if_whole.result (λ found. Advances c.next.new.self c.take_if_whole.new.self.judge (entry_if (p.left == 0) p) found)) c.begun_at.ensures c.take_if_whole.ensures.found)
