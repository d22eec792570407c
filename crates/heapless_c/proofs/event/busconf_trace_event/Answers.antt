use Rattle.std.proofs.Common.{refl}
use Rattle.heapless_c.specs.Events.{told, none}
use Rattle.heapless_c.proofs.event.busconf_trace_event.Goals as goal

pub returns : goal.returns
returns c = told c.in-Some.found.event c.in-Some.ensures.found c.event_record.ensures refl

-- where the line of an event stands one is found
pub returns-in_default : goal.returns-in_default
returns-in_default c =
    none (λ e end shown. let stop = c.in_default.ensures.only e end shown in absurd cc) refl refl refl
