use Rattle.trace_event.proofs.Spelled.{the_packet}
use Rattle.trace_event.proofs.happenings.signal_at.Goals as goal

pub returns-clause-only : goal.returns-clause-only
returns-clause-only c =
    the_packet c.packet_at.result c.in_default.ensures.only c.in_default-this_signal_at.ensures.only
    c.in_default-this_signal_at-2.ensures.only c.in_default-this_signal_at-3.ensures.only
    c.in_default-this_signal_at-4.ensures.only c.in_default-this_signal_at-5.ensures.only
    c.packet_at.ensures.found c.packet_at.ensures.only
