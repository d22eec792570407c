use Rattle.std.proofs.Common.{refl}
use Rattle.bus_view.specs.Answer.{spelt, refused}
use Rattle.bus_view.proofs.answer.view_packets.Goals as goal

pub returns-in-None : goal.returns-in-None
returns-in-None c =
    let read = rw c.in-None.is at c.in_ok-fault.ensures in
    record {
      reading = spelt read.0;
      reads = read.1;
      status_is = refl;
      text_is = record {
        packets = c.in_ok-packets.packets.items;
        shown = rw (c.as_slice.ensures, c.in_ok-quads.ensures.quads) at c.in_ok-packets.ensures;
        text_is = rw (c.deref.ensures.value, c.new.ensures.items) at c.in_ok-text-in-None.ensures;
      };
    }

pub returns : goal.returns
returns c =
    let fault = rw (c.as_slice-in-Some.ensures, c.in_ok-quads.ensures.quads, c.deref-in-Some.ensures.value) at c.in_ok-note-in-Some.ensures in
    record {
      reading = refused c.in-Some.fault;
      reads = rw c.in-Some.is at c.in_ok-fault.ensures;
      status_is = refl;
      text_is = record {
        packets = c.in_ok-packets.packets.items;
        shown = rw (c.as_slice.ensures, c.in_ok-quads.ensures.quads) at c.in_ok-packets.ensures;
        text_is = rw (c.deref-in-Some-2.ensures.value, fault.0, fault.1) at c.in_ok-text-in-Some.ensures;
      };
    }
