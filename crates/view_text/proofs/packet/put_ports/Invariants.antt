use Rattle.std.proofs.Common.{◌≡◌, ◌++◌}
use Rattle.view_text.specs.Packet.{ports}
use Rattle.view_text.proofs.packet.put_ports.Given as goal

-- the ports so far, and then those that are left, are all eight
abbrev pub invariant-loop-place : goal.invariant-loop-place
invariant-loop-place l = l.out.items ++ ports l.place l.last l.bits ≡ l.fn.out.items ++ ports 8 l.last l.bits
