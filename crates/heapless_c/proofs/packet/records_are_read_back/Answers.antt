use Rattle.std.proofs.Common.{◌≡◌, ℕ, ◌<◌, ◌%◌, ◌^◌, Bool, true, false, refl, arith}
use Rattle.std.specs.Prelude.{Some}
use Rattle.phy_packet.specs.declared.packet.PhyPacket.{PhyPacket}
use Rattle.phy_packet.specs.declared.packet.PhyPacket.TheVariants.{Config, LinkOn, SelfZero, SelfMore, Extended, Other}
use Rattle.phy_packet.specs.Packet.{IsValid}
use Rattle.topology_stack.specs.Text.{truth}
use Rattle.heapless_c.specs.Packets.{is_set, packet_record, packet_in}
use Rattle.heapless_c.proofs.packet.records_are_read_back.Goals as goal

set_truth : (b : Bool) → is_set (truth b) ≡ b
set_truth true = refl
set_truth false = refl

low : (n : ℕ) → n < 2 ^ 16 → n % 2 ^ 16 ≡ n
low n lt = omega arith

read_back : (p : PhyPacket) → IsValid p → packet_in (packet_record p) ≡ Some p
read_back (Config root_id force set_gap gap rest) v = rw (set_truth force, set_truth set_gap, low rest v.fit.1.1.1.1.1.0) refl
read_back (LinkOn phy_id rest) v = refl
read_back (SelfZero phy_id link gap speed delay contender power p0 p1 p2 initiated more) v = rw (set_truth link, set_truth contender, set_truth initiated, set_truth more) refl
read_back (SelfMore phy_id n kept fields r more) v = rw (set_truth r, set_truth more) refl
read_back (Extended word) v = refl
read_back (Other word) v = refl

pub returns : goal.returns
returns c = λ p v. read_back p v
