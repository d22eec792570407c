-- A PHY packet in words: its kind, and its fields by the standard's names.
use Rattle.std.specs.Prelude.{ℕ, zero, suc, ◌+◌, ◌-◌, ◌*◌, ◌/◌, ◌%◌, ◌^◌, Bool, ◌==◌, if◌then◌else◌, List, [], ◌++◌, codes, decimal}
use Rattle.phy_packet.specs.declared.packet.PhyPacket.{PhyPacket}
use Rattle.phy_packet.specs.declared.packet.PhyPacket.TheVariants.{Config, LinkOn, SelfZero, SelfMore, Extended, Other}
use Rattle.self_id.specs.declared.node.PortStatus.{PortStatus}
use Rattle.self_id.specs.declared.node.PortStatus.TheVariants.{Absent, Unplugged, Up, Down}
use Rattle.self_id.specs.Node.{status_of}
use Rattle.topology_stack.specs.Text.{truth}

-- a word and a number
unfoldable pub field : List ℕ → ℕ → List ℕ
field word n = word ++ decimal n

-- the same of a field that is reserved, which is shown where it isn't zero
unfoldable pub reserved : List ℕ → ℕ → List ℕ
reserved word n = if n == 0 then [] else field word n

-- what a port status says
abbrev pub status_word : PortStatus → List ℕ
status_word Absent = codes " absent"
status_word Unplugged = codes " inactive"
status_word Up = codes " parent"
status_word Down = codes " child"

-- ` pN STATUS`: a port by its number, and the two bits of its status
unfoldable pub port : ℕ → ℕ → List ℕ
port number bits = field (codes " p") number ++ status_word (status_of bits)

-- so many ports by rising number up to the last one, of which the lowest two bits tell
abbrev pub ports : ℕ → ℕ → ℕ → List ℕ
ports zero last bits = []
ports (suc k) last bits = port (last - k) (bits / 2 ^ (2 * k) % 4) ++ ports k last bits

-- `self-ID zero phy_ID N L N gap_cnt N sp N c N pwr N p0 S p1 S p2 S i N m N`. The bits that
-- 1394-1995 calls del, and 1394a-2000 reserves, stand behind sp where they aren't zero.
unfoldable pub zero_link : ℕ → Bool → ℕ → ℕ → List ℕ
zero_link phy_id link gap speed =
    field (codes "self-ID zero phy_ID ") phy_id ++ (field (codes " L ") (truth link)
    ++ (field (codes " gap_cnt ") gap ++ field (codes " sp ") speed))

unfoldable pub zero_power : ℕ → Bool → ℕ → List ℕ
zero_power delay contender power =
    reserved (codes " del ") delay ++ (field (codes " c ") (truth contender)
    ++ field (codes " pwr ") power)

unfoldable pub zero_ports : ℕ → ℕ → ℕ → Bool → Bool → List ℕ
zero_ports p0 p1 p2 initiated more =
    port 0 p0 ++ (port 1 p1 ++ (port 2 p2 ++ (field (codes " i ") (truth initiated)
    ++ field (codes " m ") (truth more))))

-- `self-ID n N phy_ID N`, the eight ports of packet n, of which the first is 3 + 8n, and m; the
-- reserved bits rsv and r where they aren't zero
unfoldable pub more_text : ℕ → ℕ → ℕ → ℕ → Bool → Bool → List ℕ
more_text phy_id n kept bits r more =
    field (codes "self-ID n ") n ++ (field (codes " phy_ID ") phy_id
    ++ (reserved (codes " rsv ") kept ++ (ports 8 (10 + 8 * n) bits
    ++ (reserved (codes " r ") (truth r) ++ field (codes " m ") (truth more)))))

unfoldable pub config_text : ℕ → Bool → Bool → ℕ → ℕ → List ℕ
config_text root_id force set_gap gap rest =
    field (codes "PHY configuration root_ID ") root_id ++ (field (codes " R ") (truth force)
    ++ (field (codes " T ") (truth set_gap) ++ (field (codes " gap_cnt ") gap
    ++ reserved (codes " rsv ") rest)))

unfoldable pub link_on_text : ℕ → ℕ → List ℕ
link_on_text phy_id rest =
    field (codes "link-on phy_ID ") phy_id ++ reserved (codes " rsv ") rest

-- an extended packet has its type in the four bits below phy_ID and the two zeros
unfoldable pub extended_text : ℕ → List ℕ
extended_text word =
    field (codes "extended phy_ID ") (word / 2 ^ 24 % 64)
    ++ field (codes " type ") (word / 2 ^ 18 % 16)

abbrev pub packet_text : PhyPacket → List ℕ
packet_text (Config root_id force set_gap gap rest) = config_text root_id force set_gap gap rest
packet_text (LinkOn phy_id rest) = link_on_text phy_id rest
packet_text (SelfZero phy_id link gap speed delay contender power p0 p1 p2 initiated more) =
    zero_link phy_id link gap speed
    ++ (zero_power delay contender power ++ zero_ports p0 p1 p2 initiated more)
packet_text (SelfMore phy_id n kept bits r more) = more_text phy_id n kept bits r more
packet_text (Extended word) = extended_text word
packet_text (Other word) = codes "no PHY packet"
