-- The first packet of the list of a bus, and what comes of the list if another quadlet takes its place.
use Rattle.std.proofs.Common.{◌≡◌, ◌≢◌, ℕ, zero, suc, ◌/◌, ◌%◌, ◌^◌, ◌<◌, ◌≤◌, Bool, true, false, eqb, IsTrue, List, [], ◌∷◌, ◌++◌, length, take, drop, map, slice_set, get_or, refl, sym, ap, subst, ◌∙◌, arith}
use Rattle.std.specs.Prelude.{◌==◌, if◌then◌else◌}
use Rattle.phy_packet.specs.Packet.{quad_of, IsQuadletOf, is_self_id}
use Rattle.phy_packet.specs.declared.packet.PhyPacket.{PhyPacket}
use Rattle.phy_packet.specs.declared.packet.PhyPacket.TheVariants.{Config, LinkOn, SelfZero, SelfMore, Extended, Other}
use Rattle.phy_packet.proofs.Lemmas.{bit_below, self_zero_of, self_more_of, shows-self_zero, shows-self_more}
use Rattle.self_id.specs.declared.fault.GroupFault.{GroupFault}
use Rattle.self_id.specs.declared.fault.GroupFault.TheVariants.{NotSelfId as OtherPacket, WrongId as OtherNode, BadOrder as OtherOrder, Cut as CutOff}
use Rattle.self_id.specs.declared.node.Attrs.{Attrs}
use Rattle.self_id.specs.declared.node.PortStatus.{PortStatus}
use Rattle.self_id.specs.declared.node.PortStatus.TheVariants.{Up}
use Rattle.self_id.specs.declared.standard.Standard.{Standard}
use Rattle.self_id.specs.declared.standard.Standard.TheVariants.{Ieee1995, Ieee2000}
use Rattle.self_id.specs.Node.{Node, node_with, FitBits, IsNode, IsOf, is_width}
use Rattle.self_id.specs.Group.{group, zero_packet, first_packet, five_packet, second_packet, third_packet}
use Rattle.self_id.specs.Refused.{GroupRefused, most_further}
use Rattle.self_id.proofs.Lemmas.{field_below}
use Rattle.topology_stack.specs.declared.fault.TreeFault.TheVariants.{Group}
use Rattle.topology_stack.specs.Tree.{walk, AreOf, groups}
use Rattle.topology_stack.proofs.Lemmas.{some_node}
use Rattle.flawed_capture.specs.declared.flaw.Flaw.{Flaw}
use Rattle.flawed_capture.specs.declared.flaw.Flaw.TheVariants.{NotSelfId, WrongId, BadOrder, Cut}
use Rattle.flawed_capture.specs.Flaw.{HasListFlaw, of_group}
use Rattle.flawed_capture.specs.Other.{IsOther}
use Rattle.flawed_capture.specs.Spoilt.{IsListOfBus}
use Rattle.flawed_capture.proofs.Counted.{AreShown, whole_shown}

-- ---- the first packet

-- the node with other statuses in its first three slots
abbrev pub with_first : Node → PortStatus → PortStatus → PortStatus → Node
with_first n p q r = node_with n.attrs (p ∷ q ∷ r ∷ drop 3 n.ports) n.kept_a n.kept_b

-- both groups begin with packet zero, and go on alike
pub record Begins (n : Node) (p q r : PortStatus) (id : ℕ) : Type 0 where
  pub more : Bool
  pub tail : List ℕ
  pub own : group n id ≡ quad_of (zero_packet n id more) ∷ tail
  pub other : group (with_first n p q r) id ≡ quad_of (zero_packet (with_first n p q r) id more) ∷ tail

-- the packets of a node by the tests of its number of slots
abbrev quads_by : Bool → Bool → Bool → Bool → Node → ℕ → List ℕ
quads_by b3 b11 b16 b19 n id =
    map quad_of (if b3 then zero_packet n id false ∷ []
    else (if b11 then zero_packet n id true ∷ first_packet n id false ∷ []
    else (if b16 then zero_packet n id true ∷ first_packet n id true ∷ five_packet n id ∷ []
    else (if b19 then zero_packet n id true ∷ first_packet n id true ∷ second_packet n id false ∷ []
    else zero_packet n id true ∷ first_packet n id true ∷ second_packet n id true ∷ third_packet n id ∷ []))))

record Both (b3 b11 b16 b19 : Bool) (n m : Node) (id : ℕ) : Type 0 where
  more : Bool
  tail : List ℕ
  own : quads_by b3 b11 b16 b19 n id ≡ quad_of (zero_packet n id more) ∷ tail
  other : quads_by b3 b11 b16 b19 m id ≡ quad_of (zero_packet m id more) ∷ tail

by_tests : (b3 b11 b16 b19 : Bool) (attrs : Attrs) (a b c p q r : PortStatus) (ps : List PortStatus) (ka kb id : ℕ) →
    Both b3 b11 b16 b19 (node_with attrs (a ∷ b ∷ c ∷ ps) ka kb) (node_with attrs (p ∷ q ∷ r ∷ ps) ka kb) id
by_tests true b11 b16 b19 attrs a b c p q r ps ka kb id = record { more = false; tail = []; own = refl; other = refl }
by_tests false true b16 b19 attrs a b c p q r ps ka kb id = record { more = true; tail = _; own = refl; other = refl }
by_tests false false true b19 attrs a b c p q r ps ka kb id = record { more = true; tail = _; own = refl; other = refl }
by_tests false false false true attrs a b c p q r ps ka kb id = record { more = true; tail = _; own = refl; other = refl }
by_tests false false false false attrs a b c p q r ps ka kb id = record { more = true; tail = _; own = refl; other = refl }

grouped : (n : Node) (id : ℕ) →
    group n id ≡ quads_by (length n.ports == 3) (length n.ports == 11) (length n.ports == 16) (length n.ports == 19) n id
unfolding group
grouped n id = by_bools (length n.ports == 3) (length n.ports == 11) (length n.ports == 16) (length n.ports == 19)
  where
    by_bools : (b3 b11 b16 b19 : Bool) →
        map quad_of (if b3 then zero_packet n id false ∷ []
        else (if b11 then zero_packet n id true ∷ first_packet n id false ∷ []
        else (if b16 then zero_packet n id true ∷ first_packet n id true ∷ five_packet n id ∷ []
        else (if b19 then zero_packet n id true ∷ first_packet n id true ∷ second_packet n id false ∷ []
        else zero_packet n id true ∷ first_packet n id true ∷ second_packet n id true ∷ third_packet n id ∷ []))))
        ≡ quads_by b3 b11 b16 b19 n id
    by_bools b3 b11 b16 b19 = refl

-- a node has three slots at least
pub wide : (k : ℕ) → IsTrue (is_width k) → 3 ≤ k
wide zero w = absurd cc
wide (suc zero) w = absurd cc
wide (suc (suc zero)) w = absurd cc
wide (suc (suc (suc k))) w = omega arith

begins_by : (attrs : Attrs) (ports : List PortStatus) (ka kb : ℕ) (p q r : PortStatus) (id : ℕ) → 3 ≤ length ports →
    Begins (node_with attrs ports ka kb) p q r id
begins_by attrs [] ka kb p q r id some = absurd (omega arith)
begins_by attrs (a ∷ []) ka kb p q r id some = absurd (omega arith)
begins_by attrs (a ∷ b ∷ []) ka kb p q r id some = absurd (omega arith)
begins_by attrs (a ∷ b ∷ c ∷ ps) ka kb p q r id some =
    let k : ℕ = length (a ∷ b ∷ c ∷ ps) in
    let both = by_tests (k == 3) (k == 11) (k == 16) (k == 19) attrs a b c p q r ps ka kb id in
    record {
      more = both.more;
      tail = both.tail;
      own = grouped (node_with attrs (a ∷ b ∷ c ∷ ps) ka kb) id ∙ both.own;
      other = grouped (node_with attrs (p ∷ q ∷ r ∷ ps) ka kb) id ∙ both.other;
    }

pub begins : (n : Node) (p q r : PortStatus) (id : ℕ) → IsNode n → Begins n p q r id
begins n p q r id h = begins_by n.attrs n.ports n.kept_a n.kept_b p q r id (wide (length n.ports) h.form.width)

-- the first node of a bus: its packet zero, and what follows
pub record IsFirst (standard : Standard) (list : List ℕ) (n : Node) : Type 0 where
  pub is_node : IsNode n
  pub is_of : IsOf standard n
  pub rest : List ℕ
  pub parts : list ≡ group n 0 ++ rest

first_by : (standard : Standard) (ns : List Node) → AreShown ns → AreOf standard ns → 0 < length ns →
    (n : Node) × IsFirst standard (groups 0 ns) n
first_by standard [] shown of some = absurd (omega arith)
first_by standard (n ∷ ns) shown of some = (n, record { is_node = shown.0; is_of = of.0; rest = groups 1 ns; parts = refl })

pub first : (standard : Standard) (nodes : ℕ) (list : List ℕ) → IsListOfBus standard nodes list →
    (n : Node) × IsFirst standard list n
first standard nodes list bus =
    subst (λ (l : List ℕ). (n : Node) × IsFirst standard l n) bus.emitted
    (first_by standard (walk bus.t) (whole_shown bus.t bus.bus.bus.whole) bus.bus.nodes (some_node bus.t))

-- ---- its bits

-- 10, the ID 0, and the bit of packet zero
pub top_bits : (n : Node) (more : Bool) → FitBits n.attrs → quad_of (zero_packet n 0 more) / 2 ^ 23 ≡ 256
top_bits n more fit =
    omega (arith, fit.gap, fit.speed, fit.delay, fit.power, bit_below n.attrs.link, bit_below n.attrs.contender, bit_below n.attrs.initiated, bit_below more, field_below n.ports 0, field_below n.ports 1, field_below n.ports 2)

-- a self-ID packet has 10 in its top two bits
top_is : (q : ℕ) (p : PhyPacket) → IsQuadletOf q p → q / 2 ^ 30 ≢ 2 → is_self_id p ≡ false
top_is q (Config root force set_gap gap rest) shows other = refl
top_is q (LinkOn id rest) shows other = refl
top_is q (SelfZero id l g s d c w p0 p1 p2 i m) shows other =
    absurd (other (let v = shows.valid.fit in omega (arith, shows.quad_is, v.1.0, v.1.1.1.1.0, v.1.1.1.1.1.0, v.1.1.1.1.1.1.0, v.1.1.1.1.1.1.1.1.0, v.1.1.1.1.1.1.1.1.1.0, v.1.1.1.1.1.1.1.1.1.1.0, v.1.1.1.1.1.1.1.1.1.1.1.0, bit_below l, bit_below c, bit_below i, bit_below m)))
top_is q (SelfMore id n k f r m) shows other =
    absurd (other (let v = shows.valid.fit in omega (arith, shows.quad_is, v.1.0, v.1.1.1.0, v.1.1.1.1.0, v.1.1.1.1.1.0, bit_below r, bit_below m)))
top_is q (Extended w) shows other = refl
top_is q (Other w) shows other = refl

-- ---- what comes of another quadlet in its place

-- no group of node 0 begins the list
pub group_flaw : (standard : Standard) (l : List ℕ) (f : GroupFault) (flaw : Flaw) → 0 < length l →
    GroupRefused standard 0 0 l f → flaw ≡ of_group f → HasListFlaw standard l flaw
group_flaw standard l f flaw some refused is = record {
  fault = Group f;
  refused = (
    [],
    [],
    l,
    0,
    record {
      forest = record { waiting = tt; are_of = tt; emitted = refl };
      parts = refl;
      more = some;
      place = refl;
      few = omega arith;
    },
    refused,
  );
  kind = is;
}

other_packet : (standard : Standard) (q0 q : ℕ) (qs : List ℕ) → q0 / 2 ^ 23 ≡ 256 → IsOther NotSelfId standard q0 q →
    HasListFlaw standard (q ∷ qs) NotSelfId
other_packet standard q0 q qs top other =
    let ne : q / 2 ^ 30 ≢ 2 = λ e. other (omega (arith, e, top)) in
    group_flaw standard (q ∷ qs) (OtherPacket 0) NotSelfId (omega arith) ([], qs, q, record { parts = refl; front_leads = tt; few = omega arith; place_is = refl }, λ p shows. top_is q p shows ne) refl

other_node : (standard : Standard) (q0 q : ℕ) (qs : List ℕ) → q0 / 2 ^ 23 ≡ 256 → IsOther WrongId standard q0 q →
    HasListFlaw standard (q ∷ qs) WrongId
other_node standard q0 q qs top other =
    let shows = shows-self_zero q (omega (arith, top, other.0)) (omega (arith, top, other.2)) in
    let ne : q / 2 ^ 24 % 64 ≢ 0 = λ e. other.1 (omega (arith, e, top, other.0)) in
    group_flaw standard (q ∷ qs) (OtherNode 0 (q / 2 ^ 24 % 64) 0) WrongId (omega arith)
    ([], qs, q, self_zero_of q, record { parts = refl; front_leads = tt; few = omega arith; place_is = refl }, shows, refl, refl, refl, ne) refl

other_order : (standard : Standard) (q0 q : ℕ) (qs : List ℕ) → q0 / 2 ^ 23 ≡ 256 → IsOther BadOrder standard q0 q →
    HasListFlaw standard (q ∷ qs) BadOrder
other_order standard q0 q qs top other =
    let next : q / 2 ^ 23 ≡ 257 = omega (arith, top, other.0, other.1) in
    let shows = shows-self_more q (omega (arith, next)) (omega (arith, next)) in
    let own : q / 2 ^ 24 % 64 ≡ 0 = omega (arith, next) in
    group_flaw standard (q ∷ qs) (OtherOrder 0) BadOrder (omega arith)
    ([], qs, q, self_more_of q, record { parts = refl; front_leads = tt; few = omega arith; place_is = refl }, shows, refl, own, refl) refl

one_leads : (standard : Standard) → 1 ≤ most_further standard
one_leads Ieee1995 = omega arith
one_leads Ieee2000 = omega arith

cut_off : (standard : Standard) (q0 q : ℕ) → q0 / 2 ^ 23 ≡ 256 → IsOther Cut standard q0 q →
    HasListFlaw standard (q ∷ []) Cut
cut_off standard q0 q top other =
    let shows = shows-self_zero q (omega (arith, top, other)) (omega (arith, top, other)) in
    let own : q / 2 ^ 24 % 64 ≡ 0 = omega (arith, top, other) in
    let set : q % 2 ≡ 1 = omega (arith, other) in
    let more : eqb (q % 2) 1 ≡ true = ap (λ (x : ℕ). eqb x 1) set in
    group_flaw standard (q ∷ []) (CutOff 1) Cut (omega arith) (
      q ∷ [],
      record {
        parts = refl;
        front_leads = ((self_zero_of q, record { shows = shows; self = refl; own = own; order = refl; more = more }), tt);
        few = one_leads standard;
        place_is = refl;
      },
      omega arith,
    ) refl

-- the list begins with a packet zero of ID 0, in whose place the quadlet stands
record IsReplaced (list spoilt : List ℕ) (quad : ℕ) : Type 0 where
  top : get_or list 0 0 / 2 ^ 23 ≡ 256
  rest : List ℕ
  parts : spoilt ≡ quad ∷ rest

replaced_by : (standard : Standard) (list spoilt : List ℕ) (quad : ℕ) (n : Node) → IsFirst standard list n →
    spoilt ≡ slice_set list 0 quad → IsReplaced list spoilt quad
replaced_by standard list spoilt quad n h is =
    let b = begins n Up Up Up 0 h.is_node in
    let all : list ≡ quad_of (zero_packet n 0 b.more) ∷ (b.tail ++ h.rest) = h.parts ∙ ap (λ (l : List ℕ). l ++ h.rest) b.own in
    record {
      top = ap (λ (l : List ℕ). get_or l 0 0 / 2 ^ 23) all ∙ top_bits n b.more h.is_node.form.attrs;
      rest = b.tail ++ h.rest;
      parts = is ∙ ap (λ (l : List ℕ). slice_set l 0 quad) all;
    }

replaced : (standard : Standard) (nodes : ℕ) (list spoilt : List ℕ) (quad : ℕ) → IsListOfBus standard nodes list →
    spoilt ≡ slice_set list 0 quad → IsReplaced list spoilt quad
replaced standard nodes list spoilt quad bus is =
    let n = first standard nodes list bus in
    replaced_by standard list spoilt quad n.0 n.1 is

module _ (standard : Standard) (nodes : ℕ) (list spoilt : List ℕ) (quad : ℕ) (bus : IsListOfBus standard nodes list)
    (is : spoilt ≡ slice_set list 0 quad) where
  r : IsReplaced list spoilt quad
  r = replaced standard nodes list spoilt quad bus is

  pub to_other_packet : IsOther NotSelfId standard (get_or list 0 0) quad → HasListFlaw standard spoilt NotSelfId
  to_other_packet other = subst (λ (l : List ℕ). HasListFlaw standard l NotSelfId) (sym r.parts) (other_packet standard (get_or list 0 0) quad r.rest r.top other)

  pub to_other_node : IsOther WrongId standard (get_or list 0 0) quad → HasListFlaw standard spoilt WrongId
  to_other_node other = subst (λ (l : List ℕ). HasListFlaw standard l WrongId) (sym r.parts) (other_node standard (get_or list 0 0) quad r.rest r.top other)

  pub to_other_order : IsOther BadOrder standard (get_or list 0 0) quad → HasListFlaw standard spoilt BadOrder
  to_other_order other = subst (λ (l : List ℕ). HasListFlaw standard l BadOrder) (sym r.parts) (other_order standard (get_or list 0 0) quad r.rest r.top other)

  pub to_cut : (short : List ℕ) → short ≡ take 1 spoilt → IsOther Cut standard (get_or list 0 0) quad →
      HasListFlaw standard short Cut
  to_cut short ends other =
      subst (λ (l : List ℕ). HasListFlaw standard l Cut) (sym (ends ∙ ap (λ (l : List ℕ). take 1 l) r.parts)) (cut_off standard (get_or list 0 0) quad r.top other)
