-- A group that was written is read again.
use Rattle.std.proofs.Common.{◌≡◌, ℕ, zero, suc, ◌+◌, ◌*◌, ◌/◌, ◌%◌, ◌^◌, ◌<◌, ◌≤◌, Bool, true, false, eqb, eq-eqb, IsTrue, List, [], ◌∷◌, ◌++◌, length, take, drop, Ok, Err, refl, sym, ap, subst, ◌∙◌, arith, length-drop}
use Rattle.std.proofs.lemmas.List.{take-append-drop, length-take-le, nil_from_length}
use Rattle.std.proofs.Math.Seq.{take-length, take-add}
use Rattle.phy_packet.proofs.Lemmas.{bit_fits, bit-eqb}
use Rattle.phy_packet.specs.Layout.{bit}
use Rattle.phy_packet.specs.Packet.{IsQuadletOf, IsValid, quad_of, has_more}
use Rattle.phy_packet.specs.declared.packet.PhyPacket.{PhyPacket}
use Rattle.self_id.specs.declared.fault.GroupFault.{GroupFault}
use Rattle.self_id.specs.declared.node.PortStatus.{PortStatus}
use Rattle.self_id.specs.declared.standard.Standard.{Standard}
use Rattle.self_id.specs.declared.standard.Standard.TheVariants.{Ieee1995, Ieee2000}
use Rattle.self_id.specs.Node.{Node, node_with, FitBits, HasForm, IsOf, is_width_of, status_of, status_of-status_bits}
use Rattle.self_id.specs.Group.{field, fields, zero_packet, eight_packet, first_packet, five_packet, second_packet, third_packet, group}
use Rattle.self_id.specs.Refused.{LeadsOn, AllLeadOn, most_further, LeadsTo}
use Rattle.self_id.specs.codings.Reading.{packet_at, zero_in, further_in, statuses, node3, node11, node16, node19, node27, node_of_three, goes_past, single, read_at}
use Rattle.self_id.proofs.Fields.{status_below, statuses-fields, fields_small}
use Rattle.self_id.proofs.Taken.{takes}
use Rattle.self_id.proofs.Sound.{Width, three, eleven, sixteen, nineteen, full, width_of}

pub field_below : (ps : List PortStatus) (k : ℕ) → field ps k < 4
field_below [] k = omega arith
field_below (p ∷ ps) zero = status_below p
field_below (p ∷ ps) (suc k) = field_below ps k

zero_valid : (n : Node) (id : ℕ) (m : Bool) → FitBits n.attrs → id < 64 →
    IsValid (zero_packet n id m)
zero_valid n id m fits lt = record {
  fit = (omega arith, (lt, (omega arith, (bit_fits _, (fits.gap, (fits.speed, (fits.delay, (bit_fits _, (fits.power, (field_below n.ports 0, (field_below n.ports 1, (field_below n.ports 2, (bit_fits _, (bit_fits _, tt))))))))))))));
  apart = tt;
}

eight_valid : (n : Node) (id number kept : ℕ) (m : Bool) → id < 64 → number < 8 → kept < 8 →
    fields (take 8 (drop (3 + 8 * number) n.ports)) < 2 ^ 16 →
    IsValid (eight_packet n id number kept m)
eight_valid n id number kept m lt few kept_small small = record { fit = (omega arith, (lt, (omega arith, (few, (omega arith, (small, (bit_fits _, (bit_fits _, tt)))))))); apart = tt }

five_valid : (n : Node) (id : ℕ) → id < 64 → n.kept_b < 1024 → fields (drop 11 n.ports) < 2 ^ 10 →
    IsValid (five_packet n id)
five_valid n id lt kept small = record { fit = (omega arith, (lt, (omega arith, (omega arith, (omega arith, (omega arith, (bit_fits _, (bit_fits _, tt)))))))); apart = tt }

abbrev shown : (p : PhyPacket) → IsValid p → IsQuadletOf (quad_of p) p
shown p v = record { valid = v; quad_is = refl }

-- ---- slots and kept bits of the packets of a node

-- so many statuses in fields
statuses_again : (k : ℕ) (ps : List PortStatus) → length ps ≡ k → statuses k (fields ps) ≡ ps
statuses_again k ps e = ap (λ (j : ℕ). statuses j (fields ps)) (sym e) ∙ statuses-fields ps

three_again : (ps : List PortStatus) → 3 ≤ length ps →
    status_of (field ps 0) ∷ status_of (field ps 1) ∷ status_of (field ps 2) ∷ [] ≡ take 3 ps
three_again [] lt = absurd (omega arith)
three_again (p ∷ []) lt = absurd (omega arith)
three_again (p ∷ q ∷ []) lt = absurd (omega arith)
three_again (p ∷ q ∷ r ∷ ps) lt = rw (status_of-status_bits p, status_of-status_bits q, status_of-status_bits r) refl

-- eight slots more
eight_again : (ps qs : List PortStatus) (k : ℕ) → k + 8 ≤ length ps → qs ≡ take k ps →
    qs ++ statuses 8 (fields (take 8 (drop k ps))) ≡ take (k + 8) ps
eight_again ps qs k le so_far =
    let len : length (take 8 (drop k ps)) ≡ 8 = length-take-le 8 (drop k ps) (omega (arith, length-drop k ps)) in
    ap (λ (xs : List PortStatus). qs ++ xs) (statuses_again 8 (take 8 (drop k ps)) len) ∙ ap (λ (xs : List PortStatus). xs ++ take 8 (drop k ps)) so_far ∙ sym (take-add k 8 ps)

all_taken : (ps : List PortStatus) (k : ℕ) → length ps ≡ k → take k ps ≡ ps
all_taken ps k e = ap (λ (j : ℕ). take j ps) (sym e) ∙ take-length ps

kept_again : (x : ℕ) → x / 2 * 2 + (bit (eqb (x % 2) 1) * 1 + 0) ≡ x
kept_again x = rw (bit-eqb (x % 2) (omega arith)) (omega arith)

kept_b_again : (y f : ℕ) →
    y / 2 ^ 8 * 2 ^ 8 + ((f * 2 ^ 6 + y / 2 ^ 2 % 2 ^ 6) % 2 ^ 6 * 2 ^ 2 + (bit (eqb (y / 2 % 2) 1) * 2 + (bit (eqb (y % 2) 1) * 1 + 0))) ≡ y
kept_b_again y f = rw (bit-eqb (y / 2 % 2) (omega arith), bit-eqb (y % 2) (omega arith)) (omega arith)

-- the low four bits of kept_b, which packet n = 2 carries
kept_c_again : (y : ℕ) →
    y / 2 % 2 ^ 3 / 2 * 2 ^ 2 + (bit (eqb (y / 2 % 2 ^ 3 % 2) 1) * 2 + (bit (eqb (y % 2) 1) * 1 + 0)) ≡ y % 2 ^ 4
kept_c_again y = rw (bit-eqb (y / 2 % 2 ^ 3 % 2) (omega arith), bit-eqb (y % 2) (omega arith)) (omega arith)

-- ---- a node of each width is the node of its packets

abbrev zero_slots : Node → List PortStatus
zero_slots n = status_of (field n.ports 0) ∷ status_of (field n.ports 1) ∷ status_of (field n.ports 2) ∷ []

abbrev eight_fields : Node → ℕ → List PortStatus
eight_fields n k = statuses 8 (fields (take 8 (drop k n.ports)))

slots11 : (n : Node) → 11 ≤ length n.ports → zero_slots n ++ eight_fields n 3 ≡ take 11 n.ports
slots11 n le = eight_again n.ports (zero_slots n) 3 le (three_again n.ports (omega arith))

slots19 : (n : Node) → 19 ≤ length n.ports →
    (zero_slots n ++ eight_fields n 3) ++ eight_fields n 11 ≡ take 19 n.ports
slots19 n le = eight_again n.ports (zero_slots n ++ eight_fields n 3) 11 le (slots11 n (omega arith))

slots27 : (n : Node) → 27 ≤ length n.ports →
    ((zero_slots n ++ eight_fields n 3) ++ eight_fields n 11) ++ eight_fields n 19 ≡ take 27 n.ports
slots27 n le = eight_again n.ports ((zero_slots n ++ eight_fields n 3) ++ eight_fields n 11) 19 le (slots19 n (omega arith))

same3 : (n : Node) (id : ℕ) → length n.ports ≡ 3 → n.kept_a ≡ 0 → n.kept_b ≡ 0 →
    node3 (zero_in (zero_packet n id false)) ≡ n
same3 n id count a b =
    let slots : zero_slots n ≡ n.ports = three_again n.ports (omega arith) ∙ all_taken n.ports 3 count in
    ap (λ (ps : List PortStatus). node_with n.attrs ps 0 0) slots ∙ ap (λ (x : ℕ). node_with n.attrs n.ports x 0) (sym a) ∙ ap (λ (x : ℕ). node_with n.attrs n.ports n.kept_a x) (sym b)

same11 : (n : Node) (id : ℕ) → length n.ports ≡ 11 → n.kept_b ≡ 0 →
    node11 (zero_in (zero_packet n id true)) (further_in (first_packet n id false)) ≡ n
same11 n id count b =
    let slots : zero_slots n ++ eight_fields n 3 ≡ n.ports = slots11 n (omega arith) ∙ all_taken n.ports 11 count in
    rw (kept_again n.kept_a) (ap (λ (ps : List PortStatus). node_with n.attrs ps n.kept_a 0) slots) ∙ ap (λ (x : ℕ). node_with n.attrs n.ports n.kept_a x) (sym b)

same16 : (n : Node) (id : ℕ) → length n.ports ≡ 16 →
    node16 (zero_in (zero_packet n id true)) (further_in (first_packet n id true)) (further_in (five_packet n id)) ≡ n
same16 n id count =
    let f = fields (drop 11 n.ports) in
    let low : (f * 2 ^ 6 + n.kept_b / 2 ^ 2 % 2 ^ 6) / 2 ^ 6 ≡ f = omega arith in
    let five : statuses 5 ((f * 2 ^ 6 + n.kept_b / 2 ^ 2 % 2 ^ 6) / 2 ^ 6) ≡ drop 11 n.ports = ap (λ (k : ℕ). statuses 5 k) low ∙ statuses_again 5 (drop 11 n.ports) (omega (arith, length-drop 11 n.ports)) in
    let slots : (zero_slots n ++ eight_fields n 3) ++ statuses 5 ((f * 2 ^ 6 + n.kept_b / 2 ^ 2 % 2 ^ 6) / 2 ^ 6) ≡ n.ports =
    ap (λ (ps : List PortStatus). ps ++ statuses 5 ((f * 2 ^ 6 + n.kept_b / 2 ^ 2 % 2 ^ 6) / 2 ^ 6)) (slots11 n (omega arith))
    ∙ ap (λ (ps : List PortStatus). take 11 n.ports ++ ps) five ∙ take-append-drop 11 n.ports
    in
    rw (kept_again n.kept_a, kept_b_again n.kept_b f) (ap (λ (ps : List PortStatus). node_with n.attrs ps n.kept_a n.kept_b) slots)

same19 : (n : Node) (id : ℕ) → length n.ports ≡ 19 → n.kept_b % 2 ^ 4 ≡ 0 →
    node19 (zero_in (zero_packet n id true)) (further_in (first_packet n id true)) (further_in (second_packet n id false)) ≡ n
same19 n id count blank =
    let slots : (zero_slots n ++ eight_fields n 3) ++ eight_fields n 11 ≡ n.ports = slots19 n (omega arith) ∙ all_taken n.ports 19 count in
    let high : n.kept_b / 2 ^ 4 * 2 ^ 4 ≡ n.kept_b = omega arith in
    rw (kept_again n.kept_a, kept_again (n.kept_b / 2 ^ 4), high) (ap (λ (ps : List PortStatus). node_with n.attrs ps n.kept_a n.kept_b) slots)

same27 : (n : Node) (id : ℕ) → length n.ports ≡ 27 →
    node27 (zero_in (zero_packet n id true)) (further_in (first_packet n id true)) (further_in (second_packet n id true)) (further_in (third_packet n id)) ≡ n
same27 n id count =
    let slots : ((zero_slots n ++ eight_fields n 3) ++ eight_fields n 11) ++ eight_fields n 19 ≡ n.ports = slots27 n (omega arith) ∙ all_taken n.ports 27 count in
    let whole : n.kept_b / 2 ^ 4 * 2 ^ 4 + n.kept_b % 2 ^ 4 ≡ n.kept_b = omega arith in
    rw (kept_again n.kept_a, kept_again (n.kept_b / 2 ^ 4), kept_c_again n.kept_b, whole) (ap (λ (ps : List PortStatus). node_with n.attrs ps n.kept_a n.kept_b) slots)

-- ---- reading a written group

-- packets that are taken in turn
pub turn3 : (standard : Standard) (at id : ℕ) (l : List ℕ) (z : PhyPacket) →
    packet_at at id 0 l ≡ Ok z → has_more z ≡ false →
    read_at standard at id l ≡ single at (node3 (zero_in z))
unfolding read_at
turn3 standard at id l z e last = rw (e, last) refl

pub turn11 : (standard : Standard) (at id : ℕ) (l : List ℕ) (z a : PhyPacket) →
    packet_at at id 0 l ≡ Ok z → has_more z ≡ true → packet_at (at + 1) id 1 (drop 1 l) ≡ Ok a →
    has_more a ≡ false →
    read_at standard at id l ≡ single at (node11 (zero_in z) (further_in a))
unfolding read_at
turn11 standard at id l z a e more f last = rw (e, more, f, last) refl

pub turn_three : (standard : Standard) (at id : ℕ) (l : List ℕ) (z a b : PhyPacket) →
    packet_at at id 0 l ≡ Ok z → has_more z ≡ true → packet_at (at + 1) id 1 (drop 1 l) ≡ Ok a →
    has_more a ≡ true → packet_at (at + 2) id 2 (drop 2 l) ≡ Ok b →
    goes_past standard (has_more b) ≡ false → read_at standard at id l ≡ single at (node_of_three standard (zero_in z) (further_in a) (further_in b))
unfolding read_at
turn_three standard at id l z a b e more f more_a g last = rw (e, more, f, more_a, g, last) refl

pub turn27 : (at id : ℕ) (l : List ℕ) (z a b c : PhyPacket) → packet_at at id 0 l ≡ Ok z →
    has_more z ≡ true → packet_at (at + 1) id 1 (drop 1 l) ≡ Ok a → has_more a ≡ true →
    packet_at (at + 2) id 2 (drop 2 l) ≡ Ok b → has_more b ≡ true →
    packet_at (at + 3) id 3 (drop 3 l) ≡ Ok c → read_at Ieee1995 at id l ≡ single at (node27 (zero_in z) (further_in a) (further_in b) (further_in c))
unfolding read_at
turn27 at id l z a b c e more f more_a g more_b h = rw (e, more, f, more_a, g, more_b, h) refl

-- the packets of a node
pub group3 : (n : Node) (id : ℕ) → length n.ports ≡ 3 →
    group n id ≡ quad_of (zero_packet n id false) ∷ []
unfolding group
group3 n id count = rw count refl

pub group11 : (n : Node) (id : ℕ) → length n.ports ≡ 11 →
    group n id ≡ quad_of (zero_packet n id true) ∷ quad_of (first_packet n id false) ∷ []
unfolding group
group11 n id count = rw count refl

pub group16 : (n : Node) (id : ℕ) → length n.ports ≡ 16 →
    group n id ≡ quad_of (zero_packet n id true) ∷ quad_of (first_packet n id true) ∷ quad_of (five_packet n id) ∷ []
unfolding group
group16 n id count = rw count refl

pub group19 : (n : Node) (id : ℕ) → length n.ports ≡ 19 →
    group n id ≡ quad_of (zero_packet n id true) ∷ quad_of (first_packet n id true) ∷ quad_of (second_packet n id false) ∷ []
unfolding group
group19 n id count = rw count refl

pub group27 : (n : Node) (id : ℕ) → length n.ports ≡ 27 →
    group n id ≡ quad_of (zero_packet n id true) ∷ quad_of (first_packet n id true) ∷ quad_of (second_packet n id true) ∷ quad_of (third_packet n id) ∷ []
unfolding group
group27 n id count = rw count refl

pub eight_small : (n : Node) (k : ℕ) → k + 8 ≤ length n.ports →
    fields (take 8 (drop k n.ports)) < 2 ^ 16
eight_small n k some =
    let len : length (take 8 (drop k n.ports)) ≡ 8 = length-take-le 8 (drop k n.ports) (omega (arith, length-drop k n.ports)) in
    fields_small 8 (take 8 (drop k n.ports)) len

pub five_small : (n : Node) → length n.ports ≡ 16 → fields (drop 11 n.ports) < 2 ^ 10
five_small n count = fields_small 5 (drop 11 n.ports) (omega (arith, length-drop 11 n.ports))

-- packet zero and packet n = 0 are taken
zero_taken : (n : Node) (at id : ℕ) (more : Bool) (qs : List ℕ) → HasForm n → id < 64 →
    packet_at at id 0 (quad_of (zero_packet n id more) ∷ qs) ≡ Ok (zero_packet n id more)
zero_taken n at id more qs h lt = let z = zero_packet n id more in takes at id 0 (quad_of z) qs z (shown z (zero_valid n id more h.attrs lt)) refl refl refl

eight_taken : (n : Node) (at id number kept : ℕ) (more : Bool) (qs : List ℕ) → id < 64 →
    number < 8 → kept < 8 → 11 + 8 * number ≤ length n.ports →
    packet_at at id (suc number) (quad_of (eight_packet n id number kept more) ∷ qs) ≡ Ok (eight_packet n id number kept more)
eight_taken n at id number kept more qs lt few small some =
    let a = eight_packet n id number kept more in
    takes at id (suc number) (quad_of a) qs a (shown a (eight_valid n id number kept more lt few small (eight_small n (3 + 8 * number) (omega arith)))) refl refl (eq-eqb number number refl)

-- three packets, whose last one is the last of the standard
written_three : (standard : Standard) (n : Node) (b : PhyPacket) (at id : ℕ) (rest : List ℕ) →
    HasForm n → id < 64 → n.kept_a < 8 → 11 ≤ length n.ports →
    group n id ≡ quad_of (zero_packet n id true) ∷ quad_of (first_packet n id true) ∷ quad_of b ∷ [] → packet_at (at + 2) id 2 (quad_of b ∷ rest) ≡ Ok b → goes_past standard (has_more b) ≡ false →
    node_of_three standard (zero_in (zero_packet n id true)) (further_in (first_packet n id true)) (further_in b) ≡ n → read_at standard at id (group n id ++ rest) ≡ single at n
written_three standard n b at id rest h lt kept some packets third last same =
    let z = zero_packet n id true in
    let a = first_packet n id true in
    rw packets
    (turn_three standard at id (quad_of z ∷ quad_of a ∷ quad_of b ∷ rest) z a b (zero_taken n at id true (quad_of a ∷ quad_of b ∷ rest) h lt) refl
    (eight_taken n (at + 1) id 0 n.kept_a true (quad_of b ∷ rest) lt (omega arith) kept (omega arith)) refl third last ∙ ap (single at) same)

-- a width of one standard alone
only_2000 : (P : Standard → Type 0) (standard : Standard) → IsTrue (is_width_of standard 16) →
    P Ieee2000 → P standard
only_2000 P Ieee1995 w h = absurd cc
only_2000 P Ieee2000 w h = h

only_1995 : (P : Standard → Type 0) (standard : Standard) (slots : ℕ) →
    is_width_of Ieee2000 slots ≡ false → IsTrue (is_width_of standard slots) → P Ieee1995 →
    P standard
only_1995 P Ieee1995 slots other w h = h
only_1995 P Ieee2000 slots other w h = absurd cc

again_with : (standard : Standard) (n : Node) (at id : ℕ) (rest : List ℕ) → id < 64 → HasForm n →
    IsOf standard n → Width (length n.ports) →
    read_at standard at id (group n id ++ rest) ≡ single at n
again_with standard n at id rest lt h is_of (three count) =
    let z = zero_packet n id false in
    let a : n.kept_a < 1 = rw count at h.kept_a in
    let b : n.kept_b < 1 = rw count at h.kept_b in
    rw (group3 n id count) (turn3 standard at id (quad_of z ∷ rest) z (zero_taken n at id false rest h lt) refl ∙ ap (single at) (same3 n id count (omega arith) (omega arith)))
again_with standard n at id rest lt h is_of (eleven count) =
    let z = zero_packet n id true in
    let f = first_packet n id false in
    let a : n.kept_a < 8 = rw count at h.kept_a in
    let b : n.kept_b < 1 = rw count at h.kept_b in
    rw (group11 n id count)
    (turn11 standard at id (quad_of z ∷ quad_of f ∷ rest) z f (zero_taken n at id true (quad_of f ∷ rest) h lt) refl (eight_taken n (at + 1) id 0 n.kept_a false rest lt (omega arith) a (omega arith)) refl
    ∙ ap (single at) (same11 n id count (omega arith)))
again_with standard n at id rest lt h is_of (sixteen count) =
    let b = five_packet n id in
    let kept_a : n.kept_a < 8 = rw count at h.kept_a in
    let kept_b : n.kept_b < 1024 = rw count at h.kept_b in
    let w : IsTrue (is_width_of standard 16) = rw count at is_of in
    only_2000 (λ (x : Standard). read_at x at id (group n id ++ rest) ≡ single at n) standard w
    (written_three Ieee2000 n b at id rest h lt kept_a (omega arith) (group16 n id count)
    (takes (at + 2) id 2 (quad_of b) rest b (shown b (five_valid n id lt kept_b (five_small n count))) refl refl refl) refl (same16 n id count))
again_with standard n at id rest lt h is_of (nineteen count) =
    let kept_a : n.kept_a < 8 = rw count at h.kept_a in
    let kept_b : n.kept_b < 128 = rw count at h.kept_b in
    let blank : n.kept_b % 2 ^ 4 ≡ 0 = rw count at h.blank_b in
    let w : IsTrue (is_width_of standard 19) = rw count at is_of in
    only_1995 (λ (x : Standard). read_at x at id (group n id ++ rest) ≡ single at n) standard 19 refl w
    (written_three Ieee1995 n (second_packet n id false) at id rest h lt kept_a (omega arith) (group19 n id count)
    (eight_taken n (at + 2) id 1 (n.kept_b / 2 ^ 4) false rest lt (omega arith) (omega arith) (omega arith)) refl (same19 n id count blank))
again_with standard n at id rest lt h is_of (full count) =
    let z = zero_packet n id true in
    let a = first_packet n id true in
    let b = second_packet n id true in
    let c = third_packet n id in
    let kept_a : n.kept_a < 8 = rw count at h.kept_a in
    let kept_b : n.kept_b < 128 = rw count at h.kept_b in
    let w : IsTrue (is_width_of standard 27) = rw count at is_of in
    only_1995 (λ (x : Standard). read_at x at id (group n id ++ rest) ≡ single at n) standard 27 refl w
    (rw (group27 n id count)
    (turn27 at id (quad_of z ∷ quad_of a ∷ quad_of b ∷ quad_of c ∷ rest) z a b c
    (zero_taken n at id true (quad_of a ∷ quad_of b ∷ quad_of c ∷ rest) h lt) refl
    (eight_taken n (at + 1) id 0 n.kept_a true (quad_of b ∷ quad_of c ∷ rest) lt (omega arith) kept_a (omega arith)) refl
    (eight_taken n (at + 2) id 1 (n.kept_b / 2 ^ 4) true (quad_of c ∷ rest) lt (omega arith) (omega arith) (omega arith)) refl
    (eight_taken n (at + 3) id 2 (n.kept_b / 2 % 2 ^ 3) (eqb (n.kept_b % 2) 1) rest lt (omega arith) (omega arith) (omega arith))
    ∙ ap (single at) (same27 n id count)))

pub again : (standard : Standard) (n : Node) (at id : ℕ) (rest : List ℕ) → HasForm n →
    IsOf standard n → id ≤ 62 → read_at standard at id (group n id ++ rest) ≡ single at n
again standard n at id rest h is_of lt = again_with standard n at id rest (omega arith) h is_of (width_of n h)

-- ---- a fault is read as that fault

pub stop_first : (standard : Standard) (at id : ℕ) (l : List ℕ) (f : GroupFault) →
    packet_at at id 0 l ≡ Err f → read_at standard at id l ≡ Err f
unfolding read_at
stop_first standard at id l f e = rw e refl

pub stop_second : (standard : Standard) (at id : ℕ) (l : List ℕ) (z : PhyPacket) (f : GroupFault) →
    packet_at at id 0 l ≡ Ok z → has_more z ≡ true → packet_at (at + 1) id 1 (drop 1 l) ≡ Err f →
    read_at standard at id l ≡ Err f
unfolding read_at
stop_second standard at id l z f e more e_a = rw (e, more, e_a) refl

pub stop_third : (standard : Standard) (at id : ℕ) (l : List ℕ) (z a : PhyPacket) (f : GroupFault) →
    packet_at at id 0 l ≡ Ok z → has_more z ≡ true → packet_at (at + 1) id 1 (drop 1 l) ≡ Ok a →
    has_more a ≡ true → packet_at (at + 2) id 2 (drop 2 l) ≡ Err f →
    read_at standard at id l ≡ Err f
unfolding read_at
stop_third standard at id l z a f e more e_a more_a e_b = rw (e, more, e_a, more_a, e_b) refl

pub stop_fourth : (at id : ℕ) (l : List ℕ) (z a b : PhyPacket) (f : GroupFault) →
    packet_at at id 0 l ≡ Ok z → has_more z ≡ true → packet_at (at + 1) id 1 (drop 1 l) ≡ Ok a →
    has_more a ≡ true → packet_at (at + 2) id 2 (drop 2 l) ≡ Ok b → has_more b ≡ true →
    packet_at (at + 3) id 3 (drop 3 l) ≡ Err f → read_at Ieee1995 at id l ≡ Err f
unfolding read_at
stop_fourth at id l z a b f e more e_a more_a e_b more_b e_c = rw (e, more, e_a, more_a, e_b, more_b, e_c) refl

goes_on : (at id j q : ℕ) (qs : List ℕ) (p : PhyPacket) → LeadsOn id j q p →
    packet_at at id j (q ∷ qs) ≡ Ok p
goes_on at id j q qs p h = takes at id j q qs p h.shows h.self h.own h.order

-- only one standard has a packet behind three
behind_three : (P : Standard → Type 0) (standard : Standard) (count : ℕ) → 3 ≤ count →
    count ≤ most_further standard → (count ≤ 3 → P Ieee1995) → P standard
behind_three P Ieee1995 count some few go = go few
behind_three P Ieee2000 count some few go = absurd (omega arith)

stops : (standard : Standard) (at id : ℕ) (front rest : List ℕ) (f : GroupFault) →
    AllLeadOn id 0 front → length front ≤ most_further standard →
    packet_at (at + length front) id (length front) rest ≡ Err f →
    read_at standard at id (front ++ rest) ≡ Err f
stops standard at id [] rest f all few e = stop_first standard at id rest f (let same : at + 0 ≡ at = omega arith in rw same at e)
stops standard at id (q ∷ []) rest f all few e = stop_second standard at id (q ∷ rest) all.0.0 f (goes_on at id 0 q rest all.0.0 all.0.1) all.0.1.more e
stops standard at id (q ∷ r ∷ []) rest f all few e =
    stop_third standard at id (q ∷ r ∷ rest) all.0.0 all.1.0.0 f (goes_on at id 0 q (r ∷ rest) all.0.0 all.0.1) all.0.1.more
    (goes_on (at + 1) id 1 r rest all.1.0.0 all.1.0.1) all.1.0.1.more e
stops standard at id (q ∷ r ∷ s ∷ front) rest f all few e =
    behind_three (λ (x : Standard). read_at x at id (q ∷ r ∷ s ∷ (front ++ rest)) ≡ Err f) standard (length (q ∷ r ∷ s ∷ front)) (omega arith) few (λ three.
    let none : front ≡ [] = nil_from_length front (omega arith) in
    let e_c : packet_at (at + 3) id 3 (front ++ rest) ≡ Err f = subst (λ (xs : List ℕ). packet_at (at + length (q ∷ r ∷ s ∷ xs)) id (length (q ∷ r ∷ s ∷ xs)) rest ≡ Err f → packet_at (at + 3) id 3 (xs ++ rest) ≡ Err f) (sym none) (λ x. x) e in
    stop_fourth at id (q ∷ r ∷ s ∷ (front ++ rest)) all.0.0 all.1.0.0 all.1.1.0.0 f (goes_on at id 0 q (r ∷ s ∷ (front ++ rest)) all.0.0 all.0.1) all.0.1.more
    (goes_on (at + 1) id 1 r (s ∷ (front ++ rest)) all.1.0.0 all.1.0.1) all.1.0.1.more
    (goes_on (at + 2) id 2 s (front ++ rest) all.1.1.0.0 all.1.1.0.1) all.1.1.0.1.more e_c)

pub stops_at : (standard : Standard) (at id : ℕ) (l front rest : List ℕ) (place : ℕ) (f : GroupFault) →
    LeadsTo standard id at l front rest place → packet_at place id (length front) rest ≡ Err f →
    read_at standard at id l ≡ Err f
stops_at standard at id l front rest place f h e =
    ap (read_at standard at id) h.parts ∙ stops standard at id front rest f h.front_leads h.few (ap (λ (k : ℕ). packet_at k id (length front) rest) (sym h.place_is) ∙ e)
