-- Of the packets of a group the first alone is a packet zero, so a list of groups has as many packet
-- zeros as nodes.
use Rattle.std.proofs.Common.{◌≡◌, ℕ, ◌+◌, ◌*◌, ◌/◌, ◌%◌, ◌^◌, ◌<◌, ◌≤◌, Bool, true, false, cond, ◌&&◌, eqb, List, [], ◌∷◌, ◌++◌, length, take, drop, refl, sym, ap, ◌∙◌, arith}
use Rattle.std.proofs.lemmas.List.Recursion.{is_count_by}
use Rattle.phy_packet.specs.Layout.{bit}
use Rattle.phy_packet.specs.Packet.{quad_of, is_packet_zero}
use Rattle.self_id.specs.Node.{Node, HasForm, FitBits}
use Rattle.self_id.specs.Group.{field, fields, group, node_count, zero_packet, eight_packet, five_packet}
pub use Rattle.self_id.proofs.Again.{field_below}
use Rattle.self_id.proofs.Again.{group3, group11, group16, group19, group27, eight_small, five_small}
use Rattle.self_id.proofs.Sound.{three, eleven, sixteen, nineteen, full, width_of, bit_below}

-- the marks of a quadlet that shows packet zero, and of one that shows a further packet
zero_marks : (q id l g s d c w p0 p1 p2 i m : ℕ) → id < 64 → l < 2 → g < 64 → s < 4 → d < 4 →
    c < 2 → w < 8 → p0 < 4 → p1 < 4 → p2 < 4 → i < 2 → m < 2 →
    q ≡ 2 * 2 ^ 30 + id * 2 ^ 24 + l * 2 ^ 22 + g * 2 ^ 16 + s * 2 ^ 14 + d * 2 ^ 12 + c * 2 ^ 11 + w * 2 ^ 8 + p0 * 2 ^ 6 + p1 * 2 ^ 4 + p2 * 2 ^ 2 + i * 2 + m →
    (q / 2 ^ 30 ≡ 2) × (q / 2 ^ 23 % 2 ≡ 0)
zero_marks q id l g s d c w p0 p1 p2 i m b0 b1 b2 b3 b4 b5 b6 b7 b8 b9 b10 b11 e = (omega arith, omega arith)

more_mark : (q id n k f r m : ℕ) → id < 64 → n < 8 → k < 4 → f < 2 ^ 16 → r < 2 → m < 2 →
    q ≡ 2 * 2 ^ 30 + id * 2 ^ 24 + 2 ^ 23 + n * 2 ^ 20 + k * 2 ^ 18 + f * 2 ^ 2 + r * 2 + m → q / 2 ^ 23 % 2 ≡ 1
more_mark q id n k f r m b0 b1 b2 b3 b4 b5 e = omega arith

is_zero : (q : ℕ) → q / 2 ^ 30 ≡ 2 → q / 2 ^ 23 % 2 ≡ 0 → is_packet_zero q ≡ true
is_zero q top mark = rw (top, mark) refl

and_false : (b : Bool) → (b && false) ≡ false
and_false true = refl
and_false false = refl

is_further : (q : ℕ) → q / 2 ^ 23 % 2 ≡ 1 → is_packet_zero q ≡ false
is_further q mark = rw mark (and_false (eqb (q / 2 ^ 30) 2))

pub zero_shows : (n : Node) (id : ℕ) (m : Bool) → FitBits n.attrs → id < 64 →
    is_packet_zero (quad_of (zero_packet n id m)) ≡ true
zero_shows n id m fits lt =
    let q = quad_of (zero_packet n id m) in
    let h = zero_marks q id (bit n.attrs.link) n.attrs.gap n.attrs.speed n.attrs.delay (bit n.attrs.contender) n.attrs.power (field n.ports 0) (field n.ports 1) (field n.ports 2) (bit n.attrs.initiated) (bit m)
    lt (bit_below n.attrs.link) fits.gap fits.speed fits.delay (bit_below n.attrs.contender) fits.power (field_below n.ports 0) (field_below n.ports 1) (field_below n.ports 2) (bit_below n.attrs.initiated) (bit_below m) (omega arith) in
    is_zero q h.0 h.1

pub eight_shows : (n : Node) (id number kept : ℕ) (m : Bool) → id < 64 → number < 8 → kept < 8 →
    11 + 8 * number ≤ length n.ports →
    is_packet_zero (quad_of (eight_packet n id number kept m)) ≡ false
eight_shows n id number kept m lt few small some =
    let q = quad_of (eight_packet n id number kept m) in
    let f = fields (take 8 (drop (3 + 8 * number) n.ports)) in
    is_further q (more_mark q id number (kept / 2) f (bit (eqb (kept % 2) 1)) (bit m) lt few (omega arith) (eight_small n (3 + 8 * number) (omega arith)) (bit_below (eqb (kept % 2) 1)) (bit_below m) (omega arith))

pub five_shows : (n : Node) (id : ℕ) → id < 64 → n.kept_b < 1024 →
    fields (drop 11 n.ports) < 2 ^ 10 → is_packet_zero (quad_of (five_packet n id)) ≡ false
five_shows n id lt kept small =
    let q = quad_of (five_packet n id) in
    let f = fields (drop 11 n.ports) * 2 ^ 6 + n.kept_b / 2 ^ 2 % 2 ^ 6 in
    is_further q (more_mark q id 1 (n.kept_b / 2 ^ 8) f (bit (eqb (n.kept_b / 2 % 2) 1)) (bit (eqb (n.kept_b % 2) 1)) lt (omega arith) (omega arith) (omega arith) (bit_below (eqb (n.kept_b / 2 % 2) 1)) (bit_below (eqb (n.kept_b % 2) 1)) (omega arith))

-- ---- counting

zeros_in : List ℕ → ℕ
zeros_in [] = 0
zeros_in (q ∷ qs) = cond (is_packet_zero q) (1 + zeros_in qs) (zeros_in qs)

counted : (l : List ℕ) → zeros_in l ≡ node_count l
unfolding zeros_in
counted l = is_count_by zeros_in is_packet_zero refl (λ q qs. refl) l

one_more : (b : Bool) (m n : ℕ) → cond b (1 + (m + n)) (m + n) ≡ cond b (1 + m) m + n
one_more true m n = omega arith
one_more false m n = refl

zeros_in-append : (k l : List ℕ) → zeros_in (k ++ l) ≡ zeros_in k + zeros_in l
unfolding zeros_in
zeros_in-append [] l = omega arith
zeros_in-append (q ∷ k) l = rw (zeros_in-append k l) (one_more (is_packet_zero q) (zeros_in k) (zeros_in l))

pub node_count-append : (k l : List ℕ) → node_count (k ++ l) ≡ node_count k + node_count l
node_count-append k l = rw (← counted (k ++ l), ← counted k, ← counted l) (zeros_in-append k l)

-- further packets have none
NoneOf : List ℕ → Type 0
NoneOf [] = Unit {0}
NoneOf (q ∷ qs) = (is_packet_zero q ≡ false) × NoneOf qs

none_of : (qs : List ℕ) → NoneOf qs → zeros_in qs ≡ 0
unfolding zeros_in NoneOf
none_of [] h = refl
none_of (q ∷ qs) h = rw h.0 (none_of qs h.1)

one_of : (l : List ℕ) (q : ℕ) (qs : List ℕ) → l ≡ q ∷ qs → is_packet_zero q ≡ true → NoneOf qs →
    node_count l ≡ 1
unfolding zeros_in
one_of l q qs e z h = ap node_count e ∙ sym (counted (q ∷ qs)) ∙ rw (z, none_of qs h) refl

-- a group shows one node
pub node_count-group : (n : Node) (id : ℕ) → HasForm n → id < 64 → node_count (group n id) ≡ 1
unfolding NoneOf
node_count-group n id h lt =
    let zero = λ (m : Bool). zero_shows n id m h.attrs lt in
    elim (width_of n h) [
      | three count ↦ one_of (group n id) _ [] (group3 n id count) (zero false) tt
      | eleven count ↦
          let kept : n.kept_a < 8 = rw count at h.kept_a in
          one_of (group n id) _ _ (group11 n id count) (zero true) (eight_shows n id 0 n.kept_a false lt (omega arith) kept (omega arith), tt)
      | sixteen count ↦
          let kept : n.kept_a < 8 = rw count at h.kept_a in
          let kept_b : n.kept_b < 1024 = rw count at h.kept_b in
          one_of (group n id) _ _ (group16 n id count) (zero true)
          (eight_shows n id 0 n.kept_a true lt (omega arith) kept (omega arith), (five_shows n id lt kept_b (five_small n count), tt))
      | nineteen count ↦
          let kept : n.kept_a < 8 = rw count at h.kept_a in
          let kept_b : n.kept_b < 128 = rw count at h.kept_b in
          one_of (group n id) _ _ (group19 n id count) (zero true)
          (eight_shows n id 0 n.kept_a true lt (omega arith) kept (omega arith), (eight_shows n id 1 (n.kept_b / 2 ^ 4) false lt (omega arith) (omega arith) (omega arith), tt))
      | full count ↦
          let kept : n.kept_a < 8 = rw count at h.kept_a in
          let kept_b : n.kept_b < 128 = rw count at h.kept_b in
          one_of (group n id) _ _ (group27 n id count) (zero true) (
            eight_shows n id 0 n.kept_a true lt (omega arith) kept (omega arith),
            (
              eight_shows n id 1 (n.kept_b / 2 ^ 4) true lt (omega arith) (omega arith) (omega arith),
              (eight_shows n id 2 (n.kept_b / 2 % 2 ^ 3) (eqb (n.kept_b % 2) 1) lt (omega arith) (omega arith) (omega arith), tt),
            ),
          )
    ]
