-- The quadlets of a bus tree's list fit their 32 bits.
use Rattle.std.proofs.Common.{◌≡◌, ℕ, suc, ◌+◌, ◌*◌, ◌/◌, ◌%◌, ◌^◌, ◌<◌, ◌≤◌, ◌==◌, Bool, true, false, IsTrue, List, [], ◌∷◌, length, take, drop, refl, sym, subst, arith, length-drop}
use Rattle.std.specs.Prelude.{All, Some, slice_get}
use Rattle.std.proofs.lemmas.Bool.{eqb-true}
use Rattle.std.proofs.lemmas.List.{length-take-le}
use Rattle.std.proofs.lemmas.List.Elements.{All-append, All-cons, All-nil}
use Rattle.phy_packet.specs.Packet.{quad_of}
use Rattle.phy_packet.proofs.Lemmas.{bit_fits}
use Rattle.self_id.specs.declared.standard.Standard.TheVariants.{Ieee2000}
use Rattle.self_id.specs.Node.{Node, FitBits, IsNode, IsOf, is_width_of, kept_a_bits, kept_b_bits}
use Rattle.self_id.specs.Group.{fields, zero_packet, eight_packet, first_packet, five_packet, group}
use Rattle.self_id.proofs.Lemmas.{group3, group11, group16, field_below, fields_small}
use Rattle.topology_stack.specs.Tree.{walk, AreOf, groups}
use Rattle.topology_stack.proofs.Lemmas.{are_nodes}
use Rattle.bus_view.specs.Captured.{ListsFit}

abbrev Fits : ℕ → Type 0
Fits q = q < 2 ^ 32

-- ---- the packets

zero-fits : (n : Node) (id : ℕ) (m : Bool) → FitBits n.attrs → id < 64 → Fits (quad_of (zero_packet n id m))
zero-fits n id m fits lt =
    let a = field_below n.ports 0 in
    let b = field_below n.ports 1 in
    let c = field_below n.ports 2 in
    let l = bit_fits n.attrs.link in
    let d = bit_fits n.attrs.contender in
    let i = bit_fits n.attrs.initiated in
    let o = bit_fits m in
    omega (arith, fits.gap, fits.speed, fits.delay, fits.power, lt, a, b, c, l, d, i, o)

eight-fits : (n : Node) (id number kept : ℕ) (m : Bool) → id < 64 → number < 8 → kept < 8 →
    fields (take 8 (drop (3 + 8 * number) n.ports)) < 2 ^ 16 → Fits (quad_of (eight_packet n id number kept m))
eight-fits n id number kept m lt few small all =
    let r = bit_fits (kept % 2 == 1) in
    let o = bit_fits m in
    omega (arith, lt, few, small, all, r, o)

five-fits : (n : Node) (id : ℕ) → id < 64 → n.kept_b < 1024 → fields (drop 11 n.ports) < 2 ^ 10 →
    Fits (quad_of (five_packet n id))
five-fits n id lt small all =
    let r = bit_fits (n.kept_b / 2 % 2 == 1) in
    let o = bit_fits (n.kept_b % 2 == 1) in
    omega (arith, lt, small, all, r, o)

-- ---- the groups

first-fits : (n : Node) (id : ℕ) (m : Bool) → id < 64 → n.kept_a < 8 → 11 ≤ length n.ports →
    Fits (quad_of (first_packet n id m))
first-fits n id m lt small wide =
    eight-fits n id 0 n.kept_a m lt (omega arith) small
    (fields_small 8 (take 8 (drop 3 n.ports)) (length-take-le 8 (drop 3 n.ports) (omega (arith, length-drop 3 n.ports, wide))))

group-fits : (n : Node) (id : ℕ) → IsNode n → IsOf Ieee2000 n → id < 64 → All Fits (group n id)
group-fits n id is of lt = go (length n.ports == 3) (length n.ports == 11) (length n.ports == 16) refl refl refl
  where
    go : (a b c : Bool) → (length n.ports == 3) ≡ a → (length n.ports == 11) ≡ b → (length n.ports == 16) ≡ c → All Fits (group n id)
    go true b c x y z =
        let w = eqb-true (length n.ports) 3 x in
        let zero = quad_of (zero_packet n id false) in
        subst (All Fits) (sym (group3 n id w)) (All-cons Fits zero [] (zero-fits n id false is.form.attrs lt) (All-nil Fits))
    go false true c x y z =
        let w = eqb-true (length n.ports) 11 y in
        let small : n.kept_a < 8 = subst (λ (k : ℕ). n.kept_a < 2 ^ kept_a_bits k) w is.form.kept_a in
        let zero = quad_of (zero_packet n id true) in
        let first = quad_of (first_packet n id false) in
        subst (All Fits) (sym (group11 n id w))
        (All-cons Fits zero (first ∷ []) (zero-fits n id true is.form.attrs lt)
        (All-cons Fits first [] (first-fits n id false lt small (omega (arith, w))) (All-nil Fits)))
    go false false true x y z =
        let w = eqb-true (length n.ports) 16 z in
        let a : n.kept_a < 8 = subst (λ (k : ℕ). n.kept_a < 2 ^ kept_a_bits k) w is.form.kept_a in
        let b : n.kept_b < 1024 = subst (λ (k : ℕ). n.kept_b < 2 ^ kept_b_bits k) w is.form.kept_b in
        let zero = quad_of (zero_packet n id true) in
        let first = quad_of (first_packet n id true) in
        let five = quad_of (five_packet n id) in
        subst (All Fits) (sym (group16 n id w))
        (All-cons Fits zero (first ∷ five ∷ []) (zero-fits n id true is.form.attrs lt)
        (All-cons Fits first (five ∷ []) (first-fits n id true lt a (omega (arith, w)))
        (All-cons Fits five [] (five-fits n id lt b (fields_small 5 (drop 11 n.ports) (omega (arith, length-drop 11 n.ports, w)))) (All-nil Fits))))
    go false false false x y z = absurd (none of)
      where
        none : IsTrue (is_width_of Ieee2000 (length n.ports)) → ⊥
        none h = let k : false ≡ true = rw (x, y, z) at h in absurd cc

groups-fit : (ns : List Node) (id : ℕ) → ((i : ℕ) (n : Node) → slice_get ns i ≡ Some n → IsNode n) →
    AreOf Ieee2000 ns → id + length ns ≤ 64 → All Fits (groups id ns)
groups-fit [] id are of few = All-nil Fits
groups-fit (n ∷ ns) id are of few =
    All-append Fits (group n id) (groups (id + 1) ns)
    (group-fits n id (are 0 n refl) of.0 (omega (arith, few)))
    (groups-fit ns (id + 1) (λ i m e. are (suc i) m e) of.1 (omega (arith, few)))

pub lists-fit : ListsFit
lists-fit t bus = groups-fit (walk t) 0 (λ i n e. are_nodes t i n bus.bus e) bus.nodes (omega (arith, bus.bus.small))
