-- The node that a record shows is one that packets can show.
use Rattle.std.proofs.Common.{◌≡◌, ℕ, zero, suc, ◌+◌, ◌-◌, ◌^◌, ◌≤◌, ◌<◌, Bool, true, false, ◌==◌, List, [], ◌∷◌, ◌++◌, length, replicate, Option, Some, None, refl, ◌∙◌, ap, arith, length-append, if◌then◌else◌}
use Rattle.std.specs.Prelude.{nat_le, IsTrue}
use Rattle.std.proofs.lemmas.Bool.{leb-true, eqb-true, ne_eqb}
use Rattle.std.proofs.lemmas.List.{length-replicate}
use Rattle.std.proofs.lemmas.Nat.{pow_pos}
use Rattle.self_id.specs.declared.node.PortStatus.{PortStatus}
use Rattle.self_id.specs.declared.node.PortStatus.TheVariants.{Absent, Unplugged, Up, Down}
use Rattle.self_id.specs.declared.standard.Standard.TheVariants.{Ieee2000}
use Rattle.self_id.specs.Node.{IsOf, ups, is_width, is_width_of, kept_a_bits, kept_b_bits, blank_b_bits}
use Rattle.std.proofs.Math.Nat.{zero-mod}
use Rattle.port_state.specs.declared.ports.PortView.{PortView}
use Rattle.port_state.specs.declared.states.NodeState.{NodeState}
use Rattle.self_id.specs.Slots.{slot_count}
use Rattle.self_id.proofs.Lemmas.{node_count-group}
use Rattle.port_state.specs.Valid.{IsBounded}
use Rattle.port_state.specs.Group.{status, statuses_from, shown_node, NodesAreShown, GroupsHaveOneZero}

pub length-statuses_from :
    (k : ℕ) (parent : Option ℕ) (ports : List PortView) →
    length (statuses_from k parent ports) ≡ length ports
length-statuses_from k parent [] = refl
length-statuses_from k parent (p ∷ ps) = ap suc (length-statuses_from (k + 1) parent ps)

ups-append : (xs ys : List PortStatus) → ups (xs ++ ys) ≡ ups xs + ups ys
ups-append [] ys = omega arith
ups-append (Absent ∷ xs) ys = ups-append xs ys
ups-append (Unplugged ∷ xs) ys = ups-append xs ys
ups-append (Up ∷ xs) ys = omega (arith, ups-append xs ys)
ups-append (Down ∷ xs) ys = ups-append xs ys

ups-absent : (n : ℕ) → ups (replicate n Absent) ≡ 0
ups-absent zero = refl
ups-absent (suc n) = ups-absent n

-- a port that isn't the parent port
ups-down : (p : PortView) (rest : List PortStatus) → ups (status false p ∷ rest) ≡ ups rest
ups-down p rest = go p.child
  where
    go : (b : Bool) → ups ((if b then Down else Unplugged) ∷ rest) ≡ ups rest
    go true = refl
    go false = refl

none_up : (k : ℕ) (ports : List PortView) → ups (statuses_from k None ports) ≡ 0
none_up k [] = refl
none_up k (p ∷ ps) = ups-down p (statuses_from (k + 1) None ps) ∙ none_up (k + 1) ps

-- no port from the parent port on
past_up : (n k : ℕ) (ports : List PortView) → n < k → ups (statuses_from k (Some n) ports) ≡ 0
past_up n k [] h = refl
past_up n k (p ∷ ps) h =
    let e : (n == k) ≡ false = ne_eqb n k (λ i. omega arith) in
    rw e (ups-down p (statuses_from (k + 1) (Some n) ps) ∙ past_up n (k + 1) ps (omega arith))

one_up : (n k : ℕ) (ports : List PortView) → ups (statuses_from k (Some n) ports) ≤ 1
one_up n k [] = omega arith
one_up n k (p ∷ ps) = go (n == k) refl (one_up n (k + 1) ps)
  where
    go :
        (b : Bool) → (n == k) ≡ b → ups (statuses_from (k + 1) (Some n) ps) ≤ 1 →
        ups (status b p ∷ statuses_from (k + 1) (Some n) ps) ≤ 1
    go true e rest = let same : n ≡ k = eqb-true n k e in omega (arith, past_up n (k + 1) ps (omega arith))
    go false e rest = omega (arith, ups-down p (statuses_from (k + 1) (Some n) ps), rest)

few_up : (parent : Option ℕ) (ports : List PortView) → ups (statuses_from 0 parent ports) ≤ 1
few_up None ports = omega (arith, none_up 0 ports)
few_up (Some n) ports = one_up n 0 ports

-- the slots are as many as the ports need
width :
    (ports : ℕ) → ports ≤ 16 →
    (ports ≤ slot_count ports) × IsTrue (is_width (slot_count ports))
    × IsTrue (is_width_of Ieee2000 (slot_count ports))
width ports h = go (nat_le ports 3) refl (nat_le ports 11) refl
  where
    go :
        (a : Bool) → nat_le ports 3 ≡ a → (b : Bool) → nat_le ports 11 ≡ b →
        (ports ≤ (if a then 3 else (if b then 11 else 16)))
        × IsTrue (is_width (if a then 3 else (if b then 11 else 16)))
        × IsTrue (is_width_of Ieee2000 (if a then 3 else (if b then 11 else 16)))
    go true e b f = (leb-true ports 3 e, refl, refl)
    go false e true f = (leb-true ports 11 f, refl, refl)
    go false e false f = (h, refl, refl)

slots-shown : (x : NodeState) → IsBounded x → length (shown_node x).ports ≡ slot_count x.ports
slots-shown x b =
    let absent : List PortStatus = replicate (slot_count x.ports - x.ports) Absent in
    omega (arith, length-append (statuses_from 0 x.view.parent x.view.ports) absent, length-statuses_from 0 x.view.parent x.view.ports, length-replicate (slot_count x.ports - x.ports) Absent, b.views, (width x.ports b.few_ports).0)

-- a machine shows itself by IEEE 1394a-2000
pub shown-is_of : (x : NodeState) → IsBounded x → IsOf Ieee2000 (shown_node x)
shown-is_of x b = rw (slots-shown x b) (width x.ports b.few_ports).2

pub shown-is_node : NodesAreShown
shown-is_node x b =
    let absent : List PortStatus = replicate (slot_count x.ports - x.ports) Absent in
    record {
      form = record {
        attrs = record { gap = let h : x.view.gap ≤ 63 = b.gap in omega arith; speed = b.attrs.speed; delay = b.attrs.delay; power = b.attrs.power };
        width = rw (slots-shown x b) (width x.ports b.few_ports).1;
        kept_a = pow_pos (kept_a_bits (length (shown_node x).ports));
        kept_b = pow_pos (kept_b_bits (length (shown_node x).ports));
        blank_b = zero-mod (2 ^ blank_b_bits (length (shown_node x).ports));
      };
      one_parent = omega (arith, ups-append (statuses_from 0 x.view.parent x.view.ports) absent, ups-absent (slot_count x.ports - x.ports), few_up x.view.parent x.view.ports);
    }

-- its packets with an ID have one packet zero
pub node_count-own_group : GroupsHaveOneZero
node_count-own_group x id b h = node_count-group (shown_node x) id (shown-is_node x b).form (omega arith)
