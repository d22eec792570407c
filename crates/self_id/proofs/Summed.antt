-- Port fields summed one by one, from the top.
use Rattle.std.proofs.Common.{◌≡◌, ℕ, ◌+◌, ◌-◌, ◌*◌, ◌^◌, ◌<◌, ◌≤◌, List, [], ◌∷◌, length, drop, sym, ap, ◌∙◌, arith, length-drop, add-one}
use Rattle.std.proofs.Math.Pow.{pow_mono}
use Rattle.std.proofs.Math.Seq.{drop-length}
use Rattle.self_id.specs.declared.node.PortStatus.{PortStatus}
use Rattle.self_id.specs.Node.{status_bits}
use Rattle.self_id.specs.Group.{fields}
use Rattle.self_id.proofs.Fields.{wider}

-- the sum of the first i fields, as far as the loop has come
pub record Summed (ports : List PortStatus) (i value : ℕ) : Type 0 where
  pub whole : value * 2 ^ (2 * (length ports - i)) + fields (drop i ports) ≡ fields ports
  pub small : value < 2 ^ (2 * i)

pub start : (ports : List PortStatus) → Summed ports 0 0
start ports = record { whole = omega arith; small = omega arith }

next_whole : (rest ports : List PortStatus) (i value : ℕ) (p : PortStatus) (s : ℕ) →
    drop i ports ≡ p ∷ rest → status_bits p ≡ s →
    value * 2 ^ (2 * length (p ∷ rest)) + fields (p ∷ rest) ≡ fields ports →
    (value * 4 + s) * 2 ^ (2 * length rest) + fields rest ≡ fields ports
next_whole rest ports i value p s is bits e =
    let w : 2 ^ (2 * length (p ∷ rest)) ≡ 4 * 2 ^ (2 * length rest) = wider (length rest) in
    let e' : value * (4 * 2 ^ (2 * length rest)) + (s * 2 ^ (2 * length rest) + fields rest) ≡ fields ports = rw (w, bits) at e in
    grind (arith, e')

pub next : (ports : List PortStatus) (i value : ℕ) (p : PortStatus) (s : ℕ) → i < length ports →
    drop i ports ≡ p ∷ drop (i + 1) ports → status_bits p ≡ s → s < 4 → Summed ports i value →
    Summed ports (i + 1) (value * 4 + s)
next ports i value p s lt is bits s_small h =
    let len : length ports - i ≡ length (p ∷ drop (i + 1) ports) = sym (length-drop i ports) ∙ ap length is in
    let len' : length ports - (i + 1) ≡ length (drop (i + 1) ports) = sym (length-drop (i + 1) ports) in
    let e : value * 2 ^ (2 * length (p ∷ drop (i + 1) ports)) + fields (p ∷ drop (i + 1) ports) ≡ fields ports =
    ap (λ (k : ℕ). value * 2 ^ (2 * k) + fields (p ∷ drop (i + 1) ports)) (sym len) ∙ ap (λ (l : List PortStatus). value * 2 ^ (2 * (length ports - i)) + fields l) (sym is) ∙ h.whole
    in
    record {
      whole = rw len' (next_whole (drop (i + 1) ports) ports i value p s is bits e);
      small = let w : 2 ^ (2 * (i + 1)) ≡ 4 * 2 ^ (2 * i) = ap (λ (k : ℕ). 2 ^ (2 * k)) (add-one i) ∙ wider i in rw w (omega (arith, h.small));
    }

pub room : (ports : List PortStatus) (i value s : ℕ) → i < length ports → length ports ≤ 8 →
    Summed ports i value → s < 4 → value * 4 + s < 65536
room ports i value s lt few h small =
    let bound : 2 ^ (2 * i) ≤ 2 ^ 14 = pow_mono {i = 2 * i} {j = 14} (omega arith) in
    omega (arith, h.small, bound)

pub end : (ports : List PortStatus) (value : ℕ) → Summed ports (length ports) value →
    value ≡ fields ports
end ports value h =
    let none : length ports - length ports ≡ 0 = omega arith in
    let e : value * 2 ^ (2 * 0) + fields [] ≡ fields ports = ap (λ (k : ℕ). value * 2 ^ (2 * k) + fields []) (sym none) ∙ ap (λ (l : List PortStatus). value * 2 ^ (2 * (length ports - length ports)) + fields l) (sym (drop-length ports)) ∙ h.whole in
    omega (arith, e)
