-- Port fields as one number, both ways.
use Rattle.std.proofs.Common.{◌≡◌, ℕ, zero, suc, ◌+◌, ◌*◌, ◌/◌, ◌%◌, ◌^◌, ◌<◌, List, [], ◌∷◌, length, refl, sym, ap, subst, ◌∙◌, arith}
use Rattle.std.proofs.Math.Pow.{field, mod-mod-pow, split}
use Rattle.std.proofs.Math.Nat.{mod-eq_of_lt}
use Rattle.std.proofs.lemmas.Nat.{pow-add, div-mul-add, mod_low}
use Rattle.self_id.specs.declared.node.PortStatus.{PortStatus}
use Rattle.self_id.specs.declared.node.PortStatus.TheVariants.{Absent, Unplugged, Up, Down}
use Rattle.self_id.specs.Node.{status_bits, status_of, status_of-status_bits}
use Rattle.self_id.specs.Group.{fields}
use Rattle.self_id.specs.codings.Reading.{statuses}

pub status_below : (p : PortStatus) → status_bits p < 4
status_below Absent = omega arith
status_below Unplugged = omega arith
status_below Up = omega arith
status_below Down = omega arith

pub status_bits-status_of : (x : ℕ) → x < 4 → status_bits (status_of x) ≡ x
status_bits-status_of zero lt = refl
status_bits-status_of (suc zero) lt = refl
status_bits-status_of (suc (suc zero)) lt = refl
status_bits-status_of (suc (suc (suc zero))) lt = refl
status_bits-status_of (suc (suc (suc (suc x)))) lt = omega arith

pub length-statuses : (k x : ℕ) → length (statuses k x) ≡ k
length-statuses zero x = refl
length-statuses (suc k) x = ap suc (length-statuses k x)

-- one field more takes two bits more
two_more : (k : ℕ) → 2 * suc k ≡ 2 + 2 * k
two_more k = omega arith

pub wider : (k : ℕ) → 2 ^ (2 * suc k) ≡ 4 * 2 ^ (2 * k)
wider k = ap (λ (e : ℕ). 2 ^ e) (two_more k) ∙ pow-add 2 2 (2 * k)

-- the fields look at the low bits alone
statuses-same : (k x y : ℕ) → x % 2 ^ (2 * k) ≡ y % 2 ^ (2 * k) → statuses k x ≡ statuses k y
statuses-same zero x y e = refl
statuses-same (suc k) x y e =
    let e' : x % 2 ^ (2 + 2 * k) ≡ y % 2 ^ (2 + 2 * k) = rw (two_more k) at e in
    let top : x / 2 ^ (2 * k) % 4 ≡ y / 2 ^ (2 * k) % 4 = sym (field x 2 (2 * k)) ∙ ap (λ (z : ℕ). z / 2 ^ (2 * k)) e' ∙ field y 2 (2 * k) in
    let low : x % 2 ^ (2 * k) ≡ y % 2 ^ (2 * k) = sym (mod-mod-pow x 2 (2 * k)) ∙ ap (λ (z : ℕ). z % 2 ^ (2 * k)) e' ∙ mod-mod-pow y 2 (2 * k) in
    rw (top, statuses-same k x y low) refl

pub fields_below : (ps : List PortStatus) → fields ps < 2 ^ (2 * length ps)
fields_below [] = omega arith
fields_below (p ∷ ps) =
    let w : 2 ^ (2 * length (p ∷ ps)) ≡ 4 * 2 ^ (2 * length ps) = wider (length ps) in
    rw w (grind (arith, status_below p, fields_below ps))

-- the same for so many statuses
pub fields_small : (k : ℕ) (ps : List PortStatus) → length ps ≡ k → fields ps < 2 ^ (2 * k)
fields_small k ps e = subst (λ (j : ℕ). fields ps < 2 ^ (2 * j)) e (fields_below ps)

-- the statuses of some fields
pub statuses-fields : (ps : List PortStatus) → statuses (length ps) (fields ps) ≡ ps
statuses-fields [] = refl
statuses-fields (p ∷ ps) =
    let below = fields_below ps in
    let top : fields (p ∷ ps) / 2 ^ (2 * length ps) ≡ status_bits p = div-mul-add (status_bits p) (2 ^ (2 * length ps)) (fields ps) below in
    let low : fields (p ∷ ps) % 2 ^ (2 * length ps) ≡ fields ps % 2 ^ (2 * length ps) = mod_low (status_bits p) (2 * length ps) (fields ps) below ∙ sym (mod-eq_of_lt below) in
    let small : status_bits p % 4 ≡ status_bits p = mod-eq_of_lt (status_below p) in
    rw (top, small, status_of-status_bits p, statuses-same (length ps) (fields (p ∷ ps)) (fields ps) low, statuses-fields ps) refl

-- the fields of some statuses
pub fields-statuses : (k x : ℕ) → fields (statuses k x) ≡ x % 2 ^ (2 * k)
fields-statuses zero x = omega arith
fields-statuses (suc k) x =
    let m : ℕ = x % 2 ^ (2 + 2 * k) in
    let whole : m / 2 ^ (2 * k) * 2 ^ (2 * k) + m % 2 ^ (2 * k) ≡ m = split m (2 * k) in
    let top : m / 2 ^ (2 * k) ≡ x / 2 ^ (2 * k) % 4 = field x 2 (2 * k) in
    let low : m % 2 ^ (2 * k) ≡ x % 2 ^ (2 * k) = mod-mod-pow x 2 (2 * k) in
    let bits : status_bits (status_of (x / 2 ^ (2 * k) % 4)) ≡ x / 2 ^ (2 * k) % 4 = status_bits-status_of (x / 2 ^ (2 * k) % 4) (omega arith) in
    rw (length-statuses k x, fields-statuses k x, bits, two_more k) (sym (ap (λ (z : ℕ). z * 2 ^ (2 * k) + x % 2 ^ (2 * k)) top) ∙ ap (λ (z : ℕ). m / 2 ^ (2 * k) * 2 ^ (2 * k) + z) (sym low) ∙ whole)
