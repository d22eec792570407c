-- What is written as a string is ASCII.
use Rattle.std.proofs.Common.{◌≡◌, ◌<◌, ◌+◌, ◌*◌, ◌/◌, ◌^◌, ℕ, zero, suc, Bool, true, false, List, [], ◌∷◌, ◌++◌, length, get_or, refl, sym, subst, append-nil, arith}
use Rattle.std.specs.Prelude.{if◌then◌else◌, nat_lt, map, ◌%◌}
use Rattle.std.specs.Str.{IsUtf8}
use Rattle.std.proofs.lemmas.Bool.Decides.{nat_tests}
use Rattle.std.proofs.lemmas.Str.{IsUtf8-from_ascii}
use Rattle.std.proofs.lemmas.Str.Ascii.{IsAscii-from_all}
use Rattle.topology_stack.specs.Hex.{hex_digit, hex}
use Rattle.reset_log.specs.Device.{domain_digits, device_text}
use Rattle.reset_log.specs.Json.{ascii}

abbrev AreSmall : List ℕ → Type 0
AreSmall [] = Unit {0}
AreSmall (x ∷ xs) = (x < 128) × AreSmall xs

small_at : (xs : List ℕ) (k d : ℕ) → AreSmall xs → k < length xs → get_or xs k d < 128
small_at [] k d small lt = absurd (omega (arith, lt))
small_at (x ∷ xs) zero d small lt = small.0
small_at (x ∷ xs) (suc k) d small lt = small_at xs k d small.1 (omega (arith, lt))

utf8_of : (xs : List ℕ) → AreSmall xs → IsUtf8 xs
utf8_of xs small = IsUtf8-from_ascii xs (IsAscii-from_all xs (λ k d lt. small_at xs k d small lt))

small_byte : (b : ℕ) → ascii b < 128
small_byte b = go (nat_lt b 128) refl
  where
    go : (v : Bool) → nat_lt b 128 ≡ v → (if v then b else 63) < 128
    go true e = grind (arith, nat_tests, e)
    go false e = omega arith

small_bytes : (bytes : List ℕ) → AreSmall (map ascii bytes)
small_bytes [] = tt
small_bytes (b ∷ bytes) = (small_byte b, small_bytes bytes)

pub ascii_utf8 : (bytes text : List ℕ) → text ≡ map ascii bytes → IsUtf8 text
ascii_utf8 bytes text e = subst IsUtf8 (sym e) (utf8_of (map ascii bytes) (small_bytes bytes))

small_digit : (n : ℕ) → n < 16 → hex_digit n < 128
small_digit n few = go (nat_lt n 10)
  where
    go : (v : Bool) → (if v then 48 + n else 87 + n) < 128
    go true = omega (arith, few)
    go false = omega (arith, few)

small_hex : (digits n : ℕ) (rest : List ℕ) → AreSmall rest → AreSmall (hex digits n ++ rest)
small_hex zero n rest small = small
small_hex (suc digits) n rest small =
    (small_digit (n / 2 ^ (4 * digits) % 16) (omega arith), small_hex digits n rest small)

small_device : (n : ℕ) → AreSmall (device_text n)
unfolding device_text
small_device n =
    let f = hex 1 (n % 256) in
    let function : AreSmall f = subst AreSmall (append-nil f) (small_hex 1 (n % 256) [] tt) in
    let behind_slot : AreSmall (46 ∷ f) = (omega arith, function) in
    let s = hex 2 (n / 256 % 256) ++ 46 ∷ f in
    let slot : AreSmall s = small_hex 2 (n / 256 % 256) (46 ∷ f) behind_slot in
    let behind_bus : AreSmall (58 ∷ s) = (omega arith, slot) in
    let b = hex 2 (n / 65536 % 256) ++ 58 ∷ s in
    let bus : AreSmall b = small_hex 2 (n / 65536 % 256) (58 ∷ s) behind_bus in
    let behind_domain : AreSmall (58 ∷ b) = (omega arith, bus) in
    let domain = n / 16777216 % 4294967296 in
    small_hex (domain_digits domain) domain (58 ∷ b) behind_domain

pub device_utf8 : (n : ℕ) (text : List ℕ) → text ≡ device_text n → IsUtf8 text
device_utf8 n text e = subst IsUtf8 (sym e) (utf8_of (device_text n) (small_device n))
