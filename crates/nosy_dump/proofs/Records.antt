-- One record more, and what that does to the resets.
use Rattle.std.proofs.Common.{◌≡◌, ◌∙◌, ℕ, suc, ◌+◌, ◌-◌, ◌≤◌, true, Some, List, [], ◌∷◌, ◌++◌, length, take, drop, refl, sym, ap, append_assoc, append-nil, length-append, take_at, arith}
use Rattle.nosy_dump.specs.declared.record.Record.{Record}
use Rattle.nosy_dump.specs.declared.record.Record.TheVariants.{Reset, SelfId, Other}
use Rattle.nosy_dump.specs.declared.record.DumpReset.{DumpReset}
use Rattle.nosy_dump.specs.Record.{record_bytes, dump_of, AreSized, is_size, size_of, record_of}
use Rattle.nosy_dump.specs.Resets.{packets_by, packets, resets_by, resets_from}
use Rattle.nosy_dump.specs.Dump.{but_last}

-- ---- bytes

pub dump_more : (rs : List (List ℕ)) (r : List ℕ) →
    dump_of (rs ++ r ∷ []) ≡ dump_of rs ++ record_bytes r
dump_more [] r = append-nil (record_bytes r)
dump_more (s ∷ rs) r =
    ap (λ (bytes : List ℕ). record_bytes s ++ bytes) (dump_more rs r)
    ∙ sym (append_assoc (record_bytes s) (dump_of rs) (record_bytes r))

pub sized_more : (rs : List (List ℕ)) (r : List ℕ) → AreSized rs → is_size (length r) ≡ true →
    AreSized (rs ++ r ∷ [])
sized_more [] r h e = (e, tt)
sized_more (s ∷ rs) r h e = (h.0, sized_more rs r h.1 e)

pub length-record_bytes : (r : List ℕ) → length (record_bytes r) ≡ 4 + length r
length-record_bytes r =
    let e : suc (suc (suc (suc (length r)))) ≡ 4 + length r = omega arith in e

-- a record that bytes begin with
pub front_taken : (r bytes : List ℕ) → bytes ≡ record_bytes r ++ drop (4 + length r) bytes →
    record_bytes r ≡ take (length r + 4) bytes
front_taken r bytes e =
    let size : length (record_bytes r) ≡ length r + 4 = omega (arith, length-record_bytes r) in
    sym (ap (λ (l : List ℕ). take (length r + 4) l) e
    ∙ take_at (record_bytes r) (drop (4 + length r) bytes) (length r + 4) size)

pub front_fits : (r bytes done : List ℕ) → bytes ≡ record_bytes r ++ drop (4 + length r) bytes →
    length done + length bytes ≤ 9223372036854775807 →
    length done + (4 + length r) ≤ 9223372036854775807
front_fits r bytes done e few =
    let size : length bytes ≡ length (record_bytes r) + length (drop (4 + length r) bytes) =
    ap (λ (l : List ℕ). length l) e ∙ length-append (record_bytes r)
    (drop (4 + length r) bytes) in
    omega (arith, few, size, length-record_bytes r)

pub few_records : (rs : List (List ℕ)) → length rs ≤ length (dump_of rs)
few_records [] = omega arith
few_records (r ∷ rs) =
    let h = few_records rs in
    let e : length (dump_of (r ∷ rs)) ≡ length (record_bytes r) + length (dump_of rs) =
    length-append (record_bytes r) (dump_of rs) in
    let f : length (record_bytes r) ≡ 4 + length r = length-record_bytes r in
    omega (arith, h, e, f)

-- the length that bytes begin with stays as more come
pub more_size : (xs ys : List ℕ) (size : ℕ) → size_of xs ≡ Some size →
    size_of (xs ++ ys) ≡ Some size
more_size [] ys size e = absurd cc
more_size (a ∷ []) ys size e = absurd cc
more_size (a ∷ b ∷ []) ys size e = absurd cc
more_size (a ∷ b ∷ c ∷ []) ys size e = absurd cc
more_size (a ∷ b ∷ c ∷ d ∷ xs) ys size e = e

-- ---- a record that is neither a reset nor a self-ID packet

packets_other : (rs : List (List ℕ)) (r : List ℕ) → record_of r ≡ Other →
    packets (rs ++ r ∷ []) ≡ packets rs
packets_other [] r e = ap (λ (k : Record). packets_by k []) e
packets_other (s ∷ rs) r e = ap (λ (more : List ℕ). packets_by (record_of s) more)
    (packets_other rs r e)

pub resets_other : (byte : ℕ) (rs : List (List ℕ)) (r : List ℕ) → record_of r ≡ Other →
    resets_from byte (rs ++ r ∷ []) ≡ resets_from byte rs
resets_other byte [] r e = ap (λ (k : Record). resets_by k byte [] []) e
resets_other byte (s ∷ rs) r e =
    ap (λ (list : List ℕ). resets_by (record_of s) byte list
    (resets_from (byte + (4 + length s)) (rs ++ r ∷ []))) (packets_other rs r e)
    ∙ ap (λ (more : List DumpReset). resets_by (record_of s) byte (packets rs) more)
    (resets_other (byte + (4 + length s)) rs r e)

-- ---- a reset

packets_reset : (rs : List (List ℕ)) (r : List ℕ) (time : ℕ) → record_of r ≡ Reset time →
    packets (rs ++ r ∷ []) ≡ packets rs
packets_reset [] r time e = ap (λ (k : Record). packets_by k []) e
packets_reset (s ∷ rs) r time e = ap (λ (more : List ℕ). packets_by (record_of s) more)
    (packets_reset rs r time e)

abbrev pub fresh : ℕ → ℕ → DumpReset
fresh byte time = record { byte = byte; time = time; list = [] }

one_behind : (k : Record) (byte : ℕ) (list : List ℕ) (more : List DumpReset) (x : DumpReset) →
    resets_by k byte list (more ++ x ∷ []) ≡ resets_by k byte list more ++ x ∷ []
one_behind (Reset time) byte list more x = refl
one_behind (SelfId quad) byte list more x = refl
one_behind Other byte list more x = refl

pub resets_reset : (byte : ℕ) (rs : List (List ℕ)) (r : List ℕ) (time place : ℕ) →
    record_of r ≡ Reset time → place ≡ byte + length (dump_of rs) →
    resets_from byte (rs ++ r ∷ []) ≡ resets_from byte rs ++ fresh place time ∷ []
resets_reset byte [] r time place e at =
    let same : byte ≡ place = omega (arith, at) in
    ap (λ (k : Record). resets_by k byte [] []) e ∙ ap (λ (b : ℕ). fresh b time ∷ []) same
resets_reset byte (s ∷ rs) r time place e at =
    let size : length (dump_of (s ∷ rs)) ≡ length (record_bytes s) + length (dump_of rs) =
    length-append (record_bytes s) (dump_of rs) in
    let head : length (record_bytes s) ≡ 4 + length s = length-record_bytes s in
    let there : place ≡ byte + (4 + length s) + length (dump_of rs) =
    omega (arith, at, size, head) in
    ap (λ (list : List ℕ). resets_by (record_of s) byte list
    (resets_from (byte + (4 + length s)) (rs ++ r ∷ []))) (packets_reset rs r time e)
    ∙ ap (λ (more : List DumpReset). resets_by (record_of s) byte (packets rs) more)
    (resets_reset (byte + (4 + length s)) rs r time place e there)
    ∙ one_behind (record_of s) byte (packets rs) (resets_from (byte + (4 + length s)) rs)
    (fresh place time)

-- ---- a self-ID packet

abbrev pub longer : ℕ → DumpReset → DumpReset
longer quad p = record { byte = p.byte; time = p.time; list = p.list ++ quad ∷ [] }

-- behind the packets of the last reset
abbrev pub last_with : ℕ → List DumpReset → List DumpReset
last_with quad [] = []
last_with quad (p ∷ []) = longer quad p ∷ []
last_with quad (p ∷ x ∷ xs) = p ∷ last_with quad (x ∷ xs)

packets_more : (byte : ℕ) (rs : List (List ℕ)) (r : List ℕ) (quad : ℕ) → record_of r ≡ SelfId quad →
    resets_from byte rs ≡ [] → packets (rs ++ r ∷ []) ≡ packets rs ++ quad ∷ []
packets_more byte [] r quad e none = ap (λ (k : Record). packets_by k []) e
packets_more byte (s ∷ rs) r quad e none = go (record_of s) none
    (packets_more (byte + (4 + length s)) rs r quad e)
  where
    go : (k : Record) → resets_by k byte (packets rs)
        (resets_from (byte + (4 + length s)) rs) ≡ [] →
        (resets_from (byte + (4 + length s)) rs ≡ [] → packets (rs ++ r ∷ []) ≡ packets rs
        ++ quad ∷ []) →
        packets_by k (packets (rs ++ r ∷ [])) ≡ packets_by k (packets rs) ++ quad ∷ []
    go (Reset time) h rest = absurd cc
    go (SelfId x) h rest = ap (λ (more : List ℕ). x ∷ more) (rest h)
    go Other h rest = rest h

packets_same : (byte : ℕ) (rs : List (List ℕ)) (r : List ℕ) (quad : ℕ) (p : DumpReset)
    (ps : List DumpReset) →
    record_of r ≡ SelfId quad → resets_from byte rs ≡ p ∷ ps →
    packets (rs ++ r ∷ []) ≡ packets rs
packets_same byte [] r quad p ps e some = absurd cc
packets_same byte (s ∷ rs) r quad p ps e some =
    go (record_of s) some (packets_same (byte + (4 + length s)) rs r quad p ps e)
  where
    go : (k : Record) → resets_by k byte (packets rs)
        (resets_from (byte + (4 + length s)) rs) ≡ p ∷ ps →
        (resets_from (byte + (4 + length s)) rs ≡ p ∷ ps → packets (rs ++ r ∷ []) ≡ packets rs) →
        packets_by k (packets (rs ++ r ∷ [])) ≡ packets_by k (packets rs)
    go (Reset time) h rest = refl
    go (SelfId x) h rest = ap (λ (more : List ℕ). x ∷ more) (rest h)
    go Other h rest = rest h

pub resets_packet : (byte : ℕ) (rs : List (List ℕ)) (r : List ℕ) (quad : ℕ) →
    record_of r ≡ SelfId quad →
    resets_from byte (rs ++ r ∷ []) ≡ last_with quad (resets_from byte rs)
resets_packet byte [] r quad e = ap (λ (k : Record). resets_by k byte [] []) e
resets_packet byte (s ∷ rs) r quad e =
    go (record_of s) (resets_from (byte + (4 + length s)) rs) refl
    (resets_packet (byte + (4 + length s)) rs r quad e)
  where
    go : (k : Record) (more : List DumpReset) → resets_from (byte + (4 + length s)) rs ≡ more →
        resets_from (byte + (4 + length s)) (rs ++ r ∷ []) ≡ last_with quad more →
        resets_by k byte (packets (rs ++ r ∷ []))
        (resets_from (byte + (4 + length s)) (rs ++ r ∷ []))
        ≡ last_with quad (resets_by k byte (packets rs) more)
    go (Reset time) [] is h = rw (h, packets_more (byte + (4 + length s)) rs r quad e is) refl
    go (Reset time) (p ∷ ps) is h = rw (h, packets_same (byte + (4 + length s)) rs r quad p ps e is)
        refl
    go (SelfId x) more is h = h
    go Other more is h = h

pub last_more : (ended : List DumpReset) (p : DumpReset) (quad : ℕ) →
    last_with quad (ended ++ p ∷ []) ≡ ended ++ longer quad p ∷ []
last_more [] p quad = refl
last_more (x ∷ []) p quad = refl
last_more (x ∷ y ∷ ys) p quad = ap (λ (l : List DumpReset). x ∷ l) (last_more (y ∷ ys) p quad)

pub last_none : (rs : List DumpReset) (quad : ℕ) → rs ≡ [] → last_with quad rs ≡ []
last_none [] quad e = refl
last_none (x ∷ xs) quad e = absurd cc

-- ---- all resets but the last

pub few_resets : (byte : ℕ) (rs : List (List ℕ)) → length (resets_from byte rs) ≤ length rs
few_resets byte [] = omega arith
few_resets byte (r ∷ rs) = go (record_of r) (few_resets (byte + (4 + length r)) rs)
  where
    go : (k : Record) → length (resets_from (byte + (4 + length r)) rs) ≤ length rs →
        length (resets_by k byte (packets rs) (resets_from (byte + (4 + length r)) rs)) ≤ suc
        (length rs)
    go (Reset time) h = omega (arith, h)
    go (SelfId x) h = omega (arith, h)
    go Other h = omega (arith, h)

pub but_last-more : (ended : List DumpReset) (p : DumpReset) → but_last (ended ++ p ∷ []) ≡ ended
but_last-more ended p =
    let size : length (ended ++ p ∷ []) - 1 ≡ length ended =
    omega (arith, length-append ended (p ∷ [])) in
    ap (λ (n : ℕ). take n (ended ++ p ∷ [])) size ∙ take_at ended (p ∷ []) (length ended) refl
