-- What a word says of a list of ports: which of them pass a test.
use Rattle.std.proofs.Common.{◌≡◌, ℕ, zero, suc, ◌+◌, ◌*◌, ◌^◌, ◌<◌, ◌≤◌, Bool, true, false, not, ◌&&◌, ◌==◌, cond, List, [], ◌∷◌, ◌++◌, length, map, take, replicate, get_or, Some, None, slice_get, slice_set, refl, subst, sym, ◌∙◌, ap, arith, inl, inr, if◌then◌else◌}
use Rattle.std.specs.Prelude.{count_by, count_ones, ◌⊎◌, nat_lt}
use Rattle.std.specs.Int.{bit_at, trailing_zeros, w16}
use Rattle.std.specs.Option.{ForSome}
use Rattle.std.specs.List.{range_with_len, list_all, prefix_len, position_from}
use Rattle.std.proofs.lemmas.Simd.{ones-mask_l, trailing_mask_l}
use Rattle.std.proofs.lemmas.Bool.{eqb-true, eqb-false, eq-eqb, ne_eqb, cases_lt, lt-ltb, and_right}
use Rattle.std.proofs.lemmas.List.{length-map, get_or-map}
use Rattle.std.proofs.lemmas.Option.{slice_get_past}
use Rattle.std.proofs.lemmas.List.FromFn.{length-range_with_len, get_or-range_with_len, take-map-range_with_len, map-range_with_len_more}
use Rattle.std.proofs.lemmas.Nat.Bits.{bit_at-zero, bit_at-trailing_zeros, bit_at_above}
use lib.Count.{count_trailing_zeros}
use lib.Lanes.{mask_l}
use Rattle.port_state.specs.declared.signal.Level.TheVariants as level
use Rattle.port_state.specs.declared.ports.PortView.{PortView}
use Rattle.port_state.specs.Ports.{every, lowest, is_connected, change_port, change_port_at}
use Rattle.port_state.specs.PortSet.{has_port}
use Rattle.port_state.specs.declared.port_words.Words.{Words}
use Rattle.port_state.specs.codings.WordsBack.{mask-ports}
use Rattle.port_state.specs.codings.PortWords.{has_bit, port_at, ports_of, all_ports, lowest_bit, FitsPorts}

-- ---- how many pass, whether any does, which is the lowest

pub count-ports :
    (test : PortView → Bool) (w : Words) (count word : ℕ) → word < 2 ^ count →
    ((k : ℕ) → has_bit word k ≡ test (port_at w k)) →
    count_ones word ≡ count_by test (ports_of count w)
count-ports test w count word fits h = ap count_ones (sym (mask-ports test w count word fits h)) ∙ ones-mask_l test (ports_of count w)

twice : (m : ℕ) → ((0 + 2 * m) == 0) ≡ (m == 0)
twice m = go (m == 0) refl
  where
    go : (b : Bool) → (m == 0) ≡ b → ((0 + 2 * m) == 0) ≡ b
    go true e = let z = eqb-true m 0 e in eq-eqb (0 + 2 * m) 0 (omega arith)
    go false e = let ne = eqb-false m 0 e in ne_eqb (0 + 2 * m) 0 (λ i. ne (omega arith))

none-mask :
    (test : PortView → Bool) (ports : List PortView) →
    (mask_l (map test ports) == 0) ≡ list_all (λ p. not (test p)) ports
none-mask test [] = refl
none-mask test (p ∷ ps) = go (test p) (none-mask test ps)
  where
    go :
        (b : Bool) → (mask_l (map test ps) == 0) ≡ list_all (λ q. not (test q)) ps →
        ((cond b 1 0 + 2 * mask_l (map test ps)) == 0) ≡ (not b && list_all (λ p. not (test p)) ps)
    go true rest = ne_eqb (1 + 2 * mask_l (map test ps)) 0 (λ i. omega arith)
    go false rest = twice (mask_l (map test ps)) ∙ rest

list_all-same :
    (f g : PortView → Bool) → ((p : PortView) → f p ≡ g p) → (ports : List PortView) →
    list_all f ports ≡ list_all g ports
list_all-same f g h [] = refl
list_all-same f g h (p ∷ ps) = rw (h p, list_all-same f g h ps) refl

-- every connected port passes a test, if the word shows those that don't
pub every-port :
    (test bad : PortView → Bool) (w : Words) (count word : ℕ) → word < 2 ^ count →
    ((k : ℕ) → has_bit word k ≡ bad (port_at w k)) →
    ((p : PortView) → not (bad p) ≡ (if p.connected then test p else true)) →
    (word == 0) ≡ every test (ports_of count w)
every-port test bad w count word fits h g =
    ap (λ n. n == 0) (sym (mask-ports bad w count word fits h)) ∙ none-mask bad (ports_of count w)
    ∙ list_all-same (λ p. not (bad p)) (λ p. if p.connected then test p else true) g (ports_of count w)

lowest-mask :
    (test : PortView → Bool) (i : ℕ) (ports : List PortView) → 0 < mask_l (map test ports) →
    position_from test i ports ≡ Some (i + prefix_len (λ p. not (test p)) ports)
lowest-mask test i [] h = absurd (omega arith)
lowest-mask test i (p ∷ ps) h = go (test p) h (lowest-mask test (i + 1) ps)
  where
    go :
        (b : Bool) → 0 < cond b 1 0 + 2 * mask_l (map test ps) →
        (0 < mask_l (map test ps) → position_from test (i + 1) ps ≡ Some (i + 1 + prefix_len (λ q. not (test q)) ps)) →
        cond b (Some i) (position_from test (i + 1) ps)
        ≡ Some (i + cond (not b) (1 + prefix_len (λ p. not (test p)) ps) 0)
    go true h rest = ap Some (let e : i ≡ i + 0 = omega arith in e)
    go false h rest =
        rest (omega arith)
        ∙ ap Some (let e : i + 1 + prefix_len (λ q. not (test q)) ps ≡ i + (1 + prefix_len (λ q. not (test q)) ps) = omega arith in e)

lowest-none :
    (test : PortView → Bool) (i : ℕ) (ports : List PortView) → mask_l (map test ports) ≡ 0 →
    position_from test i ports ≡ None
lowest-none test i [] h = refl
lowest-none test i (p ∷ ps) h = go (test p) h (lowest-none test (i + 1) ps)
  where
    go :
        (b : Bool) → cond b 1 0 + 2 * mask_l (map test ps) ≡ 0 →
        (mask_l (map test ps) ≡ 0 → position_from test (i + 1) ps ≡ None) →
        cond b (Some i) (position_from test (i + 1) ps) ≡ None
    go true h rest = absurd (omega arith)
    go false h rest = rest (omega arith)

pub length-ports : (count : ℕ) (w : Words) → length (ports_of count w) ≡ count
length-ports count w = rw (length-map (range_with_len 0 count) (port_at w), length-range_with_len 0 count) refl

pub ports-counted :
    (count : ℕ) (w : Words) (ports : List PortView) → ports_of count w ≡ ports → length ports ≡ count
ports-counted count w ports is = ap length (sym is) ∙ length-ports count w

pub no-port :
    (test : PortView → Bool) (w : Words) (count word : ℕ) → word < 2 ^ count →
    ((k : ℕ) → has_bit word k ≡ test (port_at w k)) → word ≡ 0 →
    lowest test (ports_of count w) ≡ None
no-port test w count word fits h e = lowest-none test 0 (ports_of count w) (mask-ports test w count word fits h ∙ e)

pub first-port :
    (test : PortView → Bool) (w : Words) (count word : ℕ) → word < 2 ^ count →
    ((k : ℕ) → has_bit word k ≡ test (port_at w k)) → count ≤ 16 → 0 < word →
    lowest test (ports_of count w) ≡ Some (count_trailing_zeros 16 word)
first-port test w count word fits h few some =
    let mask = mask-ports test w count word fits h in
    let set : 0 < mask_l (map test (ports_of count w)) = omega arith in
    let first : count_trailing_zeros 16 (mask_l (map test (ports_of count w))) ≡ prefix_len (λ p. not (test p)) (ports_of count w) =
    trailing_mask_l test 16 (ports_of count w) (omega (arith, length-ports count w)) set in
    lowest-mask test 0 (ports_of count w) set
    ∙ ap Some (let e : 0 + prefix_len (λ p. not (test p)) (ports_of count w) ≡ prefix_len (λ p. not (test p)) (ports_of count w) = omega arith in e ∙ sym first)
    ∙ ap (λ m. Some (count_trailing_zeros 16 m)) mask

-- the lowest bit is that of a port
pub first-exists :
    (count word : ℕ) → word < 2 ^ count → count ≤ 16 → 0 < word → word < 65536 →
    count_trailing_zeros 16 word < count
first-exists count word fits few some small = go (cases_lt (count_trailing_zeros 16 word) count)
  where
    go :
        (count_trailing_zeros 16 word < count) ⊎ (count ≤ count_trailing_zeros 16 word) →
        count_trailing_zeros 16 word < count
    go (inl l) = l
    go (inr l) =
        let set : bit_at word (count_trailing_zeros 16 word) ≡ 1 = (bit_at-trailing_zeros w16 word some small).1 in
        let clear : bit_at word (count_trailing_zeros 16 word) ≡ 0 = bit_at_above word count (count_trailing_zeros 16 word) fits l in
        absurd (omega arith)

pub lowest-port :
    (test : PortView → Bool) (w : Words) (count word : ℕ) → word < 2 ^ count →
    ((k : ℕ) → has_bit word k ≡ test (port_at w k)) → count ≤ 16 →
    lowest_bit word ≡ lowest test (ports_of count w)
lowest-port test w count word fits h few = go (word == 0) refl
  where
    go :
        (b : Bool) → (word == 0) ≡ b →
        (if b then None else Some (trailing_zeros w16 word)) ≡ lowest test (ports_of count w)
    go true e = sym (no-port test w count word fits h (eqb-true word 0 e))
    go false e = let ne = eqb-false word 0 e in sym (first-port test w count word fits h few (omega arith))

pub lowest-exists :
    (count word : ℕ) → word < 2 ^ count → count ≤ 16 → word < 65536 →
    ForSome (lowest_bit word) (λ p. p < count)
lowest-exists count word fits few small = go (word == 0) refl
  where
    go :
        (b : Bool) → (word == 0) ≡ b →
        ForSome (if b then None else Some (trailing_zeros w16 word)) (λ p. p < count)
    go true e x is = absurd cc
    go false e x is =
        let ne = eqb-false word 0 e in
        let same : trailing_zeros w16 word ≡ x = cc in
        subst (λ n. n < count) same (first-exists count word fits few (omega arith) small)

-- ---- ports got, appended and put

same-range :
    (f g : ℕ → PortView) (a n : ℕ) → ((k : ℕ) → a ≤ k → k < a + n → f k ≡ g k) →
    map f (range_with_len a n) ≡ map g (range_with_len a n)
same-range f g a zero h = refl
same-range f g a (suc n) h = rw (h a (omega arith) (omega arith), same-range f g (a + 1) n (λ k l m. h k (omega arith) (omega arith))) refl

get-range :
    (f : ℕ → PortView) (a n k : ℕ) → k < n →
    slice_get (map f (range_with_len a n)) k ≡ Some (f (a + k))
get-range f a zero k h = absurd (omega arith)
get-range f a (suc n) zero h = ap (λ i. Some (f i)) (let e : a ≡ a + 0 = omega arith in e)
get-range f a (suc n) (suc k) h = get-range f (a + 1) n k (omega arith) ∙ ap (λ i. Some (f i)) (let e : a + 1 + k ≡ a + suc k = omega arith in e)

set-range :
    (f g : ℕ → PortView) (p : PortView) (a n i : ℕ) → i < n →
    ((k : ℕ) → g k ≡ (if k == a + i then p else f k)) →
    map g (range_with_len a n) ≡ slice_set (map f (range_with_len a n)) i p
set-range f g p a zero i h e = absurd (omega arith)
set-range f g p a (suc n) zero h e =
    let at : g a ≡ p = e a ∙ ap (λ b. if b then p else f a) (eq-eqb a (a + 0) (omega arith)) in
    let rest : map g (range_with_len (a + 1) n) ≡ map f (range_with_len (a + 1) n) =
    same-range g f (a + 1) n (λ k l m. e k ∙ ap (λ b. if b then p else f k) (ne_eqb k (a + 0) (λ i. omega arith))) in
    rw (at, rest) refl
set-range f g p a (suc n) (suc i) h e =
    let at : g a ≡ f a = e a ∙ ap (λ b. if b then p else f a) (ne_eqb a (a + suc i) (λ j. omega arith)) in
    let place : a + suc i ≡ a + 1 + i = omega arith in
    let rest : map g (range_with_len (a + 1) n) ≡ slice_set (map f (range_with_len (a + 1) n)) i p =
    set-range f g p (a + 1) n i (omega arith) (λ k. e k ∙ ap (λ j. if k == j then p else f k) place) in
    rw (at, rest) refl

pub get-ports :
    (count : ℕ) (w : Words) (k : ℕ) → k < count →
    slice_get (ports_of count w) k ≡ Some (port_at w k)
get-ports count w k h = get-range (port_at w) 0 count k h ∙ ap (λ i. Some (port_at w i)) (let e : 0 + k ≡ k = omega arith in e)

pub set-ports :
    (count : ℕ) (w v : Words) (at : ℕ) (p : PortView) → at < count →
    ((k : ℕ) → port_at v k ≡ (if k == at then p else port_at w k)) →
    ports_of count v ≡ slice_set (ports_of count w) at p
set-ports count w v at p h e = set-range (port_at w) (port_at v) p 0 count at h (λ k. e k ∙ ap (λ i. if k == i then p else port_at w k) (let z : at ≡ 0 + at = omega arith in z))

pub push-ports :
    (count : ℕ) (w v : Words) (p : PortView) →
    ((k : ℕ) → port_at v k ≡ (if k == count then p else port_at w k)) →
    ports_of (count + 1) v ≡ ports_of count w ++ p ∷ []
push-ports count w v p e =
    let last : port_at v count ≡ p = e count ∙ ap (λ b. if b then p else port_at w count) (eq-eqb count count refl) in
    let before : ports_of count v ≡ ports_of count w =
    same-range (port_at v) (port_at w) 0 count (λ k l m. e k ∙ ap (λ b. if b then p else port_at w k) (ne_eqb k count (λ i. omega arith))) in
    map-range_with_len_more (port_at v) 0 count count (let z : 0 + count ≡ count = omega arith in z) ∙ rw (last, before) refl

-- ---- ports changed

pub map-ports :
    (f : PortView → PortView) (count : ℕ) (w v : Words) →
    ((k : ℕ) → port_at v k ≡ f (port_at w k)) → ports_of count v ≡ map f (ports_of count w)
map-ports f count w v h = go (range_with_len 0 count)
  where
    go : (ks : List ℕ) → map (port_at v) ks ≡ map f (map (port_at w) ks)
    go [] = refl
    go (k ∷ ks) = rw (h k, go ks) refl

at-changed :
    (f : PortView → PortView) (w : Words) (at k : ℕ) →
    (if k == at then f (port_at w k) else port_at w k)
    ≡ (if k == at then f (port_at w at) else port_at w k)
at-changed f w at k = go (k == at) refl
  where
    go :
        (b : Bool) → (k == at) ≡ b →
        (if b then f (port_at w k) else port_at w k) ≡ (if b then f (port_at w at) else port_at w k)
    go true i = ap (λ j. f (port_at w j)) (eqb-true k at i)
    go false i = refl

pub change-ports :
    (f : PortView → PortView) (count : ℕ) (w v : Words) (at : ℕ) → at < count →
    ((k : ℕ) → port_at v k ≡ (if k == at then f (port_at w k) else port_at w k)) →
    ports_of count v ≡ change_port at f (ports_of count w)
change-ports f count w v at h e =
    set-ports count w v at (f (port_at w at)) h (λ k. e k ∙ at-changed f w at k)
    ∙ sym (ap (λ o. change_port_at o at f (ports_of count w)) (get-ports count w at h))

-- ---- the views of 16 ports, there or not

-- what no bits say of a port
abbrev pub no_view : PortView
no_view = record {
  connected = false;
  shown = level.Reset;
  child = false;
  asked = false;
  named = false;
}

no-bit : (word k : ℕ) → word < 2 ^ 0 → has_bit word k ≡ false
no-bit word k less =
    let none : word ≡ 0 = omega arith in
    ap (λ n. has_bit n k) none ∙ ap (λ n. n == 1) (bit_at-zero k)

no-view : (w : Words) (k : ℕ) → FitsPorts 0 w → no_view ≡ port_at w k
no-view w k f = rw (
  no-bit w.connected k f.connected,
  no-bit w.high k f.high,
  no-bit w.low k f.low,
  no-bit w.child k f.child,
  no-bit w.asked k f.asked,
  no-bit w.named k f.named,
) refl

no-views :
    (w : Words) → FitsPorts 0 w → (a n : ℕ) →
    replicate n no_view ≡ map (port_at w) (range_with_len a n)
no-views w f a zero = refl
no-views w f a (suc n) =
    ap (λ p. p ∷ replicate n no_view) (no-view w a f)
    ∙ ap (λ ps. port_at w a ∷ ps) (no-views w f (a + 1) n)

pub all-none : (w : Words) → FitsPorts 0 w → replicate 16 no_view ≡ all_ports w
unfolding all_ports
all-none w f = no-views w f 0 16

pub all-first :
    (w : Words) (views : List PortView) (count at : ℕ) → at ≡ count → count ≤ 16 →
    views ≡ all_ports w → take at views ≡ ports_of count w
unfolding all_ports
all-first w views count at here few is =
    ap (λ n. take n views) here ∙ ap (take count) is
    ∙ take-map-range_with_len (port_at w) 0 16 count few

pub all-set :
    (w v : Words) (views : List PortView) (at i : ℕ) (p : PortView) → i ≡ at → at < 16 →
    views ≡ all_ports w → ((k : ℕ) → port_at v k ≡ (if k == at then p else port_at w k)) →
    slice_set views i p ≡ all_ports v
unfolding all_ports
all-set w v views at i p here h is e =
    ap (λ n. slice_set views n p) here ∙ ap (λ xs. slice_set xs at p) is
    ∙ sym (set-ports 16 w v at p h e)

port-got :
    (w : Words) (at : ℕ) (d : PortView) → at < 16 → get_or (ports_of 16 w) at d ≡ port_at w at
port-got w at d h =
    get_or-map (port_at w) (range_with_len 0 16) at 0 d (omega (arith, length-range_with_len 0 16))
    ∙ ap (port_at w) (get_or-range_with_len 0 16 at 0 h ∙ (let e : 0 + at ≡ at = omega arith in e))

pub all-changed :
    (f : PortView → PortView) (w v : Words) (views : List PortView) (at i : ℕ) (d : PortView) →
    i ≡ at → at < 16 → views ≡ all_ports w →
    ((k : ℕ) → port_at v k ≡ (if k == at then f (port_at w k) else port_at w k)) →
    slice_set views i (f (get_or views i d)) ≡ all_ports v
unfolding all_ports
all-changed f w v views at i d here h is e =
    ap (λ n. slice_set views n (f (get_or views n d))) here
    ∙ ap (λ xs. slice_set xs at (f (get_or xs at d))) is
    ∙ ap (λ p. slice_set (ports_of 16 w) at (f p)) (port-got w at d h)
    ∙ sym (set-ports 16 w v at (f (port_at w at)) h (λ k. e k ∙ at-changed f w at k))

pub all-mapped :
    (f : PortView → PortView) (w v : Words) (views : List PortView) → views ≡ all_ports w →
    ((k : ℕ) → port_at v k ≡ f (port_at w k)) → map f views ≡ all_ports v
unfolding all_ports
all-mapped f w v views is h = ap (map f) is ∙ sym (map-ports f 16 w v h)

-- ---- the ports that are connected

pub connected-ports :
    (count : ℕ) (w : Words) (k : ℕ) → w.connected < 2 ^ count → count ≤ 16 →
    has_port w.connected k ≡ is_connected (ports_of count w) k
connected-ports count w k fits few = go (cases_lt k count)
  where
    go : (k < count) ⊎ (count ≤ k) → has_port w.connected k ≡ is_connected (ports_of count w) k
    go (inl l) = rw (lt-ltb k 16 (omega arith), get-ports count w k l) refl
    go (inr l) =
        rw (bit_at_above w.connected count k fits l, slice_get_past (ports_of count w) k (omega (arith, length-ports count w)))
        (and_right (nat_lt k 16) false refl)
