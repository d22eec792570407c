-- What is under way on the wires of a node, entry by entry.
use Rattle.std.proofs.Common.{◌≡◌, ℕ, zero, suc, ◌+◌, ◌-◌, ◌<◌, ◌≤◌, Bool, true, false, not, ◌&&◌, ◌||◌, ◌==◌, min, List, [], ◌∷◌, ◌++◌, map, length, replicate, take, drop, get_or, slice_set, All, refl, sym, ◌∙◌, ap, subst, inl, inr, arith, if◌then◌else◌}
use Rattle.std.specs.Prelude.{nat_lt, ◌↔◌}
use Rattle.std.proofs.lemmas.Bool.{cases_eq, cases_lt, eqb-true, le-ltb, ltb-false, eq-eqb, ne_eqb, and_cases, and_left, and_right}
use Rattle.std.proofs.lemmas.List.{same_lists, append_assoc, append-nil, nil_from_length, get_or_past, get_or_default, drop_more, take_more, take_more_set, take_all, take-take, take-set-le, take-append-le, take-append-drop, length-take, drop-drop, get_or-drop, map-append, length-map, length-set, get_or-set_same, get_or-set_other, get_or-map}
use Rattle.std.proofs.lemmas.List.Elements.{All-tail}
use Rattle.port_state.specs.declared.signal.Signal.{Signal}
use Rattle.port_state.specs.Ports.{PortNumber}
use Rattle.port_state.specs.Sends.{PortSignal, sent_on}
use Rattle.port_state.specs.PortSet.{has_port, all_sent}
use Rattle.port_state.specs.declared.outbox.Sent.{Sent}
use Rattle.port_state.proofs.Lemmas.{has-above, sent_on-all_sent}
use Rattle.cable_world.specs.declared.wire.UnderWay.{UnderWay}
use Rattle.cable_world.specs.Wire.{Travelling, Wire, empty_wire, new_signal, add_signals, age_signal, age_wire, gives, arrives, stays}
use Rattle.cable_world.specs.Turn.{wires_after_sends}
use Rattle.cable_world.specs.Still.{IsSilent}
use Rattle.cable_world.specs.running.Ages.{AreYoung}
use Rattle.cable_world.specs.running.Rest.{AreAtRest, AreNone}
use Rattle.cable_world.specs.running.Rows.{on_port, signals_on, older, wire_at, keeps, wires_from, arrivals_from}

abbrev travelling : UnderWay → Travelling
travelling e = record { signal = e.signal; age = e.age }

-- ---- a list of which the rest is as before

pub same-left : {X : Type 0} → (i : ℕ) (now old : List X) → drop i now ≡ drop i old → drop (i + 1) now ≡ drop (i + 1) old
same-left i now old e = sym (drop-drop 1 i now) ∙ ap (drop 1) e ∙ drop-drop 1 i old

pub same-next : {X : Type 0} → (i : ℕ) (now old : List X) (d : X) → drop i now ≡ drop i old → get_or now i d ≡ get_or old i d
same-next i now old d e =
    let z : i + 0 ≡ i = omega arith in
    ap (λ k. get_or now k d) (sym z) ∙ sym (get_or-drop i now 0 d) ∙ ap (λ xs. get_or xs 0 d) e ∙ get_or-drop i old 0 d ∙ ap (λ k. get_or old k d) z

-- ---- one entry

on_port-has : (p : PortNumber) (e : UnderWay) (sent : List UnderWay) → has_port e.ports p ≡ true →
    on_port p (e ∷ sent) ≡ record { signal = e.signal; age = e.age } ∷ on_port p sent
on_port-has p e sent h = ap (λ b. if b then travelling e ∷ on_port p sent else on_port p sent) h

on_port-has_not : (p : PortNumber) (e : UnderWay) (sent : List UnderWay) → has_port e.ports p ≡ false →
    on_port p (e ∷ sent) ≡ on_port p sent
on_port-has_not p e sent h = ap (λ b. if b then travelling e ∷ on_port p sent else on_port p sent) h

pub on_port-append : (p : PortNumber) (first second : List UnderWay) →
    on_port p (first ++ second) ≡ on_port p first ++ on_port p second
on_port-append p [] second = refl
on_port-append p (e ∷ first) second =
    ap (λ ts. if has_port e.ports p then travelling e ∷ ts else ts) (on_port-append p first second)
    ∙ go (has_port e.ports p)
  where
    go : (b : Bool) → (if b then travelling e ∷ (on_port p first ++ on_port p second) else on_port p first ++ on_port p second)
        ≡ (if b then travelling e ∷ on_port p first else on_port p first) ++ on_port p second
    go true = refl
    go false = refl

-- what is left of the entries, and one less
module _ (p : PortNumber) (sent : List UnderWay) (i : ℕ) (e : UnderWay) (inside : i < length sent) (at : e ≡ get_or sent i e) where
  cut : drop i sent ≡ e ∷ drop (i + 1) sent
  cut = drop_more sent i e inside ∙ ap (λ x. x ∷ drop (i + 1) sent) (sym at)

  pub left-has : has_port e.ports p ≡ true → signals_on p (drop i sent) ≡ e.signal ∷ signals_on p (drop (i + 1) sent)
  left-has h = ap (signals_on p) cut ∙ ap (map (λ (t : Travelling). t.signal)) (on_port-has p e (drop (i + 1) sent) h)

  pub left-has_not : has_port e.ports p ≡ false → signals_on p (drop i sent) ≡ signals_on p (drop (i + 1) sent)
  left-has_not h = ap (signals_on p) cut ∙ ap (map (λ (t : Travelling). t.signal)) (on_port-has_not p e (drop (i + 1) sent) h)

-- the first entries, and one more
on_port-more : (p : PortNumber) (sent : List UnderWay) (i : ℕ) (e : UnderWay) → i < length sent →
    e ≡ get_or sent i e → on_port p (take (i + 1) sent) ≡ on_port p (take i sent) ++ on_port p (e ∷ [])
on_port-more p sent i e inside at =
    ap (on_port p) (take_more sent i e inside ∙ ap (λ x. take i sent ++ x ∷ []) (sym at)) ∙ on_port-append p (take i sent) (e ∷ [])

pub union-more :
    (p : PortNumber) (sent : List UnderWay) (i ports new : ℕ) (e : UnderWay) → i < length sent → e ≡ get_or sent i e →
    has_port new p ≡ (has_port ports p || has_port e.ports p) → (has_port ports p ≡ false) ↔ (on_port p (take i sent) ≡ []) →
    (has_port new p ≡ false) ↔ (on_port p (take (i + 1) sent) ≡ [])
union-more p sent i ports new e inside at is h =
    rw (is, on_port-more p sent i e inside at) (go (has_port ports p) (has_port e.ports p) (on_port p (take i sent)) h)
  where
    some : (ts : List Travelling) → ts ++ travelling e ∷ [] ≡ [] → ⊥
    some [] f = cc
    some (t ∷ ts) f = cc

    go : (a b : Bool) (ts : List Travelling) → (a ≡ false) ↔ (ts ≡ []) →
        ((a || b) ≡ false) ↔ (ts ++ (if b then travelling e ∷ [] else []) ≡ [])
    go true b [] h = let f : true ≡ false = h.1 refl in absurd cc
    go true b (t ∷ ts) h = (λ f. absurd cc, λ f. absurd cc)
    go false true ts h = (λ f. absurd cc, λ f. absurd (some ts f))
    go false false ts h = (λ f. ap (λ us. us ++ []) (h.0 refl), λ f. refl)

-- one more entry is sent
pub sent-more :
    (p : PortNumber) (sends : List Sent) (i : ℕ) (e : Sent) (sent next : List UnderWay) → i < length sends → e ≡ get_or sends i e →
    next ≡ sent ++ record { ports = e.ports; signal = e.signal; age = 0 } ∷ [] →
    on_port p next ++ map new_signal (sent_on p (all_sent (drop (i + 1) sends)))
    ≡ on_port p sent ++ map new_signal (sent_on p (all_sent (drop i sends)))
sent-more p sends i e sent next inside at made =
    let new : UnderWay = record { ports = e.ports; signal = e.signal; age = 0 } in
    let rest = drop (i + 1) sends in
    let cut : drop i sends ≡ e ∷ rest = drop_more sends i e inside ∙ ap (λ x. x ∷ rest) (sym at) in
    ap (λ us. on_port p us ++ map new_signal (sent_on p (all_sent rest))) made
    ∙ ap (λ ts. ts ++ map new_signal (sent_on p (all_sent rest))) (on_port-append p sent (new ∷ []))
    ∙ go (has_port e.ports p) (on_port p sent) (sent_on p (all_sent rest))
    ∙ sym (ap (λ ss. on_port p sent ++ map new_signal ss) (ap (λ es. sent_on p (all_sent es)) cut ∙ sent_on-all_sent p e rest))
  where
    go : (b : Bool) (ts : List Travelling) (ss : List Signal) →
        (ts ++ (if b then new_signal e.signal ∷ [] else [])) ++ map new_signal ss ≡ ts ++ map new_signal (if b then e.signal ∷ ss else ss)
    go true ts ss = append_assoc ts (new_signal e.signal ∷ []) (map new_signal ss)
    go false ts ss = append_assoc ts [] (map new_signal ss)

-- an entry may lose some ports, while those behind it are as before
module _ (p : PortNumber) (i : ℕ) (now old : List UnderWay) (e : UnderWay) (q : Bool) (inside : i < length now) (within : i < length old)
    (same : drop i now ≡ drop i old) (at : e ≡ get_or now i e)
    (before : on_port p (take i now) ≡ (if q then [] else on_port p (take i old))) where
  more : on_port p (take (i + 1) old) ≡ on_port p (take i old) ++ on_port p (e ∷ [])
  more = on_port-more p old i e within (at ∙ same-next i now old e same)

  pub cut-more :
      (ports : ℕ) (d : UnderWay) → has_port ports p ≡ (has_port e.ports p && not q) →
      on_port p (take (i + 1) (slice_set now i (record { ports = ports; signal = (get_or now i d).signal; age = (get_or now i d).age })))
      ≡ (if q then [] else on_port p (take (i + 1) old))
  cut-more ports d has =
      let new : UnderWay = record { ports = ports; signal = e.signal; age = e.age } in
      let is : get_or now i d ≡ e = get_or_default now i d e inside ∙ sym at in
      ap (λ (x : UnderWay). on_port p (take (i + 1) (slice_set now i (record { ports = ports; signal = x.signal; age = x.age })))) is
      ∙ ap (on_port p) (take_more_set now i new inside) ∙ on_port-append p (take i now) (new ∷ [])
      ∙ ap (λ ts. ts ++ on_port p (new ∷ [])) before
      ∙ ap (λ b. (if q then [] else on_port p (take i old)) ++ (if b then travelling e ∷ [] else [])) has
      ∙ go q (has_port e.ports p) (on_port p (take i old)) ∙ sym (ap (λ ts. if q then [] else ts) more)
    where
      go : (q b : Bool) (ts : List Travelling) →
          (if q then [] else ts) ++ (if b && not q then travelling e ∷ [] else []) ≡ (if q then [] else ts ++ (if b then travelling e ∷ [] else []))
      go true true ts = refl
      go true false ts = refl
      go false true ts = refl
      go false false ts = refl

  pub uncut-more : (has_port e.ports p && q) ≡ false →
      on_port p (take (i + 1) now) ≡ (if q then [] else on_port p (take (i + 1) old))
  uncut-more none =
      on_port-more p now i e inside at ∙ ap (λ ts. ts ++ on_port p (e ∷ [])) before
      ∙ go q (has_port e.ports p) (on_port p (take i old)) none ∙ sym (ap (λ ts. if q then [] else ts) more)
    where
      go : (q b : Bool) (ts : List Travelling) → (b && q) ≡ false →
          (if q then [] else ts) ++ (if b then travelling e ∷ [] else []) ≡ (if q then [] else ts ++ (if b then travelling e ∷ [] else []))
      go true true ts f = absurd cc
      go true false ts f = refl
      go false true ts f = refl
      go false false ts f = refl

-- some ports of an entry may be kept
module _ (p : PortNumber) (i : ℕ) (old kept : List UnderWay) (e : UnderWay) (q : Bool) (inside : i < length old) (at : e ≡ get_or old i e)
    (before : on_port p kept ≡ (if q then map older (on_port p (take i old)) else [])) where
  kept-more : (b : Bool) → b ≡ (has_port e.ports p && q) →
      on_port p kept ++ (if b then older (travelling e) ∷ [] else []) ≡ (if q then map older (on_port p (take (i + 1) old)) else [])
  kept-more b is = rw (before, is, on_port-more p old i e inside at) (go q (has_port e.ports p) (on_port p (take i old)))
    where
      go : (q b : Bool) (ts : List Travelling) →
          (if q then map older ts else []) ++ (if b && q then older (travelling e) ∷ [] else [])
          ≡ (if q then map older (ts ++ (if b then travelling e ∷ [] else [])) else [])
      go true true ts = sym (map-append older ts (travelling e ∷ []))
      go true false ts = sym (map-append older ts [])
      go false true ts = refl
      go false false ts = refl

  pub kept-passed : (has_port e.ports p && q) ≡ false →
      on_port p kept ≡ (if q then map older (on_port p (take (i + 1) old)) else [])
  kept-passed none = sym (append-nil (on_port p kept)) ∙ kept-more false (sym none)

  pub kept-pushed :
      (ports age : ℕ) (next : List UnderWay) → next ≡ kept ++ record { ports = ports; signal = e.signal; age = age } ∷ [] →
      age ≡ min (e.age + 1) 255 → has_port ports p ≡ (has_port e.ports p && q) →
      on_port p next ≡ (if q then map older (on_port p (take (i + 1) old)) else [])
  kept-pushed ports age next made grown has =
      ap (on_port p) made ∙ on_port-append p kept (record { ports = ports; signal = e.signal; age = age } ∷ [])
      ∙ ap (λ n. on_port p kept ++ on_port p (record { ports = ports; signal = e.signal; age = n } ∷ [])) grown
      ∙ kept-more (has_port ports p) has

-- a set has ports below 16 alone
on_port-past : (p : PortNumber) (sent : List UnderWay) → 16 ≤ p → on_port p sent ≡ []
on_port-past p [] h = refl
on_port-past p (e ∷ sent) h =
    on_port-has_not p e sent (and_left (nat_lt p 16) _ (le-ltb p 16 h)) ∙ on_port-past p sent h

-- ---- one wire of a row, and one port's arrivals

pub wires-length : (p : PortNumber) (sent : List UnderWay) (held : List ℕ) →
    length (wires_from p sent held) ≡ length held
wires-length p sent [] = refl
wires-length p sent (h ∷ held) = ap suc (wires-length (p + 1) sent held)

pub arrivals-length : (n p : ℕ) (sent : List UnderWay) → length (arrivals_from n p sent) ≡ n
arrivals-length zero p sent = refl
arrivals-length (suc n) p sent = ap suc (arrivals-length n (p + 1) sent)

wire-from : (p : PortNumber) (sent : List UnderWay) (held : List ℕ) (k : ℕ) (d : Wire) → k < length held →
    get_or (wires_from p sent held) k d ≡ wire_at (p + k) sent (get_or held k 0)
wire-from p sent [] k d inside = absurd (omega arith)
wire-from p sent (h ∷ held) zero d inside = let e : p ≡ p + 0 = omega arith in ap (λ q. wire_at q sent h) e
wire-from p sent (h ∷ held) (suc k) d inside =
    let e : p + 1 + k ≡ p + suc k = omega arith in
    wire-from (p + 1) sent held k d (omega arith) ∙ ap (λ q. wire_at q sent (get_or held k 0)) e

pub wire-is : (sent : List UnderWay) (held : List ℕ) (k : ℕ) (d : Wire) → k < length held →
    get_or (wires_from 0 sent held) k d ≡ wire_at k sent (get_or held k 0)
wire-is sent held k d inside =
    let e : 0 + k ≡ k = omega arith in
    wire-from 0 sent held k d inside ∙ ap (λ q. wire_at q sent (get_or held k 0)) e

arrival-from : (n p : ℕ) (sent : List UnderWay) (k : ℕ) (d : List Signal) → k < n →
    get_or (arrivals_from n p sent) k d ≡ signals_on (p + k) sent
arrival-from zero p sent k d inside = absurd (omega arith)
arrival-from (suc n) p sent zero d inside = let e : p ≡ p + 0 = omega arith in ap (λ q. signals_on q sent) e
arrival-from (suc n) p sent (suc k) d inside =
    let e : p + 1 + k ≡ p + suc k = omega arith in
    arrival-from n (p + 1) sent k d (omega arith) ∙ ap (λ q. signals_on q sent) e

pub arrival-is : (n : ℕ) (sent : List UnderWay) (k : ℕ) (d : List Signal) → k < n →
    get_or (arrivals_from n 0 sent) k d ≡ signals_on k sent
arrival-is n sent k d inside =
    let e : 0 + k ≡ k = omega arith in arrival-from n 0 sent k d inside ∙ ap (λ q. signals_on q sent) e

pub arrival-past : (n : ℕ) (sent : List UnderWay) (k : ℕ) → n ≤ k → get_or (arrivals_from n 0 sent) k [] ≡ []
arrival-past n sent k past = get_or_past (arrivals_from n 0 sent) k [] (omega (arith, past, arrivals-length n 0 sent))

pub wire-past : (sent : List UnderWay) (held : List ℕ) (k : ℕ) → length held ≤ k →
    get_or (wires_from 0 sent held) k empty_wire ≡ empty_wire
wire-past sent held k past = get_or_past (wires_from 0 sent held) k empty_wire (omega (arith, past, wires-length 0 sent held))

pub no-arrival : (n : ℕ) (sent : List UnderWay) (k : ℕ) → on_port k sent ≡ [] → get_or (arrivals_from n 0 sent) k [] ≡ []
no-arrival n sent k none = elim (cases_lt k n) [
  | inl inside ↦ arrival-is n sent k [] inside ∙ ap (map (λ (t : Travelling). t.signal)) none
  | inr past ↦ arrival-past n sent k past
]

-- ---- what is sent

pub sent-is :
    (old new : List UnderWay) (sends : List PortSignal) →
    ((p : ℕ) → on_port p new ≡ on_port p old ++ map new_signal (sent_on p sends)) → (p : PortNumber) (held : List ℕ) →
    wires_from p new held ≡ wires_after_sends p sends (wires_from p old held)
sent-is old new sends e p [] = refl
sent-is old new sends e p (h ∷ held) =
    ap (λ ts. record { signals = ts; held = h } ∷ wires_from (p + 1) new held) (e p)
    ∙ ap (λ ws. add_signals (sent_on p sends) (wire_at p old h) ∷ ws) (sent-is old new sends e (p + 1) held)

-- ---- rows that are made wire by wire

-- a change of one wire
pub put-is :
    (old new : List UnderWay) (held : List ℕ) (port turns : ℕ) (w : Wire) → port < length held →
    wire_at port new turns ≡ w → ((p : ℕ) → (p ≡ port → ⊥) → on_port p new ≡ on_port p old) →
    wires_from 0 new (slice_set held port turns) ≡ slice_set (wires_from 0 old held) port w
put-is old new held port turns w inside here others =
    let long = wires-length 0 old held in
    let rows = wires_from 0 old held in
    same_lists (wires_from 0 new (slice_set held port turns)) (slice_set rows port w)
    (wires-length 0 new (slice_set held port turns) ∙ length-set held port turns ∙ sym long ∙ sym (length-set rows port w))
    (λ k d less.
    let within : k < length held = omega (arith, less, wires-length 0 new (slice_set held port turns), length-set held port turns) in
    wire-is new (slice_set held port turns) k d (omega (arith, within, length-set held port turns))
    ∙ elim (cases_eq k port) [
      | inl same ↦
          ap (λ q. wire_at q new (get_or (slice_set held port turns) q 0)) same
          ∙ ap (wire_at port new) (get_or-set_same held port turns 0 inside) ∙ here
          ∙ sym (ap (λ q. get_or (slice_set rows port w) q d) same ∙ get_or-set_same rows port w d (omega (arith, inside, long)))
      | inr ne ↦
          ap (wire_at k new) (get_or-set_other held port k turns 0 ne)
          ∙ ap (λ ts. record { signals = ts; held = get_or held k 0 }) (others k ne)
          ∙ sym (get_or-set_other rows port k w d ne ∙ wire-is old held k d within)
    ])

-- ---- the first entries

none-of : {X : Type 0} → (xs ys : List X) → xs ++ ys ≡ [] → xs ≡ []
none-of [] ys e = refl
none-of (x ∷ xs) ys e = cc

-- where nothing is under way in all of them, nothing is in the first
pub none-before :
    (p n : ℕ) (sent : List UnderWay) → on_port p sent ≡ [] → on_port p (take n sent) ≡ []
none-before p n sent none =
    none-of (on_port p (take n sent)) (on_port p (drop n sent))
    (sym (on_port-append p (take n sent) (drop n sent)) ∙ ap (on_port p) (take-append-drop n sent) ∙ none)

pub behind-more :
    (old sent new : List UnderWay) (e : UnderWay) → take (length old) sent ≡ old →
    new ≡ sent ++ e ∷ [] → take (length old) new ≡ old
behind-more old sent new e is more =
    let few : length old ≤ length sent = omega (arith, ap length is, length-take (length old) sent) in
    ap (take (length old)) more ∙ take-append-le (length old) sent (e ∷ []) few ∙ is

-- a place is changed: of the entries before it and of those with it
pub places-more :
    (p i : ℕ) (now old : List UnderWay) (e : UnderWay) (q : Bool) →
    ((n : ℕ) → n ≤ i → on_port p (take n now) ≡ (if q then [] else on_port p (take n old))) →
    on_port p (take (i + 1) (slice_set now i e)) ≡ (if q then [] else on_port p (take (i + 1) old)) →
    (n : ℕ) → n ≤ i + 1 →
    on_port p (take n (slice_set now i e)) ≡ (if q then [] else on_port p (take n old))
places-more p i now old e q before here n few = elim (cases_lt i n) [
  | inl more ↦
      let last : n ≡ i + 1 = omega arith in
      subst (λ m. on_port p (take m (slice_set now i e)) ≡ (if q then [] else on_port p (take m old))) (sym last) here
  | inr less ↦ ap (on_port p) (take-set-le n now i e less) ∙ before n less
]

-- nothing is changed before the first place, and nothing is under way there
pub places-before :
    (p port from n : ℕ) (sent : List UnderWay) → on_port port (take from sent) ≡ [] → n ≤ from →
    on_port p (take n sent) ≡ (if p == port then [] else on_port p (take n sent))
places-before p port from n sent none few = go (p == port) refl
  where
    go : (q : Bool) → (p == port) ≡ q → on_port p (take n sent) ≡ (if q then [] else on_port p (take n sent))
    go true e =
        ap (on_port p) (sym (take-take n from sent few))
        ∙ none-before p n (take from sent) (ap (λ k. on_port k (take from sent)) (eqb-true p port e) ∙ none)
    go false e = refl

-- all places
pub places-all :
    (p at n : ℕ) (now old : List UnderWay) (q : Bool) → length now ≤ at → length old ≤ at →
    ((m : ℕ) → m ≤ at → on_port p (take m now) ≡ (if q then [] else on_port p (take m old))) →
    on_port p (take n now) ≡ (if q then [] else on_port p (take n old))
places-all p at n now old q short few done = elim (cases_lt at n) [
  | inl more ↦
      ap (on_port p) (take_all n now (omega arith) ∙ sym (take_all at now short))
      ∙ done at (omega arith)
      ∙ ap (λ xs. if q then [] else on_port p xs) (take_all at old few ∙ sym (take_all n old (omega arith)))
  | inr less ↦ done n less
]

pub places-whole :
    (p : ℕ) (now old : List UnderWay) (q : Bool) → length now ≡ length old →
    ((n : ℕ) → on_port p (take n now) ≡ (if q then [] else on_port p (take n old))) →
    on_port p now ≡ (if q then [] else on_port p old)
places-whole p now old q long h =
    ap (on_port p) (sym (take_all (length now) now (omega arith))) ∙ h (length now)
    ∙ ap (λ xs. if q then [] else on_port p xs) (take_all (length now) old (omega (arith, long)))

-- nothing is under way where there is no port
pub none-past : (p : ℕ) (sent : List UnderWay) → 16 ≤ p → on_port p sent ≡ []
none-past p [] far = refl
none-past p (e ∷ sent) far = on_port-has_not p e sent (has-above e.ports p far) ∙ none-past p sent far

pub none-cleared :
    (p port : ℕ) (sent : List UnderWay) → 16 ≤ port →
    on_port p sent ≡ (if p == port then [] else on_port p sent)
none-cleared p port sent far = go (p == port) refl
  where
    go : (q : Bool) → (p == port) ≡ q → on_port p sent ≡ (if q then [] else on_port p sent)
    go true e = none-past p sent (omega (arith, eqb-true p port e))
    go false e = refl

pub cleared-is :
    (old new : List UnderWay) (held : List ℕ) (port : ℕ) → port < length held →
    ((p : ℕ) → on_port p new ≡ (if p == port then [] else on_port p old)) →
    wires_from 0 new (slice_set held port 0) ≡ slice_set (wires_from 0 old held) port empty_wire
cleared-is old new held port inside is =
    put-is old new held port 0 empty_wire inside
    (ap (λ ts. record { signals = ts; held = 0 }) (is port ∙ ap (λ b. if b then [] else on_port port old) (eq-eqb port port refl)))
    (λ p ne. is p ∙ ap (λ b. if b then [] else on_port p old) (ne_eqb p port ne))

pub held-is :
    (sent : List UnderWay) (held : List ℕ) (port turns : ℕ) → port < length held →
    wires_from 0 sent (slice_set held port turns)
    ≡ slice_set (wires_from 0 sent held) port (record (get_or (wires_from 0 sent held) port empty_wire) { held = turns })
held-is sent held port turns inside =
    put-is sent sent held port turns _ inside
    (sym (ap (λ (w : Wire). record w { held = turns }) (wire-is sent held port empty_wire inside))) (λ p ne. refl)

-- a change of each wire
pub each-is :
    (f : Wire → Wire) (g : ℕ → ℕ) (old new : List UnderWay) (held : List ℕ) →
    ((k : ℕ) → k < length held → wire_at k new (g (get_or held k 0)) ≡ f (wire_at k old (get_or held k 0))) →
    wires_from 0 new (map g held) ≡ map f (wires_from 0 old held)
each-is f g old new held e =
    let long = wires-length 0 new (map g held) ∙ length-map held g in
    same_lists (wires_from 0 new (map g held)) (map f (wires_from 0 old held))
    (long ∙ sym (wires-length 0 old held) ∙ sym (length-map (wires_from 0 old held) f))
    (λ k d less.
    let inside : k < length held = omega (arith, less, long) in
    wire-is new (map g held) k d (omega (arith, inside, length-map held g))
    ∙ ap (wire_at k new) (get_or-map g held k 0 0 inside) ∙ e k inside
    ∙ ap f (sym (wire-is old held k empty_wire inside))
    ∙ sym (get_or-map f (wires_from 0 old held) k empty_wire d (omega (arith, inside, wires-length 0 old held))))

-- what arrives from each wire
pub arrived-is :
    (f : Wire → List Signal) (old arriving : List UnderWay) (held : List ℕ) (n : ℕ) → n ≡ length held →
    ((k : ℕ) → k < length held → signals_on k arriving ≡ f (wire_at k old (get_or held k 0))) →
    arrivals_from n 0 arriving ≡ map f (wires_from 0 old held)
arrived-is f old arriving held n many e =
    let long = wires-length 0 old held in
    same_lists (arrivals_from n 0 arriving) (map f (wires_from 0 old held))
    (arrivals-length n 0 arriving ∙ many ∙ sym long ∙ sym (length-map (wires_from 0 old held) f))
    (λ k d less.
    let inside : k < length held = omega (arith, less, many, arrivals-length n 0 arriving) in
    arrival-is n arriving k d (omega (arith, inside, many)) ∙ e k inside ∙ ap f (sym (wire-is old held k empty_wire inside))
    ∙ sym (get_or-map f (wires_from 0 old held) k empty_wire d (omega (arith, inside, long))))

-- ---- a turn

map-twice : {X Y Z : Type 0} → (g : Y → Z) (f : X → Y) (xs : List X) → map g (map f xs) ≡ map (λ x. g (f x)) xs
map-twice g f [] = refl
map-twice g f (x ∷ xs) = ap (λ l. g (f x) ∷ l) (map-twice g f xs)

-- a wire keeps its signals or gives them
kept : {X : Type 0} → (below g : Bool) (xs : List X) → (below ≡ false → xs ≡ []) →
    (if below && not g then xs else []) ≡ (if g then [] else xs)
kept true true xs past = refl
kept true false xs past = refl
kept false true xs past = refl
kept false false xs past = sym (past refl)

given : {X : Type 0} → (below g : Bool) (xs : List X) → (below ≡ false → xs ≡ []) →
    (if below && not g then [] else xs) ≡ (if g then xs else [])
given true true xs past = refl
given true false xs past = refl
given false true xs past = refl
given false false xs past = past refl

abbrev of : Travelling → Signal
of t = t.signal

-- ages that have room to grow
pub grown : (ts : List Travelling) → All (λ (t : Travelling). t.age < 255) ts → map older ts ≡ map age_signal ts
grown [] young = refl
grown (t ∷ ts) young =
    let e : min (t.age + 1) 255 ≡ t.age + 1 = omega (arith, young 0 t (omega arith)) in
    ap (λ n. record t { age = n } ∷ map older ts) e
    ∙ ap (λ l. age_signal t ∷ l) (grown ts (All-tail (λ (u : Travelling). u.age < 255) t ts young))

pub wire-stays :
    (d k : ℕ) (sent staying : List UnderWay) (ports h : ℕ) → AreYoung (wire_at k sent h) →
    has_port ports k ≡ (nat_lt k 16 && keeps d k sent h) →
    on_port k staying ≡ (if has_port ports k then map older (on_port k sent) else []) →
    wire_at k staying (h - 1) ≡ stays d (wire_at k sent h)
wire-stays d k sent staying ports h young has is =
    let grow = map age_signal (on_port k sent) in
    ap (λ ts. record { signals = ts; held = h - 1 })
    (is ∙ ap (λ ts. if has_port ports k then ts else []) (grown (on_port k sent) young) ∙ ap (λ b. if b then grow else []) has
    ∙ kept (nat_lt k 16) (gives d (age_wire (wire_at k sent h))) grow (λ past. ap (map age_signal) (on_port-past k sent (ltb-false k 16 past))))

pub wire-gives :
    (d k : ℕ) (sent arriving : List UnderWay) (ports h : ℕ) → has_port ports k ≡ (nat_lt k 16 && keeps d k sent h) →
    on_port k arriving ≡ (if has_port ports k then [] else on_port k sent) →
    signals_on k arriving ≡ arrives d (wire_at k sent h)
wire-gives d k sent arriving ports h has is =
    let all = on_port k sent in
    ap (map of)
    (is ∙ ap (λ b. if b then [] else all) has
    ∙ given (nat_lt k 16) (gives d (age_wire (wire_at k sent h))) all (λ past. on_port-past k sent (ltb-false k 16 past)))
    ∙ go (gives d (age_wire (wire_at k sent h))) all
  where
    go : (g : Bool) (ts : List Travelling) → map of (if g then ts else []) ≡ (if g then map of (map age_signal ts) else [])
    go true ts = sym (map-twice of age_signal ts)
    go false ts = refl

-- a turn of the row, where the ports are those whose wires keep what is under way
module _ (d : ℕ) (sent : List UnderWay) (held : List ℕ) (ports : ℕ)
    (is : (k : ℕ) → k < length held → has_port ports k ≡ (nat_lt k 16 && keeps d k sent (get_or held k 0))) where
  pub turn-stays :
      (staying : List UnderWay) → All AreYoung (wires_from 0 sent held) →
      ((p : ℕ) → on_port p staying ≡ (if has_port ports p then map older (on_port p sent) else [])) →
      wires_from 0 staying (map (λ h. h - 1) held) ≡ map (stays d) (wires_from 0 sent held)
  turn-stays staying young stay =
      each-is (stays d) (λ h. h - 1) sent staying held (λ k inside.
      wire-stays d k sent staying ports (get_or held k 0)
      (subst AreYoung (wire-is sent held k empty_wire inside) (young k empty_wire (omega (arith, inside, wires-length 0 sent held))))
      (is k inside) (stay k))

  pub turn-gives :
      (arriving : List UnderWay) (n : ℕ) → n ≡ length held →
      ((p : ℕ) → on_port p arriving ≡ (if has_port ports p then [] else on_port p sent)) →
      arrivals_from n 0 arriving ≡ map (arrives d) (wires_from 0 sent held)
  turn-gives arriving n many arrive =
      arrived-is (arrives d) sent arriving held n many (λ k inside. wire-gives d k sent arriving ports (get_or held k 0) (is k inside) (arrive k))

-- where no wire is held each gives what is under way
abbrev pub AreFree : List ℕ → Type 0
AreFree held = All (λ (h : ℕ). h ≡ 0) held

pub none-less : (n : ℕ) (held : List ℕ) → AreFree held → map (λ h. h - n) held ≡ held
none-less n [] free = refl
none-less n (h ∷ held) free =
    let e : h - n ≡ h = omega (arith, free 0 h (omega arith)) in
    ap (λ x. x ∷ map (λ y. y - n) held) e ∙ ap (λ l. h ∷ l) (none-less n held (All-tail (λ (x : ℕ). x ≡ 0) h held free))

pub free-stays : (d : ℕ) (sent : List UnderWay) (held : List ℕ) → AreFree held →
    wires_from 0 [] held ≡ map (stays d) (wires_from 0 sent held)
free-stays d sent held free =
    ap (wires_from 0 []) (sym (none-less 1 held free))
    ∙ each-is (stays d) (λ h. h - 1) sent [] held
    (λ k inside. subst (λ h. wire_at k [] (h - 1) ≡ stays d (wire_at k sent h)) (sym (free k 0 inside)) refl)

pub free-gives : (d : ℕ) (sent : List UnderWay) (held : List ℕ) (n : ℕ) → n ≡ length held → AreFree held →
    arrivals_from n 0 sent ≡ map (arrives d) (wires_from 0 sent held)
free-gives d sent held n many free =
    arrived-is (arrives d) sent sent held n many
    (λ k inside. subst (λ h. signals_on k sent ≡ arrives d (wire_at k sent h)) (sym (free k 0 inside)) (sym (map-twice of age_signal (on_port k sent))))

-- ---- nothing is under way

pub new-wires : (n p : ℕ) → wires_from p [] (replicate n 0) ≡ replicate n empty_wire
new-wires zero p = refl
new-wires (suc n) p = ap (λ ws. empty_wire ∷ ws) (new-wires n (p + 1))

pub new-arrivals : (n p : ℕ) → arrivals_from n p [] ≡ replicate n []
new-arrivals zero p = refl
new-arrivals (suc n) p = ap (λ ss. [] ∷ ss) (new-arrivals n (p + 1))

none-there : (p : PortNumber) (sent : List UnderWay) → length sent ≤ 0 → on_port p sent ≡ []
none-there p sent none = ap (on_port p) (nil_from_length sent (omega (arith, none)))

pub at-rest : (sent : List UnderWay) (held : List ℕ) → length sent ≤ 0 → AreFree held → AreAtRest (wires_from 0 sent held)
at-rest sent held none free k d less =
    let inside : k < length held = omega (arith, less, wires-length 0 sent held) in
    wire-is sent held k d inside ∙ ap (wire_at k sent) (free k 0 inside)
    ∙ ap (λ ts. record { signals = ts; held = 0 }) (none-there k sent none)

pub no-arrivals : (n : ℕ) (sent : List UnderWay) → length sent ≤ 0 → AreNone (arrivals_from n 0 sent)
no-arrivals n sent none k d less =
    arrival-is n sent k d (omega (arith, less, arrivals-length n 0 sent)) ∙ ap (map of) (none-there k sent none)

pub all-silent : (sent : List UnderWay) (held : List ℕ) → length sent ≤ 0 → All IsSilent (wires_from 0 sent held)
all-silent sent held none k d less =
    ap (λ (w : Wire). w.signals) (wire-is sent held k d (omega (arith, less, wires-length 0 sent held))) ∙ none-there k sent none

module _ (sent : List UnderWay) (held : List ℕ) (ports row : ℕ)
    (is : (p : ℕ) → (has_port ports p ≡ false) ↔ (on_port p sent ≡ []))
    (of_row : (k : ℕ) → has_port row k ≡ (nat_lt k 16 && nat_lt k (length held))) where
  pub silent-if : ((k : ℕ) → (has_port ports k && has_port row k) ≡ false) → All IsSilent (wires_from 0 sent held)
  silent-if none k d less =
      let inside : k < length held = omega (arith, less, wires-length 0 sent held) in
      ap (λ (w : Wire). w.signals) (wire-is sent held k d inside)
      ∙ elim (and_cases (has_port ports k) (has_port row k) (none k)) [
        | inl none_there ↦ (is k).0 none_there
        | inr not_there ↦ elim (and_cases (nat_lt k 16) (nat_lt k (length held)) (sym (of_row k) ∙ not_there)) [
          | inl past ↦ on_port-past k sent (ltb-false k 16 past)
          | inr out ↦ absurd (omega (arith, ltb-false k (length held) out, inside))
        ]
      ]

  pub silent-only_if : All IsSilent (wires_from 0 sent held) → (k : ℕ) → (has_port ports k && has_port row k) ≡ false
  silent-only_if silent k =
      elim (cases_lt k (length held)) [
        | inl inside ↦
            let w = wire-is sent held k empty_wire inside in
            and_left (has_port ports k) (has_port row k)
            ((is k).1 (sym (ap (λ (w : Wire). w.signals) w) ∙ silent k empty_wire (omega (arith, inside, wires-length 0 sent held))))
        | inr out ↦
            and_right (has_port ports k) (has_port row k)
            (of_row k ∙ and_right (nat_lt k 16) (nat_lt k (length held)) (le-ltb k (length held) out))
      ]
