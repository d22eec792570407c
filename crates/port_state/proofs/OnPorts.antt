-- What goes out on the ports of a set.
use Rattle.std.proofs.Common.{◌≡◌, ℕ, zero, suc, ◌+◌, ◌-◌, ◌≤◌, ◌<◌, inl, inr, Bool, true, false, not, ◌&&◌, ◌==◌, List, [], ◌∷◌, ◌++◌, length, refl, subst, sym, ◌∙◌, ap, arith, eq-eqb, append_assoc, length-append, if◌then◌else◌}
use Rattle.std.proofs.lemmas.Bool.{ne_eqb, and_right, cases_lt, cases_eq}
use Rattle.std.proofs.lemmas.List.{append-nil}
use Rattle.std.proofs.Math.Bool.{and-true}
use Rattle.port_state.specs.declared.ports.PortView.{PortView}
use Rattle.port_state.specs.declared.outbox.Sent.{Sent}
use Rattle.port_state.specs.declared.signal.Signal.{Signal}
use Rattle.port_state.specs.PortSet.{has_port, on_ports_from, on_ports, all_sent}
use Rattle.port_state.specs.Ports.{is_connected}
use Rattle.port_state.specs.Sends.{sends_from, on_every, on_others, sent_on}
use Rattle.port_state.proofs.Pointwise.{skipped, counted, sent_on-append}
use Rattle.port_state.proofs.PortBits.{has-above}

whole : (set : ℕ) (s : Signal) → on_ports set s ≡ on_ports_from 16 0 set s
unfolding on_ports
whole set s = refl

-- ---- on one port

none-below :
    (n port k set : ℕ) (s : Signal) → port < k → sent_on port (on_ports_from n k set s) ≡ []
unfolding on_ports_from
none-below zero port k set s h = refl
none-below (suc n) port k set s h =
    skipped (has_port set k) port k s (on_ports_from n (k + 1) set s) (ne_eqb k port (λ e. omega arith))
    ∙ none-below n port (k + 1) set s (omega arith)

none-past :
    (n port k set : ℕ) (s : Signal) → k + n ≤ port → sent_on port (on_ports_from n k set s) ≡ []
unfolding on_ports_from
none-past zero port k set s h = refl
none-past (suc n) port k set s h =
    skipped (has_port set k) port k s (on_ports_from n (k + 1) set s) (ne_eqb k port (λ e. omega arith))
    ∙ none-past n port (k + 1) set s (omega arith)

one-of :
    (n port k set : ℕ) (s : Signal) → k ≤ port → port < k + n →
    sent_on port (on_ports_from n k set s) ≡ (if has_port set port then s ∷ [] else [])
unfolding on_ports_from
one-of zero port k set s p q = absurd (omega arith)
one-of (suc n) port k set s p q = elim (cases_eq k port) [
  | inl e ↦
      counted (has_port set k) port k s (on_ports_from n (k + 1) set s) (eq-eqb k port e) (none-below n port (k + 1) set s (omega arith))
      ∙ ap (λ j. if has_port set j then s ∷ [] else []) e
  | inr ne ↦
      skipped (has_port set k) port k s (on_ports_from n (k + 1) set s) (ne_eqb k port ne)
      ∙ one-of n port (k + 1) set s (omega (arith, ne)) (omega arith)
]

-- each port of the set sends the signal once, and no other port sends anything
pub sent_on-ports :
    (port set : ℕ) (s : Signal) →
    sent_on port (on_ports set s) ≡ (if has_port set port then s ∷ [] else [])
sent_on-ports port set s = ap (sent_on port) (whole set s) ∙ elim (cases_lt port 16) [
  | inl less ↦ one-of 16 port 0 set s (omega arith) (omega arith)
  | inr more ↦
      none-past 16 port 0 set s (omega arith)
      ∙ sym (ap (λ b. if b then s ∷ [] else []) (has-above set port more))
]

first-sent :
    (b : Bool) (s : Signal) (xs : List Signal) →
    (if b then s ∷ [] else []) ++ xs ≡ (if b then s ∷ xs else xs)
first-sent true s xs = refl
first-sent false s xs = refl

pub sent_on-all_sent :
    (port : ℕ) (e : Sent) (sent : List Sent) →
    sent_on port (all_sent (e ∷ sent))
    ≡ (if has_port e.ports port then e.signal ∷ sent_on port (all_sent sent)
    else sent_on port (all_sent sent))
sent_on-all_sent port e sent =
    sent_on-append port (on_ports e.ports e.signal) (all_sent sent)
    ∙ ap (λ xs. xs ++ sent_on port (all_sent sent)) (sent_on-ports port e.ports e.signal)
    ∙ first-sent (has_port e.ports port) e.signal (sent_on port (all_sent sent))

-- ---- as lists

none-from :
    (n k set : ℕ) (s : Signal) → ((j : ℕ) → k ≤ j → has_port set j ≡ false) →
    on_ports_from n k set s ≡ []
unfolding on_ports_from
none-from zero k set s h = refl
none-from (suc n) k set s h = rw (h k (omega arith)) (none-from n (k + 1) set s (λ j below. h j (omega arith)))

pub none-sent :
    (set : ℕ) (s : Signal) → ((k : ℕ) → has_port set k ≡ false) → on_ports set s ≡ []
none-sent set s h = whole set s ∙ none-from 16 0 set s (λ j below. h j)

one-from :
    (n port k set : ℕ) (s : Signal) → k ≤ port → port < k + n →
    ((j : ℕ) → k ≤ j → has_port set j ≡ (j == port)) →
    on_ports_from n k set s ≡ (port, s) ∷ []
unfolding on_ports_from
one-from zero port k set s p q h = absurd (omega arith)
one-from (suc n) port k set s p q h = elim (cases_eq k port) [
  | inl e ↦
      let has : has_port set k ≡ true = h k (omega arith) ∙ eq-eqb k port e in
      let rest : on_ports_from n (k + 1) set s ≡ [] = none-from n (k + 1) set s (λ j above. h j (omega arith) ∙ ne_eqb j port (λ i. omega arith)) in
      rw (has, rest) (ap (λ j. (j, s) ∷ []) e)
  | inr ne ↦
      let free : has_port set k ≡ false = h k (omega arith) ∙ ne_eqb k port ne in
      rw free (one-from n port (k + 1) set s (omega (arith, ne)) (omega arith) (λ j above. h j (omega arith)))
]

-- the set of one port
pub one-sent :
    (port set : ℕ) (s : Signal) → port < 16 → ((k : ℕ) → has_port set k ≡ (k == port)) →
    on_ports set s ≡ (port, s) ∷ []
one-sent port set s less h = whole set s ∙ one-from 16 port 0 set s (omega arith) (omega arith) (λ j below. h j)

-- a set that isn't empty sends something
pub some-sent :
    (set : ℕ) (s : Signal) → (((k : ℕ) → has_port set k ≡ false) → ⊥) →
    0 < length (on_ports set s)
some-sent set s some = go (on_ports set s) refl
  where
    free : (b : Bool) → ◌≡◌ {A = List Signal} [] (if b then s ∷ [] else []) → b ≡ false
    free true e = cc
    free false e = refl

    go : (xs : List (ℕ × Signal)) → on_ports set s ≡ xs → 0 < length xs
    go [] e = absurd (some (λ k. free (has_port set k) (ap (sent_on k) (sym e) ∙ sent_on-ports k set s)))
    go (x ∷ xs) e = omega arith

same-from :
    (views : List PortView) (n k : ℕ) (test : ℕ → Bool) (set : ℕ) (s : Signal) →
    length views ≤ n →
    ((j : ℕ) → has_port set (k + j) ≡ (test (k + j) && is_connected views j)) →
    on_ports_from n k set s ≡ sends_from k test (λ p. s) views
unfolding on_ports_from
same-from [] n k test set s few h = none-from n k set s (λ j above.
    let i : k + (j - k) ≡ j = omega arith in
    subst (λ m. has_port set m ≡ false) i (h (j - k) ∙ and_right (test (k + (j - k))) false refl))
same-from (v ∷ views) zero k test set s few h = absurd (omega (arith, few))
same-from (v ∷ views) (suc n) k test set s few h =
    let z : k + 0 ≡ k = omega arith in
    let here : has_port set k ≡ (test k && v.connected) = subst (λ m. has_port set m ≡ (test m && v.connected)) z (h 0) in
    let rest : on_ports_from n (k + 1) set s ≡ sends_from (k + 1) test (λ p. s) views =
    same-from views n (k + 1) test set s (omega (arith, few)) (λ j.
    let i : k + suc j ≡ k + 1 + j = omega arith in
    subst (λ m. has_port set m ≡ (test m && is_connected views j)) i (h (suc j)))
    in
    rw (here, rest) refl

-- the connected ports that pass a test
pub passed-sent :
    (views : List PortView) (test : ℕ → Bool) (set : ℕ) (s : Signal) → length views ≤ 16 →
    ((k : ℕ) → has_port set k ≡ (test k && is_connected views k)) →
    on_ports set s ≡ sends_from 0 test (λ p. s) views
passed-sent views test set s few h = whole set s ∙ same-from views 16 0 test set s few (λ j.
    let i : j ≡ 0 + j = omega arith in
    subst (λ m. has_port set m ≡ (test m && is_connected views j)) i (h j))

pub every-sent :
    (views : List PortView) (set : ℕ) (s : Signal) → length views ≤ 16 →
    ((k : ℕ) → has_port set k ≡ is_connected views k) → on_ports set s ≡ on_every s views
every-sent views set s few h = passed-sent views (λ k. true) set s few h

pub others-sent :
    (views : List PortView) (but set : ℕ) (s : Signal) → length views ≤ 16 →
    ((k : ℕ) → has_port set k ≡ (is_connected views k && not (k == but))) →
    on_ports set s ≡ on_others but s views
others-sent views but set s few h = passed-sent views (λ k. not (k == but)) set s few (λ k. h k ∙ swapped (is_connected views k) (not (k == but)))
  where
    swapped : (a b : Bool) → (a && b) ≡ (b && a)
    swapped true true = refl
    swapped true false = refl
    swapped false true = refl
    swapped false false = refl

-- ---- entries

pub all_sent-append :
    (xs ys : List Sent) → all_sent (xs ++ ys) ≡ all_sent xs ++ all_sent ys
all_sent-append [] ys = refl
all_sent-append (x ∷ xs) ys =
    ap (λ zs. on_ports x.ports x.signal ++ zs) (all_sent-append xs ys)
    ∙ sym (append_assoc (on_ports x.ports x.signal) (all_sent xs) (all_sent ys))

pub all_sent-one_more :
    (xs : List Sent) (x : Sent) → all_sent (xs ++ x ∷ []) ≡ all_sent xs ++ on_ports x.ports x.signal
all_sent-one_more xs x = all_sent-append xs (x ∷ []) ∙ ap (λ zs. all_sent xs ++ zs) (append-nil (on_ports x.ports x.signal))

-- one more entry that sends something: there are no more entries than signals, and few of these
pub fits-one_more :
    (count : ℕ) (xs ys : List Sent) (x : Sent) → ys ≡ xs ++ x ∷ [] →
    count ≤ length (all_sent xs) → 0 < length (on_ports x.ports x.signal) →
    length (all_sent xs) + length (on_ports x.ports x.signal) ≤ 112 →
    (count + 1 ≤ length (all_sent ys)) × (length (all_sent ys) ≤ 112)
fits-one_more count xs ys x is short some room =
    let more : length (all_sent ys) ≡ length (all_sent xs) + length (on_ports x.ports x.signal) =
    ap (λ zs. length (all_sent zs)) is ∙ ap length (all_sent-one_more xs x) ∙ length-append (all_sent xs) (on_ports x.ports x.signal)
    in
    (omega (arith, more, short, some), omega (arith, more, room))

-- ---- one port after the other

same-ports :
    (n k set rest : ℕ) (s : Signal) → ((j : ℕ) → k ≤ j → has_port set j ≡ has_port rest j) →
    on_ports_from n k set s ≡ on_ports_from n k rest s
unfolding on_ports_from
same-ports zero k set rest s h = refl
same-ports (suc n) k set rest s h = rw (h k (omega arith), same-ports n (k + 1) set rest s (λ j up. h j (omega arith))) refl

lowest-from :
    (n k port set rest : ℕ) (s : Signal) → k ≤ port → port < k + n → has_port set port ≡ true →
    ((j : ℕ) → k ≤ j → j < port → has_port set j ≡ false) →
    ((j : ℕ) → has_port rest j ≡ (has_port set j && not (j == port))) →
    on_ports_from n k set s ≡ (port, s) ∷ on_ports_from n k rest s
unfolding on_ports_from
lowest-from zero k port set rest s up below is before others = absurd (omega arith)
lowest-from (suc n) k port set rest s up below is before others = elim (cases_eq k port) [
  | inl e ↦
      let here : has_port set k ≡ true = ap (has_port set) e ∙ is in
      let gone : has_port rest k ≡ false = others k ∙ ap (λ b. has_port set k && not b) (eq-eqb k port e) ∙ and_right (has_port set k) false refl in
      let same : on_ports_from n (k + 1) set s ≡ on_ports_from n (k + 1) rest s =
      same-ports n (k + 1) set rest s (λ j more. sym (others j ∙ ap (λ b. has_port set j && not b) (ne_eqb j port (λ i. omega (arith, e))) ∙ and-true (has_port set j)))
      in
      rw (here, gone, same, e) refl
  | inr ne ↦
      let here : has_port set k ≡ false = before k (omega arith) (omega (arith, ne)) in
      let gone : has_port rest k ≡ false = others k ∙ ap (λ b. b && not (k == port)) here in
      rw (here, gone) (lowest-from n (k + 1) port set rest s (omega (arith, ne)) (omega arith) is (λ j more less. before j (omega arith) less) others)
]

-- what goes out on the lowest port of a set, and then on the others
pub lowest-sent :
    (port set rest : ℕ) (s : Signal) → has_port set port ≡ true →
    ((j : ℕ) → 0 ≤ j → j < port → has_port set j ≡ false) →
    ((j : ℕ) → has_port rest j ≡ (has_port set j && not (j == port))) →
    on_ports set s ≡ (port, s) ∷ on_ports rest s
lowest-sent port set rest s is before others =
    let few : port < 16 = elim (cases_lt port 16) [
      | inl less ↦ less
      | inr more ↦ let none = has-above set port more in absurd cc
    ] in
    whole set s ∙ lowest-from 16 0 port set rest s (omega arith) (omega arith) is before others ∙ ap (λ xs. (port, s) ∷ xs) (sym (whole rest s))
