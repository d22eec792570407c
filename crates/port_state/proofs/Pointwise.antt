-- What goes out on one port, and what becomes of one port.
use Rattle.std.proofs.Common.{◌≡◌, ℕ, zero, suc, ◌+◌, ◌<◌, Bool, true, false, not, ◌&&◌, ◌==◌, List, [], ◌∷◌, ◌++◌, map, Option, Some, None, slice_get, slice_set, refl, subst, sym, ◌∙◌, ap, arith, eq-eqb, if◌then◌else◌}
use Rattle.std.specs.Option.{option_map}
use Rattle.std.proofs.lemmas.Bool.{ne_eqb, eqb-true, eqb-false}
use Rattle.std.proofs.lemmas.Option.{slice_get-map}
use Rattle.port_state.specs.declared.signal.Level.{Level}
use Rattle.port_state.specs.declared.signal.Level.TheVariants as level
use Rattle.port_state.specs.declared.signal.Signal.{Signal}
use Rattle.port_state.specs.declared.signal.Signal.TheVariants as signal
use Rattle.port_state.specs.declared.ports.PortView.{PortView}
use Rattle.port_state.specs.Ports.{is_parent, asks, is_remaining, passes, is_connected, change_port_at}
use Rattle.port_state.specs.Sends.{sends_from, on_every, packets_on_every, packet, sent_on}
use Rattle.port_state.specs.ByPort.{EveryByPort, OthersByPort, NoticesByPort, PacketsByPort, MapByPort, ChangeByPort}

-- what one port sends
abbrev one : Bool → (PortView → Signal) → Option PortView → List Signal
one go sent None = []
one go sent (Some p) = if go && p.connected then sent p ∷ [] else []

-- a signal on another port is passed over, and one on this port counts
pub skipped :
    (b : Bool) (port k : ℕ) (s : Signal) (rest : List (ℕ × Signal)) → (k == port) ≡ false →
    sent_on port (if b then (k, s) ∷ rest else rest) ≡ sent_on port rest
skipped true port k s rest e = rw e refl
skipped false port k s rest e = refl

pub counted :
    (b : Bool) (port k : ℕ) (s : Signal) (rest : List (ℕ × Signal)) → (k == port) ≡ true →
    sent_on port rest ≡ [] →
    sent_on port (if b then (k, s) ∷ rest else rest) ≡ (if b then s ∷ [] else [])
counted true port k s rest e h = rw (e, h) refl
counted false port k s rest e h = h

none-before :
    (port k : ℕ) (test : ℕ → Bool) (sent : PortView → Signal) (ports : List PortView) → port < k →
    sent_on port (sends_from k test sent ports) ≡ []
none-before port k test sent [] h = refl
none-before port k test sent (p ∷ ps) h =
    skipped (test k && p.connected) port k (sent p) (sends_from (k + 1) test sent ps) (ne_eqb k port (λ e. omega arith))
    ∙ none-before port (k + 1) test sent ps (omega arith)

sent-at :
    (k j : ℕ) (test : ℕ → Bool) (sent : PortView → Signal) (ports : List PortView) →
    sent_on (k + j) (sends_from k test sent ports) ≡ one (test (k + j)) sent (slice_get ports j)
sent-at k j test sent [] = refl
sent-at k zero test sent (p ∷ ps) =
    let z : k ≡ k + 0 = omega arith in
    subst (λ n. sent_on n (sends_from k test sent (p ∷ ps)) ≡ one (test n) sent (Some p)) z
    (counted (test k && p.connected) k k (sent p) (sends_from (k + 1) test sent ps) (eq-eqb k k refl) (none-before k (k + 1) test sent ps (omega arith)))
sent-at k (suc j) test sent (p ∷ ps) =
    let z : k + 1 + j ≡ k + suc j = omega arith in
    skipped (test k && p.connected) (k + suc j) k (sent p) (sends_from (k + 1) test sent ps) (ne_eqb k (k + suc j) (λ e. omega arith))
    ∙ subst (λ n. sent_on n (sends_from (k + 1) test sent ps) ≡ one (test n) sent (slice_get ps j)) z (sent-at (k + 1) j test sent ps)

from-zero :
    (port : ℕ) (test : ℕ → Bool) (sent : PortView → Signal) (ports : List PortView) →
    sent_on port (sends_from 0 test sent ports) ≡ one (test port) sent (slice_get ports port)
from-zero port test sent ports =
    let z : 0 + port ≡ port = omega arith in
    subst (λ n. sent_on n (sends_from 0 test sent ports) ≡ one (test n) sent (slice_get ports port)) z (sent-at 0 port test sent ports)

one-signal :
    (b : Bool) (s : Signal) (o : Option PortView) →
    one b (λ p. s) o ≡ (if b && passes (λ p. p.connected) o then s ∷ [] else [])
one-signal true s None = refl
one-signal false s None = refl
one-signal true s (Some p) = refl
one-signal false s (Some p) = refl

pub on_every-port : EveryByPort
on_every-port port s ports = from-zero port (λ k. true) (λ p. s) ports ∙ one-signal true s (slice_get ports port)

pub on_others-port : OthersByPort
on_others-port port but s ports = from-zero port (λ k. not (k == but)) (λ p. s) ports ∙ one-signal (not (port == but)) s (slice_get ports port)

notice-at :
    (conn : Bool) (l : Level) →
    (if true && conn then (if is_parent l then signal.Child else signal.Parent) ∷ [] else [])
    ≡ (if conn && is_parent l then signal.Child ∷ [] else (if conn && not (is_parent l) then signal.Parent ∷ [] else []))
notice-at true level.Reset = refl
notice-at true level.Idle = refl
notice-at true level.Parent = refl
notice-at true level.Child = refl
notice-at false l = refl

one-notice :
    (o : Option PortView) →
    one true (λ p. if is_parent p.shown then signal.Child else signal.Parent) o
    ≡ (if passes asks o then signal.Child ∷ [] else (if passes is_remaining o then signal.Parent ∷ [] else []))
one-notice None = refl
one-notice (Some p) = notice-at p.connected p.shown

pub notices-port : NoticesByPort
notices-port port ports = from-zero port (λ k. true) (λ p. if is_parent p.shown then signal.Child else signal.Parent) ports ∙ one-notice (slice_get ports port)

sent_on-if :
    (b : Bool) (s : Signal) (xs ys : List Signal) →
    (if b then s ∷ xs else xs) ++ ys ≡ (if b then s ∷ (xs ++ ys) else xs ++ ys)
sent_on-if true s xs ys = refl
sent_on-if false s xs ys = refl

pub sent_on-append :
    (port : ℕ) (xs ys : List (ℕ × Signal)) →
    sent_on port (xs ++ ys) ≡ sent_on port xs ++ sent_on port ys
sent_on-append port [] ys = refl
sent_on-append port (x ∷ xs) ys = rw (sent_on-append port xs ys) (sym (sent_on-if (x.0 == port) x.1 (sent_on port xs) (sent_on port ys)))

joined :
    (b : Bool) (s : Signal) (ss : List Signal) →
    (if b then s ∷ [] else []) ++ (if b then ss else []) ≡ (if b then s ∷ ss else [])
joined true s ss = refl
joined false s ss = refl

pub packets-port : PacketsByPort
packets-port port [] ports = go (is_connected ports port)
  where
    go : (b : Bool) → ◌≡◌ {A = List Signal} [] (if b then [] else [])
    go true = refl
    go false = refl
packets-port port (q ∷ qs) ports =
    sent_on-append port (on_every (packet q) ports) (packets_on_every qs ports)
    ∙ (rw (on_every-port port (packet q) ports, packets-port port qs ports) refl)
    ∙ joined (is_connected ports port) (packet q) (map packet qs)

-- ---- ports

pub same_suc : (k n : ℕ) → (k == n) ≡ (suc k == suc n)
same_suc k n = go (k == n) refl
  where
    go : (b : Bool) → (k == n) ≡ b → b ≡ (suc k == suc n)
    go true e = let i : k ≡ n = eqb-true k n e in sym (eq-eqb (suc k) (suc n) (ap suc i))
    go false e = let ne = eqb-false k n e in sym (ne_eqb (suc k) (suc n) (λ i. ne (omega arith)))

set-at :
    (n : ℕ) (r q : PortView) (k : ℕ) (f : PortView → PortView) → r ≡ f q → (ports : List PortView) →
    slice_get ports n ≡ Some q →
    slice_get (slice_set ports n r) k
    ≡ (if k == n then option_map f (slice_get ports k) else slice_get ports k)
set-at n r q k f h [] e = absurd cc
set-at zero r q zero f h (p ∷ ps) e = let same : p ≡ q = cc in rw (h, same) refl
set-at zero r q (suc k) f h (p ∷ ps) e = rw (ne_eqb (suc k) 0 (λ e. omega arith)) refl
set-at (suc n) r q zero f h (p ∷ ps) e = rw (ne_eqb 0 (suc n) (λ e. omega arith)) refl
set-at (suc n) r q (suc k) f h (p ∷ ps) e = set-at n r q k f h ps e ∙ (rw (same_suc k n) refl)

pub changed-port : ChangeByPort
changed-port n k f ports = go (slice_get ports n) refl
  where
    same :
        (b : Bool) → (k == n) ≡ b → slice_get ports n ≡ None →
        slice_get ports k ≡ (if b then option_map f (slice_get ports k) else slice_get ports k)
    same true t e = let i : k ≡ n = eqb-true k n t in let none : slice_get ports k ≡ None = ap (λ m. slice_get ports m) i ∙ e in rw none refl
    same false t e = refl

    go :
        (o : Option PortView) → slice_get ports n ≡ o →
        slice_get (change_port_at o n f ports) k
        ≡ (if k == n then option_map f (slice_get ports k) else slice_get ports k)
    go None e = same (k == n) refl e
    go (Some q) e = set-at n (f q) q k f refl ports e

pub map-port : MapByPort
map-port k f ports = slice_get-map f ports k
