-- What goes out on ports: on which, and how much.
use Rattle.std.proofs.Common.{◌≡◌, ℕ, zero, suc, ◌+◌, ◌*◌, ◌≤◌, Bool, true, false, ◌&&◌, List, [], ◌∷◌, ◌++◌, length, Option, Some, None, refl, subst, ◌∙◌, arith, length-append, if◌then◌else◌}
use Rattle.std.specs.List.{AllByRecursion}
use Rattle.std.specs.Option.{ForSome}
use Rattle.port_state.specs.declared.ports.PortView.{PortView}
use Rattle.port_state.specs.declared.signal.Signal.{Signal}
use Rattle.port_state.specs.declared.signal.Signal.TheVariants as signal
use Rattle.port_state.specs.Ports.{port_is}
use Rattle.port_state.specs.Sends.{sends_from, on_every, packets_on_every, on_port}
use Rattle.port_state.specs.Sound.{OnConnected}

-- signals on ports of which Q holds
abbrev pub On : (ℕ → Type 0) → List (ℕ × Signal) → Type 0
On Q sends = AllByRecursion (λ s. Q s.0) sends

on-if :
    (Q : ℕ → Type 0) (go conn : Bool) (k : ℕ) (s : Signal) (rest : List (ℕ × Signal)) →
    (conn ≡ true → Q k) → On Q rest → On Q (if go && conn then (k, s) ∷ rest else rest)
on-if Q true true k s rest h r = (h refl, r)
on-if Q true false k s rest h r = r
on-if Q false conn k s rest h r = r

on-sends_from :
    (Q : ℕ → Type 0) (k : ℕ) (test : ℕ → Bool) (sent : PortView → Signal) (ports : List PortView) →
    ((j : ℕ) → port_is (λ p. p.connected) ports j ≡ true → Q (k + j)) →
    On Q (sends_from k test sent ports)
on-sends_from Q k test sent [] h = tt
on-sends_from Q k test sent (p ∷ ps) h =
    on-if Q (test k) p.connected k (sent p) (sends_from (k + 1) test sent ps) (λ e. let z : k + 0 ≡ k = omega arith in subst Q z (h zero e))
    (on-sends_from Q (k + 1) test sent ps (λ j e. let z : k + suc j ≡ k + 1 + j = omega arith in subst Q z (h (suc j) e)))

few-if :
    (go : Bool) (n : ℕ) (s : ℕ × Signal) (rest : List (ℕ × Signal)) → length rest ≤ n →
    length (if go then s ∷ rest else rest) ≤ 1 + n
few-if true n s rest h = omega (arith, h)
few-if false n s rest h = omega (arith, h)

pub few-sends_from :
    (k : ℕ) (test : ℕ → Bool) (sent : PortView → Signal) (ports : List PortView) →
    length (sends_from k test sent ports) ≤ length ports
few-sends_from k test sent [] = omega arith
few-sends_from k test sent (p ∷ ps) =
    let h = few-if (test k && p.connected) (length ps) (k, sent p) (sends_from (k + 1) test sent ps) (few-sends_from (k + 1) test sent ps) in omega (arith, h)

-- the ports that are connected afterwards are those that were connected before
abbrev pub SameCables : List PortView → List PortView → Type 0
SameCables new old = (k : ℕ) → port_is (λ p. p.connected) new k ≡ port_is (λ p. p.connected) old k

pub all-connected :
    (test : ℕ → Bool) (sent : PortView → Signal) (new old : List PortView) → SameCables new old →
    OnConnected new (sends_from 0 test sent old)
all-connected test sent new old same = on-sends_from (λ k. port_is (λ p. p.connected) new k ≡ true) 0 test sent old (λ j e. let z : 0 + j ≡ j = omega arith in rw z (same j ∙ e))

pub on-append :
    (ports : List PortView) (xs ys : List (ℕ × Signal)) → OnConnected ports xs →
    OnConnected ports ys → OnConnected ports (xs ++ ys)
on-append ports [] ys p q = q
on-append ports (x ∷ xs) ys p q = (p.0, on-append ports xs ys p.1 q)

pub packets-connected :
    (quads : List ℕ) (ports : List PortView) → OnConnected ports (packets_on_every quads ports)
packets-connected [] ports = tt
packets-connected (q ∷ qs) ports =
    on-append ports (on_every (signal.Packet q) ports) (packets_on_every qs ports) (all-connected (λ k. true) (λ p. signal.Packet q) ports ports (λ k. refl)) (packets-connected qs ports)

pub few-packets :
    (quads : List ℕ) (ports : List PortView) → length ports ≤ 16 →
    length (packets_on_every quads ports) ≤ 16 * length quads
few-packets [] ports h = omega arith
few-packets (q ∷ qs) ports h =
    let a : length (on_every (signal.Packet q) ports) ≤ length ports = few-sends_from 0 (λ k. true) (λ p. signal.Packet q) ports in
    let r : length (packets_on_every qs ports) ≤ 16 * length qs = few-packets qs ports h in
    omega (arith, length-append (on_every (signal.Packet q) ports) (packets_on_every qs ports), a, r)

pub on-port :
    (ports : List PortView) (o : Option ℕ) (s : Signal) →
    ForSome o (λ k. port_is (λ p. p.connected) ports k ≡ true) → OnConnected ports (on_port o s)
on-port ports None s h = tt
on-port ports (Some p) s h = (h p refl, tt)

pub few-on_port : (o : Option ℕ) (s : Signal) → length (on_port o s) ≤ 1
few-on_port None s = omega arith
few-on_port (Some p) s = omega arith
