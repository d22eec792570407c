-- The power-on world is well formed, and as no cable is there its wires agree.
use Rattle.std.proofs.Common.{◌≡◌, ℕ, zero, suc, ◌-◌, ◌<◌, ◌≤◌, false, List, [], ◌∷◌, map, replicate, Option, Some, None, length, is_some, slice_get, slice_index_or, refl, subst, sym, ◌∙◌, ap, arith}
use Rattle.std.proofs.lemmas.List.{length-map, length-replicate}
use Rattle.cabling.specs.declared.cable.End.{End}
use Rattle.cabling.specs.Wiring.{IsCabling, far, without_cables}
use Rattle.port_state.specs.declared.states.NodeState.{NodeState}
use Rattle.port_state.specs.PowerOn.{free_port}
use Rattle.port_state.specs.Ports.{is_connected}
use Rattle.port_state.specs.Valid.{IsValid}
use Rattle.port_state.specs.Machine.{PortNode}
use Rattle.cable_world.proofs.Options.{none-some, some-same}
use Rattle.cable_world.specs.Wire.{Wire, empty_wire}
use Rattle.port_state.specs.declared.timing.Timing.{Timing}
use Rattle.cable_world.specs.World.{CableWorld, wire_of, world_with_times, no_wires, IsPowered, IsPowerOnWorld}
use Rattle.cable_world.specs.Agreement.{Agrees}
use Rattle.cable_world.specs.Lawful.{AgesFall, FitsCables, IsWellFormed}

-- a list of one value has it everywhere
same-everywhere : {A : Type 0} → (n j : ℕ) (d : A) → slice_index_or (replicate n d) j d ≡ d
same-everywhere zero j d = refl
same-everywhere (suc n) zero d = refl
same-everywhere (suc n) (suc j) d = same-everywhere n j d

abbrev ports : PortNode → ℕ
ports x = x.state.ports

abbrev free : ℕ → List (Option End)
free n = replicate n None

-- no port has a cable, and no wire has a signal
pub no-far :
    (counts : List ℕ) (k p : ℕ) →
    slice_index_or (slice_index_or (map free counts) k []) p None ≡ None
no-far [] k p = refl
no-far (n ∷ counts) zero p = same-everywhere n p None
no-far (n ∷ counts) (suc k) p = no-far counts k p

no-signal :
    (nodes : List PortNode) (k p : ℕ) →
    slice_index_or (slice_index_or (map no_wires nodes) k []) p empty_wire ≡ empty_wire
no-signal [] k p = refl
no-signal (x ∷ nodes) zero p = same-everywhere x.state.ports p empty_wire
no-signal (x ∷ nodes) (suc k) p = no-signal nodes k p

not-connected : (n p : ℕ) → is_connected (replicate n free_port) p ≡ false
not-connected zero p = refl
not-connected (suc n) zero = refl
not-connected (suc n) (suc p) = not-connected n p

-- how many ports and wires a node has
port-row :
    (nodes : List PortNode) (k : ℕ) (x : PortNode) → slice_get nodes k ≡ Some x →
    length (slice_index_or (map free (map ports nodes)) k []) ≡ x.state.ports
port-row [] k x h = absurd (cc)
port-row (y ∷ nodes) zero x h = length-replicate y.state.ports None ∙ ap ports (some-same y x h)
port-row (y ∷ nodes) (suc k) x h = port-row nodes k x h

wire-row :
    (nodes : List PortNode) (k : ℕ) (x : PortNode) → slice_get nodes k ≡ Some x →
    length (slice_index_or (map no_wires nodes) k []) ≡ x.state.ports
wire-row [] k x h = absurd (cc)
wire-row (y ∷ nodes) zero x h = length-replicate y.state.ports empty_wire ∙ ap ports (some-same y x h)
wire-row (y ∷ nodes) (suc k) x h = wire-row nodes k x h

-- as many ports as a node may have
pub record FewPorts (n : ℕ) : Type 0 where
  pub some : 1 ≤ n
  pub few : n ≤ 16

few-ports :
    (nodes : List PortNode) →
    ((k : ℕ) (x : PortNode) → slice_get nodes k ≡ Some x → IsValid x.state) → (k : ℕ) →
    k < length (map free (map ports nodes)) →
    FewPorts (length (slice_index_or (map free (map ports nodes)) k []))
few-ports [] h k lt = absurd (omega arith)
few-ports (x ∷ nodes) h zero lt =
    let v : IsValid x.state = h 0 x refl in
    let few : FewPorts x.state.ports = record { some = v.bounded.some_port; few = v.bounded.few_ports } in
    subst FewPorts (sym (length-replicate x.state.ports None)) few
few-ports (x ∷ nodes) h (suc k) lt = few-ports nodes (λ j y e. h (suc j) y e) k (omega arith)

abbrev Powered : ℕ → Timing → List PortNode → Type 0
Powered d longest nodes =
    (k : ℕ) (x : PortNode) → slice_get nodes k ≡ Some x → IsPowered d longest x.state

is-cabling :
    (d : ℕ) (longest : Timing) (nodes : List PortNode) → length nodes ≤ 63 → Powered d longest nodes →
    IsCabling (without_cables (map ports nodes))
is-cabling d longest nodes few h =
    let c = map free (map ports nodes) in
    let valid : (k : ℕ) (x : PortNode) → slice_get nodes k ≡ Some x → IsValid x.state = λ k x e. (h k x e).valid in
    let size : length c ≡ length nodes = length-map (map ports nodes) free ∙ length-map nodes ports in
    record {
      both_ways = λ a b e. absurd (none-some (far c a) b (no-far (map ports nodes) a.node a.port) e);
      two_nodes = λ a b e. absurd (none-some (far c a) b (no-far (map ports nodes) a.node a.port) e);
      few_nodes = omega (arith, size, few);
      some_port = λ k lt. (few-ports nodes valid k lt).some;
      few_ports = λ k lt. (few-ports nodes valid k lt).few;
    }

fits :
    (d : ℕ) (longest : Timing) (nodes : List PortNode) → Powered d longest nodes → (k : ℕ) (x : PortNode) →
    slice_get nodes k ≡ Some x → FitsCables (world_with_times d longest nodes) k x.state
fits d longest nodes h k x e =
    let on = h k x e in
    let views : x.state.view.ports ≡ replicate x.state.ports free_port = ap (λ (y : NodeState). y.view.ports) on.is in
    record {
      valid = on.valid;
      timing = on.timing;
      ports = port-row nodes k x e;
      wires = wire-row nodes k x e;
      connected = λ p. ap (λ v. is_connected v p) views ∙ not-connected x.state.ports p ∙ sym (ap is_some (no-far (map ports nodes) k p));
    }

-- no cable is there
apart :
    (d : ℕ) (longest : Timing) (nodes : List PortNode) (a : End) →
    far (world_with_times d longest nodes).cabling a ≡ None
apart d longest nodes a = no-far (map ports nodes) a.node a.port

formed :
    (d : ℕ) (longest : Timing) (nodes : List PortNode) → 1 ≤ d → length nodes ≤ 63 →
    Powered d longest nodes → IsWellFormed (world_with_times d longest nodes)
formed d longest nodes one few h =
    let w = world_with_times d longest nodes in
    let size : length w.cabling ≡ length nodes = length-map (map ports nodes) free ∙ length-map nodes ports in
    let calm : (a : End) → wire_of w a ≡ empty_wire = λ a. no-signal nodes a.node a.port in
    record {
      some_delay = one;
      cabling = is-cabling d longest nodes few h;
      count = sym size;
      wire_rows = length-map nodes no_wires ∙ sym size;
      changes = length-replicate (length nodes) 0 ∙ sym size;
      nodes = fits d longest nodes h;
      ages = λ a. subst (λ (v : Wire). AgesFall (d - 1) v.signals) (sym (calm a)) tt;
      unplugged = λ a e. calm a;
    }

pub power-on-formed : (w : CableWorld) → IsPowerOnWorld w → IsWellFormed w
power-on-formed w h = subst IsWellFormed (sym h.is) (formed w.delay w.longest w.nodes h.some_delay h.few_nodes h.nodes)

-- a fact of each cable is so, since there is none
pub power-on-apart : (w : CableWorld) → IsPowerOnWorld w → (a : End) → far w.cabling a ≡ None
power-on-apart w h a = ap (λ (v : CableWorld). far v.cabling a) h.is ∙ apart w.delay w.longest w.nodes a

pub power-on-agrees : (w : CableWorld) → IsPowerOnWorld w → Agrees w
power-on-agrees w h = record {
  levels = λ a b x y e at_x at_y. absurd (none-some (far w.cabling a) b (power-on-apart w h a) e);
  roles = λ a b x y e at_x at_y child none. absurd (none-some (far w.cabling a) b (power-on-apart w h a) e);
}
