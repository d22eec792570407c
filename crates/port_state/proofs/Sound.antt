-- Each step of a valid record gives a valid record, and sends little, on connected ports alone.
use Rattle.std.proofs.Common.{◌≡◌, ℕ, zero, suc, ◌+◌, ◌≤◌, ◌<◌, Bool, true, false, not, ◌&&◌, ◌==◌, List, [], ◌∷◌, ◌++◌, length, map, Option, Some, None, replicate, refl, ap, subst, sym, ◌∙◌, arith, length-append, if◌then◌else◌}
use Rattle.std.specs.Prelude.{nat_le, nat_lt, IsSome}
use Rattle.std.specs.Option.{ForSome}
use Rattle.std.proofs.lemmas.Bool.{leb-true, ltb-true, and_parts}
use Rattle.std.proofs.lemmas.List.{length-map, length-replicate}
use Rattle.port_state.specs.declared.signal.Level.{Level}
use Rattle.port_state.specs.declared.signal.Level.TheVariants as level
use Rattle.port_state.specs.declared.signal.Phase.{Phase}
use Rattle.port_state.specs.declared.signal.Phase.TheVariants.{ResetStart, ResetWait, TreeStart, ChildShake, ParentShake, Contend, SelfIdent, Ready}
use Rattle.port_state.specs.declared.signal.Signal.{Signal}
use Rattle.port_state.specs.declared.signal.Signal.TheVariants as signal
use Rattle.port_state.specs.declared.ports.PortView.{PortView}
use Rattle.port_state.specs.declared.states.NodeState.{NodeState}
use Rattle.port_state.specs.declared.timing.Timing.{Timing}
use Rattle.self_id.specs.declared.node.Attrs.{Attrs}
use Rattle.self_id.specs.Node.{FitBits}
use Rattle.port_state.specs.Ports.{is_idle, is_parent, is_child, asks, is_remaining, is_unnamed, lowest, every, port_is, change_port}
use Rattle.port_state.specs.Sends.{packets_on_every, on_port}
use Rattle.port_state.specs.Step.{Step, silent_step}
use Rattle.port_state.specs.PowerOn.{free_port, power_on, resetting_gap}
use Rattle.port_state.specs.Entry.{without_marks, enter, with_port}
use Rattle.port_state.specs.Config.{set_config, gap_or, gap_after}
use Rattle.port_state.specs.Heard as heard
use Rattle.port_state.specs.Heard.{with_level, with_packet, hears, on_signal}
use Rattle.port_state.specs.Resetting as reset
use Rattle.port_state.specs.TreeIdentify as tree
use Rattle.port_state.specs.Contention as contention
use Rattle.self_id.specs.Group.{node_count}
use Rattle.port_state.specs.Group.{own_group, shown_node}
use Rattle.self_id.proofs.Lemmas.{three_packets}
use Rattle.port_state.proofs.Shown.{shown-is_node, shown-is_of}
use Rattle.port_state.specs.SelfIdentify as ident
use Rattle.port_state.specs.Row as row
use Rattle.port_state.specs.Row.{Row}
use Rattle.port_state.specs.Tick.{raise_timer, row_of, does, tick}
use Rattle.port_state.specs.Valid.{IsBounded, EachPort, HasNoRoles, FitsRole, HasRoles, FitsPhase, IsValid}
use Rattle.port_state.specs.Sound.{IsSound, TicksAreSound, SignalsAreSound, EntriesAreSound, DisturbsAreSound, PlugsAreSound, PullsAreSound, ConfigsKeepValid, PowerOnIsValid}
use Rattle.port_state.proofs.EachPort.{each-changed, length-changed, port_is-implies, port_is-map, port_is-changed, lowest-passes}
use Rattle.port_state.proofs.Outgoing.{few-sends_from, all-connected, on-append, packets-connected, few-packets, on-port, few-on_port}
use Rattle.port_state.proofs.Roles.{decided_few, all_take_roles, parent-connected, rival_taken}

-- ---- bounds are seen from these parts alone

bounded-by :
    (x y : NodeState) → IsBounded x → y.ports ≡ x.ports → y.attrs ≡ x.attrs →
    length y.view.ports ≡ length x.view.ports → y.view.gap ≤ 63 → y.view.next_gap ≤ 63 →
    ForSome y.view.parent (λ p. p < x.ports) → ForSome y.view.id (λ i. i ≤ 62) →
    length y.list.items ≤ 252 → IsBounded y
bounded-by x y b e a l g n p i m = record {
  some_port = rw e b.some_port;
  few_ports = rw e b.few_ports;
  views = l ∙ b.views ∙ sym e;
  attrs = rw a b.attrs;
  no_delay = rw a b.no_delay;
  gap = g;
  next_gap = n;
  parent = rw e p;
  id = i;
  list = m;
}

-- a node whose phase, timers, flags and draws alone differ
same-bounds :
    (x y : NodeState) → IsBounded x → y.ports ≡ x.ports → y.attrs ≡ x.attrs →
    length y.view.ports ≡ length x.view.ports → y.view.gap ≡ x.view.gap →
    y.view.next_gap ≡ x.view.next_gap → y.view.parent ≡ x.view.parent → y.view.id ≡ x.view.id →
    y.list ≡ x.list → IsBounded y
same-bounds x y b e a l g n p i m = bounded-by x y b e a l (rw g b.gap) (rw n b.next_gap) (rw p b.parent) (rw i b.id) (rw m b.list)

bounded-with_port :
    (n : ℕ) (f : PortView → PortView) (x : NodeState) → IsBounded x → IsBounded (with_port n f x)
bounded-with_port n f x b = same-bounds x (with_port n f x) b refl refl (length-changed n f x.view.ports) refl refl refl refl refl

few_views : (x : NodeState) → IsBounded x → length x.view.ports ≤ 16
few_views x b = omega (arith, b.views, b.few_ports)

-- ---- sound steps

sound-if :
    (x : NodeState) (b : Bool) (s t : Step) → (b ≡ true → IsSound x s) → IsSound x t →
    IsSound x (if b then s else t)
sound-if x true s t p q = p refl
sound-if x false s t p q = q

-- the row that a test chooses
sound-choice :
    (coin : Bool) (x : NodeState) (b : Bool) (r s : Row) → (b ≡ true → IsSound x (does coin r x)) →
    IsSound x (does coin s x) → IsSound x (does coin (if b then r else s) x)
sound-choice coin x true r s p q = p refl
sound-choice coin x false r s p q = q

-- a record of the same node, with nothing sent
sound-quiet :
    (x y : NodeState) → IsValid y → y.ports ≡ x.ports → y.attrs ≡ x.attrs → y.timing ≡ x.timing →
    IsSound x (silent_step y)
sound-quiet x y v p a t = record { valid = v; ports = p; attrs = a; timing = t; few = omega arith; connected = tt }

sound-still : (x : NodeState) → IsValid x → IsSound x (silent_step x)
sound-still x v = sound-quiet x x v refl refl refl

-- from a record of the same node
sound-from :
    (x y : NodeState) (s : Step) → y.ports ≡ x.ports → y.attrs ≡ x.attrs → y.timing ≡ x.timing →
    IsSound y s → IsSound x s
sound-from x y s p a t h = record { valid = h.valid; ports = h.ports ∙ p; attrs = h.attrs ∙ a; timing = h.timing ∙ t; few = h.few; connected = h.connected }

fits-at :
    (x : NodeState) (ph : Phase) → IsValid x → x.view.phase ≡ ph →
    FitsPhase ph x.view.parent x.view.ports
fits-at x ph v e = subst (λ q. FitsPhase q x.view.parent x.view.ports) e v.fits

-- ---- entry

-- the gap count of the reset after next has 6 bits
next-small : (resets_gap : Bool) {next : ℕ} → next ≤ 63 → gap_after resets_gap next ≤ 63
next-small true h = omega arith
next-small false h = h

pub sound-enter : EntriesAreSound
unfolding enter
sound-enter caused x b = record {
  valid = record {
    bounded = bounded-by x (enter caused x).state b refl refl (length-map x.view.ports without_marks) b.next_gap (next-small x.resets_gap b.next_gap) (λ p e. absurd cc) (λ i e. absurd cc) (omega arith);
    fits = (cleared x.view.ports, refl);
  };
  ports = refl;
  attrs = refl;
  timing = refl;
  few = let h = few-sends_from 0 (λ k. true) (λ p. signal.Reset) x.view.ports in omega (arith, few_views x b, h);
  connected = all-connected (λ k. true) (λ p. signal.Reset) (map without_marks x.view.ports) x.view.ports (port_is-map (λ p. p.connected) without_marks (λ p. refl) x.view.ports);
}
  where
    cleared : (ports : List PortView) → EachPort (λ k p. p.child ≡ false) (map without_marks ports)
    cleared [] k p at = absurd cc
    cleared (q ∷ qs) zero p at = let same : without_marks q ≡ p = cc in subst (λ r. r.child ≡ false) same refl
    cleared (q ∷ qs) (suc k) p at = cleared qs k p at

pub sound-disturb : DisturbsAreSound
sound-disturb x b = sound-enter true x b

sound-enter_changed :
    (caused : Bool) (n : ℕ) (f : PortView → PortView) (x : NodeState) → IsBounded x →
    IsSound x (enter caused (with_port n f x))
sound-enter_changed caused n f x b = sound-from x (with_port n f x) _ refl refl refl (sound-enter caused (with_port n f x) (bounded-with_port n f x b))

pub sound-plugged : PlugsAreSound
sound-plugged n x b = sound-enter_changed true n (λ p. record p { connected = true; shown = level.Reset }) x b

pub sound-pulled : PullsAreSound
sound-pulled n x b = sound-enter_changed true n (λ p. record p { connected = false; shown = level.Idle }) x b

-- ---- configuration and power-on

pub valid-set_config : ConfigsKeepValid
valid-set_config packet x h v = record {
  bounded = bounded-by x (set_config packet x) v.bounded refl refl refl v.bounded.gap (small packet.gap h.gap_bits) v.bounded.parent v.bounded.id v.bounded.list;
  fits = v.fits;
}
  where
    small : (o : Option ℕ) → ForSome o (λ g. g ≤ 63) → gap_or o x.view.next_gap ≤ 63
    small None h = v.bounded.next_gap
    small (Some g) h = h g refl

pub valid-power_on_with : PowerOnIsValid
valid-power_on_with resets_gap ports attrs force timing some few fit none = record {
  bounded = record {
    some_port = some;
    few_ports = few;
    views = length-replicate ports free_port;
    attrs = fit;
    no_delay = none;
    gap = let h : attrs.gap < 64 = fit.gap in omega arith;
    next_gap = let h : attrs.gap < 64 = fit.gap in next-small resets_gap (omega arith);
    parent = λ p e. absurd cc;
    id = λ i e. absurd cc;
    list = omega arith;
  };
  fits = (no_child ports, refl);
}
  where
    no_child : (n : ℕ) → EachPort (λ k p. p.child ≡ false) (replicate n free_port)
    no_child zero k p at = absurd cc
    no_child (suc n) zero p at = let same : free_port ≡ p = cc in subst (λ r. r.child ≡ false) same refl
    no_child (suc n) (suc k) p at = no_child n k p at

pub valid-power_on :
    (ports : ℕ) (attrs : Attrs) (force : Bool) (timing : Timing) → 1 ≤ ports → ports ≤ 16 →
    FitBits attrs → attrs.delay ≡ 0 → IsValid (power_on ports attrs force timing)
valid-power_on ports attrs force timing some few fit none =
    valid-power_on_with false ports attrs force timing some few fit none

-- a node that was just powered on may be made one that resets its gap count
pub valid-resetting_gap : (x : NodeState) → IsValid x → IsValid (resetting_gap x)
valid-resetting_gap x v = record {
  bounded = bounded-by x (resetting_gap x) v.bounded refl refl refl v.bounded.gap (omega arith) v.bounded.parent v.bounded.id v.bounded.list;
  fits = v.fits;
}

-- ---- signals

-- a change of a port that leaves its cable and its roles alone fits each phase as before
abbrev KeepsRole : (PortView → PortView) → Type 0
KeepsRole f = (p : PortView) → ((f p).child ≡ p.child) × ((f p).connected ≡ p.connected)

no_roles-changed :
    (n : ℕ) (f : PortView → PortView) → KeepsRole f → (parent : Option ℕ) (ports : List PortView) →
    HasNoRoles parent ports → HasNoRoles parent (change_port n f ports)
no_roles-changed n f keeps parent ports h =
    (each-changed (λ k p. p.child ≡ false) (λ k p. p.child ≡ false) n f (λ p e. (keeps p).0 ∙ e) (λ j p ne e. e) ports h.0, h.1)

roles-changed :
    (n : ℕ) (f : PortView → PortView) → KeepsRole f → (parent : Option ℕ) (ports : List PortView) →
    HasRoles parent ports → HasRoles parent (change_port n f ports)
roles-changed n f keeps parent ports h =
    each-changed (FitsRole parent) (FitsRole parent) n f (λ p r. record {
      one = λ on. r.one (sym (keeps p).1 ∙ on) ∙ ap not (sym (keeps p).0);
      none = λ off. let free = r.none (sym (keeps p).1 ∙ off) in ((keeps p).0 ∙ free.0, free.1);
    }) (λ j p ne r. r) ports h

fits-changed :
    (n : ℕ) (f : PortView → PortView) → KeepsRole f →
    (ph : Phase) (parent : Option ℕ) (ports : List PortView) → FitsPhase ph parent ports →
    FitsPhase ph parent (change_port n f ports)
fits-changed n f keeps ResetStart parent ports h = no_roles-changed n f keeps parent ports h
fits-changed n f keeps ResetWait parent ports h = no_roles-changed n f keeps parent ports h
fits-changed n f keeps TreeStart parent ports h = no_roles-changed n f keeps parent ports h
fits-changed n f keeps ChildShake parent ports h = roles-changed n f keeps parent ports h
fits-changed n f keeps ParentShake parent ports h = roles-changed n f keeps parent ports h
fits-changed n f keeps Contend parent ports h = (roles-changed n f keeps parent ports h.0, h.1)
fits-changed n f keeps SelfIdent parent ports h = roles-changed n f keeps parent ports h
fits-changed n f keeps Ready parent ports h = roles-changed n f keeps parent ports h

valid-with_port :
    (n : ℕ) (f : PortView → PortView) → KeepsRole f → (x : NodeState) → IsValid x →
    IsValid (with_port n f x)
valid-with_port n f keeps x v = record { bounded = bounded-with_port n f x v.bounded; fits = fits-changed n f keeps x.view.phase x.view.parent x.view.ports v.fits }

sound-port :
    (n : ℕ) (f : PortView → PortView) → KeepsRole f → (x : NodeState) → IsValid x →
    IsSound x (silent_step (with_port n f x))
sound-port n f keeps x v = sound-quiet x (with_port n f x) (valid-with_port n f keeps x v) refl refl refl

sound-level :
    (n : ℕ) (l : Level) (x : NodeState) → IsValid x → IsSound x (silent_step (with_level n l x))
sound-level n l x v = sound-port n (λ p. record p { shown = l }) (λ p. (refl, refl)) x v

sound-hears_reset : (n : ℕ) (x : NodeState) → IsValid x → IsSound x (heard.hears_reset n x)
sound-hears_reset n x v =
    sound-if x (heard.is_resetting x.view.phase) _ _ (λ e. sound-level n level.Reset x v) (sound-enter_changed false n (λ p. record p { shown = level.Reset }) x v.bounded)

sound-hears_grant : (x : NodeState) → IsValid x → IsSound x (heard.hears_grant x)
sound-hears_grant x v =
    let y : NodeState = (heard.hears_grant x).state in
    sound-quiet x y (record { bounded = same-bounds x y v.bounded refl refl refl refl refl refl refl refl; fits = v.fits }) refl refl refl

few-with_packet :
    (quad : ℕ) (list : List ℕ) → length list ≤ 252 → length (with_packet quad list) ≤ 252
few-with_packet quad list h = room (nat_lt (length list) 252) refl
  where
    room :
        (t : Bool) → t ≡ nat_lt (length list) 252 →
        length (if t then list ++ quad ∷ [] else list) ≤ 252
    room true e = let h : length list < 252 = ltb-true _ _ (sym e) in omega (arith, length-append list (quad ∷ []))
    room false e = h

sound-hears_packet :
    (n quad : ℕ) (x : NodeState) → IsValid x → IsSound x (heard.hears_packet n quad x)
sound-hears_packet n quad x v =
    let y : NodeState = record x { list = record { items = with_packet quad x.list.items } } in
    let b : IsBounded x = v.bounded in
    record {
      valid = record { bounded = bounded-by x y b refl refl refl b.gap b.next_gap b.parent b.id (few-with_packet quad x.list.items b.list); fits = v.fits };
      ports = refl;
      attrs = refl;
      timing = refl;
      few = let h = few-sends_from 0 (λ k. not (k == n)) (λ p. signal.Packet quad) x.view.ports in omega (arith, few_views x b, h);
      connected = all-connected (λ k. not (k == n)) (λ p. signal.Packet quad) x.view.ports x.view.ports (λ k. refl);
    }

sound-hears_done : (n : ℕ) (x : NodeState) → IsValid x → IsSound x (heard.hears_done n x)
sound-hears_done n x v = sound-port n (λ p. record p { named = true }) (λ p. (refl, refl)) x v

sound-hears : (n : ℕ) (s : Signal) (x : NodeState) → IsValid x → IsSound x (hears n s x)
sound-hears n signal.Reset x v = sound-hears_reset n x v
sound-hears n signal.Idle x v = sound-level n level.Idle x v
sound-hears n signal.Parent x v = sound-level n level.Parent x v
sound-hears n signal.Child x v = sound-level n level.Child x v
sound-hears n signal.Grant x v = sound-hears_grant x v
sound-hears n (signal.Packet quad) x v = sound-hears_packet n quad x v
sound-hears n signal.Done x v = sound-hears_done n x v

pub sound-on_signal : SignalsAreSound
unfolding on_signal
sound-on_signal n s x v = sound-if x (heard.is_heard n s x) _ _ (λ e. sound-hears n s x v) (sound-still x v)

-- ---- the rows of a tick

-- nothing is sent, and phase, timer and flags alone change
sound-flags :
    (x y : NodeState) → IsBounded x → y.ports ≡ x.ports → y.attrs ≡ x.attrs → y.timing ≡ x.timing →
    length y.view.ports ≡ length x.view.ports → y.view.gap ≡ x.view.gap →
    y.view.next_gap ≡ x.view.next_gap → y.view.parent ≡ x.view.parent → y.view.id ≡ x.view.id →
    y.list ≡ x.list → FitsPhase y.view.phase y.view.parent y.view.ports → IsSound x (silent_step y)
sound-flags x y b e a t l g n p i m f = sound-quiet x y (record { bounded = same-bounds x y b e a l g n p i m; fits = f }) e a t

-- the same with a signal on a connected port
sound-send :
    (x y : NodeState) (k : ℕ) (s : Signal) → IsBounded x → y.ports ≡ x.ports → y.attrs ≡ x.attrs →
    y.timing ≡ x.timing → length y.view.ports ≡ length x.view.ports → y.view.gap ≡ x.view.gap →
    y.view.next_gap ≡ x.view.next_gap → ForSome y.view.parent (λ p. p < x.ports) →
    y.view.id ≡ x.view.id → y.list ≡ x.list → FitsPhase y.view.phase y.view.parent y.view.ports →
    port_is (λ p. p.connected) y.view.ports k ≡ true →
    IsSound x (record { state = y; sends = (k, s) ∷ [] })
sound-send x y k s b e a t l g n p i m f c = record {
  valid = record { bounded = bounded-by x y b e a l (rw g b.gap) (rw n b.next_gap) p (rw i b.id) (rw m b.list); fits = f };
  ports = e;
  attrs = a;
  timing = t;
  few = omega arith;
  connected = (c, tt);
}

sound-reset_start :
    (coin : Bool) (x : NodeState) → IsValid x → x.view.phase ≡ ResetStart →
    IsSound x (does coin (reset.reset_start_row x) x)
sound-reset_start coin x v e =
    let b : IsBounded x = v.bounded in
    let y : NodeState = (reset.ends_reset x).state in
    sound-choice coin x (nat_le x.timing.hold x.view.timer) _ _
    (λ _. record {
      valid = record { bounded = same-bounds x y b refl refl refl refl refl refl refl refl; fits = fits-at x ResetStart v e };
      ports = refl;
      attrs = refl;
      timing = refl;
      few = let h = few-sends_from 0 (λ k. true) (λ p. signal.Idle) x.view.ports in omega (arith, few_views x b, h);
      connected = all-connected (λ k. true) (λ p. signal.Idle) x.view.ports x.view.ports (λ k. refl);
    }) (sound-still x v)

sound-reset_wait :
    (coin : Bool) (x : NodeState) → IsValid x → x.view.phase ≡ ResetWait →
    IsSound x (does coin (reset.reset_wait_row x) x)
sound-reset_wait coin x v e =
    sound-choice coin x (every (λ p. reset.is_calm p.shown) x.view.ports) _ _
    (λ _. sound-flags x (reset.begins_tree x).state v.bounded refl refl refl refl refl refl refl refl refl (fits-at x ResetWait v e)) (sound-still x v)

adopted_cable : (p : PortView) → (tree.adopt p).connected ≡ p.connected
adopted_cable p = go (asks p)
  where
    go : (b : Bool) → (if b then record p { child = true } else p).connected ≡ p.connected
    go true = refl
    go false = refl

sound-takes_roles :
    (x : NodeState) → IsValid x → x.view.phase ≡ TreeStart → tree.is_decided x ≡ true →
    IsSound x (tree.takes_roles x)
sound-takes_roles x v e d =
    let b : IsBounded x = v.bounded in
    let fit : HasNoRoles x.view.parent x.view.ports = fits-at x TreeStart v e in
    record {
      valid = record {
        bounded = bounded-by x (tree.takes_roles x).state b refl refl (length-map x.view.ports tree.adopt) b.gap b.next_gap
            (lowest-passes is_remaining (λ p. p < x.ports) 0 x.view.ports (λ j t. there x.view.ports j t b.views)) b.id b.list;
        fits = all_take_roles x.view.ports (decided_few x d) fit.0;
      };
      ports = refl;
      attrs = refl;
      timing = refl;
      few = let h = few-sends_from 0 (λ k. true) (λ p. if is_parent p.shown then signal.Child else signal.Parent) x.view.ports in omega (arith, few_views x b, h);
      connected = all-connected (λ k. true) (λ p. if is_parent p.shown then signal.Child else signal.Parent) (map tree.adopt x.view.ports) x.view.ports
          (port_is-map (λ p. p.connected) tree.adopt adopted_cable x.view.ports);
    }
  where
    inside :
        (ports : List PortView) (j : ℕ) → port_is is_remaining ports j ≡ true → j < length ports
    inside [] j t = absurd cc
    inside (p ∷ ps) zero t = omega arith
    inside (p ∷ ps) (suc j) t = omega (arith, inside ps j t)

    there :
        (ports : List PortView) (j : ℕ) → port_is is_remaining ports j ≡ true →
        length ports ≡ x.ports → 0 + j < x.ports
    there ports j t l = omega (arith, inside ports j t, l)

sound-tree_start :
    (coin : Bool) (x : NodeState) → IsValid x → x.view.phase ≡ TreeStart →
    IsSound x (does coin (tree.tree_start_row x) x)
sound-tree_start coin x v e =
    sound-choice coin x (tree.is_decided x) _ _ (λ d. sound-takes_roles x v e d)
    (sound-choice coin x (nat_le x.timing.timeout x.view.timer) _ _ (λ _. sound-flags x (tree.times_out x).state v.bounded refl refl refl refl refl refl refl refl refl v.fits) (sound-still x v))

sound-child_shake :
    (coin : Bool) (x : NodeState) → IsValid x → x.view.phase ≡ ChildShake →
    IsSound x (does coin (tree.child_shake_row x) x)
sound-child_shake coin x v e =
    sound-choice coin x (every (λ p. if p.child then is_idle p.shown else true) x.view.ports) _ _
    (λ _. sound-flags x (tree.awaits_parent x).state v.bounded refl refl refl refl refl refl refl refl refl (fits-at x ChildShake v e)) (sound-still x v)

-- the parent port is connected
up-connected :
    (x : NodeState) (p : ℕ) → IsBounded x → HasRoles x.view.parent x.view.ports →
    x.view.parent ≡ Some p → port_is (λ p. p.connected) x.view.ports p ≡ true
up-connected x p b r o = parent-connected x.view.ports p (let h : p < x.ports = b.parent p o in omega (arith, h, b.views)) (subst (λ q. HasRoles q x.view.ports) o r)

sound-parent_shake_at :
    (coin : Bool) (o : Option ℕ) (x : NodeState) → IsValid x → x.view.phase ≡ ParentShake →
    x.view.parent ≡ o → IsSound x (does coin (tree.parent_shake_at o x) x)
sound-parent_shake_at coin None x v e o = sound-flags x (tree.becomes_root x).state v.bounded refl refl refl refl refl refl refl refl refl (fits-at x ParentShake v e)
sound-parent_shake_at coin (Some p) x v e o =
    let b : IsBounded x = v.bounded in
    let r : HasRoles x.view.parent x.view.ports = fits-at x ParentShake v e in
    let c : port_is (λ p. p.connected) x.view.ports p ≡ true = up-connected x p b r o in
    sound-choice coin x (port_is (λ p. is_child p.shown) x.view.ports p) _ _
    (λ _. sound-send x (tree.finds_parent p x).state p signal.Idle b refl refl refl refl refl refl b.parent refl refl r c)
    (sound-choice coin x (port_is (λ p. is_parent p.shown) x.view.ports p) _ _
    (λ _. sound-send x (contention.begins_contention coin p x).state p signal.Idle b refl refl refl refl refl refl b.parent refl refl (r, subst (λ q. IsSome q) (sym o) refl) c) (sound-still x v))

sound-contend_at :
    (coin : Bool) (o : Option ℕ) (x : NodeState) → IsValid x → x.view.phase ≡ Contend →
    x.view.parent ≡ o → IsSound x (does coin (contention.contend_at o x) x)
sound-contend_at coin None x v e o = sound-still x v
sound-contend_at coin (Some p) x v e o =
    let b : IsBounded x = v.bounded in
    let fit : HasRoles x.view.parent x.view.ports × IsSome x.view.parent = fits-at x Contend v e in
    let c : port_is (λ p. p.connected) x.view.ports p ≡ true = up-connected x p b fit.0 o in
    let f : PortView → PortView = λ p. record p { child = true } in
    sound-choice coin x (port_is (λ p. is_parent p.shown) x.view.ports p) _ _
    (λ _. sound-send x (contention.takes_rival p x).state p signal.Child b refl refl refl (length-changed p f x.view.ports) refl refl (λ q n. absurd cc) refl refl
    (rival_taken x.view.ports p (subst (λ q. HasRoles q x.view.ports) o fit.0))
    (port_is-changed (λ p. p.connected) p f (λ p. refl) x.view.ports p ∙ c))
    (sound-send x (contention.asks_again p x).state p signal.Parent b refl refl refl refl refl refl b.parent refl refl fit.0 c)

sound-contend :
    (coin : Bool) (x : NodeState) → IsValid x → x.view.phase ≡ Contend →
    IsSound x (does coin (contention.contend_row x) x)
sound-contend coin x v e = sound-choice coin x (nat_le x.view.wait x.view.timer) _ _ (λ _. sound-contend_at coin x.view.parent x v e refl) (sound-still x v)

-- ---- self identify

unnamed_connected : (p : PortView) → is_unnamed p ≡ true → p.connected ≡ true
unnamed_connected p h = (and_parts p.connected (p.child && not p.named) h).0

sound-names :
    (x : NodeState) → IsValid x → x.view.phase ≡ SelfIdent → ident.may_name x ≡ true →
    IsSound x (ident.names_itself x)
sound-names x v e m =
    let b : IsBounded x = v.bounded in
    let r : HasRoles x.view.parent x.view.ports = fits-at x SelfIdent v e in
    let id = node_count x.list.items in
    let packets = own_group x id in
    let both = and_parts (nat_le id 62) (nat_le (length x.list.items + length packets) 252) m in
    let small : id ≤ 62 = leb-true id 62 both.0 in
    let room : length x.list.items + length packets ≤ 252 = leb-true _ 252 both.1 in
    record {
      valid = record {
        bounded = bounded-by x (ident.names_itself x).state b refl refl refl b.gap b.next_gap b.parent (λ i s. let same : id ≡ i = cc in omega arith) (omega (arith, length-append x.list.items packets));
        fits = r;
      };
      ports = refl;
      attrs = refl;
      timing = refl;
      few = let few = few-packets packets x.view.ports (few_views x b) in let three : length packets ≤ 3 = three_packets (shown_node x) id (shown-is_node x b) (shown-is_of x b) in omega (arith, few, three, few-on_port x.view.parent signal.Done, length-append (packets_on_every packets x.view.ports) (on_port x.view.parent signal.Done));
      connected = on-append x.view.ports (packets_on_every packets x.view.ports) (on_port x.view.parent signal.Done) (packets-connected packets x.view.ports)
          (on-port x.view.ports x.view.parent signal.Done (λ p o. up-connected x p b r o));
    }

sound-granted :
    (coin : Bool) (o : Option ℕ) (x : NodeState) → IsValid x → x.view.phase ≡ SelfIdent →
    ForSome o (λ k. port_is (λ p. p.connected) x.view.ports k ≡ true) →
    IsSound x (does coin (ident.granted_row o x) x)
sound-granted coin None x v e h = sound-choice coin x (ident.may_name x) _ _ (λ m. sound-names x v e m) (sound-still x v)
sound-granted coin (Some k) x v e h =
    let b : IsBounded x = v.bounded in
    let f : PortView → PortView = λ p. record p { asked = true } in
    let r : HasRoles x.view.parent x.view.ports = fits-at x SelfIdent v e in
    go (port_is (λ p. p.asked) x.view.ports k)
    (sound-send x (with_port k f x) k signal.Grant b refl refl refl (length-changed k f x.view.ports) refl refl b.parent refl refl
    (fits-changed k f (λ p. (refl, refl)) x.view.phase x.view.parent x.view.ports v.fits) (port_is-changed (λ p. p.connected) k f (λ p. refl) x.view.ports k ∙ h k refl))
  where
    go :
        (t : Bool) → IsSound x (ident.asks_child k x) →
        IsSound x (does coin (if t then row.none else row.asks_child k) x)
    go true s = sound-still x v
    go false s = s

sound-self_ident :
    (coin : Bool) (x : NodeState) → IsValid x → x.view.phase ≡ SelfIdent →
    IsSound x (does coin (ident.self_ident_row x) x)
sound-self_ident coin x v e =
    let h : ForSome (lowest is_unnamed x.view.ports) (λ k. port_is (λ p. p.connected) x.view.ports k ≡ true) =
    lowest-passes is_unnamed (λ k. port_is (λ p. p.connected) x.view.ports k ≡ true) 0 x.view.ports
    (λ j t. let z : 0 + j ≡ j = omega arith in rw z (port_is-implies is_unnamed (λ p. p.connected) unnamed_connected x.view.ports j t)) in
    sound-choice coin x x.view.granted _ _ (λ _. sound-granted coin (lowest is_unnamed x.view.ports) x v e h) (sound-still x v)

-- ---- a tick

sound-row :
    (coin : Bool) (ph : Phase) (x : NodeState) → IsValid x → x.view.phase ≡ ph →
    IsSound x (does coin (row_of ph x) x)
sound-row coin ResetStart x v e = sound-reset_start coin x v e
sound-row coin ResetWait x v e = sound-reset_wait coin x v e
sound-row coin TreeStart x v e = sound-tree_start coin x v e
sound-row coin ChildShake x v e = sound-child_shake coin x v e
sound-row coin ParentShake x v e = sound-parent_shake_at coin x.view.parent x v e refl
sound-row coin Contend x v e = sound-contend coin x v e
sound-row coin SelfIdent x v e = sound-self_ident coin x v e
sound-row coin Ready x v e = sound-still x v

-- the timer alone rises
pub valid-raise_timer : (x : NodeState) → IsValid x → IsValid (raise_timer x)
valid-raise_timer x v = record { bounded = same-bounds x (raise_timer x) v.bounded refl refl refl refl refl refl refl refl; fits = v.fits }

pub sound-tick : TicksAreSound
unfolding tick
sound-tick coin x v = sound-from x (raise_timer x) _ refl refl refl (sound-row coin x.view.phase (raise_timer x) (valid-raise_timer x v) refl)
