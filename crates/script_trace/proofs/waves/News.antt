-- What is dumped where nothing is new.
use Rattle.std.proofs.Common.{◌≡◌, ℕ, suc, ◌+◌, ◌==◌, ◌&&◌, not, Bool, false, List, [], ◌∷◌, All, Some, drop, cond, slice_get, slice_index_or, refl, sym, ap, subst, arith}
use Rattle.std.proofs.lemmas.Bool.{cond-false}
use Rattle.std.proofs.lemmas.List.Elements.{All-head, All-tail}
use Rattle.std.proofs.lemmas.Option.{get_or_from_slice_get}
use Rattle.port_state.specs.declared.ports.PortView.{PortView}
use Rattle.port_state.specs.declared.view.View.{View}
use Rattle.port_state.specs.Ports.{PortNumber}
use Rattle.port_state.specs.PowerOn.{free_port}
use Rattle.port_state.specs.Machine.{PortNode}
use Rattle.cable_world.specs.declared.wire.Travelling.{Travelling}
use Rattle.cable_world.specs.World.{CableWorld, wire_of}
use Rattle.script_trace.specs.Event.{Seen, state_number}
use Rattle.script_trace.specs.News.{ShowsNothingNew}
use Rattle.script_trace.specs.Voice.{TellsNewsAlone}
use Rattle.script_trace.proofs.News.{IsOld, IsOldFrom, both-none, old-all, old-head, old-tail, same-number, true-then-none}
use Rattle.script_trace.specs.waves.Value.{flag, id_number, is_root, level_number, role}
use Rattle.script_trace.specs.waves.Change.{unless_same, port_at, sent_change, sent_changes, port_changes, all_port_changes, node_changes}
use Rattle.script_trace.specs.waves.Moment.{all_changes, at_time, time_of, waves_voice}

-- no line stands between equal numbers
none-same : (n : ℕ) (line : List ℕ) → unless_same n n line ≡ []
none-same n line = ap (λ (b : Bool). cond b [] line) (same-number n)

-- no signal was sent just now
none-sent : (k : ℕ) (j : PortNumber) (ts : List Travelling) → All IsOld ts → sent_changes k j ts ≡ []
none-sent k j [] h = refl
none-sent k j (t ∷ ts) h =
    both-none (sent_change k j t) (sent_changes k j ts)
    (cond-false (t.age == 0) _ [] (All-head IsOld t ts h)) (none-sent k j ts (All-tail IsOld t ts h))

module _ (w : CableWorld) (k : ℕ) (s : Seen) (t : ℕ)
    (ticked : s.missed ≡ false)
    (sent : (port : PortNumber) → All IsOld (drop (slice_index_or s.there port 0) (wire_of w (record { node = k; port = port })).signals))
  where
    abbrev later : View
    later = record s.view { timer = t }

    no-port : (j : PortNumber) (p : PortView) → port_at s.view j ≡ p → port_changes w k s later j p ≡ []
    no-port j p at =
        subst (λ (q : PortView). port_changes w k s later j q ≡ []) at
        (both-none _ _ (none-same (role s.view.parent j (port_at s.view j)) _)
        (both-none _ _ (none-same (level_number (port_at s.view j).shown) _)
        (both-none _ _ (cond-false ((port_at s.view j).connected && not (port_at s.view j).connected) _ [] (true-then-none (port_at s.view j).connected))
        (none-sent k j _ (sent j)))))

    no-ports : (j : PortNumber) (ports : List PortView) →
        ((i : ℕ) (p : PortView) → slice_get ports i ≡ Some p → slice_get s.view.ports (j + i) ≡ Some p) →
        all_port_changes w k s later j ports ≡ []
    no-ports j [] h = refl
    no-ports j (p ∷ ports) h =
        let here : j + 0 ≡ j = omega arith in
        let at : slice_get s.view.ports j ≡ Some p = subst (λ (n : ℕ). slice_get s.view.ports n ≡ Some p) here (h 0 p refl) in
        both-none _ _ (no-port j p (get_or_from_slice_get s.view.ports j p free_port at))
        (no-ports (j + 1) ports (λ i q e.
        let next : j + suc i ≡ j + 1 + i = omega arith in
        subst (λ (n : ℕ). slice_get s.view.ports n ≡ Some q) next (h (suc i) q e)))

    no-change : node_changes w k s later ≡ []
    no-change =
        both-none _ _ (cond-false s.missed _ [] ticked)
        (both-none _ _ (none-same (state_number s.view.phase) _) (both-none _ _ (none-same (id_number s.view.id) _)
        (both-none _ _ (none-same (flag s.view.timed_out) _) (both-none _ _ (none-same (flag (is_root s.view)) _)
        (no-ports 0 s.view.ports (λ i p e.
        let here : i ≡ 0 + i = omega arith in
        subst (λ (n : ℕ). slice_get s.view.ports n ≡ Some p) here e))))))

pub no-news : (w : CableWorld) (k : ℕ) (s : Seen) (v : View) → ShowsNothingNew w k s v → node_changes w k s v ≡ []
no-news w k s v h = subst (λ (z : View). node_changes w k s z ≡ []) (sym h.view) (no-change w k s v.timer h.ticked h.sent)

no-changes : (w : CableWorld) (k : ℕ) (seen : List Seen) (nodes : List PortNode) → IsOldFrom w k seen nodes →
    all_changes w k seen nodes ≡ []
no-changes w k [] nodes h = refl
no-changes w k (s ∷ seen) [] h = refl
no-changes w k (s ∷ seen) (x ∷ nodes) h =
    both-none (node_changes w k s x.state.view) (all_changes w (k + 1) seen nodes)
    (no-news w k s x.state.view (old-head w k s seen x nodes h))
    (no-changes w (k + 1) seen nodes (old-tail w k s seen x nodes h))

pub waves-news : TellsNewsAlone waves_voice
waves-news legend seen w h =
    ap (at_time (time_of legend.nanoseconds w.delay w.turns)) (no-changes w 0 seen w.nodes (old-all w seen h))
