use Rattle.std.proofs.Common.{◌≡◌, Bool, true, false, not, ◌&&◌, refl, if◌then◌else◌}
use Rattle.port_state.specs.declared.ports.PortView.{PortView}
use Rattle.port_state.specs.Ports.{is_idle}
use Rattle.port_state.specs.codings.PortWords.{has_waiting_child}
use Rattle.port_state.proofs.PortLists.{every-port}
use Rattle.port_state.proofs.ports.PortViews.are_children_idle.Goals as goal

-- a connected port that isn't one of a child which doesn't show Idle
not-waiting :
    (p : PortView) →
    not (has_waiting_child p)
    ≡ (if p.connected then (if p.child then is_idle p.shown else true) else true)
not-waiting p = go p.connected p.child (is_idle p.shown)
  where
    go : (c d i : Bool) → not (c && (d && not i)) ≡ (if c then (if d then i else true) else true)
    go true true true = refl
    go true true false = refl
    go true false i = refl
    go false d i = refl

pub returns : goal.returns
returns c =
    rw (← c.self.view_is)
    (every-port (λ p. if p.child then is_idle p.shown else true) has_waiting_child c.self.inside.words c.self.inside.count c.waiting_children.result
    (c.waiting_children.ensures.fits c.self.inside.count c.self.invariant.1) c.waiting_children.ensures.bits not-waiting)
