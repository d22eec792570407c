use Rattle.std.proofs.Common.{◌≡◌, Bool, true, false, not, ◌&&◌, refl, if◌then◌else◌}
use Rattle.port_state.specs.declared.ports.PortView.{PortView}
use Rattle.port_state.specs.Resetting.{is_calm}
use Rattle.port_state.specs.codings.PortWords.{is_restless}
use Rattle.port_state.proofs.PortLists.{every-port}
use Rattle.port_state.proofs.ports.PortViews.are_calm.Goals as goal

not-restless_ports :
    (p : PortView) → not (is_restless p) ≡ (if p.connected then is_calm p.shown else true)
not-restless_ports p = go p.connected (is_calm p.shown)
  where
    go : (c i : Bool) → not (c && not i) ≡ (if c then i else true)
    go true true = refl
    go true false = refl
    go false i = refl

pub returns : goal.returns
returns c =
    rw (← c.self.view_is)
    (every-port (λ p. is_calm p.shown) is_restless c.self.inside.words c.self.inside.count c.restless_ports.result
    (c.restless_ports.ensures.fits c.self.inside.count c.self.invariant.1) c.restless_ports.ensures.bits not-restless_ports)
