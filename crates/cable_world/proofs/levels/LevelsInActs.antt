-- What happens between two turns keeps that the levels at the two ends of a cable agree.
use Rattle.std.proofs.Common.{◌≡◌, inl, inr, ℕ, [], ◌∷◌, Some, None, slice_get, subst, sym, ◌∙◌, ap}
use Rattle.cabling.specs.declared.cable.End.{End}
use Rattle.cabling.specs.Wiring.{far}
use Rattle.port_state.specs.declared.signal.Signal.TheVariants as signal
use Rattle.port_state.specs.Config.{ConfigPacket}
use Rattle.port_state.specs.Machine.{PortNode, node_set_config}
use Rattle.cable_world.specs.declared.act.Act.{Act}
use Rattle.cable_world.specs.Wire.{new_signal}
use Rattle.cable_world.specs.World.{CableWorld, wire_of}
use Rattle.cable_world.specs.Act.{change_in_set, Acted, hold, hold_fault}
use Rattle.cable_world.specs.Signals.{signals_of}
use Rattle.cable_world.specs.Agreement.{level_sent, level_sent_at, level_shown, level_after, leads_down, LevelsAgree}
use Rattle.cable_world.specs.Lawful.{IsWellFormed}
use Rattle.cable_world.proofs.acts.Happenings.{Entered, Stayed, Happens, shown-is, hold-happens, each-kept, Acting, acting}
use Rattle.cable_world.proofs.levels.LastSent.{level_after-append}
use Rattle.cable_world.proofs.levels.LastHeard.{shown-same}
use Rattle.cable_world.proofs.coupling.Streams.{signals-append}
use Rattle.cable_world.proofs.tables.CableEnds.{CableEnd, cable-end}

module _ (w v : CableWorld) (h : Happens w v) (l : LevelsAgree w) where
  -- a cable whose first node entered R0, and sent Reset: that is the last level under way
  begun-level :
      (a b : End) (x y : PortNode) → Entered w v a b x →
      level_after (level_shown y.state b.port) (signals_of (wire_of v a).signals)
      ≡ level_sent_at x.state a.port
  begun-level a b x y s =
      let shown = level_shown y.state b.port in
      let old = s.last.0 in
      ap (λ ts. level_after shown (signals_of ts)) s.last.1
      ∙ ap (level_after shown) (signals-append old (new_signal signal.Reset ∷ []))
      ∙ level_after-append shown (signals_of old) (signal.Reset ∷ [])
      ∙ sym (ap (λ phase. level_sent phase (leads_down x.state.view.ports a.port)) s.begun.phase)

  -- a cable whose first node is as it was: what the other end shows is, too
  stayed-level :
      (a b : End) (x y : PortNode) → far v.cabling a ≡ Some b → slice_get v.nodes b.node ≡ Some y →
      Stayed w v a b x →
      level_after (level_shown y.state b.port) (signals_of (wire_of v a).signals)
      ≡ level_sent_at x.state a.port
  stayed-level a b x y e at s =
      let back : far w.cabling b ≡ Some a = h.before.cabling.both_ways a b s.cable in
      let old : CableEnd w b = cable-end w b a h.before back in
      let same : level_shown y.state b.port ≡ level_shown old.node.state b.port =
      shown-same y.state old.node.state b.port
      (sym (shown-is v b y at) ∙ h.shows b a back (h.after.cabling.both_ways a b e) ∙ shown-is w b old.node old.node_at) in
      ap (λ ts. level_after (level_shown y.state b.port) (signals_of ts)) s.signals
      ∙ ap (λ shown. level_after shown (signals_of (wire_of w a).signals)) same
      ∙ l a b x old.node s.cable s.node old.node_at

  levels-after : LevelsAgree v
  levels-after a b x y e at_x at_y = elim (h.ends a b x e at_x) [
    | inl s ↦ begun-level a b x y s
    | inr s ↦ stayed-level a b x y e at_y s
  ]

-- ---- hold

pub hold-levels :
    (end : End) (turns : ℕ) (w : CableWorld) → hold_fault end w ≡ None → IsWellFormed w →
    LevelsAgree w → LevelsAgree (hold end turns w)
hold-levels end turns w none f l = levels-after w (hold end turns w) (hold-happens end turns w none f) l

-- ---- acts

-- some nodes hear a packet
told-levels :
    (set : ℕ) (packet : ConfigPacket) (w : CableWorld) → LevelsAgree w →
    LevelsAgree (record w { nodes = change_in_set set (node_set_config packet) 0 w.nodes })
told-levels set packet w l a b x y e at there =
    let change : PortNode → PortNode = node_set_config packet in
    let Pair : PortNode → PortNode → Type 0 = λ x y.
    level_after (level_shown y.state b.port) (signals_of (wire_of w a).signals) ≡ level_sent_at x.state a.port in
    each-kept set change w.nodes a.node (λ x. Pair x y) (λ x h. h)
    (λ x at. each-kept set change w.nodes b.node (λ y. Pair x y) (λ y h. h) (λ y there. l a b x y e at there) y there) x at

pub act-levels :
    (a : Act) (w v : CableWorld) → Acted a w v → IsWellFormed w → LevelsAgree w → LevelsAgree v
act-levels a w v did f l =
    let t : Acting w v = acting a w v did f in
    let heard : LevelsAgree t.told = elim t.hears [
      | inl same ↦ subst LevelsAgree (sym same) l
      | inr h ↦ subst LevelsAgree (sym h.2) (told-levels h.0 h.1 w l)
    ] in
    subst LevelsAgree (sym t.is) (levels-after t.told t.done t.happens heard)
