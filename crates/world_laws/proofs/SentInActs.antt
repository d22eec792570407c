-- What is sent over a cable in an act: a Reset, where the act resets the node.
use Rattle.std.proofs.Common.{◌≡◌, inl, inr, ℕ, Bool, true, false, List, [], ◌∷◌, ◌++◌, map, Option, None, Some, if◌then◌else◌, refl, sym, ◌∙◌, ap, append-nil, arith}
use Rattle.std.specs.Prelude.{IsSomeAnd}
use Rattle.std.proofs.lemmas.Bool.{eqb-true, eqb-false, cases_eq}
use Rattle.cabling.specs.declared.cable.End.{End}
use Rattle.cabling.specs.Wiring.{Wiring, far}
use Rattle.cabling.proofs.Lemmas.{one_other, holds_or_not}
use Rattle.cable_world.proofs.Lemmas.{some-of, some-at, CableEnd, cable-end}
use Rattle.port_state.specs.declared.signal.Signal.{Signal}
use Rattle.port_state.specs.declared.signal.Signal.TheVariants as signal
use Rattle.port_state.specs.Config.{config_packet}
use Rattle.port_state.specs.Machine.{PortNode, NodeStep, node_disturb, node_plugged, node_pulled, node_set_config}
use Rattle.cable_world.specs.declared.act.Act.{Act}
use Rattle.cable_world.specs.declared.act.Act.TheVariants.{Plug, Pull, Reset, Config}
use Rattle.cable_world.specs.Wire.{Wire, new_signal}
use Rattle.cable_world.specs.World.{CableWorld, wire_of}
use Rattle.cable_world.specs.Lawful.{IsWellFormed}
use Rattle.world_laws.specs.ByNumber.{BeginsReset, WiresStand, Changes}
use Rattle.world_laws.specs.Touched.{Touches, is_end_at, is_touched}
use Rattle.world_laws.specs.Arrival.{sent_in_act}

touched-at :
    (k : ℕ) (o : Option End) → is_end_at k o ≡ true → IsSomeAnd o (λ b. k ≡ b.node)
touched-at k None e = absurd cc
touched-at k (Some b) e = eqb-true k b.node e

untouched-at :
    (k : ℕ) (o : Option End) → is_end_at k o ≡ false → IsSomeAnd o (λ b. k ≡ b.node) → ⊥
untouched-at k None e h = h
untouched-at k (Some b) e h = eqb-false k b.node e h

touched :
    (act : Act) (w : CableWorld) (k : ℕ) → is_touched act w k ≡ true → Touches act w k
touched (Plug a b) w k e = grind (arith, e)
touched (Pull a) w k e = elim (cases_eq k a.node) [
  | inl h ↦ inl h
  | inr h ↦ inr (touched-at k (far w.cabling a) (grind (arith, e, h)))
]
touched (Reset node) w k e = eqb-true k node e
touched (Config from root_id force gap) w k e = eqb-true k from e

untouched :
    (act : Act) (w : CableWorld) (k : ℕ) → is_touched act w k ≡ false → Touches act w k → ⊥
untouched (Plug a b) w k e (inl h) = grind (arith, e, h)
untouched (Plug a b) w k e (inr h) = grind (arith, e, h)
untouched (Pull a) w k e (inl h) = grind (arith, e, h)
untouched (Pull a) w k e (inr h) = untouched-at k (far w.cabling a) (grind (arith, e)) h
untouched (Reset node) w k e h = eqb-false k node e h
untouched (Config from root_id force gap) w k e h = eqb-false k from e h

-- what is under way at an end before and after, and what was sent there
abbrev Sends : CableWorld → CableWorld → End → List Signal → Type 0
Sends w v a sent = (wire_of v a).signals ≡ (wire_of w a).signals ++ map new_signal sent

begun :
    (w v : CableWorld) (k : ℕ) (step : PortNode → NodeStep) (a b : End) → BeginsReset w v k step →
    a.node ≡ k → far v.cabling a ≡ Some b → Sends w v a (signal.Reset ∷ [])
begun w v k step a b r is joined = ap (λ (z : Wire). z.signals) (r.wires a b is joined)

stood : (w v : CableWorld) (k : ℕ) (a : End) → WiresStand w v k → a.node ≡ k → Sends w v a []
stood w v k a s is = ap (λ (z : Wire). z.signals) (s a is) ∙ sym (append-nil (wire_of w a).signals)

sent-when-touched :
    (act : Act) (w v : CableWorld) (a b : End) → Changes act w v → Touches act w a.node →
    far v.cabling a ≡ Some b → Sends w v a (signal.Reset ∷ [])
sent-when-touched (Plug p q) w v a b h (inl is) joined = begun w v p.node (node_plugged p.port) a b h.node_a is joined
sent-when-touched (Plug p q) w v a b h (inr is) joined = begun w v q.node (node_plugged q.port) a b h.node_b is joined
sent-when-touched (Pull p) w v a b h (inl is) joined = begun w v p.node (node_pulled p.port) a b h.1.node_a is joined
sent-when-touched (Pull p) w v a b h (inr s) joined =
    let q = some-of (far w.cabling p) _ s in
    let same : q.0 ≡ h.0 = one_other (far w.cabling p) q.0 h.0 q.1 h.1.cables.joined in
    begun w v h.0.node (node_pulled h.0.port) a b h.1.node_b (q.2 ∙ ap (λ (z : End). z.node) same) joined
sent-when-touched (Reset node) w v a b h is joined = begun w v node node_disturb a b h.resets is joined
sent-when-touched (Config from root_id force gap) w v a b h is joined =
    begun w v from (λ y. node_disturb (node_set_config (config_packet root_id force gap) y)) a b h.1.resets is joined

silent-else :
    (act : Act) (w v : CableWorld) (a b : End) → Changes act w v → IsWellFormed w →
    (Touches act w a.node → ⊥) → far v.cabling a ≡ Some b → Sends w v a []
silent-else (Plug p q) w v a b h f none joined = stood w v a.node a (h.others a.node (λ e. none (inl e)) (λ e. none (inr e))).wires refl
silent-else (Pull p) w v a b h f none joined =
    stood w v a.node a
    (h.1.others a.node (λ e. none (inl e)) (λ e. none (inr (some-at (far w.cabling p) h.0 (λ (b : End). a.node ≡ b.node) h.1.cables.joined e)))).wires
    refl
silent-else (Reset node) w v a b h f none joined = stood w v a.node a (h.others a.node none).wires refl
silent-else (Config from root_id force gap) w v a b h f none joined = elim (holds_or_not h.0 a.node) [
  | inl inside ↦
      let end : CableEnd w a = cable-end w a b f (ap (λ (c : Wiring). far c a) (sym h.1.cables) ∙ joined) in
      stood w v a.node a (h.1.hear a.node end.node inside none end.node_at).1 refl
  | inr out ↦ stood w v a.node a (h.1.others a.node out).wires refl
]

pub sent-in-act :
    (act : Act) (w v : CableWorld) (a b : End) → Changes act w v → IsWellFormed w →
    far v.cabling a ≡ Some b → Sends w v a (sent_in_act a act w)
sent-in-act act w v a b h f joined = go (is_touched act w a.node) refl
  where
    go :
        (test : Bool) → is_touched act w a.node ≡ test →
        Sends w v a (if test then signal.Reset ∷ [] else [])
    go true e = sent-when-touched act w v a b h (touched act w a.node e) joined
    go false e = silent-else act w v a b h f (untouched act w a.node e) joined
