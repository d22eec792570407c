-- What each act makes of each node, of each wire and of the cables, by number.
use Rattle.std.proofs.Common.{◌≡◌, ◌≢◌, inl, inr, ℕ, List, [], ◌∷◌, Option, Some, None, length, length-set, slice_get, refl, sym, ◌∙◌, ap, subst, arith}
use Rattle.std.proofs.lemmas.List.{ext_get_or}
use Rattle.cabling.specs.declared.cable.End.{End}
use Rattle.cabling.specs.Wiring.{Wiring, far, ports_of}
use Rattle.cabling.specs.NodeSet.{Holds}
use Rattle.cabling.specs.Component.{IsComponent}
use Rattle.cabling.specs.Change.{SameBut, Added, TakenOut, plug_fault}
use Rattle.cabling.proofs.Lemmas.{cases_end, same_ports, added_by_writes, taken_by_writes, none_some, Pluggable, pluggable}
use Rattle.port_state.specs.declared.signal.Signal.TheVariants as signal
use Rattle.port_state.specs.Config.{ConfigPacket, config_packet}
use Rattle.port_state.specs.Machine.{PortNode, NodeStep, node_disturb, node_plugged, node_pulled, node_set_config}
use Rattle.cable_world.specs.declared.act.Act.{Act}
use Rattle.cable_world.specs.declared.act.Act.TheVariants.{Plug, Pull, Reset, Config}
use Rattle.cable_world.specs.Wire.{Wire, empty_wire, add_signals}
use Rattle.cable_world.specs.World.{CableWorld, wire_of, put}
use Rattle.cable_world.specs.Act.{Acted, with_step, plug, pull_from, reset, change_in_set, configure, note_changes}
use Rattle.cable_world.specs.Lawful.{IsWellFormed}
use Rattle.cable_world.proofs.Lemmas.{Cabled, with_cable, without_cable, plug-cabled, pull-cabled, Resets as Resetting, resets-disturb, resets-plugged, resets-pulled, other_than, Untouched, untouched, same-wire, still-there, CableEnd, cable-end, recabled, others-alone, has-wire, has-cable, plug-formed, pull-formed, reset-formed, told-formed, HasEntry, put-same, put-other, put-lengths, step-cables}
use Rattle.world_laws.specs.ByNumber.{BeginsReset, NodeStands, Plugs, Pulls, Resets, Configures, Changes, ActsByNumber}
use Rattle.world_laws.proofs.ActCables.{plug-cables, pull-cables, pulled-from}
use Rattle.world_laws.proofs.NodeByNumber.{stepped-node, stepped-wire, changed-member, unchanged-other, same-change}

-- the ports of a node that has none of the two ends
same-row :
    (old new : Wiring) (a b : End) (k : ℕ) → SameBut old new a b → k ≢ a.node → k ≢ b.node →
    ports_of new k ≡ ports_of old k
same-row old new a b k same na nb =
    ext_get_or None (ports_of new k) (ports_of old k) (same_ports old new k same.ports)
    (λ p less. same.others (record { node = k; port = p }) (λ e. na (ap (λ (z : End). z.node) e)) (λ e. nb (ap (λ (z : End). z.node) e)))

-- ---- a cable is plugged or pulled, and both its nodes reset the bus

module _
    (a b : End) (f g : PortNode → NodeStep) (c : Wiring) (w : CableWorld)
    (resets-f : Resetting (other_than a.port) f) (resets-g : Resetting (other_than b.port) g)
    (k : Cabled w.cabling c a b) (old : IsWellFormed w)
    (new : IsWellFormed (with_step b.node g (with_step a.node f (recabled c a b w))))
    (wires : (e z : End) → far c e ≡ Some z → wire_of (recabled c a b w) e ≡ wire_of w e) where
  abbrev start : CableWorld
  start = recabled c a b w

  abbrev next : CableWorld
  next = with_step a.node f start

  abbrev last : CableWorld
  last = with_step b.node g next

  abbrev v : CableWorld
  v = note_changes w last

  cables : last.cabling ≡ c
  cables = step-cables b.node g next ∙ step-cables a.node f start

  kept-wire : (e z : End) → far last.cabling e ≡ Some z → wire_of start e ≡ wire_of w e
  kept-wire e z joined = wires e z (ap (λ (d : Wiring). far d e) (sym cables) ∙ joined)

  begins-a : BeginsReset w v a.node f
  begins-a = record {
    node = λ x at. (untouched b.node g next a.node k.apart).node ∙ stepped-node a.node f start x at;
    wires = λ e z n joined.
        let on : CableEnd last e = cable-end last e z new joined in
        let u : Untouched next last e.node = untouched b.node g next e.node (λ is. k.apart (sym n ∙ is)) in
        same-wire next last e u
        ∙ stepped-wire (other_than a.port) a.node f start e resets-f n (still-there next last e u on)
        ∙ ap (λ o. add_signals (signal.Reset ∷ []) o) (kept-wire e z joined);
  }

  begins-b : BeginsReset w v b.node g
  begins-b = record {
    node = λ x at. stepped-node b.node g next x ((untouched a.node f start b.node (λ is. k.apart (sym is))).node ∙ at);
    wires = λ e z n joined.
        let on : CableEnd last e = cable-end last e z new joined in
        stepped-wire (other_than b.port) b.node g next e resets-g n on
        ∙ ap (λ o. add_signals (signal.Reset ∷ []) o) (same-wire start next e (untouched a.node f start e.node (λ is. k.apart (sym is ∙ n))) ∙ kept-wire e z joined);
  }

  others-stand : (j : ℕ) → j ≢ a.node → j ≢ b.node → NodeStands w v j
  others-stand j na nb =
      let node : slice_get last.nodes j ≡ slice_get w.nodes j = (untouched b.node g next j nb).node ∙ (untouched a.node f start j na).node in
      record {
        node = node;
        ports = ap (λ (d : Wiring). ports_of d j) cables ∙ same-row w.cabling c a b j k.others na nb;
        wires = λ e n.
            same-wire next last e (untouched b.node g next e.node (λ is. nb (sym n ∙ is)))
            ∙ same-wire start next e (untouched a.node f start e.node (λ is. na (sym n ∙ is)))
            ∙ others-alone c a b w old k.has_a k.has_b e (λ is. na (sym n ∙ ap (λ (z : End). z.node) is)) (λ is. nb (sym n ∙ ap (λ (z : End). z.node) is));
        changed = same-change w.turns w.nodes last.nodes w.changed j node;
      }

-- ---- the wires of the two ends

module _ (a b : End) (c : Wiring) (w : CableWorld) (f : IsWellFormed w) (k : Cabled w.cabling c a b) where
  abbrev first : List (List Wire)
  first = put a empty_wire w.wires

  wire-a : HasEntry w.wires a
  wire-a = has-wire w a f k.has_a

  wire-b : HasEntry w.wires b
  wire-b = has-wire w b f k.has_b

  rows : length (put a empty_wire w.wires) ≡ length w.wires
  rows = length-set w.wires a.node _

  first-b : HasEntry (put a empty_wire w.wires) b
  first-b = record {
    node = omega (arith, rows, wire-b.node);
    port = omega (arith, put-lengths w.wires a empty_wire b.node, wire-b.port);
  }

  a-emptied : wire_of (recabled c a b w) a ≡ empty_wire
  a-emptied =
      put-other empty_wire first b a empty_wire first-b.node (λ is. k.apart (ap (λ (z : End). z.node) is))
      ∙ put-same empty_wire w.wires a empty_wire wire-a

  b-emptied : wire_of (recabled c a b w) b ≡ empty_wire
  b-emptied = put-same empty_wire first b empty_wire first-b

-- ---- each act

plug-numbers :
    (a b : End) (w : CableWorld) → plug_fault w.cabling a b ≡ None → IsWellFormed w →
    Plugs w (note_changes w (plug a b w)) a b
plug-numbers a b w none f =
    let c : Wiring = with_cable a b w.cabling in
    let may : Pluggable w.cabling a b = pluggable w.cabling a b none in
    let k : Cabled w.cabling c a b = plug-cabled a b w.cabling none in
    let new : IsWellFormed (plug a b w) = plug-formed a b w none f in
    let step-a : PortNode → NodeStep = node_plugged a.port in
    let step-b : PortNode → NodeStep = node_plugged b.port in
    let wires : (e z : End) → far c e ≡ Some z → wire_of (recabled c a b w) e ≡ wire_of w e = λ e z joined. elim (cases_end e a) [
      | inl is ↦ ap (wire_of (recabled c a b w)) is ∙ a-emptied a b c w f k ∙ sym (ap (wire_of w) is ∙ f.unplugged a may.free_a)
      | inr na ↦ elim (cases_end e b) [
        | inl is ↦ ap (wire_of (recabled c a b w)) is ∙ b-emptied a b c w f k ∙ sym (ap (wire_of w) is ∙ f.unplugged b may.free_b)
        | inr nb ↦ others-alone c a b w f k.has_a k.has_b e na nb
      ]
    ] in
    record {
      cables = subst (λ (d : Wiring). Added w.cabling d a b) (sym (plug-cables a b w)) (added_by_writes w.cabling a b may.has_a may.has_b may.free_a may.free_b may.apart);
      node_a = begins-a a b step-a step-b c w (resets-plugged a.port) (resets-plugged b.port) k f new wires;
      node_b = begins-b a b step-a step-b c w (resets-plugged a.port) (resets-plugged b.port) k f new wires;
      others = others-stand a b step-a step-b c w (resets-plugged a.port) (resets-plugged b.port) k f new wires;
    }

pull-numbers :
    (a b : End) (w : CableWorld) → far w.cabling a ≡ Some b → IsWellFormed w →
    IsWellFormed (pull_from a (Some b) w) → Pulls w (note_changes w (pull_from a (Some b) w)) a b
pull-numbers a b w at f new =
    let c : Wiring = without_cable a b w.cabling in
    let taken : TakenOut w.cabling c a b = taken_by_writes w.cabling a b f.cabling at in
    let k : Cabled w.cabling c a b = pull-cabled a b w.cabling f.cabling at in
    let step-a : PortNode → NodeStep = node_pulled a.port in
    let step-b : PortNode → NodeStep = node_pulled b.port in
    let wires : (e z : End) → far c e ≡ Some z → wire_of (recabled c a b w) e ≡ wire_of w e = λ e z joined.
    others-alone c a b w f k.has_a k.has_b e
    (λ is. none_some (far c e) z (ap (far c) is ∙ taken.free_a) joined) (λ is. none_some (far c e) z (ap (far c) is ∙ taken.free_b) joined) in
    record {
      cables = subst (λ (d : Wiring). TakenOut w.cabling d a b) (sym (pull-cables a b w)) taken;
      node_a = begins-a a b step-a step-b c w (resets-pulled a.port) (resets-pulled b.port) k f new wires;
      node_b = begins-b a b step-a step-b c w (resets-pulled a.port) (resets-pulled b.port) k f new wires;
      others = others-stand a b step-a step-b c w (resets-pulled a.port) (resets-pulled b.port) k f new wires;
    }

-- a node resets the bus in a world that differs from the first in its nodes alone
module _
    (w told : CableWorld) (node : ℕ) (cables : told.cabling ≡ w.cabling)
    (wires : (e : End) → wire_of told e ≡ wire_of w e) (new : IsWellFormed (reset node told)) where
  abbrev after : CableWorld
  after = reset node told

  reset-cables : (reset node told).cabling ≡ w.cabling
  reset-cables = step-cables node node_disturb told ∙ cables

  begun-wires :
      (e z : End) → e.node ≡ node → far (reset node told).cabling e ≡ Some z →
      wire_of (reset node told) e ≡ add_signals (signal.Reset ∷ []) (wire_of w e)
  begun-wires e z n joined =
      stepped-wire (λ k. Unit {0}) node node_disturb told e resets-disturb n (cable-end after e z new joined)
      ∙ ap (λ o. add_signals (signal.Reset ∷ []) o) (wires e)

  other-node :
      (k : ℕ) → k ≢ node → slice_get (reset node told).nodes k ≡ slice_get told.nodes k
  other-node k ne = (untouched node node_disturb told k ne).node

  other-wires :
      (k : ℕ) → k ≢ node → (e : End) → e.node ≡ k → wire_of (reset node told) e ≡ wire_of w e
  other-wires k ne e n = same-wire told after e (untouched node node_disturb told e.node (λ is. ne (sym n ∙ is))) ∙ wires e

  other-stands :
      (k : ℕ) → k ≢ node → slice_get told.nodes k ≡ slice_get w.nodes k →
      NodeStands w (note_changes w (reset node told)) k
  other-stands k ne same =
      let still : slice_get after.nodes k ≡ slice_get w.nodes k = other-node k ne ∙ same in
      record {
        node = still;
        ports = ap (λ (d : Wiring). ports_of d k) reset-cables;
        wires = other-wires k ne;
        changed = same-change w.turns w.nodes after.nodes w.changed k still;
      }

reset-numbers : (node : ℕ) (w : CableWorld) → IsWellFormed w →
    Resets w (note_changes w (reset node w)) node
reset-numbers node w f =
    let new : IsWellFormed (reset node w) = reset-formed node w f in
    record {
      cables = reset-cables w w node refl (λ e. refl) new;
      resets = record {
        node = λ x at. stepped-node node node_disturb w x at;
        wires = begun-wires w w node refl (λ e. refl) new;
      };
      others = λ k ne. other-stands w w node refl (λ e. refl) new k ne refl;
    }

module _
    (set from : ℕ) (packet : ConfigPacket) (w : CableWorld)
    (comp : IsComponent w.cabling from set) where
  abbrev heard : PortNode → PortNode
  heard = node_set_config packet

  abbrev told : CableWorld
  told = record w { nodes = change_in_set set (node_set_config packet) 0 w.nodes }

  configure-numbers :
      IsWellFormed (reset from told) →
      Configures w (note_changes w (configure set from packet w)) from heard set
  configure-numbers new = record {
    component = comp;
    cables = reset-cables w told from refl (λ e. refl) new;
    resets = record {
      node = λ x at. stepped-node from node_disturb told (heard x) (changed-member set heard w.nodes from x comp.holds at);
      wires = begun-wires w told from refl (λ e. refl) new;
    };
    hear = λ k x inside ne at. (
      other-node w told from refl (λ e. refl) new k ne ∙ changed-member set heard w.nodes k x inside at,
      other-wires w told from refl (λ e. refl) new k ne,
    );
    others = λ k out.
        other-stands w told from refl (λ e. refl) new k (λ is. out (subst (λ j. Holds set j) (sym is) comp.holds)) (unchanged-other set heard w.nodes k out);
  }

pub changes :
    (a : Act) (w v : CableWorld) → Acted a w v → IsWellFormed w → Changes a w v
changes (Plug a b) w v (is, none, e) f = subst (λ (z : CableWorld). Plugs w z a b) (sym e) (plug-numbers a b w none f)
changes (Pull a) w v (is, none, e) f =
    let cable = has-cable w.cabling a none in
    let b : End = cable.0 in
    let now = pulled-from a b w v cable.1 e in (
      b,
      subst (λ (z : CableWorld). Pulls w z a b) (sym now)
          (pull-numbers a b w cable.1 f (subst (λ (o : Option End). IsWellFormed (pull_from a o w)) cable.1 (pull-formed a (far w.cabling a) w refl f))),
    )
changes (Reset node) w v (is, none, e) f = subst (λ (z : CableWorld). Resets w z node) (sym e) (reset-numbers node w f)
changes (Config from root_id force gap) w v (is, none, e) f =
    let packet : ConfigPacket = config_packet root_id force gap in
    let formed : IsWellFormed (record w { nodes = change_in_set e.0 (node_set_config packet) 0 w.nodes }) = told-formed e.0 packet w is.bits f in (
      e.0,
      subst (λ (z : CableWorld). Configures w z from (node_set_config packet) e.0) (sym e.2)
          (configure-numbers e.0 from packet w e.1 (reset-formed from (record w { nodes = change_in_set e.0 (node_set_config packet) 0 w.nodes }) formed)),
    )

pub acts-by-number : ActsByNumber
acts-by-number a w v did l = changes a w v did l.well_formed
