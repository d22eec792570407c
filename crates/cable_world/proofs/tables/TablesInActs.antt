-- What happens between two turns keeps a world well formed.
use Rattle.std.proofs.Common.{◌≡◌, ◌≢◌, ℕ, zero, suc, ◌+◌, ◌-◌, ◌==◌, inl, inr, Bool, true, false, not, List, [], ◌∷◌, Option, Some, None, length, length-set, is_some, slice_get, slice_index_or, if◌then◌else◌, refl, subst, sym, ◌∙◌, ap, arith}
use Rattle.std.specs.Int.{bit_at}
use Rattle.std.proofs.lemmas.Option.{slice_get_cases}
use Rattle.cabling.specs.declared.cable.End.{End}
use Rattle.cabling.specs.declared.cable.CableFault.{CableFault}
use Rattle.cabling.specs.Wiring.{Wiring, IsCabling, HasEnd, far}
use Rattle.cabling.specs.Change.{SameBut, Added, TakenOut, has_node, has_port, plug_fault, pull_fault}
use Rattle.cabling.proofs.Lemmas.{cases_end, far-other, same_length, still_end, added_by_writes, taken_by_writes, cabling_added, cabling_taken, plugged as has-end, Pluggable, pluggable, other_there}
use Rattle.port_state.specs.Config.{ConfigPacket, HasSixBits, config_packet}
use Rattle.port_state.specs.Machine.{PortNode, NodeStep, node_disturb, node_plugged, node_pulled, node_set_config}
use Rattle.port_state.proofs.Lemmas.{sound-disturb, sound-plugged, sound-pulled, valid-set_config, enter-cables, plugged-cables, pulled-cables}
use Rattle.cable_world.proofs.tables.CountsInActs.{in-set, act-keeps}
use Rattle.cable_world.proofs.Options.{some-same, none-some}
use Rattle.cable_world.proofs.tables.TablesInSteps.{HasEntry, FormedFor, Sets, cabled, formed-for, well-formed, fits-alike, put-lengths, put-same, put-other, step-cables, step-formed, setting-formed}
use Rattle.cable_world.specs.declared.act.Act.{Act}
use Rattle.cable_world.specs.declared.act.Act.TheVariants.{Plug, Pull, Reset, Config}
use Rattle.cable_world.specs.Wire.{Wire, empty_wire}
use Rattle.cable_world.specs.World.{CableWorld, wire_of, put}
use Rattle.cable_world.proofs.tables.TablesInTurns.{length-changes}
use Rattle.cable_world.specs.Act.{with_step, plug, pull_from, pull, reset, change_in_set, configure, note_changes, Acted, hold, hold_fault}
use Rattle.cable_world.specs.Lawful.{AgesFall, FitsCables, IsWellFormed}

-- ---- wires

-- each end has a wire
pub has-wire : (w : CableWorld) (a : End) → IsWellFormed w → HasEnd w.cabling a → HasEntry w.wires a
has-wire w a h has = elim (slice_get_cases w.nodes a.node).1 [
  | inl at ↦
      let fits = h.nodes a.node at.0 at.2 in
      record { node = omega (arith, has.node, h.wire_rows); port = omega (arith, has.port, fits.ports, fits.wires) }
  | inr past ↦ absurd (omega (arith, past.0, has.node, h.count))
]

-- the wires of a cable are emptied, and its ends have other cables or none
abbrev pub recabled : Wiring → End → End → CableWorld → CableWorld
recabled c a b w = record w { cabling = c; wires = put b empty_wire (put a empty_wire w.wires) }

pub data Emptied (w v : CableWorld) (a b e : End) : Type 0 where
  none_left : wire_of v e ≡ empty_wire → Emptied w v a b e
  left_alone : e ≢ a → e ≢ b → wire_of v e ≡ wire_of w e → Emptied w v a b e

-- the wires of all other ends are as before
pub others-alone :
    (c : Wiring) (a b : End) (w : CableWorld) → IsWellFormed w → HasEnd w.cabling a →
    HasEnd w.cabling b → (e : End) → e ≢ a → e ≢ b → wire_of (recabled c a b w) e ≡ wire_of w e
others-alone c a b w h ha hb e na nb =
    let first = put a empty_wire w.wires in
    let wa : HasEntry w.wires a = has-wire w a h ha in
    let wb : HasEntry w.wires b = has-wire w b h hb in
    let rows : length first ≡ length w.wires = length-set w.wires a.node _ in
    put-other empty_wire first b e empty_wire (omega (arith, rows, wb.node)) nb ∙ put-other empty_wire w.wires a e empty_wire wa.node na

emptied :
    (c : Wiring) (a b : End) (w : CableWorld) → IsWellFormed w → HasEnd w.cabling a →
    HasEnd w.cabling b → (e : End) → Emptied w (recabled c a b w) a b e
emptied c a b w h ha hb e =
    let first = put a empty_wire w.wires in
    let v = recabled c a b w in
    let wa : HasEntry w.wires a = has-wire w a h ha in
    let wb : HasEntry w.wires b = has-wire w b h hb in
    let rows : length first ≡ length w.wires = length-set w.wires a.node _ in
    let wf : HasEntry first b = record { node = omega (arith, rows, wb.node); port = omega (arith, put-lengths w.wires a empty_wire b.node, wb.port) } in
    elim (cases_end e b) [
      | inl is ↦ none_left (ap (wire_of v) is ∙ put-same empty_wire first b empty_wire wf)
      | inr nb ↦ elim (cases_end e a) [
        | inl is ↦ none_left (put-other empty_wire first b e empty_wire wf.node nb ∙ ap (λ (z : End). slice_index_or (slice_index_or first z.node []) z.port empty_wire) is ∙ put-same empty_wire w.wires a empty_wire wa)
        | inr na ↦ left_alone na nb (others-alone c a b w h ha hb e na nb)
      ]
    ]

-- ---- plugging and pulling

recabled-formed :
    (c : Wiring) (a b : End) (w : CableWorld) → IsWellFormed w → HasEnd w.cabling a →
    HasEnd w.cabling b → IsCabling c → SameBut w.cabling c a b →
    FormedFor w.cabling (recabled c a b w)
recabled-formed c a b w h ha hb is same =
    let v = recabled c a b w in
    let first = put a empty_wire w.wires in
    let size : length c ≡ length w.cabling = same_length w.cabling c same.ports in
    record {
      some_delay = h.some_delay;
      cabling = is;
      count = h.count ∙ sym size;
      wire_rows = length-set first b.node _ ∙ length-set w.wires a.node _ ∙ h.wire_rows ∙ sym size;
      changes = h.changes ∙ sym size;
      nodes = λ k x e. fits-alike w (cabled w.cabling v) k x.state refl refl refl (put-lengths first b empty_wire k ∙ put-lengths w.wires a empty_wire k) (λ p. refl) (h.nodes k x e);
      ages = λ e. elim (emptied c a b w h ha hb e) [
        | none_left z ↦ subst (λ (u : Wire). AgesFall (w.delay - 1) u.signals) (sym z) tt
        | left_alone na nb z ↦ subst (λ (u : Wire). AgesFall (w.delay - 1) u.signals) (sym z) (h.ages e)
      ];
      unplugged = λ e none. elim (emptied c a b w h ha hb e) [
        | none_left z ↦ z
        | left_alone na nb z ↦ z ∙ h.unplugged e (sym (same.others e na nb) ∙ none)
      ];
    }

-- both ends are written, and then both nodes do their steps
both-formed :
    (a b : End) (v u : Option End) (f g : PortNode → NodeStep) (w : CableWorld) → IsWellFormed w →
    HasEnd w.cabling a → HasEnd w.cabling b → a.node ≢ b.node →
    IsCabling (put b u (put a v w.cabling)) → SameBut w.cabling (put b u (put a v w.cabling)) a b →
    Sets a.port (is_some v) f → Sets b.port (is_some u) g →
    IsWellFormed (with_step b.node g (with_step a.node f (recabled (put b u (put a v w.cabling)) a b w)))
both-formed a b v u f g w h ha hb apart is same sets-a sets-b =
    let half : Wiring = put a v w.cabling in
    let c : Wiring = put b u half in
    let start = recabled c a b w in
    let next = with_step a.node f start in
    let last = with_step b.node g next in
    let hf : HasEnd half b = still_end w.cabling a b v hb in
    let one : FormedFor half next =
    setting-formed w.cabling a v f start (recabled-formed c a b w h ha hb is same) ha sets-a
    (λ p none. sym (far-other half b (record { node = a.node; port = p }) u hf.node (λ e. apart (ap (λ (z : End). z.node) e))) ∙ none) in
    let cables : next.cabling ≡ c = step-cables a.node f start in
    let two : FormedFor c last = setting-formed half b u g next one hf sets-b (λ p none. sym (ap (λ (d : Wiring). far d (record { node = b.node; port = p })) cables) ∙ none) in
    well-formed c last (step-cables b.node g next ∙ cables) two

sets-plugged : (port : ℕ) → Sets port true (node_plugged port)
sets-plugged port = record {
  sound = λ x b. sound-plugged port x.state b;
  connected = λ x p h. plugged-cables port p x.state h;
}

sets-pulled : (port : ℕ) → Sets port false (node_pulled port)
sets-pulled port = record {
  sound = λ x b. sound-pulled port x.state b;
  connected = λ x p h. pulled-cables port p x.state h;
}

pub plug-formed :
    (a b : End) (w : CableWorld) → plug_fault w.cabling a b ≡ None → IsWellFormed w →
    IsWellFormed (plug a b w)
plug-formed a b w none h =
    let may : Pluggable w.cabling a b = pluggable w.cabling a b none in
    let c : Wiring = put b (Some a) (put a (Some b) w.cabling) in
    let added : Added w.cabling c a b = added_by_writes w.cabling a b may.has_a may.has_b may.free_a may.free_b may.apart in
    both-formed a b (Some b) (Some a) (node_plugged a.port) (node_plugged b.port) w h may.has_a may.has_b may.apart (cabling_added w.cabling c a b h.cabling may.apart added) added.others (sets-plugged a.port) (sets-plugged b.port)

pub pull-formed :
    (a : End) (o : Option End) (w : CableWorld) → far w.cabling a ≡ o → IsWellFormed w →
    IsWellFormed (pull_from a o w)
pull-formed a None w at h = h
pull-formed a (Some b) w at h =
    let c : Wiring = put b None (put a None w.cabling) in
    let taken : TakenOut w.cabling c a b = taken_by_writes w.cabling a b h.cabling at in
    both-formed a b None None (node_pulled a.port) (node_pulled b.port) w h (has-end w.cabling a b at) (other_there w.cabling a b h.cabling at) (h.cabling.two_nodes a b at) (cabling_taken w.cabling c a b h.cabling taken) taken.others (sets-pulled a.port) (sets-pulled b.port)

-- ---- resets, and configuration packets

pub reset-formed : (node : ℕ) (w : CableWorld) → IsWellFormed w → IsWellFormed (reset node w)
reset-formed node w h =
    well-formed w.cabling (reset node w) (step-cables node node_disturb w)
    (step-formed w.cabling w.cabling node node_disturb w (formed-for w h) (λ j. refl) (λ e ne. refl) (λ x at.
    let fits = h.nodes node x at in
    record {
      sound = sound-disturb x.state fits.valid.bounded;
      connected = λ p. enter-cables true x.state p ∙ fits.connected p;
      within = λ p none. none;
    }))

-- a node after a change of some nodes: as it was, or changed
pub data Was (change : PortNode → PortNode) (nodes : List PortNode) (j : ℕ) (y : PortNode) : Type 0 where
  as_before : slice_get nodes j ≡ Some y → Was change nodes j y
  altered : (x : PortNode) → slice_get nodes j ≡ Some x → change x ≡ y → Was change nodes j y

pub was :
    (set : ℕ) (change : PortNode → PortNode) (k : ℕ) (nodes : List PortNode) (j : ℕ) (y : PortNode) →
    slice_get (change_in_set set change k nodes) j ≡ Some y → Was change nodes j y
was set change k [] j y e = absurd (none-some None y refl e)
was set change k (x ∷ nodes) zero y e = go (bit_at set k == 1) e
  where
    go : (b : Bool) → Some (if b then change x else x) ≡ Some y → Was change (x ∷ nodes) zero y
    go true is = altered x refl (some-same (change x) y is)
    go false is = as_before is
was set change k (x ∷ nodes) (suc j) y e = elim (was set change (k + 1) nodes j y e) [
  | as_before at ↦ as_before at
  | altered z at is ↦ altered z at is
]

-- some nodes hear a packet
pub told-formed :
    (set : ℕ) (packet : ConfigPacket) (w : CableWorld) → HasSixBits packet → IsWellFormed w →
    IsWellFormed (record w { nodes = change_in_set set (node_set_config packet) 0 w.nodes })
told-formed set packet w bits h =
    let change : PortNode → PortNode = node_set_config packet in
    let v : CableWorld = record w { nodes = change_in_set set change 0 w.nodes } in
    record {
      some_delay = h.some_delay;
      cabling = h.cabling;
      count = in-set set change 0 w.nodes ∙ h.count;
      wire_rows = h.wire_rows;
      changes = h.changes;
      nodes = λ k y e. elim (was set change 0 w.nodes k y e) [
        | as_before at ↦ fits-alike w v k y.state refl refl refl refl (λ p. refl) (h.nodes k y at)
        | altered x at is ↦
            let fits = h.nodes k x at in
            let new : FitsCables v k (change x).state = record {
              valid = valid-set_config packet x.state bits fits.valid;
              timing = fits.timing;
              ports = fits.ports;
              wires = fits.wires;
              connected = fits.connected;
            } in
            subst (λ (z : PortNode). FitsCables v k z.state) is new
      ];
      ages = h.ages;
      unplugged = h.unplugged;
    }

pub configure-formed :
    (set from : ℕ) (packet : ConfigPacket) (w : CableWorld) → HasSixBits packet → IsWellFormed w →
    IsWellFormed (configure set from packet w)
configure-formed set from packet w bits h =
    reset-formed from (record w { nodes = change_in_set set (node_set_config packet) 0 w.nodes }) (told-formed set packet w bits h)

-- ---- every act

noting-formed :
    (w u v : CableWorld) → v ≡ note_changes w u → length v.nodes ≡ length w.nodes → IsWellFormed w →
    IsWellFormed u → IsWellFormed v
noting-formed w u v e many h g =
    let same : length u.nodes ≡ length w.nodes = sym (ap (λ (z : CableWorld). length z.nodes) e) ∙ many in
    let size : length w.cabling ≡ length u.cabling = omega (arith, same, h.count, g.count) in
    let all : IsWellFormed (note_changes w u) = record {
      some_delay = g.some_delay;
      cabling = g.cabling;
      count = g.count;
      wire_rows = g.wire_rows;
      changes = length-changes w.turns w.nodes u.nodes w.changed ∙ h.changes ∙ size;
      nodes = λ k x at. fits-alike u (note_changes w u) k x.state refl refl refl refl (λ p. refl) (g.nodes k x at);
      ages = g.ages;
      unplugged = g.unplugged;
    } in
    subst IsWellFormed (sym e) all

pub act-formed :
    (a : Act) (w v : CableWorld) → Acted a w v → IsWellFormed w → IsWellFormed v
act-formed (Plug a b) w v (is, none, e) h = noting-formed w (plug a b w) v e (act-keeps (Plug a b) w v e).nodes h (plug-formed a b w none h)
act-formed (Pull end) w v (is, none, e) h = noting-formed w (pull end w) v e (act-keeps (Pull end) w v e).nodes h (pull-formed end (far w.cabling end) w refl h)
act-formed (Reset node) w v (is, none, e) h = noting-formed w (reset node w) v e (act-keeps (Reset node) w v e).nodes h (reset-formed node w h)
act-formed (Config from root_id force gap) w v (is, none, e) h =
    noting-formed w (configure e.0 from (config_packet root_id force gap) w) v e.2 (act-keeps (Config from root_id force gap) w v e).nodes h (configure-formed e.0 from (config_packet root_id force gap) w is.bits h)

-- ---- hold

-- where a cable can be pulled, there is one
passed :
    (node port : Bool) (o : Option End) (f g k : CableFault) →
    (if not node then Some f else (if not port then Some g else (if is_some o then None else Some k)))
    ≡ None →
    (b : End) × (o ≡ Some b)
passed true true (Some b) f g k e = (b, refl)
passed true true None f g k e = absurd cc
passed true false o f g k e = absurd cc
passed false port o f g k e = absurd cc

pub has-cable : (c : Wiring) (a : End) → pull_fault c a ≡ None → (b : End) × (far c a ≡ Some b)
has-cable c a none = passed (has_node c a) (has_port c a) (far c a) _ _ _ none

pub hold-formed :
    (end : End) (turns : ℕ) (w : CableWorld) → hold_fault end w ≡ None → IsWellFormed w →
    IsWellFormed (hold end turns w)
hold-formed end turns w none h =
    let v = hold end turns w in
    let held : Wire = record (wire_of w end) { held = turns } in
    let cable = has-cable w.cabling end none in
    let there : HasEntry w.wires end = has-wire w end h (has-end w.cabling end cable.0 cable.1) in
    let other : (e : End) → e ≢ end → wire_of v e ≡ wire_of w e = λ e ne. put-other empty_wire w.wires end e held there.node ne in
    record {
      some_delay = h.some_delay;
      cabling = h.cabling;
      count = h.count;
      wire_rows = length-set w.wires end.node _ ∙ h.wire_rows;
      changes = h.changes;
      nodes = λ k x at. fits-alike w v k x.state refl refl refl (put-lengths w.wires end held k) (λ p. refl) (h.nodes k x at);
      ages = λ e. elim (cases_end e end) [
        | inl is ↦ subst (λ (u : Wire). AgesFall (w.delay - 1) u.signals) (sym (ap (wire_of v) is ∙ put-same empty_wire w.wires end held there)) (h.ages end)
        | inr ne ↦ subst (λ (u : Wire). AgesFall (w.delay - 1) u.signals) (sym (other e ne)) (h.ages e)
      ];
      unplugged = λ e free. elim (cases_end e end) [
        | inl is ↦ absurd (none-some (far w.cabling end) cable.0 (sym (ap (far w.cabling) is) ∙ free) cable.1)
        | inr ne ↦ other e ne ∙ h.unplugged e free
      ];
    }
