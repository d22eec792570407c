-- A configuration packet makes a component fresh that has no node in a reset. With R set the node
-- with the ID that it names waits alone to become root.
use Rattle.std.proofs.Common.{◌≡◌, ◌≢◌, inl, inr, ℕ, zero, suc, ◌+◌, Bool, true, false, ◌==◌, List, [], ◌∷◌, Option, Some, slice_get, slice_set, if◌then◌else◌, refl, sym, ◌∙◌, ap, subst, arith, eq-eqb}
use Rattle.std.specs.Int.{bit_at}
use Rattle.std.proofs.lemmas.Bool.{cases_eq}
use Rattle.std.proofs.lemmas.Option.{slice_get_within}
use Rattle.outcomes.proofs.Common.{contrary, Phase, NodeState, config_packet, enter, is_resetting, is_port, PortNode, node_disturb, node_set_config, Holds, IsComponent, Config, CableWorld, change_in_set, ActLeads, is_in_bus_reset, IsFresh, some-of, some-at, some-same, waits_due, gap_due, WaitsAlone, IsNamedAlone, is-port, port-is-not}
use Rattle.outcomes.specs.Forced.{NamesRoot, SendsPacket}
use Rattle.port_state.specs.declared.signal.Phase.TheVariants as phase
use Rattle.port_state.specs.Config.{gap_or}
use Rattle.cable_world.specs.Act.{step_at, configure}
use Rattle.cable_world.proofs.Lemmas.{replaced, not-replaced}

-- a member of a set after a change of the set
in-set-at :
    (set : ℕ) (change : PortNode → PortNode) (k : ℕ) (nodes : List PortNode) (j : ℕ) (x : PortNode)
    → slice_get nodes j ≡ Some x → Holds set (k + j) → slice_get (change_in_set set change k nodes)
    j ≡ Some (change x)
in-set-at set change k [] j x at h = absurd cc
in-set-at set change k (y ∷ nodes) zero x at h =
    let z : k + 0 ≡ k = omega arith in
    let same : y ≡ x = some-same y x at in
    let here : (bit_at set k == 1) ≡ true = eq-eqb (bit_at set k) 1 (subst (λ i. Holds set i) z h) in
    ap (λ (b : Bool). Some (if b then change y else y)) here ∙ ap (λ u. Some (change u)) same
in-set-at set change k (y ∷ nodes) (suc j) x at h =
    let z : k + suc j ≡ k + 1 + j = omega arith in
    in-set-at set change (k + 1) nodes j x at (subst (λ i. Holds set i) z h)

-- a node outside resets that heard the packet, and perhaps began a reset
record Told (root_id : ℕ) (force : Bool) (gap : Option ℕ) (x y : NodeState) : Type 0 where
  waits : force ≡ true → waits_due y.view ≡ is_port x.view.id root_id
  gap_too : gap_due y.view ≡ gap_or gap x.view.next_gap
  timer : y.view.phase ≡ phase.ResetStart → y.view.timer ≡ 0
  calm : y.view.phase ≢ phase.ResetWait

told :
    (root_id : ℕ) (force : Bool) (gap : Option ℕ) (x : PortNode) → is_in_bus_reset x.state.view.phase ≡ false →
    Told root_id force gap x.state (node_set_config (config_packet root_id force gap) x).state
told root_id force gap x h = go x.state.view.phase refl h
  where
    out : is_resetting x.state.view.phase ≡ false
    out = calm x.state.view.phase h
      where
        calm : (p : Phase) → is_in_bus_reset p ≡ false → is_resetting p ≡ false
        calm p h = grind arith

    go :
        (p : Phase) → x.state.view.phase ≡ p → is_in_bus_reset p ≡ false →
        Told root_id force gap x.state (node_set_config (config_packet root_id force gap) x).state
    go p e h = record {
      waits = λ r. ap (λ b. if b then x.state.view.force else (if force then is_port x.state.view.id root_id else x.state.view.next_force)) out ∙ ap (λ b. if b then is_port x.state.view.id root_id else x.state.view.next_force) r;
      gap_too = ap (λ b. if b then x.state.view.gap else gap_or gap x.state.view.next_gap) out;
      timer = λ s. contrary (ap is_resetting s) out;
      calm = λ s. contrary (ap is_in_bus_reset s) (ap is_in_bus_reset e ∙ h);
    }

begun :
    (root_id : ℕ) (force : Bool) (gap : Option ℕ) (x : PortNode) →
    Told root_id force gap x.state (node_disturb (node_set_config (config_packet root_id force gap) x)).node.state
unfolding enter
begun root_id force gap x = record { waits = λ e. ap (λ b. if b then is_port x.state.view.id root_id else x.state.view.next_force) e; gap_too = refl; timer = λ s. refl; calm = λ s. absurd cc }

start-phase :
    (root_id : ℕ) (force : Bool) (gap : Option ℕ) (x : PortNode) →
    (node_disturb (node_set_config (config_packet root_id force gap) x)).node.state.view.phase
    ≡ phase.ResetStart
unfolding enter
start-phase root_id force gap x = refl

-- node number k after the act
record After
    (v : CableWorld) (root_id : ℕ) (force : Bool) (gap : Option ℕ) (from k : ℕ) (x : PortNode)
    : Type 0 where
  node : PortNode
  at : slice_get v.nodes k ≡ Some node
  told : Told root_id force gap x.state node.state
  begins : k ≡ from → node.state.view.phase ≡ phase.ResetStart

module _ (w : CableWorld) (from root_id : ℕ) (force : Bool) (gap : Option ℕ) (own : ℕ) where
  abbrev heard : List PortNode
  heard = change_in_set own (node_set_config (config_packet root_id force gap)) 0 w.nodes

  abbrev v : CableWorld
  v = configure own from (config_packet root_id force gap) w

  module _ (y : PortNode) (at : slice_get w.nodes from ≡ Some y) (h : Holds own from) where
    first :
        slice_get (change_in_set own (node_set_config (config_packet root_id force gap)) 0 w.nodes)
        from ≡ Some (node_set_config (config_packet root_id force gap) y)
    first = let z : 0 + from ≡ from = omega arith in in-set-at own (node_set_config (config_packet root_id force gap)) 0 w.nodes from y at (subst (λ i. Holds own i) (sym z) h)

    nodes-are :
        (configure own from (config_packet root_id force gap) w).nodes
        ≡ slice_set heard from (node_disturb (node_set_config (config_packet root_id force gap) y)).node
    nodes-are = ap (λ (o : Option PortNode). (step_at o from node_disturb (record w { nodes = heard })).nodes) first

    after :
        (k : ℕ) (x : PortNode) → Holds own k → slice_get w.nodes k ≡ Some x →
        is_in_bus_reset x.state.view.phase ≡ false →
        After (configure own from (config_packet root_id force gap) w) root_id force gap from k x
    after k x inside at_x out = elim (cases_eq k from) [
      | inl same ↦
          let is : y ≡ x = some-same y x (sym at ∙ sym (ap (λ j. slice_get w.nodes j) same) ∙ at_x) in
          record {
            node = (node_disturb (node_set_config (config_packet root_id force gap) y)).node;
            at = ap (λ (ns : List PortNode). slice_get ns k) nodes-are ∙ ap (λ j. slice_get (slice_set heard from (node_disturb (node_set_config (config_packet root_id force gap) y)).node) j) same ∙ replaced heard from (node_disturb (node_set_config (config_packet root_id force gap) y)).node (slice_get_within heard from (node_set_config (config_packet root_id force gap) y) first);
            told = subst (λ (u : PortNode). Told root_id force gap u.state (node_disturb (node_set_config (config_packet root_id force gap) y)).node.state) is (begun root_id force gap y);
            begins = λ e. start-phase root_id force gap y;
          }
      | inr other ↦
          let z : 0 + k ≡ k = omega arith in
          record {
            node = node_set_config (config_packet root_id force gap) x;
            at = ap (λ (ns : List PortNode). slice_get ns k) nodes-are ∙ not-replaced heard from k (node_disturb (node_set_config (config_packet root_id force gap) y)).node other ∙ in-set-at own (node_set_config (config_packet root_id force gap)) 0 w.nodes k x at_x (subst (λ i. Holds own i) (sym z) inside);
            told = told root_id force gap x out;
            begins = λ e. absurd (other e);
          }
    ]

-- a packet that is sent in a component of which no node is in a reset
module _
    (w v : CableWorld) (from root_id : ℕ) (force : Bool) (gap : Option ℕ) (set : ℕ)
    (sent : SendsPacket w v from root_id force gap set) where
  in-own : (k : ℕ) → Holds set k → Holds sent.act.0 k
  in-own = sent.component.least sent.act.0 sent.act.1.holds sent.act.1.closed

  after-at :
      (k : ℕ) (x : PortNode) → Holds set k → slice_get w.nodes k ≡ Some x →
      After v root_id force gap from k x
  after-at k x h at =
      let f = some-of (slice_get w.nodes from) _ (sent.calm from sent.component.holds) in
      let s = some-of (slice_get w.nodes k) _ (sent.calm k h) in
      let out : is_in_bus_reset x.state.view.phase ≡ false = ap (λ (u : PortNode). is_in_bus_reset u.state.view.phase) (some-same x s.0 (sym at ∙ s.1)) ∙ s.2 in
      let a = after w from root_id force gap sent.act.0 f.0 f.1 sent.act.1.holds k x (in-own k h) at out in
      record { node = a.node; at = ap (λ (u : CableWorld). slice_get u.nodes k) sent.act.2 ∙ a.at; told = a.told; begins = a.begins }

  node-at : (k : ℕ) → Holds set k → (x : PortNode) × (slice_get w.nodes k ≡ Some x)
  node-at k h = let s = some-of (slice_get w.nodes k) _ (sent.calm k h) in (s.0, s.1)

  pub sent-fresh : IsFresh v set
  sent-fresh = record {
    node = from;
    holds = sent.component.holds;
    resets = (let x = node-at from sent.component.holds in let a = after-at from x.0 sent.component.holds x.1 in some-at (slice_get v.nodes from) a.node (λ (y : PortNode). y.state.view.phase ≡ phase.ResetStart) a.at (a.begins refl));
    begins = λ k h. let x = node-at k h in let a = after-at k x.0 h x.1 in some-at (slice_get v.nodes k) a.node (λ (y : PortNode). y.state.view.phase ≡ phase.ResetStart → y.state.view.timer ≡ 0) a.at a.told.timer;
    waits = λ k h. let x = node-at k h in let a = after-at k x.0 h x.1 in some-at (slice_get v.nodes k) a.node (λ (y : PortNode). y.state.view.phase ≢ phase.ResetWait) a.at a.told.calm;
  }

  pub sent-gaps :
      (k : ℕ) (x y : PortNode) → Holds set k → slice_get w.nodes k ≡ Some x →
      slice_get v.nodes k ≡ Some y → gap_due y.state.view ≡ gap_or gap x.state.view.next_gap
  sent-gaps k x y h at_x at_y =
      let a = after-at k x h at_x in
      ap (λ (u : PortNode). gap_due u.state.view) (some-same y a.node (sym at_y ∙ a.at)) ∙ a.told.gap_too

  -- with R set, where it names one node alone
  pub sent-alone :
      (root : ℕ) → force ≡ true → IsNamedAlone w set root root_id → WaitsAlone v set root
  sent-alone root r n = record {
    holds = n.holds;
    waits = (let s = some-of (slice_get w.nodes root) _ n.named in let a = after-at root s.0 n.holds s.1 in some-at (slice_get v.nodes root) a.node (λ (y : PortNode). waits_due y.state.view ≡ true) a.at (a.told.waits r ∙ is-port s.0.state.view.id root_id s.2));
    others = λ k h other. let s = some-of (slice_get w.nodes k) _ (n.others k h other) in let a = after-at k s.0 h s.1 in some-at (slice_get v.nodes k) a.node (λ (y : PortNode). waits_due y.state.view ≡ false) a.at (a.told.waits r ∙ port-is-not s.0.state.view.id root_id s.2);
  }

pub names-sends :
    (w v : CableWorld) (from root_id : ℕ) (gap : Option ℕ) (set root : ℕ) →
    NamesRoot w v from root_id gap set root → SendsPacket w v from root_id true gap set
names-sends w v from root_id gap set root n =
    record { act = n.act; component = n.component; calm = n.named.calm }
