-- The bus of a made script, and what each of its commands makes of it.
use Rattle.std.proofs.Common.{◌≡◌, ◌≢◌, ◌∙◌, ◌==◌, ℕ, ◌+◌, ◌*◌, ◌<◌, ◌≤◌, Bool, true, false, Option, Some, None, List, [], length, map, get_or, refl, sym, subst, ap, arith}
use Rattle.std.proofs.Math.ListN.{get_or-map, replicate}
use Rattle.std.proofs.Math.Nat.{max-le}
use Rattle.std.proofs.lemmas.Bool.Decides.{nat_tests}
use Rattle.std.proofs.lemmas.List.{length-map, length-replicate, get_or-replicate}
use Rattle.std.proofs.lemmas.Nat.{mul-le}
use Rattle.std.specs.Prelude.{Ok, Err, MatchBool, nat_lt, is_some}
use Rattle.cabling.specs.declared.cable.End as cable
use Rattle.cabling.specs.Wiring.{Wiring, ports_of, far, HasEnd, IsCabling}
use Rattle.cabling.specs.Change.{Added, TakenOut, has_node, has_port, is_plugged, plug_fault, pull_fault}
use Rattle.cabling.proofs.Lemmas.{plugged, Pluggable}
use Rattle.cable_world.specs.declared.act.Act.{Act}
use Rattle.cable_world.specs.declared.act.Act.TheVariants as act
use Rattle.cable_world.specs.World.{CableWorld, NodeNumber}
use Rattle.cable_world.specs.Act.{ActLeads, act_fault}
use Rattle.cable_world.specs.Turn.{turns_after}
use Rattle.cable_world.specs.Run.{quiet_turns}
use Rattle.cable_world.specs.Times.{longest_in_range}
use Rattle.cable_world.proofs.Lemmas.{Keeps, act-keeps}
use Rattle.convergence.specs.Turns.{slack, turns_to_settle}
use Rattle.convergence.proofs.Lemmas.{slack-most}
use Rattle.settle.specs.Report.{quiet_turns_of}
use Rattle.script_made.specs.declared.made.End.{End}
use Rattle.script_lines.specs.declared.kind.Kind.TheVariants.{TooManyTurns}
use Rattle.script_lines.specs.declared.command.Command.TheVariants.{Turn}
use Rattle.script_told.specs.Bus.{Notes, Bus, node_named}
use Rattle.script_told.specs.Step.{LineAnswer, AtNamedNode, Named, Acts, Within, Reports, DoesSettle, Does, end_of}
use Rattle.script_made.specs.Made.{end}
use Rattle.script_made.specs.MadeRead.{made_name, plugs, pulls}
use Rattle.script_told.proofs.Lemmas.{AfterTurns, after-turns, nodes-after-turns, IsCabled, act-cabled, act-adds, act-takes, not-refused}
use Rattle.script_made.proofs.valid.Names.{names_below, is-found}
use Rattle.script_made.proofs.valid.Cables.{at, first, IsFree}
use Rattle.script_made.proofs.valid.Steps.{GoesOn}

-- n nodes with their names and 3 ports each, and no more than so many turns
pub record IsBusOf (n turns : ℕ) (bus : Bus) : Type 0 where
  pub names : bus.notes.names ≡ names_below n
  pub ports : map length bus.world.cabling ≡ replicate n 3
  pub nodes : length bus.world.nodes ≡ n
  pub delay : bus.world.delay ≡ 4
  pub longest : bus.world.longest ≡ longest_in_range 4
  pub cabled : IsCabled bus.world
  pub few : bus.world.turns ≤ turns

-- ---- ends

module _ (n : ℕ) (c : Wiring) (ports : map length c ≡ replicate n 3) where
  count-of : length c ≡ n
  count-of = sym (length-map c length) ∙ (ap length ports ∙ length-replicate n 3)

  three : (node : ℕ) → node < n → length (ports_of c node) ≡ 3
  three node less =
      sym (get_or-map length c node [])
      ∙ (ap (λ (l : List ℕ). get_or l node 0) ports ∙ get_or-replicate n node 3 0 less)

  has-end : (e : cable.End) → e.node < n → e.port ≤ 2 → HasEnd c e
  has-end e node port = record {
    node = omega (arith, node, count-of);
    port = omega (arith, port, three e.node node);
  }

-- nothing speaks against a cable between two free ends of different nodes
no-plug-fault : (c : Wiring) (a b : cable.End) → Pluggable c a b → plug_fault c a b ≡ None
no-plug-fault c a b may =
    let node-a : has_node c a ≡ true = grind (arith, nat_tests, may.has_a.node) in
    let node-b : has_node c b ≡ true = grind (arith, nat_tests, may.has_b.node) in
    let port-a : has_port c a ≡ true = grind (arith, nat_tests, may.has_a.port) in
    let port-b : has_port c b ≡ true = grind (arith, nat_tests, may.has_b.port) in
    let free-a : is_plugged c a ≡ false = ap is_some may.free_a in
    let free-b : is_plugged c b ≡ false = ap is_some may.free_b in
    let apart : (a.node == b.node) ≡ false = grind (arith, nat_tests, may.apart) in
    rw (node-a, node-b, port-a, port-b, free-a, free-b, apart) refl

-- nor against pulling a cable that is there
no-pull-fault : (c : Wiring) (a b : cable.End) → far c a ≡ Some b → pull_fault c a ≡ None
no-pull-fault c a b joined =
    let there : HasEnd c a = plugged c a b joined in
    let node : has_node c a ≡ true = grind (arith, nat_tests, there.node) in
    let port : has_port c a ≡ true = grind (arith, nat_tests, there.port) in
    let full : is_plugged c a ≡ true = ap is_some joined in
    rw (node, port, full) refl

-- a port below 256 is named as it is
same-end : (node port : ℕ) → port ≤ 2 → end_of node port ≡ at (end node port)
same-end node port low =
    let small : nat_lt 255 port ≡ false = grind (arith, nat_tests, low) in
    rw small refl

-- ---- what a command makes of the bus

module _ (n turns : ℕ) (bus : Bus) (P : Bus → Type 0) (few : n ≤ 63) (h : IsBusOf n turns bus) where
  abbrev cables : Wiring
  cables = bus.world.cabling

  -- the node with a name
  named :
      (node : ℕ) (Comes : NodeNumber → LineAnswer → Type 0) (r : LineAnswer) → node < n →
      Named bus (made_name node) Comes r → Comes node r
  named node Comes r less x =
      let found : node_named bus.notes.names (made_name node) ≡ Some node =
      ap (λ (names : List (List ℕ)). node_named names (made_name node)) h.names
      ∙ is-found n node few less in
      subst (λ (o : Option NodeNumber). AtNamedNode o Comes r) found x

  -- an act that isn't refused leaves the names, the ports and the turns
  acts :
      (a : Act) → act_fault a bus.world ≡ None →
      ((v : CableWorld) → ActLeads a bus.world v → map length v.cabling ≡ map length cables) →
      ((after : Bus) → IsBusOf n turns after → ActLeads a bus.world after.world → P after) →
      (r : LineAnswer) → Acts bus a r → GoesOn P r
  acts a none ports f (Ok (after, text)) x =
      let kept : Keeps bus.world after.world = act-keeps a bus.world after.world x.1 in
      f after (record {
        names = ap (λ (notes : Notes). notes.names) x.2 ∙ h.names;
        ports = ports after.world x.1 ∙ h.ports;
        nodes = kept.nodes ∙ h.nodes;
        delay = kept.delay ∙ h.delay;
        longest = kept.longest ∙ h.longest;
        cabled = act-cabled a bus.world after.world none x.1 h.cabled;
        few = omega (arith, kept.turns, h.few);
      }) x.1
  acts a none ports f (Err kind) x = absurd (not-refused (act_fault a bus.world) kind none x)

  pub plug-goes :
      (e : End) (k : ℕ) → e.node < n → e.port ≤ 2 → k < n → e.node ≢ k → IsFree cables e →
      IsFree cables (end k 0) →
      ((after : Bus) → IsBusOf n turns after →
      Added cables after.world.cabling (at e) (first k) → P after) →
      (r : LineAnswer) → Does bus (plugs e k) r → GoesOn P r
  plug-goes e k node port less apart free-e free-k f r x =
      let a : cable.End = at e in
      let b : cable.End = first k in
      let none : act_fault (act.Plug a b) bus.world ≡ None =
      no-plug-fault cables a b (record {
        has_a = has-end n cables h.ports a node port;
        has_b = has-end n cables h.ports b less (omega arith);
        free_a = free-e;
        free_b = free-k;
        apart = apart;
      }) in
      let from : Named bus (made_name k)
      (λ j. Acts bus (act.Plug (end_of e.node e.port) (end_of j 0))) r =
      named e.node (λ i. Named bus (made_name k)
      (λ j. Acts bus (act.Plug (end_of i e.port) (end_of j 0)))) r node x in
      let both : Acts bus (act.Plug (end_of e.node e.port) b) r =
      named k (λ j. Acts bus (act.Plug (end_of e.node e.port) (end_of j 0))) r less from in
      let acted : Acts bus (act.Plug a b) r =
      subst (λ (end : cable.End). Acts bus (act.Plug end b) r) (same-end e.node e.port port) both in
      acts (act.Plug a b) none
      (λ v leads. (act-adds a b bus.world v none leads).others.ports)
      (λ after there leads. f after there (act-adds a b bus.world after.world none leads))
      r acted

  pub pull-goes :
      (k : ℕ) (b : cable.End) → k < n → far cables (first k) ≡ Some b →
      ((after : Bus) → IsBusOf n turns after →
      TakenOut cables after.world.cabling (first k) b → P after) →
      (r : LineAnswer) → Does bus (pulls k) r → GoesOn P r
  pull-goes k b less joined f r x =
      let a : cable.End = first k in
      let acted : Acts bus (act.Pull a) r =
      named k (λ node. Acts bus (act.Pull (end_of node 0))) r less x in
      acts (act.Pull a) (no-pull-fault cables a b joined)
      (λ v leads. (act-takes a b bus.world v joined h.cabled leads).others.ports)
      (λ after there leads. f after there (act-takes a b bus.world after.world joined h.cabled leads))
      r acted

  -- so many turns are no more than a script may have
  within :
      (count : ℕ) (Comes : LineAnswer → Type 0) (r : LineAnswer) →
      bus.world.turns + count ≤ 2000000 → Within bus count Comes r → Comes r
  within count Comes r room x =
      let over : nat_lt 2000000 (bus.world.turns + count) ≡ false = grind (arith, nat_tests, room) in
      subst (λ (b : Bool). MatchBool b (r ≡ Err TooManyTurns) (Comes r)) over x

  -- turns leave the names and the cables
  turned :
      (count most : ℕ) (after : Bus) → bus.world.turns + count ≤ most →
      after.world ≡ turns_after count bus.world → after.notes.names ≡ bus.notes.names →
      IsBusOf n most after × (after.world.cabling ≡ cables)
  turned count most after room is names =
      let same : AfterTurns count bus.world after.world =
      subst (AfterTurns count bus.world) (sym is) (after-turns count bus.world) in (
        record {
          names = names ∙ h.names;
          ports = ap (map length) same.cabling ∙ h.ports;
          nodes =
              ap (λ (w : CableWorld). length w.nodes) is
              ∙ nodes-after-turns count bus.world (h.nodes ∙ sym (count-of n cables h.ports)) ∙ h.nodes;
          delay = same.delay ∙ h.delay;
          longest = same.longest ∙ h.longest;
          cabled = subst IsCabling (sym same.cabling) h.cabled;
          few = omega (arith, same.turns, room);
        },
        same.cabling,
      )

  pub turn-goes :
      (count most : ℕ) → turns + count ≤ most → most ≤ 2000000 →
      ((after : Bus) → IsBusOf n most after → after.world.cabling ≡ cables → P after) →
      (r : LineAnswer) → Does bus (Turn count) r → GoesOn P r
  turn-goes count most room limit f r x =
      let after : Bus = record bus { world = turns_after count bus.world } in
      let is : r ≡ Ok (after, []) =
      within count (λ r. r ≡ Ok (after, [])) r (omega (arith, room, limit, h.few)) x in
      let there = turned count most after (omega (arith, room, h.few)) refl refl in
      subst (GoesOn P) (sym is) (f after there.0 there.1)

  -- a bus of 63 nodes settles within so many turns
  quiet-few : quiet_turns_of bus.world ≤ 73520
  quiet-few =
      let size : length cables ≡ n = count-of n cables h.ports in
      let same : quiet_turns (length cables) bus.world.delay ≡ quiet_turns n 4 =
      ap (λ (m : ℕ). quiet_turns m bus.world.delay) size ∙ ap (quiet_turns n) h.delay in
      let square : 4 * n * n ≤ 252 * 63 = mul-le (4 * n) n 252 63 (omega (arith, few)) few in
      let late : slack bus.world ≤ 1 = slack-most bus.world in
      let spare : n * slack bus.world ≤ 63 * 1 = mul-le n (slack bus.world) 63 1 few late in
      let settled : turns_to_settle bus.world ≤ 73520 = rw (h.nodes, h.delay, h.longest) (omega (arith, few, late, spare)) in
      max-le (omega (arith, same, square, few)) settled

  pub settle-goes :
      (most : ℕ) → turns + 73520 ≤ most → most ≤ 2000000 →
      ((after : Bus) → IsBusOf n most after → after.world.cabling ≡ cables → P after) →
      (r : LineAnswer) → DoesSettle bus r → GoesOn P r
  settle-goes most room limit f r x =
      go r (within (quiet_turns_of bus.world) (Reports bus) r (omega (arith, room, limit, h.few, quiet-few)) x)
    where
      go : (r : LineAnswer) → Reports bus r → GoesOn P r
      go (Ok (after, text)) x =
          let there = turned (quiet_turns_of bus.world) most after
          (omega (arith, room, h.few, quiet-few)) x.1 (ap (λ (notes : Notes). notes.names) x.3) in
          f after there.0 there.1
      go (Err kind) x = absurd x
