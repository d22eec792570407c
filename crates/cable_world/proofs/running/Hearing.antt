-- A node hears signals one after the other.
use Rattle.std.proofs.Common.{◌≡◌, ℕ, zero, suc, ◌+◌, ◌-◌, ◌<◌, ◌≤◌, false, List, [], ◌∷◌, ◌++◌, length, drop, get_or, drop-cons, add-one, append_assoc, Option, None, inl, inr, refl, sym, ◌∙◌, ap, arith}
use Rattle.std.proofs.lemmas.Bool.{cases_lt}
use Rattle.std.proofs.lemmas.List.{drop_all, get_or_past}
use Rattle.cabling.specs.declared.cable.End.{End}
use Rattle.cabling.specs.Wiring.{Wiring, ports_of}
use Rattle.port_state.specs.declared.signal.Signal.{Signal}
use Rattle.port_state.specs.declared.states.NodeState.{NodeState}
use Rattle.port_state.specs.PortSet.{has_port}
use Rattle.port_state.specs.Sends.{PortSignal}
use Rattle.port_state.specs.Heard.{on_signal}
use Rattle.port_state.specs.Machine.{PortNode, node_on_signal}
use Rattle.cable_world.specs.Wire.{Wire}
use Rattle.cable_world.specs.Turn.{hear_all, wires_after_sends}
use Rattle.cable_world.specs.running.Hearing.{Arriving, AreQuietBut, node_hears, on_one, arriving_from, inbox_of}
use Rattle.cable_world.proofs.running.Sending.{sends-then}

-- ---- one more signal

module _ (port : ℕ) (s : Signal) (rest : List Signal) (n : PortNode) where
  pub hear-more :
      (next : PortNode) → next ≡ (node_on_signal port s n).node →
      (node_hears (on_one port rest) next).node ≡ (node_hears (on_one port (s ∷ rest)) n).node
  hear-more next made = ap (λ m. (node_hears (on_one port rest) m).node) made

  pub hear-more-sent :
      (next : PortNode) (out : List PortSignal) (now then : List Wire) →
      next ≡ (node_on_signal port s n).node → out ≡ (node_on_signal port s n).sends →
      then ≡ wires_after_sends 0 out now →
      wires_after_sends 0 (node_hears (on_one port rest) next).sends then
      ≡ wires_after_sends 0 (node_hears (on_one port (s ∷ rest)) n).sends now
  hear-more-sent next out now then made sent is =
      let first = node_on_signal port s n in
      ap (λ ws. wires_after_sends 0 (node_hears (on_one port rest) next).sends ws) (is ∙ ap (λ o. wires_after_sends 0 o now) sent)
      ∙ ap (λ m. wires_after_sends 0 (node_hears (on_one port rest) m).sends (wires_after_sends 0 first.sends now)) made
      ∙ sym (sends-then 0 first.sends (node_hears (on_one port rest) first.node).sends now)

-- ---- some signals, and then others

pub hears-then :
    (first second : List PortSignal) (x : NodeState) →
    (hear_all (first ++ second) x).state ≡ (hear_all second (hear_all first x).state).state
hears-then [] second x = refl
hears-then (s ∷ first) second x = hears-then first second _

pub hears-then-sends :
    (first second : List PortSignal) (x : NodeState) →
    (hear_all (first ++ second) x).sends ≡ (hear_all first x).sends ++ (hear_all second (hear_all first x).state).sends
hears-then-sends [] second x = refl
hears-then-sends (s ∷ first) second x =
    let y = on_signal s.0 s.1 x in
    ap (λ l. y.sends ++ l) (hears-then-sends first second y.state)
    ∙ sym (append_assoc y.sends (hear_all first y.state).sends (hear_all second (hear_all first y.state).state).sends)

-- ---- one more port

cut-ports : (ports : List (Option End)) (p : ℕ) → p < length ports →
    drop p ports ≡ get_or ports p None ∷ drop (p + 1) ports
cut-ports ports p inside = rw (add-one p) (drop-cons ports p None inside)

-- nothing arrives there
port-none : (table : Arriving) (ports : List (Option End)) (p : ℕ) → p < length ports →
    arriving_from table (get_or ports p None) ≡ [] →
    inbox_of table (p + 1) (drop (p + 1) ports) ≡ inbox_of table p (drop p ports)
port-none table ports p inside none =
    sym (ap (inbox_of table p) (cut-ports ports p inside) ∙ ap (λ ss. on_one p ss ++ inbox_of table (p + 1) (drop (p + 1) ports)) none)

module _ (table : Arriving) (ports : List (Option End)) (p : ℕ) (n : PortNode) (inside : p < length ports) where
  abbrev here : List PortSignal
  here = on_one p (arriving_from table (get_or ports p None))

  pub port-more :
      (next : PortNode) → next ≡ (node_hears here n).node →
      (node_hears (inbox_of table (p + 1) (drop (p + 1) ports)) next).node ≡ (node_hears (inbox_of table p (drop p ports)) n).node
  port-more next made =
      let rest = inbox_of table (p + 1) (drop (p + 1) ports) in
      let with_state : NodeState → PortNode = λ x. record n { state = x } in
      ap (λ m. (node_hears rest m).node) made
      ∙ ap with_state (sym (hears-then here rest n.state))
      ∙ sym (ap (λ es. (node_hears (inbox_of table p es) n).node) (cut-ports ports p inside))

  pub port-more-sent :
      (next : PortNode) (now then : List Wire) → next ≡ (node_hears here n).node →
      then ≡ wires_after_sends 0 (node_hears here n).sends now →
      wires_after_sends 0 (node_hears (inbox_of table (p + 1) (drop (p + 1) ports)) next).sends then
      ≡ wires_after_sends 0 (node_hears (inbox_of table p (drop p ports)) n).sends now
  port-more-sent next now then made is =
      let rest = inbox_of table (p + 1) (drop (p + 1) ports) in
      ap (λ ws. wires_after_sends 0 (node_hears rest next).sends ws) is
      ∙ ap (λ m. wires_after_sends 0 (node_hears rest m).sends (wires_after_sends 0 (node_hears here n).sends now)) made
      ∙ sym (sends-then 0 (hear_all here n.state).sends (hear_all rest (hear_all here n.state).state).sends now)
      ∙ ap (λ l. wires_after_sends 0 l now) (sym (hears-then-sends here rest n.state))
      ∙ sym (ap (λ es. wires_after_sends 0 (node_hears (inbox_of table p es) n).sends now) (cut-ports ports p inside))

-- ---- ports at which nothing arrives

quiet-for :
    (table : Arriving) (ports : List (Option End)) (k p : ℕ) →
    ((j : ℕ) → p ≤ j → j < p + k → j < length ports → arriving_from table (get_or ports j None) ≡ []) →
    inbox_of table (p + k) (drop (p + k) ports) ≡ inbox_of table p (drop p ports)
quiet-for table ports zero p h = let z : p + 0 ≡ p = omega arith in ap (λ q. inbox_of table q (drop q ports)) z
quiet-for table ports (suc k) p h =
    let z : p + suc k ≡ p + 1 + k = omega arith in
    ap (λ q. inbox_of table q (drop q ports)) z
    ∙ quiet-for table ports k (p + 1) (λ j up below inside. h j (omega (arith, up)) (omega (arith, below)) inside)
    ∙ elim (cases_lt p (length ports)) [
      | inl inside ↦ port-none table ports p inside (h p (omega arith) (omega arith) inside)
      | inr past ↦
          ap (inbox_of table (p + 1)) (drop_all (p + 1) ports (omega (arith, past)))
          ∙ sym (ap (inbox_of table p) (drop_all p ports past))
    ]

-- from one port to a later one
pub quiet-to :
    (table : Arriving) (c : Wiring) (node heard p q : ℕ) → length (ports_of c node) ≤ 16 → AreQuietBut heard table c node → p ≤ q →
    ((k : ℕ) → p ≤ k → k < q → k < length (ports_of c node) → has_port heard k ≡ false) →
    inbox_of table q (drop q (ports_of c node)) ≡ inbox_of table p (drop p (ports_of c node))
quiet-to table c node heard p q few quiet up none =
    let ports = ports_of c node in
    let z : p + (q - p) ≡ q = omega (arith, up) in
    ap (λ r. inbox_of table r (drop r ports)) (sym z)
    ∙ quiet-for table ports (q - p) p (λ j le less inside. quiet j (omega (arith, few, inside)) (none j le (omega (arith, less, up)) inside))

-- behind the last
pub quiet-behind :
    (table : Arriving) (c : Wiring) (node heard p : ℕ) → length (ports_of c node) ≤ 16 → AreQuietBut heard table c node →
    ((k : ℕ) → p ≤ k → k < length (ports_of c node) → has_port heard k ≡ false) →
    inbox_of table p (drop p (ports_of c node)) ≡ []
quiet-behind table c node heard p few quiet none =
    let ports = ports_of c node in
    let q = p + length ports in
    sym (quiet-to table c node heard p q few quiet (omega arith) (λ k up less inside. none k up inside))
    ∙ ap (inbox_of table q) (drop_all q ports (omega arith))

-- ---- nothing arrives at a node

none-from : (table : Arriving) (p : ℕ) (ports : List (Option End)) →
    ((k : ℕ) → arriving_from table (get_or ports k None) ≡ []) → inbox_of table p ports ≡ []
none-from table p [] h = refl
none-from table p (far ∷ ports) h =
    ap (λ ss. on_one p ss ++ inbox_of table (p + 1) ports) (h 0) ∙ none-from table (p + 1) ports (λ k. h (suc k))

pub none-heard :
    (table : Arriving) (c : Wiring) (node heard : ℕ) → length (ports_of c node) ≤ 16 → AreQuietBut heard table c node →
    ((k : ℕ) → has_port heard k ≡ false) → inbox_of table 0 (ports_of c node) ≡ []
none-heard table c node heard few quiet none =
    none-from table 0 (ports_of c node) (λ k. elim (cases_lt k 16) [
      | inl below ↦ quiet k below (none k)
      | inr past ↦ ap (arriving_from table) (get_or_past (ports_of c node) k None (omega (arith, few, past)))
    ])
