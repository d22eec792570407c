-- What a trace tells of a node is lines of events.
use Rattle.std.proofs.Common.{◌≡◌, ℕ, suc, ◌+◌, ◌-◌, ◌<◌, ◌≤◌, ◌==◌, ◌&&◌, not, Bool, true, false, cond, List, [], ◌∷◌, ◌++◌, length, drop, append_assoc, Option, Some, None, refl, ap, ◌∙◌, arith}
use Rattle.std.specs.Prelude.{codes, is_some, is_none, unwrap_or, nat_le, nat_lt, slice_get, slice_index_or}
use Rattle.std.specs.Int.{bit_at}
use Rattle.std.proofs.lemmas.Bool.Decides.{nat_tests}
use Rattle.topology_stack.specs.Name.{IsName}
use Rattle.port_state.specs.declared.signal.Phase.{Phase}
use Rattle.port_state.specs.declared.signal.Phase.TheVariants as phase
use Rattle.port_state.specs.declared.signal.Signal.{Signal}
use Rattle.port_state.specs.declared.signal.Signal.TheVariants as signal
use Rattle.port_state.specs.declared.ports.PortView.{PortView}
use Rattle.port_state.specs.declared.view.View.{View}
use Rattle.port_state.specs.Ports.{port_is}
use Rattle.port_state.specs.Machine.{PortNode}
use Rattle.cable_world.specs.declared.wire.Travelling.{Travelling}
use Rattle.cable_world.specs.World.{CableWorld, NodeNumber, wire_of}
use Rattle.script_text.specs.ReportText.{Names, name_of, spaced, numbered}
use Rattle.script_trace.specs.Event.{Seen, head, line_of, state_words, enters, state_line, timeout_line, parent_line, child_line, child_lines, coin_digit, coin_line, id_line, miss_line, signal_words, sent_line, sent_lines, all_sent_lines, lines_at, node_lines}
use Rattle.script_trace.specs.Step.{all_lines, lines_since}
use Rattle.trace_event.specs.declared.event.Part.{Part}
use Rattle.trace_event.specs.declared.event.What.{What}
use Rattle.trace_event.specs.declared.event.What.TheVariants.{Enters, Timeout, ToParent, ToChild, Coin, PhyId, Sends, Misses}
use Rattle.trace_event.specs.Event as event
use Rattle.trace_event.specs.Event.{name_word, what_words, HasNames, HasNumbers, IsShort}
use Rattle.trace_event.specs.Stands.{IsNameIn}
use Rattle.trace_laws.proofs.Lines.{AreLines, none, one-line, both-lines}
use Rattle.trace_laws.proofs.EventLines.{of-node}

-- ---- the same words

same-state : (p : Phase) → event.state_words p ≡ state_words p
same-state phase.ResetStart = refl
same-state phase.ResetWait = refl
same-state phase.TreeStart = refl
same-state phase.ChildShake = refl
same-state phase.ParentShake = refl
same-state phase.Contend = refl
same-state phase.SelfIdent = refl
same-state phase.Ready = refl

same-signal : (s : Signal) → event.signal_words s ≡ signal_words s
same-signal signal.Reset = refl
same-signal signal.Idle = refl
same-signal signal.Parent = refl
same-signal signal.Child = refl
same-signal signal.Grant = refl
same-signal (signal.Packet quad) = refl
same-signal signal.Done = refl

-- the coin that is shown
abbrev shown_coin : View → Option ℕ
shown_coin v = cond (nat_le v.draws 32) (Some (bit_at v.first_draws (v.draws - 1))) None

same-coin : (v : View) → event.coin_digit (shown_coin v) ≡ coin_digit v
unfolding numbered
same-coin v = go (nat_le v.draws 32)
  where
    go : (b : Bool) →
        event.coin_digit (cond b (Some (bit_at v.first_draws (v.draws - 1))) None)
        ≡ cond b (numbered (codes " ") (bit_at v.first_draws (v.draws - 1))) []
    go true = refl
    go false = refl

short-coin : (v : View) → IsShort (shown_coin v)
short-coin v = go (nat_le v.draws 32)
  where
    go : (b : Bool) → IsShort (cond b (Some (bit_at v.first_draws (v.draws - 1))) None)
    go true = omega arith
    go false = tt

-- ---- what can be told in numbers of 32 bits

-- what a node shows, whose draws were so many before
pub record HasShortNumbers (before after : View) : Type 0 where
  pub ports : length after.ports ≤ 16
  pub parent : unwrap_or after.parent 0 < 4294967296
  pub id : unwrap_or after.id 0 < 4294967296
  pub wait : before.draws < after.draws → after.wait < 4294967296

-- ---- the lines of one node

module _ (names : Names) (turn : ℕ) (node : NodeNumber) (is : IsName (name_of names node)) (few : turn < 4294967296) where
  abbrev front : List ℕ
  front = head names turn node

  -- a line of the node, and none where a test fails
  told :
      (words : List ℕ) (what : Part → What) →
      ((text : List ℕ) (p : Part) → what_words text (what p) ≡ name_word text p ++ words) →
      ((text : List ℕ) (p : Part) → IsNameIn text p → HasNames text (what p)) →
      ((p : Part) → HasNumbers (what p)) → AreLines (line_of front words)
  unfolding head numbered spaced
  told words what says named numbers =
      one-line (line_of front words) (of-node (name_of names node) turn words what is few says named numbers)

  if-so : (b : Bool) (line : List ℕ) → (b ≡ true → AreLines line) → AreLines (cond b line [])
  if-so true line are = are refl
  if-so false line are = none

  state-lines : (before after : View) → AreLines (state_line front before after)
  state-lines before after =
      if-so (enters before after) (line_of front (state_words after.phase)) (λ e.
      told (state_words after.phase) (λ p. Enters p after.phase)
      (λ text p. ap (λ (w : List ℕ). name_word text p ++ w) (same-state after.phase))
      (λ text p named. named) (λ p. tt))

  timeout-lines : (before after : View) → AreLines (timeout_line front before after)
  timeout-lines before after =
      if-so (not before.timed_out && after.timed_out) (line_of front (codes " configuration timeout")) (λ e.
      told (codes " configuration timeout") Timeout (λ text p. refl) (λ text p named. named) (λ p. tt))

  port-words :
      (port : ℕ) (words : List ℕ) (text : List ℕ) (p : Part) →
      (name_word text p ++ event.numbered (codes " port ") port) ++ words
      ≡ name_word text p ++ (numbered (codes " port ") port ++ words)
  unfolding numbered
  port-words port words text p = append_assoc (name_word text p) (event.numbered (codes " port ") port) words

  parent-lines : (before after : View) → HasShortNumbers before after →
      AreLines (parent_line front before after)
  parent-lines before after h =
      let port : ℕ = unwrap_or after.parent 0 in
      if-so (is_none before.parent && is_some after.parent)
      (line_of front (numbered (codes " port ") port ++ codes " to its parent")) (λ e.
      told (numbered (codes " port ") port ++ codes " to its parent") (λ p. ToParent p port)
      (λ text p. port-words port (codes " to its parent") text p) (λ text p named. named) (λ p. h.parent))

  one-child : (before : List PortView) (k : ℕ) (p : PortView) → k < 4294967296 →
      AreLines (child_line front before k p)
  one-child before k v short =
      if-so (v.child && not (port_is (λ q. q.child) before k))
      (line_of front (numbered (codes " port ") k ++ codes " to a child")) (λ e.
      told (numbered (codes " port ") k ++ codes " to a child") (λ p. ToChild p k)
      (λ text p. port-words k (codes " to a child") text p) (λ text p named. named) (λ p. short))

  all-children : (before : List PortView) (k : ℕ) (ports : List PortView) →
      k + length ports ≤ 16 → AreLines (child_lines front before k ports)
  all-children before k [] most = none
  all-children before k (p ∷ ports) most =
      both-lines (child_line front before k p) (child_lines front before (k + 1) ports)
      (one-child before k p (omega (arith, most))) (all-children before (k + 1) ports (omega (arith, most)))

  coin-lines : (before after : View) → HasShortNumbers before after →
      AreLines (coin_line front before after)
  unfolding numbered
  coin-lines before after h =
      if-so (nat_lt before.draws after.draws)
      (line_of front (codes " coin" ++ (coin_digit after ++ numbered (codes " wait ") after.wait))) (λ e.
      told (codes " coin" ++ (coin_digit after ++ numbered (codes " wait ") after.wait))
      (λ p. Coin p (shown_coin after) after.wait) (λ text p. says text p) (λ text p named. named)
      (λ p. (short-coin after, h.wait (rises e))))
    where
      rises : nat_lt before.draws after.draws ≡ true → before.draws < after.draws
      rises e = grind (arith, nat_tests, e)

      says : (text : List ℕ) (p : Part) →
          what_words text (Coin p (shown_coin after) after.wait)
          ≡ name_word text p ++ (codes " coin" ++ (coin_digit after ++ numbered (codes " wait ") after.wait))
      says text p =
          ap (λ (d : List ℕ). name_word text p ++ (codes " coin" ++ (d ++ event.numbered (codes " wait ") after.wait)))
          (same-coin after)

  id-lines : (before after : View) → HasShortNumbers before after →
      AreLines (id_line front before after)
  unfolding numbered
  id-lines before after h =
      let id : ℕ = unwrap_or after.id 0 in
      if-so (is_none before.id && is_some after.id) (line_of front (numbered (codes " phy_ID ") id)) (λ e.
      told (numbered (codes " phy_ID ") id) (λ p. PhyId p id) (λ text p. refl) (λ text p named. named)
      (λ p. h.id))

  miss-lines : (missed : Bool) → AreLines (miss_line front missed)
  miss-lines missed =
      if-so missed (line_of front (codes " misses a tick")) (λ e.
      told (codes " misses a tick") Misses (λ text p. refl) (λ text p named. named) (λ p. tt))

  one-sent : (port : ℕ) (t : Travelling) → port < 4294967296 → AreLines (sent_line front port t)
  one-sent port t short =
      if-so (t.age == 0)
      (line_of front (numbered (codes " port ") port ++ (codes " sends" ++ signal_words t.signal))) (λ e.
      told (numbered (codes " port ") port ++ (codes " sends" ++ signal_words t.signal))
      (λ p. Sends p port t.signal) (λ text p. says text p) (λ text p named. named) (λ p. short))
    where
      says : (text : List ℕ) (p : Part) →
          what_words text (Sends p port t.signal)
          ≡ name_word text p ++ (numbered (codes " port ") port ++ (codes " sends" ++ signal_words t.signal))
      says text p =
          ap (λ (w : List ℕ). (name_word text p ++ event.numbered (codes " port ") port) ++ (codes " sends" ++ w))
          (same-signal t.signal)
          ∙ port-words port (codes " sends" ++ signal_words t.signal) text p

  each-sent : (port : ℕ) (ts : List Travelling) → port < 4294967296 →
      AreLines (sent_lines front port ts)
  each-sent port [] short = none
  each-sent port (t ∷ ts) short =
      both-lines (sent_line front port t) (sent_lines front port ts) (one-sent port t short)
      (each-sent port ts short)

  all-sent : (w : CableWorld) (there : List ℕ) (k : ℕ) (ports : List PortView) →
      k + length ports ≤ 16 → AreLines (all_sent_lines front w node there k ports)
  all-sent w there k [] most = none
  all-sent w there k (p ∷ ports) most =
      both-lines
      (sent_lines front k (drop (slice_index_or there k 0) (wire_of w (record { node = node; port = k })).signals))
      (all_sent_lines front w node there (k + 1) ports)
      (each-sent k (drop (slice_index_or there k 0) (wire_of w (record { node = node; port = k })).signals) (omega (arith, most)))
      (all-sent w there (k + 1) ports (omega (arith, most)))

  pub at-node : (w : CableWorld) (seen : Seen) (v : View) → HasShortNumbers seen.view v →
      AreLines (lines_at front w node seen v)
  at-node w seen v h =
      both-lines _ _ (miss-lines seen.missed)
      (both-lines _ _ (state-lines seen.view v)
      (both-lines _ _ (timeout-lines seen.view v)
      (both-lines _ _ (parent-lines seen.view v h)
      (both-lines _ _ (all-children seen.view.ports 0 v.ports (omega (arith, h.ports)))
      (both-lines _ _ (coin-lines seen.view v h)
      (both-lines _ _ (id-lines seen.view v h)
      (all-sent w seen.there 0 v.ports (omega (arith, h.ports)))))))))

-- ---- all nodes

-- the nodes have names
abbrev pub AreNamed : Names → ℕ → Type 0
AreNamed names count = (k : ℕ) → k < count → IsName (name_of names k)

all-nodes :
    (names : Names) (w : CableWorld) (count k : ℕ) (seen : List Seen) (nodes : List PortNode) →
    AreNamed names count → k + length nodes ≤ count → w.turns < 4294967296 →
    ((i : ℕ) (s : Seen) (x : PortNode) → slice_get seen i ≡ Some s → slice_get nodes i ≡ Some x →
    HasShortNumbers s.view x.state.view) →
    AreLines (all_lines names w k seen nodes)
all-nodes names w count k [] nodes named most few each = none
all-nodes names w count k (s ∷ seen) [] named most few each = none
all-nodes names w count k (s ∷ seen) (x ∷ nodes) named most few each =
    both-lines (node_lines names w k s x.state.view) (all_lines names w (k + 1) seen nodes)
    (at-node names w.turns k (named k (omega (arith, most))) few w s x.state.view (each 0 s x refl refl))
    (all-nodes names w count (k + 1) seen nodes named (omega (arith, most)) few
    (λ i t y at now. each (suc i) t y at now))

-- what happened up to a world
pub since-lines :
    (names : Names) (seen : List Seen) (w : CableWorld) → AreNamed names (length w.nodes) →
    w.turns < 4294967296 →
    ((i : ℕ) (s : Seen) (x : PortNode) → slice_get seen i ≡ Some s → slice_get w.nodes i ≡ Some x →
    HasShortNumbers s.view x.state.view) →
    AreLines (lines_since names seen w)
since-lines names seen w named few each =
    all-nodes names w (length w.nodes) 0 seen w.nodes named (omega arith) few each
