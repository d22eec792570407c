-- No command of a made script is at fault.
use Rattle.std.proofs.Common.{◌≡◌, ◌∙◌, ℕ, zero, suc, ◌+◌, ◌-◌, ◌*◌, ◌%◌, ◌<◌, ◌≤◌, true, false, Option, Some, None, List, [], ◌∷◌, ◌++◌, length, map, get_or, refl, sym, subst, ap, arith}
use Rattle.std.proofs.Math.Nat.{mod-lt}
use Rattle.std.proofs.Math.ListN.{replicate}
use Rattle.std.proofs.lemmas.Bool.Decides.{nat_tests}
use Rattle.std.proofs.lemmas.List.{length-map, length-replicate, get_or-replicate, map-append, replicate-append-replicate}
use Rattle.std.specs.Prelude.{Ok, nat_lt}
use Rattle.cabling.specs.declared.cable.End as cable
use Rattle.cabling.specs.Wiring.{Wiring, far, IsCabling, without_cables}
use Rattle.cabling.specs.Change.{TakenOut}
use Rattle.cabling.proofs.Lemmas.{bare}
use Rattle.port_state.specs.Machine.{PortNode}
use Rattle.rand_pcg.specs.Lcg.{Lcg}
use Rattle.port_state.specs.declared.ranges.TimeRanges.{TimeRanges}
use Rattle.script_lines.specs.declared.command.Command.{Command}
use Rattle.script_lines.specs.declared.command.Command.TheVariants.{Settle}
use Rattle.script_lines.specs.declared.times.ScriptTimes.{ScriptTimes}
use Rattle.script_lines.specs.Times.{profile_times}
use Rattle.script_told.specs.Bus.{Bus, bus_of_nodes, is_declared}
use Rattle.script_told.specs.Script.{without_last_if_empty, script_lines, Draft, first_draft, with_node, new_node, times_of, coins_of, Stage, fresh, declaring, running, draft_of, bus_of, Declares}
use Rattle.script_told.specs.Run.{ScriptRun, RunsFrom, printed, unless_stopped}
use Rattle.script_made.specs.Made.{generator, word, end, end_of, for_each, made_lines, made_script}
use Rattle.script_made.specs.MadeRead.{made_name, declares, plugs, pulls, turns, again_commands, made_commands}
use Rattle.script_made.specs.MadeValid.{MadeScriptsRunThrough, MadeScriptsHaveNoFault}
use Rattle.script_made.proofs.MadeSize.{Near, end-near}
use Rattle.script_made.proofs.MadeCommands.{made_is_read, made_is_split}
use Rattle.script_made.proofs.valid.Names.{names_below, length-names, is-new}
use Rattle.script_made.proofs.valid.Cables.{at, first, ArePlugged, none-plugged, taken-free, one-more, put-back}
use Rattle.script_made.proofs.valid.Steps.{Leads, After, runs-lead, wider, and-then, each, SettlesAtEnd, comes-through}
use Rattle.script_made.proofs.valid.Buses.{IsBusOf, plug-goes, pull-goes, turn-goes, settle-goes}

-- ---- the nodes

-- how many ports nodes have
abbrev ports-of : List PortNode → List ℕ
ports-of nodes = map (λ (x : PortNode). x.state.ports) nodes

-- three ports for each of so many nodes
abbrev threes : ℕ → List ℕ
threes k = replicate k 3

-- the first so many nodes are declared, and nothing else
record IsDeclared (k : ℕ) (stage : Stage) : Type 0 where
  draft : Draft
  open-yet : draft_of stage ≡ Some draft
  bus : bus_of stage ≡ bus_of_nodes 4 (profile_times 4) draft.names draft.nodes
  delay : draft.delay ≡ 4
  times : draft.times ≡ profile_times 4
  names : draft.names ≡ names_below k
  ports : ports-of draft.nodes ≡ threes k
  even : draft.slowed ≡ false

-- the node that a line declares
abbrev node : ℕ → ℕ → TimeRanges → ℕ → PortNode
node seed k ranges number =
    new_node
    (record {
      link = true;
      gap = 63;
      speed = 2;
      delay = 0;
      contender = true;
      power = 0;
      initiated = false;
    })
    3 false false (times_of ranges None None None) (coins_of number 0 0 (Some ((seed + k) % 4294967296)))

one-more-three : (k : ℕ) → threes k ++ 3 ∷ [] ≡ threes (suc k)
one-more-three k =
    let three : ℕ = 3 in
    let count : k + 1 ≡ suc k = omega arith in
    replicate-append-replicate k 1 three ∙ ap threes count

declare : (seed k : ℕ) → k < 63 → (stage : Stage) → IsDeclared k stage →
    After (declares seed k ∷ []) (IsDeclared (suc k)) stage
declare seed k few stage h r x =
    let name : List ℕ = made_name k in
    let new : PortNode = node seed k h.draft.times.ranges (length h.draft.names) in
    let next : Draft = with_node h.draft name new in
    let room : nat_lt 62 (length h.draft.names) ≡ false =
    grind (arith, nat_tests, ap length h.names, length-names k, few) in
    let other : is_declared h.draft.names name ≡ false =
    ap (λ (names : List (List ℕ)). is_declared names name) h.names ∙ is-new k (omega (arith, few)) in
    let said : Declares (Some h.draft) name (node seed k) r =
    subst (λ (o : Option Draft). Declares o name (node seed k) r) h.open-yet x in
    let is : r ≡ Ok (declaring next, []) = said ∙ rw (h.even, room, other) refl in
    subst (Leads (IsDeclared (suc k))) (sym is) (record {
      draft = next;
      open-yet = refl;
      bus =
          ap (λ (d : ℕ). bus_of_nodes d next.times next.names next.nodes) h.delay
          ∙ ap (λ (t : ScriptTimes). bus_of_nodes 4 t next.names next.nodes) h.times;
      delay = h.delay;
      times = h.times;
      names = ap (λ (names : List (List ℕ)). names ++ name ∷ []) h.names;
      ports =
          map-append (λ (x : PortNode). x.state.ports) h.draft.nodes (new ∷ [])
          ∙ (ap (λ (counts : List ℕ). counts ++ 3 ∷ []) h.ports ∙ one-more-three k);
      even = h.even;
    })

-- ---- the bus before its first cable

-- no end of it has a cable
loose : (n node port : ℕ) → far (without_cables (threes n)) (at (end node port)) ≡ None
loose zero node port = refl
loose (suc n) zero zero = refl
loose (suc n) zero (suc zero) = refl
loose (suc n) zero (suc (suc zero)) = refl
loose (suc n) zero (suc (suc (suc port))) = refl
loose (suc n) (suc node) port = loose n node port

-- each node has its ports
counted : (n : ℕ) → map length (without_cables (threes n)) ≡ threes n
counted zero = refl
counted (suc n) = ap (λ (counts : List ℕ). 3 ∷ counts) (counted n)

-- the first so many cables are plugged, and no turn was done
record IsPlugged (n : ℕ) (g : Lcg) (k : ℕ) (stage : Stage) : Type 0 where
  bus : IsBusOf n 0 (bus_of stage)
  cables : ArePlugged g k (bus_of stage).world.cabling

none-yet : (n : ℕ) (g : Lcg) (stage : Stage) → n ≤ 63 → IsDeclared n stage → IsPlugged n g 0 stage
none-yet n g stage few h =
    let names : List (List ℕ) = h.draft.names in
    let made : Bus = bus_of_nodes 4 (profile_times 4) names h.draft.nodes in
    let counts : List ℕ = threes n in
    let three : ℕ = 3 in
    let size : length counts ≡ n = length-replicate n three in
    let cables : made.world.cabling ≡ without_cables counts = ap without_cables h.ports in
    let all : IsBusOf n 0 made = record {
      names = h.names;
      ports = ap (map length) cables ∙ counted n;
      nodes = sym (length-map h.draft.nodes (λ (x : PortNode). x.state.ports)) ∙ ap length h.ports ∙ size;
      delay = refl;
      longest = refl;
      cabled = subst IsCabling (sym cables)
          (bare counts (omega (arith, few, size)) (λ i inside.
          let is : get_or counts i 0 ≡ 3 = get_or-replicate n i three 0 (omega (arith, inside, size)) in
          (omega (arith, is), omega (arith, is))));
      few = omega arith;
    } in
    let none : (e : cable.End) → far made.world.cabling e ≡ None =
    λ e. ap (λ (c : Wiring). far c e) cables ∙ loose n e.node e.port in
    record {
      bus = subst (IsBusOf n 0) (sym h.bus) all;
      cables = subst (λ (b : Bus). ArePlugged g 0 b.world.cabling) (sym h.bus) (none-plugged g made.world.cabling none);
    }

-- ---- the cables

plug-one : (n : ℕ) (g : Lcg) (k : ℕ) → n ≤ 63 → suc k < n → (stage : Stage) →
    IsPlugged n g k stage → After (plugs (end_of g k) (suc k) ∷ []) (IsPlugged n g (suc k)) stage
plug-one n g k few less stage h =
    let near : Near k (end_of g k) = end-near g k in
    runs-lead (IsPlugged n g (suc k)) stage (plugs (end_of g k) (suc k))
    (plug-goes n 0 (bus_of stage) (λ bus. IsPlugged n g (suc k) (running bus)) few h.bus
    (end_of g k) (suc k) (omega (arith, near.node, less)) near.port less
    (λ same. absurd (omega (arith, near.node, same)))
    (taken-free g k (bus_of stage).world.cabling h.cables)
    (h.cables.bare (end (suc k) 0) (omega arith))
    (λ after there added. record {
      bus = there;
      cables = one-more g k (bus_of stage).world.cabling after.world.cabling h.cables added;
    }))

-- ---- the cables again

-- all cables are plugged
abbrev AreAll : Lcg → ℕ → Wiring → Type 0
AreAll g cables c = (j : ℕ) → j < cables → far c (first (suc j)) ≡ Some (at (end_of g j))

-- they are, after no more than so many turns
record IsWhole (n : ℕ) (g : Lcg) (turns : ℕ) (stage : Stage) : Type 0 where
  bus : IsBusOf n turns (bus_of stage)
  cables : AreAll g (n - 1) (bus_of stage).world.cabling

settled : (n : ℕ) (g : Lcg) → n ≤ 63 → (stage : Stage) → IsPlugged n g (n - 1) stage →
    After (Settle ∷ []) (IsWhole n g 73520) stage
settled n g few stage h =
    runs-lead (IsWhole n g 73520) stage Settle
    (settle-goes n 0 (bus_of stage) (λ bus. IsWhole n g 73520 (running bus)) few h.bus
    73520 (omega arith) (omega arith)
    (λ after there same. record {
      bus = there;
      cables = subst (AreAll g (n - 1)) (sym same) h.cables.joined;
    }))

again-one : (n : ℕ) (g : Lcg) (k w most later : ℕ) → n ≤ 63 → suc k < n → most + 300 ≤ later →
    later ≤ 2000000 → (stage : Stage) → IsWhole n g most stage →
    After (pulls (suc k) ∷ turns w ∷ plugs (end_of g k) (suc k) ∷ []) (IsWhole n g later) stage
again-one n g k w most later few less room limit stage h =
    let near : Near k (end_of g k) = end-near g k in
    let old : Wiring = (bus_of stage).world.cabling in
    let a : cable.End = first (suc k) in
    let b : cable.End = at (end_of g k) in
    let few-turns : w % 300 < 300 = mod-lt w (omega arith) in
    let Last : Stage → Type 0 = IsWhole n g later in
    let Then : Stage → Type 0 = After (plugs (end_of g k) (suc k) ∷ []) Last in
    runs-lead (After (turns w ∷ plugs (end_of g k) (suc k) ∷ []) Last) stage (pulls (suc k))
    (pull-goes n most (bus_of stage) (λ bus. After (turns w ∷ plugs (end_of g k) (suc k) ∷ []) Last (running bus))
    few h.bus (suc k) b less (h.cables k (omega (arith, less)))
    (λ pulled first-there taken.
    runs-lead Then (running pulled) (turns w)
    (turn-goes n most pulled (λ bus. Then (running bus)) few first-there
    (w % 300 + 1) later (omega (arith, room, few-turns)) limit
    (λ turned there same.
    let free : TakenOut old turned.world.cabling a b =
    subst (λ (c : Wiring). TakenOut old c a b) (sym same) taken in
    runs-lead Last (running turned) (plugs (end_of g k) (suc k))
    (plug-goes n later turned (λ bus. Last (running bus)) few there
    (end_of g k) (suc k) (omega (arith, near.node, less)) near.port less
    (λ same. absurd (omega (arith, near.node, same)))
    free.free_b free.free_a
    (λ after all added. record {
      bus = all;
      cables = λ j inside.
          put-back old turned.world.cabling after.world.cabling a b h.bus.cabled free added (first (suc j))
          ∙ h.cables j inside;
    }))))))

-- ---- the whole script

none-declared : IsDeclared 0 fresh
none-declared = record {
  draft = first_draft;
  open-yet = refl;
  bus = refl;
  delay = refl;
  times = refl;
  names = refl;
  ports = refl;
  even = refl;
}

no-fault : (n seed : ℕ) → n ≤ 63 → After (made_commands n seed) SettlesAtEnd fresh
unfolding made_commands
no-fault n seed few =
    let g : Lcg = generator seed in
    let c : ℕ = n - 1 in
    let nodes : List Command = for_each n (λ k. declares seed k ∷ []) in
    let cables : List Command = for_each c (λ k. plugs (end_of g k) (suc k) ∷ []) in
    let again : List Command = again_commands g c in
    let After-cables : Stage → Type 0 = After (Settle ∷ again) SettlesAtEnd in
    let last : (stage : Stage) → IsWhole n g (73520 + 300 * c) stage → SettlesAtEnd stage =
    λ stage h. settle-goes n (73520 + 300 * c) (bus_of stage) (λ bus. Unit {0}) few h.bus 2000000
    (omega (arith, few)) (omega arith) (λ after there same. tt) in
    let repeated : (stage : Stage) → IsWhole n g 73520 stage → After again SettlesAtEnd stage =
    λ stage h. wider again (IsWhole n g (73520 + 300 * c)) SettlesAtEnd last stage
    (each c
    (λ k. pulls (suc k) ∷ turns (word g (c + k)) ∷ plugs (end_of g k) (suc k) ∷ [])
    (λ k. IsWhole n g (73520 + 300 * k))
    (λ k less. again-one n g k (word g (c + k)) (73520 + 300 * k) (73520 + 300 * suc k) few
    (omega (arith, less)) (omega arith) (omega (arith, less, few))) stage h) in
    let settles : (stage : Stage) → IsPlugged n g c stage → After-cables stage =
    λ stage h. and-then (Settle ∷ []) again (IsWhole n g 73520) SettlesAtEnd repeated stage (settled n g few stage h) in
    let plugged : (stage : Stage) → IsDeclared n stage → After (cables ++ (Settle ∷ again)) SettlesAtEnd stage =
    λ stage h. and-then cables (Settle ∷ again) (IsPlugged n g c) SettlesAtEnd settles stage
    (each c (λ k. plugs (end_of g k) (suc k) ∷ []) (IsPlugged n g)
    (λ k less. plug-one n g k few (omega (arith, less))) stage (none-yet n g stage few h)) in
    and-then nodes (cables ++ (Settle ∷ again)) (IsDeclared n) SettlesAtEnd plugged fresh
    (each n (λ k. declares seed k ∷ []) IsDeclared
    (λ k less. declare seed k (omega (arith, less, few))) fresh none-declared)

-- behind the last line feed stands no line
trimmed : (lines : List (List ℕ)) → without_last_if_empty (lines ++ [] ∷ []) ≡ lines
trimmed [] = refl
trimmed (line ∷ []) = refl
trimmed (line ∷ next ∷ lines) = ap (λ (rest : List (List ℕ)). line ∷ rest) (trimmed (next ∷ lines))

pub made-scripts-run-through : MadeScriptsRunThrough
made-scripts-run-through n seed run few x =
    let lines : List (List ℕ) = made_lines n seed in
    let same : script_lines (made_script n seed) ≡ lines =
    ap without_last_if_empty (made_is_split n seed few) ∙ trimmed lines in
    comes-through lines (made_commands n seed) (λ times. made_is_read times n seed few) 1 fresh run
    (no-fault n seed few)
    (subst (λ (lines : List (List ℕ)). RunsFrom 1 lines fresh run) same x)

pub made-scripts-have-no-fault : MadeScriptsHaveNoFault
made-scripts-have-no-fault n seed told few x =
    let end = made-scripts-run-through n seed x.0 few x.1 in
    (printed x.0.entries, x.2 ∙ ap (unless_stopped (printed x.0.entries)) end.1)
