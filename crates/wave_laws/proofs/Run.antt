-- A dump that is read shows each moment of its run.
use Rattle.std.proofs.Common.{◌≡◌, inl, inr, ℕ, zero, suc, ◌+◌, Bool, true, false, List, [], ◌∷◌, ◌++◌, Some, map, refl, sym, subst, ◌∙◌, ap, append_assoc, append-nil}
use Rattle.std.specs.Prelude.{Ok, Err, All, MatchBool, nat_lt, slice_get}
use Rattle.std.proofs.lemmas.List.Elements.{All-head, All-tail}
use Rattle.topology_stack.specs.OneAnswer.{NoListHasTwoTrees}
use Rattle.port_state.specs.Machine.{PortNode}
use Rattle.cable_world.specs.World.{CableWorld, IsPowerOnWorld}
use Rattle.cable_world.specs.Turn.{turn, turns_after}
use Rattle.cable_world.specs.declared.act.Act.{Act}
use Rattle.cable_world.specs.Act.{Acted}
use Rattle.cable_world.specs.Run.{IsReached}
use Rattle.cable_world.specs.Unchanged.{ActKeepsNodes}
use Rattle.cable_world.proofs.Lemmas.{turn-reached, act-reached}
use Rattle.settle.specs.Report.{quiet_turns_of}
use Rattle.script_lines.specs.declared.kind.Kind.{Kind}
use Rattle.script_lines.specs.declared.command.Command.{Command}
use Rattle.script_lines.specs.declared.command.Command.TheVariants.{Node, Plug, Pull, Reset, Turn, Settle, Config, Plan, Delay, Times, Clock}
use Rattle.script_told.specs.Bus.{Bus}
use Rattle.script_told.specs.Step.{LineAnswer, Reports, Does, config_of}
use Rattle.script_told.specs.Script.{Stage, fresh, declaring, running, bus_of, onwards, DoesOnBus, DoesAtStage}
use Rattle.script_told.specs.Run.{Entry}
use Rattle.script_told.specs.ScriptEvents.{Declares, DoesEvents}
use Rattle.script_told.proofs.Lemmas.{declares-or-not, late, bus-in, stage-in, plan-act, draft-power, IsSound, sound-bus, IsDone, each-done, runs-on}
use Rattle.script_trace.specs.Step.{seen_before_turn, seen_before_act}
use Rattle.script_trace.specs.Voice.{Legend, legend_of, turns_told}
use Rattle.script_trace.specs.Trace.{TracesPlan, Traces, TracesAt, AllTrace}
use Rattle.script_trace.specs.waves.Moment.{all_changes, time_of, waves_since, waves_voice}
use Rattle.script_trace.specs.waves.Head.{head}
use Rattle.wave_laws.specs.Moments.{turn_worlds, AreWorlds, AreWorldsAt}
use Rattle.wave_laws.specs.Run.{time_at, IsUnder, ShowsEach, ShowsAll, DumpsShowTheRun}
use Rattle.wave_laws.proofs.Shown.{untimed, TellsWorld, world-shown, same-nodes, world-moves}
use Rattle.wave_laws.proofs.Start.{IsAtStart, start-told}
use Rattle.wave_laws.proofs.Shape.{IsAlike, alike-itself, alike-then, turn-alike, act-alike, runs-alike, nodes-stay, seen-act, seen-turn, powered-at-start}
use Rattle.wave_laws.proofs.Chain.{Follow, run-follows, declares-nothing}

-- ---- parts of a text

module _ (time : CableWorld → ℕ) where
  -- at a world that is shown already nothing is told
  stands : (before : List ℕ) (w : CableWorld) (worlds : List CableWorld) (text : List ℕ) → TellsWorld before w → ShowsEach time before worlds text →
      ShowsEach time before (w ∷ worlds) text
  stands before w worlds text t more =
      let same : before ≡ before ++ [] = sym (append-nil before) in
      ([], text, refl, ([], refl, refl), world-shown (before ++ []) w (subst (λ l. TellsWorld l w) same t), subst (λ l. ShowsEach time l worlds text) same more)

  moves-on : (before part rest : List ℕ) (w : CableWorld) (worlds : List CableWorld) → IsUnder (time w) part → TellsWorld (before ++ part) w →
      ShowsEach time (before ++ part) worlds rest → ShowsEach time before (w ∷ worlds) (part ++ rest)
  moves-on before part rest w worlds under t more = (part, rest, refl, under, world-shown (before ++ part) w t, more)

-- ---- turns and acts

module _ (legend : Legend) where
  abbrev time : CableWorld → ℕ
  time w = time_of legend.nanoseconds w.delay w.turns

  abbrev turn-part : CableWorld → List ℕ
  turn-part w = waves_since legend.nanoseconds (map seen_before_turn w.nodes) (turn w)

  abbrev act-part : CableWorld → CableWorld → List ℕ
  act-part w v = waves_since legend.nanoseconds (seen_before_act w 0 w.nodes) v

  turn-tells : (before : List ℕ) (w : CableWorld) → IsReached w → TellsWorld before w → TellsWorld (before ++ turn-part w) (turn w)
  turn-tells before w r t = world-moves before legend.nanoseconds (map seen_before_turn w.nodes) w (turn w) (turn-alike w r).there (seen-turn w) t

  act-tells : (before : List ℕ) (w v : CableWorld) → IsAlike w v → TellsWorld before w → TellsWorld (before ++ act-part w v) v
  act-tells before w v alike t = world-moves before legend.nanoseconds (seen_before_act w 0 w.nodes) w v alike.there (seen-act w) t

  turns-tell : (k : ℕ) (w : CableWorld) (before : List ℕ) → IsReached w → TellsWorld before w →
      TellsWorld (before ++ turns_told waves_voice legend k w) (turns_after k w)
  unfolding turns_told turns_after
  turns-tell zero w before r t = subst (λ l. TellsWorld l w) (sym (append-nil before)) t
  turns-tell (suc k) w before r t =
      subst (λ l. TellsWorld l (turns_after k (turn w))) (append_assoc before (turn-part w) (turns_told waves_voice legend k (turn w)))
      (turns-tell k (turn w) (before ++ turn-part w) (turn-reached w r) (turn-tells before w r t))

  -- from a world that this part shows on, turn by turn
  shows-from : (k : ℕ) (w : CableWorld) (before part : List ℕ) → IsReached w → IsUnder (time w) part → TellsWorld (before ++ part) w →
      ShowsEach time before (turn_worlds k w) (part ++ turns_told waves_voice legend k w)
  unfolding turns_told
  shows-from zero w before part r under t = moves-on time before part [] w [] under t refl
  shows-from (suc k) w before part r under t =
      moves-on time before part (turns_told waves_voice legend (suc k) w) w (turn_worlds k (turn w)) under t
      (shows-from k (turn w) (before ++ part) (turn-part w) (turn-reached w r) (all_changes (turn w) 0 (map seen_before_turn w.nodes) (turn w).nodes, refl, untimed (turn w) (map seen_before_turn w.nodes))
      (turn-tells (before ++ part) w r t))

  -- ---- a command

  -- what a command tells shows its worlds, and in the end that of the bus that it leaves
  record IsLed (before : List ℕ) (bus : Bus) (c : Command) (after : Bus) (text : List ℕ) : Type 0 where
    worlds : List CableWorld
    are : AreWorlds bus c after worlds
    shows : ShowsEach time before worlds text
    tells : TellsWorld (before ++ text) after.world

  module _ (before : List ℕ) (bus after : Bus) (text : List ℕ) (r : IsReached bus.world) (t : TellsWorld before bus.world) where
    act-led : (c : Command) → AreWorlds bus c after (bus.world ∷ after.world ∷ []) → text ≡ act-part bus.world after.world →
        IsAlike bus.world after.world → IsLed before bus c after text
    act-led c are is alike =
        let part = act-part bus.world after.world in
        let now = act-tells before bus.world after.world alike t in
        let told : TellsWorld (before ++ text) after.world = subst (λ l. TellsWorld (before ++ l) after.world) (sym is) now in
        record {
          worlds = bus.world ∷ after.world ∷ [];
          are = are;
          shows = stands time before bus.world (after.world ∷ []) text t
              (text, [], sym (append-nil text), (all_changes after.world 0 (seen_before_act bus.world 0 bus.world.nodes) after.world.nodes, is, untimed after.world (seen_before_act bus.world 0 bus.world.nodes)), world-shown (before ++ text) after.world told, refl);
          tells = told;
        }

    still-led : (c : Command) → AreWorlds bus c after (bus.world ∷ after.world ∷ []) → text ≡ [] → after.world.nodes ≡ bus.world.nodes →
        IsLed before bus c after text
    still-led c are none same =
        let now : TellsWorld before after.world = same-nodes before bus.world after.world same t in
        record {
          worlds = bus.world ∷ after.world ∷ [];
          are = are;
          shows = stands time before bus.world (after.world ∷ []) text t (stands time before after.world [] text now none);
          tells = subst (λ l. TellsWorld l after.world) (sym (ap (λ l. before ++ l) none ∙ append-nil before)) now;
        }

    turns-led : (c : Command) (k : ℕ) → AreWorlds bus c after (turn_worlds k bus.world) → text ≡ turns_told waves_voice legend k bus.world →
        after.world ≡ turns_after k bus.world → IsLed before bus c after text
    turns-led c k are is left =
        let first : TellsWorld (before ++ []) bus.world = subst (λ l. TellsWorld l bus.world) (sym (append-nil before)) t in
        record {
          worlds = turn_worlds k bus.world;
          are = are;
          shows = subst (ShowsEach time before (turn_worlds k bus.world)) (sym is) (shows-from k bus.world before [] r ([], refl, refl) first);
          tells = subst (λ l. TellsWorld (before ++ l) after.world) (sym is)
              (subst (TellsWorld (before ++ turns_told waves_voice legend k bus.world)) (sym left) (turns-tell k bus.world before r t));
        }

    plan-led : (name : List ℕ) → legend ≡ legend_of after.notes → TracesPlan waves_voice bus name after text → IsLed before bus (Plan name) after text
    plan-led name same x =
        let sent = x.carried.sent.world in
        let k = quiet_turns_of sent in
        let act : Act = config_of x.node (Some x.carried.plan.root_id) (Some x.carried.plan.gap) in
        let did : Acted act bus.world sent = (plan-act x.carried.shown x.carried.is.bus x.carried.plan x.carried.planned x.node, x.carried.sends.0, x.carried.sends.1) in
        let reached : IsReached sent = act-reached act bus.world sent did r in
        let part = act-part bus.world sent in
        let there : TellsWorld (before ++ part) sent = act-tells before bus.world sent (act-alike act bus.world sent did r) t in
        let is : text ≡ part ++ turns_told waves_voice legend k sent =
        x.lines_are ∙ ap (λ (l : Legend). waves_since l.nanoseconds (seen_before_act bus.world 0 bus.world.nodes) sent ++ turns_told waves_voice l k sent) (sym same) in
        let end : TellsWorld (before ++ (part ++ turns_told waves_voice legend k sent)) (turns_after k sent) =
        subst (λ l. TellsWorld l (turns_after k sent)) (append_assoc before part (turns_told waves_voice legend k sent)) (turns-tell k sent (before ++ part) reached there) in
        record {
          worlds = bus.world ∷ turn_worlds k sent;
          are = record {
            text = x.text;
            is = record { node = x.node; named = x.named; tree = x.tree; settled = x.settled; carried = x.carried };
            worlds_are = refl;
          };
          shows = subst (ShowsEach time before (bus.world ∷ turn_worlds k sent)) (sym is)
              (stands time before bus.world (turn_worlds k sent) (part ++ turns_told waves_voice legend k sent) t
              (shows-from k sent before part reached (all_changes sent 0 (seen_before_act bus.world 0 bus.world.nodes) sent.nodes, refl, untimed sent (seen_before_act bus.world 0 bus.world.nodes)) there));
          tells = subst (λ l. TellsWorld (before ++ l) after.world) (sym is)
              (subst (TellsWorld (before ++ (part ++ turns_told waves_voice legend k sent))) (sym x.carried.reports.1) end);
        }

-- ---- what a command was done to

-- an answer on the bus
on-bus : (stage : Stage) (c : Command) (after : Bus) (text : List ℕ) → DoesOnBus stage c (Ok (running after, text)) →
    (words : List ℕ) × Does (bus_of stage) c (Ok (after, words))
on-bus stage c after text (r, does, e) = go r does e
  where
    one-bus : (z : Bus) → running after ≡ running z → z ≡ after
    one-bus z k = cc

    go : (a : LineAnswer) → Does (bus_of stage) c a → Ok (running after, text) ≡ onwards a → (words : List ℕ) × Does (bus_of stage) c (Ok (after, words))
    go (Ok (bus, t)) d f = (t, subst (λ (z : Bus). Does (bus_of stage) c (Ok (z, t))) (one-bus bus (ap stage-in f)) d)
    go (Err kind) d f = absurd cc

turned : (bus after : Bus) (count : ℕ) (text : List ℕ) → Does bus (Turn count) (Ok (after, text)) → after.world ≡ turns_after count bus.world
turned bus after count text x = go (nat_lt 2000000 (bus.world.turns + count)) x
  where
    go : (b : Bool) → MatchBool b (◌≡◌ {A = LineAnswer} (Ok (after, text)) (Err Kind.TooManyTurns))
        (◌≡◌ {A = LineAnswer} (Ok (after, text)) (Ok (record bus { world = turns_after count bus.world }, []))) → after.world ≡ turns_after count bus.world
    go true e = absurd cc
    go false e = ap (λ r. (bus-in bus r).world) e

settled : (bus after : Bus) (text : List ℕ) → Does bus Settle (Ok (after, text)) → after.world ≡ turns_after (quiet_turns_of bus.world) bus.world
settled bus after text x = go (nat_lt 2000000 (bus.world.turns + quiet_turns_of bus.world)) x
  where
    go : (b : Bool) → MatchBool b (◌≡◌ {A = LineAnswer} (Ok (after, text)) (Err Kind.TooManyTurns)) (Reports bus (Ok (after, text))) →
        after.world ≡ turns_after (quiet_turns_of bus.world) bus.world
    go true e = absurd cc
    go false e = e.1

same-running : (a b : Bus) → running a ≡ running b → a ≡ b
same-running a b e = cc

reached-before : (e : Entry) → IsDone e → IsReached (bus_of e.before).world
reached-before e done = (sound-bus e.before done.sound).reached

-- the events of a command that leaves a bus that runs
does-of : (e : Entry) (after : Bus) → IsDone e → e.after ≡ running after → DoesEvents (bus_of e.before) e.command after
does-of e after done is =
    let runs = runs-on e done (declares-nothing e after done.follows is) in
    subst (DoesEvents (bus_of e.before) e.command) (same-running runs.after after (sym runs.is ∙ is)) runs.does

alike-after : (e : Entry) (after : Bus) → IsDone e → e.after ≡ running after → IsAlike (bus_of e.before).world after.world
alike-after e after done is =
    let does = does-of e after done is in
    runs-alike does.events (bus_of e.before).world after.world (reached-before e done) does.run

command-led :
    (before : List ℕ) (stage : Stage) (c : Command) (after : Bus) (text words : List ℕ) → IsReached (bus_of stage).world → TellsWorld before (bus_of stage).world →
    (Declares c → ⊥) → DoesAtStage stage c (Ok (running after, words)) → DoesEvents (bus_of stage) c after → Traces waves_voice (bus_of stage) c after text →
    IsLed (legend_of after.notes) before (bus_of stage) c after text
command-led before stage (Node name ports speed link contender force power gap gap_reset hold short long word len seed packed) after text words r t not d does x =
    absurd (not tt)
command-led before stage (Delay delay) after text words r t not d does x = absurd (not tt)
command-led before stage (Times standard nanoseconds) after text words r t not d does x = absurd (not tt)
command-led before stage (Clock name ppm first) after text words r t not d does x = absurd (not tt)
command-led before stage (Plug a a_port b b_port) after text words r t not d does x =
    act-led (legend_of after.notes) before (bus_of stage) after text r t (Plug a a_port b b_port) refl x
    (runs-alike does.events (bus_of stage).world after.world r does.run)
command-led before stage (Pull name port) after text words r t not d does x =
    act-led (legend_of after.notes) before (bus_of stage) after text r t (Pull name port) refl x
    (runs-alike does.events (bus_of stage).world after.world r does.run)
command-led before stage (Reset name) after text words r t not d does x =
    act-led (legend_of after.notes) before (bus_of stage) after text r t (Reset name) refl x
    (runs-alike does.events (bus_of stage).world after.world r does.run)
command-led before stage (Config name root_id gap) after text words r t not d does x =
    act-led (legend_of after.notes) before (bus_of stage) after text r t (Config name root_id gap) refl x
    (runs-alike does.events (bus_of stage).world after.world r does.run)
command-led before stage (Turn count) after text words r t not d does x =
    let on = on-bus stage (Turn count) after words d in
    turns-led (legend_of after.notes) before (bus_of stage) after text r t (Turn count) count refl x (turned (bus_of stage) after count on.0 on.1)
command-led before stage Settle after text words r t not d does x =
    let on = on-bus stage Settle after words d in
    turns-led (legend_of after.notes) before (bus_of stage) after text r t Settle (quiet_turns_of (bus_of stage).world) refl x (settled (bus_of stage) after on.0 on.1)
command-led before stage (Plan name) after text words r t not d does x =
    plan-led (legend_of after.notes) before (bus_of stage) after text r t name refl x
command-led before stage c after text words r t not d does x =
    still-led (legend_of after.notes) before (bus_of stage) after text r t c refl x
    (nodes-stay does.events (bus_of stage).world after.world (does.alone tt) (does.at_once tt) does.run)

-- ---- a bus that runs goes on running

goes-on-running : (e : Entry) (bus : Bus) → IsDone e → e.before ≡ running bus → (after : Bus) × (e.after ≡ running after)
goes-on-running e bus done is = elim (declares-or-not e.command) [
  | inl d ↦ absurd (late bus e.command e.after e.text d (subst (λ s. DoesAtStage s e.command (Ok (e.after, e.text))) is done.follows))
  | inr not ↦
      let runs = runs-on e done not in
      (runs.after, runs.is)
]

alike-end : (entries : List Entry) (stage : Stage) (bus end : Bus) → stage ≡ running bus → Follow stage entries (Ok end) → All IsDone entries →
    IsAlike bus.world end.world
alike-end [] stage bus end is f h =
    alike-itself bus.world end.world (ap (λ (b : Bus). b.world.nodes) (sym (same-running bus end (sym is ∙ f end refl))))
alike-end (e ∷ entries) stage bus end is f h =
    let done = All-head IsDone e entries h in
    let here : e.before ≡ running bus = f.0 ∙ is in
    let next = goes-on-running e bus done here in
    let one : IsAlike bus.world next.0.world =
    subst (λ (s : Stage). IsAlike (bus_of s).world next.0.world) here (alike-after e next.0 done next.1) in
    alike-then bus.world next.0.world end.world one
    (alike-end entries e.after next.0 end next.1 f.1 (All-tail IsDone e entries h))

-- ---- the commands of a run

-- the text up to a stage shows the world that runs; before that it is the head
abbrev IsReady : List ℕ → List ℕ → Stage → Type 0
IsReady start before (running bus) = TellsWorld before bus.world
IsReady start before stage = before ≡ start

-- nodes that were just powered on
powered : (w : CableWorld) → IsPowerOnWorld w → (k : ℕ) (x : PortNode) → slice_get w.nodes k ≡ Some x → IsAtStart x.state.view
powered w p k x e = powered-at-start w.delay x w.longest (p.nodes k x e)

ready-tells : (legend : Legend) (end : CableWorld) (before : List ℕ) (stage : Stage) → IsSound stage → IsReady (head legend end) before stage →
    IsAlike (bus_of stage).world end → TellsWorld before (bus_of stage).world
ready-tells legend end before fresh sound ready alike =
    subst (λ l. TellsWorld l (bus_of fresh).world) (sym ready) (start-told legend end (bus_of fresh).world (λ k x e. absurd cc) alike.back)
ready-tells legend end before (declaring draft) sound ready alike =
    subst (λ l. TellsWorld l (bus_of (declaring draft)).world) (sym ready)
    (start-told legend end (bus_of (declaring draft)).world (powered (bus_of (declaring draft)).world (draft-power draft sound)) alike.back)
ready-tells legend end before (running bus) sound ready alike = ready

not-yet : (start before : List ℕ) (stage : Stage) → ((bus : Bus) → stage ≡ running bus → ⊥) → IsReady start before stage → before ≡ start
not-yet start before fresh not ready = ready
not-yet start before (declaring draft) not ready = ready
not-yet start before (running bus) not ready = absurd (not bus refl)

abbrev IsNoBusStage : Stage → Type 0
IsNoBusStage stage = (bus : Bus) → stage ≡ running bus → ⊥

one-shown :
    (legend : Legend) (end : Bus) (e : Entry) (entries : List Entry) (before one more text : List ℕ) → text ≡ one ++ more → IsDone e →
    IsReady (head legend end.world) before e.before → TracesAt waves_voice e.before e.command e.after one →
    ((after : Bus) → e.after ≡ running after → IsAlike after.world end.world) →
    ((b : List ℕ) → IsReady (head legend end.world) b e.after → ShowsAll b entries more) → ShowsAll before (e ∷ entries) text
one-shown legend end e entries before one more text whole done ready x to-end rest = go e.after refl
  where
    no-bus : (next : Stage) → e.after ≡ next → IsNoBusStage next → one ≡ [] → AreWorldsAt e.before e.command e.after [] →
        IsReady (head legend end.world) (before ++ one) e.after → ShowsAll before (e ∷ entries) text
    no-bus next is not none are on = ([], one, more, are, whole, none, rest (before ++ one) on)

    still : (next : Stage) → e.after ≡ next → IsNoBusStage next → one ≡ [] → before ++ one ≡ head legend end.world
    still next is not none =
        ap (λ l. before ++ l) none ∙ append-nil before
        ∙ not-yet (head legend end.world) before e.before (λ bus here.
        let on = goes-on-running e bus done here in
        not on.0 (sym is ∙ on.1)) ready

    go : (next : Stage) → e.after ≡ next → ShowsAll before (e ∷ entries) text
    go fresh is =
        let none : one ≡ [] = subst (λ s. TracesAt waves_voice e.before e.command s one) is x in
        let not : IsNoBusStage fresh = λ bus f. cc in
        no-bus fresh is not none (subst (λ s. AreWorldsAt e.before e.command s []) (sym is) refl)
        (subst (IsReady (head legend end.world) (before ++ one)) (sym is) (still fresh is not none))
    go (declaring draft) is =
        let none : one ≡ [] = subst (λ s. TracesAt waves_voice e.before e.command s one) is x in
        let not : IsNoBusStage (declaring draft) = λ bus f. cc in
        no-bus (declaring draft) is not none (subst (λ s. AreWorldsAt e.before e.command s []) (sym is) refl)
        (subst (IsReady (head legend end.world) (before ++ one)) (sym is) (still (declaring draft) is not none))
    go (running after) is =
        let t : TellsWorld before (bus_of e.before).world =
        ready-tells legend end.world before e.before done.sound ready
        (alike-then (bus_of e.before).world after.world end.world (alike-after e after done is) (to-end after is)) in
        let traced : Traces waves_voice (bus_of e.before) e.command after one =
        subst (λ s. TracesAt waves_voice e.before e.command s one) is x in
        let does : DoesAtStage e.before e.command (Ok (running after, e.text)) =
        subst (λ s. DoesAtStage e.before e.command (Ok (s, e.text))) is done.follows in
        let led = command-led before e.before e.command after one e.text (reached-before e done) t (declares-nothing e after done.follows is) does
        (does-of e after done is) traced in (
          led.worlds,
          one,
          more,
          subst (λ s. AreWorldsAt e.before e.command s led.worlds) (sym is) led.are,
          whole,
          subst (λ s. ShowsEach (time_at s) before led.worlds one) (sym is) led.shows,
          rest (before ++ one) (subst (IsReady (head legend end.world) (before ++ one)) (sym is) led.tells),
        )

all-shown :
    (legend : Legend) (end : Bus) (entries : List Entry) (stage : Stage) (before text : List ℕ) → Follow stage entries (Ok end) → All IsDone entries →
    AllTrace waves_voice entries text → IsReady (head legend end.world) before stage → ShowsAll before entries text
all-shown legend end [] stage before text f h x ready = x
all-shown legend end (e ∷ entries) stage before text f h x ready =
    let later = All-tail IsDone e entries h in
    one-shown legend end e entries before x.0 x.1 text x.4 (All-head IsDone e entries h)
    (subst (IsReady (head legend end.world) before) (sym f.0) ready) x.2
    (λ after is. alike-end entries e.after after end is f.1 later)
    (λ b on. all-shown legend end entries e.after b x.1 f.1 later x.3 on)

pub shows-run : NoListHasTwoTrees → ActKeepsNodes → DumpsShowTheRun
shows-run trees keeps bytes dump x =
    let run = x.0 in
    let bus = x.2.0 in
    let start = head (legend_of bus.notes) bus.world in
    let follow : Follow fresh run.entries (Ok bus) = subst (Follow fresh run.entries) x.2.1 (run-follows bytes run x.1) in
    record {
      run = run;
      is = x.1;
      bus = bus;
      end = x.2.1;
      changes = x.2.2.changes;
      text_is = x.2.2.text_is;
      shows = all-shown (legend_of bus.notes) bus run.entries fresh start x.2.2.changes follow (each-done trees keeps bytes run x.1).each x.2.2.told refl;
    }
