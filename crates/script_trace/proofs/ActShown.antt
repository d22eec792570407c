-- The signals that are shown of an act are those that it sent.
use Rattle.std.proofs.Common.{◌≡◌, ◌≢◌, ◌⊎◌, inl, inr, ◌==◌, ◌≤◌, slice_get, slice_index_or, arith, ℕ, Bool, true, false, List, [], ◌∷◌, Option, None, Some, drop, length, map, refl, sym, ◌∙◌, ap, subst}
use Rattle.std.specs.Int.{bit_at}
use Rattle.std.specs.Prelude.{IsSomeAnd}
use Rattle.std.proofs.Math.Seq.{drop-append_seam, drop-length}
use Rattle.std.proofs.Math.ListN.{drop_of_length-le}
use Rattle.std.proofs.lemmas.Bool.{eqb-true, false≢true}
use Rattle.std.proofs.lemmas.List.{get_or_past}
use Rattle.std.proofs.lemmas.Option.{slice_get_cases}
use Rattle.cabling.specs.declared.cable.End.{End}
use Rattle.cabling.specs.Wiring.{Wiring, far}
use Rattle.port_state.specs.declared.signal.Signal.{Signal}
use Rattle.port_state.specs.declared.signal.Signal.TheVariants as signal
use Rattle.port_state.specs.Config.{config_packet}
use Rattle.port_state.specs.Machine.{PortNode, NodeStep, node_disturb, node_plugged, node_pulled, node_set_config}
use Rattle.cable_world.specs.declared.act.Act.{Act}
use Rattle.cable_world.specs.declared.act.Act.TheVariants.{Plug, Pull, Reset, Config}
use Rattle.cable_world.specs.declared.wire.Travelling.{Travelling}
use Rattle.cable_world.specs.Wire.{Wire, new_signal, add_signals}
use Rattle.cable_world.specs.World.{CableWorld, NodeNumber, wire_of}
use Rattle.cable_world.specs.Act.{act_fault}
use Rattle.cable_world.specs.Lawful.{IsLawful}
use Rattle.cable_world.specs.StaysLawful.{KeptByActs}
use Rattle.world_laws.specs.ByNumber.{BeginsReset, NodeStands, WiresStand, Changes, Configures, ActsByNumber}
use Rattle.script_text.specs.ReportText.{Names}
use Rattle.script_trace.specs.Event.{head, sent_lines}
use Rattle.script_trace.specs.Shown.{signal_lines}
use Rattle.script_trace.specs.ActShown.{BeginsAt, act_sent_lines, ShowsItsResets, ActsShowTheirResets}
use Rattle.script_trace.proofs.Shown.{new-lines}

-- no cable is where no node is
far-past : (c : Wiring) (end : End) → length c ≤ end.node → far c end ≡ None
far-past c end past =
    ap (λ (row : List (Option End)). slice_index_or row end.port None) (get_or_past c end.node [] past)
    ∙ get_or_past {X = Option End} [] end.port None (omega arith)

module _ (names : Names) (w v : CableWorld) where
  -- signals were sent behind what was under way
  sent-behind :
      (end : End) (ss : List Signal) → wire_of v end ≡ add_signals ss (wire_of w end) →
      act_sent_lines names w v end ≡ signal_lines (head names v.turns end.node) end.port ss
  sent-behind end ss is =
      ap (λ (x : Wire). sent_lines (head names v.turns end.node) end.port (drop (length (wire_of w end).signals) x.signals)) is
      ∙ ap (sent_lines (head names v.turns end.node) end.port) (drop-append_seam (wire_of w end).signals (map new_signal ss))
      ∙ new-lines (head names v.turns end.node) end.port ss

  -- the wire stands
  none-sent : (end : End) → wire_of v end ≡ wire_of w end → act_sent_lines names w v end ≡ []
  none-sent end is =
      ap (λ (x : Wire). sent_lines (head names v.turns end.node) end.port (drop (length (wire_of w end).signals) x.signals)) is
      ∙ ap (sent_lines (head names v.turns end.node) end.port) (drop-length (wire_of w end).signals)

  begun :
      (k : NodeNumber) (step : PortNode → NodeStep) → BeginsReset w v k step → (end other : End) → end.node ≡ k →
      far v.cabling end ≡ Some other →
      act_sent_lines names w v end ≡ signal_lines (head names v.turns end.node) end.port (signal.Reset ∷ [])
  begun k step b end other at joined = sent-behind end (signal.Reset ∷ []) (b.wires end other at joined)

  drop-none : (n : ℕ) → ◌≡◌ {A = List Travelling} (drop n []) []
  drop-none n = drop_of_length-le {A = Travelling} [] {i = n} (omega arith)

  none-unplugged : IsLawful v → (end : End) → far v.cabling end ≡ None →
      act_sent_lines names w v end ≡ []
  none-unplugged l end free =
      ap (λ (x : Wire). sent_lines (head names v.turns end.node) end.port (drop (length (wire_of w end).signals) x.signals)) (l.well_formed.unplugged end free)
      ∙ ap (sent_lines (head names v.turns end.node) end.port) (drop-none (length (wire_of w end).signals))

-- ---- each act

module _ (names : Names) (w v : CableWorld) (l : IsLawful v) where
  of-two :
      (a : Act) (i j : NodeNumber) (f g : PortNode → NodeStep) → BeginsReset w v i f → BeginsReset w v j g →
      ((k : NodeNumber) → k ≢ i → k ≢ j → NodeStands w v k) →
      ((k : NodeNumber) → BeginsAt a w k → (k ≡ i) ⊎ (k ≡ j)) →
      ((k : NodeNumber) → (k ≡ i) ⊎ (k ≡ j) → BeginsAt a w k) → ShowsItsResets names a w v
  of-two a i j f g x y stand either at = record {
    resets = λ end other begins joined. elim (either end.node begins) [
      | inl is ↦ begun names w v i f x end other is joined
      | inr is ↦ begun names w v j g y end other is joined
    ];
    others = λ end none. none-sent names w v end
        ((stand end.node (λ is. none (at end.node (inl is))) (λ is. none (at end.node (inr is)))).wires end refl);
    unplugged = none-unplugged names w v l;
  }

  of-one :
      (a : Act) (i : NodeNumber) (f : PortNode → NodeStep) → BeginsReset w v i f →
      ((k : NodeNumber) → k ≢ i → WiresStand w v k) → ((k : NodeNumber) → BeginsAt a w k → k ≡ i) →
      ((k : NodeNumber) → k ≡ i → BeginsAt a w k) → ShowsItsResets names a w v
  of-one a i f x stand is at = record {
    resets = λ end other begins joined. begun names w v i f x end other (is end.node begins) joined;
    others = λ end none. none-sent names w v end (stand end.node (λ e. none (at end.node e)) end refl);
    unplugged = none-unplugged names w v l;
  }

  -- the nodes of a component heard a packet, and the others stand
  of-config :
      (a : Act) (from set : ℕ) (heard : PortNode → PortNode) → IsLawful w → Configures w v from heard set →
      ((k : NodeNumber) → BeginsAt a w k → k ≡ from) → ((k : NodeNumber) → k ≡ from → BeginsAt a w k) →
      ShowsItsResets names a w v
  of-config a from set heard old c is at = record {
    resets = λ end other begins joined. begun names w v from (λ x. node_disturb (heard x)) c.resets end other (is end.node begins) joined;
    others = λ end none. alone end (λ e. none (at end.node e));
    unplugged = none-unplugged names w v l;
  }
    where
      alone : (end : End) → end.node ≢ from → act_sent_lines names w v end ≡ []
      alone end ne = elim (slice_get_cases w.nodes end.node).1 [
        | inl x ↦ by x.0 x.2 (bit_at set end.node == 1) refl
        | inr past ↦ none-unplugged names w v l end (far-past v.cabling end (omega (arith, past.0, old.well_formed.count, ap length c.cables)))
      ]
        where
          by :
              (x : PortNode) → slice_get w.nodes end.node ≡ Some x → (b : Bool) → (bit_at set end.node == 1) ≡ b →
              act_sent_lines names w v end ≡ []
          by x at true e = none-sent names w v end ((c.hear end.node x (eqb-true (bit_at set end.node) 1 e) ne at).1 end refl)
          by x at false e =
              none-sent names w v end ((c.others end.node (λ inside. false≢true (sym e ∙ ap (λ (n : ℕ). n == 1) inside))).wires end refl)

pub acts-shown : ActsByNumber → KeptByActs IsLawful → ActsShowTheirResets
acts-shown numbers kept names a w v did lawful =
    by a did.1 (kept a w v did lawful) (numbers a w v did lawful)
  where
    by : (a : Act) → act_fault a w ≡ None → IsLawful v → Changes a w v → ShowsItsResets names a w v
    by (Plug a b) none l c = of-two names w v l (Plug a b) a.node b.node (node_plugged a.port) (node_plugged b.port) c.node_a c.node_b c.others (λ k e. e) (λ k e. e)
    by (Pull a) none l (b, c) =
        of-two names w v l (Pull a) a.node b.node (node_pulled a.port) (node_pulled b.port) c.node_a c.node_b c.others
        (λ k e. elim e [ inl is ↦ inl is | inr is ↦ inr (subst (λ (o : Option End). IsSomeAnd o (λ z. k ≡ z.node)) c.cables.joined is) ])
        (λ k e. elim e [ inl is ↦ inl is | inr is ↦ inr (subst (λ (o : Option End). IsSomeAnd o (λ z. k ≡ z.node)) (sym c.cables.joined) is) ])
    by (Reset node) none l c = of-one names w v l (Reset node) node node_disturb c.resets (λ k ne. (c.others k ne).wires) (λ k e. e) (λ k e. e)
    by (Config from root_id force gap) none l (set, c) =
        of-config names w v l (Config from root_id force gap) from set (node_set_config (config_packet root_id force gap)) lawful c (λ k e. e) (λ k e. e)
