-- On a cable whose two ends are in self identify or A0, one list follows the other.
use Rattle.std.proofs.Common.{◌≡◌, ◌⊎◌, inl, inr, ℕ, Bool, true, false, not, List, [], ◌++◌, Some, slice_get, refl, sym, ◌∙◌, ap}
use Rattle.std.proofs.lemmas.Bool.{false_from_ne_true}
use Rattle.outcomes.proofs.Common.{Signal, is_port, hears_packets, PortNode, End, far, CableWorld, wire_of, signals_of, has_reset, leads_down, IsLawful, child-if, cable-connected, late-roles, no-packets, quads_in, kept, Line, Lined, IsIdentifying}
use Rattle.outcomes.specs.Identify.{speaks}
use Rattle.outcomes.specs.Lists.{Follows, ListsFollow}
use Rattle.outcomes.proofs.identify.Messages.{kept-room}
use Rattle.outcomes.proofs.identify.MarksKept.{hears-late}

-- ---- one line

line-lists :
    {a n g r : Bool} {above below : List ℕ} {down up : List Signal} →
    Line a n g r above below down up →
    ((below ++ quads_in down ≡ above) × (quads_in up ≡ []))
    ⊎ ((above ++ quads_in up ≡ below) × (quads_in down ≡ []))
line-lists {a} {n} {g} {r} {above} {below} {down} {up} l = go (speaks g n) refl
  where
    go :
        (b : Bool) → speaks g n ≡ b → ((below ++ quads_in down ≡ above) × (quads_in up ≡ []))
        ⊎ ((above ++ quads_in up ≡ below) × (quads_in down ≡ []))
    go false e =
        let none = l.no_up e in
        inl (sym (kept-room below (quads_in down) l.room_down) ∙ sym l.agree ∙ ap (kept above) none, none)
    go true e =
        let none = l.no_down e in
        inr (sym (kept-room above (quads_in up) l.room_up) ∙ l.agree ∙ ap (kept below) none, none)

-- ---- a cable

-- the first node is the parent of the second
pub record IsAbove (w : CableWorld) (a b : End) (x y : PortNode) : Type 0 where
  pub child : leads_down x.state.view.ports a.port ≡ true
  pub parent : is_port y.state.view.parent b.port ≡ true
  pub line :
      Lined x.state a.port (signals_of (wire_of w a).signals)
      y.state (signals_of (wire_of w b).signals)

module _ (w : CableWorld) (l : IsLawful w) (i : IsIdentifying w) where
  calm :
      (a b : End) (x y : PortNode) → far w.cabling a ≡ Some b → slice_get w.nodes a.node ≡ Some x →
      slice_get w.nodes b.node ≡ Some y → hears_packets x.state.view.phase ≡ true →
      has_reset (signals_of (wire_of w a).signals) ≡ false
  calm a b x y e at_x at_y h = false_from_ne_true _ (λ r. no-packets x.state.view.phase ((l.coupled.cables a b x y e at_x at_y).reset r) h)

  pub child-above :
      (a b : End) (x y : PortNode) → far w.cabling a ≡ Some b → slice_get w.nodes a.node ≡ Some x →
      slice_get w.nodes b.node ≡ Some y → hears_packets x.state.view.phase ≡ true →
      hears_packets y.state.view.phase ≡ true → leads_down x.state.view.ports a.port ≡ true →
      IsAbove w a b x y
  child-above a b x y e at_x at_y hx hy child =
      let back : far w.cabling b ≡ Some a = l.well_formed.cabling.both_ways a b e in
      let parent : is_port y.state.view.parent b.port ≡ true = ((l.coupled.cables a b x y e at_x at_y).child child (calm b a y x back at_y at_x hy)).0 in
      record { child = child; parent = parent; line = (i.cables a b x y e at_x at_y).line child parent hx }

  pub parent-below :
      (a b : End) (x y : PortNode) → far w.cabling a ≡ Some b → slice_get w.nodes a.node ≡ Some x →
      slice_get w.nodes b.node ≡ Some y → hears_packets x.state.view.phase ≡ true →
      hears_packets y.state.view.phase ≡ true → is_port x.state.view.parent a.port ≡ true →
      IsAbove w b a y x
  parent-below a b x y e at_x at_y hx hy parent =
      let back : far w.cabling b ≡ Some a = l.well_formed.cabling.both_ways a b e in
      child-above b a y x back at_y at_x hy hx ((i.greets a b x y e at_x at_y).accepted hx parent (calm b a y x back at_y at_x hy))

  pub one-above :
      (a b : End) (x y : PortNode) → far w.cabling a ≡ Some b → slice_get w.nodes a.node ≡ Some x →
      slice_get w.nodes b.node ≡ Some y → hears_packets x.state.view.phase ≡ true →
      hears_packets y.state.view.phase ≡ true → IsAbove w a b x y ⊎ IsAbove w b a y x
  one-above a b x y e at_x at_y hx hy = go (is_port x.state.view.parent a.port) refl
    where
      go :
          (p : Bool) → is_port x.state.view.parent a.port ≡ p →
          IsAbove w a b x y ⊎ IsAbove w b a y x
      go true p = inr (parent-below a b x y e at_x at_y hx hy p)
      go false p =
          let child : leads_down x.state.view.ports a.port ≡ true =
          child-if x.state.view.parent x.state.view.ports a.port (late-roles x.state (l.well_formed.nodes a.node x at_x).valid (hears-late x.state.view.phase hx)) (cable-connected w a b x l.well_formed e at_x) ∙ ap not p in
          inl (child-above a b x y e at_x at_y hx hy child)

  follows-of :
      (a b : End) (x y : PortNode) → IsAbove w a b x y → Follows w a b x y ⊎ Follows w b a y x
  follows-of a b x y r = elim (line-lists r.line) [
    | inl s ↦ inl (record { joined = s.0; none = s.1 })
    | inr s ↦ inr (record { joined = s.0; none = s.1 })
  ]

  pub lists-follow : ListsFollow w
  lists-follow a b x y e at_x at_y hx hy = elim (one-above a b x y e at_x at_y hx hy) [
    | inl r ↦ follows-of a b x y r
    | inr r ↦ elim (follows-of b a y x r) [ inl f ↦ inr f | inr f ↦ inl f ]
  ]
