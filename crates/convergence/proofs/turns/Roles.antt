-- How a node comes to its roles in a turn.
use Rattle.std.proofs.Common.{◌≡◌, ◌⊎◌, inl, inr, ℕ, ◌≤◌, Bool, true, false, not, ◌&&◌, ◌||◌, List, Option, Some, None, is_some, refl, sym, ◌∙◌, ap, subst, true≢false}
use Rattle.std.proofs.lemmas.Bool.{eqb-true, eq-eqb, or_left, or_right, or_cases, and_from, and_parts, false_from_ne_true}
use Rattle.port_state.specs.declared.signal.Level.TheVariants as level
use Rattle.convergence.proofs.Common.{Phase, Signal, NodeState, is_connected, is_port, Row, raise_timer, next_row, does, tick, on_beat, FitsPhase, IsValid, is_before_tree, level_shown, leads_down, child-if, late-roles, not-both, HearsWell, TicksWell, risen, Chosen, chosen, hear_all, contrary}
use Rattle.port_state.specs.declared.signal.Phase.TheVariants as phase
use Rattle.port_state.specs.Row as row
use Rattle.cable_world.specs.Phases.{is_contending}
use Rattle.cable_world.proofs.Lemmas.{early-childless, EntersReset}

-- ---- before the tree

abbrev pub is_tree_start : Phase → Bool
is_tree_start phase.TreeStart = true
is_tree_start h = false

pub early-parentless :
    (x : NodeState) → IsValid x → is_before_tree x.view.phase ≡ true → x.view.parent ≡ None
early-parentless x v h = fits x.view.phase h v.fits
  where
    fits :
        (h : Phase) → is_before_tree h ≡ true → FitsPhase h x.view.parent x.view.ports →
        x.view.parent ≡ None
    fits phase.ResetStart e f = f.1
    fits phase.ResetWait e f = f.1
    fits phase.TreeStart e f = f.1
    fits h e f = absurd cc

-- a node with a parent port knows its tree
pub parent-late :
    (x : NodeState) → IsValid x → (k : ℕ) → is_port x.view.parent k ≡ true →
    is_before_tree x.view.phase ≡ false
parent-late x v k p = false_from_ne_true _ (λ e. contrary p (ap (λ o. is_port o k) (early-parentless x v e)))

pub child-late :
    (x : NodeState) → IsValid x → (k : ℕ) → leads_down x.view.ports k ≡ true →
    is_before_tree x.view.phase ≡ false
child-late x v k c = false_from_ne_true _ (λ e. not-both (leads_down x.view.ports k) c (early-childless x v k e))

-- ---- a tick

-- a node gets a parent port in T0 alone
parent-by :
    (coin : Bool) (r : Row) (x : NodeState) (k : ℕ) → Chosen r x →
    is_port (does coin r x).state.view.parent k ≡ true → (is_port x.view.parent k ≡ true)
    ⊎ (x.view.phase ≡ phase.TreeStart)
parent-by coin row.takes_roles x k c h = inr c.0
parent-by coin (row.takes_rival p) x k c h = absurd (true≢false (sym h))
parent-by coin r x k c h = inl h

tick-parent-was :
    (coin : Bool) (x : NodeState) (k : ℕ) → is_port (tick coin x).state.view.parent k ≡ true →
    (is_port x.view.parent k ≡ true) ⊎ (x.view.phase ≡ phase.TreeStart)
unfolding tick
tick-parent-was coin x k h = parent-by coin (next_row x) (raise_timer x) k (chosen x.view.phase (raise_timer x) refl) h

pub parent-was :
    (b : Option Bool) (x : NodeState) (k : ℕ) → is_port (on_beat b x).state.view.parent k ≡ true →
    (is_port x.view.parent k ≡ true) ⊎ (x.view.phase ≡ phase.TreeStart)
parent-was None x k h = inl h
parent-was (Some coin) x k h = tick-parent-was coin x k h

-- ---- a turn

-- a node takes its roles: at the end of T0, or when it loses a contention
abbrev pub takes : NodeState → NodeState → Bool
takes x y = (is_tree_start x.view.phase && not (is_before_tree y.view.phase)) || (is_contending x.view.phase && not (is_some y.view.parent))

takes-tree :
    (x y : NodeState) → x.view.phase ≡ phase.TreeStart → is_before_tree y.view.phase ≡ false →
    takes x y ≡ true
takes-tree x y t e = or_left _ _ (and_from _ _ (ap is_tree_start t) (ap not e))

takes-flip :
    (x y : NodeState) → x.view.phase ≡ phase.Contend → is_some y.view.parent ≡ false →
    takes x y ≡ true
takes-flip x y t e = or_right _ _ (and_from _ _ (ap is_contending t) (ap not e))

-- one that takes roles and has a parent port afterwards was in T0
pub takes-start :
    (x y : NodeState) (k : ℕ) → takes x y ≡ true → is_port y.view.parent k ≡ true →
    x.view.phase ≡ phase.TreeStart
takes-start x y k t p = elim (or_cases (in_start && not (is_before_tree y.view.phase)) (contends && not (is_some y.view.parent)) t) [
  | inl a ↦ is x.view.phase (and_parts in_start (not (is_before_tree y.view.phase)) a).0
  | inr a ↦ contrary p (none y.view.parent (and_parts contends (not (is_some y.view.parent)) a).1)
]
  where
    in_start : Bool
    in_start = is_tree_start x.view.phase

    contends : Bool
    contends = is_contending x.view.phase

    is : (h : Phase) → is_tree_start h ≡ true → h ≡ phase.TreeStart
    is phase.TreeStart e = refl
    is h e = absurd (true≢false (sym e))

    none : (o : Option ℕ) → not (is_some o) ≡ true → is_port o k ≡ false
    none None e = refl
    none (Some j) e = absurd (true≢false (sym e))

module _
    (signals : List (ℕ × Signal)) (b : Option Bool) (x : NodeState) (h : HearsWell signals x)
    (t : TicksWell b (hear_all signals x).state) where
  abbrev heard : NodeState
  heard = (hear_all signals x).state

  abbrev after : NodeState
  after = (on_beat b (hear_all signals x).state).state

  begun-early : EntersReset x (hear_all signals x) → is_before_tree heard.view.phase ≡ true
  begun-early c = ap is_before_tree c.phase

  other-phase : (p : Phase) → p ≡ phase.ResetStart → p ≡ phase.TreeStart → ⊥
  other-phase p a b = cc

  -- a parent port was that before, unless the node took its roles
  pub parent-before :
      (k : ℕ) → is_port after.view.parent k ≡ true → takes x after ≡ false →
      is_port x.view.parent k ≡ true
  parent-before k p none = elim h.cases [
    | inl s ↦ elim (parent-was b heard k p) [
      | inl was ↦ sym (ap (λ o. is_port o k) s.parent) ∙ was
      | inr start ↦ absurd (true≢false
          (sym (takes-tree x after (sym s.phase ∙ start) (parent-late after t.valid k p)) ∙ none))
    ]
    | inr c ↦ elim (parent-was b heard k p) [
      | inl was ↦ contrary was (ap (λ o. is_port o k) (early-parentless heard h.valid (begun-early c)))
      | inr start ↦ absurd (other-phase heard.view.phase c.phase start)
    ]
  ]

  -- a child port was that before, or the node took its roles
  abbrev pub Became : ℕ → Type 0
  Became k =
      (takes x after ≡ true)
      × (((x.view.phase ≡ phase.TreeStart) × (level_shown heard k ≡ level.Parent)) ⊎ (x.view.phase ≡ phase.Contend))

  -- a node whose parent port became a child port has no parent port
  flipped :
      (k : ℕ) → is_connected x.view.ports k ≡ true → leads_down after.view.ports k ≡ true →
      heard.view.phase ≡ phase.Contend → heard.view.parent ≡ Some k →
      is_some after.view.parent ≡ false
  flipped k on c contend parent = go after.view.parent refl
    where
      not-here : is_port after.view.parent k ≡ true → ⊥
      not-here p =
          let e : leads_down after.view.ports k ≡ not (is_port after.view.parent k) =
          child-if after.view.parent after.view.ports k (late-roles after t.valid (child-late after t.valid k c)) (t.cables k ∙ h.cables k ∙ on) in
          contrary c (e ∙ ap not p)

      phases : (p : Phase) → p ≡ phase.Contend → p ≡ phase.TreeStart → ⊥
      phases p a b = cc

      go : (o : Option ℕ) → after.view.parent ≡ o → is_some o ≡ false
      go None e = refl
      go (Some j) e =
          let p : is_port after.view.parent j ≡ true = ap (λ o. is_port o j) e ∙ eq-eqb j j refl in
          absurd (elim (parent-was b heard j p) [
            | inl was ↦
                let same : k ≡ j = eqb-true k j (sym (ap (λ o. is_port o j) parent) ∙ was) in
                not-here (subst (λ i. is_port after.view.parent i ≡ true) (sym same) p)
            | inr start ↦ phases heard.view.phase contend start
          ])

  pub child-before :
      (k : ℕ) → is_connected x.view.ports k ≡ true → leads_down after.view.ports k ≡ true →
      (leads_down x.view.ports k ≡ true) ⊎ Became k
  child-before k on c = elim h.cases [
    | inl s ↦ elim (t.child k (h.cables k ∙ on) c) [
      | inl was ↦ inl (sym (s.child k) ∙ was)
      | inr new ↦ elim new [
        | inl a ↦ inr (takes-tree x after (sym s.phase ∙ a.0) (child-late after t.valid k c), inl (sym s.phase ∙ a.0, a.1))
        | inr a ↦ inr (takes-flip x after (sym s.phase ∙ a.0) (flipped k on c a.0 a.1), inr (sym s.phase ∙ a.0))
      ]
    ]
    | inr e ↦ absurd (begun e (t.child k (h.cables k ∙ on) c))
  ]
    where
      phases : (p : Phase) → p ≡ phase.ResetStart → p ≡ phase.Contend → ⊥
      phases p a b = cc

      begun :
          EntersReset x (hear_all signals x) → (leads_down heard.view.ports k ≡ true)
          ⊎ (((heard.view.phase ≡ phase.TreeStart) × (level_shown heard k ≡ level.Parent)) ⊎
          ((heard.view.phase ≡ phase.Contend) × (heard.view.parent ≡ Some k)
          × (level_shown heard k ≡ level.Parent) × (heard.view.wait ≤ risen heard.view.timer))) → ⊥
      begun b (inl was) = not-both (leads_down heard.view.ports k) was (early-childless heard h.valid k (begun-early b))
      begun b (inr (inl a)) = other-phase heard.view.phase b.phase a.0
      begun b (inr (inr a)) = phases heard.view.phase b.phase a.0
