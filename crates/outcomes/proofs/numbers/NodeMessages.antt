-- What a node shows, and what messages make of its list.
use Rattle.std.proofs.Common.{◌≡◌, inl, inr, ℕ, zero, suc, ◌+◌, Bool, true, false, not, ◌&&◌, append-nil, List, [], ◌∷◌, ◌++◌, length, replicate, ◌-◌, Option, None, refl, sym, ◌∙◌, ap, arith, true≢false, if◌then◌else◌}
use Rattle.std.proofs.lemmas.Bool.{and_parts, cases_lt}
use Rattle.outcomes.proofs.Common.{contrary, Node, Signal, PortView, NodeState, is_port, with_port, shown_attrs, shown_node, slot_count, IsValid, port_is-changed, leads_down, is_ready, is_asked, is_named, IsMarked, silent, quads_in, kept, Mode, parent_mode, child_mode, mode_of, mode, allows, next, fits, StandsAt}
use Rattle.self_id.specs.declared.node.PortStatus.TheVariants.{Absent, Unplugged, Up, Down}
use Rattle.self_id.specs.declared.node.PortStatus.{PortStatus}
use Rattle.port_state.specs.declared.signal.Signal.TheVariants as signal
use Rattle.port_state.specs.Group.{status, statuses_from}
use Rattle.outcomes.proofs.identify.Messages.{IsKind, has-first, has-rest, after-one, quads-append, silent-quads}
use Rattle.outcomes.proofs.identify.LinedHears.{with}

-- ---- what a node shows

pub statuses-alike :
    (k : ℕ) (o : Option ℕ) (ps qs : List PortView) → length ps ≡ length qs →
    ((i : ℕ) → leads_down ps i ≡ leads_down qs i) → statuses_from k o ps ≡ statuses_from k o qs
statuses-alike k o [] [] e h = refl
statuses-alike k o [] (q ∷ qs) e h = absurd (omega (arith, e))
statuses-alike k o (p ∷ ps) [] e h = absurd (omega (arith, e))
statuses-alike k o (p ∷ ps) (q ∷ qs) e h =
    ap (λ (b : Bool). (if is_port o k then Up else (if b then Down else Unplugged)) ∷ statuses_from
    (k + 1) o ps) (h zero)
    ∙ ap (λ (ss : List PortStatus). status (is_port o k) q ∷ ss)
    (statuses-alike (k + 1) o ps qs (omega (arith, e)) (λ i. h (suc i)))

pub shown-port :
    (k : ℕ) (f : PortView → PortView) (x : NodeState) → IsValid x → IsValid (with_port k f x) →
    ((p : PortView) → (f p).child ≡ p.child) → shown_node (with_port k f x) ≡ shown_node x
shown-port k f x v u c =
    ap (λ (ss : List PortStatus). node (ss ++ replicate-rest))
    (statuses-alike 0 x.view.parent (with_port k f x).view.ports x.view.ports
    (u.bounded.views ∙ sym v.bounded.views) (port_is-changed (λ p. p.child) k f c x.view.ports))
  where
    replicate-rest : List PortStatus
    replicate-rest = replicate (slot_count x.ports - x.ports) Absent

    node : List PortStatus → Node
    node ss = record { attrs = shown_attrs x; ports = ss; kept_a = 0; kept_b = 0 }

-- ---- signals

-- where one of a kind is among these, the list will be this once their packets are heard
abbrev pub Owes : (List Signal → Bool) → List ℕ → List ℕ → List Signal → Type 0
Owes has list end ss = has ss ≡ true → kept list (quads_in ss) ≡ end

module _
    {one : Signal} {test : Signal → Bool} {has : List Signal → Bool} (kind : IsKind one test has)
    (s : Signal) (ss : List Signal) (list end : List ℕ) where
  -- another signal that comes, no packet, changes nothing of that
  pub owes-still :
      (b : Bool) → quads_in (s ∷ ss) ≡ quads_in ss → Owes has list end (with b s ss) →
      Owes has list end ss
  owes-still true same o h = ap (kept list) (sym same) ∙ o (has-rest kind s ss h)
  owes-still false same o h = o h

  -- and when it comes itself the list is this
  pub owes-now :
      (m : Mode) (b : Bool) → b ≡ true → test s ≡ true → fits m (s ∷ ss) ≡ true →
      Owes has list end (with b s ss) → list ≡ end
  owes-now m true e t f o =
      sym (ap (kept list) (kind.no_packet s ss t ∙ silent-quads ss (after-one kind m s ss t f)))
      ∙ o (has-first kind s ss t)
  owes-now m false e t f o = absurd (true≢false (sym e))

pub rest-fits :
    (m : Mode) (s : Signal) (ss : List Signal) → fits m (s ∷ ss) ≡ true → (allows m s ≡ true)
    × (fits (next m s) ss ≡ true)
rest-fits m s ss h = and_parts (allows m s) (fits (next m s) ss) h

pub at-port :
    (b : Bool) → b ≡ true → (m : Mode) (s : Signal) (ss : List Signal) → fits m (with b s ss)
    ≡ true → fits m (s ∷ ss) ≡ true
at-port true e m s ss f = f
at-port false e m s ss f = absurd (true≢false (sym e))

-- a node that stands at a port expects no packet
pub no-packet :
    (x : NodeState) (k p quad : ℕ) → IsMarked x → x.view.granted ≡ true →
    is_ready x.view.phase ≡ false → StandsAt x p → allows (mode x k) (signal.Packet quad) ≡ true → ⊥
no-packet x k p quad m g u s a =
    go (is_port x.view.parent k) (is_ready x.view.phase) x.view.granted (is_asked x k)
    (is_named x k) u g refl refl a
  where
    awaited : is_asked x k ≡ true → is_named x k ≡ false → ⊥
    awaited ea en = elim (cases_lt k p) [
      | inl less ↦ contrary (s.named k less (m.asked k ea)) en
      | inr more ↦ contrary ea (s.unasked k more)
    ]

    go :
        (i r b c d : Bool) → r ≡ false → b ≡ true → is_asked x k ≡ c → is_named x k ≡ d →
        allows (mode_of i (parent_mode r b) (child_mode c d)) (signal.Packet quad) ≡ true → ⊥
    go true true b c d er eb ec ed a = true≢false er
    go true false false c d er eb ec ed a = true≢false (sym eb)
    go true false true c d er eb ec ed a = true≢false (sym a)
    go false r b true false er eb ec ed a = awaited ec ed
    go false r b true true er eb ec ed a = true≢false (sym a)
    go false r b false d er eb ec ed a = true≢false (sym a)

-- nor does a root in A0
pub root-packet :
    (x : NodeState) (k quad : ℕ) → IsMarked x → is_ready x.view.phase ≡ true →
    x.view.parent ≡ None → allows (mode x k) (signal.Packet quad) ≡ true → ⊥
root-packet x k quad m r o a =
    go (is_port x.view.parent k) (is_asked x k) (is_named x k) (ap (λ o. is_port o k) o) refl refl a
  where
    go :
        (i c d : Bool) → i ≡ false → is_asked x k ≡ c → is_named x k ≡ d →
        allows (mode_of i (parent_mode (is_ready x.view.phase) x.view.granted) (child_mode c d))
        (signal.Packet quad) ≡ true → ⊥
    go true c d ei ec ed a = true≢false ei
    go false true false ei ec ed a = contrary (m.all_named r k (m.asked k ec)) ed
    go false true true ei ec ed a = true≢false (sym a)
    go false false d ei ec ed a = true≢false (sym a)

pub grant-comes :
    (x : NodeState) (k : ℕ) → is_port x.view.parent k ≡ true → allows (mode x k)
    signal.Grant ≡ true → x.view.granted ≡ false
grant-comes x k i a = go (is_port x.view.parent k) (is_ready x.view.phase) x.view.granted i a
  where
    go :
        (i r g : Bool) → i ≡ true →
        allows (mode_of i (parent_mode r g) (child_mode (is_asked x k) (is_named x k)))
        signal.Grant ≡ true → g ≡ false
    go false r g ei a = absurd (true≢false (sym ei))
    go true true g ei a = absurd (true≢false (sym a))
    go true false true ei a = absurd (true≢false (sym a))
    go true false false ei a = refl

-- ---- what comes to a port, and the bits of a line

pub silent-more :
    (list : List ℕ) (xs ys : List Signal) → silent ys ≡ true →
    kept list (quads_in (xs ++ ys)) ≡ kept list (quads_in xs)
silent-more list xs ys e =
    ap (kept list) (quads-append xs ys ∙ ap (λ qs. quads_in xs ++ qs) (silent-quads ys e)
    ∙ append-nil (quads_in xs))

pub not-then : (a b : Bool) → (a && not b) ≡ false → b ≡ false → a ≡ false
not-then true false e f = absurd (true≢false e)
not-then true true e f = absurd (true≢false f)
not-then false b e f = refl

pub speaks-so : (g n : Bool) → g ≡ true → n ≡ false → (g && not n) ≡ true
speaks-so g n e f = grind arith

pub mute-so : (g n : Bool) → g ≡ false → (g && not n) ≡ false
mute-so g n e = grind arith

pub as-parent :
    (x : NodeState) (j : ℕ) (ss : List Signal) → is_port x.view.parent j ≡ true →
    fits (parent_mode (is_ready x.view.phase) x.view.granted) ss ≡ true → fits (mode x j) ss ≡ true
as-parent x j ss e f =
    ap (λ b. fits (mode_of b (parent_mode (is_ready x.view.phase) x.view.granted)
    (child_mode (is_asked x j) (is_named x j))) ss) e ∙ f

pub as-child :
    (x : NodeState) (j : ℕ) (ss : List Signal) → is_port x.view.parent j ≡ false →
    fits (child_mode (is_asked x j) (is_named x j)) ss ≡ true → fits (mode x j) ss ≡ true
as-child x j ss e f =
    ap (λ b. fits (mode_of b (parent_mode (is_ready x.view.phase) x.view.granted)
    (child_mode (is_asked x j) (is_named x j))) ss) e ∙ f
