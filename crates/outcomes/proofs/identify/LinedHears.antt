-- Hearing keeps what is so of a child cable, at either end of it.
use Rattle.std.proofs.Common.{◌≡◌, ℕ, ◌+◌, ◌≤◌, length, Bool, true, false, not, ◌&&◌, ◌==◌, List, [], ◌∷◌, ◌++◌, refl, sym, ◌∙◌, ap, subst, append-nil, arith, true≢false, if◌then◌else◌}
use Rattle.std.proofs.lemmas.Bool.{eq-eqb, eqb-true, eqb-false, and_parts, false_from_ne_true}
use Rattle.outcomes.proofs.Common.{contrary, Level, Signal, PortView, NodeState, is_connected, is_port, sent_on, silent_step, is_identifying, hears_packets, with_packet, with_level, hears, is_heard, on_signal, IsValid, sound-on_signal, port_is-changed, leads_down, only, is_ready, is_asked, is_named, IsMarked, is_message, silent, quads_in, Mode, parent_mode, child_mode, mode_of, mode, allows, fits, Line, Lined, same-port}
use Rattle.port_state.specs.declared.signal.Level.TheVariants as level
use Rattle.port_state.specs.declared.signal.Signal.TheVariants as signal
use Rattle.port_state.proofs.Lemmas.{on_others-port}
use Rattle.cable_world.proofs.Lemmas.{turned}
use Rattle.outcomes.proofs.identify.Messages.{silent-append, silent-quads, shut-silent}
use Rattle.outcomes.proofs.identify.Lines.{up-level, down-level, level-fits, packet-fits, up-packet, down-packet, up-done, down-grant, packet-length, sends-down, sends-up}
use Rattle.outcomes.proofs.identify.Ports.{changed-other, changed-here, child-role}
use Rattle.outcomes.proofs.identify.MarksKept.{hears-late, identifying-is, awaited-one}
use Rattle.outcomes.proofs.identify.Hearing.{message-port, message-heard, parent-connected, none-awaited, speaking, level-asked, level-named, reset-heard}

-- what comes to one port, or elsewhere
abbrev pub with : Bool → Signal → List Signal → List Signal
with b s ss = if b then s ∷ ss else ss

-- a signal that isn't heard is a level
pub unheard-level :
    (k : ℕ) (s : Signal) (x : NodeState) → IsValid x → IsMarked x →
    hears_packets x.view.phase ≡ true → allows (mode x k) s ≡ true → is_heard k s x ≡ false →
    is_message s ≡ false
unheard-level k s x v m h a e = false_from_ne_true _ (λ t. contrary (message-heard k s x v m h (message-port k s x v m h t a) t a) e)

-- ---- above

module _
    (k : ℕ) (x : NodeState) (p : ℕ) (there : List Signal) (y : NodeState) (back : List Signal)
    (v : IsValid x) (m : IsMarked x) (h : hears_packets x.view.phase ≡ true)
    (d : leads_down x.view.ports p ≡ true) where
  above-passes :
      (s : Signal) → is_message s ≡ false → Lined x p there y (with (k == p) s back) →
      Lined x p (there ++ []) y back
  above-passes s t l = subst (λ ss. Lined x p ss y back) (sym (append-nil there)) (go (k == p) l)
    where
      go : (b : Bool) → Lined x p there y (with b s back) → Lined x p there y back
      go true l = up-level s t l
      go false l = l

  above-level :
      (lv : Level) (s : Signal) → is_message s ≡ false → Lined x p there y (with (k == p) s back) →
      Lined (with_level k lv x) p (there ++ []) y back
  above-level lv s t l = rw (level-asked k lv x p, level-named k lv x p) (above-passes s t l)

  above-grant :
      is_port x.view.parent k ≡ true → Lined x p there y (with (k == p) signal.Grant back) →
      Lined x p (there ++ []) y back
  above-grant i l = subst (λ ss. Lined x p ss y back) (sym (append-nil there)) (go (k == p) refl l)
    where
      go :
          (b : Bool) → (k == p) ≡ b → Lined x p there y (with b signal.Grant back) →
          Lined x p there y back
      go true e l = contrary i (ap (is_port x.view.parent) (eqb-true k p e) ∙ (child-role x p v (hears-late x.view.phase h) d).0)
      go false e l = l

  above-packet :
      (quad : ℕ) → allows (mode x k) (signal.Packet quad) ≡ true → length x.list.items + 1 ≤ 252 →
      Lined x p there y (with (k == p) (signal.Packet quad) back) →
      Lined (hears k (signal.Packet quad) x).state p (there ++ sent_on p (hears k (signal.Packet quad) x).sends)
      y back
  above-packet quad a free l = subst (λ ss. Lined (hears k (signal.Packet quad) x).state p (there ++ ss) y back) (sym (on_others-port p k (signal.Packet quad) x.view.ports)) (go (k == p) refl l)
    where
      on : is_connected x.view.ports p ≡ true
      on = (child-role x p v (hears-late x.view.phase h) d).1

      go :
          (b : Bool) → (k == p) ≡ b → Lined x p there y (with b (signal.Packet quad) back) →
          Lined (hears k (signal.Packet quad) x).state p (there ++ only (not (p == k) && is_connected x.view.ports p) (signal.Packet quad))
          y back
      go true e l = rw (turned k p, e) (subst (λ ss. Lined (hears k (signal.Packet quad) x).state p ss y back) (sym (append-nil there)) (up-packet quad l))
      go false e l = rw (turned k p, e, on) (sends-down quad (none-awaited x k p quad m h e d a) free l)

  above-done :
      Lined x p there y (with (k == p) signal.Done back) →
      Lined (hears k signal.Done x).state p (there ++ []) y back
  above-done l = subst (λ ss. Lined (hears k signal.Done x).state p ss y back) (sym (append-nil there)) (rw asked (go (k == p) refl l))
    where
      mark : PortView → PortView
      mark q = record q { named = true }

      asked : is_asked (hears k signal.Done x).state p ≡ is_asked x p
      asked = port_is-changed (λ q. q.asked) k (λ q. record q { named = true }) (λ q. refl) x.view.ports p

      go :
          (b : Bool) → (k == p) ≡ b → Lined x p there y (with b signal.Done back) →
          Line (is_asked x p) (is_named (hears k signal.Done x).state p)
          y.view.granted (is_ready y.view.phase) x.list.items y.list.items there back
      go true e l =
          let now : is_named (hears k signal.Done x).state p ≡ true = changed-here (λ q. q.named) (λ q. q.child) k p (λ q. record q { named = true }) x.view.ports (λ q. refl) (turned k p ∙ e) d in
          rw now (up-done l)
      go false e l =
          let now : is_named (hears k signal.Done x).state p ≡ is_named x p = changed-other (λ q. q.named) k p (λ q. record q { named = true }) x.view.ports (turned k p ∙ e) in
          rw now l

  above-hearing :
      (s : Signal) → is_heard k s x ≡ true → hears_packets (hears k s x).state.view.phase ≡ true →
      allows (mode x k) s ≡ true → length x.list.items + length (quads_in (s ∷ [])) ≤ 252 →
      Lined x p there y (with (k == p) s back) →
      Lined (hears k s x).state p (there ++ sent_on p (hears k s x).sends) y back
  above-hearing signal.Reset e n a free l = absurd (reset-heard k x h n)
  above-hearing signal.Idle e n a free l = above-level level.Idle signal.Idle refl l
  above-hearing signal.Parent e n a free l = above-level level.Parent signal.Parent refl l
  above-hearing signal.Child e n a free l = above-level level.Child signal.Child refl l
  above-hearing signal.Grant e n a free l =
      above-grant (and_parts (is_identifying x.view.phase) (is_port x.view.parent k) (and_parts (is_connected x.view.ports k) (is_identifying x.view.phase && is_port x.view.parent k) e).1).1 l
  above-hearing (signal.Packet quad) e n a free l = above-packet quad a (omega (arith, free)) l
  above-hearing signal.Done e n a free l = above-done l

pub above-hears :
    (k : ℕ) (s : Signal) (x : NodeState) (p : ℕ) (there : List Signal) (y : NodeState)
    (back : List Signal) → IsValid x → IsMarked x → hears_packets x.view.phase ≡ true →
    hears_packets (on_signal k s x).state.view.phase ≡ true → allows (mode x k) s ≡ true →
    length x.list.items + length (quads_in (s ∷ [])) ≤ 252 → leads_down x.view.ports p ≡ true →
    Lined x p there y (with (k == p) s back) →
    Lined (on_signal k s x).state p (there ++ sent_on p (on_signal k s x).sends) y back
unfolding on_signal
above-hears k s x p there y back v m h n a free d l = go (is_heard k s x) refl n
  where
    go :
        (b : Bool) → is_heard k s x ≡ b →
        hears_packets (if b then hears k s x else silent_step x).state.view.phase ≡ true →
        Lined (if b then hears k s x else silent_step x).state p (there ++ sent_on p (if b then hears k s x else silent_step x).sends)
        y back
    go true e n = above-hearing k x p there y back v m h d s e n a free l
    go false e n = above-passes k x p there y back v m h d s (unheard-level k s x v m h a e) l

-- ---- below

module _
    (k : ℕ) (y : NodeState) (q : ℕ) (back : List Signal) (x : NodeState) (p : ℕ)
    (there : List Signal) (v : IsValid y) (m : IsMarked y) (h : hears_packets y.view.phase ≡ true)
    (i : is_port y.view.parent q ≡ true) where
  below-passes :
      (s : Signal) → is_message s ≡ false → Lined x p (with (k == q) s there) y back →
      Lined x p there y (back ++ [])
  below-passes s t l = subst (λ ss. Lined x p there y ss) (sym (append-nil back)) (go (k == q) l)
    where
      go : (b : Bool) → Lined x p (with b s there) y back → Lined x p there y back
      go true l = down-level s t l
      go false l = l

  below-grant :
      is_port y.view.parent k ≡ true → Lined x p (with (k == q) signal.Grant there) y back →
      Lined x p there (hears k signal.Grant y).state (back ++ [])
  below-grant j l = subst (λ ss. Lined x p there (hears k signal.Grant y).state ss) (sym (append-nil back)) (go (k == q) (eq-eqb k q (same-port y.view.parent k q j i)) l)
    where
      go :
          (b : Bool) → b ≡ true → Lined x p (with b signal.Grant there) y back →
          Lined x p there (hears k signal.Grant y).state back
      go true e l = down-grant l
      go false e l = absurd (true≢false (sym e))

  below-packet :
      (quad : ℕ) → allows (mode y k) (signal.Packet quad) ≡ true → length y.list.items + 1 ≤ 252 →
      Lined x p (with (k == q) (signal.Packet quad) there) y back →
      Lined x p there (hears k (signal.Packet quad) y).state (back ++ sent_on q (hears k (signal.Packet quad) y).sends)
  below-packet quad a free l = subst (λ ss. Lined x p there (hears k (signal.Packet quad) y).state (back ++ ss)) (sym (on_others-port q k (signal.Packet quad) y.view.ports)) (go (k == q) refl l)
    where
      other : (k == q) ≡ false → is_port y.view.parent k ≡ false
      other e = false_from_ne_true _ (λ j. eqb-false k q e (same-port y.view.parent k q j i))

      go :
          (b : Bool) → (k == q) ≡ b → Lined x p (with b (signal.Packet quad) there) y back →
          Lined x p there (hears k (signal.Packet quad) y).state (back ++ only (not (q == k) && is_connected y.view.ports q) (signal.Packet quad))
      go true e l = rw (turned k q, e) (subst (λ ss. Lined x p there (hears k (signal.Packet quad) y).state ss) (sym (append-nil back)) (down-packet quad l))
      go false e l =
          let b = speaking y k quad m (other e) a in
          rw (turned k q, e, parent-connected y q v h i, b.0, b.1)
          (sends-up quad free (subst (λ g. Line (is_asked x p) (is_named x p) g false x.list.items y.list.items there back) b.0 (subst (λ r. Line (is_asked x p) (is_named x p) y.view.granted r x.list.items y.list.items there back) b.1 l)))

  below-done :
      leads_down y.view.ports k ≡ true → Lined x p (with (k == q) signal.Done there) y back →
      Lined x p there (hears k signal.Done y).state (back ++ [])
  below-done d l = subst (λ ss. Lined x p there (hears k signal.Done y).state ss) (sym (append-nil back)) (go (k == q) refl l)
    where
      go :
          (b : Bool) → (k == q) ≡ b → Lined x p (with b signal.Done there) y back →
          Lined x p there (hears k signal.Done y).state back
      go true e l = contrary i (ap (is_port y.view.parent) (sym (eqb-true k q e)) ∙ (child-role y k v (hears-late y.view.phase h) d).0)
      go false e l = l

  below-hearing :
      (s : Signal) → is_heard k s y ≡ true → hears_packets (hears k s y).state.view.phase ≡ true →
      allows (mode y k) s ≡ true → length y.list.items + length (quads_in (s ∷ [])) ≤ 252 →
      Lined x p (with (k == q) s there) y back →
      Lined x p there (hears k s y).state (back ++ sent_on q (hears k s y).sends)
  below-hearing signal.Reset e n a free l = absurd (reset-heard k y h n)
  below-hearing signal.Idle e n a free l = below-passes signal.Idle refl l
  below-hearing signal.Parent e n a free l = below-passes signal.Parent refl l
  below-hearing signal.Child e n a free l = below-passes signal.Child refl l
  below-hearing signal.Grant e n a free l =
      below-grant (and_parts (is_identifying y.view.phase) (is_port y.view.parent k) (and_parts (is_connected y.view.ports k) (is_identifying y.view.phase && is_port y.view.parent k) e).1).1 l
  below-hearing (signal.Packet quad) e n a free l = below-packet quad a (omega (arith, free)) l
  below-hearing signal.Done e n a free l =
      below-done (and_parts (is_identifying y.view.phase) (leads_down y.view.ports k) (and_parts (is_connected y.view.ports k) (is_identifying y.view.phase && leads_down y.view.ports k) e).1).1 l

pub below-hears :
    (k : ℕ) (s : Signal) (y : NodeState) (q : ℕ) (back : List Signal) (x : NodeState) (p : ℕ)
    (there : List Signal) → IsValid y → IsMarked y → hears_packets y.view.phase ≡ true →
    hears_packets (on_signal k s y).state.view.phase ≡ true → allows (mode y k) s ≡ true →
    length y.list.items + length (quads_in (s ∷ [])) ≤ 252 → is_port y.view.parent q ≡ true →
    Lined x p (with (k == q) s there) y back →
    Lined x p there (on_signal k s y).state (back ++ sent_on q (on_signal k s y).sends)
unfolding on_signal
below-hears k s y q back x p there v m h n a free i l = go (is_heard k s y) refl n
  where
    go :
        (b : Bool) → is_heard k s y ≡ b →
        hears_packets (if b then hears k s y else silent_step y).state.view.phase ≡ true →
        Lined x p there (if b then hears k s y else silent_step y).state (back ++ sent_on q (if b then hears k s y else silent_step y).sends)
    go true e n = below-hearing k y q back x p there v m h i s e n a free l
    go false e n = below-passes k y q back x p there v m h i s (unheard-level k s y v m h a e) l

-- ---- a child that waits for its grant

-- with nothing on the way to it, it stays so and says nothing
pub record Waiting (y : NodeState) (q : ℕ) (back there : List Signal) : Type 0 where
  pub parent : is_port y.view.parent q ≡ true
  pub ungranted : y.view.granted ≡ false
  pub nothing : y.list.items ≡ []
  pub said : silent back ≡ true
  pub comes : silent there ≡ true

module _
    (k : ℕ) (y : NodeState) (q : ℕ) (back there : List Signal) (m : IsMarked y)
    (h : hears_packets y.view.phase ≡ true) where
  rest-silent : (b : Bool) (s : Signal) → silent (with b s there) ≡ true → silent there ≡ true
  rest-silent true s e = (and_parts (not (is_message s)) (silent there) e).1
  rest-silent false s e = e

  first-silent :
      (b : Bool) (s : Signal) → b ≡ true → is_message s ≡ true → silent (with b s there) ≡ true → ⊥
  first-silent true s e t g = clash (is_message s) t (and_parts (not (is_message s)) (silent there) g).0
    where
      clash : (b : Bool) → b ≡ true → not b ≡ true → ⊥
      clash b t g = grind arith
  first-silent false s e t g = true≢false (sym e)

  said-nil : silent back ≡ true → silent (back ++ []) ≡ true
  said-nil e = silent-append back [] e refl

  waits-hearing :
      (s : Signal) → is_heard k s y ≡ true → hears_packets (hears k s y).state.view.phase ≡ true →
      allows (mode y k) s ≡ true → Waiting y q back (with (k == q) s there) →
      Waiting (hears k s y).state q (back ++ sent_on q (hears k s y).sends) there
  waits-hearing signal.Reset e n a w = absurd (reset-heard k y h n)
  waits-hearing signal.Idle e n a w = record { parent = w.parent; ungranted = w.ungranted; nothing = w.nothing; said = said-nil w.said; comes = rest-silent (k == q) signal.Idle w.comes }
  waits-hearing signal.Parent e n a w = record { parent = w.parent; ungranted = w.ungranted; nothing = w.nothing; said = said-nil w.said; comes = rest-silent (k == q) signal.Parent w.comes }
  waits-hearing signal.Child e n a w = record { parent = w.parent; ungranted = w.ungranted; nothing = w.nothing; said = said-nil w.said; comes = rest-silent (k == q) signal.Child w.comes }
  waits-hearing signal.Done e n a w = record { parent = w.parent; ungranted = w.ungranted; nothing = w.nothing; said = said-nil w.said; comes = rest-silent (k == q) signal.Done w.comes }
  waits-hearing signal.Grant e n a w =
      let j = (and_parts (is_identifying y.view.phase) (is_port y.view.parent k) (and_parts (is_connected y.view.ports k) (is_identifying y.view.phase && is_port y.view.parent k) e).1).1 in
      absurd (first-silent (k == q) signal.Grant (eq-eqb k q (same-port y.view.parent k q j w.parent)) refl w.comes)
  waits-hearing (signal.Packet quad) e n a w = absurd (go (is_port y.view.parent k) refl)
    where
      go : (b : Bool) → is_port y.view.parent k ≡ b → ⊥
      go true j = first-silent (k == q) (signal.Packet quad) (eq-eqb k q (same-port y.view.parent k q j w.parent)) refl w.comes
      go false j = true≢false (sym (speaking y k quad m j a).0 ∙ w.ungranted)

pub waits-hears :
    (k : ℕ) (s : Signal) (y : NodeState) (q : ℕ) (back there : List Signal) → IsMarked y →
    hears_packets y.view.phase ≡ true → hears_packets (on_signal k s y).state.view.phase ≡ true →
    allows (mode y k) s ≡ true → Waiting y q back (with (k == q) s there) →
    Waiting (on_signal k s y).state q (back ++ sent_on q (on_signal k s y).sends) there
unfolding on_signal
waits-hears k s y q back there m h n a w = go (is_heard k s y) refl n
  where
    go :
        (b : Bool) → is_heard k s y ≡ b →
        hears_packets (if b then hears k s y else silent_step y).state.view.phase ≡ true →
        Waiting (if b then hears k s y else silent_step y).state q (back ++ sent_on q (if b then hears k s y else silent_step y).sends)
        there
    go true e n = waits-hearing k y q back there m h s e n a w
    go false e n = record { parent = w.parent; ungranted = w.ungranted; nothing = w.nothing; said = said-nil k y q back there m h w.said; comes = rest-silent k y q back there m h (k == q) s w.comes }

-- ---- what may come to each port

fits-rest :
    (m : Mode) (b : Bool) (s : Signal) (ss : List Signal) → is_message s ≡ false →
    fits m (with b s ss) ≡ true → fits m ss ≡ true
fits-rest m true s ss t f = level-fits m s ss t f
fits-rest m false s ss t f = f

module _
    (k : ℕ) (x : NodeState) (j : ℕ) (ss : List Signal) (v : IsValid x) (m : IsMarked x)
    (h : hears_packets x.view.phase ≡ true) where
  front-level :
      (lv : Level) (s : Signal) → is_message s ≡ false → fits (mode x j) (with (k == j) s ss)
      ≡ true → fits (mode (with_level k lv x) j) ss ≡ true
  front-level lv s t f = rw (level-asked k lv x j, level-named k lv x j) (fits-rest (mode x j) (k == j) s ss t f)

  front-grant :
      is_port x.view.parent k ≡ true → is_ready x.view.phase ≡ false → fits (mode x j)
      (with (k == j) signal.Grant ss) ≡ true → fits (mode (hears k signal.Grant x).state j)
      ss ≡ true
  front-grant i r f = go (is_port x.view.parent j) refl
    where
      shuts :
          (r g : Bool) (n : Mode) → r ≡ false → fits (mode_of true (parent_mode r g) n)
          (signal.Grant ∷ ss) ≡ true → fits (mode_of true (parent_mode r true) n) ss ≡ true
      shuts true g n e f = absurd (true≢false e)
      shuts false true n e f = absurd (true≢false (sym f))
      shuts false false n e f = f

      here :
          (b : Bool) → b ≡ true → (i : Bool) → i ≡ true →
          fits (mode_of i (parent_mode (is_ready x.view.phase) x.view.granted) (child_mode (is_asked x j) (is_named x j)))
          (with b signal.Grant ss) ≡ true →
          fits (mode_of i (parent_mode (is_ready x.view.phase) true) (child_mode (is_asked x j) (is_named x j)))
          ss ≡ true
      here true e true ei f = shuts (is_ready x.view.phase) x.view.granted (child_mode (is_asked x j) (is_named x j)) r f
      here false e i ei f = absurd (true≢false (sym e))
      here true e false ei f = absurd (true≢false (sym ei))

      there :
          (b : Bool) → (k == j) ≡ b → (i : Bool) → i ≡ false → is_port x.view.parent j ≡ i →
          fits (mode_of i (parent_mode (is_ready x.view.phase) x.view.granted) (child_mode (is_asked x j) (is_named x j)))
          (with b signal.Grant ss) ≡ true →
          fits (mode_of i (parent_mode (is_ready x.view.phase) true) (child_mode (is_asked x j) (is_named x j)))
          ss ≡ true
      there true e n ei is f = contrary i (ap (is_port x.view.parent) (eqb-true k j e) ∙ is ∙ ei)
      there false e false ei is f = f
      there false e true ei is f = absurd (true≢false ei)

      go :
          (b : Bool) → is_port x.view.parent j ≡ b → fits (mode (hears k signal.Grant x).state j)
          ss ≡ true
      go true e = here (k == j) (eq-eqb k j (same-port x.view.parent k j i e)) (is_port x.view.parent j) e f
      go false e = there (k == j) refl (is_port x.view.parent j) e refl f

  front-packet :
      (quad : ℕ) → fits (mode x j) (with (k == j) (signal.Packet quad) ss) ≡ true → fits (mode x j)
      ss ≡ true
  front-packet quad f = go (k == j) f
    where
      go :
          (b : Bool) → fits (mode x j) (with b (signal.Packet quad) ss) ≡ true → fits (mode x j)
          ss ≡ true
      go true f = packet-fits (mode x j) quad ss f
      go false f = f

  front-done :
      leads_down x.view.ports k ≡ true → fits (mode x j) (with (k == j) signal.Done ss) ≡ true →
      fits (mode (hears k signal.Done x).state j) ss ≡ true
  front-done d f = rw asked (go (k == j) refl f)
    where
      asked : is_asked (hears k signal.Done x).state j ≡ is_asked x j
      asked = port_is-changed (λ q. q.asked) k (λ q. record q { named = true }) (λ q. refl) x.view.ports j

      shuts :
          (i : Bool) (n : Mode) (a c : Bool) → i ≡ false → fits (mode_of i n (child_mode a c))
          (signal.Done ∷ ss) ≡ true → fits (mode_of i n (child_mode a true)) ss ≡ true
      shuts true n a c e f = absurd (true≢false e)
      shuts false n true false e f = f
      shuts false n true true e f = absurd (true≢false (sym f))
      shuts false n false c e f = absurd (true≢false (sym f))

      go :
          (b : Bool) → (k == j) ≡ b → fits (mode x j) (with b signal.Done ss) ≡ true →
          fits (mode_of (is_port x.view.parent j) (parent_mode (is_ready x.view.phase) x.view.granted) (child_mode (is_asked x j) (is_named (hears k signal.Done x).state j)))
          ss ≡ true
      go true e f =
          let here : leads_down x.view.ports j ≡ true = ap (leads_down x.view.ports) (sym (eqb-true k j e)) ∙ d in
          let now : is_named (hears k signal.Done x).state j ≡ true = changed-here (λ q. q.named) (λ q. q.child) k j (λ q. record q { named = true }) x.view.ports (λ q. refl) (turned k j ∙ e) here in
          rw now (shuts (is_port x.view.parent j) (parent_mode (is_ready x.view.phase) x.view.granted) (is_asked x j) (is_named x j) (child-role x j v (hears-late x.view.phase h) here).0 f)
      go false e f =
          let now : is_named (hears k signal.Done x).state j ≡ is_named x j = changed-other (λ q. q.named) k j (λ q. record q { named = true }) x.view.ports (turned k j ∙ e) in
          rw now f

  front-hearing :
      (s : Signal) → is_heard k s x ≡ true → hears_packets (hears k s x).state.view.phase ≡ true →
      fits (mode x j) (with (k == j) s ss) ≡ true → fits (mode (hears k s x).state j) ss ≡ true
  front-hearing signal.Reset e n f = absurd (reset-heard k x h n)
  front-hearing signal.Idle e n f = front-level level.Idle signal.Idle refl f
  front-hearing signal.Parent e n f = front-level level.Parent signal.Parent refl f
  front-hearing signal.Child e n f = front-level level.Child signal.Child refl f
  front-hearing signal.Grant e n f =
      let b = and_parts (is_identifying x.view.phase) (is_port x.view.parent k) (and_parts (is_connected x.view.ports k) (is_identifying x.view.phase && is_port x.view.parent k) e).1 in
      front-grant b.1 (ap is_ready (identifying-is x.view.phase b.0)) f
  front-hearing (signal.Packet quad) e n f = front-packet quad f
  front-hearing signal.Done e n f =
      front-done (and_parts (is_identifying x.view.phase) (leads_down x.view.ports k) (and_parts (is_connected x.view.ports k) (is_identifying x.view.phase && leads_down x.view.ports k) e).1).1 f

pub front-hears :
    (k : ℕ) (s : Signal) (x : NodeState) (j : ℕ) (ss : List Signal) → IsValid x → IsMarked x →
    hears_packets x.view.phase ≡ true → hears_packets (on_signal k s x).state.view.phase ≡ true →
    allows (mode x k) s ≡ true → fits (mode x j) (with (k == j) s ss) ≡ true →
    fits (mode (on_signal k s x).state j) ss ≡ true
unfolding on_signal
front-hears k s x j ss v m h n a f = go (is_heard k s x) refl n
  where
    go :
        (b : Bool) → is_heard k s x ≡ b →
        hears_packets (if b then hears k s x else silent_step x).state.view.phase ≡ true →
        fits (mode (if b then hears k s x else silent_step x).state j) ss ≡ true
    go true e n = front-hearing k x j ss v m h s e n f
    go false e n = fits-rest (mode x j) (k == j) s ss (unheard-level k s x v m h a e) f

-- ---- the room in the list

-- where a packet may come to one port, no message comes to another
pub others-silent :
    (x : NodeState) (k j quad : ℕ) (ss : List Signal) → IsMarked x → (k == j) ≡ false →
    allows (mode x k) (signal.Packet quad) ≡ true → fits (mode x j) ss ≡ true → silent ss ≡ true
others-silent x k j quad ss m ne a f = go (is_port x.view.parent k) (is_ready x.view.phase) x.view.granted (is_asked x k) (is_named x k) refl refl refl refl refl a
  where
    not-parent :
        is_port x.view.parent k ≡ true → (b : Bool) → is_port x.view.parent j ≡ b → b ≡ false
    not-parent e true g = absurd (eqb-false k j ne (same-port x.view.parent k j e g))
    not-parent e false g = refl

    closed :
        (i : Bool) (n : Mode) (b c : Bool) → i ≡ false → (b && not c) ≡ false →
        fits (mode_of i n (child_mode b c)) ss ≡ true → silent ss ≡ true
    closed true n b c e g f = absurd (true≢false e)
    closed false n true false e g f = absurd (true≢false g)
    closed false n true true e g f = shut-silent ss f
    closed false n false c e g f = shut-silent ss f

    by-name :
        is_ready x.view.phase ≡ true → (b c : Bool) → is_asked x j ≡ b → is_named x j ≡ c →
        (b && not c) ≡ false
    by-name r false c eb ec = refl
    by-name r true true eb ec = refl
    by-name r true false eb ec = contrary (m.all_named r j (m.asked j eb)) ec

    unasked : x.view.granted ≡ false → (b c : Bool) → is_asked x j ≡ b → (b && not c) ≡ false
    unasked g true c e = contrary (m.asks j e) g
    unasked g false c e = refl

    either :
        (i r g b c : Bool) → r ≡ false → g ≡ true → (b && not c) ≡ false →
        fits (mode_of i (parent_mode r g) (child_mode b c)) ss ≡ true → silent ss ≡ true
    either true true g b c er eg e f = absurd (true≢false er)
    either true false false b c er eg e f = absurd (true≢false (sym eg))
    either true false true b c er eg e f = shut-silent ss f
    either false r g b c er eg e f = closed false (parent_mode r g) b c refl e f

    go :
        (i r g b c : Bool) → is_port x.view.parent k ≡ i → is_ready x.view.phase ≡ r →
        x.view.granted ≡ g → is_asked x k ≡ b → is_named x k ≡ c →
        allows (mode_of i (parent_mode r g) (child_mode b c)) (signal.Packet quad) ≡ true →
        silent ss ≡ true
    go true true g b c ei er eg eb ec a = closed (is_port x.view.parent j) (parent_mode (is_ready x.view.phase) x.view.granted) (is_asked x j) (is_named x j) (not-parent ei (is_port x.view.parent j) refl) (by-name er (is_asked x j) (is_named x j) refl refl) f
    go true false true b c ei er eg eb ec a = absurd (true≢false (sym a))
    go true false false b c ei er eg eb ec a = closed (is_port x.view.parent j) (parent_mode (is_ready x.view.phase) x.view.granted) (is_asked x j) (is_named x j) (not-parent ei (is_port x.view.parent j) refl) (unasked eg (is_asked x j) (is_named x j) refl) f
    go false r g true false ei er eg eb ec a =
        let s = speaking x k quad m ei (rw (ei, eb, ec) refl) in
        either (is_port x.view.parent j) (is_ready x.view.phase) x.view.granted (is_asked x j) (is_named x j) s.1 s.0 (awaited-one x m k j ne eb ec) f
    go false r g true true ei er eg eb ec a = absurd (true≢false (sym a))
    go false r g false c ei er eg eb ec a = absurd (true≢false (sym a))

room-rest :
    (list : List ℕ) (b : Bool) (s : Signal) (ss : List Signal) →
    length list + length (quads_in (with b s ss)) ≤ 252 → length list + length (quads_in ss) ≤ 252
room-rest list false s ss h = h
room-rest list true (signal.Packet quad) ss h = omega (arith, h)
room-rest list true signal.Reset ss h = h
room-rest list true signal.Idle ss h = h
room-rest list true signal.Parent ss h = h
room-rest list true signal.Child ss h = h
room-rest list true signal.Grant ss h = h
room-rest list true signal.Done ss h = h

pub room-hears :
    (k : ℕ) (s : Signal) (x : NodeState) (j : ℕ) (ss : List Signal) → IsValid x → IsMarked x →
    hears_packets x.view.phase ≡ true → hears_packets (on_signal k s x).state.view.phase ≡ true →
    allows (mode x k) s ≡ true → fits (mode x j) (with (k == j) s ss) ≡ true →
    length x.list.items + length (quads_in (with (k == j) s ss)) ≤ 252 →
    length (on_signal k s x).state.list.items + length (quads_in ss) ≤ 252
unfolding on_signal
room-hears k s x j ss v m h n a f r = go (is_heard k s x) refl n (sound-on_signal k s x v).valid.bounded.list
  where
    packet :
        (quad : ℕ) → allows (mode x k) (signal.Packet quad) ≡ true → (b : Bool) → (k == j) ≡ b →
        fits (mode x j) (with b (signal.Packet quad) ss) ≡ true →
        length x.list.items + length (quads_in (with b (signal.Packet quad) ss)) ≤ 252 →
        length (with_packet quad x.list.items) ≤ 252 → length (with_packet quad x.list.items)
        + length (quads_in ss) ≤ 252
    packet quad a true e f r l = omega (arith, packet-length quad x.list.items, r)
    packet quad a false e f r l = omega (arith, l, ap length (silent-quads ss (others-silent x k j quad ss m e a f)))

    hearing :
        (s : Signal) → is_heard k s x ≡ true → hears_packets (hears k s x).state.view.phase ≡ true →
        allows (mode x k) s ≡ true → fits (mode x j) (with (k == j) s ss) ≡ true →
        length x.list.items + length (quads_in (with (k == j) s ss)) ≤ 252 →
        length (hears k s x).state.list.items ≤ 252 →
        length (hears k s x).state.list.items + length (quads_in ss) ≤ 252
    hearing signal.Reset e n a f r l = absurd (reset-heard k x h n)
    hearing signal.Idle e n a f r l = room-rest x.list.items (k == j) signal.Idle ss r
    hearing signal.Parent e n a f r l = room-rest x.list.items (k == j) signal.Parent ss r
    hearing signal.Child e n a f r l = room-rest x.list.items (k == j) signal.Child ss r
    hearing signal.Grant e n a f r l = room-rest x.list.items (k == j) signal.Grant ss r
    hearing (signal.Packet quad) e n a f r l = packet quad a (k == j) refl f r l
    hearing signal.Done e n a f r l = room-rest x.list.items (k == j) signal.Done ss r

    go :
        (b : Bool) → is_heard k s x ≡ b →
        hears_packets (if b then hears k s x else silent_step x).state.view.phase ≡ true →
        length (if b then hears k s x else silent_step x).state.list.items ≤ 252 →
        length (if b then hears k s x else silent_step x).state.list.items + length (quads_in ss)
        ≤ 252
    go true e n l = hearing s e n a f r l
    go false e n l = room-rest x.list.items (k == j) s ss r
