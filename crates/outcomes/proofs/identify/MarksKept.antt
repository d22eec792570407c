-- Each step keeps what a record tells of the identification of its node.
use Rattle.std.proofs.Common.{◌≡◌, ◌⊎◌, inl, inr, ℕ, ◌<◌, Bool, true, false, not, ◌&&◌, ◌==◌, map, Option, Some, None, slice_get, is_some, refl, sym, ◌∙◌, ap, subst, arith, true≢false, if◌then◌else◌}
use Rattle.std.specs.Option.{option_map}
use Rattle.std.proofs.lemmas.Bool.{eqb-true, eqb-false, and_parts}
use Rattle.outcomes.proofs.Common.{contrary, Level, Phase, SelfIdent, Signal, PortView, NodeState, is_unnamed, passes, port_is, is_connected, is_port, lowest, change_port, silent_step, enter, with_port, is_resetting, is_identifying, hears_packets, with_level, hears, is_heard, on_signal, Row, raise_timer, does, next_row, tick, IsValid, valid-raise_timer, port_is-changed, is_before_tree, leads_down, Chosen, chosen, is_ready, is_asked, is_named, IsMarked, parent_mode, child_mode, mode_of, mode, allows}
use Rattle.port_state.specs.declared.signal.Level.TheVariants as level
use Rattle.port_state.specs.declared.signal.Signal.TheVariants as signal
use Rattle.port_state.specs.Entry.{without_marks}
use Rattle.port_state.specs.TreeIdentify as tree
use Rattle.port_state.specs.Row as row
use Rattle.port_state.specs.Machine.{on_beat}
use Rattle.port_state.proofs.Lemmas.{map-port, port_is-map}
use Rattle.cable_world.proofs.Lemmas.{none-some}
use Rattle.outcomes.proofs.identify.Ports.{changed-other, changed-here, changed-was, none-lowest, lowest-first, lowest-is, child-role, not-unnamed, is-unnamed}
use Rattle.outcomes.proofs.identify.LateRows.{LateRow, rests, asks_next, names_now, late-row}

-- ---- phases

pub hears-late : (h : Phase) → hears_packets h ≡ true → is_before_tree h ≡ false
hears-late h e = grind arith

pub ready-hears : (h : Phase) → is_ready h ≡ true → hears_packets h ≡ true
ready-hears h e = grind arith

unready : (h : Phase) → hears_packets h ≡ false → is_ready h ≡ false
unready h e = grind arith

pub identifying-is : (h : Phase) → is_identifying h ≡ true → h ≡ SelfIdent
identifying-is SelfIdent e = refl
identifying-is h e = absurd (true≢false (sym e))

-- ---- at most one child is awaited

pub awaited-one :
    (x : NodeState) → IsMarked x → (j k : ℕ) → (j == k) ≡ false → is_asked x j ≡ true →
    is_named x j ≡ false → (is_asked x k && not (is_named x k)) ≡ false
awaited-one x m j k ne a n = go (is_asked x k) (is_named x k) refl refl
  where
    apart : (j k : ℕ) → (j ≡ k → ⊥) → (j < k) ⊎ (k < j)
    apart j k h = grind arith

    go : (b c : Bool) → is_asked x k ≡ b → is_named x k ≡ c → (b && not c) ≡ false
    go false c e f = refl
    go true true e f = refl
    go true false e f = elim (apart j k (eqb-false j k ne)) [
      | inl l ↦ contrary (m.order j k l e (m.asked j a)) n
      | inr l ↦ contrary (m.order k j l a (m.asked k e)) f
    ]

pub waits-none : (a n : Bool) → a ≡ true → n ≡ false → (a && not n) ≡ false → ⊥
waits-none true false ea en e = true≢false e
waits-none true true ea en e = true≢false en
waits-none false n ea en e = true≢false (sym ea)

pub one-awaited :
    (x : NodeState) → IsMarked x → (p q : ℕ) → is_asked x p ≡ true → is_named x p ≡ false →
    is_asked x q ≡ true → is_named x q ≡ false → p ≡ q
one-awaited x m p q asked unnamed also yet = go (p == q) refl
  where
    go : (b : Bool) → (p == q) ≡ b → p ≡ q
    go true e = eqb-true p q e
    go false e = absurd (waits-none (is_asked x q) (is_named x q) also yet (awaited-one x m p q e asked unnamed))

-- ---- records that differ little

-- all of it is the same
pub same-marked :
    (x y : NodeState) → y.view.phase ≡ x.view.phase → y.view.id ≡ x.view.id →
    y.view.granted ≡ x.view.granted → y.view.parent ≡ x.view.parent → y.list.items ≡ x.list.items →
    ((k : ℕ) → leads_down y.view.ports k ≡ leads_down x.view.ports k) →
    ((k : ℕ) → is_asked y k ≡ is_asked x k) → ((k : ℕ) → is_named y k ≡ is_named x k) → IsMarked x →
    IsMarked y
same-marked x y ph i g p l c a n m = record {
  id = ap is_some i ∙ m.id ∙ ap is_ready (sym ph);
  granted = λ h. ap hears_packets ph ∙ m.granted (sym g ∙ h);
  ready = λ h. g ∙ m.ready (ap is_ready (sym ph) ∙ h);
  all_named = λ h k d. n k ∙ m.all_named (ap is_ready (sym ph) ∙ h) k (sym (c k) ∙ d);
  root = λ h o. g ∙ m.root (ap hears_packets (sym ph) ∙ h) (sym p ∙ o);
  unheard = λ h. l ∙ m.unheard (ap hears_packets (sym ph) ∙ h);
  named = λ k h. a k ∙ m.named k (sym (n k) ∙ h);
  asked = λ k h. c k ∙ m.asked k (sym (a k) ∙ h);
  asks = λ k h. g ∙ m.asks k (sym (a k) ∙ h);
  order = λ j k l h d. n j ∙ m.order j k l (sym (a k) ∙ h) (sym (c j) ∙ d);
}

-- before self identify no child is asked
pub none-asked :
    (x : NodeState) → IsMarked x → hears_packets x.view.phase ≡ false → (k : ℕ) →
    is_asked x k ≡ true → ⊥
none-asked x m h k a = contrary (m.granted (m.asks k a)) h

-- a node before self identify goes on
from-early :
    (x y : NodeState) → IsMarked x → hears_packets x.view.phase ≡ false →
    is_ready y.view.phase ≡ false → y.view.id ≡ x.view.id → y.list.items ≡ x.list.items →
    ((k : ℕ) → is_asked y k ≡ is_asked x k) → ((k : ℕ) → is_named y k ≡ is_named x k) →
    (y.view.granted ≡ true → hears_packets y.view.phase ≡ true) →
    (hears_packets y.view.phase ≡ true → y.view.parent ≡ None → y.view.granted ≡ true) → IsMarked y
from-early x y m h r i l a n g o =
    let none : (k : ℕ) → is_asked y k ≡ true → ⊥ = λ k e. none-asked x m h k (sym (a k) ∙ e) in
    record {
      id = ap is_some i ∙ m.id ∙ unready x.view.phase h ∙ sym r;
      granted = g;
      ready = λ e. contrary e r;
      all_named = λ e. contrary e r;
      root = o;
      unheard = λ e. l ∙ m.unheard h;
      named = λ k e. absurd (none-asked x m h k (m.named k (sym (n k) ∙ e)));
      asked = λ k e. absurd (none k e);
      asks = λ k e. absurd (none k e);
      order = λ j k l e. absurd (none k e);
    }

-- ---- the entry to R0

clear :
    (x : NodeState) (t : PortView → Bool) → ((p : PortView) → t (without_marks p) ≡ false) → (k : ℕ)
    → port_is t (map without_marks x.view.ports) k ≡ true → ⊥
clear x t h k e = go (slice_get x.view.ports k) (sym (ap (passes t) (map-port k without_marks x.view.ports)) ∙ e)
  where
    go : (o : Option PortView) → passes t (option_map without_marks o) ≡ true → ⊥
    go None e = true≢false (sym e)
    go (Some p) e = contrary e (h p)

pub enter-marked : (caused : Bool) (x : NodeState) → IsMarked (enter caused x).state
unfolding enter
enter-marked caused x =
    let none : (k : ℕ) → port_is (λ p. p.asked) (map without_marks x.view.ports) k ≡ true → ⊥ = clear x (λ p. p.asked) (λ p. refl) in
    record {
      id = refl;
      granted = λ e. absurd (true≢false (sym e));
      ready = λ e. absurd (true≢false (sym e));
      all_named = λ e. absurd (true≢false (sym e));
      root = λ e. absurd (true≢false (sym e));
      unheard = λ e. refl;
      named = λ k e. absurd (clear x (λ p. p.named) (λ p. refl) k e);
      asked = λ k e. absurd (none k e);
      asks = λ k e. absurd (none k e);
      order = λ j k l e. absurd (none k e);
    }

-- ---- a signal

level-marked : (n : ℕ) (l : Level) (x : NodeState) → IsMarked x → IsMarked (with_level n l x)
level-marked n l x m =
    let f : PortView → PortView = λ p. record p { shown = l } in
    same-marked x (with_level n l x) refl refl refl refl refl
    (port_is-changed (λ p. p.child) n f (λ p. refl) x.view.ports) (port_is-changed (λ p. p.asked) n f (λ p. refl) x.view.ports) (port_is-changed (λ p. p.named) n f (λ p. refl) x.view.ports) m

-- Done comes from a child that was asked
pub done-asked :
    (x : NodeState) (n : ℕ) → is_port x.view.parent n ≡ false → allows (mode x n)
    signal.Done ≡ true → (is_asked x n ≡ true) × (is_named x n ≡ false)
done-asked x n p h = go (is_port x.view.parent n) (parent_mode (is_ready x.view.phase) x.view.granted) (is_asked x n) (is_named x n) p h
  where
    go :
        (b : Bool) (m : _) (a n : Bool) → b ≡ false → allows (mode_of b m (child_mode a n))
        signal.Done ≡ true → (a ≡ true) × (n ≡ false)
    go true m a n p h = absurd (true≢false p)
    go false m true false p h = (refl, refl)
    go false m true true p h = absurd (true≢false (sym h))
    go false m false n p h = absurd (true≢false (sym h))

-- a child is done
done-marked :
    (n : ℕ) (x : NodeState) → IsValid x → IsMarked x → is_heard n signal.Done x ≡ true →
    (hears_packets x.view.phase ≡ true → allows (mode x n) signal.Done ≡ true) →
    IsMarked (hears n signal.Done x).state
done-marked n x v m e h =
    let f : PortView → PortView = λ p. record p { named = true } in
    let b = and_parts (is_connected x.view.ports n) (is_identifying x.view.phase && leads_down x.view.ports n) e in
    let c = and_parts (is_identifying x.view.phase) (leads_down x.view.ports n) b.1 in
    let hear : hears_packets x.view.phase ≡ true = ap hears_packets (identifying-is x.view.phase c.0) in
    let role = child-role x n v (hears-late x.view.phase hear) c.1 in
    let was = done-asked x n role.0 (h hear) in
    let child : (k : ℕ) → leads_down (change_port n f x.view.ports) k ≡ leads_down x.view.ports k = port_is-changed (λ p. p.child) n f (λ p. refl) x.view.ports in
    let asked : (k : ℕ) → port_is (λ p. p.asked) (change_port n f x.view.ports) k ≡ is_asked x k = port_is-changed (λ p. p.asked) n f (λ p. refl) x.view.ports in
    record {
      id = m.id;
      granted = m.granted;
      ready = m.ready;
      all_named = λ r k d. stays f k (m.all_named r k (sym (child k) ∙ d));
      root = m.root;
      unheard = m.unheard;
      named = λ k r. elim (changed-was (λ p. p.named) n k f x.view.ports r) [
        | inl o ↦ asked k ∙ m.named k o
        | inr o ↦ asked k ∙ ap (λ i. is_asked x i) (eqb-true k n o) ∙ was.0
      ];
      asked = λ k r. child k ∙ m.asked k (sym (asked k) ∙ r);
      asks = λ k r. m.asks k (sym (asked k) ∙ r);
      order = λ j k l r d. stays f j (m.order j k l (sym (asked k) ∙ r) (sym (child j) ∙ d));
    }
  where
    -- a mark that was set stays
    stays :
        (f : PortView → PortView) (k : ℕ) → is_named x k ≡ true → port_is (λ p. p.named)
        (change_port n (λ p. record p { named = true }) x.view.ports) k ≡ true
    stays f k h = go (k == n) refl
      where
        go :
            (b : Bool) → (k == n) ≡ b → port_is (λ p. p.named)
            (change_port n (λ p. record p { named = true }) x.view.ports) k ≡ true
        go true e = changed-here (λ p. p.named) (λ p. p.named) n k (λ p. record p { named = true }) x.view.ports (λ p. refl) e h
        go false e = changed-other (λ p. p.named) n k (λ p. record p { named = true }) x.view.ports e ∙ h

hears-marked :
    (n : ℕ) (s : Signal) (x : NodeState) → IsValid x → IsMarked x → is_heard n s x ≡ true →
    (hears_packets x.view.phase ≡ true → allows (mode x n) s ≡ true) → IsMarked (hears n s x).state
hears-marked n signal.Reset x v m e h = go (is_resetting x.view.phase)
  where
    go :
        (b : Bool) →
        IsMarked (if b then silent_step (with_level n level.Reset x) else enter false (with_level n level.Reset x)).state
    go true = level-marked n level.Reset x m
    go false = enter-marked false (with_level n level.Reset x)
hears-marked n signal.Idle x v m e h = level-marked n level.Idle x m
hears-marked n signal.Parent x v m e h = level-marked n level.Parent x m
hears-marked n signal.Child x v m e h = level-marked n level.Child x m
hears-marked n signal.Grant x v m e h =
    let b = and_parts (is_connected x.view.ports n) (is_identifying x.view.phase && is_port x.view.parent n) e in
    let is : x.view.phase ≡ SelfIdent = identifying-is x.view.phase (and_parts (is_identifying x.view.phase) (is_port x.view.parent n) b.1).0 in
    record {
      id = m.id;
      granted = λ h. ap hears_packets is;
      ready = λ h. refl;
      all_named = m.all_named;
      root = λ h o. refl;
      unheard = m.unheard;
      named = m.named;
      asked = m.asked;
      asks = λ k h. refl;
      order = m.order;
    }
hears-marked n (signal.Packet quad) x v m e h =
    let b = and_parts (is_connected x.view.ports n) (hears_packets x.view.phase) e in
    record {
      id = m.id;
      granted = m.granted;
      ready = m.ready;
      all_named = m.all_named;
      root = m.root;
      unheard = λ o. contrary b.1 o;
      named = m.named;
      asked = m.asked;
      asks = m.asks;
      order = m.order;
    }
hears-marked n signal.Done x v m e h = done-marked n x v m e h

pub signal-marked :
    (n : ℕ) (s : Signal) (x : NodeState) → IsValid x → IsMarked x →
    (hears_packets x.view.phase ≡ true → allows (mode x n) s ≡ true) →
    IsMarked (on_signal n s x).state
unfolding on_signal
signal-marked n s x v m h = go (is_heard n s x) refl
  where
    go : (b : Bool) → is_heard n s x ≡ b → IsMarked (if b then hears n s x else silent_step x).state
    go true e = hears-marked n s x v m e h
    go false e = m

-- ---- a tick

asks-marked :
    (x : NodeState) (p : ℕ) → IsValid x → IsMarked x → x.view.phase ≡ SelfIdent →
    x.view.granted ≡ true → lowest is_unnamed x.view.ports ≡ Some p →
    IsMarked (with_port p (λ q. record q { asked = true }) x)
asks-marked x p v m e g low =
    let f : PortView → PortView = λ q. record q { asked = true } in
    let child : (k : ℕ) → leads_down (change_port p f x.view.ports) k ≡ leads_down x.view.ports k = port_is-changed (λ q. q.child) p f (λ q. refl) x.view.ports in
    let named : (k : ℕ) → port_is (λ q. q.named) (change_port p f x.view.ports) k ≡ is_named x k = port_is-changed (λ q. q.named) p f (λ q. refl) x.view.ports in
    let here : leads_down x.view.ports p ≡ true = is-unnamed x.view.ports p (lowest-is is_unnamed x.view.ports p low) in
    record {
      id = m.id;
      granted = m.granted;
      ready = m.ready;
      all_named = λ r k d. named k ∙ m.all_named r k (sym (child k) ∙ d);
      root = m.root;
      unheard = m.unheard;
      named = λ k r. stays k (m.named k (sym (named k) ∙ r));
      asked = λ k r. child k ∙ elim (changed-was (λ q. q.asked) p k f x.view.ports r) [
        | inl o ↦ m.asked k o
        | inr o ↦ subst (λ i. leads_down x.view.ports i ≡ true) (sym (eqb-true k p o)) here
      ];
      asks = λ k r. g;
      order = λ j k l r d. named j ∙ elim (changed-was (λ q. q.asked) p k f x.view.ports r) [
        | inl o ↦ m.order j k l o (sym (child j) ∙ d)
        | inr o ↦
            let down : leads_down x.view.ports j ≡ true = sym (child j) ∙ d in
            not-unnamed x.view.ports j (lowest-first is_unnamed 0 x.view.ports p low j (omega (arith, l, eqb-true k p o))) (child-role x j v late down).1 down
      ];
    }
  where
    late : is_before_tree x.view.phase ≡ false
    late = ap is_before_tree e

    stays :
        (k : ℕ) → is_asked x k ≡ true → port_is (λ q. q.asked)
        (change_port p (λ q. record q { asked = true }) x.view.ports) k ≡ true
    stays k h = go (k == p) refl
      where
        go :
            (b : Bool) → (k == p) ≡ b → port_is (λ q. q.asked)
            (change_port p (λ q. record q { asked = true }) x.view.ports) k ≡ true
        go true e = changed-here (λ q. q.asked) (λ q. q.asked) p k (λ q. record q { asked = true }) x.view.ports (λ q. refl) e h
        go false e = changed-other (λ q. q.asked) p k (λ q. record q { asked = true }) x.view.ports e ∙ h

-- no child is left to ask
pub all-named :
    (x : NodeState) → IsValid x → is_before_tree x.view.phase ≡ false →
    lowest is_unnamed x.view.ports ≡ None → (k : ℕ) → leads_down x.view.ports k ≡ true →
    is_named x k ≡ true
all-named x v late low k d = not-unnamed x.view.ports k (none-lowest is_unnamed 0 x.view.ports low k) (child-role x k v late d).1 d

-- at a tick before self identify
early-marked :
    (coin : Bool) (r : Row) (x : NodeState) → hears_packets x.view.phase ≡ false → Chosen r x →
    IsMarked x → IsMarked (does coin r x).state
early-marked coin row.none x h c m = m
early-marked coin row.times_out x h c m = same-marked x (tree.times_out x).state refl refl refl refl refl (λ k. refl) (λ k. refl) (λ k. refl) m
early-marked coin row.ends_reset x h c m = from-early x _ m h refl refl refl (λ k. refl) (λ k. refl) (λ g. sym h ∙ m.granted g) (λ h. absurd (true≢false (sym h)))
early-marked coin row.begins_tree x h c m = from-early x _ m h refl refl refl (λ k. refl) (λ k. refl) (λ g. sym h ∙ m.granted g) (λ h. absurd (true≢false (sym h)))
early-marked coin row.takes_roles x h c m =
    from-early x _ m h refl refl refl (port_is-map (λ p. p.asked) tree.adopt (λ p. asks-same p) x.view.ports) (port_is-map (λ p. p.named) tree.adopt (λ p. names-same p) x.view.ports)
    (λ g. sym h ∙ m.granted g) (λ h. absurd (true≢false (sym h)))
  where
    asks-same : (p : PortView) → (tree.adopt p).asked ≡ p.asked
    asks-same p = go _
      where
        go : (b : Bool) → (if b then record p { child = true } else p).asked ≡ p.asked
        go true = refl
        go false = refl

    names-same : (p : PortView) → (tree.adopt p).named ≡ p.named
    names-same p = go _
      where
        go : (b : Bool) → (if b then record p { child = true } else p).named ≡ p.named
        go true = refl
        go false = refl
early-marked coin row.awaits_parent x h c m = from-early x _ m h refl refl refl (λ k. refl) (λ k. refl) (λ g. sym h ∙ m.granted g) (λ h. absurd (true≢false (sym h)))
early-marked coin row.becomes_root x h c m = from-early x _ m h refl refl refl (λ k. refl) (λ k. refl) (λ h. refl) (λ h o. refl)
early-marked coin (row.finds_parent p) x h c m = from-early x _ m h refl refl refl (λ k. refl) (λ k. refl) (λ h. refl) (λ h o. absurd (none-some x.view.parent p o c.1))
early-marked coin (row.begins_contention p) x h c m = from-early x _ m h refl refl refl (λ k. refl) (λ k. refl) (λ g. sym h ∙ m.granted g) (λ h. absurd (true≢false (sym h)))
early-marked coin (row.takes_rival p) x h c m =
    from-early x _ m h refl refl refl
    (port_is-changed (λ q. q.asked) p (λ q. record q { child = true }) (λ q. refl) x.view.ports) (port_is-changed (λ q. q.named) p (λ q. record q { child = true }) (λ q. refl) x.view.ports)
    (λ g. sym h ∙ m.granted g) (λ h. absurd (true≢false (sym h)))
early-marked coin (row.asks_again p) x h c m = from-early x _ m h refl refl refl (λ k. refl) (λ k. refl) (λ g. sym h ∙ m.granted g) (λ h. absurd (true≢false (sym h)))
early-marked coin (row.asks_child p) x h c m = contrary (ap hears_packets c) h
early-marked coin row.names_itself x h c m = contrary (ap hears_packets c) h

-- at a later one
late-marked :
    (coin : Bool) (r : Row) (x : NodeState) → IsValid x → LateRow x r → IsMarked x →
    IsMarked (does coin r x).state
late-marked coin r x v rests m = m
late-marked coin r x v (asks_next p a) m = asks-marked x p v m a.phase a.granted a.next
late-marked coin r x v (names_now n) m = record {
  id = refl;
  granted = λ h. refl;
  ready = λ h. n.granted;
  all_named = λ h. all-named x v (ap is_before_tree n.phase) n.last;
  root = λ h o. n.granted;
  unheard = λ h. absurd (true≢false h);
  named = m.named;
  asked = m.asked;
  asks = λ k h. n.granted;
  order = m.order;
}

pub raised-marked : (x : NodeState) → IsMarked x → IsMarked (raise_timer x)
raised-marked x m = same-marked x (raise_timer x) refl refl refl refl refl (λ k. refl) (λ k. refl) (λ k. refl) m

pub tick-marked :
    (coin : Bool) (x : NodeState) → IsValid x → IsMarked x → IsMarked (tick coin x).state
unfolding tick
tick-marked coin x v m = go (hears_packets x.view.phase) refl
  where
    go : (b : Bool) → hears_packets x.view.phase ≡ b → IsMarked (tick coin x).state
    go true h = late-marked coin (next_row x) (raise_timer x) (valid-raise_timer x v) (late-row x h) (raised-marked x m)
    go false h = early-marked coin (next_row x) (raise_timer x) h (chosen x.view.phase (raise_timer x) refl) (raised-marked x m)

-- or the clock misses the turn
pub beat-tick-marked :
    (b : Option Bool) (x : NodeState) → IsValid x → IsMarked x → IsMarked (on_beat b x).state
beat-tick-marked None x v m = m
beat-tick-marked (Some coin) x v m = tick-marked coin x v m
