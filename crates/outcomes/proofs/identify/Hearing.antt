-- A node in self identify or A0 hears a signal: what becomes of its ports and of its cables.
use Rattle.std.proofs.Common.{◌≡◌, ◌⊎◌, inl, inr, ℕ, Bool, true, false, not, ◌&&◌, ◌==◌, Option, refl, sym, ◌∙◌, ap, arith, true≢false, if◌then◌else◌}
use Rattle.std.proofs.lemmas.Option.{slice_get_cases}
use Rattle.std.proofs.lemmas.Bool.{and_parts, and_from, true_from_ne_false}
use Rattle.outcomes.proofs.Common.{contrary, Level, Phase, Signal, PortView, NodeState, passes, is_connected, is_port, sent_on, silent_step, enter, with_port, is_resetting, is_identifying, hears_packets, with_level, hears, is_heard, on_signal, FitsRole, IsValid, on_every-port, port_is-changed, leads_down, only, late-roles, port-is, no-packets, is_ready, is_asked, is_named, IsMarked, is_message, silent, Mode, parent_mode, child_mode, mode_of, mode, allows}
use Rattle.port_state.specs.declared.signal.Level.TheVariants as level
use Rattle.port_state.specs.declared.signal.Signal.TheVariants as signal
use Rattle.port_state.specs.Heard.{has_effect}
use Rattle.outcomes.specs.Messages as mode
use Rattle.outcomes.proofs.identify.Ports.{child-role}
use Rattle.outcomes.proofs.identify.MarksKept.{hears-late, awaited-one, done-asked}

-- ---- ports

role-of-parent :
    (parent : Option ℕ) (k : ℕ) (p : PortView) → FitsRole parent k p → is_port parent k ≡ true →
    p.connected ≡ true
role-of-parent parent k p r u = true_from_ne_false _ (λ e. contrary u ((r.none e).1))

pub identifies : (h : Phase) → hears_packets h ≡ true → is_ready h ≡ false → is_identifying h ≡ true
identifies h e f = grind arith

-- a message that may come is heard, on a port with a cable
pub message-heard :
    (k : ℕ) (s : Signal) (x : NodeState) → IsValid x → IsMarked x →
    hears_packets x.view.phase ≡ true → is_connected x.view.ports k ≡ true → is_message s ≡ true →
    allows (mode x k) s ≡ true → is_heard k s x ≡ true
message-heard k s x v m h c t a = and_from (is_connected x.view.ports k) (has_effect k s x) c (go s t a (is_port x.view.parent k) refl (is_ready x.view.phase) refl)
  where
    go :
        (s : Signal) → is_message s ≡ true → allows (mode x k) s ≡ true → (p : Bool) →
        is_port x.view.parent k ≡ p → (r : Bool) → is_ready x.view.phase ≡ r →
        has_effect k s x ≡ true
    go (signal.Packet quad) t a p ep r er = h
    go signal.Grant t a true ep true er = absurd (not-granted (is_port x.view.parent k) (is_ready x.view.phase) x.view.granted (child_mode (is_asked x k) (is_named x k)) ep er a)
      where
        not-granted :
            (p r g : Bool) (n : Mode) → p ≡ true → r ≡ true → allows (mode_of p (parent_mode r g) n)
            signal.Grant ≡ true → ⊥
        not-granted true true g n ep er a = true≢false (sym a)
        not-granted false r g n ep er a = true≢false (sym ep)
        not-granted true false g n ep er a = true≢false (sym er)
    go signal.Grant t a true ep false er = and_from _ _ (identifies x.view.phase h er) ep
    go signal.Grant t a false ep r er = absurd (no-child (is_port x.view.parent k) (parent_mode (is_ready x.view.phase) x.view.granted) (is_asked x k) (is_named x k) ep a)
      where
        no-child :
            (p : Bool) (n : Mode) (b c : Bool) → p ≡ false → allows (mode_of p n (child_mode b c))
            signal.Grant ≡ true → ⊥
        no-child true n b c ep a = true≢false ep
        no-child false n true false ep a = true≢false (sym a)
        no-child false n true true ep a = true≢false (sym a)
        no-child false n false c ep a = true≢false (sym a)
    go signal.Done t a true ep r er = absurd (no-parent (is_port x.view.parent k) (is_ready x.view.phase) x.view.granted (child_mode (is_asked x k) (is_named x k)) ep a)
      where
        no-parent :
            (p r g : Bool) (n : Mode) → p ≡ true → allows (mode_of p (parent_mode r g) n)
            signal.Done ≡ true → ⊥
        no-parent false r g n ep a = true≢false (sym ep)
        no-parent true true g n ep a = true≢false (sym a)
        no-parent true false true n ep a = true≢false (sym a)
        no-parent true false false n ep a = true≢false (sym a)
    go signal.Done t a false ep true er = let b = done-asked x k ep a in contrary (m.all_named er k (m.asked k b.0)) b.1
    go signal.Done t a false ep false er = let b = done-asked x k ep a in and_from _ _ (identifies x.view.phase h er) (m.asked k b.0)
    go s t a p ep r er = absurd (true≢false (sym t))

pub parent-connected :
    (x : NodeState) (k : ℕ) → IsValid x → hears_packets x.view.phase ≡ true →
    is_port x.view.parent k ≡ true → is_connected x.view.ports k ≡ true
parent-connected x k v h e = elim (slice_get_cases x.view.ports k).1 [
  | inl found ↦ ap (passes (λ q. q.connected)) found.2 ∙ role-of-parent x.view.parent k found.0 (late-roles x v (hears-late x.view.phase h) k found.0 found.2) e
  | inr lacks ↦ absurd (omega (arith, lacks.0, v.bounded.views, v.bounded.parent k (port-is x.view.parent k e)))
]

-- a port that a message may come to has a cable
pub message-port :
    (k : ℕ) (s : Signal) (x : NodeState) → IsValid x → IsMarked x →
    hears_packets x.view.phase ≡ true → is_message s ≡ true → allows (mode x k) s ≡ true →
    is_connected x.view.ports k ≡ true
message-port k s x v m h t a = go (is_port x.view.parent k) (is_asked x k) (is_named x k) refl refl a
  where
    shut : (s : Signal) → is_message s ≡ true → allows mode.shut s ≡ true → ⊥
    shut signal.Grant t a = true≢false (sym a)
    shut (signal.Packet quad) t a = true≢false (sym a)
    shut signal.Done t a = true≢false (sym a)
    shut s t a = true≢false (sym t)

    go :
        (p b c : Bool) → is_port x.view.parent k ≡ p → is_asked x k ≡ b →
        allows (mode_of p (parent_mode (is_ready x.view.phase) x.view.granted) (child_mode b c))
        s ≡ true → is_connected x.view.ports k ≡ true
    go true b c ep eb a = parent-connected x k v h ep
    go false true c ep eb a = (child-role x k v (hears-late x.view.phase h) (m.asked k eb)).1
    go false false c ep eb a = absurd (shut s t a)

-- a packet that comes from elsewhere finds no child awaited here
pub none-awaited :
    (x : NodeState) (k p : ℕ) (quad : ℕ) → IsMarked x → hears_packets x.view.phase ≡ true → (k == p)
    ≡ false → leads_down x.view.ports p ≡ true → allows (mode x k) (signal.Packet quad) ≡ true →
    (is_asked x p && not (is_named x p)) ≡ false
none-awaited x k p quad m h ne d a = go (is_port x.view.parent k) (is_ready x.view.phase) x.view.granted (is_asked x k) (is_named x k) refl refl refl refl refl a
  where
    by-name : (b c : Bool) → c ≡ true → (b && not c) ≡ false
    by-name b c e = grind arith

    unasked :
        x.view.granted ≡ false → (b : Bool) → is_asked x p ≡ b → (b && not (is_named x p)) ≡ false
    unasked g true e = contrary (m.asks p e) g
    unasked g false e = refl

    go :
        (i r g b c : Bool) → is_port x.view.parent k ≡ i → is_ready x.view.phase ≡ r →
        x.view.granted ≡ g → is_asked x k ≡ b → is_named x k ≡ c →
        allows (mode_of i (parent_mode r g) (child_mode b c)) (signal.Packet quad) ≡ true →
        (is_asked x p && not (is_named x p)) ≡ false
    go true true g b c ei er eg eb ec a = by-name (is_asked x p) (is_named x p) (m.all_named er p d)
    go true false true b c ei er eg eb ec a = absurd (true≢false (sym a))
    go true false false b c ei er eg eb ec a = unasked eg (is_asked x p) refl
    go false r g true false ei er eg eb ec a = awaited-one x m k p ne eb ec
    go false r g true true ei er eg eb ec a = absurd (true≢false (sym a))
    go false r g false c ei er eg eb ec a = absurd (true≢false (sym a))

-- one that comes from a child finds the node granted, and not in A0
pub speaking :
    (x : NodeState) (k : ℕ) (quad : ℕ) → IsMarked x → is_port x.view.parent k ≡ false →
    allows (mode x k) (signal.Packet quad) ≡ true → (x.view.granted ≡ true)
    × (is_ready x.view.phase ≡ false)
speaking x k quad m i a = go (is_port x.view.parent k) (is_asked x k) (is_named x k) refl refl i a
  where
    busy :
        is_asked x k ≡ true → is_named x k ≡ false → (r : Bool) → is_ready x.view.phase ≡ r →
        r ≡ false
    busy b c true e = contrary (m.all_named e k (m.asked k b)) c
    busy b c false e = refl

    go :
        (p b c : Bool) → is_asked x k ≡ b → is_named x k ≡ c → p ≡ false →
        allows (mode_of p (parent_mode (is_ready x.view.phase) x.view.granted) (child_mode b c))
        (signal.Packet quad) ≡ true → (x.view.granted ≡ true) × (is_ready x.view.phase ≡ false)
    go true b c eb ec i a = absurd (true≢false i)
    go false true false eb ec i a = (m.asks k eb, busy eb ec (is_ready x.view.phase) refl)
    go false true true eb ec i a = absurd (true≢false (sym a))
    go false false c eb ec i a = absurd (true≢false (sym a))

-- ---- what stays

pub level-asked :
    (k : ℕ) (l : Level) (x : NodeState) (p : ℕ) → is_asked (with_level k l x) p ≡ is_asked x p
level-asked k l x p = port_is-changed (λ q. q.asked) k (λ q. record q { shown = l }) (λ q. refl) x.view.ports p

pub level-named :
    (k : ℕ) (l : Level) (x : NodeState) (p : ℕ) → is_named (with_level k l x) p ≡ is_named x p
level-named k l x p = port_is-changed (λ q. q.named) k (λ q. record q { shown = l }) (λ q. refl) x.view.ports p

-- a signal that begins no reset leaves phase, roles and parent port
pub record Stays (x y : NodeState) : Type 0 where
  pub phase : y.view.phase ≡ x.view.phase
  pub parent : y.view.parent ≡ x.view.parent
  pub child : (k : ℕ) → leads_down y.view.ports k ≡ leads_down x.view.ports k
  pub cables : (k : ℕ) → is_connected y.view.ports k ≡ is_connected x.view.ports k

same-stays : (x : NodeState) → Stays x x
same-stays x = record { phase = refl; parent = refl; child = λ k. refl; cables = λ k. refl }

port-stays :
    (k : ℕ) (f : PortView → PortView) (x : NodeState) → ((p : PortView) → (f p).child ≡ p.child) →
    ((p : PortView) → (f p).connected ≡ p.connected) → Stays x (with_port k f x)
port-stays k f x c o = record { phase = refl; parent = refl; child = port_is-changed (λ p. p.child) k f c x.view.ports; cables = port_is-changed (λ p. p.connected) k f o x.view.ports }

pub signal-stays :
    (k : ℕ) (s : Signal) (x : NodeState) →
    Stays x (on_signal k s x).state ⊎ (is_resetting (on_signal k s x).state.view.phase ≡ true)
unfolding on_signal enter
signal-stays k s x = go (is_heard k s x)
  where
    resets :
        (b : Bool) →
        Stays x (if b then silent_step (with_level k level.Reset x) else enter false (with_level k level.Reset x)).state
        ⊎ (is_resetting (if b then silent_step (with_level k level.Reset x) else enter false (with_level k level.Reset x)).state.view.phase ≡ true)
    resets true = inl (port-stays k (λ p. record p { shown = level.Reset }) x (λ p. refl) (λ p. refl))
    resets false = inr refl

    hearing :
        (s : Signal) →
        Stays x (hears k s x).state ⊎ (is_resetting (hears k s x).state.view.phase ≡ true)
    hearing signal.Reset = resets (is_resetting x.view.phase)
    hearing signal.Idle = inl (port-stays k (λ p. record p { shown = level.Idle }) x (λ p. refl) (λ p. refl))
    hearing signal.Parent = inl (port-stays k (λ p. record p { shown = level.Parent }) x (λ p. refl) (λ p. refl))
    hearing signal.Child = inl (port-stays k (λ p. record p { shown = level.Child }) x (λ p. refl) (λ p. refl))
    hearing signal.Grant = inl (record { phase = refl; parent = refl; child = λ k. refl; cables = λ k. refl })
    hearing (signal.Packet quad) = inl (record { phase = refl; parent = refl; child = λ k. refl; cables = λ k. refl })
    hearing signal.Done = inl (port-stays k (λ p. record p { named = true }) x (λ p. refl) (λ p. refl))

    go :
        (b : Bool) →
        Stays x (if b then hears k s x else silent_step x).state
        ⊎ (is_resetting (if b then hears k s x else silent_step x).state.view.phase ≡ true)
    go true = hearing s
    go false = inl (same-stays x)

-- a Reset that is heard begins a reset
pub reset-heard :
    (k : ℕ) (x : NodeState) → hears_packets x.view.phase ≡ true →
    hears_packets (hears k signal.Reset x).state.view.phase ≡ true → ⊥
unfolding enter
reset-heard k x h e = go (is_resetting x.view.phase) refl e
  where
    go :
        (b : Bool) → is_resetting x.view.phase ≡ b →
        hears_packets (if b then silent_step (with_level k level.Reset x) else enter false (with_level k level.Reset x)).state.view.phase
        ≡ true →
        ⊥
    go true r e = no-packets x.view.phase r h
    go false r e = true≢false (sym e)

-- ---- a node that isn't in self identify or A0 sends no message

pub only-silent : (b : Bool) (s : Signal) → is_message s ≡ false → silent (only b s) ≡ true
only-silent true s h = rw h refl
only-silent false s h = refl

pub signal-silent :
    (k : ℕ) (s : Signal) (x : NodeState) (p : ℕ) → hears_packets x.view.phase ≡ false →
    silent (sent_on p (on_signal k s x).sends) ≡ true
unfolding on_signal enter
signal-silent k s x p h = go (is_heard k s x) refl
  where
    resets :
        (b : Bool) →
        silent (sent_on p (if b then silent_step (with_level k level.Reset x) else enter false (with_level k level.Reset x)).sends)
        ≡ true
    resets true = refl
    resets false =
        let y : NodeState = with_level k level.Reset x in
        ap silent (on_every-port p signal.Reset y.view.ports) ∙ only-silent (is_connected y.view.ports p) signal.Reset refl

    hearing : (s : Signal) → is_heard k s x ≡ true → silent (sent_on p (hears k s x).sends) ≡ true
    hearing signal.Reset e = resets (is_resetting x.view.phase)
    hearing signal.Idle e = refl
    hearing signal.Parent e = refl
    hearing signal.Child e = refl
    hearing signal.Grant e = refl
    hearing (signal.Packet quad) e = absurd (true≢false (sym (and_parts (is_connected x.view.ports k) (hears_packets x.view.phase) e).1 ∙ h))
    hearing signal.Done e = refl

    go :
        (b : Bool) → is_heard k s x ≡ b →
        silent (sent_on p (if b then hears k s x else silent_step x).sends) ≡ true
    go true e = hearing s e
    go false e = refl

-- nor does one that begins a reset, in that step
pub entering-silent :
    (k : ℕ) (s : Signal) (x : NodeState) (p : ℕ) → hears_packets x.view.phase ≡ true →
    is_resetting (on_signal k s x).state.view.phase ≡ true →
    silent (sent_on p (on_signal k s x).sends) ≡ true
unfolding on_signal enter
entering-silent k s x p h r = go (is_heard k s x) r
  where
    resets :
        (b : Bool) →
        silent (sent_on p (if b then silent_step (with_level k level.Reset x) else enter false (with_level k level.Reset x)).sends)
        ≡ true
    resets true = refl
    resets false =
        let y : NodeState = with_level k level.Reset x in
        ap silent (on_every-port p signal.Reset y.view.ports) ∙ only-silent (is_connected y.view.ports p) signal.Reset refl

    hearing :
        (s : Signal) → is_resetting (hears k s x).state.view.phase ≡ true →
        silent (sent_on p (hears k s x).sends) ≡ true
    hearing signal.Reset r = resets (is_resetting x.view.phase)
    hearing (signal.Packet quad) r = absurd (no-packets x.view.phase r h)
    hearing signal.Idle r = refl
    hearing signal.Parent r = refl
    hearing signal.Child r = refl
    hearing signal.Grant r = refl
    hearing signal.Done r = refl

    go :
        (b : Bool) →
        is_resetting (if b then hears k s x else silent_step x).state.view.phase ≡ true →
        silent (sent_on p (if b then hears k s x else silent_step x).sends) ≡ true
    go true r = hearing s r
    go false r = refl
