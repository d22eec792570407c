-- A node in self identify or A0 hears a list of signals.
use Rattle.std.proofs.Common.{◌≡◌, ◌⊎◌, inl, inr, ℕ, ◌+◌, ◌≤◌, length, Bool, true, false, ◌==◌, List, [], ◌∷◌, ◌++◌, refl, sym, ◌∙◌, ap, subst, append-nil, arith, true≢false}
use Rattle.std.proofs.lemmas.Bool.{eq-eqb, and_parts}
use Rattle.std.proofs.lemmas.List.{append_assoc}
use Rattle.outcomes.proofs.Common.{Signal, NodeState, sent_on, is_resetting, hears_packets, on_signal, IsValid, sound-on_signal, sent_on-append, hear-stays, no-packets, not-both, hear_all, IsMarked, silent, quads_in, mode, allows, next, fits}
use Rattle.port_state.specs.declared.signal.Signal.TheVariants as signal
use Rattle.port_state.specs.Step.{Step}
use Rattle.outcomes.proofs.identify.Messages.{silent-append}
use Rattle.outcomes.proofs.identify.MarksKept.{signal-marked}
use Rattle.outcomes.proofs.identify.Hearing.{signal-stays, signal-silent, entering-silent}
use Rattle.outcomes.proofs.identify.LinedHears.{with, front-hears, room-hears}

-- all that is heard may come
abbrev pub MayCome : NodeState → List (ℕ × Signal) → Type 0
MayCome x signals = (j : ℕ) → fits (mode x j) (sent_on j signals) ≡ true

-- and there is room for it
abbrev pub HasRoom : NodeState → List (ℕ × Signal) → Type 0
HasRoom x signals = (j : ℕ) → length x.list.items + length (quads_in (sent_on j signals)) ≤ 252

first-room :
    (x : NodeState) (s : ℕ × Signal) (rest : List (ℕ × Signal)) → HasRoom x (s ∷ rest) →
    length x.list.items + length (quads_in (s.1 ∷ [])) ≤ 252
first-room x s rest f = go (s.0 == s.0) (eq-eqb s.0 s.0 refl) (f s.0)
  where
    one :
        (s : Signal) (ss : List Signal) → length x.list.items + length (quads_in (s ∷ ss)) ≤ 252 →
        length x.list.items + length (quads_in (s ∷ [])) ≤ 252
    one (signal.Packet quad) ss h = omega (arith, h)
    one signal.Reset ss h = omega (arith, h)
    one signal.Idle ss h = omega (arith, h)
    one signal.Parent ss h = omega (arith, h)
    one signal.Child ss h = omega (arith, h)
    one signal.Grant ss h = omega (arith, h)
    one signal.Done ss h = omega (arith, h)

    go :
        (b : Bool) → b ≡ true →
        length x.list.items + length (quads_in (with b s.1 (sent_on s.0 rest))) ≤ 252 →
        length x.list.items + length (quads_in (s.1 ∷ [])) ≤ 252
    go true e h = one s.1 (sent_on s.0 rest) h
    go false e h = absurd (true≢false (sym e))

first-allowed :
    (x : NodeState) (s : ℕ × Signal) (rest : List (ℕ × Signal)) → MayCome x (s ∷ rest) →
    allows (mode x s.0) s.1 ≡ true
first-allowed x s rest f = go (s.0 == s.0) (eq-eqb s.0 s.0 refl) (f s.0)
  where
    go :
        (b : Bool) → b ≡ true → fits (mode x s.0) (with b s.1 (sent_on s.0 rest)) ≡ true →
        allows (mode x s.0) s.1 ≡ true
    go true e h = (and_parts (allows (mode x s.0) s.1) (fits (next (mode x s.0) s.1) (sent_on s.0 rest)) h).0
    go false e h = absurd (true≢false (sym e))

-- a node that isn't there sends no message
pub hear-silent :
    (signals : List (ℕ × Signal)) (x : NodeState) (p : ℕ) → hears_packets x.view.phase ≡ false →
    silent (sent_on p (hear_all signals x).sends) ≡ true
hear-silent [] x p h = refl
hear-silent (s ∷ rest) x p h =
    let first : Step = on_signal s.0 s.1 x in
    let later : Step = hear_all rest first.state in
    ap silent (sent_on-append p first.sends later.sends)
    ∙ silent-append (sent_on p first.sends) (sent_on p later.sends) (signal-silent s.0 s.1 x p h) (hear-silent rest first.state p (elim (signal-stays s.0 s.1 x) [
      | inl t ↦ ap hears_packets t.phase ∙ h
      | inr r ↦ resetting first.state.view.phase r
    ]))
  where
    resetting : (h : _) → is_resetting h ≡ true → hears_packets h ≡ false
    resetting h r = grind arith

-- what is known of the node afterwards
pub hear-marked :
    (signals : List (ℕ × Signal)) (x : NodeState) → IsValid x → IsMarked x →
    (hears_packets x.view.phase ≡ true → MayCome x signals) → IsMarked (hear_all signals x).state
hear-marked [] x v m f = m
hear-marked (s ∷ rest) x v m f = go (hears_packets x.view.phase) refl (hear-marked rest first.state (sound-on_signal s.0 s.1 x v).valid)
  where
    first : Step
    first = on_signal s.0 s.1 x

    now :
        (hears_packets x.view.phase ≡ true → allows (mode x s.0) s.1 ≡ true) → IsMarked first.state
    now a = signal-marked s.0 s.1 x v m a

    go :
        (b : Bool) → hears_packets x.view.phase ≡ b →
        (IsMarked first.state →
        (hears_packets first.state.view.phase ≡ true → MayCome first.state rest) →
        IsMarked (hear_all rest first.state).state)
        → IsMarked (hear_all rest first.state).state
    go true h later = later (now (λ _. first-allowed x s rest (f h))) (λ n j. front-hears s.0 s.1 x j (sent_on j rest) v m h n (first-allowed x s rest (f h)) (f h j))
    go false h later = later (now (λ e. absurd (not-both (hears_packets x.view.phase) e h))) (λ n. absurd (elim (signal-stays s.0 s.1 x) [
      | inl t ↦ not-both (hears_packets x.view.phase) (sym (ap hears_packets t.phase) ∙ n) h
      | inr r ↦ no-packets first.state.view.phase r n
    ]))

-- ---- what hearing one signal keeps, hearing all keeps

-- A fact of the node, of what it sent on a port and of what comes to that port; and one of what it
-- sent alone,
-- which stays when the node begins a reset.
pub record Keeps
    (p : ℕ) (Q : NodeState → List Signal → List Signal → Type 0) (S : List Signal → Type 0)
    : Type 0 where
  pub step :
      (k : ℕ) (s : Signal) (x : NodeState) (out pend : List Signal) → IsValid x → IsMarked x →
      hears_packets x.view.phase ≡ true → hears_packets (on_signal k s x).state.view.phase ≡ true →
      allows (mode x k) s ≡ true → length x.list.items + length (quads_in (s ∷ [])) ≤ 252 →
      Q x out (with (k == p) s pend) →
      Q (on_signal k s x).state (out ++ sent_on p (on_signal k s x).sends) pend
  pub less : (x : NodeState) (out pend : List Signal) → Q x out pend → S out
  pub adds : (out ss : List Signal) → S out → silent ss ≡ true → S (out ++ ss)

abbrev pub Heard-all :
    (p : ℕ) (Q : NodeState → List Signal → List Signal → Type 0) (S : List Signal → Type 0)
    (h : Step) (out pend : List Signal) → Type 0
Heard-all p Q S h out pend =
    ((hears_packets h.state.view.phase ≡ true) × Q h.state (out ++ sent_on p h.sends) pend) ⊎ ((is_resetting h.state.view.phase ≡ true) × S (out ++ sent_on p h.sends))

with-append :
    (b : Bool) (s : Signal) (ss pend : List Signal) → with b s ss ++ pend ≡ with b s (ss ++ pend)
with-append true s ss pend = refl
with-append false s ss pend = refl

pub hear-keeps :
    (p : ℕ) (Q : NodeState → List Signal → List Signal → Type 0) (S : List Signal → Type 0) →
    Keeps p Q S → (signals : List (ℕ × Signal)) (x : NodeState) (out pend : List Signal) →
    IsValid x → IsMarked x → hears_packets x.view.phase ≡ true → MayCome x signals →
    HasRoom x signals →
    Q x out (sent_on p signals ++ pend) → Heard-all p Q S (hear_all signals x) out pend
hear-keeps p Q S keeps [] x out pend v m h f r q = inl (h, subst (λ o. Q x o pend) (sym (append-nil out)) q)
hear-keeps p Q S keeps (s ∷ rest) x out pend v m h f room q = elim (signal-stays s.0 s.1 x) [
  | inl t ↦ on (ap hears_packets t.phase ∙ h) (hear-keeps p Q S keeps rest first.state (out ++ sent_on p first.sends) pend)
  | inr r ↦ inr (
    hear-stays rest first.state r,
    subst S (sym whole)
        (keeps.adds (out ++ sent_on p first.sends) (sent_on p later.sends)
        (keeps.adds out (sent_on p first.sends) (keeps.less x out (sent_on p (s ∷ rest) ++ pend) q) (entering-silent s.0 s.1 x p h r))
        (hear-silent rest first.state p (resetting first.state.view.phase r))),
  )
]
  where
    first : Step
    first = on_signal s.0 s.1 x

    later : Step
    later = hear_all rest first.state

    whole :
        out ++ sent_on p (hear_all (s ∷ rest) x).sends ≡ (out ++ sent_on p first.sends)
        ++ sent_on p later.sends
    whole = ap (λ ss. out ++ ss) (sent_on-append p first.sends later.sends) ∙ sym (append_assoc out (sent_on p first.sends) (sent_on p later.sends))

    resetting : (h : _) → is_resetting h ≡ true → hears_packets h ≡ false
    resetting h r = grind arith

    on : hears_packets first.state.view.phase ≡ true
        → (IsValid first.state → IsMarked first.state → hears_packets first.state.view.phase ≡ true → MayCome first.state rest → HasRoom first.state rest → Q first.state (out ++ sent_on p first.sends) (sent_on p rest ++ pend) → Heard-all p Q S later (out ++ sent_on p first.sends) pend)
        → Heard-all p Q S (hear_all (s ∷ rest) x) out pend
    on n go-on =
        let a = first-allowed x s rest f in
        let q1 : Q first.state (out ++ sent_on p first.sends) (sent_on p rest ++ pend) =
        keeps.step s.0 s.1 x out (sent_on p rest ++ pend) v m h n a (first-room x s rest room) (subst (λ ss. Q x out ss) (with-append (s.0 == p) s.1 (sent_on p rest) pend) q) in
        elim (go-on (sound-on_signal s.0 s.1 x v).valid (signal-marked s.0 s.1 x v m (λ _. a)) n (λ j. front-hears s.0 s.1 x j (sent_on j rest) v m h n a (f j)) (λ j. room-hears s.0 s.1 x j (sent_on j rest) v m h n a (f j) (room j)) q1) [
          | inl g ↦ inl (g.0, subst (λ o. Q later.state o pend) (sym whole) g.1)
          | inr g ↦ inr (g.0, subst S (sym whole) g.1)
        ]
