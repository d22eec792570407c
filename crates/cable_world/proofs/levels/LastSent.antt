-- What a node sends on a port brings the level that it sent last to the one that its phase and the
-- port's role tell.
use Rattle.std.proofs.Common.{◌≡◌, ℕ, Bool, true, false, not, ◌&&◌, ◌==◌, List, [], ◌∷◌, ◌++◌, map, Option, Some, None, slice_get, refl, sym, ◌∙◌, ap, subst, if◌then◌else◌}
use Rattle.std.specs.Prelude.{nat_le, IsSome}
use Rattle.std.specs.Option.{option_map}
use Rattle.std.proofs.lemmas.Bool.{eqb-true, eqb-false, ne_eqb, eq-eqb}
use Rattle.port_state.specs.declared.signal.Level.{Level}
use Rattle.port_state.specs.declared.signal.Level.TheVariants as level
use Rattle.port_state.specs.declared.signal.Phase.{Phase}
use Rattle.port_state.specs.declared.signal.Phase.TheVariants.{ResetStart, ResetWait, TreeStart, ChildShake, ParentShake, Contend, SelfIdent, Ready}
use Rattle.port_state.specs.declared.signal.Signal.{Signal}
use Rattle.port_state.specs.declared.signal.Signal.TheVariants as signal
use Rattle.port_state.specs.declared.ports.PortView.{PortView}
use Rattle.port_state.specs.declared.states.NodeState.{NodeState}
use Rattle.port_state.specs.Ports.{is_idle, is_parent, is_child, asks, is_remaining, is_unnamed, lowest, every, passes, port_is, is_connected, is_port, change_port}
use Rattle.port_state.specs.Sends.{on_every, packets_on_every, packet, on_port, sent_on}
use Rattle.port_state.specs.Step.{Step, silent_step}
use Rattle.port_state.specs.Entry.{enter, with_port}
use Rattle.port_state.specs.Heard as heard
use Rattle.port_state.specs.Resetting as reset
use Rattle.port_state.specs.TreeIdentify as tree
use Rattle.port_state.specs.Contention as contention
use Rattle.port_state.specs.SelfIdentify as ident
use Rattle.self_id.specs.Group.{node_count}
use Rattle.port_state.specs.Group.{own_group}
use Rattle.port_state.specs.Row as row
use Rattle.port_state.specs.Row.{Row}
use Rattle.port_state.specs.Tick.{raise_timer, row_of, does, tick}
use Rattle.port_state.specs.Valid.{HasNoRoles, HasRoles, FitsPhase, IsValid}
use Rattle.port_state.proofs.Lemmas.{valid-raise_timer, on_every-port, on_others-port, notices-port, packets-port, map-port, changed-port, sent_on-append, port_is-changed}
use Rattle.cable_world.specs.Agreement.{level_sent, level_sent_at, level_after_one, level_after, leads_down}

pub level_after-append :
    (l : Level) (xs ys : List Signal) → level_after l (xs ++ ys) ≡ level_after (level_after l xs) ys
level_after-append l [] ys = refl
level_after-append l (x ∷ xs) ys = level_after-append (level_after_one x l) xs ys

-- a step after which each connected port was last sent what the new record tells
abbrev pub SaysSo : NodeState → Step → Type 0
SaysSo x s = (k : ℕ) → is_connected x.view.ports k ≡ true → level_after (level_sent_at x k) (sent_on k s.sends) ≡ level_sent_at s.state k

-- ---- roles

turned-not : (c i : Bool) → i ≡ not c → c ≡ not i
turned-not true i h = rw h refl
turned-not false i h = rw h refl

-- a connected port leads to a child where it isn't the parent port
pub child-if :
    (parent : Option ℕ) (ports : List PortView) (k : ℕ) → HasRoles parent ports →
    is_connected ports k ≡ true → leads_down ports k ≡ not (is_port parent k)
child-if parent ports k h c = go (slice_get ports k) refl
  where
    go :
        (o : Option PortView) → slice_get ports k ≡ o →
        passes (λ p. p.child) (slice_get ports k) ≡ not (is_port parent k)
    go None e = let none : passes (λ p. p.connected) None ≡ true = subst (λ o. passes (λ p. p.connected) o ≡ true) e c in absurd cc
    go (Some p) e =
        let on : p.connected ≡ true = subst (λ o. passes (λ p. p.connected) o ≡ true) e c in
        rw e (turned-not p.child (is_port parent k) ((h k p e).one on))

-- before the tree is known no port does
pub no-child :
    (parent : Option ℕ) (ports : List PortView) (k : ℕ) → HasNoRoles parent ports →
    leads_down ports k ≡ false
no-child parent ports k h = go (slice_get ports k) refl
  where
    go :
        (o : Option PortView) → slice_get ports k ≡ o →
        passes (λ p. p.child) (slice_get ports k) ≡ false
    go None e = rw e refl
    go (Some p) e = rw e (h.0 k p e)

-- ---- resets

on-every :
    (s : Signal) (ports : List PortView) (k : ℕ) → is_connected ports k ≡ true →
    sent_on k (on_every s ports) ≡ s ∷ []
on-every s ports k c = on_every-port k s ports ∙ (rw c refl)

pub enter-says : (caused : Bool) (x : NodeState) → SaysSo x (enter caused x)
unfolding enter
enter-says caused x k c = rw (on-every signal.Reset x.view.ports k c) refl

-- ---- the rows of a tick

-- a fact of the row that a test chooses
pub choose :
    (P : Row → Type 0) (b : Bool) (r s : Row) → (b ≡ true → P r) → (b ≡ false → P s) →
    P (if b then r else s)
choose P true r s p q = p refl
choose P false r s p q = q refl

choice :
    (coin : Bool) (x : NodeState) (b : Bool) (r s : Row) → (b ≡ true → SaysSo x (does coin r x)) →
    SaysSo x (does coin s x) → SaysSo x (does coin (if b then r else s) x)
choice coin x b r s p q = choose (λ chosen. SaysSo x (does coin chosen x)) b r s p (λ _. q)

still : (x : NodeState) → SaysSo x (silent_step x)
still x k c = refl

ends-reset : (x : NodeState) → SaysSo x (reset.ends_reset x)
ends-reset x k c = rw (on-every signal.Idle x.view.ports k c) refl

begins-tree : (x : NodeState) → x.view.phase ≡ ResetWait → SaysSo x (reset.begins_tree x)
begins-tree x e k c = rw e refl

-- the role that a port takes, and what is sent on it
role-told :
    (conn : Bool) (l : Level) (c a n : Bool) → conn ≡ true → c ≡ false →
    (let p : PortView = record { connected = conn; shown = l; child = c; asked = a; named = n } in level_after level.Idle (if asks p then signal.Child ∷ [] else (if is_remaining p then signal.Parent ∷ [] else [])) ≡ level_sent ChildShake (tree.adopt p).child)
role-told conn level.Reset c a n e f = rw (e, f) refl
role-told conn level.Idle c a n e f = rw (e, f) refl
role-told conn level.Parent c a n e f = rw e refl
role-told conn level.Child c a n e f = rw (e, f) refl

roles-told :
    (o : Option PortView) → passes (λ p. p.connected) o ≡ true → passes (λ p. p.child) o ≡ false →
    level_after level.Idle (if passes asks o then signal.Child ∷ [] else (if passes is_remaining o then signal.Parent ∷ [] else []))
    ≡ level_sent ChildShake (passes (λ p. p.child) (option_map tree.adopt o))
roles-told None e f = absurd cc
roles-told (Some p) e f = role-told p.connected p.shown p.child p.asked p.named e f

takes-roles : (x : NodeState) → IsValid x → x.view.phase ≡ TreeStart → SaysSo x (tree.takes_roles x)
takes-roles x v e k c =
    let fit : HasNoRoles x.view.parent x.view.ports = subst (λ ph. FitsPhase ph x.view.parent x.view.ports) e v.fits in
    rw (e, notices-port k x.view.ports, map-port k tree.adopt x.view.ports) (roles-told (slice_get x.view.ports k) c (no-child x.view.parent x.view.ports k fit))

tree-start :
    (coin : Bool) (x : NodeState) → IsValid x → x.view.phase ≡ TreeStart →
    SaysSo x (does coin (tree.tree_start_row x) x)
tree-start coin x v e =
    choice coin x (tree.is_decided x) row.takes_roles _ (λ _. takes-roles x v e)
    (choice coin x (nat_le x.timing.timeout x.view.timer) row.times_out row.none (λ _. λ k c. refl) (still x))

greets-parent : (x : NodeState) → x.view.phase ≡ ChildShake → SaysSo x (tree.awaits_parent x)
greets-parent x e k c = rw e refl

-- ---- a signal to the parent port

-- what goes out on one port alone
abbrev pub only : Bool → Signal → List Signal
only b s = if b then s ∷ [] else []

-- what is sent first, on this port or on another, and the rest
pub cons-sent :
    (b : Bool) (s : Signal) (rest : List Signal) → (if b then s ∷ rest else rest) ≡ only b s ++ rest
cons-sent true s rest = refl
cons-sent false s rest = refl

-- where each connected port but one leads to a child, this is said on that one
to-parent :
    (x : NodeState) (p : ℕ) (after : Phase) (s : Signal) → HasRoles (Some p) x.view.ports →
    ((b : Bool) → level_after (level_sent x.view.phase (not b)) (only b s) ≡ level_sent after (not b)) →
    (k : ℕ) → is_connected x.view.ports k ≡ true →
    level_after (level_sent_at x k) (sent_on k ((p, s) ∷ []))
    ≡ level_sent after (leads_down x.view.ports k)
to-parent x p after s r f k c = rw (child-if (Some p) x.view.ports k r c) (f (p == k))

pub roles-at :
    (x : NodeState) (o : Option ℕ) → x.view.parent ≡ o → HasRoles x.view.parent x.view.ports →
    HasRoles o x.view.ports
roles-at x o e r = subst (λ q. HasRoles q x.view.ports) e r

becomes-root :
    (x : NodeState) → x.view.phase ≡ ParentShake → HasRoles None x.view.ports →
    SaysSo x (tree.becomes_root x)
becomes-root x e r k c = rw (e, child-if None x.view.ports k r c) refl

parent-shake :
    (coin : Bool) (o : Option ℕ) (x : NodeState) → x.view.phase ≡ ParentShake →
    HasRoles o x.view.ports → SaysSo x (does coin (tree.parent_shake_at o x) x)
parent-shake coin None x e r = becomes-root x e r
parent-shake coin (Some p) x e r =
    choice coin x (port_is (λ p. is_child p.shown) x.view.ports p) _ _ (λ _. to-parent x p SelfIdent signal.Idle r (λ b. rw e (accepted b)))
    (choice coin x (port_is (λ p. is_parent p.shown) x.view.ports p) _ _ (λ _. to-parent x p Contend signal.Idle r (λ b. rw e (contends b))) (still x))
  where
    accepted :
        (b : Bool) →
        level_after (level_sent ParentShake (not b)) (only b signal.Idle)
        ≡ level_sent SelfIdent (not b)
    accepted true = refl
    accepted false = refl

    contends :
        (b : Bool) →
        level_after (level_sent ParentShake (not b)) (only b signal.Idle)
        ≡ level_sent Contend (not b)
    contends true = refl
    contends false = refl

-- equality of numbers, the other way round
pub turned : (n k : ℕ) → (k == n) ≡ (n == k)
turned n k = go (k == n) refl
  where
    go : (b : Bool) → (k == n) ≡ b → b ≡ (n == k)
    go true e = sym (eq-eqb n k (sym (eqb-true k n e)))
    go false e = sym (ne_eqb n k (λ same. eqb-false k n e (sym same)))

abbrev pub as_child : PortView → PortView
as_child q = record q { child = true }

-- the rival becomes a child, as all others are
rival-child :
    (x : NodeState) (p k : ℕ) → HasRoles (Some p) x.view.ports →
    is_connected x.view.ports k ≡ true → leads_down (change_port p as_child x.view.ports) k ≡ true
rival-child x p k r c = ap (passes (λ q. q.child)) (changed-port p k as_child x.view.ports) ∙ go (k == p) refl
  where
    made :
        (o : Option PortView) → passes (λ q. q.connected) o ≡ true →
        passes (λ q. q.child) (option_map as_child o) ≡ true
    made None h = cc
    made (Some q) h = refl

    go :
        (b : Bool) → (k == p) ≡ b →
        passes (λ q. q.child) (if b then option_map as_child (slice_get x.view.ports k) else slice_get x.view.ports k)
        ≡ true
    go true e = made (slice_get x.view.ports k) c
    go false e = child-if (Some p) x.view.ports k r c ∙ (let other : (p == k) ≡ false = sym (turned p k) ∙ e in rw other refl)

takes-rival :
    (x : NodeState) (p : ℕ) → x.view.phase ≡ Contend → HasRoles (Some p) x.view.ports →
    SaysSo x (contention.takes_rival p x)
takes-rival x p e r k c = rw (e, rival-child x p k r c, child-if (Some p) x.view.ports k r c) (told (p == k))
  where
    told : (b : Bool) → level_after (level_sent Contend (not b)) (only b signal.Child) ≡ level.Child
    told true = refl
    told false = refl

contend :
    (coin : Bool) (o : Option ℕ) (x : NodeState) → x.view.phase ≡ Contend →
    HasRoles o x.view.ports → SaysSo x (does coin (contention.contend_at o x) x)
contend coin None x e r = still x
contend coin (Some p) x e r =
    choice coin x (port_is (λ p. is_parent p.shown) x.view.ports p) _ _ (λ _. takes-rival x p e r)
    (to-parent x p ParentShake signal.Parent r (λ b. rw e (again b)))
  where
    again :
        (b : Bool) →
        level_after (level_sent Contend (not b)) (only b signal.Parent)
        ≡ level_sent ParentShake (not b)
    again true = refl
    again false = refl

-- ---- what is no level

quiet-packets : (l : Level) (quads : List ℕ) → level_after l (map packet quads) ≡ l
quiet-packets l [] = refl
quiet-packets l (q ∷ qs) = quiet-packets l qs

packets-quiet :
    (l : Level) (b : Bool) (quads : List ℕ) → level_after l (if b then map packet quads else []) ≡ l
packets-quiet l true quads = quiet-packets l quads
packets-quiet l false quads = refl

done-quiet :
    (l : Level) (k : ℕ) (parent : Option ℕ) →
    level_after l (sent_on k (on_port parent signal.Done)) ≡ l
done-quiet l k None = refl
done-quiet l k (Some p) = go (p == k)
  where
    go : (b : Bool) → level_after l (only b signal.Done) ≡ l
    go true = refl
    go false = refl

names-itself : (x : NodeState) → x.view.phase ≡ SelfIdent → SaysSo x (ident.names_itself x)
names-itself x e k c =
    let quads = own_group x (node_count x.list.items) in
    ap (level_after (level_sent_at x k)) (sent_on-append k (packets_on_every quads x.view.ports) (on_port x.view.parent signal.Done))
    ∙ level_after-append (level_sent_at x k) (sent_on k (packets_on_every quads x.view.ports)) (sent_on k (on_port x.view.parent signal.Done))
    ∙ done-quiet (level_after (level_sent_at x k) (sent_on k (packets_on_every quads x.view.ports))) k x.view.parent
    ∙ ap (level_after (level_sent_at x k)) (packets-port k quads x.view.ports)
    ∙ packets-quiet (level_sent_at x k) (is_connected x.view.ports k) quads
    ∙ (rw e refl)

-- a port changes, and its role doesn't
same-level_sent_at :
    (x : NodeState) (n : ℕ) (f : PortView → PortView) → ((p : PortView) → (f p).child ≡ p.child) →
    (k : ℕ) → level_sent_at (with_port n f x) k ≡ level_sent_at x k
same-level_sent_at x n f h k = ap (level_sent x.view.phase) (port_is-changed (λ p. p.child) n f h x.view.ports k)

asks-child : (x : NodeState) (n : ℕ) → SaysSo x (ident.asks_child n x)
asks-child x n k c = go (n == k) ∙ sym (same-level_sent_at x n (λ p. record p { asked = true }) (λ p. refl) k)
  where
    go : (b : Bool) → level_after (level_sent_at x k) (only b signal.Grant) ≡ level_sent_at x k
    go true = refl
    go false = refl

granted :
    (coin : Bool) (o : Option ℕ) (x : NodeState) → x.view.phase ≡ SelfIdent →
    SaysSo x (does coin (ident.granted_row o x) x)
granted coin None x e = choice coin x (ident.may_name x) row.names_itself row.none (λ _. names-itself x e) (still x)
granted coin (Some n) x e = choice coin x (port_is (λ p. p.asked) x.view.ports n) row.none (row.asks_child n) (λ _. still x) (asks-child x n)

-- ---- a tick

row-says :
    (coin : Bool) (ph : Phase) (x : NodeState) → IsValid x → x.view.phase ≡ ph →
    SaysSo x (does coin (row_of ph x) x)
row-says coin ResetStart x v e = choice coin x (nat_le x.timing.hold x.view.timer) row.ends_reset row.none (λ _. ends-reset x) (still x)
row-says coin ResetWait x v e = choice coin x (every (λ p. reset.is_calm p.shown) x.view.ports) row.begins_tree row.none (λ _. begins-tree x e) (still x)
row-says coin TreeStart x v e = tree-start coin x v e
row-says coin ChildShake x v e = choice coin x (every (λ p. if p.child then is_idle p.shown else true) x.view.ports) row.awaits_parent row.none (λ _. greets-parent x e) (still x)
row-says coin ParentShake x v e = parent-shake coin x.view.parent x e (subst (λ ph. FitsPhase ph x.view.parent x.view.ports) e v.fits)
row-says coin Contend x v e =
    let fit : HasRoles x.view.parent x.view.ports × IsSome x.view.parent = subst (λ ph. FitsPhase ph x.view.parent x.view.ports) e v.fits in
    choice coin x (nat_le x.view.wait x.view.timer) (contention.contend_at x.view.parent x) row.none (λ _. contend coin x.view.parent x e fit.0) (still x)
row-says coin SelfIdent x v e = choice coin x x.view.granted (ident.granted_row (lowest is_unnamed x.view.ports) x) row.none (λ _. granted coin (lowest is_unnamed x.view.ports) x e) (still x)
row-says coin Ready x v e = still x

pub tick-says : (coin : Bool) (x : NodeState) → IsValid x → SaysSo x (tick coin x)
unfolding tick
tick-says coin x v =
    let y : NodeState = raise_timer x in
    row-says coin x.view.phase y (valid-raise_timer x v) refl

-- ---- a signal

level-says : (x : NodeState) (n : ℕ) (l : Level) → SaysSo x (silent_step (heard.with_level n l x))
level-says x n l k c = sym (same-level_sent_at x n (λ p. record p { shown = l }) (λ p. refl) k)

reset-says :
    (b : Bool) (x : NodeState) (n : ℕ) →
    SaysSo x (if b then silent_step (heard.with_level n level.Reset x) else enter false (heard.with_level n level.Reset x))
reset-says true x n = level-says x n level.Reset
reset-says false x n = λ k c.
    let y : NodeState = heard.with_level n level.Reset x in
    let on : is_connected y.view.ports k ≡ true = port_is-changed (λ p. p.connected) n (λ p. record p { shown = level.Reset }) (λ p. refl) x.view.ports k ∙ c in
    ap (λ l. level_after l (sent_on k (enter false y).sends)) (level-says x n level.Reset k c) ∙ enter-says false y k on

hears-says : (n : ℕ) (s : Signal) (x : NodeState) → SaysSo x (heard.hears n s x)
hears-says n signal.Reset x = reset-says (heard.is_resetting x.view.phase) x n
hears-says n signal.Idle x = level-says x n level.Idle
hears-says n signal.Parent x = level-says x n level.Parent
hears-says n signal.Child x = level-says x n level.Child
hears-says n signal.Grant x = λ k c. refl
hears-says n (signal.Packet quad) x = λ k c.
    ap (level_after (level_sent_at x k)) (on_others-port k n (signal.Packet quad) x.view.ports) ∙ go (level_sent_at x k) (not (k == n) && is_connected x.view.ports k)
  where
    go : (l : Level) (b : Bool) → level_after l (only b (signal.Packet quad)) ≡ l
    go l true = refl
    go l false = refl
hears-says n signal.Done x = λ k c. sym (same-level_sent_at x n (λ p. record p { named = true }) (λ p. refl) k)

heard-says :
    (b : Bool) (n : ℕ) (s : Signal) (x : NodeState) →
    SaysSo x (if b then heard.hears n s x else silent_step x)
heard-says true n s x = hears-says n s x
heard-says false n s x = still x

pub signal-says : (n : ℕ) (s : Signal) (x : NodeState) → SaysSo x (heard.on_signal n s x)
unfolding heard.on_signal
signal-says n s x = heard-says (heard.is_heard n s x) n s x
