-- Worlds that never settle: how it is shown that no number of turns is enough.
use Rattle.std.proofs.Common.{◌≡◌, ◌≢◌, ◌⊎◌, ℕ, zero, suc, ◌<◌, ◌≤◌, Bool, true, false, not, ◌&&◌, List, [], ◌∷◌, Option, Some, None, is_some, nat_lt, map, slice_get, bit_or, ◌^◌, if◌then◌else◌, refl, sym, ◌∙◌, ap, subst, arith, inl, inr}
use Rattle.std.proofs.lemmas.Bool.{cases_lt, and_parts}
use Rattle.std.proofs.lemmas.Nat.{le_or_l}
use Rattle.std.specs.Prelude.{IsSome, IsSomeAnd}
use Rattle.std.specs.List.{list_all}
use Rattle.port_state.specs.declared.view.View.{View}
use Rattle.port_state.specs.Contention.{draws_with}
use Rattle.port_state.specs.Machine.{PortNode}
use Rattle.cable_world.specs.World.{CableWorld, NodeSet}
use Rattle.cable_world.specs.Turn.{turn}
use Rattle.cable_world.specs.Quiet.{PlacedHold, HoldSchedule, with_holds, quiet_after}
use Rattle.cable_world.specs.Outcome.{AtView, DrewAlike, loop, tree, contention, IsSettled}
use Rattle.cable_world.proofs.Options.{some-and, some-of}

-- the same holds after each turn
abbrev pub always : List PlacedHold → HoldSchedule
always holds k = holds

-- however many turns are done, with these holds after each of them, no component has an outcome
abbrev pub NeverSettles : List PlacedHold → CableWorld → Type 0
NeverSettles holds w =
    (k : ℕ) (set : NodeSet) → IsSettled (quiet_after (always holds) k w) set → ⊥

-- ---- a world that isn't settled

-- no node has an ID, none reports the timeout, and no two drew the same 32 coins
pub record IsOpen (w : CableWorld) : Type 0 where
  pub unnamed : (k : ℕ) → AtView w k (λ v. IsSome v.id) → ⊥
  pub calm : (k : ℕ) → AtView w k (λ v. v.timed_out ≡ true) → ⊥
  pub unlike : (a b : ℕ) → a < b → AtView w a (λ v. AtView w b (λ u. DrewAlike v u)) → ⊥

has-some : {A : Type 0} → (o : Option A) (P : A → Type 0) → IsSomeAnd o P → IsSome o
has-some None P h = absurd h
has-some (Some x) P h = refl

pub open-unsettled : (w : CableWorld) (set : NodeSet) → IsOpen w → IsSettled w set → ⊥
open-unsettled w set o (loop core, h) =
    o.calm h.node (some-and (slice_get w.nodes h.node) _ _ (λ (x : PortNode) p. p.1) (h.timed_out h.node h.in_core))
open-unsettled w set o (tree root t, h) =
    o.unnamed root (some-and (slice_get w.nodes root) _ _ (λ (x : PortNode) p. has-some x.state.view.id _ p) (h.ids root h.holds_root))
open-unsettled w set o (contention a b, h) = o.unlike a b h.0.rising h.0.draws

-- ---- tests of all nodes

abbrev pub each_view : (View → Bool) → CableWorld → Bool
each_view test w = list_all (λ (x : PortNode). test x.state.view) w.nodes

-- where each node passes a test, no node shows what doesn't pass it
pub nowhere :
    (test : View → Bool) (P : View → Type 0) (w : CableWorld) (k : ℕ) →
    ((v : View) → test v ≡ true → P v → ⊥) → each_view test w ≡ true → AtView w k P → ⊥
nowhere test P w k never all = go w.nodes k all
  where
    go :
        (nodes : List PortNode) (j : ℕ) → list_all (λ (x : PortNode). test x.state.view) nodes ≡ true →
        IsSomeAnd (slice_get nodes j) (λ (x : PortNode). P x.state.view) → ⊥
    go [] j a h = absurd h
    go (x ∷ nodes) zero a h = never x.state.view (and_parts (test x.state.view) (list_all (λ (y : PortNode). test y.state.view) nodes) a).0 h
    go (x ∷ nodes) (suc j) a h = go nodes j (and_parts (test x.state.view) (list_all (λ (y : PortNode). test y.state.view) nodes) a).1 h

-- no ID, no timeout, and few coins drawn
abbrev pub is_fresh : View → Bool
is_fresh v = not (is_some v.id) && (not v.timed_out && nat_lt v.draws 32)

-- no ID and no timeout
abbrev pub is_unnamed : View → Bool
is_unnamed v = not (is_some v.id) && not v.timed_out

named-not : (o : Option ℕ) → not (is_some o) ≡ true → IsSome o → ⊥
named-not None e h = absurd cc
named-not (Some i) e h = absurd cc

timed-not : (b : Bool) → not b ≡ true → b ≡ true → ⊥
timed-not true e h = absurd cc
timed-not false e h = absurd cc

pub open-unnamed :
    (w : CableWorld) → each_view is_unnamed w ≡ true →
    ((a b : ℕ) → a < b → AtView w a (λ v. AtView w b (λ u. DrewAlike v u)) → ⊥) → IsOpen w
open-unnamed w all unlike = record {
  unnamed = λ k. nowhere is_unnamed (λ v. IsSome v.id) w k (λ v e. named-not v.id (and_parts (not (is_some v.id)) (not v.timed_out) e).0) all;
  calm = λ k. nowhere is_unnamed (λ v. v.timed_out ≡ true) w k (λ v e. timed-not v.timed_out (and_parts (not (is_some v.id)) (not v.timed_out) e).1) all;
  unlike = unlike;
}

fresh-parts :
    (v : View) → is_fresh v ≡ true →
    (not (is_some v.id) ≡ true) × (not v.timed_out ≡ true) × (nat_lt v.draws 32 ≡ true)
fresh-parts v e =
    let first = and_parts (not (is_some v.id)) (not v.timed_out && nat_lt v.draws 32) e in
    let second = and_parts (not v.timed_out) (nat_lt v.draws 32) first.1 in
    (first.0, second.0, second.1)

few-many : (n : ℕ) → nat_lt n 32 ≡ true → 32 ≤ n → ⊥
few-many n e m = grind arith

pub open-fresh : (w : CableWorld) → each_view is_fresh w ≡ true → IsOpen w
open-fresh w all = record {
  unnamed = λ k. nowhere is_fresh (λ v. IsSome v.id) w k (λ v e. named-not v.id (fresh-parts v e).0) all;
  calm = λ k. nowhere is_fresh (λ v. v.timed_out ≡ true) w k (λ v e. timed-not v.timed_out (fresh-parts v e).1) all;
  unlike = λ a b less. nowhere is_fresh (λ v. AtView w b (λ u. DrewAlike v u)) w a (many b) all;
}
  where
    many : (b : ℕ) (v : View) → is_fresh v ≡ true → AtView w b (λ u. DrewAlike v u) → ⊥
    many b v e h = few-many v.draws (fresh-parts v e).2 (some-of (slice_get w.nodes b) (λ (y : PortNode). DrewAlike v y.state.view) h).2.many

-- the coins that the nodes drew first
abbrev pub first_draws : CableWorld → List ℕ
first_draws w = map (λ (x : PortNode). x.state.view.first_draws) w.nodes

-- of two nodes that drew unequal coins
pub two-unlike :
    (w : CableWorld) (f g : ℕ) → first_draws w ≡ f ∷ g ∷ [] → f ≢ g → (a b : ℕ) → a < b →
    AtView w a (λ v. AtView w b (λ u. DrewAlike v u)) → ⊥
two-unlike w f g drew ne a b less h = go w.nodes drew a b less h
  where
    go :
        (nodes : List PortNode) → map (λ (x : PortNode). x.state.view.first_draws) nodes ≡ f ∷ g ∷ [] → (i j : ℕ) → i < j →
        IsSomeAnd (slice_get nodes i) (λ (x : PortNode). IsSomeAnd (slice_get nodes j) (λ (y : PortNode). DrewAlike x.state.view y.state.view)) → ⊥
    go [] e i j l d = absurd cc
    go (x ∷ []) e i j l d = absurd cc
    go (x ∷ y ∷ []) e zero zero l d = absurd (omega (arith, l))
    go (x ∷ y ∷ []) e zero (suc zero) l d = let same = d.alike in ne cc
    go (x ∷ y ∷ []) e zero (suc (suc j)) l d = absurd d
    go (x ∷ y ∷ []) e (suc zero) zero l d = absurd (omega (arith, l))
    go (x ∷ y ∷ []) e (suc zero) (suc zero) l d = absurd (omega (arith, l))
    go (x ∷ y ∷ []) e (suc zero) (suc (suc j)) l d = absurd d
    go (x ∷ y ∷ []) e (suc (suc i)) j l d = absurd d
    go (x ∷ y ∷ z ∷ more) e i j l d = absurd cc

-- ---- what comes back

-- this is so of each number below p
abbrev pub Below : ℕ → (ℕ → Type 0) → Type 0
Below zero P = Unit {0}
Below (suc p) P = Below p P × P p

pub below : (p : ℕ) (P : ℕ → Type 0) (i : ℕ) → Below p P → i < p → P i
below zero P i b l = absurd (omega (arith, l))
below (suc p) P i b l = go (cases_lt i p) (λ less. below p P i b.0 less)
  where
    go : (i < p) ⊎ (p ≤ i) → (i < p → P i) → P i
    go (inl less) before = before less
    go (inr enough) before = let same : p ≡ i = omega (arith, l, enough) in subst P same b.1

-- the world between one return and the next
record IsOnTheWay (holds : List PlacedHold) (Start : CableWorld → Type 0) (p : ℕ) (v : CableWorld) : Type 0 where
  from : CableWorld
  starts : Start from
  after : ℕ
  below : after < p
  is : v ≡ quiet_after (always holds) after from

-- From a start another start is reached in p turns, and until then the world is open: so it is open
-- for ever.
pub comes-round :
    (holds : List PlacedHold) (Start : CableWorld → Type 0) (p : ℕ) → 0 < p →
    ((w : CableWorld) → Start w → with_holds holds w ≡ w) →
    ((w : CableWorld) → Start w → Start (quiet_after (always holds) p w)) →
    ((w : CableWorld) (i : ℕ) → Start w → i < p → IsOpen (quiet_after (always holds) i w)) →
    (w : CableWorld) → Start w → NeverSettles holds w
unfolding quiet_after
comes-round holds Start p some held back opens w s k set =
    let r = on-the-way k in
    open-unsettled (quiet_after (always holds) k w) set (subst IsOpen (sym r.is) (opens r.from r.after r.starts r.below))
  where
    OnTheWay : CableWorld → Type 0
    OnTheWay = IsOnTheWay holds Start p

    stepped :
        (v : CableWorld) (r : OnTheWay v) →
        with_holds holds (turn v) ≡ quiet_after (always holds) (suc r.after) r.from
    stepped v r = ap (λ u. with_holds holds (turn u)) r.is

    next :
        (v : CableWorld) (r : OnTheWay v) → (suc r.after < p) ⊎ (p ≤ suc r.after) →
        OnTheWay (with_holds holds (turn v))
    next v r (inl less) = record { from = r.from; starts = r.starts; after = suc r.after; below = less; is = stepped v r }
    next v r (inr enough) =
        let there = quiet_after (always holds) p r.from in
        let starts : Start there = back r.from r.starts in
        let last : suc r.after ≡ p = let b = r.below in omega (arith, b, enough) in
        record {
          from = there;
          starts = starts;
          after = 0;
          below = some;
          is = stepped v r ∙ ap (λ n. quiet_after (always holds) n r.from) last ∙ sym (held there starts);
        }

    on-the-way : (n : ℕ) → OnTheWay (quiet_after (always holds) n w)
    on-the-way zero = record { from = w; starts = s; after = 0; below = some; is = refl }
    on-the-way (suc n) = let r = on-the-way n in next (quiet_after (always holds) n w) r (cases_lt (suc r.after) p)

-- ---- coins

-- a coin more keeps what was drawn
pub keeps-drawn : (n f : ℕ) → 1 ≤ f → 1 ≤ draws_with true n f
keeps-drawn n f some = go (nat_lt n 32)
  where
    more : 1 ≤ bit_or f (2 ^ n)
    more = let grows = le_or_l f (2 ^ n) in omega (arith, some, grows)

    go : (b : Bool) → 1 ≤ (if b then bit_or f (2 ^ n) else f)
    go true = more
    go false = some
