-- A tree that was reported stands, in turns and holds.
use Rattle.std.proofs.Common.{◌≡◌, ℕ, suc, ◌+◌, ◌^◌, ◌<◌, ◌==◌, Bool, true, false, cond, List, [], ◌∷◌, find, length, slice_get, All, Option, None, Some, IfSome, refl, sym, ◌∙◌, subst, ap, arith}
use Rattle.std.specs.Coded.{Coded-set, coded_ℕ, coded_bool, coded_option, coded_list}
use Rattle.std.specs.Int.{bit_at}
use Rattle.std.specs.Option.{option_and_then}
use Rattle.std.specs.Prelude.{IsSome, IsSomeAnd, is_some}
use Rattle.std.proofs.Math.Logic.{∥∥₁_elim}
use Rattle.std.proofs.lemmas.Bool.{eqb-true}
use Rattle.std.proofs.lemmas.Option.{slice_get_within}
use Rattle.topology_stack.specs.Tree.{Tree, emits}
use Rattle.cabling.specs.declared.cable.End.{End}
use Rattle.cabling.specs.Wiring.{Wiring}
use Rattle.cabling.specs.NodeSet.{Holds}
use Rattle.cabling.specs.Component.{IsComponent}
use Rattle.cabling.specs.Looped.{IsCore}
use Rattle.cabling.specs.Labels.{labels}
use Rattle.cabling.specs.Sees.{Sees, numbers, SmallTree}
use Rattle.cabling.proofs.Lemmas.{one-tree, Loopless, small_tree, shared, seen_loopless}
use Rattle.cable_world.specs.World.{CableWorld}
use Rattle.cable_world.specs.Turn.{turns_after}
use Rattle.cable_world.specs.Act.{hold, hold_fault}
use Rattle.cable_world.specs.Run.{IsReached, Rests}
use Rattle.cable_world.specs.Lawful.{IsLawful}
use Rattle.cable_world.specs.Outcome.{IsTree, HasNoLoop, attrs_now}
use Rattle.cable_world.proofs.Lemmas.{some-of, some-same, some-and, lawful-now, reached-comes, one-hold, rests-cabling, rests-then, turns-rest}
use Rattle.outcomes.specs.Settled.{TreesStay}
use Rattle.settle.specs.declared.report.Outcome.{Outcome}
use Rattle.settle.specs.declared.report.Outcome.TheVariants as reported
use Rattle.settle.specs.declared.report.Part.{Part}
use Rattle.settle.specs.declared.report.Report.{Report}
use Rattle.settle.specs.Report.{IsPart}
use Rattle.settle.specs.Reported.{IsReported, ReportsTree}
use Rattle.settle.proofs.Lemmas.{one-order, same-component, same-tree}
use Rattle.script_told.specs.Bus.{Notes, ReportedTree, tree_of, part_with, tree_with}
use Rattle.script_bus.specs.codings.Standing.{StandsSince, StandsAs}

-- ---- since a report

since-more :
    (report : Report) (k : ℕ) (w v : CableWorld) → Rests k w v → StandsSince report w →
    StandsSince report v
since-more report k w v rests s = record {
  before = s.before;
  reached = s.reached;
  is = s.is;
  turns = s.turns + k;
  rests = rests-then s.rests rests;
}

pub turns-stand :
    (k : ℕ) (w v : CableWorld) (o : Option Report) → v ≡ turns_after k w →
    IfSome o (λ r. StandsSince r w) → IfSome o (λ r. StandsSince r v)
turns-stand k w v None e h = h
turns-stand k w v (Some r) e h = since-more r k w v (subst (Rests k w) (sym e) (turns-rest k w)) h

pub hold-stands :
    (end : End) (n : ℕ) (w v : CableWorld) (o : Option Report) → hold_fault end w ≡ None →
    v ≡ hold end n w → IfSome o (λ r. StandsSince r w) → IfSome o (λ r. StandsSince r v)
hold-stands end n w v None none e h = h
hold-stands end n w v (Some r) none e h =
    since-more r 0 w v (subst (Rests 0 w) (sym e) (one-hold end n w none)) h

-- ---- the part of a report

and-then :
    {A B : Type 0} → (f : A → Option B) (o : Option A) (y : B) → option_and_then f o ≡ Some y →
    (x : A) × (o ≡ Some x) × (f x ≡ Some y)
and-then f None y e = absurd cc
and-then f (Some x) y e = (x, refl, e)

found-part :
    (P : Part → Type 0) (p : Part → Bool) (xs : List Part) (y : Part) → All P xs →
    find p xs ≡ Some y → P y × (p y ≡ true)
found-part P p [] y all e = absurd cc
found-part P p (x ∷ xs) y all e =
    either (p x) refl (found-part P p xs y (λ i d inside. all (suc i) d (omega (arith, inside)))) e
  where
    either :
        (b : Bool) → p x ≡ b → (find p xs ≡ Some y → P y × (p y ≡ true)) →
        cond b (Some x) (find p xs) ≡ Some y → P y × (p y ≡ true)
    either true h rest e =
        let same : x ≡ y = some-same x y e in
        (subst P same (all 0 x (omega arith)), ap p (sym same) ∙ h)
    either false h rest e = rest e

part-tree :
    (w : CableWorld) (part : Part) (tree : ReportedTree) → tree_of part ≡ Some tree →
    IsReported w part.nodes part.outcome → ReportsTree w part.nodes tree.root tree.list tree.order
part-tree w part tree e is = by part.outcome refl e is
  where
    by :
        (o : Outcome) → part.outcome ≡ o → tree_of (record part { outcome = o }) ≡ Some tree →
        IsReported w part.nodes o → ReportsTree w part.nodes tree.root tree.list tree.order
    by (reported.Tree root list order) at e is =
        subst (λ (t : ReportedTree). ReportsTree w part.nodes t.root t.list t.order)
        (some-same (record { root = root; list = list; order = order }) tree e) is
    by (reported.Contention a b) at e is = absurd cc
    by (reported.Loop core) at e is = absurd cc

if-some : {A : Type 0} → (P : A → Type 0) (o : Option A) (x : A) → o ≡ Some x → IfSome o P → P x
if-some P o x e h = subst (λ q. IfSome q P) e h

-- ---- a tree again

at_prop : {A : Type 0} → (o : Option A) (P : A → Type 0) → ((x : A) → IsProp (P x)) →
    IsProp (IsSomeAnd o P)
at_prop None P p = λ a b. absurd a
at_prop (Some x) P p = p x

-- a component of a world has come to a tree, which the cables show
module _
    (w : CableWorld) (set root : ℕ) (t u : Tree) (no_loop : HasNoLoop w set) (top : Holds set root)
    (seen : Sees w.cabling (labels (attrs_now w)) root None u)
    (order : numbers w.cabling root t ≡ numbers w.cabling root u) (R : Type 0) (reached : ∥ R ∥₁)
    (is : R → IsTree w set root t) where
  pub one-list : emits t ≡ emits u
  one-list =
      ∥∥₁_elim reached (Coded-set (coded_list coded_ℕ) (emits t) (emits u))
      (λ r. ap emits (one-tree w.cabling (labels (attrs_now w)) root None t u (is r).seen seen))

  pub tree-again : IsTree w set root u
  tree-again = record {
    no_loop = no_loop;
    holds_root = top;
    seen = seen;
    no_parent =
        ∥∥₁_elim reached
        (at_prop (slice_get w.nodes root) (λ x. x.state.view.parent ≡ None) (λ x. Coded-set (coded_option coded_ℕ) x.state.view.parent None))
        (λ r. (is r).no_parent);
    parents = λ k m ne.
        ∥∥₁_elim reached
        (at_prop (slice_get w.nodes k) (λ x. IsSome x.state.view.parent) (λ x. Coded-set coded_bool (is_some x.state.view.parent) true))
        (λ r. (is r).parents k m ne);
    ids = λ k m.
        ∥∥₁_elim reached
        (at_prop (slice_get w.nodes k) (λ x. IsSomeAnd x.state.view.id (λ i. slice_get (numbers w.cabling root u) i ≡ Some k))
        (λ x. at_prop x.state.view.id (λ i. slice_get (numbers w.cabling root u) i ≡ Some k) (λ i. Coded-set (coded_option coded_ℕ) (slice_get (numbers w.cabling root u) i) (Some k))))
        (λ r. some-and (slice_get w.nodes k)
        (λ x. IsSomeAnd x.state.view.id (λ i. slice_get (numbers w.cabling root t) i ≡ Some k))
        (λ x. IsSomeAnd x.state.view.id (λ i. slice_get (numbers w.cabling root u) i ≡ Some k))
        (λ x h. some-and x.state.view.id (λ i. slice_get (numbers w.cabling root t) i ≡ Some k) (λ i. slice_get (numbers w.cabling root u) i ≡ Some k)
        (λ i e. subst (λ (ns : List ℕ). slice_get ns i ≡ Some k) order e) h)
        ((is r).ids k m));
    lists = λ k m.
        ∥∥₁_elim reached
        (at_prop (slice_get w.nodes k) (λ x. x.state.list.items ≡ emits u) (λ x. Coded-set (coded_list coded_ℕ) x.state.list.items (emits u)))
        (λ r. some-and (slice_get w.nodes k) (λ x. x.state.list.items ≡ emits t) (λ x. x.state.list.items ≡ emits u) (λ x e. e ∙ one-list) ((is r).lists k m));
  }

-- ---- a reported tree stands

module _
    (stay : TreesStay) (w : CableWorld) (node whole : ℕ) (component : IsComponent w.cabling node whole)
    (small : whole < 2 ^ 63) (report : Report) (s : StandsSince report w) (part : Part)
    (is : IsPart s.before part) (here : Holds part.nodes node) (tree : ReportedTree)
    (k : ReportsTree s.before part.nodes tree.root tree.list tree.order) where
  abbrev u : CableWorld
  u = s.before

  l : IsLawful u
  l = lawful-now u s.reached

  cables : w.cabling ≡ u.cabling
  cables = rests-cabling s.rests

  before-whole : IsComponent u.cabling node whole
  before-whole = subst (λ (c : Wiring). IsComponent c node whole) cables component

  there : IsTree u whole tree.root k.tree
  there =
      let own = shared u.cabling is.node node part.nodes l.well_formed.cabling is.component here in
      same-tree u part.nodes whole tree.root k.tree (same-component u.cabling node part.nodes whole own before-whole) k.is

  root-there : tree.root < length u.cabling
  root-there =
      let x = some-of (slice_get u.nodes tree.root) _ (there.ids tree.root there.holds_root) in
      omega (arith, slice_get_within u.nodes tree.root x.0 x.1, l.well_formed.count)

  loopless : Loopless w.cabling tree.root whole
  loopless = subst (λ (c : Wiring). Loopless c tree.root whole) (sym cables)
      (seen_loopless u.cabling (labels (attrs_now u)) tree.root whole k.tree l.well_formed.cabling root-there small
      (shared u.cabling node tree.root whole l.well_formed.cabling before-whole there.holds_root) k.is.seen)

  now : SmallTree w.cabling (labels (attrs_now w)) tree.root
  now = small_tree w.cabling (labels (attrs_now w)) tree.root whole loopless

  order : numbers w.cabling tree.root k.tree ≡ numbers w.cabling tree.root now.tree
  order = one-order w.cabling (labels (attrs_now u)) (labels (attrs_now w)) tree.root None k.tree now.tree
      (subst (λ (c : Wiring). Sees c (labels (attrs_now u)) tree.root None k.tree) (sym cables) k.is.seen) now.seen

  no-loop : HasNoLoop w whole
  no-loop = record {
    core = there.no_loop.core;
    is_core = subst (λ (c : Wiring). IsCore c whole there.no_loop.core) (sym cables) there.no_loop.is_core;
    empty = there.no_loop.empty;
  }

  later : IsReached u → IsTree w whole tree.root k.tree
  later r = stay u w s.turns node whole tree.root k.tree (reached-comes u r) s.rests before-whole there

  pub stands-as : StandsAs w node tree
  stands-as = record {
    set = whole;
    component = component;
    small = small;
    stands = record {
      tree = now.tree;
      is = tree-again w whole tree.root k.tree now.tree no-loop there.holds_root now.seen order (IsReached u) s.reached later;
      emitted = k.emitted ∙ one-list w whole tree.root k.tree now.tree no-loop there.holds_root now.seen order (IsReached u) s.reached later;
      walked = k.walked ∙ ap (λ (c : Wiring). numbers c tree.root k.tree) (sym cables) ∙ order;
    };
  }

pub reported-stands :
    TreesStay → (w : CableWorld) (node whole : ℕ) → IsComponent w.cabling node whole →
    whole < 2 ^ 63 → (notes : Notes) → IfSome notes.report (λ r. StandsSince r w) →
    (tree : ReportedTree) → tree_with node notes ≡ Some tree → StandsAs w node tree
reported-stands stay w node whole component small notes stands tree settled =
    let p = and-then tree_of (option_and_then (part_with node) notes.report) tree settled in
    let q = and-then (part_with node) notes.report p.0 p.1 in
    let s = if-some (λ r. StandsSince r w) notes.report q.0 q.1 stands in
    let found = found-part (IsPart s.before) (λ part. bit_at part.nodes node == 1) q.0.parts p.0 s.is.parts.each q.2 in
    stands-as stay w node whole component small q.0 s p.0 found.0 (eqb-true (bit_at p.0.nodes node) 1 found.1) tree
    (part-tree s.before p.0 tree p.2 found.0.outcome)
