-- A hold keeps a component that identifies itself, and one at rest: nodes, cables and signals are
-- the same.
use Rattle.std.proofs.Common.{◌≡◌, ℕ, Bool, List, None, sym, ◌∙◌, ap, subst}
use Rattle.outcomes.proofs.Common.{Signal, Tree, End, hold, hold_fault, signals_of, IsLawful, Travelling, CableWorld, wire_of, PlacedHold, with_holds, IsChildCable, silent, has_grant, has_done, RootWalk, IsNumbered, IsSettling, IsAtRest, end_at}
use Rattle.cable_world.proofs.Lemmas.{holds-kept, hold-signals}
use Rattle.outcomes.proofs.numbers.NodeMessages.{Owes}

module _
    (end : End) (turns : ℕ) (w : CableWorld) (none : hold_fault end w ≡ None) (l : IsLawful w) where
  same : (a : End) → (wire_of (hold end turns w) a).signals ≡ (wire_of w a).signals
  same a = hold-signals end turns w none l.well_formed a

  cable : (a b : End) → IsChildCable (hold end turns w) a b → IsChildCable w a b
  cable a b e = record {
    joined = e.joined;
    above = e.above;
    above_at = e.above_at;
    child = e.child;
    below = e.below;
    below_at = e.below_at;
    parent = e.parent;
  }

  cable-then : (a b : End) → IsChildCable w a b → IsChildCable (hold end turns w) a b
  cable-then a b e = record {
    joined = e.joined;
    above = e.above;
    above_at = e.above_at;
    child = e.child;
    below = e.below;
    below_at = e.below_at;
    parent = e.parent;
  }

  walk-held :
      (set root : ℕ) (t : Tree) → RootWalk w set root t → RootWalk (hold end turns w) set root t
  walk-held set root t k = record {
    seen = k.seen;
    parents = k.parents;
    few = k.few;
    marked = k.marked;
    along = λ a b h c. k.along a b h (cable a b c);
    flat = k.flat;
    last = k.last;
    children = λ j p b h c. cable-then (end_at j p) b (k.children j p b h c);
    in_turn = k.in_turn;
    none = k.none;
    all = k.all;
    next = k.next;
    counts = k.counts;
  }

  owes-held :
      (has : List Signal → Bool) (list end_list : List ℕ) (a : End) →
      Owes has list end_list (signals_of (wire_of w a).signals) →
      Owes has list end_list (signals_of (wire_of (hold end turns w) a).signals)
  owes-held has list end_list a =
      subst (λ (ts : List Travelling). Owes has list end_list (signals_of ts)) (sym (same a))

  numbered-held :
      (set root : ℕ) (t : Tree) → IsNumbered w set root t → IsNumbered (hold end turns w) set root t
  numbered-held set root t n = record {
    ids = n.ids;
    turns = n.turns;
    grants = λ a b x h e at. owes-held has_grant _ _ a (n.grants a b x h e at);
    dones = λ a b x h e at. owes-held has_done _ _ a (n.dones a b x h e at);
    last = n.last;
  }

  pub hold-settles :
      (set core root : ℕ) (t : Tree) → IsSettling w set core root t → IsSettling (hold end turns w)
      set core root t
  hold-settles set core root t s = record {
    component = s.component;
    is_core = s.is_core;
    small = s.small;
    inside = s.inside;
    is_root = record {
      node = s.is_root.node;
      at = s.is_root.at;
      late = s.is_root.late;
      parentless = s.is_root.parentless;
    };
    walk = walk-held set root t s.walk;
    all = s.all;
    numbered = numbered-held set root t s.numbered;
  }

  pub hold-rests : (set : ℕ) → IsAtRest w set → IsAtRest (hold end turns w) set
  hold-rests set q = record {
    ready = q.ready;
    silent = λ a b h e.
        ap (λ (ts : List Travelling). silent (signals_of ts)) (same a) ∙ q.silent a b h e;
  }

-- so do holds, one after the other
module _ (holds : List PlacedHold) (w : CableWorld) (l : IsLawful w) where
  pub holds-settle :
      (set core root : ℕ) (t : Tree) → IsSettling w set core root t →
      IsSettling (with_holds holds w) set core root t
  holds-settle set core root t =
      holds-kept (λ v. IsSettling v set core root t)
      (λ end turns v none m. hold-settles end turns v none m set core root t) holds w l

  pub holds-rest : (set : ℕ) → IsAtRest w set → IsAtRest (with_holds holds w) set
  holds-rest set =
      holds-kept (λ v. IsAtRest v set) (λ end turns v none m. hold-rests end turns v none m set)
      holds w l
