-- A component with its core, handed on whole; and the set of a component has 63 nodes at most.
use Rattle.std.proofs.Common.{◌≡◌, ℕ, ◌^◌, ◌<◌, length, slice_get, sym, subst, arith}
use Rattle.std.proofs.lemmas.Option.{slice_get_within}
use Rattle.outcomes.proofs.Common.{Tree, Wiring, IsCabling, Holds, HasCore, IsComponent, IsCore, shared, CableWorld, IsLawful, IsTree, IsFresh, some-of, IsNamedAlone, IsAcyclic, AreIdentifying, IsIdentifying, IsNumbering, Settles}
use Rattle.cabling.specs.Existence.{HasComponent, ComponentsExist, CoresExist}
use Rattle.cable_world.proofs.Lemmas.{same-set}
use Rattle.outcomes.specs.Forced.{IsForced}
use Rattle.outcomes.specs.RootWalk.{HasRoot}

-- the component of a node that exists, with its core
pub record Part (w : CableWorld) : Type 0 where
  pub node : ℕ
  pub set : ℕ
  pub core : ℕ
  pub there : node < length w.nodes
  pub component : IsComponent w.cabling node set
  pub is_core : IsCore w.cabling set core
  pub small : set < 2 ^ 63

-- it is one too in a world with the same cables
abbrev pub part-in :
    (w v : CableWorld) → v.cabling ≡ w.cabling → length v.nodes ≡ length w.nodes → Part w → Part v
part-in w v same long p = record {
  node = p.node;
  set = p.set;
  core = p.core;
  there = omega (arith, p.there, long);
  component = subst (λ (c : Wiring). IsComponent c p.node p.set) (sym same) p.component;
  is_core = subst (λ (c : Wiring). IsCore c p.set p.core) (sym same) p.is_core;
  small = p.small;
}

-- IsNumbering, said of these
pub part-settles :
    (w : CableWorld) → IsNumbering w → (p : Part w) → AreIdentifying w p.set →
    Settles w p.set p.core
part-settles w n p = n.walks p.node p.set p.core p.there p.component p.is_core p.small

pub parts-number :
    (w : CableWorld) → IsAcyclic w → IsIdentifying w →
    ((p : Part w) → AreIdentifying w p.set → Settles w p.set p.core) → IsNumbering w
parts-number w acyclic identifies settles = record {
  acyclic = acyclic;
  identifies = identifies;
  walks = λ node set core there comp is_core small.
      settles (record {
        node = node;
        set = set;
        core = core;
        there = there;
        component = comp;
        is_core = is_core;
        small = small;
      });
}

-- a node that exists has one component, and that is small
pub component-small :
    ComponentsExist → (c : Wiring) (node set : ℕ) → IsCabling c → node < length c →
    IsComponent c node set → set < 2 ^ 63
component-small exist c node set is there comp =
    let h : HasComponent c node = exist c node is there in
    let same : set ≡ h.set =
    same-set set h.set (λ k. (
      comp.least h.set h.is.holds h.is.closed k,
      h.is.least set comp.holds comp.closed k,
    )) in
    omega (arith, same, h.small)

pub small-there :
    ComponentsExist → (w : CableWorld) → IsLawful w → (node set : ℕ) → node < length w.nodes →
    IsComponent w.cabling node set → set < 2 ^ 63
small-there exist w l node set there comp =
    component-small exist w.cabling node set l.well_formed.cabling
    (omega (arith, there, l.well_formed.count)) comp

abbrev pub part-of :
    ComponentsExist → CoresExist → (w : CableWorld) → IsLawful w → (node set : ℕ) →
    node < length w.nodes → IsComponent w.cabling node set → Part w
part-of exist cores w l node set there comp =
    let small : set < 2 ^ 63 = small-there exist w l node set there comp in
    let core : HasCore w.cabling set = cores w.cabling set small in
    record {
      node = node;
      set = set;
      core = core.core;
      there = there;
      component = comp;
      is_core = core.is;
      small = small;
    }

-- ---- nodes that exist

-- those of a tree
pub in-tree :
    (w : CableWorld) (set root : ℕ) (t : Tree) → IsTree w set root t → (k : ℕ) → Holds set k →
    k < length w.nodes
in-tree w set root t h k inside =
    let x = some-of (slice_get w.nodes k) _ (h.ids k inside) in slice_get_within w.nodes k x.0 x.1

-- those where a reset has just begun
in-fresh : (w : CableWorld) (set : ℕ) → IsFresh w set → (k : ℕ) → Holds set k → k < length w.nodes
in-fresh w set h k inside =
    let x = some-of (slice_get w.nodes k) _ (h.waits k inside) in slice_get_within w.nodes k x.0 x.1

-- those of which one has an ID
in-named :
    (w : CableWorld) (set node id : ℕ) → IsNamedAlone w set node id → (k : ℕ) → Holds set k →
    k < length w.nodes
in-named w set node id h k inside =
    let x = some-of (slice_get w.nodes k) _ (h.calm k inside) in slice_get_within w.nodes k x.0 x.1

-- ---- their components

pub small-tree :
    ComponentsExist → (w : CableWorld) → IsLawful w → (node set root : ℕ) (t : Tree) →
    IsComponent w.cabling node set → IsTree w set root t → set < 2 ^ 63
small-tree exist w l node set root t comp h =
    small-there exist w l node set (in-tree w set root t h node comp.holds) comp

pub small-fresh :
    ComponentsExist → (w : CableWorld) → IsLawful w → (node set : ℕ) →
    IsComponent w.cabling node set →
    IsFresh w set → set < 2 ^ 63
small-fresh exist w l node set comp h =
    small-there exist w l node set (in-fresh w set h node comp.holds) comp

pub small-named :
    ComponentsExist → (w : CableWorld) → IsLawful w → (node set root id : ℕ) →
    IsComponent w.cabling node set → IsNamedAlone w set root id → set < 2 ^ 63
small-named exist w l node set root id comp h =
    small-there exist w l node set (in-named w set root id h node comp.holds) comp

pub small-forced : ComponentsExist → (w : CableWorld) (node set root : ℕ) →
    IsForced w node set root → set < 2 ^ 63
small-forced exist w node set root f = small-fresh exist w f.lawful node set f.component f.fresh

pub small-root : ComponentsExist → (w : CableWorld) (node set root : ℕ) → HasRoot w node set root →
    set < 2 ^ 63
small-root exist w node set root r =
    small-there exist w r.lawful root set
    (slice_get_within w.nodes root r.is_root.node r.is_root.at)
    (shared w.cabling node root set r.lawful.well_formed.cabling r.component r.inside)
