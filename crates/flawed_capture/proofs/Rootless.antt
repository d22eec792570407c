-- The list of a bus whose root gets a parent: trees wait, and no root ends it.
use Rattle.std.proofs.Common.{◌≡◌, ◌⊎◌, inl, inr, ℕ, zero, suc, ◌+◌, ◌≤◌, List, [], ◌∷◌, ◌++◌, length, slice_set, get_or, refl, sym, ap, subst, ◌∙◌, append_assoc, arith, length-append}
use Rattle.std.proofs.Math.Seq.{set-append_seam, get_or-append_seam}
use Rattle.self_id.specs.declared.node.PortStatus.{PortStatus}
use Rattle.self_id.specs.declared.node.PortStatus.TheVariants.{Absent, Unplugged, Up, Down}
use Rattle.self_id.specs.declared.standard.Standard.{Standard}
use Rattle.self_id.specs.Node.{Node, IsNode, IsOf, ups, downs}
use Rattle.self_id.specs.Group.{group}
use Rattle.topology_stack.specs.declared.fault.TreeFault.TheVariants.{NoRoot as Rootless, TooMany as Full}
use Rattle.topology_stack.specs.Tree.{Label, Tree, branch, Slots, node_of, walk, walk_below, AreOf, IsBusTreeOf, groups, emits}
use Rattle.topology_stack.specs.Forest.{walks, Forest}
use Rattle.topology_stack.proofs.Lemmas.{groups-snoc, AreOf-parts, length-walk, some_node}
use Rattle.flawed_capture.specs.declared.flaw.Flaw.TheVariants.{NoRoot, TooMany}
use Rattle.flawed_capture.specs.Flaw.{HasListFlaw}
use Rattle.flawed_capture.specs.Other.{last_field, with_up}
use Rattle.flawed_capture.specs.Spoilt.{IsListOfBus}
use Rattle.flawed_capture.proofs.Last.{last_other, with_last}
use Rattle.flawed_capture.proofs.Slots.{reformed, still_of, ups-append, downs-append}
use Rattle.flawed_capture.proofs.Waiting.{waits, below, walk_all-below, length-below, waiting-below}

-- the list is that of trees that wait, with so many nodes
pub record IsRootless (standard : Standard) (nodes : ℕ) (spoilt : List ℕ) : Type 0 where
  pub ts : List Tree
  pub forest : Forest standard ts spoilt
  pub count : length (walks ts) ≡ nodes

-- ---- counts of slots

one_down : (p : PortStatus) → downs (p ∷ []) ≤ 1
one_down Absent = omega arith
one_down Unplugged = omega arith
one_down Up = omega arith
one_down Down = omega arith

at_most_one : (k j d : ℕ) → d ≤ 1 → k + d ≡ j → (k ≡ j) ⊎ (k + 1 ≡ j)
at_most_one k j zero few e = inl (omega (arith, e))
at_most_one k j (suc zero) few e = inr (omega (arith, e))
at_most_one k j (suc (suc d)) few e = absurd (omega (arith, few))

pub of-snoc : (standard : Standard) (ns : List Node) (n : Node) → AreOf standard ns → IsOf standard n → AreOf standard (ns ++ n ∷ [])
of-snoc standard [] n of is_of = (is_of, tt)
of-snoc standard (m ∷ ns) n of is_of = (of.0, of-snoc standard ns n of.1 is_of)

-- ---- the root gets a parent

rootless_by : (standard : Standard) (a : Label) (s : Slots) (at quad : ℕ) (list spoilt : List ℕ) →
    IsBusTreeOf standard (branch a s) → list ≡ emits (branch a s) → at + 1 ≡ length list → spoilt ≡ slice_set list at quad →
    quad ≡ with_up (last_field standard (get_or list at 0)) (get_or list at 0) → IsRootless standard (length (walk (branch a s))) spoilt
rootless_by standard a s at quad list spoilt bus said last is other =
    let root : Node = node_of a s in
    let wb : List Node = walk_below s in
    let id : ℕ = length wb in
    let long : length (walk (branch a s)) ≡ id + 1 = length-walk a s in
    let both = AreOf-parts standard wb (root ∷ []) bus.nodes in
    let is_root : IsNode root = bus.bus.whole.0 in
    let l = last_other standard root id (omega (arith, long, bus.bus.small)) is_root.form both.1.0 in
    let m : Node = with_last root l.front in
    let whole : list ≡ (groups 0 wb ++ l.begin) ++ l.quad ∷ [] =
    said ∙ groups-snoc wb root ∙ ap (λ (x : List ℕ). groups 0 wb ++ x) l.own ∙ sym (append_assoc (groups 0 wb) l.begin (l.quad ∷ [])) in
    let place : at ≡ length (groups 0 wb ++ l.begin) = omega (arith, last, ap length whole, length-append (groups 0 wb ++ l.begin) (l.quad ∷ [])) in
    let here : get_or list at 0 ≡ l.quad =
    ap (λ (x : List ℕ). get_or x at 0) whole ∙ ap (λ (k : ℕ). get_or ((groups 0 wb ++ l.begin) ++ l.quad ∷ []) k 0) place ∙ get_or-append_seam (groups 0 wb ++ l.begin) l.quad [] 0 in
    let new : quad ≡ with_up (last_field standard l.quad) l.quad = other ∙ ap (λ (q : ℕ). with_up (last_field standard q) q) here in
    let parts : spoilt ≡ groups 0 wb ++ group m id =
    is ∙ ap (λ (x : List ℕ). slice_set x at quad) whole ∙ ap (λ (k : ℕ). slice_set ((groups 0 wb ++ l.begin) ++ l.quad ∷ []) k quad) place
    ∙ set-append_seam (groups 0 wb ++ l.begin) l.quad [] quad ∙ append_assoc (groups 0 wb) l.begin (quad ∷ [])
    ∙ ap (λ (q : ℕ). groups 0 wb ++ (l.begin ++ q ∷ [])) new ∙ ap (λ (x : List ℕ). groups 0 wb ++ x) (sym l.other) in
    let same : length root.ports ≡ length m.ports = omega (arith, ap length l.slots, length-append l.front (l.p ∷ []), length-append l.front (Up ∷ [])) in
    let one : ups m.ports ≡ 1 = omega (arith, ap ups l.slots, ups-append l.front (l.p ∷ []), ups-append l.front (Up ∷ []), bus.bus.whole.1) in
    let is_m : IsNode m = record { form = reformed root m.ports same is_root.form; one_parent = omega (arith, one) } in
    let taken = at_most_one (downs m.ports) (length (below s)) (downs (l.p ∷ [])) (one_down l.p) (omega (arith, ap downs l.slots, downs-append l.front (l.p ∷ []), downs-append l.front (Up ∷ []), length-below s)) in
    let w = waits m (below s) (waiting-below s bus.bus.whole.2) is_m one taken in
    let walked : walks w.all ≡ wb ++ m ∷ [] = w.walked ∙ ap (λ (ns : List Node). ns ++ m ∷ []) (walk_all-below s) in
    record {
      ts = w.all;
      forest = record {
        waiting = w.waiting;
        are_of = subst (λ (ns : List Node). AreOf standard ns) (sym walked) (of-snoc standard wb m both.0 (still_of standard root m.ports same both.1.0));
        emitted = parts ∙ sym (groups-snoc wb m) ∙ ap (groups 0) (sym walked);
      };
      count = omega (arith, ap length walked, length-append wb (m ∷ []), long);
    }

rootless_of : (standard : Standard) (t : Tree) (at quad : ℕ) (list spoilt : List ℕ) →
    IsBusTreeOf standard t → list ≡ emits t → at + 1 ≡ length list → spoilt ≡ slice_set list at quad →
    quad ≡ with_up (last_field standard (get_or list at 0)) (get_or list at 0) → IsRootless standard (length (walk t)) spoilt
rootless_of standard (branch a s) at quad list spoilt bus said last is other = rootless_by standard a s at quad list spoilt bus said last is other

module _ (standard : Standard) (nodes at quad : ℕ) (list spoilt : List ℕ) (bus : IsListOfBus standard nodes list)
    (last : at + 1 ≡ length list) (is : spoilt ≡ slice_set list at quad)
    (other : quad ≡ with_up (last_field standard (get_or list at 0)) (get_or list at 0)) where
  rootless : IsRootless standard nodes spoilt
  rootless =
      subst (λ (k : ℕ). IsRootless standard k spoilt) bus.count
      (rootless_of standard bus.t at quad list spoilt bus.bus (sym bus.emitted) last is other)

  pub to_no_root : HasListFlaw standard spoilt NoRoot
  to_no_root =
      let r = rootless in
      record {
        fault = Rootless (length spoilt);
        refused = (r.ts, r.forest, omega (arith, r.count, bus.count, some_node bus.t), omega (arith, r.count, bus.count, bus.bus.bus.small), refl);
        kind = refl;
      }

  pub to_too_many : (more : ℕ) (longer : List ℕ) → 63 ≤ nodes → longer ≡ spoilt ++ more ∷ [] → HasListFlaw standard longer TooMany
  to_too_many more longer enough goes =
      let r = rootless in
      let all : length (walks r.ts) ≡ 63 = omega (arith, r.count, bus.count, bus.bus.bus.small, enough) in
      record {
        fault = Full (length spoilt);
        refused = (
          r.ts,
          spoilt,
          more ∷ [],
          record {
            forest = r.forest;
            parts = goes;
            more = omega arith;
            place = refl;
            few = omega (arith, all);
          },
          all,
        );
        kind = refl;
      }
