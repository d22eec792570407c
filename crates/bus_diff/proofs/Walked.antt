-- A bus that is walked along its own ports is matched with itself, and so differs in nothing.
use Rattle.std.proofs.Common.{◌≡◌, ◌∙◌, ℕ, zero, suc, ◌+◌, ◌-◌, ◌<◌, ◌≤◌, ◌⊎◌, inl, inr, ⊎_elim, Bool, true, false, Option, Some, None, List, [], ◌∷◌, ◌++◌, map, reverse, length, get_or, refl, sym, ap, subst, arith, eq-eqb, eqb-true}
use Rattle.std.specs.Prelude.{Contains, slice_get, min, find, not, option_to_list, ◌==◌, ◌||◌, ◌&&◌, if◌then◌else◌}
use Rattle.std.specs.List.{list_any}
use Rattle.std.proofs.lemmas.Bool.{cases_lt, and_parts}
use Rattle.std.proofs.lemmas.List.{reverse-append}
use Rattle.std.proofs.lemmas.List.Elements.{Contains-append_left, Contains-append_right, Contains-push, Contains-push_cases}
use Rattle.topology_stack.specs.Tree.{Tree, walk, IsBusTree}
use Rattle.topology_stack.specs.Far.{ends, Far}
use Rattle.topology_stack.proofs.Lemmas.{some_node}
use Rattle.view_text.specs.declared.cable.Cable.{Cable}
use Rattle.view_text.specs.Cable.{cables, times, EachNodeHangsOnOneCable}
use Rattle.view_text.specs.CableEnds.{CablesAreOfTheTree}
use Rattle.bus_diff.specs.declared.pair.Pair.{Pair}
use Rattle.bus_diff.specs.Matching.{stays, stood}
use Rattle.bus_diff.specs.Listed.{changes}
use Rattle.bus_diff.specs.Along.{ports_of, is_same_count, may_be_one, with_pair, pair_of, turned, leads_so, other_end, led_to, with_led, stepped, walked, ways, by_new_id, matched, reached_from, IsBefore, IsToldOf}
use Rattle.bus_diff.proofs.Steps.{none_there, first_or_later, found_so, or_cases}
use Rattle.bus_diff.proofs.Furthest.{pair_is, begins_furthest}
use Rattle.bus_diff.proofs.Room.{reached_few, reached_all}
use Rattle.bus_diff.proofs.Same.{own, itself, there, same_is, AreBelow, from_below, same_bus}
use Rattle.bus_diff.proofs.Rising.{Rising, cables_rising}

-- ---- lists

get_at : {X : Type 0} (xs : List X) (k : ℕ) (x : X) → k < length xs → get_or xs k x ≡ x → slice_get xs k ≡ Some x
get_at [] k x lt is = absurd (omega (arith, lt))
get_at (y ∷ xs) zero x lt is = ap (λ z. Some z) is
get_at (y ∷ xs) (suc k) x lt is = get_at xs k x (omega (arith, lt)) is

pub find_some : {X : Type 0} (test : X → Bool) (xs : List X) (x : X) → Contains xs x → test x ≡ true →
    (y : X) × (find test xs ≡ Some y)
find_some test [] x here passes = absurd (none_there x here)
find_some {X} test (y ∷ xs) x here passes = go (test y) refl (λ later. find_some test xs x later passes)
  where
    go : (b : Bool) → test y ≡ b → (Contains xs x → (z : X) × (find test xs ≡ Some z)) →
        (z : X) × ((if b then Some y else find test xs) ≡ Some z)
    go true e more = (y, refl)
    go false e more = ⊎_elim
        (λ (is : y ≡ x). let yes : test y ≡ true = ap test is ∙ passes in absurd cc)
        more
        (first_or_later y xs x here)

any_some : {X : Type 0} (test : X → Bool) (xs : List X) → list_any test xs ≡ true →
    (x : X) × Contains xs x × (test x ≡ true)
any_some test [] e = absurd cc
any_some {X} test (y ∷ xs) e = go (test y) refl e (λ h. any_some test xs h)
  where
    go : (b : Bool) → test y ≡ b → (b || list_any test xs) ≡ true →
        (list_any test xs ≡ true → (x : X) × Contains xs x × (test x ≡ true)) →
        (x : X) × Contains (y ∷ xs) x × (test x ≡ true)
    go true is f later = (y, Contains-append_left (y ∷ []) xs y (Contains-push [] y), is)
    go false is f later = let h = later f in (h.0, Contains-append_right (y ∷ []) xs h.0 h.1, h.2)

pub any_in : {X : Type 0} (test : X → Bool) (xs : List X) (x : X) → Contains xs x → test x ≡ true →
    list_any test xs ≡ true
any_in test [] x here passes = absurd (none_there x here)
any_in {X} test (y ∷ xs) x here passes = ⊎_elim
    (λ (is : y ≡ x). let yes : test y ≡ true = ap test is ∙ passes in rw yes refl)
    (λ (later : Contains xs x). or_later (test y) (list_any test xs) (any_in test xs x later passes))
    (first_or_later y xs x here)
  where
    or_later : (a b : Bool) → b ≡ true → (a || b) ≡ true
    or_later true b e = refl
    or_later false b e = e

-- ---- pairs of a node with itself

abbrev AllOwn : List Pair → Type 0
AllOwn ps = (p : Pair) → Contains ps p → p.old ≡ p.new

own_is : (p : Pair) (k : ℕ) → p.old ≡ k → p.old ≡ p.new → p ≡ own k
own_is p k e f = pair_is p k k e (sym f ∙ e)

has_pair : (ps : List Pair) (k : ℕ) → AllOwn ps → Contains ps (own k) → pair_of ps k ≡ Some (own k)
has_pair ps k all here =
    let found = find_some (λ (p : Pair). p.old == k) ps (own k) here (eq-eqb k k refl) in
    let so = found_so (λ (p : Pair). p.old == k) ps found.0 found.1 in
    found.1 ∙ ap (λ (p : Pair). Some p) (own_is found.0 k (eqb-true _ _ so.1) (all found.0 so.0))

-- one more node is in these pairs, and who was is still
record Grows (ps qs : List Pair) (k : ℕ) : Type 0 where
  all : AllOwn qs
  has : Contains qs (own k)
  keeps : (j : ℕ) → Contains ps (own j) → Contains qs (own j)

blocked : (a b s : Bool) → (not a && (not b && s)) ≡ false → s ≡ true → (a ≡ true) ⊎ (b ≡ true)
blocked true b s e f = inl refl
blocked false true s e f = inr refl
blocked false false s e f = absurd cc

stands : (ps : List Pair) (k : ℕ) → AllOwn ps → (stays ps k ≡ true) ⊎ (stood ps k ≡ true) → Contains ps (own k)
stands ps k all h = ⊎_elim
    (λ (old : stays ps k ≡ true).
    let some = any_some (λ (p : Pair). p.old == k) ps old in
    subst (λ (p : Pair). Contains ps p) (own_is some.0 k (eqb-true _ _ some.2) (all some.0 some.1)) some.1)
    (λ (new : stood ps k ≡ true).
    let some = any_some (λ (p : Pair). p.new == k) ps new in
    subst (λ (p : Pair). Contains ps p) (own_is some.0 k (all some.0 some.1 ∙ eqb-true _ _ some.2) (all some.0 some.1)) some.1)
    h

with_own : (t : Tree) (ps : List Pair) (k : ℕ) → k < length (walk t) → AllOwn ps → Grows ps (with_pair t t ps (own k)) k
with_own t ps k lt all = go (may_be_one t t ps (own k)) refl
  where
    go : (b : Bool) → may_be_one t t ps (own k) ≡ b → Grows ps (if b then ps ++ own k ∷ [] else ps) k
    go true e = record {
      all = λ p here. ⊎_elim
          (λ (was : Contains ps p). all p was)
          (λ (is : own k ≡ p). subst (λ (q : Pair). q.old ≡ q.new) is refl)
          (Contains-push_cases ps (own k) p here);
      has = Contains-push ps (own k);
      keeps = λ j was. Contains-append_left ps (own k ∷ []) (own j) was;
    }
    go false e = record {
      all = all;
      has = stands ps k all (blocked (stays ps k) (stood ps k) (is_same_count (ports_of (slice_get (walk t) k)) (ports_of (slice_get (walk t) k))) e (there (walk t) k lt));
      keeps = λ j was. was;
    }

-- ---- cables

-- what is known of the cables of a bus
pub record HasCables (t : Tree) : Type 0 where
  pub down : (c : Cable) → Contains (cables t) c → Far t c.parent c.port (Some c.child)
  pub back : (c : Cable) → Contains (cables t) c → Far t c.child c.child_port (Some c.parent)
  pub lower : (c : Cable) → Contains (cables t) c → c.child < c.parent
  pub within : (c : Cable) → Contains (cables t) c → c.parent < length (walk t)
  pub hangs : (k : ℕ) → k + 1 < length (walk t) → (e : Cable) × Contains (cables t) e × (e.child ≡ k)

below_in : (n : ℕ) (cs : List Cable) (c : Cable) → AreBelow n cs → Contains cs c → c.parent < n
below_in n [] c below here = absurd (none_there c here)
below_in n (d ∷ cs) c below here = ⊎_elim
    (λ (is : d ≡ c). subst (λ (x : Cable). x.parent < n) is below.0)
    (λ (later : Contains cs c). below_in n cs c below.1 later)
    (first_or_later d cs c here)

times_some : (k : ℕ) (cs : List Cable) → 0 < times k cs → (e : Cable) × Contains cs e × (e.child ≡ k)
times_some k [] some = absurd (omega (arith, some))
times_some k (c ∷ cs) some = go (c.child == k) refl some (λ h. times_some k cs h)
  where
    go : (b : Bool) → (c.child == k) ≡ b → 0 < (if b then 1 else 0) + times k cs →
        (0 < times k cs → (e : Cable) × Contains cs e × (e.child ≡ k)) →
        (e : Cable) × Contains (c ∷ cs) e × (e.child ≡ k)
    go true e h later = (c, Contains-append_left (c ∷ []) cs c (Contains-push [] c), eqb-true _ _ e)
    go false e h later = let x = later (omega (arith, h)) in (x.0, Contains-append_right (c ∷ []) cs x.0 x.1, x.2)

pub has_cables : CablesAreOfTheTree → EachNodeHangsOnOneCable → (t : Tree) → IsBusTree t → HasCables t
has_cables of_tree one t bus = record {
  down = λ c here. (of_tree t here.0 c bus (get_at (cables t) here.0 c here.1 here.2)).down;
  back = λ c here. (of_tree t here.0 c bus (get_at (cables t) here.0 c here.1 here.2)).back;
  lower = λ c here. (of_tree t here.0 c bus (get_at (cables t) here.0 c here.1 here.2)).lower;
  within = λ c here. below_in (length (walk t)) (cables t) c (from_below t (length (walk t)) 0 (walk t) (ends t) (omega arith)) here;
  hangs = λ k lt. let once : times k (cables t) ≡ 1 = one t k lt in times_some k (cables t) (omega (arith, once));
}

one_some : {A : Type 0} (x : Option A) (a b : A) → x ≡ Some a → x ≡ Some b → a ≡ b
one_some x a b e f = let g = sym e ∙ f in cc

same_far : (t : Tree) (id slot : ℕ) (a b : ℕ) → Far t id slot (Some a) → Far t id slot (Some b) → a ≡ b
same_far t id slot a b f g =
    let row : f.of_node ≡ g.of_node = one_some (slice_get (ends t) id) f.of_node g.of_node f.node g.node in
    let end : slice_get f.of_node slot ≡ Some (Some b) = ap (λ (r : List (Option ℕ)). slice_get r slot) row ∙ g.slot_end in
    let both : Some a ≡ Some b = one_some (slice_get f.of_node slot) (Some a) (Some b) f.slot_end end in
    one_some (Some a) a b refl both

-- a cable of the bus leads on to one node
told_far : (t : Tree) → HasCables t → (c : Cable) → IsToldOf (cables t) c → Far t c.parent c.port (Some c.child)
told_far t f c told = ⊎_elim
    (λ (down : Contains (cables t) c). f.down c down)
    (λ (up : Contains (cables t) (turned c)). f.back (turned c) up)
    told

unique_end : (t : Tree) → HasCables t → (c d : Cable) (id end : ℕ) → Contains (cables t) d →
    Far t id c.port (Some end) → leads_so c id d ≡ true → other_end id (Some d) ≡ Some end
unique_end t f c d id end here far leads = ⊎_elim
    (λ (down : ((d.parent == id) && ((d.port == c.port) && (d.child_port == c.child_port))) ≡ true).
    let ports = (d.port == c.port) && (d.child_port == c.child_port) in
    let parts = and_parts (d.parent == id) ports down in
    let parent : d.parent ≡ id = eqb-true _ _ parts.0 in
    let port : d.port ≡ c.port = eqb-true _ _ ((and_parts (d.port == c.port) (d.child_port == c.child_port) parts.1).0) in
    let there : Far t id c.port (Some d.child) =
    subst (λ (s : ℕ). Far t id s (Some d.child)) port (subst (λ (k : ℕ). Far t k d.port (Some d.child)) parent (f.down d here)) in
    let child : d.child ≡ end = same_far t id c.port d.child end there far in
    first parent (d.parent == id) refl ∙ ap (λ (k : ℕ). Some k) child)
    (λ (up : ((d.child == id) && ((d.child_port == c.port) && (d.port == c.child_port))) ≡ true).
    let ports = (d.child_port == c.port) && (d.port == c.child_port) in
    let parts = and_parts (d.child == id) ports up in
    let child : d.child ≡ id = eqb-true _ _ parts.0 in
    let port : d.child_port ≡ c.port = eqb-true _ _ ((and_parts (d.child_port == c.port) (d.port == c.child_port) parts.1).0) in
    let there : Far t id c.port (Some d.parent) =
    subst (λ (s : ℕ). Far t id s (Some d.parent)) port (subst (λ (k : ℕ). Far t k d.child_port (Some d.parent)) child (f.back d here)) in
    let parent : d.parent ≡ end = same_far t id c.port d.parent end there far in
    other child (f.lower d here) (d.parent == id) refl ∙ ap (λ (k : ℕ). Some k) parent)
    (or_cases _ _ leads)
  where
    first : d.parent ≡ id → (b : Bool) → (d.parent == id) ≡ b →
        ◌≡◌ {A = Option ℕ} (Some (if b then d.child else d.parent)) (Some d.child)
    first parent true e = refl
    first parent false e = let same : (d.parent == id) ≡ true = eq-eqb d.parent id parent in absurd cc

    other : d.child ≡ id → d.child < d.parent → (b : Bool) → (d.parent == id) ≡ b →
        ◌≡◌ {A = Option ℕ} (Some (if b then d.child else d.parent)) (Some d.parent)
    other child low true e = let same : d.parent ≡ id = eqb-true _ _ e in absurd (omega (arith, child, low, same))
    other child low false e = refl

or_true : (a : Bool) → (a || true) ≡ true
or_true true = refl
or_true false = refl

leads_itself : (c d : Cable) → d.port ≡ c.port → d.child_port ≡ c.child_port → leads_so c d.parent d ≡ true
leads_itself c d port child_port =
    rw (eq-eqb d.parent d.parent refl, eq-eqb d.port c.port port, eq-eqb d.child_port c.child_port child_port) refl

leads_turned : (c d : Cable) → d.port ≡ c.port → d.child_port ≡ c.child_port → leads_so c d.parent (turned d) ≡ true
leads_turned c d port child_port =
    rw (eq-eqb d.parent d.parent refl, eq-eqb d.port c.port port, eq-eqb d.child_port c.child_port child_port)
    (or_true ((d.child == d.parent) && ((d.child_port == c.port) && (d.port == c.child_port))))

-- so a step along a cable leads where one of the other bus leads by the same ports
pub led_so : (u : Tree) → HasCables u → (c d : Cable) (p : Pair) → IsToldOf (cables u) d → d.port ≡ c.port →
    d.child_port ≡ c.child_port → p.new ≡ d.parent → led_to (cables u) c (Some p) ≡ Some d.child
led_so u g c d p told port child_port from =
    ap (λ (k : ℕ). other_end k (find (λ e. leads_so c k e) (cables u))) from ∙ (⊎_elim
    (λ (down : Contains (cables u) d). by d down (leads_itself c d port child_port))
    (λ (up : Contains (cables u) (turned d)). by (turned d) up (leads_turned c d port child_port))
    told)
  where
    far : Far u d.parent c.port (Some d.child)
    far = subst (λ (s : ℕ). Far u d.parent s (Some d.child)) port (told_far u g d told)

    by : (e : Cable) → Contains (cables u) e → leads_so c d.parent e ≡ true →
        other_end d.parent (find (λ e. leads_so c d.parent e) (cables u)) ≡ Some d.child
    by e here leads =
        let found = find_some (λ (e : Cable). leads_so c d.parent e) (cables u) e here leads in
        let so = found_so (λ (e : Cable). leads_so c d.parent e) (cables u) found.0 found.1 in
        ap (other_end d.parent) found.1 ∙ unique_end u g c found.0 d.parent d.child so.0 far so.1

led_is : (t : Tree) → HasCables t → (c : Cable) → IsToldOf (cables t) c →
    led_to (cables t) c (Some (own c.parent)) ≡ Some c.child
led_is t f c told = led_so t f c c (own c.parent) told refl refl refl

-- ---- steps

step_on : (t : Tree) → HasCables t → (ps : List Pair) (c : Cable) → IsToldOf (cables t) c →
    c.child < length (walk t) → AllOwn ps → Contains ps (own c.parent) →
    Grows ps (stepped t t (cables t) ps c) c.child
step_on t f ps c told lt all has =
    let led : led_to (cables t) c (pair_of ps c.parent) ≡ Some c.child =
    ap (led_to (cables t) c) (has_pair ps c.parent all has) ∙ led_is t f c told in
    subst (λ (o : Option ℕ). Grows ps (with_led t t ps c.child o) c.child) (sym led) (with_own t ps c.child lt all)

record Keeps (ps qs : List Pair) : Type 0 where
  all : AllOwn qs
  keeps : (j : ℕ) → Contains ps (own j) → Contains qs (own j)

step_any : (t : Tree) → HasCables t → (ps : List Pair) (c : Cable) → IsToldOf (cables t) c →
    c.child < length (walk t) → AllOwn ps → Keeps ps (stepped t t (cables t) ps c)
step_any t f ps c told lt all = go (pair_of ps c.parent) refl
  where
    go : (o : Option Pair) → pair_of ps c.parent ≡ o → Keeps ps (stepped t t (cables t) ps c)
    go None e =
        subst (λ (x : Option Pair). Keeps ps (with_led t t ps c.child (led_to (cables t) c x))) (sym e)
        (record { all = all; keeps = λ j was. was })
    go (Some p) e =
        let so = found_so (λ (p : Pair). p.old == c.parent) ps p e in
        let has : Contains ps (own c.parent) =
        subst (λ (q : Pair). Contains ps q) (own_is p c.parent (eqb-true _ _ so.1) (all p so.0)) so.0 in
        let grows = step_on t f ps c told lt all has in
        record { all = grows.all; keeps = grows.keeps }

-- ---- up to the root

-- the root, or a node that hangs on one of these cables
abbrev GoesOn : Tree → List Cable → ℕ → Type 0
GoesOn t rest k = (k + 1 ≡ length (walk t)) ⊎ ((e : Cable) × Contains rest e × (e.child ≡ k))

-- these cables are the last of a bus: all whose parents are above this one
pub record AreLast (t : Tree) (rest : List Cable) (m : ℕ) : Type 0 where
  pub rising : Rising m rest
  pub some : (e : Cable) → Contains rest e → Contains (cables t) e
  pub above : (e : Cable) → Contains (cables t) e → m < e.parent → Contains rest e

pub last_rest : (t : Tree) (c : Cable) (rest : List Cable) (m : ℕ) → AreLast t (c ∷ rest) m → AreLast t rest c.parent
last_rest t c rest m last = record {
  rising = last.rising.1;
  some = λ e here. last.some e (Contains-append_right (c ∷ []) rest e here);
  above = λ e here lt.
      let least : m ≤ c.parent = last.rising.0 in
      ⊎_elim
      (λ (is : c ≡ e). let same : c.parent ≡ e.parent = ap (λ (x : Cable). x.parent) is in absurd (omega (arith, same, lt)))
      (λ (later : Contains rest e). later)
      (first_or_later c rest e (last.above e here (omega (arith, least, lt))));
}

-- a node of the bus goes on in the cables above it
goes_on : (t : Tree) → HasCables t → (rest : List Cable) (k : ℕ) → k < length (walk t) →
    ((e : Cable) → Contains (cables t) e → k < e.parent → Contains rest e) → GoesOn t rest k
goes_on t f rest k lt above = ⊎_elim
    (λ (less : k + 1 < length (walk t)).
    let h = f.hangs k less in
    let low : h.0.child < h.0.parent = f.lower h.0 h.1 in
    let is : h.0.child ≡ k = h.2 in
    inr (h.0, above h.0 h.1 (omega (arith, low, is)), is))
    (λ (le : length (walk t) ≤ k + 1). inl (omega (arith, lt, le)))
    (cases_lt (k + 1) (length (walk t)))

record AtRoot (t : Tree) (qs : List Pair) : Type 0 where
  all : AllOwn qs
  root : Contains qs (own (length (walk t) - 1))

climb : (t : Tree) → HasCables t → (rest : List Cable) (m : ℕ) → AreLast t rest m → (ps : List Pair) (k : ℕ) →
    AllOwn ps → Contains ps (own k) → GoesOn t rest k →
    AtRoot t (walked t t (cables t) ps (map turned rest))
climb t f [] m last ps k all has goes = ⊎_elim
    (λ (top : k + 1 ≡ length (walk t)).
    let is : k ≡ length (walk t) - 1 = omega (arith, top) in
    record { all = all; root = subst (λ (j : ℕ). Contains ps (own j)) is has })
    (λ (more : (e : Cable) × Contains [] e × (e.child ≡ k)). absurd (none_there more.0 more.1))
    goes
climb t f (c ∷ rest) m last ps k all has goes =
    let here : Contains (cables t) c = last.some c (Contains-append_left (c ∷ []) rest c (Contains-push [] c)) in
    let told : IsToldOf (cables t) (turned c) = inr here in
    let within : c.parent < length (walk t) = f.within c here in
    let next = last_rest t c rest m last in
    let qs = stepped t t (cables t) ps (turned c) in
    let any = step_any t f ps (turned c) told within all in
    ⊎_elim
    (λ (top : k + 1 ≡ length (walk t)). climb t f rest c.parent next qs k any.all (any.keeps k has) (inl top))
    (λ (more : (e : Cable) × Contains (c ∷ rest) e × (e.child ≡ k)). ⊎_elim
    (λ (is : c ≡ more.0).
    let child : c.child ≡ k = ap (λ (x : Cable). x.child) is ∙ more.2 in
    let from : Contains ps (own c.child) = subst (λ (j : ℕ). Contains ps (own j)) (sym child) has in
    let grows = step_on t f ps (turned c) told within all from in
    climb t f rest c.parent next qs c.parent grows.all grows.has (goes_on t f rest c.parent within next.above))
    (λ (later : Contains rest more.0). climb t f rest c.parent next qs k any.all (any.keeps k has) (inr (more.0, later, more.2)))
    (first_or_later c rest more.0 more.1))
    goes

-- ---- down to the leaves

pub walked-append : (t u : Tree) (far : List Cable) (ps : List Pair) (xs ys : List Cable) →
    walked t u far ps (xs ++ ys) ≡ walked t u far (walked t u far ps xs) ys
walked-append t u far ps [] ys = refl
walked-append t u far ps (c ∷ xs) ys = walked-append t u far (stepped t u far ps c) xs ys

-- behind these cables all nodes that hang on one of them are reached
record AreDown (ps : List Pair) (rest : List Cable) (qs : List Pair) : Type 0 where
  all : AllOwn qs
  keeps : (j : ℕ) → Contains ps (own j) → Contains qs (own j)
  hung : (e : Cable) → Contains rest e → Contains qs (own e.child)

descend : (t : Tree) → HasCables t → (rest : List Cable) (m : ℕ) → AreLast t rest m → (ps : List Pair) →
    AllOwn ps → Contains ps (own (length (walk t) - 1)) →
    AreDown ps rest (walked t t (cables t) ps (reverse rest))
descend t f [] m last ps all root = record {
  all = all;
  keeps = λ j was. was;
  hung = λ e none. absurd (none_there e none);
}
descend t f (c ∷ rest) m last ps all root =
    let here : Contains (cables t) c = last.some c (Contains-append_left (c ∷ []) rest c (Contains-push [] c)) in
    let next = last_rest t c rest m last in
    let qs = walked t t (cables t) ps (reverse rest) in
    let above = descend t f rest c.parent next ps all root in
    let within : c.parent < length (walk t) = f.within c here in
    let low : c.child < c.parent = f.lower c here in
    let parent : Contains qs (own c.parent) = ⊎_elim
    (λ (top : c.parent + 1 ≡ length (walk t)).
    let is : length (walk t) - 1 ≡ c.parent = omega (arith, top) in
    subst (λ (j : ℕ). Contains qs (own j)) is (above.keeps (length (walk t) - 1) root))
    (λ (more : (e : Cable) × Contains rest e × (e.child ≡ c.parent)). subst (λ (j : ℕ). Contains qs (own j)) more.2 (above.hung more.0 more.1))
    (goes_on t f rest c.parent within next.above) in
    let grows = step_on t f qs c (inl here) (omega (arith, within, low)) above.all parent in
    let turned_round : walked t t (cables t) ps (reverse (c ∷ rest)) ≡ stepped t t (cables t) qs c =
    ap (λ (xs : List Cable). walked t t (cables t) ps xs) (reverse-append (c ∷ []) rest)
    ∙ walked-append t t (cables t) ps (reverse rest) (c ∷ []) in
    let down : AreDown ps (c ∷ rest) (stepped t t (cables t) qs c) = record {
      all = grows.all;
      keeps = λ j was. grows.keeps j (above.keeps j was);
      hung = λ e there. ⊎_elim
          (λ (is : c ≡ e). subst (λ (x : Cable). Contains (stepped t t (cables t) qs c) (own x.child)) is grows.has)
          (λ (later : Contains rest e). grows.keeps e.child (above.hung e later))
          (first_or_later c rest e there);
    } in
    subst (λ (x : List Pair). AreDown ps (c ∷ rest) x) (sym turned_round) down

-- ---- all

-- each node is reached from the first one, and none by another
record ReachesAll (t : Tree) (qs : List Pair) : Type 0 where
  all : AllOwn qs
  each : (k : ℕ) → k < length (walk t) → Contains qs (own k)

reaches_all : (t : Tree) → HasCables t → ReachesAll t (reached_from t t (own 0))
reaches_all t f =
    let some = some_node t in
    let begun = with_own t [] 0 some (λ p none. absurd (none_there p none)) in
    let start = with_pair t t [] (own 0) in
    let last : AreLast t (cables t) 0 = record {
      rising = cables_rising t;
      some = λ e here. here;
      above = λ e here lt. here;
    } in
    let first : GoesOn t (cables t) 0 = goes_on t f (cables t) 0 some (λ e here lt. here) in
    let top = climb t f (cables t) 0 last start 0 begun.all begun.has first in
    let up = walked t t (cables t) start (map turned (cables t)) in
    let down = descend t f (cables t) 0 last up top.all top.root in
    let qs = walked t t (cables t) up (reverse (cables t)) in
    let reached : ReachesAll t qs = record {
      all = down.all;
      each = λ k lt. ⊎_elim
          (λ (root : k + 1 ≡ length (walk t)).
          let is : length (walk t) - 1 ≡ k = omega (arith, root) in
          subst (λ (j : ℕ). Contains qs (own j)) is (down.keeps (length (walk t) - 1) top.root))
          (λ (more : (e : Cable) × Contains (cables t) e × (e.child ≡ k)). subst (λ (j : ℕ). Contains qs (own j)) more.2 (down.hung more.0 more.1))
          (goes_on t f (cables t) k lt (λ e here lt. here));
    } in
    subst (λ (x : List Pair). ReachesAll t x) (sym (walked-append t t (cables t) start (map turned (cables t)) (reverse (cables t)))) reached

in_order : (ps : List Pair) (n : ℕ) → AllOwn ps → ((k : ℕ) → k < n → Contains ps (own k)) → by_new_id ps n ≡ itself n
in_order ps zero all each = refl
in_order ps (suc k) all each =
    let rest = in_order ps k all (λ j lt. each j (omega (arith, lt))) in
    let found = find_some (λ (p : Pair). p.new == k) ps (own k) (each k (omega arith)) (eq-eqb k k refl) in
    let so = found_so (λ (p : Pair). p.new == k) ps found.0 found.1 in
    let is : found.0 ≡ own k = own_is found.0 k (all found.0 so.0 ∙ eqb-true _ _ so.1) (all found.0 so.0) in
    let here : find (λ (p : Pair). p.new == k) ps ≡ Some (own k) = found.1 ∙ ap (λ (p : Pair). Some p) is in
    rw (rest, here) refl

starts_first : (t : Tree) → HasCables t → matched t t ≡ itself (length (walk t))
starts_first t f =
    let r = reaches_all t f in
    let long : length (reached_from t t (own 0)) ≡ length (walk t) = reached_all t t (cables t) (ways (cables t)) (own 0)
    (λ k lt. any_in (λ (p : Pair). p.old == k) (reached_from t t (own 0)) (own k) (r.each k lt) (eq-eqb k k refl)) in
    let h = begins_furthest t t in
    let few : length (reached_from t t h.0) ≤ min (length (walk t)) (length (walk t)) = reached_few t t (cables t) (ways (cables t)) h.0 in
    let not_before : IsBefore (own 0) h.0 → ⊥ = λ before.
    let more : length (reached_from t t (own 0)) < length (reached_from t t h.0) = h.1.first (own 0) (some_node t, some_node t) before in
    omega (arith, long, few, more) in
    let old : h.0.old ≡ 0 = ⊎_elim
    (λ (lt : 0 < h.0.old). absurd (not_before (inl lt)))
    (λ (le : h.0.old ≤ 0). omega (arith, le))
    (cases_lt 0 h.0.old) in
    let new : h.0.new ≡ 0 = ⊎_elim
    (λ (lt : 0 < h.0.new). absurd (not_before (inr (sym old, lt))))
    (λ (le : h.0.new ≤ 0). omega (arith, le))
    (cases_lt 0 h.0.new) in
    h.2 ∙ ap (λ (p : Pair). by_new_id (reached_from t t p) (length (walk t))) (pair_is h.0 0 0 old new)
    ∙ in_order (reached_from t t (own 0)) (length (walk t)) r.all r.each

along_itself : (t : Tree) → HasCables t → changes t t (matched t t) ≡ []
along_itself t f =
    ap (changes t t) (starts_first t f) ∙ sym (ap (changes t t) (same_is t (length (walk t)) (omega arith))) ∙ same_bus t

-- the same of two names of a bus
pub along_same : (t u : Tree) → HasCables t → t ≡ u → changes t u (matched t u) ≡ []
along_same t u f same = subst (λ (x : Tree). changes t x (matched t x) ≡ []) same (along_itself t f)
