-- The roles of ports, as the rows of tree identify give and change them.
use Rattle.std.proofs.Common.{◌≡◌, ℕ, zero, suc, ◌+◌, ◌≤◌, ◌<◌, Bool, true, false, not, cond, ◌&&◌, ◌||◌, ◌==◌, List, [], ◌∷◌, length, map, Option, Some, None, refl, subst, sym, ◌∙◌, ap, arith, eq-eqb, inl, inr, ◌⊎◌, true≢false}
use Rattle.std.specs.Prelude.{count_by}
use Rattle.std.specs.List.{position_from}
use Rattle.std.proofs.lemmas.Bool.{ne_eqb}
use Rattle.std.proofs.lemmas.Bool.Decides.{nat_tests}
use Rattle.std.proofs.lemmas.List.Sums.{sum_by-cons}
use Rattle.port_state.specs.declared.signal.Level.{Level}
use Rattle.port_state.specs.declared.signal.Level.TheVariants as level
use Rattle.port_state.specs.declared.ports.PortView.{PortView}
use Rattle.port_state.specs.declared.states.NodeState.{NodeState}
use Rattle.port_state.specs.Ports.{asks, is_remaining, is_parent, is_port, connected_count, passes, port_is, change_port, lowest}
use Rattle.port_state.specs.TreeIdentify.{is_decided, adopt}
use Rattle.port_state.specs.Valid.{EachPort, FitsRole, HasRoles}
use Rattle.port_state.proofs.EachPort.{each-map, each-at, each-changed}

count-cons :
    (q : PortView → Bool) (p : PortView) (ps : List PortView) →
    count_by q (p ∷ ps) ≡ cond (q p) 1 0 + count_by q ps
count-cons q p ps = sum_by-cons (λ x. cond (q x) 1 0) p ps

-- ---- at most one port is left

-- the connected ports are those that ask and those that are left
split_one :
    (conn : Bool) (l : Level) →
    cond conn 1 0 ≡ cond (conn && is_parent l) 1 0 + cond (conn && not (is_parent l)) 1 0
split_one true level.Reset = refl
split_one true level.Idle = refl
split_one true level.Parent = refl
split_one true level.Child = refl
split_one false l = refl

count-split :
    (ps : List PortView) → connected_count ps ≡ count_by asks ps + count_by is_remaining ps
count-split [] = refl
count-split (p ∷ ps) =
    omega (arith, count-cons (λ p. p.connected) p ps, count-cons asks p ps, count-cons is_remaining p ps, split_one p.connected p.shown, count-split ps)

decided_one :
    (c k : ℕ) (b : Bool) (left : ℕ) → c ≡ k + left → ((k == c) || ((k + 1 == c) && b)) ≡ true →
    left ≤ 1
decided_one c k b left e h = grind (arith, nat_tests)

pub decided_few : (x : NodeState) → is_decided x ≡ true → count_by is_remaining x.view.ports ≤ 1
decided_few x h = decided_one _ _ _ _ (count-split x.view.ports) h

-- ---- which port that is

none_step : (b : Bool) (n : ℕ) → cond b 1 0 + n ≡ 0 → (b ≡ false) × (n ≡ 0)
none_step true n h = absurd (omega arith)
none_step false n h = (refl, omega arith)

one_step :
    (b : Bool) (n : ℕ) → cond b 1 0 + n ≤ 1 → ((b ≡ true) × (n ≡ 0)) ⊎ ((b ≡ false) × (n ≤ 1))
one_step true n h = inl (refl, omega arith)
one_step false n h = inr (refl, omega arith)

none_left :
    (ports : List PortView) → count_by is_remaining ports ≡ 0 →
    EachPort (λ k p. is_remaining p ≡ false) ports
none_left [] h k p at = absurd cc
none_left (x ∷ xs) h zero p at = let s = none_step (is_remaining x) (count_by is_remaining xs) (sym (count-cons is_remaining x xs) ∙ h) in let same : x ≡ p = cc in subst (λ q. is_remaining q ≡ false) same s.0
none_left (x ∷ xs) h (suc k) p at = let s = none_step (is_remaining x) (count_by is_remaining xs) (sym (count-cons is_remaining x xs) ∙ h) in none_left xs s.1 k p at

not_first :
    (b : Bool) (j k : ℕ) (o : Option ℕ) → j < k → is_port o j ≡ false →
    is_port (cond b (Some k) o) j ≡ false
not_first true j k o h e = ne_eqb k j (λ e. omega arith)
not_first false j k o h e = e

-- the lowest port is none before the first that is looked at
not_before :
    (j k : ℕ) (ps : List PortView) → j < k → is_port (position_from is_remaining k ps) j ≡ false
not_before j k [] h = refl
not_before j k (p ∷ ps) h = not_first (is_remaining p) j k _ h (not_before j (k + 1) ps (omega arith))

-- at its head, and behind it
head_is :
    (j : ℕ) (x : PortView) (xs : List PortView) →
    is_port (position_from is_remaining j (x ∷ xs)) j ≡ is_remaining x
head_is j x xs = go (is_remaining x)
  where
    go : (b : Bool) → is_port (cond b (Some j) (position_from is_remaining (j + 1) xs)) j ≡ b
    go true = eq-eqb j j refl
    go false = not_before j (j + 1) xs (omega arith)

pub left_is :
    (j : ℕ) (ports : List PortView) → count_by is_remaining ports ≤ 1 →
    EachPort (λ k p. is_port (position_from is_remaining j ports) (j + k) ≡ is_remaining p) ports
left_is j [] h k p at = absurd cc
left_is j (x ∷ xs) h zero p at =
    let same : x ≡ p = cc in
    let z : j + 0 ≡ j = omega arith in
    rw z (head_is j x xs ∙ ap is_remaining same)
left_is j (x ∷ xs) h (suc k) p at =
    let z : j + suc k ≡ j + 1 + k = omega arith in
    rw z (go (is_remaining x) (λ c. left_is (j + 1) xs c k p at) (omega (arith, count-cons is_remaining x xs)))
  where
    go :
        (b : Bool) →
        (count_by is_remaining xs ≤ 1 → is_port (position_from is_remaining (j + 1) xs) (j + 1 + k) ≡ is_remaining p) →
        cond b 1 0 + count_by is_remaining xs ≤ 1 →
        is_port (cond b (Some j) (position_from is_remaining (j + 1) xs)) (j + 1 + k)
        ≡ is_remaining p
    go true rest c = ne_eqb j (j + 1 + k) (λ e. omega arith) ∙ sym (none_left xs (omega arith) k p at)
    go false rest c = rest (omega arith)

-- ---- every port takes its role

role_at : (conn : Bool) (l : Level) (ch a n par : Bool) → ch ≡ false → par ≡ (conn && not (is_parent l)) → (let p : PortView = record { connected = conn; shown = l; child = ch; asked = a; named = n } in
    ((adopt p).connected ≡ true → par ≡ not (adopt p).child) ×
    ((adopt p).connected ≡ false → ((adopt p).child ≡ false) × (par ≡ false)))
role_at false l ch a n par hc hp = (λ on. absurd cc, λ off. (hc, hp))
role_at true level.Reset ch a n par hc hp = (λ on. rw (hc, hp) refl, λ off. absurd cc)
role_at true level.Idle ch a n par hc hp = (λ on. rw (hc, hp) refl, λ off. absurd cc)
role_at true level.Parent ch a n par hc hp = (λ on. hp, λ off. absurd cc)
role_at true level.Child ch a n par hc hp = (λ on. rw (hc, hp) refl, λ off. absurd cc)

pub all_take_roles :
    (ports : List PortView) → count_by is_remaining ports ≤ 1 →
    EachPort (λ k p. p.child ≡ false) ports → HasRoles (lowest is_remaining ports) (map adopt ports)
all_take_roles ports few none =
    each-map (λ k p. (p.child ≡ false) × (is_port (lowest is_remaining ports) k ≡ is_remaining p)) (FitsRole (lowest is_remaining ports)) adopt
    (λ k p h.
    let r = role_at p.connected p.shown p.child p.asked p.named (is_port (lowest is_remaining ports) k) h.0 h.1 in
    record { one = r.0; none = r.1 }) ports
    (λ k p at. (none k p at, (let z : 0 + k ≡ k = omega arith in subst (λ m. is_port (lowest is_remaining ports) m ≡ is_remaining p) z (left_is 0 ports few k p at))))

-- ---- the parent port

parent_connected : (n : ℕ) (p : PortView) → FitsRole (Some n) n p → p.connected ≡ true
parent_connected n p r = go p.connected refl
  where
    go : (b : Bool) → p.connected ≡ b → p.connected ≡ true
    go true e = e
    go false e = absurd (true≢false (sym (eq-eqb n n refl) ∙ (r.none e).1))

pub parent-connected :
    (ports : List PortView) (n : ℕ) → n < length ports → HasRoles (Some n) ports →
    port_is (λ p. p.connected) ports n ≡ true
parent-connected ports n h r =
    let t = each-at (FitsRole (Some n)) ports n h r in
    ap (passes (λ p. p.connected)) t.1 ∙ parent_connected n t.0 t.2

-- a parent port becomes a child port, and there is no parent port
others-alone : (n j : ℕ) (p : PortView) → (j ≡ n → ⊥) → FitsRole (Some n) j p → FitsRole None j p
others-alone n j p ne r = record {
  one = λ on. sym (ne_eqb n j (λ e. ne (sym e))) ∙ r.one on;
  none = λ off. ((r.none off).0, refl);
}

rival-taken :
    (n : ℕ) (p : PortView) → FitsRole (Some n) n p → FitsRole None n (record p { child = true })
rival-taken n p r = record {
  one = λ on. refl;
  none = λ off. absurd (true≢false (sym (parent_connected n p r) ∙ off));
}

pub rival_taken :
    (ports : List PortView) (n : ℕ) → HasRoles (Some n) ports →
    HasRoles None (change_port n (λ p. record p { child = true }) ports)
rival_taken ports n r =
    each-changed (FitsRole (Some n)) (FitsRole None) n (λ p. record p { child = true })
    (λ p h. rival-taken n p h) (λ j p ne h. others-alone n j p ne h) ports r
