-- Marks and roles of a node's ports.
use Rattle.std.proofs.Common.{◌≡◌, ◌⊎◌, inl, inr, ℕ, zero, suc, ◌+◌, ◌<◌, Bool, true, false, not, ◌&&◌, ◌==◌, List, [], ◌∷◌, Option, Some, None, slice_get, refl, sym, ◌∙◌, ap, subst, arith, true≢false}
use Rattle.std.specs.Prelude.{cond}
use Rattle.std.specs.List.{position_from}
use Rattle.std.specs.Option.{option_map}
use Rattle.outcomes.proofs.Common.{contrary, PortView, NodeState, is_unnamed, passes, port_is, is_connected, is_port, lowest, change_port, FitsRole, IsValid, is_before_tree, leads_down, late-roles}
use Rattle.port_state.specs.Valid.{HasRoles}
use Rattle.port_state.proofs.Lemmas.{changed-port, lowest-passes}

-- ---- a changed port

pub changed-other :
    (t : PortView → Bool) (n k : ℕ) (f : PortView → PortView) (ports : List PortView) → (k == n)
    ≡ false → port_is t (change_port n f ports) k ≡ port_is t ports k
changed-other t n k f ports e = ap (passes t) (changed-port n k f ports ∙ (rw e refl))

pub changed-here :
    (t u : PortView → Bool) (n k : ℕ) (f : PortView → PortView) (ports : List PortView) →
    ((p : PortView) → t (f p) ≡ true) → (k == n) ≡ true → port_is u ports k ≡ true →
    port_is t (change_port n f ports) k ≡ true
changed-here t u n k f ports h e there = ap (passes t) (changed-port n k f ports ∙ (rw e refl)) ∙ go (slice_get ports k) there
  where
    go : (o : Option PortView) → passes u o ≡ true → passes t (option_map f o) ≡ true
    go None e = absurd (true≢false (sym e))
    go (Some p) e = h p

-- a mark that is set at one port and was set, or is set there
pub changed-was :
    (t : PortView → Bool) (n k : ℕ) (f : PortView → PortView) (ports : List PortView) →
    port_is t (change_port n f ports) k ≡ true → (port_is t ports k ≡ true) ⊎ ((k == n) ≡ true)
changed-was t n k f ports h = go (k == n) refl
  where
    go : (b : Bool) → (k == n) ≡ b → (port_is t ports k ≡ true) ⊎ (b ≡ true)
    go true e = inr refl
    go false e = inl (sym (changed-other t n k f ports e) ∙ h)

-- ---- the lowest port that passes a test

cond-none : (b : Bool) (k : ℕ) (o : Option ℕ) → cond b (Some k) o ≡ None → (b ≡ false) × (o ≡ None)
cond-none true k o h = absurd cc
cond-none false k o h = (refl, h)

pub none-lowest :
    (t : PortView → Bool) (k : ℕ) (ports : List PortView) → position_from t k ports ≡ None → (j : ℕ)
    → port_is t ports j ≡ false
none-lowest t k [] h j = refl
none-lowest t k (x ∷ xs) h zero = (cond-none (t x) k (position_from t (k + 1) xs) h).0
none-lowest t k (x ∷ xs) h (suc j) = none-lowest t (k + 1) xs (cond-none (t x) k (position_from t (k + 1) xs) h).1 j

pub lowest-first :
    (t : PortView → Bool) (k : ℕ) (ports : List PortView) (p : ℕ) →
    position_from t k ports ≡ Some p → (j : ℕ) → k + j < p → port_is t ports j ≡ false
lowest-first t k [] p h j l = refl
lowest-first t k (x ∷ xs) p h j l = go (t x) refl h j l (lowest-first t (k + 1) xs p)
  where
    go :
        (b : Bool) → t x ≡ b → cond b (Some k) (position_from t (k + 1) xs) ≡ Some p → (j : ℕ) →
        k + j < p →
        (position_from t (k + 1) xs ≡ Some p → (i : ℕ) → k + 1 + i < p → port_is t xs i ≡ false) →
        port_is t (x ∷ xs) j ≡ false
    go true e h j l rest = let same : k ≡ p = cc in absurd (omega (arith, same, l))
    go false e h zero l rest = e
    go false e h (suc j) l rest = rest h j (omega (arith, l))

pub lowest-is :
    (t : PortView → Bool) (ports : List PortView) (p : ℕ) → lowest t ports ≡ Some p →
    port_is t ports p ≡ true
lowest-is t ports p h = lowest-passes t (λ j. port_is t ports j ≡ true) 0 ports (λ j e. let z : 0 + j ≡ j = omega arith in subst (λ i. port_is t ports i ≡ true) (sym z) e) p h

-- ---- roles

role-of-child :
    (parent : Option ℕ) (k : ℕ) (p : PortView) → FitsRole parent k p → p.child ≡ true →
    (is_port parent k ≡ false) × (p.connected ≡ true)
role-of-child parent k p r c = go p.connected refl
  where
    go : (b : Bool) → p.connected ≡ b → (is_port parent k ≡ false) × (p.connected ≡ true)
    go true e = (r.one e ∙ ap not c, e)
    go false e = contrary c ((r.none e).0)

-- a child port is connected, and isn't the parent port
pub child-role :
    (x : NodeState) (k : ℕ) → IsValid x → is_before_tree x.view.phase ≡ false →
    leads_down x.view.ports k ≡ true → (is_port x.view.parent k ≡ false)
    × (is_connected x.view.ports k ≡ true)
child-role x k v late h = go (slice_get x.view.ports k) refl h
  where
    roles : HasRoles x.view.parent x.view.ports
    roles = late-roles x v late

    go :
        (o : Option PortView) → slice_get x.view.ports k ≡ o → passes (λ p. p.child) o ≡ true →
        (is_port x.view.parent k ≡ false)
        × (passes (λ p. p.connected) (slice_get x.view.ports k) ≡ true)
    go None e h = absurd (true≢false (sym h))
    go (Some p) e h = let b = role-of-child x.view.parent k p (roles k p e) h in (b.0, ap (passes (λ q. q.connected)) e ∙ b.1)

-- a connected child port that isn't unnamed is named
pub not-unnamed :
    (ports : List PortView) (k : ℕ) → port_is is_unnamed ports k ≡ false →
    is_connected ports k ≡ true → leads_down ports k ≡ true → port_is (λ p. p.named) ports k ≡ true
not-unnamed ports k h c d = go (slice_get ports k) h c d
  where
    three : (c d n : Bool) → (c && (d && not n)) ≡ false → c ≡ true → d ≡ true → n ≡ true
    three c d n h e f = grind arith

    go :
        (o : Option PortView) → passes is_unnamed o ≡ false → passes (λ p. p.connected) o ≡ true →
        passes (λ p. p.child) o ≡ true → passes (λ p. p.named) o ≡ true
    go None h c d = absurd (true≢false (sym c))
    go (Some p) h c d = three p.connected p.child p.named h c d

pub is-unnamed :
    (ports : List PortView) (k : ℕ) → port_is is_unnamed ports k ≡ true → leads_down ports k ≡ true
is-unnamed ports k h = go (slice_get ports k) h
  where
    two : (c d n : Bool) → (c && (d && not n)) ≡ true → d ≡ true
    two c d n h = grind arith

    go : (o : Option PortView) → passes is_unnamed o ≡ true → passes (λ p. p.child) o ≡ true
    go None h = absurd (true≢false (sym h))
    go (Some p) h = two p.connected p.child p.named h
