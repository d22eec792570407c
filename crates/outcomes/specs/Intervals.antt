-- The walk by whole nodes: those below a node have places side by side.
use Rattle.std.specs.Prelude.{◌≡◌, ◌≢◌, ℕ, ◌+◌, ◌<◌, ◌≤◌, Option, Some, length}
use Rattle.cabling.specs.declared.cable.End.{End}
use Rattle.cabling.specs.Wiring.{Wiring, ports_of, far}
use Rattle.cabling.specs.NodeSet.{Holds}

-- a cable leads from port p of node k to the end b, and not to its parent
pub record LeadsToChild (c : Wiring) (parent : ℕ → Option ℕ) (k p : ℕ) (b : End) : Type 0 where
  pub joined : far c (record { node = k; port = p }) ≡ Some b
  pub onward : parent k ≢ Some p

-- none leads so from the ports p to q - 1
abbrev pub HasNoChild : Wiring → (ℕ → Option ℕ) → ℕ → ℕ → ℕ → Type 0
HasNoChild c parent k p q = (i : ℕ) (b : End) → p ≤ i → i < q → LeadsToChild c parent k i b → ⊥

-- The nodes from k down have the places lo k to hi k - 1, k itself the last of them: the children
-- by rising ports one after the other, and then k.
pub record Intervals
    (c : Wiring) (parent : ℕ → Option ℕ) (set root n : ℕ) (lo hi : ℕ → ℕ)
    : Type 0 where
  pub first :
      (k p : ℕ) (b : End) → Holds set k → LeadsToChild c parent k p b → HasNoChild c parent k 0 p →
      lo b.node ≡ lo k
  pub next :
      (k p q : ℕ) (b d : End) → Holds set k → LeadsToChild c parent k p b →
      LeadsToChild c parent k q d → p < q → HasNoChild c parent k (p + 1) q → lo d.node ≡ hi b.node
  pub last :
      (k p : ℕ) (b : End) → Holds set k → LeadsToChild c parent k p b →
      HasNoChild c parent k (p + 1) (length (ports_of c k)) → hi k ≡ hi b.node + 1
  pub leaf :
      (k : ℕ) → Holds set k → HasNoChild c parent k 0 (length (ports_of c k)) → hi k ≡ lo k + 1
  pub begins : lo root ≡ 0
  pub ends : hi root ≡ n
  pub differ : (j k : ℕ) → Holds set j → Holds set k → hi j ≡ hi k → j ≡ k
  pub covers : (i : ℕ) → i < n → (k : ℕ) × Holds set k × (hi k ≡ i + 1)
