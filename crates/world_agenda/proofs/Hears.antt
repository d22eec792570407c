-- Nothing arrives at an end that isn't marked, where the far ends of those that give something are.
use Rattle.std.proofs.Common.{◌≡◌, ℕ, suc, ◌+◌, ◌++◌, true, false, List, [], ◌∷◌, Option, Some, None, slice_index_or, refl, sym, ◌∙◌, ap}
use Rattle.std.specs.Prelude.{IfSome}
use Rattle.cabling.specs.NodeSet.{Holds}
use Rattle.cabling.specs.declared.cable.End.{End}
use Rattle.cabling.specs.Wiring.{Wiring, HasEnd, ports_of, far, IsCabling}
use Rattle.cabling.proofs.Lemmas.{plugged}
use Rattle.cable_world.specs.running.Hearing.{Arriving, AreQuietBut, on_one, arriving_from, inbox_of}
use Rattle.world_agenda.specs.declared.heard.Heard.{Heard}
use Rattle.world_agenda.specs.Heard.{GivesBut, AreSparedBut}

pub all-spared : (h : Heard) (table : Arriving) (c : Wiring) → IsCabling c →
    ((j : ℕ) → GivesBut h c j (slice_index_or table j [])) → AreSparedBut h table c
all-spared h table c is gives end out = go (far c end) refl
  where
    go : (o : Option End) → far c end ≡ o → arriving_from table o ≡ []
    go None e = refl
    go (Some other) e = gives other.node other.port end (is.both_ways end other e) out

-- a far end is there
pub far-end :
    (c : Wiring) → IsCabling c → (end : End) (P : End → Type 0) → ((other : End) → HasEnd c other → P other) → IfSome (far c end) P
far-end c is end P h = go (far c end) refl
  where
    go : (o : Option End) → far c end ≡ o → IfSome o P
    go None e = tt
    go (Some other) e = h other (plugged c other end (is.both_ways end other e))

-- ---- what a node hears

inbox-spared :
    (table : Arriving) (p : ℕ) (ports : List (Option End)) → ((i : ℕ) → arriving_from table (slice_index_or ports i None) ≡ []) →
    inbox_of table p ports ≡ []
inbox-spared table p [] h = refl
inbox-spared table p (end ∷ ports) h =
    ap (λ ss. on_one p ss ++ inbox_of table (p + 1) ports) (h 0) ∙ inbox-spared table (p + 1) ports (λ i. h (suc i))

-- nothing, where its node isn't marked
pub none-heard :
    (h : Heard) (table : Arriving) (c : Wiring) (k : ℕ) → AreSparedBut h table c → (Holds h.nodes k → ⊥) → inbox_of table 0 (ports_of c k) ≡ []
none-heard h table c k spared out =
    inbox-spared table 0 (ports_of c k) (λ i. spared (record { node = k; port = i }) (λ heard. out heard.node))

-- at its marked ports alone
pub quiet-but :
    (h : Heard) (table : Arriving) (c : Wiring) (k : ℕ) → AreSparedBut h table c → AreQuietBut (slice_index_or h.ports k 0) table c k
quiet-but h table c k spared p small out = spared (record { node = k; port = p }) (λ heard.
    let e : true ≡ false = sym heard.port ∙ out in absurd cc)
