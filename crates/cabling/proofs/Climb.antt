-- From each node one way leads up by ranks; no two ports of a node are on it.
use Rattle.std.proofs.Common.{◌≡◌, ℕ, zero, suc, ◌<◌, ◌≤◌, Some, refl, sym, subst, ap, arith}
use Rattle.cabling.specs.declared.cable.End.{End}
use Rattle.cabling.specs.Wiring.{Wiring, far}
use Rattle.cabling.specs.NodeSet.{Holds}
use Rattle.cabling.specs.Component.{IsClosed}
use Rattle.cabling.proofs.Ends.{one_other}
use Rattle.cabling.proofs.Near.{end_at}
use Rattle.cabling.proofs.Rank.{Ranked}

-- one cable that leads up
pub record Step (c : Wiring) (rank : ℕ → ℕ) (node port : ℕ) (end : End) : Type 0 where
  pub joined : far c (end_at node port) ≡ Some end
  pub rises : rank node < rank end.node

pub record StepFrom (c : Wiring) (rank : ℕ → ℕ) (node : ℕ) (next : ℕ → Type 0) : Type 0 where
  pub port : ℕ
  pub end : End
  pub step : Step c rank node port end
  pub after : next end.node

-- so many cables lead up from a node to the top
abbrev pub Climbs : Wiring → (ℕ → ℕ) → ℕ → ℕ → ℕ → Type 0
Climbs c rank top zero node = node ≡ top
Climbs c rank top (suc n) node = StepFrom c rank node (λ next. Climbs c rank top n next)

pub climbs_rank : (c : Wiring) (rank : ℕ → ℕ) (top n node : ℕ) → Climbs c rank top n node →
    rank node ≤ rank top
climbs_rank c rank top zero node e = omega (arith, ap rank e)
climbs_rank c rank top (suc n) node s = omega (arith, s.step.rises, climbs_rank c rank top n s.end.node s.after)

-- one cable more
pub climbs_more : (c : Wiring) (rank : ℕ → ℕ) (top port : ℕ) (end : End) (n node : ℕ) →
    Climbs c rank top n node → Step c rank top port end → Climbs c rank end.node (suc n) node
climbs_more c rank top port end zero node e s = record { port = port; end = end; step = subst (λ (x : ℕ). Step c rank x port end) (sym e) s; after = refl }
climbs_more c rank top port end (suc n) node w s = record { port = w.port; end = w.end; step = w.step; after = climbs_more c rank top port end n w.end.node w.after s }

-- a node has one way up
one_step : (c : Wiring) (rank : ℕ → ℕ) (set root node p q : ℕ) (a b : End) →
    Ranked c set root rank → IsClosed c set → Holds set node → Step c rank node p a →
    Step c rank node q b → a ≡ b
one_step c rank set root node p q a b r closed h s t =
    let same : p ≡ q = r.one_up node p q a b h (closed (end_at node p) a s.joined h) (closed (end_at node q) b t.joined h) s.joined t.joined s.rises t.rises in
    one_other (far c (end_at node q)) a b (subst (λ (x : ℕ). far c (end_at node x) ≡ Some a) same s.joined) t.joined

-- two ways up from a node that come into the same node by its ports come by the same port
pub one_way : (c : Wiring) (rank : ℕ → ℕ) (set root y z p q : ℕ) (a b : End) (m n node : ℕ) →
    Ranked c set root rank → IsClosed c set → Holds set node → a.node ≡ b.node →
    Climbs c rank y m node → Climbs c rank z n node → Step c rank y p a → Step c rank z q b → a ≡ b
one_way c rank set root y z p q a b zero zero node r closed h same e f s t =
    one_step c rank set root node p q a b r closed h (subst (λ (x : ℕ). Step c rank x p a) (sym e) s) (subst (λ (x : ℕ). Step c rank x q b) (sym f) t)
one_way c rank set root y z p q a b zero (suc n) node r closed h same e f s t =
    let up : a ≡ f.end = one_step c rank set root node p f.port a f.end r closed h (subst (λ (x : ℕ). Step c rank x p a) (sym e) s) f.step in
    absurd (omega (arith, climbs_rank c rank z n f.end.node f.after, ap (λ (x : End). rank x.node) up, ap rank same, t.rises))
one_way c rank set root y z p q a b (suc m) zero node r closed h same e f s t =
    let up : b ≡ e.end = one_step c rank set root node q e.port b e.end r closed h (subst (λ (x : ℕ). Step c rank x q b) (sym f) t) e.step in
    absurd (omega (arith, climbs_rank c rank y m e.end.node e.after, ap (λ (x : End). rank x.node) up, ap rank same, s.rises))
one_way c rank set root y z p q a b (suc m) (suc n) node r closed h same e f s t =
    let up : e.end ≡ f.end = one_step c rank set root node e.port f.port e.end f.end r closed h e.step f.step in
    one_way c rank set root y z p q a b m n f.end.node r closed (closed (end_at node f.port) f.end f.step.joined h) same
    (subst (λ (x : End). Climbs c rank y m x.node) up e.after) f.after s t
