-- Cables are pulled one after the other.
use Rattle.std.proofs.Common.{◌≡◌, inl, inr, Option, None, Some, List, [], ◌∷◌, ◌++◌, sym, ◌∙◌, ap, subst}
use Rattle.cabling.specs.declared.cable.End.{End}
use Rattle.cabling.specs.declared.cable.Cable.{Cable}
use Rattle.cabling.specs.Wiring.{Wiring, IsCabling, far}
use Rattle.cabling.specs.Change.{TakenOut}
use Rattle.cabling.proofs.Lemmas.{cabling_taken, one_other, taken_by_writes}
use Rattle.port_state.specs.Machine.{node_pulled}
use Rattle.cable_world.specs.declared.act.Act.TheVariants.{Pull}
use Rattle.cable_world.specs.World.{CableWorld, put}
use Rattle.cable_world.specs.Act.{ActLeads, pull, pull_from, remove_cable, with_step}
use Rattle.cable_world.proofs.Lemmas.{step-cables}
use Rattle.loop_advice.specs.Cables.{turned, Lists}
use Rattle.loop_advice.proofs.Lemmas.{lists_left, cable}
use Rattle.script_told.specs.Bus.{Bus}
use Rattle.script_advice.specs.Advice.{PullsLead}
use Rattle.script_advice.specs.Advising.{ArePullable}
use Rattle.script_told.proofs.Lemmas.{IsCabled}

-- ---- a pull

pub pull-taken :
    (a b : End) (w v : CableWorld) → far w.cabling a ≡ Some b → IsCabled w →
    ActLeads (Pull a) w v → TakenOut w.cabling v.cabling a b
pull-taken a b w v at h is =
    let c : Wiring = put b None (put a None w.cabling) in
    let start : CableWorld = remove_cable a b w in
    let next : CableWorld = with_step a.node (node_pulled a.port) start in
    let there : (pull_from a (Some b) w).cabling ≡ c =
    step-cables b.node (node_pulled b.port) next ∙ step-cables a.node (node_pulled a.port) start in
    let from : (pull a w).cabling ≡ c =
    ap (λ (o : Option End). (pull_from a o w).cabling) at ∙ there in
    let same : v.cabling ≡ c =
    ap (λ (u : CableWorld). u.cabling) is ∙ from in
    subst (λ (d : Wiring). TakenOut w.cabling d a b) (sym same) (taken_by_writes w.cabling a b h at)

-- ---- cables that are left

same : (v w : Cable) → v.a ≡ w.a → v.b ≡ w.b → v ≡ w
same v w a b = ap (λ (e : End). cable e v.b) a ∙ ap (λ (e : End). cable w.a e) b

apart :
    (c : Wiring) (x y : Cable) → IsCabling c → far c x.a ≡ Some x.b → far c y.a ≡ Some y.b →
    (Lists (y ∷ []) x → ⊥) → (y.a ≡ x.a → ⊥) × (y.a ≡ x.b → ⊥)
apart c x y is at_x at_y out = (
  (λ e. out (inl (inl (same x y (sym e)
      (one_other (far c x.a) x.b y.b at_x (ap (far c) (sym e) ∙ at_y)))))),
  (λ e. out (inl (inr (same x (turned y)
      (one_other (far c x.b) x.a y.b (is.both_ways x.a x.b at_x) (ap (far c) (sym e) ∙ at_y))
      (sym e))))),
)

still-pullable :
    (old new : Wiring) (x : Cable) (ys : List Cable) → IsCabling old → far old x.a ≡ Some x.b →
    TakenOut old new x.a x.b → (Lists ys x → ⊥) → ArePullable old ys → ArePullable new ys
still-pullable old new x [] is at t out h = tt
still-pullable old new x (y ∷ ys) is at t out h =
    let off = apart old x y is at h.0 (λ l. elim l [ inl s ↦ out (inl s) | inr none ↦ none ]) in (
      t.others.others y.a off.0 off.1 ∙ h.0,
      h.1,
      still-pullable old new x ys is at t (λ l. out (inr l)) h.2,
    )

pub next-pullable :
    (w v : CableWorld) (x : Cable) (ys : List Cable) → IsCabled w →
    ArePullable w.cabling (x ∷ ys) → ActLeads (Pull x.a) w v →
    IsCabled v × ArePullable v.cabling ys
next-pullable w v x ys is h leads =
    let taken : TakenOut w.cabling v.cabling x.a x.b = pull-taken x.a x.b w v h.0 is leads in (
      cabling_taken w.cabling v.cabling x.a x.b is taken,
      still-pullable w.cabling v.cabling x ys is h.0 taken h.1 h.2,
    )

-- ---- lists of them

pub first-pullable : (c : Wiring) (xs ys : List Cable) → ArePullable c (xs ++ ys) → ArePullable c xs
first-pullable c [] ys h = tt
first-pullable c (x ∷ xs) ys h =
    (h.0, (λ l. h.1 (lists_left xs ys x l)), first-pullable c xs ys h.2)

pub rest-pullable :
    (bus after : Bus) (xs ys : List Cable) → IsCabled bus.world →
    ArePullable bus.world.cabling (xs ++ ys) → PullsLead bus xs after →
    ArePullable after.world.cabling ys
rest-pullable bus after [] ys is h leads =
    subst (λ (b : Bus). ArePullable b.world.cabling ys) (sym leads) h
rest-pullable bus after (x ∷ xs) ys is h leads =
    let next = next-pullable bus.world leads.0.world x (xs ++ ys) is h leads.1.1 in
    rest-pullable leads.0 after xs ys next.0 next.1 leads.2

pub pulls-append :
    (bus mid after : Bus) (xs ys : List Cable) → PullsLead bus xs mid → PullsLead mid ys after →
    PullsLead bus (xs ++ ys) after
pulls-append bus mid after [] ys x y = subst (λ (b : Bus). PullsLead b ys after) x y
pulls-append bus mid after (c ∷ xs) ys x y =
    (x.0, x.1, pulls-append x.0 mid after xs ys x.2 y)
