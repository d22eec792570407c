-- Equal lists make one bus.
use Rattle.std.proofs.Common.{◌≡◌, ℕ, ◌+◌, ◌*◌, ◌/◌, ◌%◌, ◌^◌, ◌<◌, inl, inr, List, ◌∷◌, length, get_or, sym, ap, subst, ◌∙◌, arith}
use Rattle.std.proofs.lemmas.Bool.{cases_lt}
use Rattle.std.proofs.lemmas.Grind.{same_number_lists}
use Rattle.topology_stack.specs.Tree.{Tree, walk, IsBusTree}
use Rattle.topology_stack.specs.Elect.{elected}
use Rattle.topology_stack.specs.OneAnswer.{NoListHasTwoTrees}
use Rattle.topology_map.proofs.Lemmas.{one_crc}
use Rattle.speed_map.specs.Path.{path_speed}
use Rattle.speed_map.specs.Rows.{cell, IsSpeed, AreRows}
use Rattle.speed_map.specs.SameBus.{ElectOneManager, HaveOneSpeedMap, HaveOneTopologyMap, BodiesAreSealedOnce}
use Rattle.speed_map.proofs.Unique.{one_path}

pub one-manager : NoListHasTwoTrees → ElectOneManager
one-manager one standard t u p q e = ap elected (one standard t u p q e)

-- ---- rows

one-speed : (t : Tree) (from to a b : ℕ) → IsBusTree t → from < length (walk t) →
    IsSpeed t from to a → IsSpeed t from to b → a ≡ b
one-speed t from to a b bus there x y =
    x.speed_is ∙ ap (path_speed t from) (one_path t from to x.ids y.ids bus there x.path y.path) ∙ sym y.speed_is

same-cell : (t : Tree) (rows other : List ℕ) (from to : ℕ) → IsBusTree t → AreRows t rows →
    AreRows t other → from < length (walk t) → to < 64 → cell rows from to ≡ cell other from to
same-cell t rows other from to bus x y there below = elim (cases_lt to (length (walk t))) [
  | inl inside ↦ one-speed t from to (cell rows from to) (cell other from to) bus there (x.speeds from to there inside) (y.speeds from to there inside)
  | inr past ↦ x.zeros from to there past below ∙ sym (y.zeros from to there past below)
]

pub one-rows : (t : Tree) (rows other : List ℕ) → IsBusTree t → AreRows t rows → AreRows t other →
    rows ≡ other
one-rows t rows other bus x y = same_number_lists rows other (x.size ∙ sym y.size) (λ k inside.
    let at : 64 * (k / 64) + k % 64 ≡ k = omega arith in
    subst (λ (i : ℕ). get_or rows i 0 ≡ get_or other i 0) at
    (same-cell t rows other (k / 64) (k % 64) bus x y (omega (arith, inside, x.size)) (omega arith)))

pub one-speed-map : NoListHasTwoTrees → HaveOneSpeedMap
one-speed-map one standard t u rows other p q e x y =
    one-rows t rows other p.bus x (subst (λ (s : Tree). AreRows s other) (sym (one standard t u p q e)) y)

-- ---- images

pub sealed-once : BodiesAreSealedOnce
sealed-once body image other x y =
    x.quads_are ∙ ap (λ (crc : ℕ). (2 ^ 16 * length body + crc) ∷ body) (one_crc body x.crc y.crc x.crc_is y.crc_is) ∙ sym y.quads_are

pub one-topology-map : HaveOneTopologyMap
one-topology-map generation nodes others list image other x y = sealed-once _ image other x.image y.image
