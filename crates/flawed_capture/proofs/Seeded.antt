-- What a seed makes, step by step.
use Rattle.std.proofs.Common.{◌≡◌, ◌≢◌, ◌+◌, ◌-◌, ◌==◌, ◌%◌, ℕ, suc, Bool, List, [], ◌∷◌, ◌++◌, slice_index, length, refl, ap, ◌∙◌, arith}
use Rattle.rand_pcg.specs.Lcg.{Lcg}
use Rattle.quad_lanes.specs.Capture.{capture}
use Rattle.self_id.specs.declared.standard.Standard.{Standard}
use Rattle.flawed_capture.specs.declared.flaw.Flaw.{Flaw}
use Rattle.flawed_capture.specs.declared.flaw.Flaw.TheVariants.{BadLength, BadInverse, NotSelfId, WrongId, BadOrder, Cut, TwoParents, Empty, TooFewChildren, TreesLeft, AfterRoot, NoRoot, TooMany}
use Rattle.flawed_capture.specs.declared.made.Plan.{Plan}
use Rattle.self_id.specs.declared.node.PortStatus.{PortStatus}
use Rattle.flawed_capture.specs.declared.node.Links.{Links}
use Rattle.flawed_capture.specs.Draws.{word, behind, behind_all}
use Rattle.flawed_capture.specs.Other.{other_by}
use Rattle.flawed_capture.specs.SeededNode.{Slots, status, without, with_slot, first_slots, slots_of, group_by}
use Rattle.flawed_capture.specs.SeededBus.{Made, children_of, words_of, with_node, first_nodes}
use Rattle.flawed_capture.specs.SeededFlaw.{list_by, bytes_by, first_place, tried}

-- what one node more makes of a list
pub one_more : (plan : Plan) (id waiting children : ℕ) (is_root : Bool) (old between new : Lcg)
    (list group longer : List ℕ) (m : Made) →
    is_root ≡ (id + 1 == plan.nodes) → list ≡ m.list → waiting ≡ m.waiting → old ≡ m.words →
    children ≡ children_of plan is_root waiting old → between ≡ words_of is_root old →
    group ≡ group_by plan.gap id (slots_of plan.standard children is_root between) →
    new ≡ behind (slots_of plan.standard children is_root between).words →
    longer ≡ list ++ group →
    (longer ≡ (with_node plan id m).list) × (waiting + 1 - children ≡ (with_node plan id m).waiting)
    × (new ≡ (with_node plan id m).words)
unfolding with_node
one_more plan id waiting children is_root old between new list group longer m root a b c d e f g h = (
  rw (h, f, e, d, c, b, a, root) refl,
  rw (d, c, b, root) refl,
  rw (g, e, d, c, b, root) refl,
)

-- one slot, node and word more
pub slots_more : (ports : ℕ) (links : Links) (g : Lcg) (n : ℕ) →
    with_slot (ports - n) (first_slots ports links g n) ≡ first_slots ports links g (n + 1)
slots_more ports links g n = let e : suc n ≡ n + 1 = omega arith in ap (first_slots ports links g) e

pub nodes_more : (plan : Plan) (g : Lcg) (n : ℕ) →
    with_node plan n (first_nodes plan g n) ≡ first_nodes plan g (n + 1)
nodes_more plan g n = let e : suc n ≡ n + 1 = omega arith in ap (first_nodes plan g) e

pub words_more : (n : ℕ) (g : Lcg) → behind (behind_all n g) ≡ behind_all (n + 1) g
words_more n g = let e : suc n ≡ n + 1 = omega arith in ap (λ (k : ℕ). behind_all k g) e

-- what one slot more makes of slots
pub one_slot : (left : ℕ) (links after : Links) (old new : Lcg) (s : PortStatus) (slots longer : List PortStatus) (m : Slots) →
    slots ≡ m.slots → links ≡ m.links → old ≡ m.words →
    s ≡ status left links (word old) → after ≡ without (status left links (word old)) links → new ≡ behind old →
    longer ≡ slots ++ s ∷ [] →
    (longer ≡ (with_slot left m).slots) × (after ≡ (with_slot left m).links) × (new ≡ (with_slot left m).words)
unfolding with_slot
one_slot left links after old new s slots longer m a b c d e f g = (
  rw (g, d, c, b, a) refl,
  rw (e, c, b) refl,
  rw (f, c) refl,
)

-- the bytes of a change that changes the list
pub of_list_by : (standard : Standard) (flaw : Flaw) (list : List ℕ) (at w : ℕ) →
    flaw ≢ BadLength → flaw ≢ BadInverse →
    capture (list_by flaw list at (other_by flaw standard (slice_index list at) w) w)
    ≡ bytes_by standard flaw list at w
unfolding bytes_by
of_list_by standard BadLength list at w a b = absurd (a refl)
of_list_by standard BadInverse list at w a b = absurd (b refl)
of_list_by standard NotSelfId list at w a b = refl
of_list_by standard WrongId list at w a b = refl
of_list_by standard BadOrder list at w a b = refl
of_list_by standard Cut list at w a b = refl
of_list_by standard TwoParents list at w a b = refl
of_list_by standard Empty list at w a b = refl
of_list_by standard TooFewChildren list at w a b = refl
of_list_by standard TreesLeft list at w a b = refl
of_list_by standard AfterRoot list at w a b = refl
of_list_by standard NoRoot list at w a b = refl
of_list_by standard TooMany list at w a b = refl

-- the bytes that are tried at a step
pub tried_here : (standard : Standard) (flaw : Flaw) (list : List ℕ) (g words : Lcg) (step first w : ℕ) (bytes : List ℕ) →
    first ≡ first_place (length list) (word g) → words ≡ behind_all step (behind g) → w ≡ word words →
    bytes ≡ bytes_by standard flaw list ((first + step) % length list) w →
    bytes ≡ tried standard flaw list g step
unfolding tried
tried_here standard flaw list g words step first w bytes a b c e =
    let word_is = c ∙ ap word b in
    e ∙ ap (λ (f : ℕ). bytes_by standard flaw list ((f + step) % length list) w) a
    ∙ ap (λ (x : ℕ). bytes_by standard flaw list ((first_place (length list) (word g) + step) % length list) x) word_is
