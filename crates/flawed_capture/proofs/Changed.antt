-- What comes of a list that is changed, or of its capture.
use Rattle.std.proofs.Common.{◌≤◌, ◌≡◌, ◌≢◌, ◌-◌, ◌%◌, ◌/◌, ◌+◌, ◌*◌, ◌<◌, ℕ, List, [], ◌∷◌, ◌++◌, length, take, slice_set, get_or, refl, arith, ap, subst, sym, ◌∙◌}
use Rattle.std.proofs.lemmas.List.{length-take-le}
use Rattle.quad_lanes.specs.Capture.{capture}
use Rattle.self_id.specs.declared.standard.Standard.{Standard}
use Rattle.topology_stack.specs.declared.fault.TreeFault.TheVariants.{Empty as NoPackets, AfterRoot as Behind}
use Rattle.topology_stack.specs.Tree.{emits}
use Rattle.capture_reading.specs.declared.fault.CaptureFault.TheVariants.{BadLength as BrokenPair, Tree as TreeRefused}
use Rattle.capture_reading.specs.Capture.{IsCaptureOf}
use Rattle.flawed_capture.specs.declared.flaw.Flaw.{Flaw}
use Rattle.flawed_capture.specs.declared.flaw.Flaw.TheVariants.{BadLength, BadInverse, NotSelfId, WrongId, BadOrder, Cut, TwoParents, Empty, TooFewChildren, TreesLeft, AfterRoot, NoRoot, TooMany}
use Rattle.flawed_capture.specs.Flaw.{HasFlaw, HasListFlaw, least_nodes}
use Rattle.flawed_capture.specs.Other.{IsOther}
use Rattle.flawed_capture.specs.Spoilt.{IsSpoiltList, IsSpoilt, ComesAt, IsListOfBus}
use Rattle.flawed_capture.proofs.First.{to_other_packet, to_other_node, to_other_order, to_cut}
use Rattle.flawed_capture.proofs.Slots.{to_two_parents, to_too_few}
use Rattle.flawed_capture.proofs.Rootless.{to_no_root, to_too_many}
use Rattle.flawed_capture.proofs.Bare.{leaves_trees}

-- bytes that end within a pair are refused for it
broken : (standard : Standard) (bytes : List ℕ) → length bytes % 8 ≢ 0 → HasFlaw standard bytes BadLength
broken standard bytes ends = record {
  fault = BrokenPair (length bytes / 8);
  refused = (ends, refl);
  kind = refl;
}

-- so they are if a capture is cut off within a pair
pub cut : (standard : Standard) (whole bytes : List ℕ) (at more count : ℕ) → more < 7 → at < count →
    length whole ≡ 8 * count → bytes ≡ take (8 * at + 1 + more) whole → HasFlaw standard bytes BadLength
cut standard whole bytes at more count few inside pairs is =
    let long : length bytes ≡ 8 * at + 1 + more = ap length is ∙ length-take-le (8 * at + 1 + more) whole (omega (arith, few, inside, pairs)) in
    broken standard bytes (λ e. omega (arith, e, long, few))

-- a list without packets is refused for that
pub no_packets : (standard : Standard) (flaw : Flaw) (list : List ℕ) → flaw ≡ Empty → list ≡ [] →
    HasListFlaw standard list flaw
no_packets standard flaw list is none = record { fault = NoPackets; refused = none; kind = is }

-- the capture of a list that is changed as for a flaw of a kind
pub of_spoilt : (flaw : Flaw) (list spoilt bytes : List ℕ) → flaw ≢ BadLength → flaw ≢ BadInverse →
    IsSpoiltList flaw list spoilt → bytes ≡ capture spoilt → IsSpoilt list bytes flaw
of_spoilt BadLength list spoilt bytes a b is e = absurd (a refl)
of_spoilt BadInverse list spoilt bytes a b is e = absurd (b refl)
of_spoilt NotSelfId list spoilt bytes a b is e = record { spoilt = spoilt; is_spoilt = is; parts = e }
of_spoilt WrongId list spoilt bytes a b is e = record { spoilt = spoilt; is_spoilt = is; parts = e }
of_spoilt BadOrder list spoilt bytes a b is e = record { spoilt = spoilt; is_spoilt = is; parts = e }
of_spoilt Cut list spoilt bytes a b is e = record { spoilt = spoilt; is_spoilt = is; parts = e }
of_spoilt TwoParents list spoilt bytes a b is e = record { spoilt = spoilt; is_spoilt = is; parts = e }
of_spoilt Empty list spoilt bytes a b is e = record { spoilt = spoilt; is_spoilt = is; parts = e }
of_spoilt TooFewChildren list spoilt bytes a b is e = record { spoilt = spoilt; is_spoilt = is; parts = e }
of_spoilt TreesLeft list spoilt bytes a b is e = record { spoilt = spoilt; is_spoilt = is; parts = e }
of_spoilt AfterRoot list spoilt bytes a b is e = record { spoilt = spoilt; is_spoilt = is; parts = e }
of_spoilt NoRoot list spoilt bytes a b is e = record { spoilt = spoilt; is_spoilt = is; parts = e }
of_spoilt TooMany list spoilt bytes a b is e = record { spoilt = spoilt; is_spoilt = is; parts = e }

-- a capture has the flaw that its list has
pub of_list : (standard : Standard) (flaw : Flaw) (list bytes : List ℕ) → IsCaptureOf list bytes →
    HasListFlaw standard list flaw → HasFlaw standard bytes flaw
of_list standard flaw list bytes said h = record {
  fault = TreeRefused h.fault;
  refused = (list, said, h.refused);
  kind = h.kind;
}

-- a list that goes on behind the root is refused for it
pub goes_on : (standard : Standard) (flaw : Flaw) (nodes at more : ℕ) (list spoilt : List ℕ) → flaw ≡ AfterRoot →
    IsListOfBus standard nodes list → (at + 1 ≡ length list → spoilt ≡ list ++ more ∷ []) → ComesAt standard flaw list at →
    HasListFlaw standard spoilt flaw
goes_on standard flaw nodes at more list spoilt is bus behind comes =
    let last : at + 1 ≡ length list = subst (λ (f : Flaw). ComesAt standard f list at) is comes in
    record {
      fault = Behind (length (emits bus.t));
      refused = (
        bus.t,
        more ∷ [],
        bus.bus,
        behind last ∙ ap (λ (l : List ℕ). l ++ more ∷ []) (sym bus.emitted),
        omega arith,
        refl,
      );
      kind = is;
    }

-- a flaw for which one quadlet is another
pub other_one : (standard : Standard) (flaw : Flaw) (nodes at quad : ℕ) (list spoilt : List ℕ) →
    flaw ≢ BadLength → flaw ≢ BadInverse → flaw ≢ Empty → flaw ≢ Cut → flaw ≢ AfterRoot → flaw ≢ TooMany →
    IsListOfBus standard nodes list → IsOther flaw standard (get_or list at 0) quad → spoilt ≡ slice_set list at quad →
    ComesAt standard flaw list at → HasListFlaw standard spoilt flaw
other_one standard BadLength nodes at quad list spoilt a b c d e f bus other is comes = absurd (a refl)
other_one standard BadInverse nodes at quad list spoilt a b c d e f bus other is comes = absurd (b refl)
other_one standard Empty nodes at quad list spoilt a b c d e f bus other is comes = absurd (c refl)
other_one standard Cut nodes at quad list spoilt a b c d e f bus other is comes = absurd (d refl)
other_one standard AfterRoot nodes at quad list spoilt a b c d e f bus other is comes = absurd (e refl)
other_one standard TooMany nodes at quad list spoilt a b c d e f bus other is comes = absurd (f refl)
other_one standard NoRoot nodes at quad list spoilt a b c d e f bus other is comes = to_no_root standard nodes at quad list spoilt bus comes is other
other_one standard NotSelfId nodes at quad list spoilt a b c d e f bus other is comes =
    to_other_packet standard nodes list spoilt quad bus (is ∙ ap (λ (k : ℕ). slice_set list k quad) comes)
    (subst (λ (k : ℕ). IsOther NotSelfId standard (get_or list k 0) quad) comes other)
other_one standard WrongId nodes at quad list spoilt a b c d e f bus other is comes =
    to_other_node standard nodes list spoilt quad bus (is ∙ ap (λ (k : ℕ). slice_set list k quad) comes)
    (subst (λ (k : ℕ). IsOther WrongId standard (get_or list k 0) quad) comes other)
other_one standard BadOrder nodes at quad list spoilt a b c d e f bus other is comes =
    to_other_order standard nodes list spoilt quad bus (is ∙ ap (λ (k : ℕ). slice_set list k quad) comes)
    (subst (λ (k : ℕ). IsOther BadOrder standard (get_or list k 0) quad) comes other)
other_one standard TwoParents nodes at quad list spoilt a b c d e f bus other is comes =
    to_two_parents standard nodes list spoilt quad bus (is ∙ ap (λ (k : ℕ). slice_set list k quad) comes)
    (subst (λ (k : ℕ). IsOther TwoParents standard (get_or list k 0) quad) comes other)
other_one standard TooFewChildren nodes at quad list spoilt a b c d e f bus other is comes =
    to_too_few standard nodes list spoilt quad bus (is ∙ ap (λ (k : ℕ). slice_set list k quad) comes)
    (subst (λ (k : ℕ). IsOther TooFewChildren standard (get_or list k 0) quad) comes other)
other_one standard TreesLeft nodes at quad list spoilt a b c d e f bus other is comes =
    subst (λ (l : List ℕ). HasListFlaw standard l TreesLeft) (sym is) (comes quad other)

-- one quadlet is another, and the list ends after it
ends : (standard : Standard) (nodes at quad : ℕ) (list spoilt : List ℕ) →
    IsListOfBus standard nodes list → spoilt ≡ take (at + 1) (slice_set list at quad) →
    IsOther Cut standard (get_or list at 0) quad → ComesAt standard Cut list at → HasListFlaw standard spoilt Cut
ends standard nodes at quad list spoilt bus is other comes =
    to_cut standard nodes list (slice_set list 0 quad) quad bus refl spoilt
    (is ∙ ap (λ (k : ℕ). take (k + 1) (slice_set list k quad)) comes)
    (subst (λ (k : ℕ). IsOther Cut standard (get_or list k 0) quad) comes other)

pub other_end : (standard : Standard) (flaw : Flaw) (nodes at quad : ℕ) (list spoilt : List ℕ) → flaw ≡ Cut →
    IsListOfBus standard nodes list → spoilt ≡ take (at + 1) (slice_set list at quad) →
    IsOther flaw standard (get_or list at 0) quad → ComesAt standard flaw list at → HasListFlaw standard spoilt flaw
other_end standard flaw nodes at quad list spoilt is bus parts =
    subst (λ (f : Flaw). IsOther f standard (get_or list at 0) quad → ComesAt standard f list at → HasListFlaw standard spoilt f) (sym is)
    (ends standard nodes at quad list spoilt bus parts)

-- one quadlet is another, and one more follows
both : (standard : Standard) (nodes at quad more : ℕ) (list spoilt : List ℕ) →
    IsListOfBus standard nodes list → spoilt ≡ slice_set list at quad ++ more ∷ [] → 63 ≤ nodes →
    IsOther TooMany standard (get_or list at 0) quad → ComesAt standard TooMany list at → HasListFlaw standard spoilt TooMany
both standard nodes at quad more list spoilt bus is enough other comes =
    to_too_many standard nodes at quad list (slice_set list at quad) bus comes refl other more spoilt enough is

pub other_both : (standard : Standard) (flaw : Flaw) (nodes at quad more : ℕ) (list spoilt : List ℕ) → flaw ≡ TooMany →
    IsListOfBus standard nodes list → spoilt ≡ slice_set list at quad ++ more ∷ [] → least_nodes flaw ≤ nodes →
    IsOther flaw standard (get_or list at 0) quad → ComesAt standard flaw list at → HasListFlaw standard spoilt flaw
other_both standard flaw nodes at quad more list spoilt is bus parts =
    subst (λ (f : Flaw). least_nodes f ≤ nodes → IsOther f standard (get_or list at 0) quad → ComesAt standard f list at → HasListFlaw standard spoilt f) (sym is)
    (both standard nodes at quad more list spoilt bus parts)

-- a bus with enough nodes has a place at which a flaw comes
pub some_place : (standard : Standard) (flaw : Flaw) (nodes : ℕ) (list : List ℕ) → IsListOfBus standard nodes list →
    least_nodes flaw ≤ nodes → 0 < length list → (at : ℕ) × (at < length list) × ComesAt standard flaw list at
some_place standard BadLength nodes list bus enough some = (0, some, tt)
some_place standard BadInverse nodes list bus enough some = (0, some, tt)
some_place standard NotSelfId nodes list bus enough some = (0, some, refl)
some_place standard WrongId nodes list bus enough some = (0, some, refl)
some_place standard BadOrder nodes list bus enough some = (0, some, refl)
some_place standard Cut nodes list bus enough some = (0, some, refl)
some_place standard TwoParents nodes list bus enough some = (0, some, refl)
some_place standard TooFewChildren nodes list bus enough some = (0, some, refl)
some_place standard TreesLeft nodes list bus enough some = leaves_trees standard nodes list bus enough
some_place standard Empty nodes list bus enough some = (0, some, tt)
some_place standard AfterRoot nodes list bus enough some = (length list - 1, omega (arith, some), omega (arith, some))
some_place standard NoRoot nodes list bus enough some = (length list - 1, omega (arith, some), omega (arith, some))
some_place standard TooMany nodes list bus enough some = (length list - 1, omega (arith, some), omega (arith, some))
