-- A list is judged as its capture is.
use Rattle.std.proofs.Common.{◌≡◌, ◌∙◌, ℕ, ◌%◌, ◌^◌, ◌<◌, Option, Some, None, List, [], ◌∷◌, length, refl, sym, ap, subst, arith}
use Rattle.std.specs.List.{All, AllByRecursion}
use Rattle.std.proofs.lemmas.List.Elements.{All-cons, All-nil, recursion_from_All}
use Rattle.quad_lanes.specs.Capture.{capture, CapturesAreWhole, CapturesAreGood, CapturesAreReadBack, GoodPairsAreACapture}
use Rattle.quad_lanes.specs.Pairs.{bytes_of, quads_of, firsts, first_bad_pair}
use Rattle.quad_lanes.proofs.Lemmas.{fit_firsts, quads-bytes, length-bytes_of}
use Rattle.self_id.specs.declared.standard.Standard.{Standard}
use Rattle.topology_stack.specs.Tree.{emits}
use Rattle.topology_stack.specs.declared.fault.TreeFault.{TreeFault}
use Rattle.topology_stack.specs.Refused.{Refused}
use Rattle.log_line.proofs.Lemmas.{Fit}
use Rattle.log_line.specs.declared.line.Origin.{Origin}
use Rattle.log_line.specs.declared.line.Origin.TheVariants.{Controller, Core}
use Rattle.capture_reading.specs.declared.fault.CaptureFault.TheVariants.{BadLength, BadInverse, Tree as OfTree}
use Rattle.capture_reading.specs.Capture.{IsCaptureOf, Spells}
use Rattle.reset_list.specs.Hear.{AreQuads, IsHeard}
use Rattle.reset_list.specs.Judged.{capture_by, ListsAreHeardAsRead, ListsAreRefusedAsRead}

abbrev pub Fits : List ℕ → Type 0
Fits list = All (λ q. q < 2 ^ 32) list

pub all_fit : (list : List ℕ) → Fit list → Fits list
all_fit [] fit = All-nil (λ q. q < 2 ^ 32)
all_fit (q ∷ list) fit = All-cons (λ x. x < 2 ^ 32) q list fit.0 (all_fit list fit.1)

-- what is known of captures
pub record ReadBack : Type 0 where
  pub whole : CapturesAreWhole
  pub good : CapturesAreGood
  pub same : CapturesAreReadBack
  pub all : GoodPairsAreACapture

bytes_fit : (quads : List ℕ) → AllByRecursion (λ b. b < 256) (bytes_of quads)
bytes_fit [] = tt
bytes_fit (q ∷ quads) = (omega arith, (omega arith, (omega arith, (omega arith, bytes_fit quads))))

all_of : (bytes : List ℕ) → AllByRecursion (λ b. b < 256) bytes → All (λ b. b < 256) bytes
all_of [] fit = All-nil (λ b. b < 256)
all_of (b ∷ bytes) fit = All-cons (λ x. x < 256) b bytes fit.0 (all_of bytes fit.1)

firsts_fit : (list : List ℕ) → Fits list → Fits (firsts list)
firsts_fit list fit =
    subst (λ (l : List ℕ). Fits (firsts l)) (quads-bytes list (recursion_from_All _ _ fit)) (fit_firsts (bytes_of list) (bytes_fit list))

module _ (known : ReadBack) where
  -- a capture has the quadlets of one list
  one_list : (a b : List ℕ) → Fits a → Fits b → capture a ≡ capture b → a ≡ b
  one_list a b f g e =
      sym (known.same a f) ∙ (ap (λ (bytes : List ℕ). firsts (quads_of bytes)) e ∙ known.same b g)

  -- the quadlets of a list, as those of its capture
  of_list : (origin : Origin) (list quads : List ℕ) → Fits list → AreQuads origin list quads →
      IsCaptureOf quads (capture_by origin list)
  of_list Core list quads fit are =
      record { fit = subst Fits (sym are) fit; bytes_are = ap capture (sym are) }
  of_list Controller list quads fit are =
      let back = quads-bytes list (recursion_from_All _ _ fit) in
      let long = length-bytes_of list in
      let good : first_bad_pair (quads_of (bytes_of list)) ≡ None = ap first_bad_pair back ∙ are.good in
      let whole : length (bytes_of list) % 8 ≡ 0 = omega (arith, long, are.whole) in
      record {
        fit = subst Fits (sym are.quads_are) (firsts_fit list fit);
        bytes_are = known.all (bytes_of list) (all_of (bytes_of list) (bytes_fit list)) whole good ∙ ap (λ (l : List ℕ). capture (firsts l)) back ∙ ap capture (sym are.quads_are);
      }

  of_capture : (origin : Origin) (list quads : List ℕ) → Fits list → IsCaptureOf quads (capture_by origin list) →
      AreQuads origin list quads
  of_capture Core list quads fit is = one_list quads list is.fit fit (sym is.bytes_are)
  of_capture Controller list quads fit is =
      let back = quads-bytes list (recursion_from_All _ _ fit) in
      let long = length-bytes_of list in
      let pairs = known.whole quads in
      let same : quads_of (capture quads) ≡ list = ap quads_of (sym is.bytes_are) ∙ back in
      let count : length (bytes_of list) ≡ length (capture quads) = ap length is.bytes_are in
      record {
        whole = omega (arith, long, pairs, count);
        good = ap first_bad_pair (sym same) ∙ known.good quads is.fit;
        quads_are = sym (known.same quads is.fit) ∙ ap firsts same;
      }

  pub heard : ListsAreHeardAsRead
  heard standard origin list t fit = (there, back)
    where
      there : IsHeard standard origin list t → Spells standard (capture_by origin list) t
      there (quads, are, bus, e) = record {
        bus = bus;
        captured = subst (λ (l : List ℕ). IsCaptureOf l (capture_by origin list)) (sym e) (of_list origin list quads fit are);
      }

      back : Spells standard (capture_by origin list) t → IsHeard standard origin list t
      back s = (emits t, of_capture origin list (emits t) fit s.captured, s.bus, refl)

  tree_there : (standard : Standard) (origin : Origin) (list : List ℕ) (f : TreeFault) → Fits list →
      (quads : List ℕ) × AreQuads origin list quads × Refused standard quads f →
      (quads : List ℕ) × IsCaptureOf quads (capture_by origin list) × Refused standard quads f
  tree_there standard origin list f fit (quads, are, r) = (quads, of_list origin list quads fit are, r)

  tree_back : (standard : Standard) (origin : Origin) (list : List ℕ) (f : TreeFault) → Fits list →
      (quads : List ℕ) × IsCaptureOf quads (capture_by origin list) × Refused standard quads f →
      (quads : List ℕ) × AreQuads origin list quads × Refused standard quads f
  tree_back standard origin list f fit (quads, is, r) = (quads, of_capture origin list quads fit is, r)

  no_pair : (found : Option ℕ) (pair : ℕ) → found ≡ None → found ≡ Some pair → ⊥
  no_pair found pair none some = cc

  pub refused : ListsAreRefusedAsRead
  refused standard Controller list (BadLength pair) fit =
      let long = length-bytes_of list in
      ((λ h. (λ e. h.0 (omega (arith, long, e)), omega (arith, long, h.1))), (λ h. (λ e. h.0 (omega (arith, long, e)), omega (arith, long, h.1))))
  refused standard Controller list (BadInverse pair) fit =
      let long = length-bytes_of list in
      let back = quads-bytes list (recursion_from_All _ _ fit) in
      let same : first_bad_pair (quads_of (bytes_of list)) ≡ first_bad_pair list = ap first_bad_pair back in
      ((λ h. (omega (arith, long, h.0), same ∙ h.1)), (λ h. (omega (arith, long, h.0), sym same ∙ h.1)))
  refused standard Core list (BadLength pair) fit =
      ((λ h. absurd h), (λ h. absurd (h.0 (let long = known.whole list in omega (arith, long)))))
  refused standard Core list (BadInverse pair) fit =
      ((λ h. absurd h), (λ h. absurd (no_pair _ pair (known.good list fit) h.1)))
  refused standard Controller list (OfTree f) fit = (tree_there standard Controller list f fit, tree_back standard Controller list f fit)
  refused standard Core list (OfTree f) fit = (tree_there standard Core list f fit, tree_back standard Core list f fit)
