-- A capture has one reading.
use Rattle.std.proofs.Common.{◌⊎◌, inl, inr, Bool, true, false, eqb, refl, ◌/◌, ◌≡◌, ℕ, ◌%◌, ◌<◌, List, length, Option, Some, None, sym, ap, subst, ◌∙◌, arith}
use Rattle.std.specs.List.{All}
use Rattle.std.proofs.lemmas.Bool.{eqb-true, eqb-false}
use Rattle.std.proofs.lemmas.Option.{same_Some}
use Rattle.quad_lanes.specs.Capture.{CapturesAreWhole, CapturesAreGood, CapturesAreReadBack, GoodPairsAreACapture}
use Rattle.quad_lanes.specs.Pairs.{quads_of, firsts, first_bad_pair}
use Rattle.topology_stack.specs.declared.fault.TreeFault.{TreeFault}
use Rattle.self_id.specs.declared.standard.Standard.{Standard}
use Rattle.topology_stack.specs.Tree.{Tree, IsBusTreeOf, emits}
use Rattle.topology_stack.specs.OneAnswer.{EachListHasATreeOrAFault, NoListHasTwoTrees, NoListHasATreeAndAFault, NoListHasTwoFaults}
use Rattle.topology_stack.specs.Refused.{Refused}
use Rattle.capture_reading.specs.declared.fault.CaptureFault.{CaptureFault}
use Rattle.capture_reading.specs.declared.fault.CaptureFault.TheVariants.{BadLength, BadInverse, Tree as TreeRefused}
use Rattle.capture_reading.specs.Capture.{IsCaptureOf, Spells, CaptureRefused}
use Rattle.capture_reading.specs.OneReading.{EachCaptureHasATreeOrAFault, NoCaptureHasTwoTrees, NoCaptureHasATreeAndAFault, NoCaptureHasTwoFaults}
use Rattle.capture_reading.proofs.Reading.{is_capture}

-- what is known of the captures of quadlets
pub record ReadsBack : Type 0 where
  pub whole : CapturesAreWhole
  pub good : CapturesAreGood
  pub same : CapturesAreReadBack
  pub all : GoodPairsAreACapture

-- what is known of the lists of quadlets
pub record OneAnswer : Type 0 where
  pub some : EachListHasATreeOrAFault
  pub trees : NoListHasTwoTrees
  pub tree : NoListHasATreeAndAFault
  pub fault : NoListHasTwoFaults

-- a capture is that of one list
same_list : ReadsBack → (quads others bytes : List ℕ) → IsCaptureOf quads bytes →
    IsCaptureOf others bytes → quads ≡ others
same_list back quads others bytes h k =
    sym (back.same quads h.fit) ∙ ap (λ (b : List ℕ). firsts (quads_of b)) (sym h.bytes_are ∙ k.bytes_are) ∙ back.same others k.fit

-- its bytes are whole pairs
is_whole : ReadsBack → (quads bytes : List ℕ) → IsCaptureOf quads bytes → length bytes % 8 ≡ 0
is_whole back quads bytes h = omega (arith, ap length h.bytes_are, back.whole quads)

-- and none of them is bad
is_good : ReadsBack → (quads bytes : List ℕ) → IsCaptureOf quads bytes →
    first_bad_pair (quads_of bytes) ≡ None
is_good back quads bytes h = ap (λ (b : List ℕ). first_bad_pair (quads_of b)) h.bytes_are ∙ back.good quads h.fit

-- so it has no fault of the bytes
not_bad : ReadsBack → (quads bytes : List ℕ) (pair : ℕ) → IsCaptureOf quads bytes →
    first_bad_pair (quads_of bytes) ≡ Some pair → ⊥
not_bad back quads bytes pair h bad = let good = is_good back quads bytes h in cc

pub one_tree : ReadsBack → OneAnswer → NoCaptureHasTwoTrees
one_tree back lists standard bytes t u a b = lists.trees standard t u a.bus b.bus (same_list back _ _ bytes a.captured b.captured)

pub apart : ReadsBack → OneAnswer → NoCaptureHasATreeAndAFault
apart back lists standard bytes t (BadLength pair) a r = r.0 (is_whole back _ bytes a.captured)
apart back lists standard bytes t (BadInverse pair) a r = not_bad back _ bytes pair a.captured r.1
apart back lists standard bytes t (TreeRefused f) a (quads, captured, refused) =
    lists.tree standard t f a.bus (subst (λ (l : List ℕ). Refused standard l f) (same_list back _ _ bytes captured a.captured) refused)

pub one_fault : ReadsBack → OneAnswer → NoCaptureHasTwoFaults
one_fault back lists standard bytes (BadLength p) (BadLength q) a b = ap (λ (n : ℕ). BadLength n) (a.1 ∙ sym b.1)
one_fault back lists standard bytes (BadLength p) (BadInverse q) a b = absurd (a.0 b.0)
one_fault back lists standard bytes (BadLength p) (TreeRefused g) a (quads, captured, refused) = absurd (a.0 (is_whole back quads bytes captured))
one_fault back lists standard bytes (BadInverse p) (BadLength q) a b = absurd (b.0 a.0)
one_fault back lists standard bytes (BadInverse p) (BadInverse q) a b = ap (λ (n : ℕ). BadInverse n) (same_Some p q (sym a.1 ∙ b.1))
one_fault back lists standard bytes (BadInverse p) (TreeRefused g) a (quads, captured, refused) = absurd (not_bad back quads bytes p captured a.1)
one_fault back lists standard bytes (TreeRefused f) (BadLength q) (quads, captured, refused) b = absurd (b.0 (is_whole back quads bytes captured))
one_fault back lists standard bytes (TreeRefused f) (BadInverse q) (quads, captured, refused) b = absurd (not_bad back quads bytes q captured b.1)
one_fault back lists standard bytes (TreeRefused f) (TreeRefused g) (quads, captured, refused) (others, again, too) =
    ap (λ (h : TreeFault). TreeRefused h) (lists.fault standard others f g (subst (λ (l : List ℕ). Refused standard l f) (same_list back quads others bytes captured again) refused) too)

-- the reading of bytes that are the capture of a list
read_list : (standard : Standard) (bytes quads : List ℕ) → IsCaptureOf quads bytes →
    ((t : Tree) × IsBusTreeOf standard t × (emits t ≡ quads)) ⊎ ((f : TreeFault) × Refused standard quads f) →
    ((t : Tree) × Spells standard bytes t) ⊎ ((f : CaptureFault) × CaptureRefused standard bytes f)
read_list standard bytes quads captured (inl (t, bus, is)) =
    inl (t, record { bus = bus; captured = subst (λ (l : List ℕ). IsCaptureOf l bytes) (sym is) captured })
read_list standard bytes quads captured (inr (f, is)) = inr (TreeRefused f, (quads, captured, is))

-- that of whole pairs, by the first bad one of them
read_pairs : (standard : Standard) → ReadsBack → OneAnswer → (bytes : List ℕ) (bad : Option ℕ) →
    All (λ b. b < 256) bytes →
    length bytes % 8 ≡ 0 → first_bad_pair (quads_of bytes) ≡ bad →
    ((t : Tree) × Spells standard bytes t) ⊎ ((f : CaptureFault) × CaptureRefused standard bytes f)
read_pairs standard back lists bytes None fit whole good =
    let quads = firsts (quads_of bytes) in
    read_list standard bytes quads (is_capture bytes quads fit refl (back.all bytes fit whole good)) (lists.some standard quads)
read_pairs standard back lists bytes (Some pair) fit whole bad = inr (BadInverse pair, (whole, bad))

pub some_reading : ReadsBack → OneAnswer → EachCaptureHasATreeOrAFault
some_reading back lists standard bytes fit =
    elim (eqb (length bytes % 8) 0) as (λ (v : Bool). eqb (length bytes % 8) 0 ≡ v → ((t : Tree) × Spells standard bytes t) ⊎ ((f : CaptureFault) × CaptureRefused standard bytes f)) [
      | true ↦ λ e. read_pairs standard back lists bytes (first_bad_pair (quads_of bytes)) fit (eqb-true _ _ e) refl
      | false ↦ λ e. inr (BadLength (length bytes / 8), (eqb-false _ _ e, refl))
    ] refl
