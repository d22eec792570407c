-- What a reader of captures knows after one byte more, and at the end.
use Rattle.std.specs.Prelude.{IfOk, IsErrOf, ◌↔◌}
use Rattle.io_edges.specs.Told.{IfTold}
use Rattle.std.proofs.Common.{map, take, drop, get_or, Fits, w8, Result, Ok, Err, ◌≡◌, ℕ, zero, suc, ◌+◌, ◌*◌, ◌%◌, ◌^◌, ◌<◌, ◌≤◌, Bool, true, false, cond, List, [], ◌∷◌, ◌++◌, length, Option, Some, None, inl, inr, refl, sym, ap, subst, ◌∙◌, append_assoc, length-append, arith}
use Rattle.std.specs.List.{All, position_from}
use Rattle.std.proofs.lemmas.List.{nil_from_length}
use Rattle.std.proofs.lemmas.List.{append-nil, map-append}
use Rattle.std.proofs.lemmas.List.Elements.{All-append, All-cons, All-nil}
use Rattle.std.proofs.lemmas.Iterator.Adapters.{position_from-zero}
use Rattle.quad_lanes.specs.Capture.{GoodPairsAreACapture}
use Rattle.quad_lanes.specs.Pairs.{big_endian, quads_of, pairs, firsts, first_bad_pair, is_bad}
use Rattle.topology_stack.specs.declared.fault.TreeFault.{TreeFault}
use Rattle.topology_stack.specs.declared.fault.TreeStop.{TreeStop}
use Rattle.topology_stack.specs.declared.fault.TreeStop.TheVariants.{Fault as TreeFaulty, Memory as NoMemory}
use Rattle.topology_stack.specs.Answer.{IfFault as IfTreeFault}
use Rattle.topology_stack.specs.OneAnswer.{EachListHasATreeOrAFault}
use Rattle.topology_stack.specs.Refused.{Refused}
use Rattle.self_id.specs.declared.standard.Standard.TheVariants.{Ieee2000}
use Rattle.topology_stack.specs.Tree.{Tree, IsBusTreeOf, emits}
use Rattle.capture_reading.specs.Capture.{IsCaptureOf, Spells, CaptureRefused}
use Rattle.capture_reading.specs.Stop.{of_tree, IfFault, IfMemory}
use Rattle.capture_reading.specs.declared.fault.CaptureStop.{CaptureStop}
use Rattle.capture_reading.specs.declared.fault.CaptureStop.TheVariants.{Fault, Memory}
use Rattle.bus_cli.specs.codings.Reading.{IsReadAs, SparesMemory}
use Rattle.bus_cli.specs.codings.Late.{Late, IsListOf}
use Rattle.bus_cli.specs.codings.Pieces.{Pieces, HoldsExactly, bad_after}
use Rattle.capture_reading.proofs.Lemmas.{is_capture}

-- ---- lists of whole quadlets and whole pairs

quads_of-append : (k : ℕ) (xs ys : List ℕ) → length xs ≡ 4 * k →
    quads_of (xs ++ ys) ≡ quads_of xs ++ quads_of ys
quads_of-append zero [] ys e = refl
quads_of-append (suc k) (a ∷ b ∷ c ∷ d ∷ xs) ys e = ap (λ (l : List ℕ). big_endian a b c d ∷ l) (quads_of-append k xs ys (omega (arith, e)))
quads_of-append zero (x ∷ xs) ys e = absurd (omega (arith, e))
quads_of-append (suc k) _ ys e = absurd (omega (arith, e))

length-quads : (k : ℕ) (xs : List ℕ) → length xs ≡ 4 * k → length (quads_of xs) ≡ k
length-quads zero [] e = refl
length-quads (suc k) (a ∷ b ∷ c ∷ d ∷ xs) e = ap suc (length-quads k xs (omega (arith, e)))
length-quads zero (x ∷ xs) e = absurd (omega (arith, e))
length-quads (suc k) _ e = absurd (omega (arith, e))

pairs-append : (k : ℕ) (xs ys : List ℕ) → length xs ≡ 2 * k →
    pairs (xs ++ ys) ≡ pairs xs ++ pairs ys
pairs-append zero [] ys e = refl
pairs-append (suc k) (a ∷ b ∷ xs) ys e = ap (λ (l : List (ℕ × ℕ)). (a, b) ∷ l) (pairs-append k xs ys (omega (arith, e)))
pairs-append zero (x ∷ xs) ys e = absurd (omega (arith, e))
pairs-append (suc k) _ ys e = absurd (omega (arith, e))

length-pairs : (k : ℕ) (xs : List ℕ) → length xs ≡ 2 * k → length (pairs xs) ≡ k
length-pairs zero [] e = refl
length-pairs (suc k) (a ∷ b ∷ xs) e = ap suc (length-pairs k xs (omega (arith, e)))
length-pairs zero (x ∷ xs) e = absurd (omega (arith, e))
length-pairs (suc k) _ e = absurd (omega (arith, e))

-- the first bad pair of a list with one pair more
by_test : (bad : Bool) (k n : ℕ) (more rest : Option ℕ) (x : ℕ × ℕ) → more ≡ bad_after rest x n →
    cond bad (Some k) more ≡ bad_after (cond bad (Some k) rest) x n
by_test true k n more rest x e = refl
by_test false k n more rest x e = e

bad-snoc : (k n : ℕ) (xs : List (ℕ × ℕ)) (x : ℕ × ℕ) → n ≡ k + length xs →
    position_from is_bad k (xs ++ x ∷ []) ≡ bad_after (position_from is_bad k xs) x n
bad-snoc k n [] x e = let same : n ≡ k = omega (arith, e) in rw same refl
bad-snoc k n (y ∷ xs) x e = by_test (is_bad y) k n (position_from is_bad (k + 1) (xs ++ x ∷ [])) (position_from is_bad (k + 1) xs) x (bad-snoc (k + 1) n xs x (omega (arith, e)))

-- ---- one byte more

more_fit : (bytes more : List ℕ) → All (λ b. b < 256) bytes → All (λ b. b < 256) more →
    All (λ b. b < 256) (bytes ++ more)
more_fit bytes more fit lt = All-append (λ b. b < 256) bytes more fit lt

pub byte_fits : (byte : ℕ) → byte < 256 → All (λ b. b < 256) (byte ∷ [])
byte_fits byte lt = All-cons (λ b. b < 256) byte [] lt (All-nil (λ b. b < 256))

-- which doesn't make a pair whole
pub holds_byte : (r : Pieces) (byte : ℕ) (bytes rest : List ℕ) → HoldsExactly r bytes → byte < 256 →
    rest ≡ r.rest ++ byte ∷ [] →
    HoldsExactly (record { rest = rest; pairs = r.pairs; first_bad = r.first_bad; packets = r.packets }) (bytes ++ byte ∷ [])
holds_byte r byte bytes rest h lt is = record {
  whole = h.whole;
  split = ap (λ (x : List ℕ). x ++ byte ∷ []) h.split ∙ append_assoc h.whole r.rest (byte ∷ []) ∙ ap (λ (x : List ℕ). h.whole ++ x) (sym is);
  even = h.even;
  bad = h.bad;
  list = h.list;
  fit = more_fit bytes (byte ∷ []) h.fit (byte_fits byte lt);
}

-- bytes more that make a pair whole
pub holds_pair : (r s : Pieces) (first second : ℕ) (bytes more eight : List ℕ) →
    HoldsExactly r bytes → All (λ b. b < 256) more → length (bytes ++ more) ≤ 2 ^ 60 →
    eight ≡ r.rest ++ more → length eight ≡ 8 → quads_of eight ≡ first ∷ second ∷ [] → s.rest ≡ [] → (r.pairs < 2 ^ 60 → s.pairs ≡ r.pairs + 1) →
    s.first_bad ≡ bad_after r.first_bad (first, second) r.pairs → ((l : List ℕ) → IsListOf r.packets l → IsListOf s.packets (l ++ first ∷ [])) → HoldsExactly s (bytes ++ more)
holds_pair r s first second bytes more eight h lt small is eight_long two none counted bad list =
    let size : length bytes ≡ 8 * r.pairs + length r.rest = ap length h.split ∙ length-append h.whole r.rest ∙ omega (arith, h.even) in
    let few : r.pairs < 2 ^ 60 = omega (arith, small, length-append bytes more) in
    let quads : quads_of (h.whole ++ eight) ≡ quads_of h.whole ++ first ∷ second ∷ [] = quads_of-append (2 * r.pairs) h.whole eight (omega (arith, h.even)) ∙ ap (λ (x : List ℕ). quads_of h.whole ++ x) two in
    let half : length (quads_of h.whole) ≡ 2 * r.pairs = length-quads (2 * r.pairs) h.whole (omega (arith, h.even)) in
    let all : pairs (quads_of (h.whole ++ eight)) ≡ pairs (quads_of h.whole) ++ (first, second) ∷ [] = ap pairs quads ∙ pairs-append r.pairs (quads_of h.whole) (first ∷ second ∷ []) half in
    let count : r.pairs ≡ 0 + length (pairs (quads_of h.whole)) = omega (arith, length-pairs r.pairs (quads_of h.whole) half) in
    let bad_now : first_bad_pair (quads_of (h.whole ++ eight)) ≡ bad_after (first_bad_pair (quads_of h.whole)) (first, second) r.pairs =
    position_from-zero is_bad (pairs (quads_of (h.whole ++ eight))) ∙ ap (position_from is_bad 0) all ∙ bad-snoc 0 r.pairs (pairs (quads_of h.whole)) (first, second) count
    ∙ ap (λ (b : Option ℕ). bad_after b (first, second) r.pairs) (sym (position_from-zero is_bad (pairs (quads_of h.whole))))
    in
    let firsts_now : firsts (quads_of (h.whole ++ eight)) ≡ firsts (quads_of h.whole) ++ first ∷ [] = ap (map (λ (p : ℕ × ℕ). p.0)) all ∙ map-append (λ (p : ℕ × ℕ). p.0) (pairs (quads_of h.whole)) ((first, second) ∷ []) in
    record {
      whole = h.whole ++ eight;
      split = ap (λ (x : List ℕ). x ++ more) h.split ∙ append_assoc h.whole r.rest more ∙ ap (λ (x : List ℕ). h.whole ++ x) (sym is) ∙ sym (append-nil (h.whole ++ eight)) ∙ ap (λ (x : List ℕ). (h.whole ++ eight) ++ x) (sym none);
      even = omega (arith, length-append h.whole eight, h.even, counted few);
      bad = bad ∙ ap (λ (b : Option ℕ). bad_after b (first, second) r.pairs) h.bad ∙ sym bad_now;
      list = subst (IsListOf s.packets) (sym firsts_now) (list (firsts (quads_of h.whole)) h.list);
      fit = more_fit bytes more h.fit lt;
    }

-- ---- the end

-- whole pairs, none of them bad, are the capture of a list for which the reader of packets stands
pub captured : GoodPairsAreACapture → (r : Pieces) (bytes : List ℕ) → HoldsExactly r bytes →
    length r.rest ≡ 0 → r.first_bad ≡ None →
    IsCaptureOf (firsts (quads_of bytes)) bytes × IsListOf r.packets (firsts (quads_of bytes))
captured good r bytes h none no_bad =
    let whole : bytes ≡ h.whole = h.split ∙ ap (λ (x : List ℕ). h.whole ++ x) (nil_from_length r.rest none) ∙ append-nil h.whole in
    let even : length bytes % 8 ≡ 0 = omega (arith, ap length whole, h.even) in
    let none_bad : first_bad_pair (quads_of bytes) ≡ None = ap (λ (x : List ℕ). first_bad_pair (quads_of x)) whole ∙ sym h.bad ∙ no_bad in
    (is_capture bytes (firsts (quads_of bytes)) h.fit refl (good bytes h.fit even none_bad), subst (λ (x : List ℕ). IsListOf r.packets (firsts (quads_of x))) (sym whole) h.list)

pub spelled : (bytes quads : List ℕ) (t : Tree) → IsCaptureOf quads bytes →
    IsBusTreeOf Ieee2000 t × (emits t ≡ quads) → Spells Ieee2000 bytes t
spelled bytes quads t c (bus, e) = record { bus = bus; captured = subst (λ (l : List ℕ). IsCaptureOf l bytes) (sym e) c }

-- a fault of the list is the capture's
pub stop_fault : (A B : Type 0) (k : Late) (stop : TreeStop) (Held : List ℕ → Type 0) → IfTreeFault {A = A} (Err stop) (λ f. (l : List ℕ) → IsListOf k l → Refused Ieee2000 l f) →
    ((bytes : List ℕ) → Held bytes → IsCaptureOf (firsts (quads_of bytes)) bytes × IsListOf k (firsts (quads_of bytes))) → IfFault {A = B} (Err (of_tree stop)) (λ f. (bytes : List ℕ) → Held bytes → CaptureRefused Ieee2000 bytes f)
stop_fault A B k (TreeFaulty f) Held refused known = λ bytes h. let c = known bytes h in (firsts (quads_of bytes), c.0, refused (firsts (quads_of bytes)) c.1)
stop_fault A B k (NoMemory e) Held refused known = tt

-- want of memory comes only where there is no fault
pub stop_memory : (A B : Type 0) (k : Late) (stop : TreeStop) (Held : List ℕ → Type 0) → EachListHasATreeOrAFault → ((l : List ℕ) (f : TreeFault) → IsListOf k l → Refused Ieee2000 l f → ◌≡◌ {A = Result A TreeStop} (Err stop) (Err (TreeFaulty f))) →
    ((bytes : List ℕ) → Held bytes → IsCaptureOf (firsts (quads_of bytes)) bytes × IsListOf k (firsts (quads_of bytes))) → IfMemory {A = B} (Err (of_tree stop)) ((bytes : List ℕ) → Held bytes → (t : Tree) × Spells Ieee2000 bytes t)
stop_memory A B k (TreeFaulty f) Held some exact known = tt
stop_memory A B k (NoMemory e) Held some exact known = λ bytes h.
    let c = known bytes h in
    elim (some Ieee2000 (firsts (quads_of bytes))) [
      | inl tree ↦ (tree.0, spelled bytes (firsts (quads_of bytes)) tree.0 c.0 (tree.1, tree.2))
      | inr fault ↦ absurd (let e = exact (firsts (quads_of bytes)) fault.0 c.1 fault.1 in cc)
    ]

-- ---- what a reader of captures answers for all bytes that it was given

pub reads_all : (bytes : List ℕ) (r : Pieces) (reading : Result Tree CaptureStop) →
    HoldsExactly r bytes →
    IfOk reading (λ t. (b : List ℕ) → HoldsExactly r b → Spells Ieee2000 b t) →
    IfFault reading (λ f. (b : List ℕ) → HoldsExactly r b → CaptureRefused Ieee2000 b f) →
    IsReadAs Ieee2000 bytes reading
reads_all bytes r (Ok t) h tree fault = tree bytes h
reads_all bytes r (Err (Fault f)) h tree fault = fault bytes h
reads_all bytes r (Err (Memory e)) h tree fault = tt

pub spares : (bytes : List ℕ) (r : Pieces) (reading : Result Tree CaptureStop) →
    HoldsExactly r bytes →
    IfMemory reading ((b : List ℕ) → HoldsExactly r b → (t : Tree) × Spells Ieee2000 b t) →
    SparesMemory bytes reading
spares bytes r (Ok t) h memory = tt
spares bytes r (Err (Fault f)) h memory = tt
spares bytes r (Err (Memory e)) h memory = memory bytes h

not_stop : (A E : Type 0) (a : A) (e : E) → IsErrOf {T = A} (Ok a) e → ⊥
not_stop A E a e is = cc

-- an answer isn't a stop, whatever it answers
pub told_still : (A B E : Type 0) (a : A) (b : B) (e : E) (old new : Option (List ℕ)) (P : List ℕ → List ℕ → Type 0) → IfTold old new (λ o n. IsErrOf {T = A} (Ok a) e ↔ P o n) → IfTold old new (λ o n. IsErrOf {T = B} (Ok b) e ↔ P o n)
told_still A B E a b e None new P h = tt
told_still A B E a b e (Some x) None P h = tt
told_still A B E a b e (Some x) (Some y) P h = (λ is. absurd (not_stop B E b e is), λ p. absurd (not_stop A E a e (h.1 p)))

-- ---- a piece is taken from its front

taken_none : (k : ℕ) → ◌≡◌ {A = List ℕ} (take k []) []
taken_none zero = refl
taken_none (suc k) = refl

pub take_on : (i k : ℕ) (xs : List ℕ) → take (i + k) xs ≡ take i xs ++ take k (drop i xs)
take_on zero k xs = let e : 0 + k ≡ k = omega arith in ap (λ (n : ℕ). take n xs) e
take_on (suc i) k [] = let e : suc i + k ≡ suc (i + k) = omega arith in ap (λ (n : ℕ). take n []) e ∙ sym (taken_none k)
take_on (suc i) k (x ∷ xs) =
    let e : suc i + k ≡ suc (i + k) = omega arith in
    ap (λ (n : ℕ). take n (x ∷ xs)) e ∙ ap (λ (l : List ℕ). x ∷ l) (take_on i k xs)

-- the bytes of a piece's front
pub small_front : (k : ℕ) (xs : List ℕ) → ((i : ℕ) → Fits w8 (get_or xs i 0)) →
    All (λ b. b < 256) (take k xs)
small_front zero xs h = All-nil (λ b. b < 256)
small_front (suc k) [] h = All-nil (λ b. b < 256)
small_front (suc k) (x ∷ xs) h =
    All-cons (λ b. b < 256) x (take k xs) (omega (arith, (h 0).fits)) (small_front k xs (λ i. h (suc i)))
