-- The ends that are free for the next node of a made script are different ends.
use Rattle.std.proofs.Common.{◌≡◌, ◌≢◌, ◌∙◌, inl, inr, ℕ, zero, suc, ◌+◌, ◌<◌, ◌%◌, List, [], ◌∷◌, ◌++◌, length, get_or, take, drop, refl, sym, subst, ap, append_assoc, arith}
use Rattle.std.proofs.Math.Nat.{mod-lt}
use Rattle.std.proofs.lemmas.Bool.{cases_lt}
use Rattle.std.proofs.lemmas.List.{get_or_default}
use Rattle.std.proofs.lemmas.List.Edits.{length-remove, get_or-remove_below, get_or-remove_above}
use Rattle.std.proofs.lemmas.List.Elements.{All-take, All-drop, All-append}
use Rattle.std.proofs.lemmas.List.Quantifiers.{all_pairs_push, all_pairs_remove}
use Rattle.std.specs.List.{All, AllPairs, remove}
use Rattle.rand_pcg.specs.Lcg.{Lcg}
use Rattle.script_made.specs.declared.made.End.{End}
use Rattle.script_made.specs.Made.{word, end, added_ends, end_at, taken, left, free_ends, end_of}
use Rattle.script_made.proofs.MadeLines.{length-free}
use Rattle.script_made.proofs.MadeSize.{Near, free-near}

abbrev pub AreApart : List End → Type 0
AreApart ends = AllPairs (λ a b. a ≢ b) ends

-- ---- the place of the end that is taken

abbrev pub place : Lcg → ℕ → ℕ
place g k = word g k % length (free_ends g k)

pub inside : (g : Lcg) (k : ℕ) → place g k < length (free_ends g k)
inside g k =
    let some : 0 < length (free_ends g k) = omega (arith, length-free g k) in
    mod-lt (word g k) some

pub end-is : (g : Lcg) (k : ℕ) → end_of g k ≡ end_at (free_ends g k) (place g k)
unfolding end_of taken
end-is g k = refl

-- the ends that stay free
abbrev pub staying : Lcg → ℕ → List End
staying g k = remove (free_ends g k) (place g k)

pub free-is : (g : Lcg) (k : ℕ) → free_ends g (suc k) ≡ staying g k ++ added_ends (suc k)
unfolding left
free-is g k = refl

-- what holds of all holds of those that stay
pub of-staying : (P : End → Type 0) (ends : List End) (i : ℕ) → All P ends → All P (remove ends i)
of-staying P ends i h =
    All-append P (take i ends) (drop (suc i) ends) (All-take P i ends h) (All-drop P (suc i) ends h)

-- ---- no two of them are the same

-- the two ends that a node adds are others
more-apart : (k : ℕ) (ends : List End) → AreApart ends →
    All (λ e. (e ≢ end k 1) × (e ≢ end k 2)) ends → AreApart (ends ++ added_ends k)
more-apart k ends apart others =
    let one : AreApart (ends ++ end k 1 ∷ []) =
    all_pairs_push (λ a b. a ≢ b) ends (end k 1) apart (λ j d less. (others j d less).0) in
    let last : All (λ e. e ≢ end k 2) (ends ++ end k 1 ∷ []) =
    All-append (λ e. e ≢ end k 2) ends (end k 1 ∷ []) (λ j d less. (others j d less).1)
    (λ j d less. first j d less) in
    subst AreApart (append_assoc ends (end k 1 ∷ []) (end k 2 ∷ []))
    (all_pairs_push (λ a b. a ≢ b) (ends ++ end k 1 ∷ []) (end k 2) one last)
  where
    first : All (λ e. e ≢ end k 2) (end k 1 ∷ [])
    first zero d less same = absurd (omega (arith, ap (λ (e : End). e.port) same))
    first (suc j) d less same = absurd (omega (arith, less))

one-end : AreApart (end 0 0 ∷ [])
one-end i j d less within = absurd (omega (arith, less, within))

first-others : All (λ e. (e ≢ end 0 1) × (e ≢ end 0 2)) (end 0 0 ∷ [])
first-others zero d less = (
  (λ same. absurd (omega (arith, ap (λ (e : End). e.port) same))),
  (λ same. absurd (omega (arith, ap (λ (e : End). e.port) same))),
)
first-others (suc j) d less = absurd (omega (arith, less))

-- an end of an earlier node is none of a later one
pub not-later : (k : ℕ) (e : End) (port : ℕ) → Near k e → e ≢ end (suc k) port
not-later k e port near same = absurd (omega (arith, near.node, ap (λ (e : End). e.node) same))

pub apart : (g : Lcg) (k : ℕ) → AreApart (free_ends g k)
apart g zero = more-apart 0 (end 0 0 ∷ []) one-end first-others
apart g (suc k) =
    let near : All (Near k) (staying g k) =
    of-staying (Near k) (free_ends g k) (place g k) (free-near g k) in
    subst AreApart (sym (free-is g k))
    (more-apart (suc k) (staying g k)
    (all_pairs_remove (λ a b. a ≢ b) (free_ends g k) (place g k) (inside g k) (apart g k))
    (λ j d less. (
      not-later k (get_or (staying g k) j d) 1 (near j d less),
      not-later k (get_or (staying g k) j d) 2 (near j d less),
    )))

-- the end that is taken doesn't stay
pub not-taken : (g : Lcg) (k : ℕ) → All (λ e. e ≢ end_of g k) (staying g k)
not-taken g k j d less same =
    let ends : List End = free_ends g k in
    let i : ℕ = place g k in
    let is : end_of g k ≡ get_or ends i d = end-is g k ∙ get_or_default ends i (end 0 0) d (inside g k) in
    let count : length (staying g k) + 1 ≡ length ends = length-remove ends i (inside g k) in
    elim (cases_lt j i) [
      | inl below ↦
          apart g k j i d below (inside g k)
          (sym (get_or-remove_below ends i d j below (inside g k)) ∙ (same ∙ is))
      | inr above ↦
          apart g k i (j + 1) d (omega (arith, above)) (omega (arith, less, count))
          (sym is ∙ (sym same ∙ get_or-remove_above ends i d j above (inside g k)))
    ]
