-- The list of the reached blocks, and their one fault where they have one.
use Rattle.std.proofs.Common.{◌≡◌, ℕ, zero, suc, ◌+◌, ◌<◌, ◌≤◌, inl, inr, Bool, true, false, cond, nat_lt, List, [], ◌∷◌, ◌++◌, length, map, drop, take, refl, sym, ap, ◌∙◌, subst, arith}
use Rattle.std.specs.List.{All, AllByRecursion}
use Rattle.std.proofs.lemmas.List.Elements.{recursion_from_All}
use Rattle.std.proofs.lemmas.Bool.{cases_lt, true≢false}
use Rattle.std.proofs.lemmas.Bool.Decides.{nat_tests}
use Rattle.topology_map.proofs.Lemmas.{one_crc}
use Rattle.config_rom.specs.declared.fault.RomFault.{RomFault}
use Rattle.config_rom.specs.declared.fault.RomFault.TheVariants.{RomLength, RomTooLong, RomEmpty, NoInfo, Minimal, RomCut, BusName, Outside, SelfTarget}
use Rattle.config_rom.specs.declared.crc.CrcState.{CrcState}
use Rattle.config_rom.specs.declared.crc.CrcState.TheVariants.{Good, Bad, Past}
use Rattle.config_rom.specs.declared.block.Block.{Block}
use Rattle.config_rom.specs.declared.block.BlockKind.{BlockKind}
use Rattle.config_rom.specs.declared.block.BlockKind.TheVariants.{Directory, Leaf}
use Rattle.config_rom.specs.declared.marks.Marks.{Marks}
use Rattle.config_rom.specs.Layout.{length_at, crc_at, end_of}
use Rattle.config_rom.specs.Crc.{IsCrcState}
use Rattle.config_rom.specs.Block.{Blocks, IsReachable, IsSelfTarget, HasFault, IsFirstFault, place_of, if_in, in_order, IsBlockOf, AreBlocksOf}
use Rattle.config_rom.specs.codings.Marks.{has_mark}

-- ---- lists of sets that agree

same_in_order : (s t : Blocks) (n : ℕ) → ((k : BlockKind) (p : ℕ) → p < n → s k p ≡ t k p) →
    in_order s n ≡ in_order t n
same_in_order s t zero e = refl
same_in_order s t (suc n) e =
    let here : (k : BlockKind) → if_in s k n ≡ if_in t k n = λ k. ap (λ b. cond b ((k, n) ∷ []) []) (e k n (omega arith)) in
    ap (λ xs. xs ++ (if_in s Directory n ++ if_in s Leaf n)) (same_in_order s t n (λ k p lt. e k p (omega (arith, lt))))
    ∙ ap (λ xs. in_order t n ++ (xs ++ if_in s Leaf n)) (here Directory)
    ∙ ap (λ xs. in_order t n ++ (if_in t Directory n ++ xs)) (here Leaf)

-- the marks as a set, without places past 255
abbrev pub marked : Marks → Blocks
marked m k p = cond (nat_lt p 256) (has_mark m k p) false

marked_low : (m : Marks) (k : BlockKind) (p : ℕ) → p < 256 → has_mark m k p ≡ marked m k p
marked_low m k p lt = let t : nat_lt p 256 ≡ true = grind (arith, nat_tests) in ap (λ b. cond b (has_mark m k p) false) (sym t)

marked_high : (m : Marks) (k : BlockKind) (p : ℕ) → 256 ≤ p → marked m k p ≡ false
marked_high m k p le = let t : nat_lt p 256 ≡ false = grind (arith, nat_tests) in ap (λ b. cond b (has_mark m k p) false) t

-- ---- what a fault is

data FaultIs (quads : List ℕ) (at : ℕ) (f : RomFault) : Type 0 where
  outside : f ≡ Outside at → length quads < end_of quads at → FaultIs quads at f
  itself : (p : ℕ) → f ≡ SelfTarget p → end_of quads at ≤ length quads → IsSelfTarget quads at p →
      ((entry : ℕ) → entry < p → IsSelfTarget quads at entry → ⊥) → FaultIs quads at f

fault_is : (quads : List ℕ) (k : BlockKind) (at : ℕ) (f : RomFault) → HasFault quads k at f →
    FaultIs quads at f
fault_is quads k at (Outside p) h = outside (ap Outside h.0) h.1
fault_is quads Directory at (SelfTarget p) h = itself p refl h.0 h.1 h.2
fault_is quads Leaf at (SelfTarget p) h = absurd h
fault_is quads Directory at (RomLength p) h = absurd h
fault_is quads Directory at (RomTooLong p) h = absurd h
fault_is quads Directory at (RomEmpty p) h = absurd h
fault_is quads Directory at (NoInfo p) h = absurd h
fault_is quads Directory at (Minimal p) h = absurd h
fault_is quads Directory at (RomCut p) h = absurd h
fault_is quads Directory at (BusName p q) h = absurd h
fault_is quads Leaf at (RomLength p) h = absurd h
fault_is quads Leaf at (RomTooLong p) h = absurd h
fault_is quads Leaf at (RomEmpty p) h = absurd h
fault_is quads Leaf at (NoInfo p) h = absurd h
fault_is quads Leaf at (Minimal p) h = absurd h
fault_is quads Leaf at (RomCut p) h = absurd h
fault_is quads Leaf at (BusName p q) h = absurd h

same_number : (p q : ℕ) → (p < q → ⊥) → (q < p → ⊥) → p ≡ q
same_number p q a b = omega (arith, a, b)

one_fault_at : (quads : List ℕ) (at : ℕ) (f g : RomFault) → FaultIs quads at f →
    FaultIs quads at g → f ≡ g
one_fault_at quads at f g (outside e lt) (outside e' lt') = e ∙ sym e'
one_fault_at quads at f g (outside e lt) (itself p e' whole s first) = absurd (omega (arith, lt, whole))
one_fault_at quads at f g (itself p e whole s first) (outside e' lt) = absurd (omega (arith, lt, whole))
one_fault_at quads at f g (itself p e whole s first) (itself q e' whole' s' first') =
    e ∙ ap SelfTarget (same_number p q (λ lt. first' p lt s) (λ lt. first q lt s')) ∙ sym e'

pub one_first : (quads : List ℕ) (root : ℕ) (f g : RomFault) → IsFirstFault quads root f →
    IsFirstFault quads root g → f ≡ g
one_first quads root f g a b =
    let same : a.at ≡ b.at = same_number a.at b.at (λ lt. b.earlier a.kind a.at a.reached lt f a.has) (λ lt. a.earlier b.kind b.at b.reached lt g b.has) in
    one_fault_at quads b.at f g (subst (λ p. FaultIs quads p f) same (fault_is quads a.kind a.at f a.has)) (fault_is quads b.kind b.at g b.has)

-- blocks without a fault are whole
pub whole_of : (quads : List ℕ) (k : BlockKind) (p : ℕ) →
    ((f : RomFault) → HasFault quads k p f → ⊥) → end_of quads p ≤ length quads
whole_of quads k p none = elim (cases_lt (length quads) (end_of quads p)) [
  | inl less ↦ absurd (none (Outside p) (refl, less))
  | inr more ↦ more
]

-- ---- one list

pub one_state : (quads : List ℕ) (kept : ℕ) (a b : CrcState) → IsCrcState quads kept a →
    IsCrcState quads kept b → a ≡ b
one_state quads kept Good Good h k = refl
one_state quads kept Good (Bad x computed) h k = absurd (k.2 (one_crc quads kept computed h k.1))
one_state quads kept (Bad x computed) Good h k = absurd (h.2 (one_crc quads kept computed k h.1))
one_state quads kept (Bad x computed) (Bad y other) h k =
    ap (λ z. Bad z computed) (h.0 ∙ sym k.0) ∙ ap (λ z. Bad y z) (one_crc quads computed other h.1 k.1)
one_state quads kept Past b h k = absurd h
one_state quads kept a Past h k = absurd k

same_block : (quads : List ℕ) (a b : Block) → place_of a ≡ place_of b → IsBlockOf quads a →
    IsBlockOf quads b → a ≡ b
same_block quads a b e h k =
    let kinds : a.kind ≡ b.kind = ap (λ (p : BlockKind × ℕ). p.0) e in
    let places : a.at ≡ b.at = ap (λ (p : BlockKind × ℕ). p.1) e in
    let lens : a.len ≡ b.len = h.len_is ∙ ap (λ p. length_at quads p) places ∙ sym k.len_is in
    let crc : IsCrcState (take b.len (drop (b.at + 1) quads)) (crc_at quads b.at) a.crc =
    subst (λ p. IsCrcState (take b.len (drop (p + 1) quads)) (crc_at quads p) a.crc) places (subst (λ n. IsCrcState (take n (drop (a.at + 1) quads)) (crc_at quads a.at) a.crc) lens h.crc_is)
    in
    let states : a.crc ≡ b.crc = one_state (take b.len (drop (b.at + 1) quads)) (crc_at quads b.at) a.crc b.crc crc k.crc_is in
    let mk : BlockKind → ℕ → ℕ → CrcState → Block = λ kind at len crc. record { kind = kind; at = at; len = len; crc = crc } in
    ap (λ x. mk x a.at a.len a.crc) kinds ∙ ap (λ x. mk b.kind x a.len a.crc) places ∙ ap (λ x. mk b.kind b.at x a.crc) lens ∙ ap (λ x. mk b.kind b.at b.len x) states

heads : {X : Type 0} (x y : X) (xs ys : List X) → x ∷ xs ≡ y ∷ ys → (x ≡ y) × (xs ≡ ys)
heads x y xs ys e = (cc, cc)

same_blocks : (quads : List ℕ) (xs ys : List Block) → map place_of xs ≡ map place_of ys →
    AllByRecursion (IsBlockOf quads) xs → AllByRecursion (IsBlockOf quads) ys → xs ≡ ys
same_blocks quads [] [] e h k = refl
same_blocks quads [] (y ∷ ys) e h k = absurd (omega (arith, ap length e))
same_blocks quads (x ∷ xs) [] e h k = absurd (omega (arith, ap length e))
same_blocks quads (x ∷ xs) (y ∷ ys) e h k =
    let both = heads (place_of x) (place_of y) (map place_of xs) (map place_of ys) e in
    ap (λ z. z ∷ xs) (same_block quads x y both.0 h.0 k.0) ∙ ap (λ zs. y ∷ zs) (same_blocks quads xs ys both.1 h.1 k.1)

same_test : (a b : Bool) → (a ≡ true → b ≡ true) → (b ≡ true → a ≡ true) → a ≡ b
same_test true true f g = refl
same_test true false f g = sym (f refl)
same_test false true f g = g refl
same_test false false f g = refl

pub one_list : (quads : List ℕ) (root : ℕ) (xs ys : List Block) → AreBlocksOf quads root xs →
    AreBlocksOf quads root ys → xs ≡ ys
one_list quads root xs ys a b =
    let sets : (k : BlockKind) (p : ℕ) → a.set k p ≡ b.set k p = λ k p.
    same_test (a.set k p) (b.set k p) (λ e. (b.set_is k p).1 ((a.set_is k p).0 e)) (λ e. (a.set_is k p).1 ((b.set_is k p).0 e))
    in
    same_blocks quads xs ys (a.listed ∙ same_in_order a.set b.set (length quads) (λ k p lt. sets k p) ∙ sym b.listed) (recursion_from_All _ _ a.told) (recursion_from_All _ _ b.told)

-- the listed marks are the blocks
pub are_blocks : (quads : List ℕ) (root : ℕ) (m : Marks) (list : List Block) → length quads ≤ 256 →
    ((k : BlockKind) (p : ℕ) → IsReachable quads root k p → (p < 256) × (has_mark m k p ≡ true)) →
    ((k : BlockKind) (p : ℕ) → p < 256 → has_mark m k p ≡ true → IsReachable quads root k p) →
    ((k : BlockKind) (p : ℕ) → IsReachable quads root k p → (f : RomFault) → HasFault quads k p f → ⊥) →
    map place_of list ≡ in_order (has_mark m) (length quads) → All (IsBlockOf quads) list → AreBlocksOf quads root list
are_blocks quads root m list few reached only faultless places told = record {
  set = marked m;
  set_is = λ k p. (
    λ e. elim (cases_lt p 256) [
      | inl less ↦ only k p less (marked_low m k p less ∙ e)
      | inr more ↦ absurd (true≢false (sym e ∙ marked_high m k p more))
    ],
    λ r. let h = reached k p r in sym (marked_low m k p h.0) ∙ h.1,
  );
  listed = places ∙ same_in_order (has_mark m) (marked m) (length quads) (λ k p lt. marked_low m k p (omega (arith, lt, few)));
  told = told;
  faultless = faultless;
}

-- blocks and a fault are not both
pub no_first : (quads : List ℕ) (root : ℕ) (f : RomFault) →
    ((k : BlockKind) (p : ℕ) → IsReachable quads root k p → (g : RomFault) → HasFault quads k p g → ⊥) →
    IsFirstFault quads root f → ⊥
no_first quads root f faultless h = faultless h.kind h.at h.reached f h.has

-- what is said of quadlets and a place is said of a ROM
pub of_rom : (P : List ℕ → ℕ → Type 0) (qs rs : List ℕ) (m n : ℕ) → qs ≡ rs → m ≡ n → P qs m →
    P rs n
of_rom P qs rs m n e f h = subst (λ x. P rs x) f (subst (λ x. P x m) e h)
