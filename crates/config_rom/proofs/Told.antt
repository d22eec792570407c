-- The listed blocks are whole.
use Rattle.std.proofs.Common.{◌≡◌, ℕ, zero, suc, ◌+◌, ◌≤◌, Bool, true, false, cond, List, [], ◌∷◌, ◌++◌, length, map, refl, sym, subst, arith}
use Rattle.std.specs.List.{All, AllByRecursion}
use Rattle.std.proofs.lemmas.List.Elements.{recursion_from_All, All-from_recursion}
use Rattle.config_rom.specs.declared.block.Block.{Block}
use Rattle.config_rom.specs.declared.block.BlockKind.{BlockKind}
use Rattle.config_rom.specs.declared.block.BlockKind.TheVariants.{Directory, Leaf}
use Rattle.config_rom.specs.Layout.{end_of}
use Rattle.config_rom.specs.Block.{Blocks, place_of, if_in, in_order, IsBlockOf, AreBlocksOf}
use Rattle.config_rom.proofs.Listed.{whole_of}

all_append : {X : Type 0} (P : X → Type 0) (xs ys : List X) → AllByRecursion P xs →
    AllByRecursion P ys → AllByRecursion P (xs ++ ys)
all_append P [] ys h k = k
all_append P (x ∷ xs) ys h k = (h.0, all_append P xs ys h.1 k)

abbrev IsIn : Blocks → BlockKind × ℕ → Type 0
IsIn s p = s p.0 p.1 ≡ true

if_in_all : (s : Blocks) (k : BlockKind) (p : ℕ) → AllByRecursion (IsIn s) (if_in s k p)
if_in_all s k p = go (s k p) refl
  where
    go : (b : Bool) → s k p ≡ b → AllByRecursion (IsIn s) (cond b ((k, p) ∷ []) [])
    go true e = (e, tt)
    go false e = tt

in_order_all : (s : Blocks) (n : ℕ) → AllByRecursion (IsIn s) (in_order s n)
in_order_all s zero = tt
in_order_all s (suc n) =
    all_append (IsIn s) (in_order s n) (if_in s Directory n ++ if_in s Leaf n) (in_order_all s n)
    (all_append (IsIn s) (if_in s Directory n) (if_in s Leaf n) (if_in_all s Directory n) (if_in_all s Leaf n))

abbrev IsInside : List ℕ → Block → Type 0
IsInside quads b = b.at + 1 + b.len ≤ length quads

all_inside : (quads : List ℕ) (s : Blocks) (bs : List Block) →
    ((k : BlockKind) (p : ℕ) → s k p ≡ true → end_of quads p ≤ length quads) →
    AllByRecursion (IsIn s) (map place_of bs) → AllByRecursion (IsBlockOf quads) bs →
    AllByRecursion (IsInside quads) bs
all_inside quads s [] whole h told = tt
all_inside quads s (b ∷ bs) whole h told = (omega (arith, whole b.kind b.at h.0, told.0.len_is), all_inside quads s bs whole h.1 told.1)

pub blocks_inside : (quads : List ℕ) (root : ℕ) (bs : List Block) → AreBlocksOf quads root bs →
    All (λ b. b.at + 1 + b.len ≤ length quads) bs
blocks_inside quads root bs are =
    All-from_recursion _ _ (all_inside quads are.set bs (λ k p e. whole_of quads k p (are.faultless k p ((are.set_is k p).0 e)))
    (subst (AllByRecursion (IsIn are.set)) (sym are.listed) (in_order_all are.set (length quads))) (recursion_from_All _ _ are.told))
