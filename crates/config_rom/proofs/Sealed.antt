-- The CRC of each block set, from the last place down.
use Rattle.std.proofs.Common.{◌≡◌, ◌≢◌, ℕ, zero, suc, ◌+◌, ◌*◌, ◌/◌, ◌%◌, ◌^◌, ◌<◌, ◌≤◌, inl, inr, Bool, true, false, List, [], ◌∷◌, ◌++◌, length, take, drop, Result, Ok, Err, length-append, refl, sym, ap, subst, ◌∙◌, ⊎_elim, nat_le, arith}
use Rattle.std.specs.Prelude.{slice_index, slice_set, ◌&&◌}
use Rattle.std.proofs.lemmas.Bool.{cases_lt, and_parts, and_from}
use Rattle.std.proofs.lemmas.Bool.Decides.{nat_tests}
use Rattle.std.proofs.lemmas.List.{get_or-set_other, get_or-set_same, length-set, get_or_past}
use Rattle.topology_map.specs.Crc.{IsCrc}
use Rattle.config_rom.specs.declared.fault.RomFault.{RomFault}
use Rattle.config_rom.specs.declared.block.BlockKind.{BlockKind}
use Rattle.config_rom.specs.declared.block.BlockKind.TheVariants.{Directory}
use Rattle.config_rom.specs.declared.marks.Marks.{Marks}
use Rattle.config_rom.specs.Layout.{length_at, crc_at, end_of}
use Rattle.config_rom.specs.Rom.{Parts, root_header, rom_quads, IsRom, with_crc}
use Rattle.config_rom.specs.Block.{Blocks, kind_of, value_of, IsEntryOf, LeadsTo, IsClosed, IsReachable}
use Rattle.config_rom.specs.Seal.{IsGood, HasBlock, SealsBlocks, SealedBlocksAreGood}
use Rattle.config_rom.specs.codings.Marks.{has_mark}
use Rattle.config_rom.specs.codings.Sealing.{SealsAt, IsBare, SealedFrom}
use Rattle.config_rom.proofs.Whole.{crc-high}

-- ---- one header

drop_behind : (quads : List ℕ) (i n v : ℕ) → i < n → drop n (slice_set quads i v) ≡ drop n quads
drop_behind quads i zero v lt = absurd (omega (arith, lt))
drop_behind [] i (suc n) v lt = refl
drop_behind (q ∷ quads) zero (suc n) v lt = refl
drop_behind (q ∷ quads) (suc i) (suc n) v lt = drop_behind quads i n v (omega (arith, lt))

-- a block is as good in other quadlets that have its length, its CRC and what it holds
good_along : (a b : List ℕ) (p : ℕ) → length_at a p ≡ length_at b p → crc_at a p ≡ crc_at b p →
    drop (p + 1) a ≡ drop (p + 1) b → IsGood a p → IsGood b p
good_along a b p len crc held h =
    subst (λ (c : ℕ). IsCrc (take (length_at b p) (drop (p + 1) b)) c) crc
    (subst (λ (n : ℕ). IsCrc (take n (drop (p + 1) b)) (crc_at a p)) len
    (subst (λ (l : List ℕ). IsCrc (take (length_at a p) l) (crc_at a p)) held h))

-- the block that was sealed is good
good_here : (mid new : List ℕ) (at : ℕ) → at < length mid → SealsAt mid new at → IsGood new at
good_here mid new at there s =
    let quad = with_crc (slice_index mid at) s.crc in
    let fits = s.is.degree in
    let held : drop (at + 1) mid ≡ drop (at + 1) new = sym (ap (λ (l : List ℕ). drop (at + 1) l) s.set ∙ drop_behind mid at (at + 1) quad (omega arith)) in
    let len : length_at mid at ≡ length_at new at = sym (ap (λ (l : List ℕ). length_at l at) s.set ∙ crc-high mid at s.crc at there fits) in
    let here : slice_index new at ≡ quad = ap (λ (l : List ℕ). slice_index l at) s.set ∙ get_or-set_same mid at quad 0 there in
    let low : quad % 2 ^ 16 ≡ s.crc = omega (arith, fits) in
    let crc : s.crc ≡ crc_at new at = sym (ap (λ (q : ℕ). q % 2 ^ 16) here ∙ low) in
    subst (λ (c : ℕ). IsCrc (take (length_at new at) (drop (at + 1) new)) c) crc
    (subst (λ (n : ℕ). IsCrc (take n (drop (at + 1) new)) s.crc) len
    (subst (λ (l : List ℕ). IsCrc (take (length_at mid at) l) s.crc) held s.is))

-- other places are as they were
same_else : (mid new : List ℕ) (at p : ℕ) → p ≢ at → SealsAt mid new at →
    slice_index new p ≡ slice_index mid p
same_else mid new at p apart s =
    ap (λ (l : List ℕ). slice_index l p) s.set ∙ get_or-set_other mid at p (with_crc (slice_index mid at) s.crc) 0 apart

good_behind : (mid new : List ℕ) (at p : ℕ) → at < p → SealsAt mid new at → IsGood mid p →
    IsGood new p
good_behind mid new at p lt s h =
    let same : slice_index mid p ≡ slice_index new p = sym (same_else mid new at p (omega (arith, lt)) s) in
    let held : drop (p + 1) mid ≡ drop (p + 1) new = sym (ap (λ (l : List ℕ). drop (p + 1) l) s.set ∙ drop_behind mid at (p + 1) (with_crc (slice_index mid at) s.crc) (omega (arith, lt))) in
    good_along mid new p (ap (λ (q : ℕ). q / 2 ^ 16) same) (ap (λ (q : ℕ). q % 2 ^ 16) same) held h

-- ---- from place to place
pub sealed_more : (old mid new : List ℕ) (m : Marks) (at : ℕ) (kind : BlockKind) →
    SealedFrom old mid m (at + 1) → at < length old → has_mark m kind at ≡ true →
    SealsAt mid new at → SealedFrom old new m at
sealed_more old mid new m at kind h lt mark s =
    let there : at < length mid = omega (arith, lt, h.size) in
    record {
      size = ap length s.set ∙ length-set mid at (with_crc (slice_index mid at) s.crc) ∙ h.size;
      high = λ p. ap (λ (l : List ℕ). slice_index l p / 2 ^ 16) s.set ∙ crc-high mid at s.crc p there s.is.degree ∙ h.high p;
      others = λ p d. ⊎_elim
          (λ (less : p < at). same_else mid new at p (omega (arith, less)) s ∙ h.others p (inl (omega (arith, less))))
          (λ (b : IsBare m p).
          let apart : p ≢ at = λ e. b kind (subst (λ (n : ℕ). has_mark m kind n ≡ true) (sym e) mark) in
          same_else mid new at p apart s ∙ h.others p (inr b))
          d;
      good = λ p k le inside here. ⊎_elim
          (λ (behind : at < p). good_behind mid new at p behind s (h.good p k (omega (arith, behind)) inside here))
          (λ (low : p ≤ at).
          let same : at ≡ p = omega (arith, le, low) in
          subst (λ (n : ℕ). IsGood new n) same (good_here mid new at there s))
          (cases_lt at p);
    }

-- a block stays as long as it was
pub whole_still : (old cur : List ℕ) (m : Marks) (at p : ℕ) → SealedFrom old cur m at →
    end_of old p ≤ length old → end_of cur p ≤ length cur
whole_still old cur m at p h whole = omega (arith, h.high p, h.size, whole)

-- ---- the whole ROM

-- blocks stand at the root directory or behind it
pub reached_behind : (quads : List ℕ) (root : ℕ) (k : BlockKind) (p : ℕ) →
    IsReachable quads root k p → root ≤ p
reached_behind quads root k p r =
    let set : Blocks = λ j q. nat_le root q in
    let closed : IsClosed quads root set = record {
      root_in = grind (arith, nat_tests);
      targets_in = λ directory entry target j has leads.
          let behind = leads.is_entry.behind in
          let is = leads.target_is in
          let at_least : root ≤ directory = grind (arith, nat_tests, has) in
          let more : root ≤ target = omega (arith, behind, is, at_least) in
          grind (arith, nat_tests, more);
    } in
    let in_set = r set closed in
    grind (arith, nat_tests, in_set)

index_behind : (v : Parts) (crc at : ℕ) → 0 < at →
    slice_index (rom_quads (record v { crc = crc })) at ≡ slice_index (rom_quads v) at
index_behind v crc zero lt = absurd (omega (arith, lt))
index_behind v crc (suc at) lt = refl

drop_first : (v : Parts) (crc at : ℕ) →
    drop (at + 1) (rom_quads v) ≡ drop (at + 1) (rom_quads (record v { crc = crc }))
drop_first v crc at =
    let next : at + 1 ≡ suc at = omega arith in
    rw next refl

high_first : (a b c d : ℕ) → c < 2 ^ 16 → d < 2 ^ 16 →
    (2 ^ 24 * a + 2 ^ 16 * b + c) / 2 ^ 16 ≡ (2 ^ 24 * a + 2 ^ 16 * b + d) / 2 ^ 16
high_first a b c d e f = omega (arith, e, f)

high_behind : (v : Parts) (crc at : ℕ) → crc < 2 ^ 16 → v.crc < 2 ^ 16 →
    slice_index (rom_quads (record v { crc = crc })) at / 2 ^ 16
    ≡ slice_index (rom_quads v) at / 2 ^ 16
high_behind v crc zero e f = high_first v.info_len v.crc_length crc v.crc e f
high_behind v crc (suc at) e f = refl

pub seals_blocks : (old mid new : Parts) (m : Marks) (root : ℕ) → IsRom old → IsRom mid →
    root ≡ 1 + old.info_len →
    ((k : BlockKind) (p : ℕ) → HasBlock old k p → (p < 256) × (has_mark m k p ≡ true)) →
    ((k : BlockKind) (p : ℕ) → p < 256 → has_mark m k p ≡ true → HasBlock old k p) →
    ((k : BlockKind) (p : ℕ) → HasBlock old k p → end_of (rom_quads old) p ≤ length (rom_quads old)) →
    SealedFrom (rom_quads old) (rom_quads mid) m root → mid.info_len ≡ old.info_len →
    mid.crc_length ≡ old.crc_length →
    IsCrc (take mid.crc_length (drop 1 (rom_quads mid))) new.crc →
    new ≡ record mid { crc = new.crc } → SealsBlocks old new
seals_blocks old mid new m root is_old is_mid place reached only whole h info over first e =
    let crc = new.crc in
    let sealed : Parts = record mid { crc = crc } in
    let all : SealsBlocks old sealed = record {
      blocks = λ k p r.
          let behind : root ≤ p = omega (arith, place, reached_behind (rom_quads old) (1 + old.info_len) k p r) in
          let inside : p < length (rom_quads old) = omega (arith, whole k p r) in
          let same : slice_index (rom_quads mid) p ≡ slice_index (rom_quads sealed) p = sym (index_behind mid crc p (omega (arith, behind, place))) in
          good_along (rom_quads mid) (rom_quads sealed) p (ap (λ (q : ℕ). q / 2 ^ 16) same) (ap (λ (q : ℕ). q % 2 ^ 16) same) (drop_first mid crc p)
          (h.good p k behind inside (reached k p r).1);
      first = first;
      info_len = info;
      crc_length = over;
      size = h.size;
      high = λ p. high_behind mid crc p first.degree is_mid.crc_fits ∙ h.high p;
      others = λ p lt none. index_behind mid crc p lt ∙ ⊎_elim
          (λ (low : p < 256). h.others p (inr (λ k mark. none k (only k p low mark))))
          (λ (past : 256 ≤ p).
          get_or_past (rom_quads mid) p 0 (omega (arith, past, h.size, is_old.few)) ∙ sym (get_or_past (rom_quads old) p 0 (omega (arith, past, is_old.few))))
          (cases_lt p 256);
    } in
    subst (λ (v : Parts). SealsBlocks old v) (sym e) all

-- ---- the blocks of a sealed ROM

pub sealed_are_good : SealedBlocksAreGood
sealed_are_good old new list are s apart kind at reached = s.blocks kind at (λ set closed.
    let both : Blocks = λ k p. set k p && are.set k p in
    let olds = rom_quads old in
    let root = 1 + old.info_len in
    let root_is : root ≡ 1 + new.info_len = sym (ap (λ (n : ℕ). 1 + n) s.info_len) in
    let root_there : both Directory root ≡ true = and_from (set Directory root) (are.set Directory root) closed.root_in ((are.set_is Directory root).1 (λ other c. c.root_in)) in
    let closed_again : IsClosed (rom_quads new) (1 + new.info_len) both = record {
      root_in = subst (λ (n : ℕ). both Directory n ≡ true) root_is root_there;
      targets_in = λ directory entry target k has leads.
          let in_set = (and_parts (set Directory directory) (are.set Directory directory) has).0 in
          let is_reached : IsReachable olds root Directory directory = (are.set_is Directory directory).0 ((and_parts (set Directory directory) (are.set Directory directory) has).1) in
          let is_entry : IsEntryOf olds directory entry = record {
            behind = leads.is_entry.behind;
            inside = omega (arith, leads.is_entry.inside, s.high directory);
          } in
          let same : slice_index (rom_quads new) entry ≡ slice_index olds entry = s.others entry (omega (arith, leads.is_entry.behind)) (λ other r. apart directory entry other is_reached is_entry r) in
          let leads_old : LeadsTo olds directory entry k target = record {
            is_entry = is_entry;
            kind_is = ap kind_of (sym same) ∙ leads.kind_is;
            target_is = leads.target_is ∙ ap (λ (q : ℕ). entry + value_of q) same;
          } in
          and_from (set k target) (are.set k target)
          (closed.targets_in directory entry target k in_set leads_old)
          ((are.set_is k target).1 (λ other c. c.targets_in directory entry target k (is_reached other c) leads_old));
    } in
    (and_parts (set kind at) (are.set kind at) (reached both closed_again)).0)

-- ---- what is refused

abbrev done : Result (Unit {0}) RomFault
done = Ok tt

abbrev refusal : RomFault → Result (Unit {0}) RomFault
refusal f = Err f

pub same_refusal : (f g : RomFault) → refusal f ≡ refusal g → f ≡ g
same_refusal f g e = cc

pub no_refusal : (f : RomFault) → done ≡ refusal f → ⊥
no_refusal f e = cc

-- the root directory stands in the ROM
pub root_inside : (v : Parts) (quads : List ℕ) (root : ℕ) → IsRom v → quads ≡ rom_quads v →
    root ≡ 1 + v.info_len → root ≤ length quads
root_inside v quads root is e f =
    omega (arith, ap length e, f, is.info_is, length-append v.info (root_header v ∷ (v.entries ++ v.rest)))
