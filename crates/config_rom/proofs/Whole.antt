-- The parts of a ROM are its quadlets, and the other way round.
use Rattle.std.proofs.Common.{◌≡◌, ◌≢◌, ℕ, zero, suc, ◌+◌, ◌-◌, ◌*◌, ◌/◌, ◌%◌, ◌^◌, ◌<◌, ◌≤◌, List, [], ◌∷◌, ◌++◌, length, take, drop, refl, ap, sym, ◌∙◌, subst, ⊎_elim, arith, length-append}
use Rattle.std.specs.Prelude.{slice_index, slice_set}
use Rattle.std.specs.List.{All}
use Rattle.std.proofs.Math.Seq.{drop-cons, take-append_seam, drop-append_seam}
use Rattle.std.proofs.lemmas.List.{take-append-drop, length-take-le, drop_all, get_or-take, get_or-drop, get_or-set_other, get_or-set_same, length-set}
use Rattle.std.proofs.lemmas.Bool.{cases_lt}
use Rattle.std.proofs.lemmas.List.Elements.{All-get_or, All-set, All-append, All-cons}
use Rattle.topology_map.proofs.Lemmas.{joined}
use Rattle.config_rom.specs.Layout.{info_len_of, root_of, length_at, crc_at, end_of}
use Rattle.config_rom.specs.Rom.{Parts, first_quad, root_header, rom_quads, IsRom, unsealed, with_crc}
use Rattle.config_rom.specs.codings.Parts.{parts_of, HasLayout}

pub drop-more : (n m : ℕ) (xs : List ℕ) → drop (n + m) xs ≡ drop m (drop n xs)
drop-more zero m xs = ap (λ k. drop k xs) (omega arith)
drop-more (suc n) m [] = drop_all (suc n + m) [] (omega arith) ∙ sym (drop_all m [] (omega arith))
drop-more (suc n) m (x ∷ xs) = let next : suc n + m ≡ suc (n + m) = omega arith in rw next (drop-more n m xs)

-- a part, and what is behind it
pub part : (n m : ℕ) (xs : List ℕ) → take m (drop n xs) ++ drop (n + m) xs ≡ drop n xs
part n m xs = ap (λ ys. take m (drop n xs) ++ ys) (drop-more n m xs) ∙ take-append-drop m (drop n xs)

at_place : (xs : List ℕ) (i : ℕ) → i < length xs → slice_index xs i ∷ drop (i + 1) xs ≡ drop i xs
at_place xs i lt = let next : i + 1 ≡ suc i = omega arith in rw next (sym (drop-cons xs i 0 lt))

first_is : (q : ℕ) → 2 ^ 24 * (q / 2 ^ 24) + 2 ^ 16 * (q / 2 ^ 16 % 2 ^ 8) + q % 2 ^ 16 ≡ q
first_is q = omega arith

header_is : (q n : ℕ) → n ≡ q / 2 ^ 16 → 2 ^ 16 * n + q % 2 ^ 16 ≡ q
header_is q n e = omega (arith, e)

length-drop_le : (n m : ℕ) (xs : List ℕ) → n + m ≤ length xs → m ≤ length (drop n xs)
length-drop_le zero m xs le = omega (arith, le)
length-drop_le (suc n) m [] le = omega (arith, le)
length-drop_le (suc n) m (x ∷ xs) le = length-drop_le n m xs (omega (arith, le))

pub rom_quads-parts_of : (quads : List ℕ) → HasLayout quads → rom_quads (parts_of quads) ≡ quads
rom_quads-parts_of quads h =
    let n = info_len_of quads in
    let root = root_of quads in
    let len = length_at quads root in
    let entries = take len (drop (root + 1) quads) in
    let long : length entries ≡ len = length-take-le len (drop (root + 1) quads) (length-drop_le (root + 1) len quads (omega (arith, h.root_whole))) in
    let tail : entries ++ drop (end_of quads root) quads ≡ drop (root + 1) quads = part (root + 1) len quads in
    let header : root_header (parts_of quads) ≡ slice_index quads root = header_is (slice_index quads root) (length entries) long in
    let there : root < length quads = omega (arith, h.root_whole) in
    let from_root : root_header (parts_of quads) ∷ (entries ++ drop (end_of quads root) quads) ≡ drop root quads =
    ap (λ xs. root_header (parts_of quads) ∷ xs) tail ∙ ap (λ q. q ∷ drop (root + 1) quads) header ∙ at_place quads root there in
    let from_info : take n (drop 1 quads) ++ (root_header (parts_of quads) ∷ (entries ++ drop (end_of quads root) quads)) ≡ drop 1 quads =
    ap (λ xs. take n (drop 1 quads) ++ xs) from_root ∙ part 1 n quads in
    ap (λ xs. first_quad (parts_of quads) ∷ xs) from_info ∙ ap (λ q. q ∷ drop 1 quads) (first_is (slice_index quads 0)) ∙ at_place quads 0 (omega (arith, there))

-- ---- from quadlets to parts

pub is_rom : (quads : List ℕ) → HasLayout quads → IsRom (parts_of quads)
is_rom quads h =
    let n = info_len_of quads in
    let same = rom_quads-parts_of quads h in
    let first : slice_index quads 0 < 2 ^ 32 = All-get_or (λ q. q < 2 ^ 32) quads 0 0 (omega (arith, h.info_whole)) h.fit in
    let second : slice_index (take n (drop 1 quads)) 0 ≡ slice_index quads 1 = get_or-take n (drop 1 quads) 0 0 (omega (arith, h.info_two)) ∙ get_or-drop 1 quads 0 0 in
    record {
      info_is = length-take-le n (drop 1 quads) (length-drop_le 1 n quads h.info_whole);
      info_two = h.info_two;
      name = second ∙ h.name;
      few = subst (λ qs. length qs ≤ 256) (sym same) h.few;
      info_len_fits = omega (arith, first);
      crc_length_fits = omega arith;
      crc_fits = omega arith;
      root_crc_fits = omega arith;
      quads_fit = subst (λ qs. All (λ q. q < 2 ^ 32) qs) (sym same) h.fit;
    }

-- ---- from parts to quadlets

-- the places and lengths in the quadlets of a ROM
pub record PlacesOf (v : Parts) : Type 0 where
  pub info_len : info_len_of (rom_quads v) ≡ v.info_len
  pub crc_length : slice_index (rom_quads v) 0 / 2 ^ 16 % 2 ^ 8 ≡ v.crc_length
  pub crc : crc_at (rom_quads v) 0 ≡ v.crc
  pub from_root : drop (root_of (rom_quads v)) (rom_quads v) ≡ root_header v ∷ (v.entries ++ v.rest)
  pub header : slice_index (rom_quads v) (root_of (rom_quads v)) ≡ root_header v
  pub behind : drop (root_of (rom_quads v) + 1) (rom_quads v) ≡ v.entries ++ v.rest
  pub length_is : length_at (rom_quads v) (root_of (rom_quads v)) ≡ length v.entries
  pub root_crc : crc_at (rom_quads v) (root_of (rom_quads v)) ≡ v.root_crc
  pub total : length (rom_quads v) ≡ 2 + length v.info + length v.entries + length v.rest

first_parts : (n l crc : ℕ) → l < 2 ^ 8 → crc < 2 ^ 16 →
    ((2 ^ 24 * n + 2 ^ 16 * l + crc) / 2 ^ 24 ≡ n) × ((2 ^ 24 * n + 2 ^ 16 * l + crc) / 2 ^ 16 % 2 ^ 8 ≡ l) × ((2 ^ 24 * n + 2 ^ 16 * l + crc) % 2 ^ 16 ≡ crc)
first_parts n l crc small fits = (omega arith, omega arith, omega arith)

pub places_of : (v : Parts) → IsRom v → PlacesOf v
places_of v is =
    let qs = rom_quads v in
    let f = first_parts v.info_len v.crc_length v.crc is.crc_length_fits is.crc_fits in
    let behind_info = root_header v ∷ (v.entries ++ v.rest) in
    let total : length qs ≡ 2 + length v.info + length v.entries + length v.rest = omega (arith, length-append v.info behind_info, length-append v.entries v.rest) in
    let n : info_len_of qs ≡ length v.info = f.0 ∙ sym is.info_is in
    let from_root : drop (root_of qs) qs ≡ behind_info =
    drop-more 1 (info_len_of qs) qs ∙ ap (λ k. drop k (v.info ++ behind_info)) n ∙ drop-append_seam v.info behind_info
    in
    let there : root_of qs < length qs = omega (arith, n, total) in
    let header : slice_index qs (root_of qs) ≡ root_header v = ap (λ l. slice_index l 0) (at_place qs (root_of qs) there ∙ from_root) in
    let h = joined (length v.entries) v.root_crc is.root_crc_fits in
    record {
      info_len = f.0;
      crc_length = f.1;
      crc = f.2;
      from_root = from_root;
      header = header;
      behind = drop-more (root_of qs) 1 qs ∙ ap (λ l. drop 1 l) from_root;
      length_is = ap (λ q. q / 2 ^ 16) header ∙ h.0;
      root_crc = ap (λ q. q % 2 ^ 16) header ∙ h.1;
      total = total;
    }

same_parts : (a b : Parts) → a.info_len ≡ b.info_len → a.crc_length ≡ b.crc_length → a.crc ≡ b.crc →
    a.info ≡ b.info → a.root_crc ≡ b.root_crc → a.entries ≡ b.entries → a.rest ≡ b.rest → a ≡ b
same_parts a b e0 e1 e2 e3 e4 e5 e6 =
    let mk : ℕ → ℕ → ℕ → List ℕ → ℕ → List ℕ → List ℕ → Parts = λ n l c i r es rest. record { info_len = n; crc_length = l; crc = c; info = i; root_crc = r; entries = es; rest = rest } in
    ap (λ x. mk x a.crc_length a.crc a.info a.root_crc a.entries a.rest) e0
    ∙ ap (λ x. mk b.info_len x a.crc a.info a.root_crc a.entries a.rest) e1
    ∙ ap (λ x. mk b.info_len b.crc_length x a.info a.root_crc a.entries a.rest) e2
    ∙ ap (λ x. mk b.info_len b.crc_length b.crc x a.root_crc a.entries a.rest) e3
    ∙ ap (λ x. mk b.info_len b.crc_length b.crc b.info x a.entries a.rest) e4
    ∙ ap (λ x. mk b.info_len b.crc_length b.crc b.info b.root_crc x a.rest) e5
    ∙ ap (λ x. mk b.info_len b.crc_length b.crc b.info b.root_crc b.entries x) e6

pub parts_of-rom_quads : (v : Parts) → IsRom v → parts_of (rom_quads v) ≡ v
parts_of-rom_quads v is =
    let qs = rom_quads v in
    let p = places_of v is in
    let behind_info = root_header v ∷ (v.entries ++ v.rest) in
    same_parts (parts_of qs) v p.info_len p.crc_length p.crc
    (ap (λ k. take k (v.info ++ behind_info)) (p.info_len ∙ sym is.info_is) ∙ take-append_seam v.info behind_info)
    p.root_crc
    (ap (λ k. take k (drop (root_of qs + 1) qs)) p.length_is ∙ ap (λ l. take (length v.entries) l) p.behind ∙ take-append_seam v.entries v.rest)
    (drop-more (root_of qs + 1) (length_at qs (root_of qs)) qs
    ∙ ap (λ k. drop k (drop (root_of qs + 1) qs)) p.length_is ∙ ap (λ l. drop (length v.entries) l) p.behind ∙ drop-append_seam v.entries v.rest)

pub has_layout : (v : Parts) → IsRom v → HasLayout (rom_quads v)
has_layout v is =
    let qs = rom_quads v in
    let p = places_of v is in
    let n : info_len_of qs ≡ length v.info = p.info_len ∙ sym is.info_is in
    record {
      few = is.few;
      info_two = omega (arith, p.info_len, is.info_two);
      info_whole = omega (arith, n, p.total);
      name = index-append v.info (root_header v ∷ (v.entries ++ v.rest)) (omega (arith, is.info_is, is.info_two)) ∙ is.name;
      root_whole = omega (arith, n, p.total, p.length_is);
      fit = is.quads_fit;
    }
  where
    index-append : (xs ys : List ℕ) → 0 < length xs → slice_index (xs ++ ys) 0 ≡ slice_index xs 0
    index-append [] ys lt = absurd (omega (arith, lt))
    index-append (x ∷ xs) ys lt = refl

-- the bus information block among the quadlets
pub info_part : (v : Parts) (quads : List ℕ) (n : ℕ) → IsRom v → quads ≡ rom_quads v →
    n ≡ v.info_len → take (1 + n - 1) (drop 1 quads) ≡ v.info
info_part v quads n is e f =
    let long : 1 + n - 1 ≡ length v.info = omega (arith, f, is.info_is) in
    ap (λ k. take k (drop 1 quads)) long ∙ ap (λ qs. take (length v.info) (drop 1 qs)) e ∙ take-append_seam v.info (root_header v ∷ (v.entries ++ v.rest))

-- the entries of the root directory among the quadlets
pub entries_part : (v : Parts) (quads : List ℕ) (root end : ℕ) → IsRom v → quads ≡ rom_quads v →
    root ≡ 1 + v.info_len → end ≡ end_of quads root →
    take (end - (root + 1)) (drop (root + 1) quads) ≡ v.entries
entries_part v quads root end is e f g =
    let p = places_of v is in
    let place : root ≡ root_of (rom_quads v) = omega (arith, f, p.info_len) in
    let long : end - (root + 1) ≡ length v.entries = omega (arith, g, ap (λ qs. length_at qs root) e, ap (λ k. length_at (rom_quads v) k) place, p.length_is) in
    ap (λ k. take k (drop (root + 1) quads)) long
    ∙ ap (λ qs. take (length v.entries) (drop (root + 1) qs)) e
    ∙ ap (λ k. take (length v.entries) (drop (k + 1) (rom_quads v))) place
    ∙ ap (λ l. take (length v.entries) l) p.behind
    ∙ take-append_seam v.entries v.rest

-- ---- a quadlet set

-- one that is neither of the first two nor the header of the root directory
pub set-layout :
    (quads : List ℕ) (place quad : ℕ) → HasLayout quads → 2 ≤ place → place ≢ root_of quads →
    quad < 2 ^ 32 → HasLayout (slice_set quads place quad)
set-layout quads place quad h behind other fits =
    let first : slice_index (slice_set quads place quad) 0 ≡ slice_index quads 0 = get_or-set_other quads place 0 quad 0 (omega (arith, behind)) in
    let root : root_of (slice_set quads place quad) ≡ root_of quads = ap (λ q. 1 + q / 2 ^ 24) first in
    let header : slice_index (slice_set quads place quad) (root_of quads) ≡ slice_index quads (root_of quads) = get_or-set_other quads place (root_of quads) quad 0 (λ e. other (sym e)) in
    let len : length (slice_set quads place quad) ≡ length quads = length-set quads place quad in
    record {
      few = omega (arith, len, h.few);
      info_two = omega (arith, ap (λ q. q / 2 ^ 24) first, h.info_two);
      info_whole = omega (arith, root, len, h.info_whole);
      name = get_or-set_other quads place 1 quad 0 (omega (arith, behind)) ∙ h.name;
      root_whole = omega (arith, len, root, ap (λ k. length_at (slice_set quads place quad) k) root, ap (λ q. q / 2 ^ 16) header, h.root_whole);
      fit = All-set (λ q. q < 2 ^ 32) quads place quad fits h.fit;
    }

pub set-quads :
    (v : Parts) (quads : List ℕ) (place quad : ℕ) → HasLayout quads → parts_of quads ≡ v →
    2 ≤ place → place ≢ 1 + v.info_len → quad < 2 ^ 32 →
    rom_quads (parts_of (slice_set quads place quad)) ≡ slice_set (rom_quads v) place quad
set-quads v quads place quad h is behind other fits =
    let n : info_len_of quads ≡ v.info_len = ap (λ (p : Parts). p.info_len) is in
    let no : place ≢ root_of quads = λ e. other (omega (arith, e, n)) in
    rom_quads-parts_of (slice_set quads place quad) (set-layout quads place quad h behind no fits)
    ∙ ap (λ qs. slice_set qs place quad) (sym (rom_quads-parts_of quads h) ∙ ap rom_quads is)

-- ---- a CRC set

with_crc-high : (quad crc : ℕ) → crc < 2 ^ 16 → with_crc quad crc / 2 ^ 16 ≡ quad / 2 ^ 16
with_crc-high quad crc fits = omega (arith, fits)

-- only low bits are changed, at one place
pub crc-high : (quads : List ℕ) (place crc p : ℕ) → place < length quads → crc < 2 ^ 16 →
    slice_index (slice_set quads place (with_crc (slice_index quads place) crc)) p / 2 ^ 16
    ≡ slice_index quads p / 2 ^ 16
crc-high quads place crc p there fits =
    let quad = with_crc (slice_index quads place) crc in
    let other : (p ≢ place) → slice_index (slice_set quads place quad) p / 2 ^ 16 ≡ slice_index quads p / 2 ^ 16 = λ apart. ap (λ q. q / 2 ^ 16) (get_or-set_other quads place p quad 0 apart) in
    ⊎_elim
    (λ (less : p < place). other (omega (arith, less)))
    (λ (more : place ≤ p). ⊎_elim
    (λ (behind : place < p). other (omega (arith, behind)))
    (λ (at : p ≤ place).
    let same : place ≡ p = omega (arith, more, at) in
    subst (λ (k : ℕ). slice_index (slice_set quads place quad) k / 2 ^ 16 ≡ slice_index quads k / 2 ^ 16) same
    (ap (λ q. q / 2 ^ 16) (get_or-set_same quads place quad 0 there) ∙ with_crc-high (slice_index quads place) crc fits))
    (cases_lt place p))
    (cases_lt p place)

pub crc-layout : (quads : List ℕ) (place crc : ℕ) → HasLayout quads → root_of quads ≤ place →
    place < length quads → crc < 2 ^ 16 →
    HasLayout (slice_set quads place (with_crc (slice_index quads place) crc))
crc-layout quads place crc h behind there fits =
    let quad = with_crc (slice_index quads place) crc in
    let first : slice_index (slice_set quads place quad) 0 ≡ slice_index quads 0 = get_or-set_other quads place 0 quad 0 (omega (arith, behind)) in
    let root : root_of (slice_set quads place quad) ≡ root_of quads = ap (λ q. 1 + q / 2 ^ 24) first in
    let header = crc-high quads place crc (root_of quads) there fits in
    let len : length (slice_set quads place quad) ≡ length quads = length-set quads place quad in
    let was : slice_index quads place < 2 ^ 32 = All-get_or (λ q. q < 2 ^ 32) quads place 0 there h.fit in
    record {
      few = omega (arith, len, h.few);
      info_two = omega (arith, ap (λ q. q / 2 ^ 24) first, h.info_two);
      info_whole = omega (arith, root, len, h.info_whole);
      name = get_or-set_other quads place 1 quad 0 (omega (arith, behind, h.info_two)) ∙ h.name;
      root_whole = omega (arith, len, root, ap (λ k. length_at (slice_set quads place quad) k) root, header, h.root_whole);
      fit = All-set (λ q. q < 2 ^ 32) quads place quad (omega (arith, was, fits)) h.fit;
    }

pub crc-quads : (v : Parts) (quads : List ℕ) (place crc : ℕ) → HasLayout quads →
    parts_of quads ≡ v → 1 + v.info_len ≤ place → place < length (rom_quads v) → crc < 2 ^ 16 →
    rom_quads (parts_of (slice_set quads place (with_crc (slice_index quads place) crc)))
    ≡ slice_set (rom_quads v) place (with_crc (slice_index (rom_quads v) place) crc)
crc-quads v quads place crc h is behind there fits =
    let same : quads ≡ rom_quads v = sym (rom_quads-parts_of quads h) ∙ ap rom_quads is in
    let n : info_len_of quads ≡ v.info_len = ap (λ (p : Parts). p.info_len) is in
    rom_quads-parts_of (slice_set quads place (with_crc (slice_index quads place) crc)) (crc-layout quads place crc h (omega (arith, behind, n)) (omega (arith, there, ap length same)) fits)
    ∙ ap (λ qs. slice_set qs place (with_crc (slice_index qs place) crc)) same

-- ---- parts that are given

pub unsealed-rom :
    (info entries rest : List ℕ) (n : ℕ) → 2 ≤ length info → slice_index info 0 ≡ 0x31333934 →
    2 + length info + length entries + length rest ≤ 256 → n < 2 ^ 8 →
    All (λ q. q < 2 ^ 32) info → All (λ q. q < 2 ^ 32) entries → All (λ q. q < 2 ^ 32) rest →
    IsRom (unsealed info n entries rest)
unsealed-rom info entries rest n two name few small a b c =
    let P : ℕ → Type 0 = λ q. q < 2 ^ 32 in
    let tail = All-append P entries rest b c in
    let v : Parts = unsealed info n entries rest in
    record {
      info_is = refl;
      info_two = two;
      name = name;
      few = omega (arith, length-append info (root_header v ∷ (entries ++ rest)), length-append entries rest, few);
      info_len_fits = omega (arith, few);
      crc_length_fits = small;
      crc_fits = omega arith;
      root_crc_fits = omega arith;
      quads_fit = All-cons P (first_quad v) (info ++ (root_header v ∷ (entries ++ rest))) (omega (arith, few, small))
          (All-append P info (root_header v ∷ (entries ++ rest)) a (All-cons P (root_header v) (entries ++ rest) (omega (arith, few)) tail));
    }
