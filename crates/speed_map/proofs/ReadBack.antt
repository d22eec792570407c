-- The rows that an image tells, and its one fault where it has one.
use Rattle.std.proofs.Common.{◌≡◌, ℕ, zero, suc, ◌+◌, ◌-◌, ◌*◌, ◌/◌, ◌%◌, ◌^◌, ◌<◌, ◌≤◌, List, [], ◌∷◌, ◌++◌, length, take, drop, refl, sym, ap, subst, ◌∙◌, arith}
use Rattle.std.specs.Prelude.{slice_index}
use Rattle.std.specs.List.{All, AllByRecursion}
use Rattle.std.proofs.lemmas.List.Elements.{recursion_from_All}
use Rattle.quad_lanes.specs.Pairs.{quads_of, bytes_of}
use Rattle.quad_lanes.proofs.Lemmas.{all_quadlets, quads-bytes, bytes-quads, length-bytes_of, length-quads_of}
use Rattle.topology_map.specs.Crc.{IsCrc}
use Rattle.topology_map.specs.Sealed.{IsSealed}
use Rattle.topology_map.proofs.Lemmas.{one_crc, joined, split}
use Rattle.speed_map.specs.declared.fault.ImageFault.{ImageFault}
use Rattle.speed_map.specs.declared.fault.ImageFault.TheVariants.{Length, Crc, Rows, Memory}
use Rattle.speed_map.specs.Image.{IsImage, Refused}
use Rattle.speed_map.specs.codings.Bytes.{TellsMap}

-- what stands behind the second quadlet
whole_take : (n : ℕ) (xs : List ℕ) → length xs ≤ n → take n xs ≡ xs
whole_take zero [] le = refl
whole_take zero (x ∷ xs) le = absurd (omega (arith, le))
whole_take (suc n) [] le = refl
whole_take (suc n) (x ∷ xs) le = ap (λ (l : List ℕ). x ∷ l) (whole_take n xs (omega (arith, le)))

pub behind_two : (quads : List ℕ) → take (length quads - 2) (drop 2 quads) ≡ drop 2 quads
behind_two [] = whole_take (0 - 2) [] (omega arith)
behind_two (a ∷ []) = whole_take (length (a ∷ []) - 2) [] (omega arith)
behind_two (a ∷ b ∷ quads) = whole_take (length (a ∷ b ∷ quads) - 2) quads (omega arith)

-- ---- parts

sixteen : (n : ℕ) → n % 16 ≡ 0 → (4 * n) % 64 ≡ 0
sixteen n e = omega (arith, e)

-- the image of the rows that its quadlets hold
image_of : (quads : List ℕ) → TellsMap quads →
    IsSealed (slice_index quads 1 ∷ drop 2 quads) quads
image_of [] w = absurd (let h = w.length_told.two in omega arith)
image_of (a ∷ []) w = absurd (let h = w.length_told.two in omega arith)
image_of (first ∷ generation ∷ list) w = record {
  crc = first % 2 ^ 16;
  crc_is = w.crc_told;
  quads_are = ap (λ (n : ℕ). n ∷ generation ∷ list) (split first (suc (length list)) w.length_told.told);
}

fit_behind : (quads : List ℕ) → AllByRecursion (λ q. q < 2 ^ 32) quads →
    AllByRecursion (λ q. q < 2 ^ 32) (drop 2 quads)
fit_behind [] fit = tt
fit_behind (a ∷ []) fit = tt
fit_behind (a ∷ b ∷ quads) fit = fit.1.1

pub is_image : (quads rows : List ℕ) → TellsMap quads → ((i : ℕ) → slice_index quads i < 2 ^ 32) →
    rows ≡ bytes_of (drop 2 quads) → IsImage (slice_index quads 1) rows quads
is_image quads rows w fit e =
    let fit_all : AllByRecursion (λ q. q < 2 ^ 32) quads = recursion_from_All _ _ (all_quadlets quads fit) in
    let same : quads_of rows ≡ drop 2 quads = ap quads_of e ∙ quads-bytes (drop 2 quads) (fit_behind quads fit_all) in
    let count : length rows ≡ 4 * length (drop 2 quads) = ap length e ∙ length-bytes_of (drop 2 quads) in
    record {
      whole = ap (λ (n : ℕ). n % 64) count ∙ sixteen (length (drop 2 quads)) w.rows_told.whole;
      few = omega (arith, count, w.rows_told.few);
      image = subst (λ (l : List ℕ). IsSealed (slice_index quads 1 ∷ l) quads) (sym same) (image_of quads w);
    }

-- the parts of an image
pub record PartsAre (quads : List ℕ) (generation : ℕ) (rows : List ℕ) : Type 0 where
  pub whole : TellsMap quads
  pub generation_is : slice_index quads 1 ≡ generation
  pub rows_are : bytes_of (drop 2 quads) ≡ rows

quarter : (n m : ℕ) → m ≡ n / 4 → n % 64 ≡ 0 → n ≤ 4032 → (m % 16 ≡ 0) × (m ≤ 1008) × (n % 4 ≡ 0)
quarter n m e whole few = (omega (arith, e, whole), omega (arith, e, few), omega (arith, whole))

pub parts_are : (generation : ℕ) (rows quads : List ℕ) → All (λ b. b < 256) rows →
    IsImage generation rows quads → PartsAre quads generation rows
parts_are generation rows quads fit h =
    let body = generation ∷ quads_of rows in
    let i = h.image in
    let first = 2 ^ 16 * length body + i.crc in
    let j = joined (length body) i.crc i.crc_is.degree in
    let told : first / 2 ^ 16 + 1 ≡ length (first ∷ body) = rw j.0 (omega arith) in
    let two : 2 ≤ length (first ∷ body) = omega arith in
    let q = quarter (length rows) (length (quads_of rows)) (length-quads_of rows) h.whole h.few in
    let parts : PartsAre (first ∷ body) generation rows = record {
      whole = record {
        length_told = record { two = two; told = told };
        crc_told = subst (λ (n : ℕ). IsCrc body n) (sym j.1) i.crc_is;
        rows_told = record { whole = q.0; few = q.1 };
      };
      generation_is = refl;
      rows_are = bytes-quads rows (recursion_from_All _ _ fit) q.2;
    } in
    subst (λ (q : List ℕ). PartsAre q generation rows) (sym i.quads_are) parts

-- ---- faults

pub no_fault : (quads : List ℕ) (f : ImageFault) → TellsMap quads → Refused quads f → ⊥
no_fault quads (Length fnd) w r = r.0 w.length_told
no_fault quads (Crc kept computed) w r = r.3 (r.1 ∙ one_crc (drop 1 quads) _ computed w.crc_told r.2)
no_fault quads (Rows fnd) w r = r.2 w.rows_told
no_fault quads (Memory e) w r = r

pub one_fault : (quads : List ℕ) (f g : ImageFault) → Refused quads f → Refused quads g → f ≡ g
one_fault quads (Length m) (Length n) r s = ap Length (r.1 ∙ sym s.1)
one_fault quads (Length m) (Crc kept computed) r s = absurd (r.0 s.0)
one_fault quads (Length m) (Rows fnd) r s = absurd (r.0 s.0)
one_fault quads (Crc kept computed) (Length n) r s = absurd (s.0 r.0)
one_fault quads (Crc kept computed) (Crc kept' computed') r s =
    ap (λ (k : ℕ). Crc k computed) (r.1 ∙ sym s.1) ∙ ap (λ (k : ℕ). Crc kept' k) (one_crc (drop 1 quads) computed computed' r.2 s.2)
one_fault quads (Crc kept computed) (Rows fnd) r s = absurd (r.3 (r.1 ∙ one_crc (drop 1 quads) _ computed s.1 r.2))
one_fault quads (Rows fnd) (Length n) r s = absurd (s.0 r.0)
one_fault quads (Rows fnd) (Crc kept computed) r s = absurd (s.3 (s.1 ∙ one_crc (drop 1 quads) _ computed r.1 s.2))
one_fault quads (Rows m) (Rows n) r s = ap Rows (r.3 ∙ sym s.3)
one_fault quads (Memory e) g r s = absurd r
one_fault quads f (Memory e) r s = absurd s
