-- The parts that an image tells, and its one fault where it has one.
use Rattle.std.proofs.Common.{◌≡◌, ℕ, suc, ◌+◌, ◌*◌, ◌/◌, ◌%◌, ◌^◌, ◌<◌, ◌≤◌, List, [], ◌∷◌, length, drop, Result, Ok, Err, refl, sym, ap, subst, ◌∙◌, arith}
use Rattle.std.specs.Prelude.{slice_index, IfOk}
use Rattle.topology_map.specs.declared.fault.ImageFault.{ImageFault}
use Rattle.topology_map.specs.declared.fault.ImageFault.TheVariants.{Length, Crc, Counts, Memory}
use Rattle.topology_map.specs.Crc.{IsCrc}
use Rattle.topology_map.specs.Sealed.{IsSealed}
use Rattle.topology_map.specs.Map.{counts_of, IsMap, Refused}
use Rattle.self_id.specs.Group.{node_count}
use Rattle.topology_map.specs.codings.Told.{TellsNodes}
use Rattle.topology_map.proofs.Division.{one_crc}

pub split : (first n : ℕ) → first / 2 ^ 16 + 1 ≡ suc n → first ≡ 2 ^ 16 * n + first % 2 ^ 16
split first n e = omega arith

pub joined : (n crc : ℕ) → crc < 2 ^ 16 →
    ((2 ^ 16 * n + crc) / 2 ^ 16 ≡ n) × ((2 ^ 16 * n + crc) % 2 ^ 16 ≡ crc)
joined n crc fits = (omega arith, omega arith)

-- quadlets that break no rule are the image of these parts
pub is_map : (quads : List ℕ) (nodes : ℕ) → TellsNodes quads nodes →
    IsMap (slice_index quads 1) nodes (drop 3 quads) quads
is_map [] nodes w = absurd (let h = w.length_told.three in omega arith)
is_map (a ∷ []) nodes w = absurd (let h = w.length_told.three in omega arith)
is_map (a ∷ b ∷ []) nodes w = absurd (let h = w.length_told.three in omega arith)
is_map (first ∷ generation ∷ counts ∷ list) nodes w = record {
  nodes_are = w.nodes_are;
  image = record {
    crc = first % 2 ^ 16;
    crc_is = subst (λ (n : ℕ). IsCrc (generation ∷ n ∷ list) (first % 2 ^ 16)) w.counts_told w.crc_told;
    quads_are =
        ap (λ (n : ℕ). n ∷ generation ∷ counts ∷ list) (split first (suc (suc (length list))) w.length_told.told)
        ∙ ap (λ (n : ℕ). (2 ^ 16 * suc (suc (length list)) + first % 2 ^ 16) ∷ generation ∷ n ∷ list) w.counts_told;
  };
}

-- the parts of an image
pub record PartsAre (quads : List ℕ) (generation nodes : ℕ) (list : List ℕ) : Type 0 where
  pub whole : TellsNodes quads nodes
  pub generation_is : slice_index quads 1 ≡ generation
  pub list_is : drop 3 quads ≡ list

pub parts_are : (generation nodes : ℕ) (list quads : List ℕ) → IsMap generation nodes list quads →
    PartsAre quads generation nodes list
parts_are generation nodes list quads h =
    let body = generation ∷ counts_of list ∷ list in
    let i = h.image in
    let first = 2 ^ 16 * length body + i.crc in
    let j = joined (length body) i.crc i.crc_is.degree in
    let told : first / 2 ^ 16 + 1 ≡ length (first ∷ body) = rw j.0 (omega arith) in
    let three : 3 ≤ length (first ∷ body) = omega arith in
    let parts : PartsAre (first ∷ body) generation nodes list = record {
      whole = record {
        length_told = record { three = three; told = told };
        crc_told = subst (λ (n : ℕ). IsCrc body n) (sym j.1) i.crc_is;
        counts_told = refl;
        nodes_are = h.nodes_are;
      };
      generation_is = refl;
      list_is = refl;
    } in
    subst (λ (q : List ℕ). PartsAre q generation nodes list) (sym i.quads_are) parts

pub no_fault : (quads : List ℕ) (nodes : ℕ) (f : ImageFault) → TellsNodes quads nodes →
    Refused quads f → ⊥
no_fault quads nodes (Length fnd) w r = r.0 w.length_told
no_fault quads nodes (Crc kept computed) w r = r.3 (r.1 ∙ one_crc (drop 1 quads) _ computed w.crc_told r.2)
no_fault quads nodes (Counts kept fnd) w r = r.4 (r.2 ∙ w.counts_told ∙ sym r.3)
no_fault quads nodes (Memory e) w r = r

pub one_fault : (quads : List ℕ) (f g : ImageFault) → Refused quads f → Refused quads g → f ≡ g
one_fault quads (Length m) (Length n) r s = ap Length (r.1 ∙ sym s.1)
one_fault quads (Length m) (Crc kept computed) r s = absurd (r.0 s.0)
one_fault quads (Length m) (Counts kept fnd) r s = absurd (r.0 s.0)
one_fault quads (Crc kept computed) (Length n) r s = absurd (s.0 r.0)
one_fault quads (Crc kept computed) (Crc kept' computed') r s =
    ap (λ (k : ℕ). Crc k computed) (r.1 ∙ sym s.1) ∙ ap (λ (k : ℕ). Crc kept' k) (one_crc (drop 1 quads) computed computed' r.2 s.2)
one_fault quads (Crc kept computed) (Counts kept' fnd) r s = absurd (r.3 (r.1 ∙ one_crc (drop 1 quads) _ computed s.1 r.2))
one_fault quads (Counts kept fnd) (Length n) r s = absurd (s.0 r.0)
one_fault quads (Counts kept fnd) (Crc kept' computed) r s = absurd (s.3 (s.1 ∙ one_crc (drop 1 quads) _ computed r.1 s.2))
one_fault quads (Counts kept fnd) (Counts kept' fnd') r s =
    ap (λ (k : ℕ). Counts k fnd) (r.2 ∙ sym s.2) ∙ ap (λ (k : ℕ). Counts kept' k) (r.3 ∙ sym s.3)
one_fault quads (Memory e) g r s = absurd r
one_fault quads f (Memory e) r s = absurd s

-- a sealed body that tells a generation, the counts and a list is the image of these parts
pub sealed_map : {E : Type 0} (r : Result (List ℕ) E) (body : List ℕ) (generation nodes : ℕ) (list : List ℕ) →
    body ≡ generation ∷ counts_of list ∷ list → nodes ≡ node_count list →
    IfOk r (λ quads. IsSealed body quads) → IfOk r (λ quads. IsMap generation nodes list quads)
sealed_map (Ok quads) body generation nodes list e n h = record { nodes_are = n; image = subst (λ (b : List ℕ). IsSealed b quads) e h }
sealed_map (Err x) body generation nodes list e n h = tt
