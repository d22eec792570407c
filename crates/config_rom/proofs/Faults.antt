-- Quadlets without a fault are those of a ROM, and the other way round.
use Rattle.std.proofs.Common.{◌≡◌, ◌≢◌, ℕ, ◌+◌, ◌/◌, ◌%◌, ◌^◌, ◌<◌, ◌≤◌, Bool, true, false, cond, eqb, nat_lt, Option, Some, None, List, length, refl, ap, sym, ◌∙◌, arith}
use Rattle.std.specs.Prelude.{slice_index, not}
use Rattle.std.specs.List.{All}
use Rattle.std.proofs.lemmas.Bool.Decides.{nat_tests}
use Rattle.quad_lanes.specs.Pairs.{quads_of}
use Rattle.config_rom.specs.declared.fault.RomFault.{RomFault}
use Rattle.config_rom.specs.declared.fault.RomFault.TheVariants.{RomLength, RomTooLong, RomEmpty, NoInfo, Minimal, RomCut, BusName}
use Rattle.config_rom.specs.Layout.{info_len_of, root_of, end_of}
use Rattle.config_rom.specs.Fault.{quads_fault, rom_fault}
use Rattle.config_rom.specs.codings.Parts.{HasLayout}
use Rattle.quad_lanes.proofs.Lemmas.{length-quads_of}

-- the tests on numbers alone
abbrev first_fault : (count info root end name : ℕ) → Option RomFault
first_fault count info root end name =
    cond (nat_lt 256 count) (Some (RomTooLong 256))
    (cond (eqb count 0) (Some (RomEmpty 0))
    (cond (eqb info 0) (Some (NoInfo 0))
    (cond (eqb info 1) (Some (Minimal 0))
    (cond (nat_lt count root) (Some (RomCut count))
    (cond (not (eqb name 0x31333934)) (Some (BusName 1 name))
    (cond (nat_lt count end) (Some (RomCut count)) None))))))

record Passes (count info root end name : ℕ) : Type 0 where
  few : count ≤ 256
  info_two : 2 ≤ info
  info_whole : root ≤ count
  name_is : name ≡ 0x31333934
  root_whole : end ≤ count

passes : (count info root end name : ℕ) → first_fault count info root end name ≡ None →
    Passes count info root end name
passes count info root end name e = record {
  few = grind (arith, nat_tests, e);
  info_two = grind (arith, nat_tests, e);
  info_whole = grind (arith, nat_tests, e);
  name_is = grind (arith, nat_tests, e);
  root_whole = grind (arith, nat_tests, e);
}

no_first_fault : (count info root end name : ℕ) → Passes count info root end name →
    root ≡ 1 + info → first_fault count info root end name ≡ None
no_first_fault count info root end name p e =
    let few = p.few in
    let two = p.info_two in
    let whole = p.info_whole in
    let is = p.name_is in
    let all = p.root_whole in
    grind (arith, nat_tests, few, two, whole, is, all, e)

pub layout_of : (quads : List ℕ) → quads_fault quads ≡ None → All (λ q. q < 2 ^ 32) quads →
    HasLayout quads
layout_of quads e fit =
    let p = passes (length quads) (info_len_of quads) (root_of quads) (end_of quads (root_of quads)) (slice_index quads 1) e in
    record { few = p.few; info_two = p.info_two; info_whole = p.info_whole; name = p.name_is; root_whole = p.root_whole; fit = fit }

pub layout_no_fault : (quads : List ℕ) → HasLayout quads → quads_fault quads ≡ None
layout_no_fault quads h =
    no_first_fault (length quads) (info_len_of quads) (root_of quads) (end_of quads (root_of quads)) (slice_index quads 1)
    (record { few = h.few; info_two = h.info_two; info_whole = h.info_whole; name_is = h.name; root_whole = h.root_whole }) refl

-- of bytes
abbrev length_first : (rest : ℕ) (count : ℕ) (fault : Option RomFault) → Option RomFault
length_first rest count fault = cond (not (eqb rest 0)) (Some (RomLength count)) fault

whole_quads : (rest count : ℕ) (fault : Option RomFault) → length_first rest count fault ≡ None →
    (rest ≡ 0) × (fault ≡ None)
whole_quads rest count fault e = go (eqb rest 0) refl
  where
    none_some : (n : ℕ) (o : Option RomFault) → o ≡ None → o ≡ Some (RomLength n) → ⊥
    none_some n o g h = cc

    go : (b : Bool) → eqb rest 0 ≡ b → (rest ≡ 0) × (fault ≡ None)
    go true t = (grind (arith, nat_tests, t), sym (ap (λ b. cond (not b) (Some (RomLength count)) fault) t) ∙ e)
    go false t = absurd (none_some count (length_first rest count fault) e (ap (λ b. cond (not b) (Some (RomLength count)) fault) t))

pub bytes_no_fault : (bytes : List ℕ) → rom_fault bytes ≡ None →
    (length bytes % 4 ≡ 0) × (quads_fault (quads_of bytes) ≡ None)
bytes_no_fault bytes e = whole_quads (length bytes % 4) (length bytes / 4) (quads_fault (quads_of bytes)) e

pub no_fault_of : (bytes : List ℕ) → length bytes % 4 ≡ 0 → quads_fault (quads_of bytes) ≡ None →
    rom_fault bytes ≡ None
no_fault_of bytes whole e = ap (λ n. length_first n (length bytes / 4) (quads_fault (quads_of bytes))) whole ∙ e

-- ---- the fault, test by test

-- what the tests are on, in bytes that are whole quadlets
pub record Tested (bytes : List ℕ) (count info end name : ℕ) : Type 0 where
  pub whole : length bytes % 4 ≡ 0
  pub count_is : count ≡ length bytes / 4
  pub info_is : info ≡ info_len_of (quads_of bytes)
  pub end_is : end ≡ end_of (quads_of bytes) (1 + info)
  pub name_is : name ≡ slice_index (quads_of bytes) 1

pub by_tests : (bytes : List ℕ) (count info end name : ℕ) (f : Option RomFault) →
    Tested bytes count info end name → first_fault count info (1 + info) end name ≡ f →
    rom_fault bytes ≡ f
by_tests bytes count info end name f t e =
    let quads = quads_of bytes in
    let n : length quads ≡ count = length-quads_of bytes ∙ sym t.count_is in
    ap (λ r. length_first r (length bytes / 4) (quads_fault quads)) t.whole
    ∙ ap (λ c. first_fault c (info_len_of quads) (root_of quads) (end_of quads (root_of quads)) (slice_index quads 1)) n
    ∙ ap (λ m. first_fault count (info_len_of quads) (root_of quads) (end_of quads (root_of quads)) m) (sym t.name_is)
    ∙ ap (λ i. first_fault count i (1 + i) (end_of quads (1 + i)) name) (sym t.info_is)
    ∙ ap (λ x. first_fault count info (1 + info) x name) (sym t.end_is)
    ∙ e

pub too_long : (count info end name : ℕ) → 256 < count →
    first_fault count info (1 + info) end name ≡ Some (RomTooLong 256)
too_long count info end name lt = grind (arith, nat_tests)

pub no_info : (count info end name : ℕ) → count ≤ 256 → (count ≡ 0 → ⊥) → info ≡ 0 →
    first_fault count info (1 + info) end name ≡ Some (NoInfo 0)
no_info count info end name few some e = grind (arith, nat_tests)

pub minimal : (count info end name : ℕ) → count ≤ 256 → (count ≡ 0 → ⊥) → info ≡ 1 →
    first_fault count info (1 + info) end name ≡ Some (Minimal 0)
minimal count info end name few some e = grind (arith, nat_tests)

pub cut_info : (count info end name : ℕ) → count ≤ 256 → (count ≡ 0 → ⊥) → 2 ≤ info →
    count < 1 + info → first_fault count info (1 + info) end name ≡ Some (RomCut count)
cut_info count info end name few some two lt = grind (arith, nat_tests)

pub other_bus : (count info end name : ℕ) → count ≤ 256 → 2 ≤ info → 1 + info ≤ count →
    name ≢ 0x31333934 → first_fault count info (1 + info) end name ≡ Some (BusName 1 name)
other_bus count info end name few two le ne = grind (arith, nat_tests)

pub cut_root : (count info end name : ℕ) → count ≤ 256 → 2 ≤ info → 1 + info ≤ count →
    name ≡ 0x31333934 → count < end →
    first_fault count info (1 + info) end name ≡ Some (RomCut count)
cut_root count info end name few two le e lt = grind (arith, nat_tests)

pub no_fault : (count info end name : ℕ) → count ≤ 256 → 2 ≤ info → 1 + info ≤ count →
    name ≡ 0x31333934 → end ≤ count → first_fault count info (1 + info) end name ≡ None
no_fault count info end name few two le e whole = grind (arith, nat_tests)

pub tested : (bytes : List ℕ) (first : ℕ) → length bytes % 4 ≡ 0 →
    first ≡ slice_index (quads_of bytes) 0 →
    Tested bytes (length bytes / 4) (first / 2 ^ 24) (end_of (quads_of bytes) (1 + first / 2 ^ 24)) (slice_index (quads_of bytes) 1)
tested bytes first whole e = record { whole = whole; count_is = refl; info_is = ap (λ q. q / 2 ^ 24) e; end_is = refl; name_is = refl }
