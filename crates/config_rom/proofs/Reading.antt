-- Bytes without a fault are those of one ROM.
use Rattle.std.proofs.Common.{◌≡◌, ◌⊎◌, inl, inr, ℕ, ◌<◌, Option, Some, None, List, length, refl, ap, sym, ◌∙◌, subst, arith}
use Rattle.std.specs.List.{All}
use Rattle.std.proofs.lemmas.List.Elements.{recursion_from_All, All-from_recursion}
use Rattle.quad_lanes.specs.Pairs.{quads_of, bytes_of}
use Rattle.quad_lanes.proofs.Lemmas.{length-bytes_of}
use Rattle.config_rom.specs.declared.fault.RomFault.{RomFault}
use Rattle.config_rom.specs.Rom.{Parts, IsRom, rom_quads, rom_bytes}
use Rattle.config_rom.specs.Fault.{rom_fault}
use Rattle.config_rom.specs.OneReading.{IsRomOf, EachInputIsARomOrRefused, NoInputIsTwoRoms, NoRomIsRefused}
use Rattle.config_rom.specs.codings.Parts.{parts_of, HasLayout}
use Rattle.config_rom.proofs.Quadlets.{quads_of-bytes_of, bytes_of-quads_of, fit_of}
use Rattle.config_rom.proofs.Whole.{rom_quads-parts_of, parts_of-rom_quads, has_layout, is_rom}
use Rattle.config_rom.proofs.Faults.{bytes_no_fault, layout_of, layout_no_fault, no_fault_of}

pub read_layout : (bytes : List ℕ) → All (λ b. b < 256) bytes → rom_fault bytes ≡ None →
    HasLayout (quads_of bytes)
read_layout bytes fit none =
    layout_of (quads_of bytes) (bytes_no_fault bytes none).1 (All-from_recursion _ _ (fit_of bytes (recursion_from_All _ _ fit)))

pub read_bytes : (bytes : List ℕ) → All (λ b. b < 256) bytes → rom_fault bytes ≡ None →
    rom_bytes (parts_of (quads_of bytes)) ≡ bytes
read_bytes bytes fit none =
    ap bytes_of (rom_quads-parts_of (quads_of bytes) (read_layout bytes fit none)) ∙ bytes_of-quads_of bytes fit (bytes_no_fault bytes none).0

quads_are : (bytes : List ℕ) (v : Parts) → IsRom v → rom_bytes v ≡ bytes →
    quads_of bytes ≡ rom_quads v
quads_are bytes v is e = ap quads_of (sym e) ∙ quads_of-bytes_of (rom_quads v) is.quads_fit

pub read_only : (bytes : List ℕ) (v : Parts) → IsRom v → rom_bytes v ≡ bytes →
    parts_of (quads_of bytes) ≡ v
read_only bytes v is e = ap parts_of (quads_are bytes v is e) ∙ parts_of-rom_quads v is

pub rom_no_fault : (bytes : List ℕ) (v : Parts) → IsRom v → rom_bytes v ≡ bytes →
    rom_fault bytes ≡ None
rom_no_fault bytes v is e =
    let count = length-bytes_of (rom_quads v) in
    let long = ap length e in
    no_fault_of bytes (omega (arith, count, long)) (layout_no_fault (quads_of bytes) (subst HasLayout (sym (quads_are bytes v is e)) (has_layout v is)))

pub some_none : (o : Option RomFault) (f : RomFault) → Some f ≡ o → o ≡ None → ⊥
some_none o f e n = cc

-- ---- one reading

read_or_refused : (bytes : List ℕ) → All (λ b. b < 256) bytes → (o : Option RomFault) →
    rom_fault bytes ≡ o →
    ((v : Parts) × IsRomOf bytes v) ⊎ ((f : RomFault) × (rom_fault bytes ≡ Some f))
read_or_refused bytes fit (Some f) e = inr (f, e)
read_or_refused bytes fit None e = inl (parts_of (quads_of bytes), record { rom = is_rom (quads_of bytes) (read_layout bytes fit e); bytes_are = read_bytes bytes fit e })

pub some_rom : EachInputIsARomOrRefused
some_rom bytes fit = read_or_refused bytes fit (rom_fault bytes) refl

pub one_rom : NoInputIsTwoRoms
one_rom bytes v w a b = sym (read_only bytes v a.rom a.bytes_are) ∙ read_only bytes w b.rom b.bytes_are

pub rom_apart : NoRomIsRefused
rom_apart bytes v f a e = some_none (rom_fault bytes) f (sym e) (rom_no_fault bytes v a.rom a.bytes_are)
