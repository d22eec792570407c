-- A ROM has one text.
use Rattle.std.proofs.Common.{◌≡◌, ◌+◌, List, drop, take, refl, sym, ap, ◌∙◌, arith}
use Rattle.config_rom.specs.declared.crc.CrcState.{CrcState}
use Rattle.config_rom.specs.declared.crc.CrcState.TheVariants.{Good, Bad, Past}
use Rattle.config_rom.specs.declared.block.Block.{Block}
use Rattle.config_rom.specs.Rom.{Parts, rom_quads}
use Rattle.config_rom.specs.Crc.{IsInfoCrc}
use Rattle.config_rom.specs.Text.{text_of}
use Rattle.config_rom.specs.OneReading.{NoRomHasTwoTexts}
use Rattle.config_rom.proofs.Listed.{one_state, one_list}

one_info : (v : Parts) (a b : CrcState) → IsInfoCrc v a → IsInfoCrc v b → a ≡ b
one_info v Past Past h k = refl
one_info v Past Good h k = absurd (omega (arith, h, k.0))
one_info v Past (Bad x y) h k = absurd (omega (arith, h, k.0))
one_info v Good Past h k = absurd (omega (arith, k, h.0))
one_info v (Bad x y) Past h k = absurd (omega (arith, k, h.0))
one_info v Good Good h k = refl
one_info v Good (Bad x y) h k = one_state (take v.crc_length (drop 1 (rom_quads v))) v.crc Good (Bad x y) h.1 k.1
one_info v (Bad x y) Good h k = one_state (take v.crc_length (drop 1 (rom_quads v))) v.crc (Bad x y) Good h.1 k.1
one_info v (Bad x y) (Bad z w) h k = one_state (take v.crc_length (drop 1 (rom_quads v))) v.crc (Bad x y) (Bad z w) h.1 k.1

pub one_text : NoRomHasTwoTexts
one_text v xs ys a b are are' is is' =
    let lists : xs ≡ ys = one_list (rom_quads v) (1 + v.info_len) xs ys are are' in
    is.text_is
    ∙ ap (λ (s : CrcState). text_of v s xs) (one_info v is.state is'.state is.state_is is'.state_is)
    ∙ ap (λ (bs : List Block). text_of v is'.state bs) lists
    ∙ sym is'.text_is
