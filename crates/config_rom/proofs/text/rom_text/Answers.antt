use Rattle.std.proofs.Common.{◌≡◌, ◌≤◌, ◌+◌, ◌∙◌, ap, subst, sym, length, List, [], ◌++◌, ℕ}
use Rattle.std.specs.List.{All}
use Rattle.config_rom.specs.declared.block.Block.{Block}
use Rattle.config_rom.specs.Rom.{rom_quads}
use Rattle.config_rom.specs.Text.{first_line, info_lines, block_lines, last_line}
use Rattle.config_rom.proofs.Appended.{four}
use Rattle.config_rom.proofs.Whole.{info_part}
use Rattle.config_rom.proofs.Told.{blocks_inside}
use Rattle.config_rom.proofs.text.rom_text.Goals as goal

pub put_blocks-requires-clause-whole : goal.put_blocks-requires-clause-whole
put_blocks-requires-clause-whole c =
    subst (λ (bs : List Block). All (λ b. b.at + 1 + b.len ≤ length c.quads-quads.result.now) bs) (sym c.as_slice.ensures)
    (subst (λ (qs : List ℕ). All (λ b. b.at + 1 + b.len ≤ length qs) c.args.blocks.now) (sym c.quads-quads.ensures.value)
    (blocks_inside (rom_quads c.args.rom.now) (1 + c.args.rom.now.info_len) c.args.blocks.now c.requires))

pub returns : goal.returns
returns c =
    let v = c.args.rom.now in
    let count : length c.quads-quads.result.now ≡ length (rom_quads v) = ap length c.quads-quads.ensures.value in
    let info : c.from.result ≡ v.info_len = c.from.ensures ∙ c.info_len-info.ensures in
    let over : c.from-2.result ≡ v.crc_length = c.from-2.ensures ∙ c.crc_length.ensures in
    let first : c.put_first.new.out.items ≡ [] ++ first_line (length (rom_quads v)) v.info_len v.crc_length c.info_crc.result =
    c.in_ok-put_first.ensures ∙ ap (λ xs. xs ++ first_line (length c.quads-quads.result.now) c.from.result c.from-2.result c.info_crc.result) c.new-out.ensures.items
    ∙ ap (λ n. [] ++ first_line n c.from.result c.from-2.result c.info_crc.result) count
    ∙ ap (λ n. [] ++ first_line (length (rom_quads v)) n c.from-2.result c.info_crc.result) info
    ∙ ap (λ n. [] ++ first_line (length (rom_quads v)) v.info_len n c.info_crc.result) over
    in
    let infos : c.put_infos.new.out.items ≡ c.put_first.new.out.items ++ info_lines v.info =
    c.in_ok-put_infos.ensures ∙ ap (λ qs. c.put_first.new.out.items ++ info_lines qs) (info_part v c.quads-quads.result.now c.from-3.result c.quads-quads.ensures.valid c.quads-quads.ensures.value (c.from-3.ensures ∙ c.info_len-info.ensures))
    in
    let lines : c.put_blocks.new.out.items ≡ c.put_infos.new.out.items ++ block_lines (rom_quads v) c.args.blocks.now =
    c.in_ok-put_blocks.ensures ∙ ap (λ qs. c.put_infos.new.out.items ++ block_lines qs c.as_slice.result.now) c.quads-quads.ensures.value
    ∙ ap (λ bs. c.put_infos.new.out.items ++ block_lines (rom_quads v) bs) c.as_slice.ensures
    in
    let last : c.put_last.new.out.items ≡ c.put_blocks.new.out.items ++ last_line (length c.args.blocks.now) =
    c.in_ok-put_last.ensures ∙ ap (λ bs. c.put_blocks.new.out.items ++ last_line (length bs)) c.as_slice-2.ensures
    in
    record {
      state = c.info_crc.result;
      state_is = c.info_crc.ensures;
      text_is = four [] (first_line (length (rom_quads v)) v.info_len v.crc_length c.info_crc.result) (info_lines v.info) (block_lines (rom_quads v) c.args.blocks.now) (last_line (length c.args.blocks.now))
          c.put_first.new.out.items c.put_infos.new.out.items c.put_blocks.new.out.items c.put_last.new.out.items first infos lines last;
    }
