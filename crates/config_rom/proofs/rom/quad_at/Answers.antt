use Rattle.std.proofs.Common.{◌*◌, length, ap, ◌∙◌, arith, length-drop}
use Rattle.std.proofs.lemmas.List.{take_rest}
use Rattle.byteorder.specs.Endian.{big_number}
use Rattle.config_rom.proofs.Quadlets.{index-quads_of, bytes_there}
use Rattle.config_rom.proofs.rom.quad_at.Goals as goal

pub overflow_mul-place : goal.overflow_mul-place
overflow_mul-place c = let there = bytes_there c.args.bytes.now c.args.place c.requires in omega (arith, there)

pub slice_bounds-read_u32-count : goal.slice_bounds-read_u32-count
slice_bounds-read_u32-count c = let there = bytes_there c.args.bytes.now c.args.place c.requires in omega (arith, there)

pub slice_bounds-read_u32-start : goal.slice_bounds-read_u32-start
slice_bounds-read_u32-start c = let there = bytes_there c.args.bytes.now c.args.place c.requires in omega (arith, there)

pub read_u32-requires : goal.read_u32-requires
read_u32-requires c =
    let there = bytes_there c.args.bytes.now c.args.place c.requires in
    let rest = ap length (take_rest c.args.bytes.now (4 * c.args.place)) in
    omega (arith, there, rest, length-drop (4 * c.args.place) c.args.bytes.now)

pub returns : goal.returns
returns c =
    c.read_u32.ensures ∙ ap (λ xs. big_number 4 xs) (take_rest c.args.bytes.now (4 * c.args.place)) ∙ index-quads_of c.args.bytes.now c.args.place c.requires
