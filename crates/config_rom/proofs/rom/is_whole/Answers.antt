use Rattle.std.proofs.Common.{◌≡◌, ◌/◌, ◌^◌, ap, arith}
use Rattle.std.proofs.lemmas.Bool.Decides.{nat_tests}
use Rattle.quad_lanes.specs.Pairs.{quads_of}
use Rattle.config_rom.specs.Layout.{length_at}
use Rattle.quad_lanes.proofs.Lemmas.{length-quads_of}
use Rattle.config_rom.proofs.rom.is_whole.Goals as goal

pub quad_at-requires : goal.quad_at-requires
quad_at-requires c = omega (arith, c.if-place-count.true, length-quads_of c.args.bytes.now)

pub returns-then-place-count : goal.returns-then-place-count
returns-then-place-count c =
    let count = length-quads_of c.args.bytes.now in
    let len : c.quad_at.result / 2 ^ 16 ≡ length_at (quads_of c.args.bytes.now) c.args.place = ap (λ q. q / 2 ^ 16) c.quad_at.ensures in
    (λ t. grind (arith, nat_tests, count, len, t), λ le. grind (arith, nat_tests, count, len, le))

pub returns-else-place-count : goal.returns-else-place-count
returns-else-place-count c =
    let count = length-quads_of c.args.bytes.now in
    let past = c.if-place-count.false in
    (λ t. absurd (grind (arith, nat_tests, past, t)), λ le. absurd (omega (arith, count, past, le)))
