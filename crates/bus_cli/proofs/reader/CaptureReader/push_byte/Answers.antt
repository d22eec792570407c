use Rattle.std.proofs.Common.{◌∷◌, [], refl, subst, sym, ◌∙◌, length-append, arith}
use Rattle.bus_cli.specs.codings.Pieces.{Pieces, HoldsBytes}
use Rattle.bus_cli.proofs.Gathering.{byte_fits, holds_byte, holds_pair}
use Rattle.bus_cli.proofs.reader.CaptureReader.push_byte.Goals as goal

pub returns-in-Some : goal.returns-in-Some
returns-in-Some c = λ bytes h small.
    let was = subst (λ (r : Pieces). HoldsBytes r bytes) (sym c.self.view_is) h in
    holds_pair _ c.push_pair.new.self c.in-Some.first c.in-Some.second bytes (c.args.byte ∷ []) c.deref.result.now (was (omega (arith, small, length-append bytes (c.args.byte ∷ [])))) (byte_fits c.args.byte (omega (arith, c.ranges.byte.fits))) small
    (c.deref.ensures.0 ∙ c.push.ensures.items) (c.in-Some.ensures.eight.0 refl) c.in-Some.ensures.pair (c.push_pair.ensures.rest ∙ c.clear.ensures) c.push_pair.ensures.pairs c.push_pair.ensures.bad c.push_pair.ensures.list

pub returns-in_default : goal.returns-in_default
returns-in_default c = λ bytes h small.
    let was = subst (λ (r : Pieces). HoldsBytes r bytes) (sym c.self.view_is) h in
    holds_byte _ c.args.byte bytes _ (was (omega (arith, small, length-append bytes (c.args.byte ∷ [])))) (omega (arith, c.ranges.byte.fits)) c.push.ensures.items
