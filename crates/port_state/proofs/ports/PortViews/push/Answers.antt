use Rattle.std.proofs.Common.{ℕ, ◌+◌, ◌^◌, ◌<◌, arith}
use Rattle.std.proofs.Math.Pow.{pow-lt}
use Rattle.port_state.proofs.PortLists.{push-ports, ports-counted, all-set}
use Rattle.port_state.specs.declared.port_words.Words.{Words}
use Rattle.port_state.specs.codings.PortWords.{FitsPorts}
use Rattle.port_state.proofs.ports.PortViews.push.Goals as goal

fits-more : (count : ℕ) (w : Words) → FitsPorts count w → FitsPorts (count + 1) w
fits-more count w f =
    let more : 2 ^ count < 2 ^ (count + 1) = pow-lt {i = count} {j = count + 1} (omega arith) in record {
      connected = omega (arith, f.connected);
      high = omega (arith, f.high);
      low = omega (arith, f.low);
      child = omega (arith, f.child);
      asked = omega (arith, f.asked);
      named = omega (arith, f.named);
    }

pub invariant_of-self : goal.invariant_of-self
invariant_of-self c =
    let count = ports-counted c.self.inside.count c.self.inside.words c.args.self.now c.self.view_is in
    let before : FitsPorts (c.self.inside.count + 1) c.self.inside.words = fits-more c.self.inside.count c.self.inside.words c.self.invariant.1 in (
      omega arith,
      c.set.ensures.fits (c.self.inside.count + 1) (omega arith) before,
      all-set c.self.inside.words c.set.new.self c.self.inside.views c.self.inside.count c.from.result c.args.port c.from.ensures (omega arith) c.self.invariant.2 c.set.ensures.ports,
    )

pub returns : goal.returns
returns c =
    rw (← c.self.view_is)
    (push-ports c.self.inside.count c.self.inside.words c.set.new.self c.args.port c.set.ensures.ports)
