-- A world that was left alone is reached, and one after plain turns was left alone.
use Rattle.std.proofs.Common.{ℕ, sym, subst, arith}
use Rattle.cable_world.specs.World.{CableWorld}
use Rattle.cable_world.specs.Run.{IsReached}
use Rattle.cable_world.proofs.Lemmas.{rests-come, turns-rest}
use Rattle.outcomes.specs.Headline.{IsLeftAlone}
use Rattle.settle.specs.Report.{quiet_turns_of, IsAfterQuiet, HasSettled}
use Rattle.settle.proofs.QuietCount.{turns-enough}

pub left-reached : (w v : CableWorld) → IsReached w → IsLeftAlone w v → IsReached v
left-reached w v r h = rests-come h.rests r

pub settled-after : (w v : CableWorld) → IsReached w → IsAfterQuiet w v → HasSettled v
settled-after w v r is =
    let k : ℕ = quiet_turns_of w in
    record {
      before = w;
      reached = r;
      is = subst (IsLeftAlone w) (sym is)
          (record { turns = k; rests = turns-rest k w; long = omega (arith, turns-enough w) });
    }
