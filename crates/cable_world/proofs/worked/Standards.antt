-- The times of the standards suit a bus up to these delays, in whole ticks: 370 ns of 37 ticks, and 118 ns of 30.
use Rattle.std.proofs.Common.{arith}
use Rattle.self_id.specs.declared.standard.Standard.TheVariants.{Ieee1995, Ieee2000}
use Rattle.port_state.specs.TimeRanges.{AreSuitable}
use Rattle.port_state.specs.StandardTimes.{standard_ranges}

-- 1394a-2000: a long wait of 159 ticks, and a short one of 85 at most
of-2000 : AreSuitable 37 (standard_ranges Ieee2000 37 370)
of-2000 = record {
  counted = record { hold = omega arith; force = omega arith; timeout = omega arith; short = omega arith; long = omega arith };
  hold = omega arith;
  short = omega arith;
  long = omega arith;
  force = omega arith;
}

-- 1394-1995: a short wait of 61 ticks at least
of-1995 : AreSuitable 30 (standard_ranges Ieee1995 30 118)
of-1995 = record {
  counted = record { hold = omega arith; force = omega arith; timeout = omega arith; short = omega arith; long = omega arith };
  hold = omega arith;
  short = omega arith;
  long = omega arith;
  force = omega arith;
}
