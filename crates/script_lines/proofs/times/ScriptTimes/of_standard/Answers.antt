use Rattle.std.proofs.Common.{◌≡◌, sym, arith}
use Rattle.std.specs.Prelude.{Result, Ok}
use Rattle.port_state.specs.declared.ranges.TimeRanges.{TimeRanges}
use Rattle.port_state.specs.declared.ranges.Misfit.{Misfit}
use Rattle.port_state.specs.TimeRanges.{suitable}
use Rattle.port_state.specs.StandardTimes.{standard_ranges}
use Rattle.script_lines.proofs.times.ScriptTimes.of_standard.Goals as goal

pub overflow_cast-result : goal.overflow_cast-result
overflow_cast-result c =
    let r : TimeRanges = standard_ranges c.args.standard c.args.d c.args.nanoseconds in
    let judged : Result TimeRanges Misfit = suitable c.args.d r in
    let is : judged ≡ c.of_standard.result = sym c.of_standard.ensures in
    let fit =
    (c.ranges_are_suitable.ensures.fits c.args.d r c.in-Ok.ranges (rw c.in-Ok.is at is)).1 in
    let few =
    c.standard_times_are_few.ensures.few c.args.standard c.args.d c.args.nanoseconds
    c.requires.some_time c.requires.few fit in
    omega (arith, few)
