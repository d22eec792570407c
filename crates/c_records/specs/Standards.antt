-- A standard goes by the year of its number.
use Rattle.std.specs.Prelude.{ℕ, ◌==◌, if◌then◌else◌, Option, Some, None}
use Rattle.self_id.specs.declared.standard.Standard.{Standard}
use Rattle.self_id.specs.declared.standard.Standard.TheVariants.{Ieee1995, Ieee2000}

abbrev pub standard_of : ℕ → Option Standard
standard_of year =
    if year == 1995 then Some Ieee1995 else (if year == 2000 then Some Ieee2000 else None)
