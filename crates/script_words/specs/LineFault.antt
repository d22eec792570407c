-- What a line is at fault for by its own words, which needs no bus.
use Rattle.std.specs.Prelude.{ℕ, List, [], slice_index_or, Option, Some, None, Err}
use Rattle.port_state.specs.declared.ranges.TimeRanges.{TimeRanges}
use Rattle.script_lines.specs.declared.kind.Kind.{Kind}
use Rattle.script_lines.specs.Line.{ReadsLine}
use Rattle.script_words.specs.Before.{ranges_of}

-- a line has this fault, or none
abbrev pub IsLineFault : TimeRanges → List ℕ → Option Kind → Type 0
IsLineFault times line None = (kind : Kind) → ReadsLine times line (Err kind) → ⊥
IsLineFault times line (Some kind) = ReadsLine times line (Err kind)

-- so has the line of this number, from 0, of a script of these lines
abbrev pub IsFaultAt : List (List ℕ) → ℕ → Option Kind → Type 0
IsFaultAt script number fault =
    IsLineFault (ranges_of script) (slice_index_or script number []) fault
