-- Times in microseconds, where they are known.
use Rattle.std.specs.Prelude.{ℕ, ◌-◌, nat_le, min, if◌then◌else◌, Option, Some, None}

-- how long one moment is past at another one that isn't before it
abbrev pub between : Option ℕ → Option ℕ → Option ℕ
between None now = None
between (Some past) None = None
between (Some past) (Some now) = if nat_le past now then Some (now - past) else None

-- the shorter of two times, or the one that is known
abbrev pub shorter : Option ℕ → Option ℕ → Option ℕ
shorter None other = other
shorter (Some one) None = Some one
shorter (Some one) (Some other) = Some (min one other)
