-- Ages that have room to grow.
use Rattle.std.specs.Prelude.{◌<◌, All}
use Rattle.cable_world.specs.Wire.{Travelling, Wire}

-- each signal under way may get a turn older
abbrev pub AreYoung : Wire → Type 0
AreYoung w = All (λ (t : Travelling). t.age < 255) w.signals
