use Rattle.std.proofs.Common.{◌≡◌, replicate}
use Rattle.script_told.specs.Bus.{first_bank}
use Rattle.script_bus.proofs.bus.first_banks.Given as goal

abbrev pub invariant-loop : goal.invariant-loop
invariant-loop l = l.banks.items ≡ replicate l.counter first_bank
