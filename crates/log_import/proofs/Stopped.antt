-- What an answer and a fault of the sink say of a source: it was not too long.
use Rattle.std.proofs.Common.{◌≡◌, ◌↔◌, ℕ, Option, Some, None, Result, Ok, Err, List}
use Rattle.io_edges.specs.Told.{IfTold, TookOver}
use Rattle.io_edges.specs.declared.stop.ReadStop.{ReadStop}
use Rattle.io_edges.specs.declared.stop.ReadStop.TheVariants.{TooLong as ReadTooLong}
use Rattle.log_import.specs.declared.outcome.Outcome.{Outcome}
use Rattle.reset_list.specs.declared.stop.LogStop.{LogStop}
use Rattle.reset_list.specs.declared.stop.LogStop.TheVariants.{WriteFault, TooLong}

-- an answer comes only where no source was too long
pub answered : {V : Type 0} (v : V) (o : Outcome) (before after : Option (List ℕ)) →
    IfTold before after (λ old new. (◌≡◌ {A = Result V ReadStop} (Ok v) (Err ReadTooLong)) ↔ TookOver 1073741824 old new) →
    IfTold before after (λ old new. (◌≡◌ {A = Result Outcome LogStop} (Ok o) (Err TooLong)) ↔ TookOver 1073741824 old new)
answered v o None after h = tt
answered v o (Some a) None h = tt
answered v o (Some a) (Some b) h = ((λ e. absurd cc), (λ over. let e = h.1 over in absurd cc))

-- a fault of the sink comes only where no source was too long
pub not_too_long : {V : Type 0} (v : V) (before after : Option (List ℕ)) →
    IfTold before after (λ old new. (◌≡◌ {A = Result V ReadStop} (Ok v) (Err ReadTooLong)) ↔ TookOver 1073741824 old new) →
    IfTold before after (λ old new. (◌≡◌ {A = Result Outcome LogStop} (Err WriteFault) (Err TooLong)) ↔ TookOver 1073741824 old new)
not_too_long v None after h = tt
not_too_long v (Some a) None h = tt
not_too_long v (Some a) (Some b) h = ((λ e. absurd cc), (λ over. let e = h.1 over in absurd cc))
