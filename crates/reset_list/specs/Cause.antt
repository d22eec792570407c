-- Why a log wasn't shown on.
use Rattle.std.specs.Prelude.{ℕ}
use Rattle.io_edges.specs.Faults.{Rose}
use Rattle.reset_list.specs.declared.stop.LogStop.{LogStop}
use Rattle.reset_list.specs.declared.stop.LogStop.TheVariants.{ReadFault, WriteFault, TooLong, Memory}

-- a writer stopped, as the sink failed, or there was no memory
abbrev pub StoppedWriting : (before after : ℕ) → LogStop → Type 0
StoppedWriting before after ReadFault = ⊥
StoppedWriting before after WriteFault = Rose before after
StoppedWriting before after TooLong = ⊥
StoppedWriting before after (Memory error) = Unit {0}
