-- What the notes of a reader say.
use Rattle.nosy_dump.specs.declared.notes.Notes.{Notes}
use Rattle.nosy_dump.specs.Noted.{Noted}

abbrev pub noted : Notes → Noted
noted n = record { tree = n.tree; counts = n.counts; tallies = n.tallies }
