-- What the notes of a reader say.
use Rattle.reset_log.specs.declared.notes.Notes.{Notes}
use Rattle.reset_log.specs.Noted.{Noted}

abbrev pub noted : Notes → Noted
noted n = record {
  cards = n.cards;
  counts = n.counts;
  tallies = n.tallies;
  losses = n.losses.items;
  pending = n.pending.entries;
}
