use Rattle.std.proofs.Common.{◌≡◌, ℕ, None, ◌+◌, ◌<◌, List, ◌++◌, length, map, take, drop, get_or, set, ap, ◌∙◌, arith}
use Rattle.bus_diff.specs.declared.change.Change.{Change}
use Rattle.bus_diff.specs.declared.change.Change.TheVariants.{Went}
use Rattle.busconf_c.specs.declared.records.ChangeRecord.{ChangeRecord}
use Rattle.busconf_c.specs.Changes.{change_record}
use Rattle.c_records.proofs.Lemmas.{put_next}
use Rattle.busconf_c.proofs.change.tell_changes.Goals as goal

next : (l : List Change) (place old : List ChangeRecord) (i : ℕ) (d : Change) (r : ChangeRecord) →
    r ≡ change_record (get_or l i d) → place ≡ map change_record (take i l) ++ drop i old →
    i < length l → i < length old →
    set place i r ≡ map change_record (take (i + 1) l) ++ drop (i + 1) old
next l place old i d r is so_far here room =
    ap (λ (x : ChangeRecord). set place i x) is ∙ ap (λ (p : List ChangeRecord). set p i (change_record (get_or l i d))) so_far ∙ put_next change_record l old i d here room

abbrev none : Change
none = Went 0 None

pub loop-i-preserved : goal.loop-i-preserved
loop-i-preserved c = next c.args.list.now c.loop-i.place c.args.place.now c.loop-i.i none c.change_record.result c.change_record.ensures c.loop-i.invariant c.loop-i-test.true (omega arith)
