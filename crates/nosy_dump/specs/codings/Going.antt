-- Where the reader of a dump stands.
use Rattle.std.specs.Prelude.{◌≡◌, ℕ, ◌-◌, ◌+◌, ◌<◌, ◌≤◌, ◌^◌, ◌||◌, Bool, true, false, drop, Option, Some, None, List, [], ◌∷◌, ◌++◌, length}
use Rattle.std.specs.Io.KnownBytes.{Consumes}
use Rattle.io_edges.specs.Told.{StayTold}
use Rattle.self_id.specs.declared.standard.Standard.{Standard}
use Rattle.bus_json.specs.Lines.{AreJsonLines, GathersJsonLines, WritesJsonLines}
use Rattle.reset_list.specs.declared.form.LogForm.{LogForm}
use Rattle.reset_list.specs.declared.form.LogForm.TheVariants.{Json}
use Rattle.reset_list.specs.InOrder.{AreTold}
use Rattle.reset_list.specs.Wrote.{Wrote}
use Rattle.nosy_dump.specs.declared.dump.DumpReader.{DumpReader}
use Rattle.nosy_dump.specs.declared.record.Record.{Record}
use Rattle.nosy_dump.specs.declared.record.DumpReset.{DumpReset}
use Rattle.nosy_dump.specs.Record.{record_bytes, dump_of, AreSized, size_of, is_size, record_of, IsOpen}
use Rattle.nosy_dump.specs.Resets.{resets_from}
use Rattle.nosy_dump.specs.Noted.{Noted, nothing}
use Rattle.nosy_dump.specs.Notes.{noted}
use Rattle.nosy_dump.specs.Dump.{IsResetShown, IsDumpShown}

-- the resets of records are those that another one followed, and the one that waits
abbrev pub AreResets : List (List ℕ) → List DumpReset → Option DumpReset → Type 0
AreResets records ended None = (resets_from 0 records ≡ []) × (ended ≡ [])
AreResets records ended (Some p) = resets_from 0 records ≡ ended ++ p ∷ []

-- it was given nothing
pub record IsNew (r : DumpReader) : Type 0 where
  pub part_is : r.part.items ≡ []
  pub pending_is : r.pending ≡ None
  pub noted_is : noted r.notes ≡ nothing
  pub number_is : r.number ≡ 1
  pub taken_is : r.taken ≡ 0
  pub bad_is : r.bad ≡ false

-- it was given these bytes, this is what is shown of the resets that another one followed, and
-- of the bytes behind the whole records this holds
pub record Knows (Holds : List ℕ → Type 0) (r : DumpReader) (done text : List ℕ) : Type 0 where
  pub records : List (List ℕ)
  pub ended : List DumpReset
  pub done_is : done ≡ dump_of records ++ r.part.items
  pub sized : AreSized records
  pub holds : Holds r.part.items
  pub resets_are : AreResets records ended r.pending
  pub told : AreTold (IsResetShown r.form) 1 nothing ended text r.bad (noted r.notes)
  pub number_is : r.number ≡ length ended + 1
  pub taken_is : r.taken ≡ length done

-- the same, but the last record isn't judged yet: it began at this byte, and tells this
pub record Awaits (r : DumpReader) (byte : ℕ) (last : Record) (done text : List ℕ) : Type 0 where
  pub records : List (List ℕ)
  pub bytes : List ℕ
  pub ended : List DumpReset
  pub done_is : done ≡ dump_of records ++ record_bytes bytes
  pub sized : AreSized records
  pub fits : is_size (length bytes) ≡ true
  pub tells : record_of bytes ≡ last
  pub place_is : byte ≡ length (dump_of records)
  pub part_is : r.part.items ≡ []
  pub resets_are : AreResets records ended r.pending
  pub told : AreTold (IsResetShown r.form) 1 nothing ended text r.bad (noted r.notes)
  pub number_is : r.number ≡ length ended + 1
  pub taken_is : r.taken ≡ length done

-- a record is whole
pub record IsWhole (bytes : List ℕ) : Type 0 where
  pub bytes_are : bytes ≡ record_bytes (drop 4 bytes)
  pub sized : is_size (length (drop 4 bytes)) ≡ true

-- a record is no longer than its length says, where that is there
abbrev pub IsFilled : List ℕ → Type 0
IsFilled bytes = (size : ℕ) → size_of bytes ≡ Some size → length bytes ≤ size + 4

-- a record can't have the length that it begins with
abbrev pub HasBadLength : ℕ → List ℕ → Type 0
HasBadLength size bytes = (size_of bytes ≡ Some size) × (is_size size ≡ false)

-- the reset that waited was shown: what is known before and behind it, and what was gathered
pub record ShowsReset (form : LogForm) (p : DumpReset) (n : ℕ) (t : Noted) (b : Bool)
    (m : ℕ) (u : Noted) (c : Bool) (was is : List ℕ) : Type 0 where
  pub text : List ℕ
  pub here : Bool
  pub shown : IsResetShown form n t p text here u
  pub bad : c ≡ b || here
  pub gathered : is ≡ was ++ text
  pub number_is : n < 2 ^ 64 - 1 → m ≡ n + 1

-- nothing waited, and nothing was done
pub record ShowsNone (n : ℕ) (t : Noted) (b : Bool) (m : ℕ) (u : Noted) (c : Bool)
    (was is : List ℕ) : Type 0 where
  pub notes : u ≡ t
  pub bad : c ≡ b
  pub gathered : is ≡ was
  pub number_is : m ≡ n

abbrev pub ShowsBy :
    LogForm → Option DumpReset → ℕ → Noted → Bool → ℕ → Noted → Bool →
    List ℕ → List ℕ → Type 0
ShowsBy form None n t b m u c was is = ShowsNone n t b m u c was is
ShowsBy form (Some p) n t b m u c was is = ShowsReset form p n t b m u c was is

-- the reset that waited was shown, if one did, and nothing else was changed
pub record ShowsPending (old new : DumpReader) (was is : List ℕ) : Type 0 where
  pub shown :
      ShowsBy old.form old.pending old.number (noted old.notes) old.bad
      new.number (noted new.notes) new.bad was is
  pub form : new.form ≡ old.form
  pub part_is : new.part.items ≡ old.part.items
  pub taken_is : new.taken ≡ old.taken

-- the same, and another reset waits
pub record Begins (byte time : ℕ) (old new : DumpReader) (was is : List ℕ) : Type 0 where
  pub shows : ShowsPending old new was is
  pub pending : new.pending ≡ Some (record { byte = byte; time = time; list = [] })

-- a packet behind those of the reset that waits, if one does
abbrev pub with_packet : ℕ → Option DumpReset → Option DumpReset
with_packet quad None = None
with_packet quad (Some p) = Some (record p { list = p.list ++ quad ∷ [] })

pub record Keeps (quad : ℕ) (old new : DumpReader) : Type 0 where
  pub pending : new.pending ≡ with_packet quad old.pending
  pub same : new ≡ record old { pending = new.pending }

-- behind some bytes, which may end with a length that can't be
abbrev pub Stays : Option ℕ → DumpReader → List ℕ → List ℕ → Type 0
Stays None r done text = Knows IsOpen r done text
Stays (Some size) r done text = Knows (HasBadLength size) r done text

-- behind some bytes, where a length that can't be may have come
abbrev pub Goes : Option ℕ → DumpReader → List ℕ → List ℕ → Type 0
Goes None r done text = Knows IsOpen r done text
Goes (Some size) r done text =
    (front more : List ℕ) × (done ≡ front ++ more) × Knows (HasBadLength size) r front text

-- what is shown of this dump begins so
abbrev pub Opens : LogForm → List ℕ → List ℕ → Type 0
Opens form dump text =
    (all : List ℕ) (bad : Bool) → IsDumpShown form dump all bad →
    (behind : List ℕ) × (all ≡ text ++ behind)

-- what is shown of each dump that begins with these bytes begins so
abbrev pub Leads : LogForm → List ℕ → List ℕ → Type 0
Leads form done text = (left : List ℕ) → Opens form (done ++ left) text

-- a text of which this is known was written
pub record Writes {K : Type 0} (written : K → Option (List ℕ)) (faults : K → ℕ)
    (surely_takes : K → ℕ → Type 0) (Is : List ℕ → Type 0) (old new : K) : Type 0
  where
    pub text : List ℕ
    pub is : Is text
    pub wrote : Wrote written faults surely_takes old new text

-- ---- in the form of lines of JSON

-- such lines
abbrev pub AreAsJson : LogForm → List ℕ → Type 0
AreAsJson form text = (standard : Standard) → form ≡ Json standard → AreJsonLines text

-- what was gathered is such lines
abbrev pub GathersAsJson : LogForm → List ℕ → List ℕ → Type 0
GathersAsJson form was is =
    (standard : Standard) → form ≡ Json standard → GathersJsonLines was is

-- what was written is such lines
abbrev pub WritesAsJson : LogForm → Option (List ℕ) → Option (List ℕ) → Type 0
WritesAsJson form old new =
    (standard : Standard) → form ≡ Json standard → WritesJsonLines old new

-- ---- a call

-- what was read so far, and what was written of it; and the counts of faults of the source and
-- of the sink, before and now
pub record ReadsDump {K : Type 0} (written : K → Option (List ℕ)) (faults : K → ℕ)
    (surely_takes : K → ℕ → Type 0) (r : DumpReader) (form : LogForm)
    (first now : Option (List ℕ)) (was is : K) (reads reading : ℕ) : Type 0
  where
    pub done : List ℕ
    pub came : Consumes first now done
    pub told : StayTold first now
    pub stands : Writes written faults surely_takes (Knows IsOpen r done) was is
    pub small : length done ≤ 9223372036854775807
    pub same : r.form ≡ form
    pub later : reads ≤ reading
    pub wrote_later : faults was ≤ faults is
    pub json : WritesAsJson form (written was) (written is)
