-- Lines of JSON, each of which is read as a value by the grammar of JSON (RFC 8259).
use Rattle.std.specs.Prelude.{◌≡◌, ℕ, Option, Some, List, [], ◌++◌}
use Rattle.std.specs.Io.KnownBytes.{Appends}
use Rattle.json.specs.Json.{Json, document}
use Rattle.bus_json.specs.Text.{json_text, json_line}

-- the line of a value, whose text is read back as that value
pub record IsJsonLine (line : List ℕ) : Type 0 where
  pub value : Json
  pub text_is : line ≡ json_line value
  pub read_back : document (json_text value) ≡ Some value

-- such lines, one after the other
pub data AreJsonLines : List ℕ → Type 0 where
  none : AreJsonLines []
  more : (text line : List ℕ) → AreJsonLines text → IsJsonLine line → AreJsonLines (text ++ line)

-- what was gathered behind other bytes is such lines
pub record GathersJsonLines (old new : List ℕ) : Type 0 where
  pub text : List ℕ
  pub lines : AreJsonLines text
  pub gathered : new ≡ old ++ text

-- what was written is such lines
pub record WritesJsonLines (old new : Option (List ℕ)) : Type 0 where
  pub text : List ℕ
  pub lines : AreJsonLines text
  pub wrote : Appends old new text
