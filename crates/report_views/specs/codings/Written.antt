-- What is written behind what stood there before. No public contract cites this file.
use Rattle.std.specs.Prelude.{◌≡◌, ℕ, Bool, true, false, List, [], ◌∷◌, ◌++◌}
use Rattle.json.specs.Token.{Token, string}
use Rattle.json.specs.Json.{Items, Members}
use Rattle.json.specs.Tree.{json_tokens, items_tokens, members_tokens}
use Rattle.settle.specs.declared.report.Part.{Part}
use Rattle.script_text.specs.ReportText.{Names}
use Rattle.report_views.specs.ReportJson.{IsOutcomeMember, component_value, AreComponents}

-- the name of a node, where a set holds it
abbrev pub held_tokens : Bool → List ℕ → List Token
held_tokens false name = []
held_tokens true name = string name ∷ []

-- members like these are written, and the end of their object
pub record IsWritten (old : List Token) (Are : Members → Type 0) (new : List Token) : Type 0 where
  pub members : Members
  pub told : Are members
  pub is : new ≡ old ++ members_tokens members

-- a component is written
pub record IsComponentWritten (names : Names) (part : Part) (old new : List Token) : Type 0 where
  pub outcome : Members
  pub told : IsOutcomeMember names part.outcome outcome
  pub is : new ≡ old ++ json_tokens (component_value names part outcome)

-- components are written, and the end of their list
pub record AreWritten (names : Names) (parts : List Part) (old new : List Token) : Type 0 where
  pub items : Items
  pub told : AreComponents names parts items
  pub is : new ≡ old ++ items_tokens items
