-- What is shown of the resets of a log for programs: a value for each.
use Rattle.std.specs.Prelude.{◌≡◌, ℕ, ◌-◌, nat_lt, true, if◌then◌else◌, Option, Some, None, List, [], ◌∷◌, ◌++◌, map, length, codes}
use Rattle.self_id.specs.declared.standard.Standard.{Standard}
use Rattle.topology_stack.specs.Tree.{Tree}
use Rattle.json.specs.Json.{Json, string, boolean, object, Members, no_members, member}
use Rattle.bus_json.specs.Text.{numeral, json_line}
use Rattle.bus_json.specs.Bus.{with_schema}
use Rattle.log_line.specs.declared.line.Reset.{Reset}
use Rattle.reset_log.specs.declared.cards.Known.{Known}
use Rattle.reset_list.specs.declared.counts.Tally.{Tally}
use Rattle.reset_log.specs.declared.notes.Pending.{Pending}
use Rattle.reset_log.specs.Device.{device_text}
use Rattle.reset_log.specs.Noted.{Noted, since, missing}
use Rattle.reset_list.specs.Counts.{most_of}
use Rattle.reset_list.specs.Json.{IsListTold}

-- its number, or the name of its device
abbrev pub card_value : ℕ → Json
card_value card =
    if nat_lt card 4294967296 then numeral card else string (device_text (card - 4294967296))

-- the line of the log, the card and the generation
abbrev pub name_members : ℕ → Reset → Members → Members
name_members number r rest =
    member (codes "line") (numeral number)
    (member (codes "card") (card_value r.card)
    (member (codes "generation") (numeral r.generation) rest))

-- a number, where it is known
abbrev pub known_member : List ℕ → Option ℕ → Members → Members
known_member key None rest = rest
known_member key (Some n) rest = member key (numeral n) rest

-- and in microseconds when it was and how long the card's reset before is past, how many are missing between, and
-- which node the card itself is
abbrev pub head_members : ℕ → Option Known → Reset → Members → Members
head_members number before r rest =
    name_members number r
    (known_member (codes "time") r.time
    (known_member (codes "after") (since before r)
    (member (codes "missing") (numeral (missing before r))
    (known_member (codes "local") r.local rest))))

abbrev pub reset_value : ℕ → Option Known → Reset → Members → Json
reset_value number before r members = with_schema (head_members number before r members)

-- the line of a reset, by what its list is told as
pub record IsResetTold (standard : Standard) (number : ℕ) (before : Option Known) (r : Reset)
    (text : List ℕ) (heard : Option Tree) : Type 0 where
  pub members : Members
  pub told : IsListTold standard r.origin r.list members heard
  pub text_is : text ≡ json_line (reset_value number before r members)

-- the controller says that it failed
abbrev pub unjudged_value : ℕ → Option Known → Reset → Json
unjudged_value number before r =
    reset_value number before r (member (codes "is_error") (boolean true) no_members)

-- the log doesn't have so many of its packets
abbrev pub lacking_value : ℕ → Option Known → Reset → ℕ → Json
lacking_value number before r lacks =
    reset_value number before r (member (codes "lacks") (numeral lacks) no_members)

-- a reset whose last packets the log doesn't have: how many they are
abbrev pub cut_off_value : Pending → Json
cut_off_value p =
    with_schema (name_members p.number p.reset (member (codes "lacks") (numeral p.left) no_members))

-- ---- other lines

abbrev pub line_value : ℕ → Members → Json
line_value number members = with_schema (member (codes "line") (numeral number) members)

abbrev pub garbled_value : ℕ → Json
garbled_value number = line_value number (member (codes "garbled") (boolean true) no_members)

abbrev pub lost_value : ℕ → Json
lost_value number = line_value number (member (codes "lost") (boolean true) no_members)

-- what isn't ASCII is a question mark
abbrev pub ascii : ℕ → ℕ
ascii b = if nat_lt b 128 then b else 63

-- what the kernel says, and when
abbrev pub told_value : ℕ → Option ℕ → List ℕ → Json
told_value number time words =
    line_value number
    (known_member (codes "time") time
    (member (codes "kernel") (string (map ascii words)) no_members))

-- ---- the end of a log

abbrev pub most_members : Option Tally → Members
most_members None = no_members
most_members (Some t) =
    member (codes "most")
    (object
    (member (codes "card") (card_value t.card)
    (member (codes "node") (numeral t.node)
    (member (codes "count") (numeral t.count) no_members)))) no_members

abbrev pub totals_value : Noted → Json
totals_value n =
    with_schema
    (member (codes "totals")
    (object
    (member (codes "resets") (numeral n.counts.resets)
    (member (codes "refused") (numeral n.counts.refused)
    (member (codes "cards") (numeral (length n.cards)) (most_members (most_of None n.tallies)))))) no_members)

abbrev pub cut_off_lines : List (ℕ × Pending) → List ℕ
cut_off_lines [] = []
cut_off_lines (e ∷ es) = json_line (cut_off_value e.1) ++ cut_off_lines es

abbrev pub totals_lines : Noted → List ℕ
totals_lines n = cut_off_lines n.pending ++ json_line (totals_value n)
