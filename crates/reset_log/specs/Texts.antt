-- The texts that show the lines of a log.
use Rattle.std.specs.Prelude.{ℕ, ◌+◌, ◌/◌, ◌%◌, ◌==◌, if◌then◌else◌, Option, Some, None, List, [], ◌∷◌, ◌++◌, length, codes}
use Rattle.view_text.specs.Packet.{field}
use Rattle.log_line.specs.declared.line.Reset.{Reset}
use Rattle.reset_log.specs.declared.cards.Known.{Known}
use Rattle.reset_list.specs.declared.counts.Tally.{Tally}
use Rattle.reset_list.specs.declared.losses.Loss.{Loss}
use Rattle.reset_log.specs.declared.notes.Pending.{Pending}
use Rattle.reset_log.specs.Device.{card_field}
use Rattle.reset_log.specs.Noted.{Noted, since, missing}
use Rattle.reset_list.specs.Counts.{most_of}

-- `line N garbled`
unfoldable pub garbled : ℕ → List ℕ
garbled number = field (codes "line ") number ++ codes " garbled\n"

-- `line N events are lost`
unfoldable pub lost : ℕ → List ℕ
lost number = field (codes "line ") number ++ codes " events are lost\n"

abbrev pub digit : ℕ → ℕ
digit n = 48 + n % 10

-- seconds, a point and six digits
unfoldable pub seconds : List ℕ → ℕ → List ℕ
seconds word micros =
    field word (micros / 1000000)
    ++ (46 ∷ digit (micros / 100000) ∷ digit (micros / 10000) ∷ digit (micros / 1000)
    ∷ digit (micros / 100) ∷ digit (micros / 10) ∷ digit micros ∷ [])

abbrev pub if_known : List ℕ → Option ℕ → List ℕ
if_known word None = []
if_known word (Some micros) = seconds word micros

-- `line N`, where it is known ` time T`, and what the kernel says there
unfoldable pub told : ℕ → Option ℕ → List ℕ → List ℕ
told number time words =
    field (codes "line ") number
    ++ (if_known (codes " time ") time ++ (codes " " ++ (words ++ codes "\n")))

abbrev pub if_missing : ℕ → List ℕ
if_missing count = if count == 0 then [] else field (codes " missing ") count

-- `line N card C generation G`
unfoldable pub name : ℕ → Reset → List ℕ
name number r =
    field (codes "line ") number
    ++ (card_field (codes " card ") r.card ++ field (codes " generation ") r.generation)

-- where they are known ` time T`, ` after D` of the card's reset before, and ` missing M` of the resets between
unfoldable pub moments : (time after : Option ℕ) → (missing : ℕ) → List ℕ
moments time after missing =
    if_known (codes " time ") time ++ (if_known (codes " after ") after ++ if_missing missing)

-- where it is known, which node the card itself is
abbrev pub if_local : Option ℕ → List ℕ
if_local None = []
if_local (Some id) = field (codes " local ") id

unfoldable pub head : ℕ → Option Known → Reset → List ℕ
head number before r =
    name number r ++ (moments r.time (since before r) (missing before r) ++ if_local r.local)

-- the controller says that it failed
unfoldable pub unjudged : ℕ → Option Known → Reset → List ℕ
unjudged number before r = head number before r ++ codes " is_error, not judged\n"

-- the log doesn't have so many of its packets
unfoldable pub lacking : ℕ → Option Known → Reset → ℕ → List ℕ
lacking number before r lacks =
    head number before r
    ++ (field (codes " not judged, packets missing from the log: ") lacks ++ codes "\n")

-- ---- the end of a log

unfoldable pub begun : Tally → List ℕ
begun t =
    card_field (codes ", most begun by card ") t.card
    ++ (field (codes " node ") t.node ++ field (codes ": ") t.count)

abbrev pub most : Option Tally → List ℕ
most None = []
most (Some t) = begun t

-- a reset whose last packets the log doesn't have
unfoldable pub cut_off : Pending → List ℕ
cut_off p = name p.number p.reset ++ (field (codes " ends without its last packets, ") p.left ++ codes "\n")

-- each of these
abbrev pub all_cut_off : List (ℕ × Pending) → List ℕ
all_cut_off [] = []
all_cut_off (e ∷ es) = cut_off e.1 ++ all_cut_off es

-- where it is known, `, the shortest for T s`
abbrev pub shortest_for : Option ℕ → List ℕ
shortest_for None = []
shortest_for (Some micros) = seconds (codes ", the shortest for ") micros ++ codes " s"

-- `card C port P of node I lost its child: K times`, and for how long it had none
unfoldable pub port_losses : Loss → List ℕ
port_losses l =
    card_field (codes "card ") l.card
    ++ (field (codes " port ") l.port ++ (field (codes " of node ") l.node
    ++ (field (codes " lost its child: ") l.count ++ (codes " times"
    ++ (shortest_for l.shortest ++ codes "\n")))))

abbrev pub all_losses : List Loss → List ℕ
all_losses [] = []
all_losses (l ∷ ls) = port_losses l ++ all_losses ls

-- `resets N refused M cards C`, and `, most begun by card C node I: K`
unfoldable pub totals : Noted → List ℕ
totals n =
    all_cut_off n.pending ++ (field (codes "resets ") n.counts.resets
    ++ (field (codes " refused ") n.counts.refused ++ (field (codes " cards ") (length n.cards)
    ++ (most (most_of None n.tallies) ++ codes "\n"))))
