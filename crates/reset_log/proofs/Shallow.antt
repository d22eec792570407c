-- The values of a log nest a few levels deep, so each of their lines is read back.
use Rattle.std.proofs.Common.{◌≤◌, ℕ, ◌-◌, Bool, true, false, Option, Some, None, List, arith}
use Rattle.std.specs.Prelude.{if◌then◌else◌, nat_lt, codes}
use Rattle.self_id.specs.declared.standard.Standard.{Standard}
use Rattle.topology_stack.specs.Tree.{Tree}
use Rattle.json.specs.Json.{string, Members, member, max_depth}
use Rattle.json.specs.Tree.{depth, members_depth}
use Rattle.bus_json.specs.Text.{numeral}
use Rattle.log_line.specs.declared.line.Origin.{Origin}
use Rattle.log_line.specs.declared.line.Reset.{Reset}
use Rattle.reset_log.specs.declared.cards.Known.{Known}
use Rattle.reset_list.specs.declared.counts.Tally.{Tally}
use Rattle.reset_log.specs.Device.{device_text}
use Rattle.reset_log.specs.Noted.{Noted, since, missing}
use Rattle.reset_list.specs.Counts.{most_of}
use Rattle.reset_list.specs.Json.{IsListTold}
use Rattle.reset_log.specs.Json.{card_value, name_members, known_member, head_members, reset_value, most_members, totals_value}
use Rattle.reset_list.proofs.Lemmas.{told_shallow}

card_shallow : (card : ℕ) → depth (card_value card) ≤ 0
card_shallow card = go (nat_lt card 4294967296)
  where
    go : (b : Bool) → depth (if b then numeral card else string (device_text (card - 4294967296))) ≤ 0
    go true = omega arith
    go false = omega arith

pub name_shallow : (n : ℕ) (r : Reset) (rest : Members) → members_depth (name_members n r rest) ≤ members_depth rest
name_shallow n r rest = omega (arith, card_shallow r.card)

pub known_shallow : (name : List ℕ) (value : Option ℕ) (rest : Members) →
    members_depth (known_member name value rest) ≤ members_depth rest
known_shallow name None rest = omega arith
known_shallow name (Some n) rest = omega arith

pub head_shallow : (n : ℕ) (before : Option Known) (r : Reset) (rest : Members) →
    members_depth (head_members n before r rest) ≤ members_depth rest
head_shallow n before r rest =
    let local = known_member (codes "local") r.local rest in
    let last = member (codes "missing") (numeral (missing before r)) local in
    let after = known_member (codes "after") (since before r) last in
    omega (arith, name_shallow n r (known_member (codes "time") r.time after), known_shallow (codes "time") r.time after, known_shallow (codes "after") (since before r) last, known_shallow (codes "local") r.local rest)

pub reset_shallow : (standard : Standard) (n : ℕ) (before : Option Known) (r : Reset) (origin : Origin) (list : List ℕ) (members : Members) (heard : Option Tree) →
    IsListTold standard origin list members heard → depth (reset_value n before r members) ≤ max_depth
reset_shallow standard n before r origin list members heard told =
    omega (arith, head_shallow n before r members, told_shallow standard origin list members heard told)

most_shallow : (t : Option Tally) → members_depth (most_members t) ≤ 1
most_shallow None = omega arith
most_shallow (Some t) = omega (arith, card_shallow t.card)

pub totals_shallow : (n : Noted) → depth (totals_value n) ≤ max_depth
totals_shallow n = omega (arith, most_shallow (most_of None n.tallies))
