-- The numbers of each command that a line says are in their ranges.
use Rattle.std.proofs.Common.{◌≡◌, ℕ, zero, suc, ◌≤◌, List, [], ◌∷◌, Option, Some, None, Bool, true, false, ◌&&◌, take, drop, length, refl, sym, subst, arith}
use Rattle.std.specs.Prelude.{cond, nat_le, IfSome, slice_get, unwrap_or}
use Rattle.std.specs.Option.{option_and_then}
use Rattle.std.specs.Str.Lines.{strip_carriage_return}
use Rattle.std.proofs.lemmas.Bool.Decides.{nat_tests}
use Rattle.std.proofs.lemmas.Bool.{and_parts}
use Rattle.port_state.specs.declared.ranges.TimeRanges.{TimeRanges}
use Rattle.script_lines.specs.declared.kind.Kind.TheVariants.{Range}
use Rattle.script_lines.specs.declared.key.Key.{Key}
use Rattle.script_lines.specs.declared.key.Key.TheVariants.{Speed, Power, Gap, Hold, Short, Long, Coins}
use Rattle.script_lines.specs.Number.{number_of}
use Rattle.script_lines.specs.Shape.{Shape, the, a_name, a_number, a_given, fits, fit, wrong, first_wrong, out_of}
use Rattle.script_lines.specs.Form as form
use Rattle.script_lines.specs.Form.{Form, shapes, number_at, command_of}
use Rattle.script_lines.specs.Key.{limits}
use Rattle.script_lines.specs.Words.{words_of}
use Rattle.script_lines.specs.Node.{has_node_form, node_shapes, node_command, wrong_node, first_wrong_pair, are_pairs, given, number_given, coins_given}
use Rattle.script_lines.specs.Line.{LineForm, node, other, meaning, wrong_word, has_form, IsCommand}
use Rattle.script_lines.specs.Range.{IsBetween, IsInRange}
use Rattle.script_lines.specs.Ranged.{CommandsAreInRange}
use Rattle.script_lines.proofs.GivenValues.{neither, right_number, right_coins}

-- ---- the number at a place

within : (least most n : ℕ) → out_of least most (Some n) ≡ None → IsBetween least most n
within least most n h = go (nat_le least n) (nat_le n most) refl refl h
  where
    go : (above below : Bool) → nat_le least n ≡ above → nat_le n most ≡ below
        → cond (above && below) None (Some Range) ≡ None → IsBetween least most n
    go true true a b h = (grind (arith, nat_tests), grind (arith, nat_tests))
    go true false a b h = absurd cc
    go false below a b h = absurd cc

number : (least most : ℕ) (n : Option ℕ) → out_of least most n ≡ None →
    IsBetween least most (unwrap_or n 0)
number least most None h = absurd cc
number least most (Some n) h = within least most n h

-- a number of a shape
abbrev Fits : Shape → ℕ → Type 0
Fits (the text) n = Unit {0}
Fits a_name n = Unit {0}
Fits (a_number least most) n = IsBetween least most n
Fits (a_given least most) n = IsBetween least most n

one : (shape : Shape) (word : List ℕ) → wrong shape word ≡ None →
    Fits shape (unwrap_or (number_of word) 0)
one (the text) word h = tt
one a_name word h = tt
one (a_number least most) word h = number least most (number_of word) h
one (a_given least most) word h = number least most (number_of word) h

at-place :
    (ss : List Shape) (words : List (List ℕ)) → fit ss words ≡ true → first_wrong ss words ≡ None → (place : ℕ) →
    IfSome (slice_get ss place) (λ shape. Fits shape (number_at words place))
at-place [] words f w place = tt
at-place (s ∷ ss) [] f w place = absurd cc
at-place (s ∷ ss) (word ∷ words) f w zero = one s word (neither (wrong s word) (first_wrong ss words) w).0
at-place (s ∷ ss) (word ∷ words) f w (suc place) =
    at-place ss words (and_parts (fits s word) (fit ss words) f).1 (neither (wrong s word) (first_wrong ss words) w).1 place

-- ---- the forms

fixed :
    (times : TimeRanges) (f : Form) (words : List (List ℕ)) → fit (shapes f) words ≡ true → first_wrong (shapes f) words ≡ None →
    IsInRange times (command_of f words)
fixed times form.plug words h w = tt
fixed times form.pull words h w = tt
fixed times form.reset words h w = tt
fixed times form.turn words h w = at-place (shapes form.turn) words h w 1
fixed times form.hold words h w = at-place (shapes form.hold) words h w 3
fixed times form.settle words h w = tt
fixed times form.config_root words h w = record { some_given = refl; root_most = (at-place (shapes form.config_root) words h w 2).1; gap_most = tt }
fixed times form.config_gap words h w = record { some_given = refl; root_most = tt; gap_most = (at-place (shapes form.config_gap) words h w 3).1 }
fixed times form.config_both words h w = record {
  some_given = refl;
  root_most = (at-place (shapes form.config_both) words h w 2).1;
  gap_most = (at-place (shapes form.config_both) words h w 3).1;
}
fixed times form.csr_read words h w = tt
fixed times form.csr_write words h w = tt
fixed times form.csr_lock words h w = (at-place (shapes form.csr_lock) words h w 4).1
fixed times form.look words h w = tt
fixed times form.allocate words h w = ((at-place (shapes form.allocate) words h w 2).1, (at-place (shapes form.allocate) words h w 3).1)
fixed times form.release words h w = ((at-place (shapes form.release) words h w 2).1, (at-place (shapes form.release) words h w 3).1)
fixed times form.manager words h w = tt
fixed times form.plan words h w = tt
fixed times form.maps words h w = tt
fixed times form.delay words h w = at-place (shapes form.delay) words h w 1
fixed times form.times_2000 words h w = at-place (shapes form.times_2000) words h w 2
fixed times form.times_1995 words h w = at-place (shapes form.times_1995) words h w 2
fixed times form.clock_paced words h w =
    record { pace = at-place (shapes form.clock_paced) words h w 2; first_within = tt }
fixed times form.clock_first words h w = record {
  pace = at-place (shapes form.clock_first) words h w 2;
  first_within = at-place (shapes form.clock_first) words h w 3;
}

-- ---- the line of a node

-- a number behind a key, if it is given
given-number :
    (times : TimeRanges) (key : Key) (pairs : List (List ℕ)) → first_wrong_pair times [] pairs ≡ None →
    IfSome (number_given key pairs) (IsBetween (limits times key).0 (limits times key).1)
given-number times key pairs right = go (given key pairs) refl
  where
    go :
        (o : Option (List ℕ)) → given key pairs ≡ o →
        IfSome (option_and_then number_of o) (IsBetween (limits times key).0 (limits times key).1)
    go None e = tt
    go (Some value) e = right_number times key pairs value right e

or-usual : (n : Option ℕ) (least most usual : ℕ) → IfSome n (IsBetween least most) → usual ≤ most →
    unwrap_or n usual ≤ most
or-usual None least most usual h u = u
or-usual (Some n) least most usual h u = h.1

few-coins : (times : TimeRanges) (pairs : List (List ℕ)) → first_wrong_pair times [] pairs ≡ None →
    length (coins_given pairs) ≤ 64
few-coins times pairs right = go (given Coins pairs) refl
  where
    go : (o : Option (List ℕ)) → given Coins pairs ≡ o → length (unwrap_or o []) ≤ 64
    go None e = omega arith
    go (Some text) e = (right_coins times pairs text right e).0

third : (words : List (List ℕ)) → number_at (take 3 words) 2 ≡ number_at words 2
third [] = refl
third (a ∷ []) = refl
third (a ∷ b ∷ []) = refl
third (a ∷ b ∷ c ∷ words) = refl

node-range : (times : TimeRanges) (words : List (List ℕ)) → has_node_form words ≡ true →
    wrong_node times words ≡ None → IsInRange times (node_command words)
node-range times words has right =
    let pairs : List (List ℕ) = drop 3 words in
    let both = neither (first_wrong node_shapes (take 3 words)) (first_wrong_pair times [] pairs) right in
    let shape = (and_parts (fit node_shapes (take 3 words)) (are_pairs pairs) has).0 in
    let ports : IsBetween 1 16 (number_at words 2) = subst (IsBetween 1 16) (third words) (at-place node_shapes (take 3 words) shape both.0 2) in
    record {
      some_port = ports.0;
      few_ports = ports.1;
      speed_most = or-usual (number_given Speed pairs) 0 2 2 (given-number times Speed pairs both.1) (omega arith);
      power_most = or-usual (number_given Power pairs) 0 7 0 (given-number times Power pairs both.1) (omega arith);
      gap_most = or-usual (number_given Gap pairs) 0 63 63 (given-number times Gap pairs both.1) (omega arith);
      hold_within = given-number times Hold pairs both.1;
      short_within = given-number times Short pairs both.1;
      long_within = given-number times Long pairs both.1;
      few_coins = few-coins times pairs both.1;
    }

said : (times : TimeRanges) (words : List (List ℕ)) (f : LineForm) → has_form f words ≡ true →
    wrong_word times f words ≡ None → IsInRange times (meaning f words)
said times words node h right = node-range times words h right
said times words (other f) h right = fixed times f words h right

pub in-range : CommandsAreInRange
in-range times line command h =
    let words : List (List ℕ) = words_of (strip_carriage_return line) in
    let is : IsCommand times words command = h.1.1 in
    subst (IsInRange times) (sym is.says) (said times words is.form is.has is.right)
