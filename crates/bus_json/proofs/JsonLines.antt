-- Lines of JSON, one after the other.
use Rattle.std.proofs.Common.{◌≡◌, ◌∙◌, ℕ, ◌≤◌, Option, Some, None, List, [], ◌∷◌, ◌++◌, append-nil, append_assoc, ap, sym, subst}
use Rattle.std.specs.Io.KnownBytes.{Appends}
use Rattle.json.specs.Token.{Token}
use Rattle.json.specs.Lex.{tokens}
use Rattle.json.specs.Json.{Json, max_depth}
use Rattle.json.specs.Print.{print}
use Rattle.json.specs.Tree.{json_tokens, depth}
use Rattle.bus_json.specs.Lines.{IsJsonLine, AreJsonLines, none, more, GathersJsonLines, WritesJsonLines}
use Rattle.bus_json.proofs.ReadBack.{reads_back}

-- what was written as the tokens of a value is a line of it
pub json_line_of : (v : Json) (out : List Token) (line : List ℕ) → out ≡ json_tokens v → tokens (print out) ≡ out →
    depth v ≤ max_depth → line ≡ print out ++ 10 ∷ [] → IsJsonLine line
json_line_of v out line e back shallow is = record {
  value = v;
  text_is = subst (λ (ts : List Token). line ≡ print ts ++ 10 ∷ []) e is;
  read_back = reads_back v (subst (λ (ts : List Token). tokens (print ts) ≡ ts) e back) shallow;
}

pub one_line : (line : List ℕ) → IsJsonLine line → AreJsonLines line
one_line line is = more [] line none is

pub all_lines : (a b : List ℕ) → AreJsonLines a → AreJsonLines b → AreJsonLines (a ++ b)
all_lines a b first none = subst AreJsonLines (sym (append-nil a)) first
all_lines a b first (more text line rest is) =
    subst AreJsonLines (append_assoc a text line) (more (a ++ text) line (all_lines a text first rest) is)

-- ---- gathered

pub gathers_none : (was : List ℕ) → GathersJsonLines was was
gathers_none was = record { text = []; lines = none; gathered = sym (append-nil was) }

pub gathers : (was is text : List ℕ) → AreJsonLines text → is ≡ was ++ text → GathersJsonLines was is
gathers was is text lines e = record { text = text; lines = lines; gathered = e }

pub gathers_both : (a b c : List ℕ) → GathersJsonLines a b → GathersJsonLines b c → GathersJsonLines a c
gathers_both a b c one two = record {
  text = one.text ++ two.text;
  lines = all_lines one.text two.text one.lines two.lines;
  gathered = two.gathered ∙ (ap (λ (x : List ℕ). x ++ two.text) one.gathered ∙ append_assoc a one.text two.text);
}

-- ---- written

pub writes_none : (was : Option (List ℕ)) → WritesJsonLines was was
writes_none was = record { text = []; lines = none; wrote = same was }
  where
    same : (o : Option (List ℕ)) → Appends o o []
    same None = tt
    same (Some xs) = sym (append-nil xs)

appends_both : (a b c : Option (List ℕ)) (x y : List ℕ) → Appends a b x → Appends b c y → Appends a c (x ++ y)
appends_both None b c x y one two = tt
appends_both (Some xs) (Some ys) (Some zs) x y one two =
    two ∙ (ap (λ (v : List ℕ). v ++ y) one ∙ append_assoc xs x y)
appends_both (Some xs) (Some ys) None x y one two = two
appends_both (Some xs) None c x y one two = absurd one

pub writes_both : (a b c : Option (List ℕ)) → WritesJsonLines a b → WritesJsonLines b c → WritesJsonLines a c
writes_both a b c one two = record {
  text = one.text ++ two.text;
  lines = all_lines one.text two.text one.lines two.lines;
  wrote = appends_both a b c one.text two.text one.wrote two.wrote;
}

-- what was gathered from nothing is written
pub writes_gathered : (a b : Option (List ℕ)) (text : List ℕ) → GathersJsonLines [] text → Appends a b text →
    WritesJsonLines a b
writes_gathered a b text got wrote = record { text = text; lines = subst AreJsonLines (sym got.gathered) got.lines; wrote = wrote }
