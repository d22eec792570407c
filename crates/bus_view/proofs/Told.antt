-- The values of faults nest a few levels deep, so each of their lines is read back.
use Rattle.std.proofs.Common.{◌≡◌, ◌≤◌, ℕ, Result, Ok, Err, List, [], sym, subst, arith}
use Rattle.std.specs.Prelude.{OnOk}
use Rattle.json.specs.Json.{max_depth}
use Rattle.json.specs.Tree.{depth}
use Rattle.bus_json.specs.Lines.{AreJsonLines, none}
use Rattle.bus_view.specs.Explained.{explained_value}

pub explained_shallow : (line : ℕ) (kind said : List ℕ) → depth (explained_value line kind said) ≤ max_depth
explained_shallow line kind said = omega arith

pub no_lines : (text : List ℕ) → text ≡ [] → AreJsonLines text
no_lines text e = subst AreJsonLines (sym e) none

pub on_ok : {A E : Type 0} (r : Result A E) (P Q : Type 0) → (P → Q) → OnOk r P → OnOk r Q
on_ok (Ok x) P Q f h = f h
on_ok (Err e) P Q f h = h
