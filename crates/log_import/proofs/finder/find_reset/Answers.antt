use Rattle.std.proofs.Common.{◌≡◌, ◌∙◌, ◌+◌, ◌<◌, ◌^◌, ℕ, Option, List, sym, ap, subst, arith}
use Rattle.reset_log.specs.declared.notes.Pending.{Pending}
use Rattle.log_line.specs.Line.{line_of}
use Rattle.reset_log.specs.Log.{lines_of}
use Rattle.reset_log.specs.Entries.{entries_at, waiting_at, entries_from}
use Rattle.log_import.specs.codings.Standing.{Advances}
use Rattle.log_import.proofs.Steps.{found_in, goes_on}
use Rattle.log_import.proofs.finder.find_reset.Goals as goal

pub returns-in-Some-2 : goal.returns-in-Some-2
returns-in-Some-2 c =
    let f = c.loop-line.finder in
    let line = c.in-Some.line.now in
    let held = f.waiting.entries in
    let es = entries_at f.number held (line_of line) in
    let fs = entries_from (f.number + 1) (waiting_at f.number held (line_of line)) (lines_of c.in-Some.behind.now) in
    found_in c.args.wanted c.args.log.now c.loop-line.rest.now f c.loop-line.invariant es fs
    (ap (λ (ls : List (List ℕ)). entries_from f.number held ls) c.in-Some.ensures.cut) c.take_line.new.self.judge c.in-Some-2.found
    (subst (λ (o : Option Pending). Advances f.judge c.take_line.new.self.judge es o) c.in-Some-2.is c.in_ok-found.ensures.found)

pub loop-line-preserved : goal.loop-line-preserved
loop-line-preserved c =
    let f = c.loop-line.finder in
    let g = c.take_line.new.self in
    let line = line_of c.in-Some.line.now in
    let behind = lines_of c.in-Some.behind.now in
    let held = f.waiting.entries in
    let few : f.number < 2 ^ 63 = omega (arith, c.requires.short, c.loop-line.invariant.number_is, c.in-Some.ensures.shorter) in
    let number : g.number ≡ f.number + 1 = c.in_ok-found.ensures.number few in
    let waiting : g.waiting.entries ≡ waiting_at f.number held line = c.in_ok-found.ensures.waiting c.in_default-2.is in
    goes_on c.args.wanted c.args.log.now c.loop-line.rest.now f c.loop-line.invariant (entries_at f.number held line)
    (entries_from (f.number + 1) (waiting_at f.number held line) behind)
    (ap (λ (ls : List (List ℕ)). entries_from f.number held ls) c.in-Some.ensures.cut) c.in-Some.behind.now g
    (subst (λ (o : Option Pending). Advances f.judge g.judge (entries_at f.number held line) o) c.in_default-2.is c.in_ok-found.ensures.found)
    (ap (λ (n : ℕ). entries_from n (waiting_at f.number held line) behind) (sym number)
    ∙ ap (λ (h : List (ℕ × Pending)). entries_from g.number h behind) (sym waiting))
    number c.in-Some.ensures.shorter
