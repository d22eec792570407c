-- The lines that were taken, and those that are left.
use Rattle.std.proofs.Common.{◌≡◌, inl, inr, ℕ, ◌+◌, List, [], ◌∷◌, ◌++◌, refl, sym, ap, subst, ◌∙◌, append_assoc, length, arith}
use Rattle.std.specs.Prelude.{true, None, Some, Ok, Err}
use Rattle.std.proofs.lemmas.List.{append-nil}
use Rattle.script_lines.specs.declared.kind.Kind.{Kind}
use Rattle.script_lines.specs.declared.kind.LineStop.{LineStop}
use Rattle.script_lines.specs.declared.kind.LineStop.TheVariants.{Fault, Memory}
use Rattle.script_lines.specs.declared.kind.ScriptStop.{ScriptStop}
use Rattle.script_lines.specs.declared.command.Command.{Command}
use Rattle.script_lines.specs.declared.command.Command.TheVariants.{Settle}
use Rattle.script_told.specs.Bus.{Bus}
use Rattle.script_told.specs.Step.{DoesSettle}
use Rattle.script_lines.specs.Line.{ReadsLine}
use Rattle.script_told.specs.Script.{Stage, fresh, running, bus_of, ranges_of, DoesAtStage, fault_at, script_lines}
use Rattle.script_told.specs.Run.{Entry, ScriptRun, done, stopped, behind, last_run, RunsFrom, IsRun, IsResult}
use Rattle.script_run.specs.Answered.{IsRefused}
use Rattle.script_run.specs.Viewed.{Writing, AllWritten, prints_report}
use Rattle.script_bus.specs.Running.{IfFault, Stops}
use Rattle.script_bus.specs.Heard.{Hears}
use Rattle.script_bus.specs.Viewed.{IsTextOf}
use Rattle.script_trace.specs.Voice.{Voice}
use Rattle.script_trace.specs.Trace.{TracesAt, AllTrace}
use Rattle.script_run.specs.codings.Going.{Prints, IsAdded, LineLeads, LineFails, Ends, Went, HaveGone, IsRead, stop_at}

-- ---- commands that were done

pub behind-more :
    (entries : List Entry) (entry : Entry) (more : ScriptRun) →
    behind entries (behind (entry ∷ []) more) ≡ behind (entries ++ entry ∷ []) more
behind-more entries entry more =
    ap (λ (l : List Entry). record { entries = l; end = more.end })
    (sym (append_assoc entries (entry ∷ []) more.entries))

-- a command of a line is at fault
pub done-fails : (stage : Stage) (line : List ℕ) (command : Command) (stop : LineStop) → ReadsLine (ranges_of stage) line (Ok (Some command)) →
    Stops (DoesAtStage stage command) stop → IfFault (LineFails stage line) stop
done-fails stage line command (Fault kind) reads fails = inr (command, reads, fails)
done-fails stage line command (Memory e) reads fails = tt

-- a command was done
went-on :
    (bytes : List ℕ) (entries : List Entry) (number : ℕ) (line : List ℕ) (lines : List (List ℕ))
    (stage next : Stage) (command : Command) (text : List ℕ) → Went bytes entries number (line ∷ lines) stage →
    ((more : ScriptRun) → RunsFrom (number + 1) lines next more →
    RunsFrom number (line ∷ lines) stage (behind (done number stage command next text ∷ []) more)) →
    Went bytes (entries ++ done number stage command next text ∷ []) (number + 1) lines next
went-on bytes entries number line lines stage next command text went one more rest =
    let entry : Entry = done number stage command next text in
    subst (IsRun bytes) (behind-more entries entry more) (went (behind (entry ∷ []) more) (one more rest))

-- what a voice tells of commands, one after the other
all-told :
    (voice : Voice) (entries more : List Entry) (lines rest : List ℕ) → AllTrace voice entries lines →
    AllTrace voice more rest → AllTrace voice (entries ++ more) (lines ++ rest)
all-told voice [] more lines rest h k = subst (λ (l : List ℕ). AllTrace voice more (l ++ rest)) (sym h) k
all-told voice (e ∷ entries) more lines rest h k = (
  h.0,
  h.1 ++ rest,
  h.2,
  all-told voice entries more h.1 rest h.3 k,
  ap (λ (l : List ℕ). l ++ rest) h.4 ∙ append_assoc h.0 h.1 rest,
)

one-told :
    (voice : Voice) (entries : List Entry) (entry : Entry) (lines one new : List ℕ) → AllTrace voice entries lines →
    TracesAt voice entry.before entry.command entry.after one → new ≡ lines ++ one → AllTrace voice (entries ++ entry ∷ []) new
one-told voice entries entry lines one new h is e =
    subst (AllTrace voice (entries ++ entry ∷ [])) (sym e)
    (all-told voice entries (entry ∷ []) lines one h (one, [], is, refl, sym (append-nil one)))

-- and what is written of them
all-written :
    (Writes : Writing) (entries more : List Entry) (text rest : List ℕ) → AllWritten Writes entries text →
    AllWritten Writes more rest → AllWritten Writes (entries ++ more) (text ++ rest)
all-written Writes [] more text rest h k = subst (λ (l : List ℕ). AllWritten Writes more (l ++ rest)) (sym h) k
all-written Writes (e ∷ entries) more text rest h k = (
  h.0,
  h.1 ++ rest,
  h.2,
  all-written Writes entries more h.1 rest h.3 k,
  ap (λ (l : List ℕ). l ++ rest) h.4 ∙ append_assoc h.0 h.1 rest,
)

one-written :
    (Writes : Writing) (entries : List Entry) (entry : Entry) (text one new : List ℕ) → AllWritten Writes entries text →
    Writes (prints_report entry.command) entry.after entry.text one → new ≡ text ++ one → AllWritten Writes (entries ++ entry ∷ []) new
one-written Writes entries entry text one new h is e =
    subst (AllWritten Writes (entries ++ entry ∷ [])) (sym e)
    (all-written Writes entries (entry ∷ []) text one h (one, [], is, refl, sym (append-nil one)))

-- no line was taken yet
pub gone-first :
    (voice : Voice) (Writes : Writing) (bytes text heard : List ℕ) (stage : Stage) → text ≡ [] → heard ≡ [] → stage ≡ fresh →
    HaveGone voice Writes bytes text heard 1 (script_lines bytes) stage
gone-first voice Writes bytes text heard stage none silent new = record {
  counted = omega arith;
  entries = [];
  went = λ more rest. subst (λ (s : Stage). RunsFrom 1 (script_lines bytes) s more) new rest;
  written = none;
  told = silent;
}

-- a line was taken
pub gone-next :
    (voice : Voice) (Writes : Writing) (bytes before after out new : List ℕ) (number : ℕ) (line : List ℕ)
    (lines all : List (List ℕ)) (stage next : Stage) → all ≡ line ∷ lines →
    LineLeads voice Writes stage line next before after out new → HaveGone voice Writes bytes before out number all stage →
    HaveGone voice Writes bytes after new (number + 1) lines next
gone-next voice Writes bytes before after out new number line lines all stage next cut leads have =
    go leads (subst (λ (l : List (List ℕ)). Went bytes have.entries number l stage) cut have.went)
  where
    count : (number + 1) + length lines ≡ length (script_lines bytes) + 1
    count = omega (arith, ap (λ (l : List (List ℕ)). length l) cut, have.counted)

    go : LineLeads voice Writes stage line next before after out new → Went bytes have.entries number (line ∷ lines) stage →
        HaveGone voice Writes bytes after new (number + 1) lines next
    go (inl skipped) went = record {
      counted = count;
      entries = have.entries;
      went = λ more rest. went more (Ok None, skipped.0, subst (λ (s : Stage). RunsFrom (number + 1) lines s more) skipped.1 rest);
      written = subst (AllWritten Writes have.entries) (sym skipped.2) have.written;
      told = subst (AllTrace voice have.entries) (sym skipped.3) have.told;
    }
    go (inr (command, reads, did)) went =
        let entry : Entry = done number stage command next did.text in
        record {
          counted = count;
          entries = have.entries ++ entry ∷ [];
          went = went-on bytes have.entries number line lines stage next command did.text went
              (λ more rest. (Ok (Some command), reads, (Ok (next, did.text), did.does, (more, rest, refl))));
          written = one-written Writes have.entries entry before did.written.added after have.written did.written.is did.written.after_is;
          told = one-told voice have.entries entry out did.heard.lines new have.told did.heard.traces did.heard.written;
        }

-- ---- faults and ends

-- a line is at fault, and so is the script
line-fails : (number : ℕ) (line : List ℕ) (lines : List (List ℕ)) (stage : Stage) (kind : Kind) →
    LineFails stage line kind → RunsFrom number (line ∷ lines) stage (stopped number kind)
line-fails number line lines stage kind (inl wrong) = (Err kind, wrong, refl)
line-fails number line lines stage kind (inr did) = (Ok (Some did.0), did.1, (Err kind, did.2, refl))

-- the run that stops there
stops-there :
    (bytes : List ℕ) (entries : List Entry) (number : ℕ) (lines : List (List ℕ)) (stage : Stage) (kind : Kind) →
    RunsFrom number lines stage (stopped number kind) → Went bytes entries number lines stage →
    IsResult bytes (Err (fault_at number kind))
stops-there bytes entries number lines stage kind stop went =
    (behind entries (stopped number kind), went (stopped number kind) stop, refl)

pub refused-line :
    (bytes : List ℕ) (entries : List Entry) (number : ℕ) (line : List ℕ) (lines all : List (List ℕ)) (stage : Stage)
    (stop : LineStop) (r : ScriptStop) → all ≡ line ∷ lines → r ≡ stop_at number stop →
    IfFault (LineFails stage line) stop → Went bytes entries number all stage → IsRefused bytes r
refused-line bytes entries number line lines all stage (Fault kind) r cut is wrong went =
    subst (IsRefused bytes) (sym is)
    (stops-there bytes entries number (line ∷ lines) stage kind (line-fails number line lines stage kind wrong)
    (subst (λ (l : List (List ℕ)). Went bytes entries number l stage) cut went))
refused-line bytes entries number line lines all stage (Memory e) r cut is wrong went = subst (IsRefused bytes) (sym is) tt

pub refused-end :
    (bytes : List ℕ) (entries : List Entry) (number : ℕ) (stage : Stage) (stop : LineStop) (r : ScriptStop) →
    r ≡ stop_at number stop → Stops (DoesSettle (bus_of stage)) stop →
    Went bytes entries number [] stage → IsRefused bytes r
refused-end bytes entries number stage (Fault kind) r is wrong went =
    subst (IsRefused bytes) (sym is) (stops-there bytes entries number [] stage kind (Err kind, wrong, refl) went)
refused-end bytes entries number stage (Memory e) r is wrong went = subst (IsRefused bytes) (sym is) tt

-- where a report is printed, and no words
pub prints-report : (bus : Bus) (next : Stage) (words report : List ℕ) → next ≡ running bus → words ≡ [] →
    IsTextOf bus report → Prints true next words report
prints-report bus next words report to none is = (
  report,
  subst (λ (s : Stage). IsTextOf (bus_of s) report) (sym to) is,
  ap (λ (w : List ℕ). w ++ report) (sym none),
)

-- the bus of a stage settled, and runs on at the next
pub ended :
    (voice : Voice) (Writes : Writing) (stage next : Stage) (first bus last : Bus) (text before after out new : List ℕ) →
    first ≡ bus_of stage → next ≡ running bus → last ≡ bus_of next → DoesSettle first (Ok (bus, text)) →
    IsAdded Writes true next text before after → Hears voice first Settle bus out new →
    Ends voice Writes stage last before after out new
ended voice Writes stage next first bus last text before after out new from to at settles added hears =
    subst (λ (b : Bus). Ends voice Writes stage b before after out new) (sym (at ∙ ap bus_of to))
    (go (subst (λ (b : Bus). Hears voice b Settle bus out new) from hears))
  where
    go : Hears voice (bus_of stage) Settle bus out new → Ends voice Writes stage bus before after out new
    go h = record {
      text = text;
      settles = subst (λ (b : Bus). DoesSettle b (Ok (bus, text))) from settles;
      written = subst (λ (s : Stage). IsAdded Writes true s text before after) to added;
      heard = record { lines = h.lines; traces = h.traces; written = h.written };
    }

-- the bus settles at the end, and the script was read
pub is-read :
    (voice : Voice) (Writes : Writing) (bytes before after out new : List ℕ) (number : ℕ) (stage : Stage) (bus : Bus) →
    HaveGone voice Writes bytes before out number [] stage → Ends voice Writes stage bus before after out new →
    IsRead voice Writes bytes bus after new
is-read voice Writes bytes before after out new number stage bus have ends =
    let entry : Entry = done number stage Settle (running bus) ends.text in
    record {
      run = behind have.entries (last_run number stage (Ok (bus, ends.text)));
      is = have.went (last_run number stage (Ok (bus, ends.text))) (Ok (bus, ends.text), ends.settles, refl);
      ends = refl;
      written = one-written Writes have.entries entry before ends.written.added after have.written ends.written.is ends.written.after_is;
      told = one-told voice have.entries entry out ends.heard.lines new have.told ends.heard.traces ends.heard.written;
    }
