use Rattle.std.proofs.Common.{◌≡◌, ◌+◌, ◌++◌, ◌∷◌, [], ℕ, List, refl, subst, append_assoc, length-append, arith}
use Rattle.reset_log.specs.codings.Going.{HasShown}
use Rattle.reset_log.proofs.Standing.{after_bytes, after_line, after_whole}
use Rattle.reset_log.proofs.InJson.{gathered_none}
use Rattle.reset_log.proofs.log.LogReader.end_line.Goals as goal

pub returns-clause-ok : goal.returns-clause-ok
returns-clause-ok c = λ done text one few h.
    let size = length-append done c.args.bytes.now in
    let mid = after_bytes c.args.self.now c.keep.new.self done c.args.bytes.now (text ++ c.args.out.now.items) one (omega (arith, few)) h c.in_ok-keep.ensures in
    let more : c.saturating_add-self.result ≡ c.keep.new.self.taken + 1 = omega (arith, c.saturating_add-self.ensures, mid.taken_is, few, size) in
    subst (λ (l : List ℕ). HasShown c.show.new.self l (text ++ c.show.new.out.items)) (append_assoc done c.args.bytes.now (10 ∷ []))
    (after_line c.keep.new.self _ c.show.new.self (done ++ c.args.bytes.now) text c.args.out.now.items c.show.new.out.items (omega (arith, few, size)) mid c.in_ok-show.ensures.ok refl refl refl refl refl more)

pub returns-then-is_whole-clause-ok : goal.returns-then-is_whole-clause-ok
returns-then-is_whole-clause-ok c = λ done text one few h.
    after_whole c.args.self.now c.show_whole.new.self done c.args.bytes.now text c.args.out.now.items c.show_whole.new.out.items one few (c.is_whole.ensures.few c.if-is_whole.true) (c.is_whole.ensures.kept c.if-is_whole.true) h c.in_ok-show_whole.ensures.ok

pub returns-in_err-keep-clause-json : goal.returns-in_err-keep-clause-json
returns-in_err-keep-clause-json c = gathered_none c.args.self.now.form c.args.out.now.items _ refl

pub returns-then-is_idle-clause-ok : goal.returns-then-is_idle-clause-ok
returns-then-is_idle-clause-ok c = λ done text one few h.
    let idle = c.is_idle.ensures in
    let gathered = c.args.out.now.items in
    let passed = c.count_whole.ensures.passes (idle.none c.if-is_idle.true) gathered in
    after_whole c.args.self.now c.count_whole.new.self done c.args.bytes.now text gathered gathered
    one few (idle.few c.if-is_idle.true) (idle.kept c.if-is_idle.true) h passed

pub returns-then-is_idle-clause-json : goal.returns-then-is_idle-clause-json
returns-then-is_idle-clause-json c = gathered_none c.args.self.now.form c.args.out.now.items _ refl
