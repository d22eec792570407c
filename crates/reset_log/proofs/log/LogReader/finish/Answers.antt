use Rattle.reset_log.specs.Log.{lines_of}
use Rattle.reset_log.proofs.Reading.{in_all}
use Rattle.reset_list.proofs.Lemmas.{on_err}
use Rattle.reset_log.proofs.Fronts.{front_of, front_totals}
use Rattle.std.proofs.Common.{refl}
use Rattle.reset_log.proofs.InJson.{written_next}
use Rattle.reset_log.proofs.log.LogReader.finish.Goals as goal

pub returns-clause-ok : goal.returns-clause-ok
returns-clause-ok g c = λ done start st.
    in_all c.show_last.new.self c.args.self.now.form (lines_of done) start c.show_last.new.sink c.put_totals.new.sink
    (c.in_ok-show_last.ensures.ok done start st) c.in_ok-put_totals.ensures.ok

pub returns-in_err-show_last-clause-part : goal.returns-in_err-show_last-clause-part
returns-in_err-show_last-clause-part g c =
    on_err c.from_residual.result _ (λ done start st.
    front_of c.args.self.now.form (lines_of done) start c.show_last.new.sink (c.in_err-show_last.ensures.part done start st))

pub returns-in_err-put_totals-clause-part : goal.returns-in_err-put_totals-clause-part
returns-in_err-put_totals-clause-part g c =
    on_err c.from_residual-in_err-put_totals.result _ (λ done start st.
    front_totals c.show_last.new.self c.args.self.now.form (lines_of done) start c.show_last.new.sink c.put_totals.new.sink
    (c.in_ok-show_last.ensures.ok done start st) c.in_err-put_totals.ensures.part)

pub returns-clause-json : goal.returns-clause-json
returns-clause-json g c =
    written_next c.args.self.now.form c.args.self.now.form _ _ _ refl c.in_ok-show_last.ensures.json c.in_ok-put_totals.ensures.json
