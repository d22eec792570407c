use Rattle.std.proofs.Common.{refl}
use Rattle.reset_log.proofs.InJson.{gathered_none}
use Rattle.reset_log.proofs.log.LogReader.show_whole.Goals as goal

pub returns-in_err-shown-clause-json : goal.returns-in_err-shown-clause-json
returns-in_err-shown-clause-json c = gathered_none c.args.self.now.form c.args.out.now.items _ refl

pub returns-in_err-extend_from_slice-clause-json : goal.returns-in_err-extend_from_slice-clause-json
returns-in_err-extend_from_slice-clause-json c =
    gathered_none c.args.self.now.form c.args.out.now.items _ c.in_err-extend_from_slice.ensures.items
