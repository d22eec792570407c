use Rattle.nosy_dump.proofs.AsJson.{gather_none}
use Rattle.nosy_dump.proofs.dump.DumpReader.show.Goals as goal

pub returns-in-None-clause-json : goal.returns-in-None-clause-json
returns-in-None-clause-json c = gather_none c.args.self.now.form c.args.out.now.items
