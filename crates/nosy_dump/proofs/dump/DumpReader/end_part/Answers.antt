use Rattle.nosy_dump.proofs.AsJson.{gather_none}
use Rattle.nosy_dump.proofs.dump.DumpReader.end_part.Goals as goal

pub returns-in_default-clause-json : goal.returns-in_default-clause-json
returns-in_default-clause-json c = gather_none c.args.self.now.form c.args.out.now.items

pub returns-then-not-is_size-clause-json : goal.returns-then-not-is_size-clause-json
returns-then-not-is_size-clause-json c = gather_none c.args.self.now.form c.args.out.now.items

pub returns-then-len-size-clause-json : goal.returns-then-len-size-clause-json
returns-then-len-size-clause-json c = gather_none c.args.self.now.form c.args.out.now.items
