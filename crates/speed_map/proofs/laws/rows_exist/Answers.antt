use Rattle.speed_map.proofs.SomeRows.{some_path, some_rows}
use Rattle.speed_map.proofs.laws.rows_exist.Goals as goal

pub returns-clause-paths : goal.returns-clause-paths
returns-clause-paths c = some_path

pub returns-clause-rows : goal.returns-clause-rows
returns-clause-rows c = some_rows
