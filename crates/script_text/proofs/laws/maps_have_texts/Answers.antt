use Rattle.script_text.proofs.SomeMaps.{some-maps}
use Rattle.script_text.proofs.laws.maps_have_texts.Goals as goal

pub returns : goal.returns
returns c = some-maps c.images_exist.ensures.maps c.images_exist.ensures.images c.rows_exist.ensures.rows
