use Rattle.topology_map.proofs.SomeMap.{some_crc, some_image, some_map}
use Rattle.topology_map.proofs.laws.images_exist.Goals as goal

pub returns-clause-crcs : goal.returns-clause-crcs
returns-clause-crcs c = some_crc

pub returns-clause-images : goal.returns-clause-images
returns-clause-images c = some_image

pub returns-clause-maps : goal.returns-clause-maps
returns-clause-maps c = some_map
