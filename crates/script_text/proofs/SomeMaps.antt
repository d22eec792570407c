-- Each bus tree has maps, and their text.
use Rattle.std.proofs.Common.{◌∷◌, refl}
use Rattle.quad_lanes.specs.Pairs.{quads_of}
use Rattle.topology_map.specs.SomeMap.{HasImage, HasTopologyMap, ImagesExist, TopologyMapsExist}
use Rattle.speed_map.specs.SomeRows.{HasRows, RowsExist}
use Rattle.script_text.specs.Maps.{images_text}
use Rattle.script_text.specs.SomeMaps.{MapsHaveTexts}

pub some-maps : TopologyMapsExist → ImagesExist → RowsExist → MapsHaveTexts
some-maps maps images all-rows generation t bus =
    let topology : HasTopologyMap generation t = maps generation t bus in
    let r : HasRows t = all-rows t bus in
    let speed : HasImage (generation ∷ quads_of r.rows) = images (generation ∷ quads_of r.rows) in
    record {
      text = images_text topology.quads speed.quads;
      is = record {
        topology = topology.quads;
        topology_is = topology.is;
        rows = r.rows;
        rows_are = r.are;
        speed = speed.quads;
        speed_is = speed.is;
        text_is = refl;
      };
    }
