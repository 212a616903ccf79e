-- The parts of an id as plain data.
use Rattle.ty_model.specs.Values as plain
use Rattle.ty_syntax.specs.Id.{root_of}
use Rattle.ty_syntax.specs.declared.id.Parts.{Parts}

-- the id that these parts are of
abbrev pub id_of_parts : Parts → plain.Id
id_of_parts p = record { root = root_of p.root; vpath = p.vpath; tag = p.tag }
