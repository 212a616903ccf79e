-- Where an id stands, as it is answered.
use Rattle.std.specs.String.{string_bytes}
use Rattle.ty_model.specs.Places as model
use Rattle.ty_syntax.specs.Error.{refusal_of}
use Rattle.tinymist_plain.specs.declared.place.Place.{Place}
use Rattle.tinymist_plain.specs.declared.place.Place.TheVariants.{At, Rootless, RefusedAt}

-- at a path, nowhere, or nowhere because of a refusal
abbrev pub place_said : Place → model.Place
place_said (At path) = model.At (string_bytes path)
place_said Rootless = model.Rootless
place_said (RefusedAt error) = model.RefusedAt (refusal_of error)
