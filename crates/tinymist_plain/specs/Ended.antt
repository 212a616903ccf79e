-- The end of a plain session.
use Rattle.tinymist_session.specs.Session as session
use Rattle.tinymist_plain.specs.declared.session.End.{End}
use Rattle.tinymist_plain.specs.declared.session.End.TheVariants.{Whole, Bad, Over}

-- whole, bad at a line, or over the limit
abbrev pub ended : End → session.End
ended Whole = session.Whole
ended (Bad line) = session.Bad line
ended Over = session.Over
