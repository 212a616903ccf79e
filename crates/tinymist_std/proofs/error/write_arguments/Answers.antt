use Rattle.std.proofs.Common.{rules}
use Rattle.tinymist_std.proofs.Texts.{debug_items-map}
use Rattle.tinymist_std.proofs.error.write_arguments.Goals as goal

pub returns-in-Some : goal.returns-in-Some
returns-in-Some g c = rw c.in-Some.is (rw debug_items-map (search rules))
