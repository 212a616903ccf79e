-- Kinds that wrap no error.
use Rattle.std.proofs.Common.{◌≡◌, [], Box, Global, refl}
use Rattle.tinymist_std.specs.ErrKind.{kind_of}
use Rattle.tinymist_std.specs.declared.error.Error.{Error}
use Rattle.tinymist_std.specs.declared.error.ErrKind.{ErrKind}
use Rattle.tinymist_std.specs.declared.error.ErrKind.TheVariants.{None, Msg, Diag, Inner, OutOfMemory}

-- every variant but `Inner` has no error within it
pub within-plain : (k : ErrKind) → ((e : Box Error Global) → k ≡ Inner e → ⊥) → (kind_of k).within ≡ []
within-plain None h = refl
within-plain (Msg text) h = refl
within-plain (Diag d) h = refl
within-plain (Inner e) h = absurd (h e refl)
within-plain OutOfMemory h = refl
