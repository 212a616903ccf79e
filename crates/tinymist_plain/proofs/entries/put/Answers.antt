use Rattle.std.proofs.Common.{subst, refl, List, ℕ, Ok}
use Rattle.std.specs.String.{string_bytes}
use Rattle.tinymist_plain.specs.Lists.{IsPlace}
use Rattle.tinymist_plain.specs.declared.entries.Entry.{Entry}
use Rattle.tinymist_plain.proofs.Lists.{set_puts}
use Rattle.tinymist_plain.proofs.entries.put.Goals as goal

pub returns-in-Ok : goal.returns-in-Ok
returns-in-Ok g c =
    let at = subst (λ (p : List ℕ). IsPlace p c.deref.result.now (Ok c.in-Ok.i)) c.as_str.ensures.value c.in-Ok.ensures in
    set_puts c.args.entries.now.items c.in-Ok.i (record { path = c.args.path; value = c.args.value }) (string_bytes c.args.path) c.args.value refl
    (subst (λ (es : List (Entry _)). IsPlace (string_bytes c.args.path) es (Ok c.in-Ok.i)) c.deref.ensures.value at)
