use Rattle.std.proofs.Common.{Some, ap, ◌∙◌, arith}
use Rattle.tinymist_std.proofs.HalfTexts.{half_short, half_decodes, half_found, half_reads, not_err}
use Rattle.tinymist_std.proofs.fingerprint.half.Goals as goal

pub returns-then-text-gt11-clause-reads : goal.returns-then-text-gt11-clause-reads
returns-then-text-gt11-clause-reads c = λ n h. absurd (omega (arith, half_short n c.args.text.now h))

pub returns-in-Err-clause-reads : goal.returns-in-Err-clause-reads
returns-in-Err-clause-reads c = λ n h. absurd (not_err (half_decodes n c.args.text.now h) c.in-Err.ensures.err)

pub returns-in-Ok-clause-reads : goal.returns-in-Ok-clause-reads
returns-in-Ok-clause-reads c =
    λ n h. ap Some
    (c.first_eight.ensures.value
    ∙ half_found n c.args.text.now c.decode_slice_unchecked.new.output c.in-Ok.field-0 h c.decode_slice_unchecked.auto.output c.in-Ok.ensures.ok)

pub returns-in-Ok-clause-only : goal.returns-in-Ok-clause-only
returns-in-Ok-clause-only c =
    half_reads c.first_eight.result c.args.text.now c.decode_slice_unchecked.new.output c.in-Ok.field-0
    (λ i. omega (arith, c.type_inv.text i)) c.first_eight.ensures.bytes c.decode_slice_unchecked.auto.output (omega arith) c.in-Ok.ensures.ok
    c.first_eight.type_inv c.first_eight.ensures.value
