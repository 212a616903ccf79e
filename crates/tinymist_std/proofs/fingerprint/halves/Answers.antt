use Rattle.std.proofs.Common.{◌≡◌, refl, arith}
use Rattle.tinymist_std.proofs.HalfTexts.{cut_of_text, text_of_cut, some_injective, not_some}
use Rattle.tinymist_std.proofs.fingerprint.halves.Goals as goal

pub returns-then-text-lt11-clause-reads : goal.returns-then-text-lt11-clause-reads
returns-then-text-lt11-clause-reads c = λ f h. let cut = cut_of_text f c.args.text.now h in absurd (omega (arith, cut.long))

pub returns-in_err-lo-clause-reads : goal.returns-in_err-lo-clause-reads
returns-in_err-lo-clause-reads c =
    λ f h. absurd
    (not_some (c.in_err-lo.ensures.reads f.low (rw c.split_at.ensures.front (cut_of_text f c.args.text.now h).low_is)))

pub returns-in_err-hi-clause-reads : goal.returns-in_err-hi-clause-reads
returns-in_err-hi-clause-reads c =
    λ f h. absurd
    (not_some (c.in_err-hi.ensures.reads f.high (rw c.split_at.ensures.back (cut_of_text f c.args.text.now h).high_is)))

pub returns-clause-reads : goal.returns-clause-reads
returns-clause-reads c =
    λ f h.
    let cut = cut_of_text f c.args.text.now h in
    let low : c.in_ok-lo.lo ≡ f.low = some_injective (c.in_ok-lo.ensures.reads f.low (rw c.split_at.ensures.front cut.low_is)) in
    let high : c.in_ok-hi.hi ≡ f.high = some_injective (c.in_ok-hi.ensures.reads f.high (rw c.split_at.ensures.back cut.high_is)) in
    rw (low, high) refl

pub returns-clause-only : goal.returns-clause-only
returns-clause-only c =
    text_of_cut (record { low = c.in_ok-lo.lo; high = c.in_ok-hi.hi }) c.args.text.now
    (record {
      long = omega arith;
      low_is = rw c.split_at.ensures.front at c.in_ok-lo.ensures.only;
      high_is = rw c.split_at.ensures.back at c.in_ok-hi.ensures.only;
    })
