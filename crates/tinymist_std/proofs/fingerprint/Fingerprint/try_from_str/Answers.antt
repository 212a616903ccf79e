use Rattle.std.proofs.Common.{Ok, ap, rules, arith}
use Rattle.std.proofs.lemmas.Grind.{common_steps}
use Rattle.tinymist_std.specs.Fingerprint.{Halves, IsTextOf}
use Rattle.tinymist_std.proofs.FingerprintTexts.{svg_id_is_text}
use Rattle.tinymist_std.proofs.HalfTexts.{some_injective, not_some}
use Rattle.tinymist_std.proofs.fingerprint.Fingerprint.try_from_str.Goals as goal

pub returns-in-Some-clause-reads : goal.returns-in-Some-clause-reads
returns-in-Some-clause-reads c =
    λ f h. ap Ok (some_injective (c.in-Some.ensures.reads f (rw c.as_bytes.ensures.value h)))

pub returns-in-None-clause-reads : goal.returns-in-None-clause-reads
returns-in-None-clause-reads c =
    λ f h. absurd (not_some (c.in-None.ensures.reads f (rw c.as_bytes.ensures.value h)))

pub returns-in-Some-clause-reads_back : goal.returns-in-Some-clause-reads_back
returns-in-Some-clause-reads_back c =
    λ f low high written. ap Ok (some_injective
    (c.in-Some.ensures.reads f (rw (c.as_bytes.ensures.value, written) (svg_id_is_text f low high))))

pub returns-in-None-clause-reads_back : goal.returns-in-None-clause-reads_back
returns-in-None-clause-reads_back c =
    λ f low high written. absurd (not_some
    (c.in-None.ensures.reads f (rw (c.as_bytes.ensures.value, written) (svg_id_is_text f low high))))

pub returns-in-None-clause-refused : goal.returns-in-None-clause-refused
returns-in-None-clause-refused c =
    let no : (f : Halves) → ¬ (IsTextOf f c.args.s.now) = λ f h. not_some (c.in-None.ensures.reads f (rw c.as_bytes.ensures.value h)) in
    first_of (search rules, grind (arith, common_steps))
