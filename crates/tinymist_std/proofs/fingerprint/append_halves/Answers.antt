use Rattle.std.proofs.Common.{arith}
use Rattle.tinymist_std.proofs.FingerprintTexts.{svg_id_is_text}
use Rattle.tinymist_std.proofs.fingerprint.append_halves.Goals as goal

pub returns-clause-readable : goal.returns-clause-readable
returns-clause-readable c = svg_id_is_text (record { low = c.args.lo; high = c.args.hi }) (omega arith) (omega arith)

pub returns-in_err-encode_string-clause-readable : goal.returns-in_err-encode_string-clause-readable
returns-in_err-encode_string-clause-readable c =
    svg_id_is_text (record { low = c.args.lo; high = c.args.hi }) (omega arith) (omega arith)
