use Rattle.std.proofs.Common.{◌≡◌, vec_len}
use Rattle.tinymist_std.proofs.fingerprint_map.FingerprintMap.new.Given as goal

abbrev pub invariant-loop-shard : goal.invariant-loop-shard
invariant-loop-shard g l = vec_len l.shards ≡ l._shard
