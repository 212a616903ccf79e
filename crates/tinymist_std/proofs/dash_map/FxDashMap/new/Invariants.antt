use Rattle.std.proofs.Common.{◌≡◌, vec_len}
use Rattle.tinymist_std.proofs.dash_map.FxDashMap.new.Given as goal

abbrev pub invariant-loop-shard : goal.invariant-loop-shard
invariant-loop-shard g l = vec_len l.shards ≡ l._shard
