use Rattle.tinymist_session.proofs.Showing.{snapshot_shows}
use Rattle.tinymist_session.proofs.machine.spaces.snapshot_counted.Goals as goal

pub returns-clause-shows : goal.returns-clause-shows
returns-clause-shows g c = λ space is. snapshot_shows c.snapshot.result c.args.live.now space c.args.tags.now.next_space is c.snapshot.ensures.space c.snapshot.ensures.version (c.snapshot.ensures.standing space.past is.stands)
