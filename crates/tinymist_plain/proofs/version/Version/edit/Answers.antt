use Rattle.tinymist_plain.proofs.version.Version.edit.Goals as goal

pub returns-in-MapPath-clause-layers : goal.returns-in-MapPath-clause-layers
returns-in-MapPath-clause-layers c = λ l is. rw (c.in-MapPath.is, ← c.as_str.ensures.text) (c.map_path.ensures.layers c.args.stamp l is)

pub returns-in-MapId-clause-layers : goal.returns-in-MapId-clause-layers
returns-in-MapId-clause-layers c = λ l is. rw c.in-MapId.is (c.map_id.ensures.layers c.args.stamp l is)

pub returns-in-UnmapId-clause-layers : goal.returns-in-UnmapId-clause-layers
returns-in-UnmapId-clause-layers c = λ l is. rw c.in-UnmapId.is (c.unmap_id.ensures.layers c.args.stamp l is)
