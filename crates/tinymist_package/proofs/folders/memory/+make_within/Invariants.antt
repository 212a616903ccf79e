use Rattle.tinymist_package.proofs.folders.memory.+make_within.Given as goal

abbrev pub decreases-make_within : goal.decreases-make_within
decreases-make_within l = l.levels
