use Rattle.std.proofs.Common.{ℕ, ◌+◌, ◌∷◌, List, Ok, Err, refl, sym, ap, subst, ◌∙◌, drop, inl}
use Rattle.ty_path.specs.Shared.{shared_bytes}
use Rattle.tinymist_package.specs.Walk.{files_of, Walks, IsOwn}
use Rattle.tinymist_package.specs.declared.fault.PackageFault.TheVariants.{OutOfMemory}
use Rattle.tinymist_package.proofs.Walks.{file_at, one_more, refused_at, ended_by, no_file}
use Rattle.tinymist_package.proofs.pack.map_pack.MapPackPackFs.hand_to.Goals as goal

pub returns-in-Err-clause-walked : goal.returns-in-Err-clause-walked
returns-in-Err-clause-walked g c = λ all is.
    let takes = g.T.TakesFiles.takes in
    subst (λ xs. Walks takes (IsOwn 0 0) c.args.taker.now xs (Err OutOfMemory) c.loop-path.taker) (sym is)
    (c.loop-path.invariant.1 (Err OutOfMemory) c.loop-path.taker (ended_by takes (IsOwn 0 0) (files_of (drop c.loop-path.at c.args.self.now.files.entries)) c.loop-path.taker OutOfMemory (inl refl)))

pub returns-in-Err-clause-causes : goal.returns-in-Err-clause-causes
returns-in-Err-clause-causes g c = (files_of c.args.self.now.files.entries, returns-in-Err-clause-walked g c (files_of c.args.self.now.files.entries) refl)

pub returns-in-Err-take-clause-walked : goal.returns-in-Err-take-clause-walked
returns-in-Err-take-clause-walked g c = λ all is.
    let takes = g.T.TakesFiles.takes in
    let entries = c.args.self.now.files.entries in
    let here = file_at entries c.loop-path.at (c.in-Some.path.now, c.in-Some.bytes.now) (sym c.in-Some.ensures.entry) in
    let rest = files_of (drop (c.loop-path.at + 1) entries) in
    let lent = ap (λ (p : List ℕ). (p, shared_bytes c.in-Some.bytes.now) ∷ rest) (sym c.as_str.ensures.value)
    ∙ ap (λ (b : List ℕ). (c.as_str.result.now, b) ∷ rest) (sym c.in-Ok.ensures) in
    subst (λ xs. Walks takes (IsOwn 0 0) c.args.taker.now xs (Err c.in-Err-take.fault) c.take.new.self) (sym is)
    (c.loop-path.invariant.1 (Err c.in-Err-take.fault) c.take.new.self
    (refused_at takes (IsOwn 0 0) _ _ rest c.loop-path.taker c.take.new.self c.in-Err-take.fault (here ∙ lent) c.in-Err-take.ensures.taken))

pub returns-in-Err-take-clause-causes : goal.returns-in-Err-take-clause-causes
returns-in-Err-take-clause-causes g c = (files_of c.args.self.now.files.entries, returns-in-Err-take-clause-walked g c (files_of c.args.self.now.files.entries) refl)

pub loop-path-preserved : goal.loop-path-preserved
loop-path-preserved g c =
    let takes = g.T.TakesFiles.takes in
    let entries = c.args.self.now.files.entries in
    let here = file_at entries c.loop-path.at (c.in-Some.path.now, c.in-Some.bytes.now) (sym c.in-Some.ensures.entry) in
    let rest = files_of (drop (c.loop-path.at + 1) entries) in
    let lent = ap (λ (p : List ℕ). (p, shared_bytes c.in-Some.bytes.now) ∷ rest) (sym c.as_str.ensures.value)
    ∙ ap (λ (b : List ℕ). (c.as_str.result.now, b) ∷ rest) (sym c.in-Ok.ensures) in (
      c.in-Ok-take.ensures.again,
      λ r last more. c.loop-path.invariant.1 r last
          (one_more takes (IsOwn 0 0) _ _ rest c.loop-path.taker c.take.new.self last r (here ∙ lent) c.in-Ok-take.ensures.taken
          (subst (λ n. Walks takes (IsOwn 0 0) c.take.new.self (files_of (drop n entries)) r last) c.next-at.ensures more)),
    )

pub returns-clause-causes : goal.returns-clause-causes
returns-clause-causes g c =
    let takes = g.T.TakesFiles.takes in
    let entries = c.args.self.now.files.entries in (
      files_of entries,
      c.loop-path.invariant.1 (Ok tt) c.loop-path.taker
          (subst (λ xs. Walks takes (IsOwn 0 0) c.loop-path.taker xs (Ok tt) c.loop-path.taker) (sym (no_file entries c.loop-path.at (sym c.in_default.ensures.entry))) refl),
    )
