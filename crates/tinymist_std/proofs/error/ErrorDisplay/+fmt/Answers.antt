use Rattle.std.proofs.Common.{rules, Some, option_map}
use Rattle.std.proofs.Output.{displays_on_IsOk_append}
use Rattle.tinymist_std.specs.ErrKind.{kind_of}
use Rattle.tinymist_std.specs.Error.{cause_text, arguments_text, arguments_of}
use Rattle.tinymist_std.proofs.PlainKinds.{within-plain}
use Rattle.tinymist_std.proofs.error.ErrorDisplay.+fmt.Goals as goal

pub returns-in_default : goal.returns-in_default
returns-in_default g t c =
    let e = within-plain c.self.inside.kind c.in_default.not-Inner in
    rw (← c.self.view_is)
    (rw e
    (record {
      writes = displays_on_IsOk_append _ _ _ _ _ _
          (Some (cause_text c.self.inside.loc.now (kind_of c.self.inside.kind).cause))
          (arguments_text (option_map (λ v. arguments_of v.items) c.self.inside.args))
          (λ _. search rules)
          c.write_cause.ensures c.write_arguments.ensures;
      styled = tt;
    }))
