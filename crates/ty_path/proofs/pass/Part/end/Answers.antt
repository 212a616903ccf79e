-- By the part that was read.
use Rattle.std.proofs.Common.{◌≡◌, Bool, true, false, ◌&&◌, List, ℕ, refl, sym, ap, ◌∙◌}
use Rattle.std.specs.Bool.{then_some}
use Rattle.std.specs.Option.{option_map_or}
use Rattle.ty_path.specs.Clean.{are_clean}
use Rattle.ty_path.proofs.CleanLaws.{end_part, ended}
use Rattle.ty_path.proofs.pass.Part.end.Goals as goal

pub returns-in-Empty : goal.returns-in-Empty
returns-in-Empty c = λ read rest e. end_part c.args.ups read rest ∙ ap (λ part. ended part c.args.ups rest) (e ∙ c.in-Empty.is)

pub returns-in-Dot : goal.returns-in-Dot
returns-in-Dot c = λ read rest e. end_part c.args.ups read rest ∙ ap (λ part. ended part c.args.ups rest) (e ∙ c.in-Dot.is)

only_ups : (ups : Bool) (rest : List (List ℕ)) → (ups && are_clean true rest) ≡ option_map_or (λ next. are_clean next rest) (then_some ups true) false
only_ups true rest = refl
only_ups false rest = refl

pub returns-in-DotDot : goal.returns-in-DotDot
returns-in-DotDot c = λ read rest e.
    end_part c.args.ups read rest ∙ ap (λ part. ended part c.args.ups rest) (e ∙ c.in-DotDot.is) ∙ only_ups c.args.ups rest
    ∙ ap (λ r. option_map_or (λ next. are_clean next rest) r false) (sym c.then_some.ensures)

pub returns-in-Name : goal.returns-in-Name
returns-in-Name c = λ read rest e. end_part c.args.ups read rest ∙ ap (λ part. ended part c.args.ups rest) (e ∙ c.in-Name.is)
