-- The last item of the iterator is the last component that is kept.
use Rattle.std.proofs.Common.{◌+◌, ◌-◌, ◌++◌, ◌∷◌, [], length, take, sym, ap, ◌∙◌, arith, string_bytes, take_at}
use Rattle.std.proofs.lemmas.Str.{IsUtf8-string_bytes}
use Rattle.ty_model.specs.Paths.{slashes}
use Rattle.ty_path.specs.Parts.{components_left}
use Rattle.ty_path.proofs.PartLaws.{no_last, its_last, its_name}
use Rattle.ty_path.proofs.UpLaws.{empty_no_name, other_no_name, not_taken, ends_with_name, name_is_first, taken, cut_after, front_len}
use Rattle.ty_path.proofs.cleaned.take_back.Goals as goal

pub returns-in_default-clause-taken : goal.returns-in_default-clause-taken
returns-in_default-clause-taken c =
    let text = string_bytes c.args.text.now in
    let none = no_last c.components.result _ text c.components.ensures (c.new.ensures ∙ c.as_str.ensures.value) c.next_back.new.self c.in_default.ensures.steps in
    sym (empty_no_name text c.requires none)

pub returns-in_default-clause-front : goal.returns-in_default-clause-front
returns-in_default-clause-front c =
    let text = string_bytes c.args.text.now in
    let none = no_last c.components.result _ text c.components.ensures (c.new.ensures ∙ c.as_str.ensures.value) c.next_back.new.self c.in_default.ensures.steps in
    not_taken text c.requires (empty_no_name text c.requires none)

pub returns-in_default-last : goal.returns-in_default-last
returns-in_default-last c =
    let text = string_bytes c.args.text.now in
    let last = its_last c.components.result _ text c.components.ensures (c.new.ensures ∙ c.as_str.ensures.value) c.next_back.new.self c.in-Some.last c.in-Some.ensures.steps in
    let other = other_no_name text c.requires (components_left c.next_back.new.self) c.in-Some.last last c.in_default-last.not-Normal in
    record { taken = sym other; front = not_taken text c.requires other }

pub overflow_sub-front : goal.overflow_sub-front
overflow_sub-front c =
    let text = string_bytes c.args.text.now in
    let last = its_name c.components.result _ text c.components.ensures (c.new.ensures ∙ c.as_str.ensures.value) c.next_back.new.self c.in-Some.last c.in-Normal.name c.in-Some.ensures.steps c.in-Normal.is in
    let ends = ends_with_name text c.requires (components_left c.next_back.new.self) c.in-Normal.name.now last in
    let long = front_len text (slashes (components_left c.next_back.new.self)) c.in-Normal.name.now c.len.result ends (c.len.ensures ∙ c.args.text.now.bytes.ok.0) in
    omega (arith, long)

pub truncate-requires : goal.truncate-requires
truncate-requires c =
    let text = string_bytes c.args.text.now in
    let front = components_left c.next_back.new.self in
    let last = its_name c.components.result _ text c.components.ensures (c.new.ensures ∙ c.as_str.ensures.value) c.next_back.new.self c.in-Some.last c.in-Normal.name c.in-Some.ensures.steps c.in-Normal.is in
    let ends = ends_with_name text c.requires front c.in-Normal.name.now last in
    let long = front_len text (slashes front) c.in-Normal.name.now c.len.result ends (c.len.ensures ∙ c.args.text.now.bytes.ok.0) in
    λ _. cut_after front text (c.in-Normal.name.now ++ 47 ∷ []) (IsUtf8-string_bytes c.args.text.now) ends _ (omega (arith, long))

pub returns-clause-taken : goal.returns-clause-taken
returns-clause-taken c =
    let text = string_bytes c.args.text.now in
    let last = its_name c.components.result _ text c.components.ensures (c.new.ensures ∙ c.as_str.ensures.value) c.next_back.new.self c.in-Some.last c.in-Normal.name c.in-Some.ensures.steps c.in-Normal.is in
    sym (name_is_first text c.requires (components_left c.next_back.new.self) c.in-Normal.name.now last)

pub returns-clause-front : goal.returns-clause-front
returns-clause-front c =
    let text = string_bytes c.args.text.now in
    let front = components_left c.next_back.new.self in
    let last = its_name c.components.result _ text c.components.ensures (c.new.ensures ∙ c.as_str.ensures.value) c.next_back.new.self c.in-Some.last c.in-Normal.name c.in-Some.ensures.steps c.in-Normal.is in
    let ends = ends_with_name text c.requires front c.in-Normal.name.now last in
    let long = front_len text (slashes front) c.in-Normal.name.now c.len.result ends (c.len.ensures ∙ c.args.text.now.bytes.ok.0) in
    c.truncate.ensures.bytes
    ∙ ap (take (c.len.result - (length c.in-Normal.name.now + 1))) ends
    ∙ take_at (slashes front) (c.in-Normal.name.now ++ 47 ∷ []) (c.len.result - (length c.in-Normal.name.now + 1)) (omega (arith, long))
    ∙ taken text c.requires front c.in-Normal.name.now last
