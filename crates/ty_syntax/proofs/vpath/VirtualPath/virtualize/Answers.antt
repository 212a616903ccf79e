use Rattle.std.proofs.Common.{◌≡◌, ◌∷◌, true, cond, Err, Ok, option_map, subst, sym, ap, ◌∙◌}
use Rattle.std.specs.String.{string_bytes}
use Rattle.ty_model.specs.Paths.{components, realize, BadByte}
use Rattle.ty_syntax.specs.Below.{leads_down, is_virtual, way_as_text, way_down}
use Rattle.ty_syntax.proofs.Below.{no_difference, difference_up, difference-virtual, difference-realized, difference-text}
use Rattle.ty_syntax.proofs.vpath.VirtualPath.virtualize.Goals as goal

pub returns-in_default-clause-vpath : goal.returns-in_default-clause-vpath
returns-in_default-clause-vpath c =
    let root = c.args.root.now in
    let path = c.args.path.now in
    let none = no_difference root path (sym c.in_ok-way.ensures ∙ ap (option_map string_bytes) c.in_default.is) in
    ap (λ t. cond t (Err BadByte) (way_as_text (way_down root path))) (sym c.has_nul.ensures ∙ c.if-has_nul.false) ∙ ap way_as_text none

pub returns-then-not-leads_down-clause-vpath : goal.returns-then-not-leads_down-clause-vpath
returns-then-not-leads_down-clause-vpath c =
    let root = c.args.root.now in
    let path = c.args.path.now in
    let is = sym c.in_ok-way.ensures ∙ ap (option_map string_bytes) c.in-Some.is in
    let up = ap (λ t. leads_down (components t)) (sym c.as_str.ensures.value) ∙ sym c.leads_down.ensures ∙ c.if-not-leads_down.true in
    let none = difference_up root path _ is up in
    ap (λ t. cond t (Err BadByte) (way_as_text (way_down root path))) (sym c.has_nul.ensures ∙ c.if-has_nul.false) ∙ ap way_as_text none

pub of_text-requires : goal.of_text-requires
of_text-requires c =
    let is = sym c.in_ok-way.ensures ∙ ap (option_map string_bytes) c.in-Some.is in
    let down = ap (λ t. leads_down (components t)) (sym c.as_str.ensures.value) ∙ sym c.leads_down.ensures ∙ c.if-not-leads_down.false in
    let text = c.in_ok-text.ensures ∙ ap (λ t. 47 ∷ t) c.as_str-2.ensures.value in
    subst (λ t. is_virtual t ≡ true) (sym text) (difference-virtual c.args.root.now c.args.path.now _ is down)

pub returns-clause-vpath : goal.returns-clause-vpath
returns-clause-vpath c =
    let root = c.args.root.now in
    let path = c.args.path.now in
    let is = sym c.in_ok-way.ensures ∙ ap (option_map string_bytes) c.in-Some.is in
    let down = ap (λ t. leads_down (components t)) (sym c.as_str.ensures.value) ∙ sym c.leads_down.ensures ∙ c.if-not-leads_down.false in
    let text = c.in_ok-of_text.ensures ∙ c.in_ok-text.ensures ∙ ap (λ t. 47 ∷ t) c.as_str-2.ensures.value in
    ap (λ t. cond t (Err BadByte) (way_as_text (way_down root path))) (sym c.has_nul.ensures ∙ c.if-has_nul.false)
    ∙ difference-text root path _ is down ∙ ap (λ t. Ok t) (sym text)

pub returns-clause-realized : goal.returns-clause-realized
returns-clause-realized c =
    let root = c.args.root.now in
    let is = sym c.in_ok-way.ensures ∙ ap (option_map string_bytes) c.in-Some.is in
    let down = ap (λ t. leads_down (components t)) (sym c.as_str.ensures.value) ∙ sym c.leads_down.ensures ∙ c.if-not-leads_down.false in
    let text = c.in_ok-of_text.ensures ∙ c.in_ok-text.ensures ∙ ap (λ t. 47 ∷ t) c.as_str-2.ensures.value in
    ap (realize root) text ∙ difference-realized root c.args.path.now _ is down
