-- By whether a name was taken back, and whether the text is the root.
use Rattle.std.proofs.Common.{◌≡◌, ◌++◌, ◌∷◌, [], sym, ap, ◌∙◌, string_bytes, bytes_eq, false}
use Rattle.std.proofs.lemmas.Result.{on_ok_weaker}
use Rattle.ty_path.proofs.UpLaws.{up_to_front, up_at_root, up_added, not_taken}
use Rattle.ty_path.proofs.cleaned.go_up.Goals as goal
use Rattle.ty_path.proofs.cleaned.go_up.Goals.{then-take_back-via-then-take_back, then-take_back-via-else-take_back+then-eq}

pub returns-then-take_back : goal.returns-then-take_back
returns-then-take_back c =
    let text = string_bytes c.args.text.now in
    elim c.then-take_back.branch [
      | then-take_back-via-then-take_back w ↦
          c.take_back.ensures.front ∙ up_to_front text c.requires (sym c.take_back.ensures.taken ∙ w.if-take_back.true)
      | then-take_back-via-else-take_back+then-eq w ↦
          let same = not_taken text c.requires (sym c.take_back.ensures.taken ∙ w.if-take_back.false) ∙ sym c.take_back.ensures.front in
          let root = ap (λ t. bytes_eq t (47 ∷ [])) (same ∙ sym w.as_str.ensures.value) ∙ sym w.eq.ensures ∙ w.if-eq.true in
          sym same ∙ up_at_root text c.requires root
    ]

pub returns : goal.returns
returns c =
    let text = string_bytes c.args.text.now in
    let no_name = sym c.take_back.ensures.taken ∙ c.if-take_back.false in
    let same = not_taken text c.requires no_name ∙ sym c.take_back.ensures.front in
    let other : bytes_eq text (47 ∷ []) ≡ false = ap (λ t. bytes_eq t (47 ∷ [])) (same ∙ sym c.as_str.ensures.value) ∙ sym c.eq.ensures ∙ c.if-eq.false in
    on_ok_weaker c.push_part.result (λ e. e ∙ ap (λ t. t ++ (46 ∷ 46 ∷ 47 ∷ [])) (sym same) ∙ up_added text c.requires no_name other) c.push_part.ensures
