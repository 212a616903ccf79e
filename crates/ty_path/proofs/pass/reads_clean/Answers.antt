-- A slash ends a part, and any other byte belongs to it.
use Rattle.std.proofs.Common.{◌+◌, [], ◌∷◌, ◌++◌, drop, get_or, refl, sym, ap, ◌∙◌, false, ne_eqb, eqb, append-nil}
use Rattle.std.specs.Option.{option_map_or}
use Rattle.std.proofs.lemmas.List.{drop_more, drop_all}
use Rattle.ty_model.specs.Paths.{parts_at}
use Rattle.ty_path.specs.Clean.{are_clean}
use Rattle.ty_path.proofs.CleanLaws.{onto, onto-nothing, onto-slash, onto-other, at_end}
use Rattle.ty_path.proofs.pass.reads_clean.Goals as goal
use Rattle.ty_path.proofs.pass.reads_clean.Goals.{then-byte-eq47+in-Some, else-byte-eq47}

pub loop-byte-init : goal.loop-byte-init
loop-byte-init c = ([], refl, ap (are_clean c.args.ups) (onto-nothing c.args.text.now))

pub loop-byte-preserved : goal.loop-byte-preserved
loop-byte-preserved c =
    let text = c.args.text.now in
    let at = c.loop-byte.byte-index in
    let byte = get_or text at 0 in
    let rest = drop (at + 1) text in
    let (read, is, same) = c.loop-byte.invariant in
    let step = ap (λ t. are_clean c.loop-byte.may_be_up (onto read (parts_at 47 t))) (drop_more text at 0 c.loop-byte-test.true) in
    elim c.if-byte-eq47.branch [
      | then-byte-eq47+in-Some w ↦ (
        [],
        sym w.part-is,
        ap (λ ups. are_clean ups (onto [] (parts_at 47 rest))) w.may_be_up-is
            ∙ ap (are_clean w.in-Some.next) (onto-nothing rest)
            ∙ sym (ap (λ r. option_map_or (λ next. are_clean next (parts_at 47 rest)) r false) w.in-Some.is)
            ∙ sym (w.end.ensures read (parts_at 47 rest) is)
            ∙ sym (ap (are_clean c.loop-byte.may_be_up) (onto-slash read byte rest (ap (λ b. eqb b 47) w.if-byte-eq47.true)))
            ∙ sym step ∙ same,
      )
      | else-byte-eq47 w ↦ (
        read ++ byte ∷ [],
        w.with-part.ensures read is ∙ sym w.part-is,
        ap (λ ups. are_clean ups (onto (read ++ byte ∷ []) (parts_at 47 rest))) w.may_be_up-is
            ∙ sym (ap (are_clean c.loop-byte.may_be_up) (onto-other read byte rest (ne_eqb byte 47 w.if-byte-eq47.false)))
            ∙ sym step ∙ same,
      )
    ]

pub returns : goal.returns
returns c =
    let text = c.args.text.now in
    let (read, is, same) = c.loop-byte.invariant in
    let ups = c.loop-byte.may_be_up in
    c.is_some.ensures ∙ sym (at_end ups c.end-2.result) ∙ sym (c.end-2.ensures read [] is)
    ∙ sym (ap (λ t. are_clean ups (t ∷ [])) (append-nil read))
    ∙ sym (ap (λ t. are_clean ups (onto read (parts_at 47 t))) (drop_all c.loop-byte.byte-index text c.loop-byte-test.false)) ∙ same
