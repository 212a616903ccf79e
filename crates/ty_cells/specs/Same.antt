-- The laws of two answers that are the same.
use Rattle.std.specs.Cmp.{IsEquivalence, IsPartialEquivalence, partial_equiv_from_equiv, on_total, eq_by_cmp_equiv}
use Rattle.std.specs.Cmp.Lexicographic.{lists_total, nat_list_cmp_total}
use Rattle.ty_model.specs.Values.{answer_key, same_answer}

-- to be the same answer is an equivalence
pub answer_equiv : IsEquivalence same_answer
answer_equiv = eq_by_cmp_equiv (on_total answer_key (lists_total nat_list_cmp_total))

-- and so a partial one
pub answer_part : IsPartialEquivalence same_answer
answer_part = partial_equiv_from_equiv answer_equiv
