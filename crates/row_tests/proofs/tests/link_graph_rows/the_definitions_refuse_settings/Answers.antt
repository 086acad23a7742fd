use Rattle.std.proofs.Common.{arith, inl, inr, refl}
use Rattle.batch.specs.Rows.{push}
use Rattle.link_graph.specs.Uses.{start_link, answer_link}
use Rattle.row_tests.proofs.tests.link_graph_rows.the_definitions_refuse_settings.Goals as goal

pub returns-clause-link_0 : goal.returns-clause-link_0
returns-clause-link_0 c m = (m 0 1 0 (omega arith) (omega arith)).none_common (start_link (push 0 0 1 0)) (push 0 0 1 0, refl, inl refl)
    (push 0 1 2 0, refl, inl refl)

pub returns-clause-link_3 : goal.returns-clause-link_3
returns-clause-link_3 c m = (m 0 1 0 (omega arith) (omega arith)).none_common (answer_link (push 0 1 2 0)) (push 0 1 2 0, refl, inr refl)
    (push 1 1 2 1, refl, inr refl)

pub returns-clause-repeated : goal.returns-clause-repeated
returns-clause-repeated c m = (m 0 1 0 (omega arith) (omega arith)).none_common (start_link (push 0 0 1 0)) (push 0 0 1 0, refl, inl refl)
    (push 0 0 1 0, refl, inl refl)
