use Rattle.client_session.proofs.input.Input.at_end.Goals as goal

pub returns-else-self-clause-ok : goal.returns-else-self-clause-ok
returns-else-self-clause-ok c = tt
