use Rattle.std.proofs.Common.{List, IsTrue, ◌↔◌, ap, subst, sym, ◌∙◌}
use Rattle.std.specs.Prelude.{All}
use Rattle.clap.specs.Words.{Text}
use Rattle.command_words.specs.Jobs.{IsClientName, clients_of}
use Rattle.command_words.proofs.outputs.names_clients.Goals as goal

pub returns-in-Sessions : goal.returns-in-Sessions
returns-in-Sessions c =
    subst (λ (names : List Text). IsTrue c.are_client_names.result ↔ All IsClientName names) (c.clients.ensures ∙ ap clients_of (sym c.in-Sessions.is))
    c.are_client_names.ensures
