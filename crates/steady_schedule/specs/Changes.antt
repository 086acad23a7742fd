-- How often the switch changes over a schedule.
use Rattle.std.specs.Prelude.{ℕ, ◌+◌, List, [], ◌∷◌, Bool, ◌&&◌, ◌==◌, cond}
use Rattle.std.specs.List.{list_any, list_all}
use Rattle.batch.specs.declared.transfer.Transfer.{Transfer}
use Rattle.link_graph.specs.Marks.{members}

-- whether one of the transfers joins link 0 of module u to link 3 of module v
abbrev pub are_partners : List Transfer → ℕ → ℕ → Bool
are_partners transfers u v = list_any (λ x. x.initiator == u && x.responder == v) transfers

-- whether each pair of modules that these transfers join is one that the others join too
abbrev pub join_within : List Transfer → List Transfer → Bool
join_within transfers others = list_all (λ x. are_partners others x.initiator x.responder) transfers

-- whether two settings join the same pairs of modules
abbrev pub join_same : List Transfer → List ℕ → List ℕ → Bool
join_same batch one other =
    join_within (members batch one) (members batch other)
    && join_within (members batch other) (members batch one)

-- how often the switch changes over these settings, where it was set as for another one before
abbrev pub changes_after : List Transfer → List ℕ → List (List ℕ) → ℕ
changes_after batch before [] = 0
changes_after batch before (setting ∷ rest) =
    cond (join_same batch before setting) 0 1 + changes_after batch setting rest

-- How often the switch changes over a schedule: for the first setting, and for each that doesn't
-- join the same pairs of modules as the one before.
abbrev pub changes : List Transfer → List (List ℕ) → ℕ
changes batch [] = 0
changes batch (setting ∷ rest) = 1 + changes_after batch setting rest
