-- Worked rows: a shortest schedule of the batch of three transfers, its certificate, and their
-- texts.
use Rattle.std.specs.Prelude.{ℕ, List, [], ◌∷◌, Some, codes}
use Rattle.link_graph.specs.declared.link.End.TheVariants.{Zero}
use Rattle.link_graph.specs.declared.link.Link.{Link}
use Rattle.link_graph.specs.Certificates.{Naming, naming}

-- link 0 of module 0
abbrev pub first_link : Link
first_link = record { end = Zero; «module» = 0 }

-- transfers 0 and 2 in one setting, and 1 in another
abbrev pub two_settings : List (List ℕ)
two_settings = (0 ∷ 2 ∷ []) ∷ (1 ∷ []) ∷ []

-- transfers 0 and 1 both use the first link
abbrev pub two_named : Naming
two_named = naming (Some first_link) (0 ∷ 1 ∷ [])

-- the texts, as they were written by hand
abbrev pub two_settings_text : List ℕ
two_settings_text = codes "settings 2\nsetting 0 2\nsetting 1\n"

abbrev pub certified_text : List ℕ
certified_text = codes "settings 2\nsetting 0 2\nsetting 1\nbusiest link 0 module 0\nnamed 0 1\n"

abbrev pub empty_text : List ℕ
empty_text = codes "settings 0\nbusiest none\n"
