-- When two schedules are equal, and two certificates, as tests.
use Rattle.std.specs.Prelude.{ℕ, Bool, true, false, ◌==◌, List}
use Rattle.std.specs.Cmp.Lexicographic.{pointwise}
use Rattle.std.specs.Option.{option_eq}
use Rattle.std.specs.Ordering.{on, eq_of_both}
use Rattle.link_graph.specs.declared.link.End.{End}
use Rattle.link_graph.specs.declared.link.End.TheVariants.{Zero, Three}
use Rattle.link_graph.specs.declared.link.Link.{Link}
use Rattle.link_graph.specs.Certificates.{Naming}

-- whether there are as many settings, each of them with the numbers of the other in its place
abbrev pub same_settings : List (List ℕ) → List (List ℕ) → Bool
same_settings = pointwise (pointwise ◌==◌)

-- whether two ends are one
abbrev pub same_end : End → End → Bool
same_end Zero Zero = true
same_end Zero Three = false
same_end Three Zero = false
same_end Three Three = true

-- whether two links are one end of one module
abbrev pub same_link : Link → Link → Bool
same_link = eq_of_both (on (λ l. l.end) same_end) (on (λ l. l.«module») ◌==◌)

-- whether both name the same link, or none, and the same transfers in the same order
abbrev pub same_naming : Naming → Naming → Bool
same_naming =
    eq_of_both (on (λ n. n.link) (option_eq same_link)) (on (λ n. n.transfers) (pointwise ◌==◌))
