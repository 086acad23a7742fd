-- Worked rows: what is known of two schedules, a link with fewer partners than transfers, and the
-- texts of orders.
use Rattle.std.specs.Prelude.{ℕ, List, [], ◌∷◌, ◌++◌, Some, None, codes}
use Rattle.batch.specs.declared.transfer.Transfer.{Transfer}
use Rattle.batch.specs.Rows.{push}
use Rattle.link_graph.specs.Rows.{first_link}
use Rattle.schedule_picture.specs.declared.verdict.CertificateStatus.TheVariants.{Certified}
use Rattle.schedule_picture.specs.declared.verdict.CertificateStatus.TheVariants.{Missing}
use Rattle.schedule_picture.specs.declared.verdict.Verdict.{Verdict}

-- a shortest schedule of the batch of three transfers, with its certificate
abbrev pub of_three_transfers : Verdict
of_three_transfers =
    record {
      fewest = 2;
      busiest = Some first_link;
      standing = Certified;
      changes = 2;
      partners = 2;
      least = 2;
    }

-- the schedule of no settings, without one
abbrev pub of_empty_batch : Verdict
of_empty_batch =
    record {
      fewest = 0;
      busiest = None;
      standing = Missing;
      changes = 0;
      partners = 0;
      least = 0;
    }

-- three transfers of link 0 of module 0: two to module 1, and one to module 2
abbrev pub two_partners : List Transfer
two_partners = push 0 0 1 0 ∷ push 0 1 1 1 ∷ push 0 2 2 0 ∷ []

-- two modules swap their blocks 0
abbrev pub swap : List Transfer
swap = push 0 0 1 0 ∷ push 1 0 0 0 ∷ []

-- the texts of orders, as they were written by hand
abbrev pub three_transfers_orders : List ℕ
three_transfers_orders =
    codes "modules 3 settings 2\nmodule 0 copies 0 orders 2\n"
    ++ codes "setting 0 link 0 send block 0\nsetting 1 link 0 send block 1\n"
    ++ codes "module 1 copies 0 orders 2\nsetting 0 link 0 send block 1\n"
    ++ codes "setting 0 link 3 receive block 0\nmodule 2 copies 0 orders 2\n"
    ++ codes "setting 0 link 3 receive block 1\nsetting 1 link 3 receive block 0\n"

-- of module 0 alone
abbrev pub first_orders : List ℕ
first_orders =
    codes "modules 1 settings 2\nmodule 0 copies 0 orders 2\n"
    ++ codes "setting 0 link 0 send block 0\nsetting 1 link 0 send block 1\n"

abbrev pub swap_orders : List ℕ
swap_orders =
    codes "modules 2 settings 1\nmodule 0 copies 1 orders 2\ncopy block 0\n"
    ++ codes "setting 0 link 0 send copy 0\nsetting 0 link 3 receive block 0\n"
    ++ codes "module 1 copies 1 orders 2\ncopy block 0\nsetting 0 link 0 send copy 0\n"
    ++ codes "setting 0 link 3 receive block 0\n"

-- the transfers of the swap one after the other
abbrev pub turned_orders : List ℕ
turned_orders =
    codes "modules 2 settings 2\nmodule 0 copies 0 orders 2\n"
    ++ codes "setting 0 link 0 send block 0\nsetting 1 link 3 receive block 0\n"
    ++ codes "module 1 copies 1 orders 2\ncopy block 0\nsetting 0 link 3 receive block 0\n"
    ++ codes "setting 1 link 0 send copy 0\n"

abbrev pub empty_orders : List ℕ
empty_orders = codes "modules 0 settings 0\n"
