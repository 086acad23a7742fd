use Rattle.std.proofs.Common.{List, ℕ, subst}
use Rattle.command_words.specs.Jobs.{Files, all_files}
use Rattle.named_files.specs.Contents.{AreContents, HasReadOnce, contents_in}
use Rattle.named_files.proofs.Reading.{as_many}
use Rattle.exchange.proofs.jobs.read_opened.Goals as goal

pub returns-clause-contents : goal.returns-clause-contents
returns-clause-contents g c =
    let holds = g.S.System.holds c.args.system.now in
    subst (λ (names : Files (List ℕ)). AreContents holds (g.I.Read.remaining c.args.input.now) names (contents_in c.in_ok-contents.contents)
    (g.I.Read.remaining c.read_contents.new.input)) c.files.ensures c.in_ok-contents.ensures.contents

pub returns-clause-scripts : goal.returns-clause-scripts
returns-clause-scripts g c =
    let holds = g.S.System.holds c.args.system.now in
    let are = subst (λ (names : Files (List ℕ)). AreContents holds (g.I.Read.remaining c.args.input.now) names (contents_in c.in_ok-contents.contents)
    (g.I.Read.remaining c.read_contents.new.input)) c.files.ensures c.in_ok-contents.ensures.contents in
    as_many holds _ _ _ _ are.8

pub returns-clause-read : goal.returns-clause-read
returns-clause-read g c =
    let before = g.S.System.were_read c.args.reads.now in
    let after = g.S.System.were_read c.read_contents.new.reads in
    subst (λ (names : Files (List ℕ)). HasReadOnce (all_files names) before after) c.files.ensures c.read_contents.ensures.read
