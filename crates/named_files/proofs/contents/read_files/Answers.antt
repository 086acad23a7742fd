use Rattle.std.proofs.Common.{[], ◌+◌, ℕ, Vec, is_ok, map, ap, rules, subst, sym}
use Rattle.std.specs.Global.{Global}
use Rattle.named_files.specs.DistinctFiles.{IsReadOf}
use Rattle.named_files.proofs.ReadNames.{read_next, read_none, read_some}
use Rattle.named_files.proofs.Reading.{mapped_more, pushed_items, read_one_more}
use Rattle.named_files.proofs.contents.read_files.Goals as goal

pub loop-name-init : goal.loop-name-init
loop-name-init g c = (search rules, read_none [] _)

pub loop-name-preserved : goal.loop-name-preserved
loop-name-preserved g c =
    let pushed = pushed_items c.push.result c.map_err.result c.loop-name.files.items c.push.new.self.items c.in_ok-file.file c.push.ensures.items
    c.map_err.ensures.variant (ap is_ok c.in_ok-map_err.was) in
    let grown = mapped_more (λ (v : Vec ℕ Global). v.items) c.loop-name.files.items c.push.new.self.items c.in_ok-file.file pushed in (
      read_one_more (g.S.System.holds c.args.system.now) (g.I.Read.remaining c.args.input.now) (g.I.Read.remaining c.loop-name.input)
          (g.I.Read.remaining c.read_file.new.input) c.args.names.now (map (λ (v : Vec ℕ Global). v.items) c.loop-name.files.items) _ c.loop-name.name-index
          c.name-item.result c.in_ok-file.file.items
          c.loop-name-test.true c.name-item.is grown c.loop-name.invariant.0 c.in_ok-file.ensures.content,
      read_next c.args.names.now c.loop-name.name-index c.name-item.result _ _ _ c.loop-name-test.true c.name-item.is c.loop-name.invariant.1 c.read_file.ensures.read,
    )

pub read_file-requires-after_bounds : goal.read_file-requires-after_bounds
read_file-requires-after_bounds g c κs within =
    subst (IsReadOf c.args.apart.now) (sym c.name-item.is) (c.requires c.loop-name.name-index _ c.loop-name-test.true)

pub returns-in_err-file-clause-read : goal.returns-in_err-file-clause-read
returns-in_err-file-clause-read g c =
    read_some c.args.names.now (c.loop-name.name-index + 1) _ _
    (read_next c.args.names.now c.loop-name.name-index c.name-item.result _ _ _ c.loop-name-test.true c.name-item.is c.loop-name.invariant.1
    c.read_file.ensures.read)

pub returns-in_err-map_err-clause-read : goal.returns-in_err-map_err-clause-read
returns-in_err-map_err-clause-read g c =
    read_some c.args.names.now (c.loop-name.name-index + 1) _ _
    (read_next c.args.names.now c.loop-name.name-index c.name-item.result _ _ _ c.loop-name-test.true c.name-item.is c.loop-name.invariant.1
    c.read_file.ensures.read)
