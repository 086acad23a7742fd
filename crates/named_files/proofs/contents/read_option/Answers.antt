use Rattle.std.proofs.Common.{[], ◌∷◌, All, arith, refl}
use Rattle.named_files.specs.DistinctFiles.{IsReadOf}
use Rattle.named_files.proofs.contents.read_option.Goals as goal

pub returns-in_ok-read_file-in-Some-clause-content : goal.returns-in_ok-read_file-in-Some-clause-content
returns-in_ok-read_file-in-Some-clause-content g c =
    rw c.in-Some.is (g.I.Read.remaining c.read_file.new.input, c.in_ok-read_file-in-Some.ensures.content, refl)

pub read_file-requires-after_bounds : goal.read_file-requires-after_bounds
read_file-requires-after_bounds g c κs within =
    let all : All (IsReadOf c.args.apart.now) (c.in-Some.name.now ∷ []) = rw c.in-Some.is at c.requires in
    all 0 c.in-Some.name.now (omega arith)
