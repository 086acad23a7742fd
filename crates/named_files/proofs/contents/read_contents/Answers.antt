use Rattle.command_words.specs.Files.{file_names}
use Rattle.named_files.proofs.ReadNames.{read_each, read_none, read_of}
use Rattle.named_files.proofs.contents.read_contents.Goals as goal

pub read_option-requires-2-after_bounds : goal.read_option-requires-2-after_bounds
read_option-requires-2-after_bounds g c κs within = (read_of c.args.apart.now (file_names c.args.files) c.requires).1

pub read_option-requires-3-after_bounds : goal.read_option-requires-3-after_bounds
read_option-requires-3-after_bounds g c κs within = (read_of c.args.apart.now (file_names c.args.files) c.requires).2

pub read_option-requires-4-after_bounds : goal.read_option-requires-4-after_bounds
read_option-requires-4-after_bounds g c κs within = (read_of c.args.apart.now (file_names c.args.files) c.requires).3

pub read_files-requires-after_bounds : goal.read_files-requires-after_bounds
read_files-requires-after_bounds g c κs within = (read_of c.args.apart.now (file_names c.args.files) c.requires).4

pub returns-in_err-read_option-clause-read : goal.returns-in_err-read_option-clause-read
returns-in_err-read_option-clause-read g c = read_each (file_names c.args.files) _ _ _ _ _ _ c.read_option.ensures.read (read_none _ _) (read_none _ _)
    (read_none _ _) (read_none _ _)

pub returns-in_err-read_option-2-clause-read : goal.returns-in_err-read_option-2-clause-read
returns-in_err-read_option-2-clause-read g c = read_each (file_names c.args.files) _ _ _ _ _ _ c.read_option.ensures.read c.read_option-2.ensures.read
    (read_none _ _) (read_none _ _) (read_none _ _)

pub returns-in_err-read_option-3-clause-read : goal.returns-in_err-read_option-3-clause-read
returns-in_err-read_option-3-clause-read g c = read_each (file_names c.args.files) _ _ _ _ _ _ c.read_option.ensures.read c.read_option-2.ensures.read
    c.read_option-3.ensures.read (read_none _ _) (read_none _ _)

pub returns-in_err-read_option-4-clause-read : goal.returns-in_err-read_option-4-clause-read
returns-in_err-read_option-4-clause-read g c = read_each (file_names c.args.files) _ _ _ _ _ _ c.read_option.ensures.read c.read_option-2.ensures.read
    c.read_option-3.ensures.read c.read_option-4.ensures.read (read_none _ _)

pub returns-in_err-read_files-clause-read : goal.returns-in_err-read_files-clause-read
returns-in_err-read_files-clause-read g c = read_each (file_names c.args.files) _ _ _ _ _ _ c.read_option.ensures.read c.read_option-2.ensures.read
    c.read_option-3.ensures.read c.read_option-4.ensures.read c.read_files.ensures.read

pub returns-clause-read : goal.returns-clause-read
returns-clause-read g c = read_each (file_names c.args.files) _ _ _ _ _ _ c.read_option.ensures.read c.read_option-2.ensures.read c.read_option-3.ensures.read
    c.read_option-4.ensures.read c.read_files.ensures.read
