-- The names of the files of a job, as the program hands them on.
use Rattle.clap.specs.Words.{Text}
use Rattle.plan_answers.specs.Lent.{bytes_of}
use Rattle.command_words.specs.Jobs.{Files}
use Rattle.command_words.specs.declared.files.JobFiles.{JobFiles}

-- what they are
abbrev pub file_names : JobFiles → Files Text
file_names files =
    record {
      image = bytes_of files.image;
      list = bytes_of files.list;
      schedule = bytes_of files.schedule;
      wiring = bytes_of files.wiring;
      scripts = files.scripts.now;
    }
