use Rattle.std.proofs.Common.{◌≡◌, take}
use Rattle.dl_links.specs.Tables.{first_in, Passes}
use Rattle.dl_links.proofs.files.Files.first_in.Given as goal

-- the first of the files so far, and all files have their places
abbrev pub invariant-loop-file : goal.invariant-loop-file
invariant-loop-file l = (l.first ≡ first_in l.delivered l.initial.self (take l.file-index l.files)) × Passes l.delivered l.initial.self l.self
