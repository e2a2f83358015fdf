-- The front of a file that is too long.
use Rattle.std.proofs.Common.{rules, arith, ◌≡◌, ◌∙◌, ap, length, take}
use Rattle.std.proofs.lemmas.List.{length-take-le}
use Rattle.je_top.proofs.in_memory.MemFilesFiles.read.Goals as goal

pub returns-then-bytes-gt-FILE_LIMIT-clause-too_long :
    goal.returns-then-bytes-gt-FILE_LIMIT-clause-too_long
returns-then-bytes-gt-FILE_LIMIT-clause-too_long c = λ _.
    let file = c.as_slice-bytes.result.now in
    let took : c.extend_from_slice.new.self.items ≡ take 1048577 file = search rules in
    record {
      past_limit = ap length took ∙ length-take-le 1048577 file (omega arith);
      told = (file, search rules, omega arith, took);
    }
