use Rattle.std.proofs.Common.{◌≡◌, ◌++◌, drop}
use Rattle.std.specs.Prelude.{map}
use Rattle.dlog.specs.Commands.{word_text}
use Rattle.dlog.proofs.arguments.words_of.Given as goal

abbrev pub invariant-loop-bytes : goal.invariant-loop-bytes
invariant-loop-bytes l = l.words.items ++ map (λ bytes. word_text bytes.items) (drop l.bytes-index l.arguments) ≡ map
    (λ bytes. word_text bytes.items) l.arguments
