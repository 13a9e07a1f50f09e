use Rattle.std.proofs.Common.{◌≡◌, ◌≤◌, drop, length}
use Rattle.dl_text.specs.Words.{words_from}
use Rattle.dl_text.proofs.word.word_at.Given as goal

abbrev pub invariant-loop-word : goal.invariant-loop-word
invariant-loop-word g l = record {
  same : words_from g.W.Word.text l.best (drop l.word-index l.words) l.bytes ≡ words_from g.W.Word.text 0 l.words l.bytes;
  fits : l.best ≤ length l.bytes;
}
