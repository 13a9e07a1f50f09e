-- The word in front of the transaction id from which a reader was opened.
use Rattle.std.specs.Prelude.{ℕ, List, codes}
use Rattle.dl_events.specs.declared.txid_word.TxidWord.{TxidWord}

-- the word, with the byte that ends it
abbrev pub txid_text : TxidWord → List ℕ
txid_text w = codes "txid "
