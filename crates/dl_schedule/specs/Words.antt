-- The words of a closed list that stand in lines; where a byte always ends one, it stands with it.
use Rattle.std.specs.Prelude.{ℕ, List, [], ◌∷◌, codes}
use Rattle.dl_schedule.specs.declared.words.FirstWord.{FirstWord}
use Rattle.dl_schedule.specs.declared.words.FirstWord.TheVariants.{Setup, Join, Crash, Expire, Create, Remove, Open, Recover, Purge}
use Rattle.dl_schedule.specs.declared.words.FirstWord.TheVariants.{Append, Set, Flush, Commit, Close, Seek, Read, Truncate, Deliver}
use Rattle.dl_schedule.specs.declared.words.FirstWord.TheVariants.{Sync, Lose, Stop, StopMeta, Kill, Up, Settle, Mail}
use Rattle.dl_schedule.specs.declared.words.StartWord.{StartWord}
use Rattle.dl_schedule.specs.declared.words.StartWord.TheVariants as start
use Rattle.dl_schedule.specs.declared.words.NodeWord.{NodeWord}
use Rattle.dl_schedule.specs.declared.words.NodeWord.TheVariants as letter

-- first words; the two that are whole lines end in a line feed
abbrev pub first_text : FirstWord → List ℕ
first_text Setup = codes "setup "
first_text Join = codes "join "
first_text Crash = codes "crash "
first_text Expire = codes "expire "
first_text Create = codes "create "
first_text Remove = codes "remove "
first_text Open = codes "open "
first_text Recover = codes "recover "
first_text Purge = codes "purge "
first_text Append = codes "append "
first_text Set = codes "set "
first_text Flush = codes "flush "
first_text Commit = codes "commit "
first_text Close = codes "close "
first_text Seek = codes "seek "
first_text Read = codes "read "
first_text Truncate = codes "truncate "
first_text Deliver = codes "deliver "
first_text Sync = codes "sync "
first_text Lose = codes "lose "
first_text Stop = codes "stop "
first_text StopMeta = codes "stopmeta "
first_text Kill = codes "kill "
first_text Up = codes "up "
first_text Settle = codes "settle\n"
first_text Mail = codes "mail\n"

-- all first words
abbrev pub first_words : List FirstWord
first_words =
    Setup ∷ Join ∷ Crash ∷ Expire ∷ Create ∷ Remove ∷ Open ∷ Recover ∷ Purge ∷ Append ∷ Set ∷ Flush ∷ Commit ∷ Close ∷ Seek ∷ Read ∷ Truncate ∷ Deliver
    ∷ Sync ∷ Lose ∷ Stop ∷ StopMeta ∷ Kill ∷ Up ∷ Settle ∷ Mail ∷ []

-- where a reader is put; the word that is the line's last ends in a line feed
abbrev pub start_text : StartWord → List ℕ
start_text start.Oldest = codes "oldest\n"
start_text start.Place = codes "dlsn "
start_text start.Txid = codes "txid "

-- all of them
abbrev pub start_words : List StartWord
start_words = start.Oldest ∷ start.Place ∷ start.Txid ∷ []

-- the letter of a client, of a bookie and of the metadata node
abbrev pub node_text : NodeWord → List ℕ
node_text letter.Client = codes "c"
node_text letter.Bookie = codes "b"
node_text letter.Meta = codes "m"
