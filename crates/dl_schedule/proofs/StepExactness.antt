-- Each form of line is read exactly.
use Rattle.std.proofs.Common.{◌≡◌, ℕ, ◌-◌, Bool, List, [], ◌∷◌, ◌++◌, Ok, refl, ap, lit<, lit≤}
use Rattle.std.specs.List.{AllByRecursion}
use Rattle.dl_types.specs.declared.address.Address.{Address}
use Rattle.dl_types.specs.declared.dlsn.Dlsn.{Dlsn}
use Rattle.dl_types.specs.declared.start.Start.{Start}
use Rattle.dl_types.specs.declared.start.Start.TheVariants as start
use Rattle.dl_text.specs.Readers.{Exact}
use Rattle.dl_text.specs.Numbers.{IsWithin, most_u64}
use Rattle.dl_text.specs.Hex.{AllBytes}
use Rattle.dl_text.specs.NameFields.{IsName}
use Rattle.dl_text.specs.PlaceFields.{IsPlaceFrom}
use Rattle.dl_text.specs.Words.{words_from}
use Rattle.dl_text.proofs.ReaderLemmas.{then_exact, made_exact}
use Rattle.dl_text.proofs.HexLemmas.{hex_exact}
use Rattle.dl_text.proofs.NameLemmas.{name_exact}
use Rattle.dl_text.proofs.PlaceLemmas.{place_exact}
use Rattle.dl_text.proofs.ListLemmas.{payloads_exact}
use Rattle.dl_text.proofs.WordLemmas.{words_exact}
use Rattle.dl_schedule.specs.declared.up_to.TheConstants.{MAX_ROWS}
use Rattle.dl_schedule.specs.declared.node.Node.{Node}
use Rattle.dl_schedule.specs.declared.step.TheConstants.{MAX_SET}
use Rattle.dl_schedule.specs.declared.step.Step.{Step}
use Rattle.dl_schedule.specs.declared.step.Step.TheVariants.{Setup, Join, Crash, Expire, Create, Remove, Open, Recover, Purge, Append}
use Rattle.dl_schedule.specs.declared.step.Step.TheVariants.{Set, Flush, Commit, Close, SeekOldest, SeekPlace, SeekTxid, Read, Truncate}
use Rattle.dl_schedule.specs.declared.step.Step.TheVariants.{Deliver, Sync, Lose, Stop, StopMeta, Kill, Up, Settle, Mail}
use Rattle.dl_schedule.specs.declared.words.FirstWord.{FirstWord}
use Rattle.dl_schedule.specs.declared.words.FirstWord.TheVariants as word
use Rattle.dl_schedule.specs.Words.{first_text, first_words}
use Rattle.dl_schedule.specs.StepLines.{space, line_feed, first_word_of, letter_of, seek_words, other_words, step_line, IsClient}
use Rattle.dl_schedule.specs.StepLines.{IsBookie, IsCount, IsTxid, IsNumber, IsCall, IsNode, ArePayloads, IsStep}
use Rattle.dl_schedule.specs.StepReading.{letters, other_letters, one_client, client_stream, one_bookie, one_node, seek_step, setup_at, expire_at, append_at}
use Rattle.dl_schedule.specs.StepReading.{set_at, seek_at, read_at, truncate_at, deliver_at, stop_at, stop_meta_at, other_words_at, step_at}
use Rattle.dl_schedule.proofs.FieldExactness.{nothing_exact, client, bookie, count, txid, message, session, rows, call_exact}
use Rattle.dl_schedule.proofs.FieldExactness.{IsAddress, IsLetter, any_letter, IsOtherLetter, other_letter, link_ends}
use Rattle.dl_schedule.proofs.FieldExactness.{ends_link, address_exact, node_exact, IsStart, start_exact}

-- first words

-- each first word may begin a line
abbrev IsWord : FirstWord → Type 0
IsWord w = Unit {0}

-- each first word is read as itself, whatever follows
word_again : (w : FirstWord) (rest : List ℕ) → IsWord w → words_from first_text 0 first_words (first_text w ++ rest) ≡ Ok (w, rest)
word_again word.Setup rest u = refl
word_again word.Join rest u = refl
word_again word.Crash rest u = refl
word_again word.Expire rest u = refl
word_again word.Create rest u = refl
word_again word.Remove rest u = refl
word_again word.Open rest u = refl
word_again word.Recover rest u = refl
word_again word.Purge rest u = refl
word_again word.Append rest u = refl
word_again word.Set rest u = refl
word_again word.Flush rest u = refl
word_again word.Commit rest u = refl
word_again word.Close rest u = refl
word_again word.Seek rest u = refl
word_again word.Read rest u = refl
word_again word.Truncate rest u = refl
word_again word.Deliver rest u = refl
word_again word.Sync rest u = refl
word_again word.Lose rest u = refl
word_again word.Stop rest u = refl
word_again word.StopMeta rest u = refl
word_again word.Kill rest u = refl
word_again word.Up rest u = refl
word_again word.Settle rest u = refl
word_again word.Mail rest u = refl

-- what holds of each first word in the list holds of each first word
every_word : (P : FirstWord → Type 0) → AllByRecursion P first_words → (w : FirstWord) → IsWord w → P w
every_word P all word.Setup u = all.0
every_word P all word.Join u = all.1.0
every_word P all word.Crash u = all.1.1.0
every_word P all word.Expire u = all.1.1.1.0
every_word P all word.Create u = all.1.1.1.1.0
every_word P all word.Remove u = all.1.1.1.1.1.0
every_word P all word.Open u = all.1.1.1.1.1.1.0
every_word P all word.Recover u = all.1.1.1.1.1.1.1.0
every_word P all word.Purge u = all.1.1.1.1.1.1.1.1.0
every_word P all word.Append u = all.1.1.1.1.1.1.1.1.1.0
every_word P all word.Set u = all.1.1.1.1.1.1.1.1.1.1.0
every_word P all word.Flush u = all.1.1.1.1.1.1.1.1.1.1.1.0
every_word P all word.Commit u = all.1.1.1.1.1.1.1.1.1.1.1.1.0
every_word P all word.Close u = all.1.1.1.1.1.1.1.1.1.1.1.1.1.0
every_word P all word.Seek u = all.1.1.1.1.1.1.1.1.1.1.1.1.1.1.0
every_word P all word.Read u = all.1.1.1.1.1.1.1.1.1.1.1.1.1.1.1.0
every_word P all word.Truncate u = all.1.1.1.1.1.1.1.1.1.1.1.1.1.1.1.1.0
every_word P all word.Deliver u = all.1.1.1.1.1.1.1.1.1.1.1.1.1.1.1.1.1.0
every_word P all word.Sync u = all.1.1.1.1.1.1.1.1.1.1.1.1.1.1.1.1.1.1.0
every_word P all word.Lose u = all.1.1.1.1.1.1.1.1.1.1.1.1.1.1.1.1.1.1.1.0
every_word P all word.Stop u = all.1.1.1.1.1.1.1.1.1.1.1.1.1.1.1.1.1.1.1.1.0
every_word P all word.StopMeta u = all.1.1.1.1.1.1.1.1.1.1.1.1.1.1.1.1.1.1.1.1.1.0
every_word P all word.Kill u = all.1.1.1.1.1.1.1.1.1.1.1.1.1.1.1.1.1.1.1.1.1.1.0
every_word P all word.Up u = all.1.1.1.1.1.1.1.1.1.1.1.1.1.1.1.1.1.1.1.1.1.1.1.0
every_word P all word.Settle u = all.1.1.1.1.1.1.1.1.1.1.1.1.1.1.1.1.1.1.1.1.1.1.1.1.0
every_word P all word.Mail u = all.1.1.1.1.1.1.1.1.1.1.1.1.1.1.1.1.1.1.1.1.1.1.1.1.1.0

-- each first word of a list may begin a line
are_words : (words : List FirstWord) → AllByRecursion IsWord words
are_words [] = tt
are_words (w ∷ words) = (tt, are_words words)

-- the first word of a line is read exactly
word_exact : Exact IsWord first_text (words_from first_text 0 first_words)
word_exact = words_exact IsWord first_text word.Setup
    (word.Join ∷ word.Crash ∷ word.Expire ∷ word.Create ∷ word.Remove ∷ word.Open ∷ word.Recover ∷ word.Purge ∷ word.Append ∷ word.Set ∷ word.Flush
    ∷ word.Commit ∷ word.Close ∷ word.Seek ∷ word.Read ∷ word.Truncate ∷ word.Deliver ∷ word.Sync ∷ word.Lose ∷ word.Stop ∷ word.StopMeta ∷ word.Kill
    ∷ word.Up ∷ word.Settle ∷ word.Mail ∷ [])
    (are_words first_words) word_again every_word

-- lines behind their first words

-- a step whose line begins with this word
abbrev IsLine : FirstWord → Step → Type 0
IsLine w s = IsStep s × (first_word_of s ≡ w)

-- a setup is read exactly behind its first word
setup_exact : Exact (IsLine word.Setup) other_words setup_at
setup_exact = made_exact _ _ _ (λ x. Setup x.0 x.1.0 x.1.1.0 x.1.1.1) (IsLine word.Setup) other_words
    (then_exact _ _ _ _ _ _ (count space (lit< tt)) (λ b u. then_exact _ _ _ _ _ _ (count space (lit< tt))
    (λ e v. then_exact _ _ _ _ _ _ (count space (lit< tt)) (λ q w. count line_feed (lit< tt)))))
    (λ x v. ((v, refl), refl)) from
  where
    from : (s : Step) → IsLine word.Setup s → (x : ℕ × (ℕ × (ℕ × ℕ))) × (IsCount x.0 × (IsCount x.1.0 × (IsCount x.1.1.0 × IsCount x.1.1.1)))
        × (Setup x.0 x.1.0 x.1.1.0 x.1.1.1 ≡ s)
    from (Setup b e q a) w = ((b, (e, (q, a))), w.0, refl)
    from _ w = absurd (let e = w.1 in cc)

-- a join is read exactly behind its first word
join_exact : Exact (IsLine word.Join) other_words (one_client Join)
join_exact = made_exact _ _ _ Join (IsLine word.Join) other_words
    (client line_feed (lit< tt))
    (λ x v. ((v, refl), refl)) from
  where
    from : (s : Step) → IsLine word.Join s → (x : ℕ) × IsClient x × (Join x ≡ s)
    from (Join c) w = (c, w.0, refl)
    from _ w = absurd (let e = w.1 in cc)

-- a crash is read exactly behind its first word
crash_exact : Exact (IsLine word.Crash) other_words (one_client Crash)
crash_exact = made_exact _ _ _ Crash (IsLine word.Crash) other_words
    (client line_feed (lit< tt))
    (λ x v. ((v, refl), refl)) from
  where
    from : (s : Step) → IsLine word.Crash s → (x : ℕ) × IsClient x × (Crash x ≡ s)
    from (Crash c) w = (c, w.0, refl)
    from _ w = absurd (let e = w.1 in cc)

-- a flush is read exactly behind its first word
flush_exact : Exact (IsLine word.Flush) other_words (one_client Flush)
flush_exact = made_exact _ _ _ Flush (IsLine word.Flush) other_words
    (client line_feed (lit< tt))
    (λ x v. ((v, refl), refl)) from
  where
    from : (s : Step) → IsLine word.Flush s → (x : ℕ) × IsClient x × (Flush x ≡ s)
    from (Flush c) w = (c, w.0, refl)
    from _ w = absurd (let e = w.1 in cc)

-- a commit is read exactly behind its first word
commit_exact : Exact (IsLine word.Commit) other_words (one_client Commit)
commit_exact = made_exact _ _ _ Commit (IsLine word.Commit) other_words
    (client line_feed (lit< tt))
    (λ x v. ((v, refl), refl)) from
  where
    from : (s : Step) → IsLine word.Commit s → (x : ℕ) × IsClient x × (Commit x ≡ s)
    from (Commit c) w = (c, w.0, refl)
    from _ w = absurd (let e = w.1 in cc)

-- a close is read exactly behind its first word
close_exact : Exact (IsLine word.Close) other_words (one_client Close)
close_exact = made_exact _ _ _ Close (IsLine word.Close) other_words
    (client line_feed (lit< tt))
    (λ x v. ((v, refl), refl)) from
  where
    from : (s : Step) → IsLine word.Close s → (x : ℕ) × IsClient x × (Close x ≡ s)
    from (Close c) w = (c, w.0, refl)
    from _ w = absurd (let e = w.1 in cc)

-- an expiry is read exactly behind its first word
expire_exact : Exact (IsLine word.Expire) other_words expire_at
expire_exact = made_exact _ _ _ Expire (IsLine word.Expire) other_words
    session
    (λ x v. ((v, refl), refl)) from
  where
    from : (s : Step) → IsLine word.Expire s → (x : ℕ) × IsWithin 1 most_u64 x × (Expire x ≡ s)
    from (Expire k) w = (k, w.0, refl)
    from _ w = absurd (let e = w.1 in cc)

-- a create is read exactly behind its first word
create_exact : Exact (IsLine word.Create) other_words (client_stream Create)
create_exact = made_exact _ _ _ (λ x. Create x.0 x.1) (IsLine word.Create) other_words
    (then_exact _ _ _ _ _ _ (client space (lit< tt)) (λ c v. name_exact line_feed (lit< tt)))
    (λ x v. ((v, refl), refl)) from
  where
    from : (s : Step) → IsLine word.Create s → (x : ℕ × List ℕ) × (IsClient x.0 × IsName x.1) × (Create x.0 x.1 ≡ s)
    from (Create c s) w = ((c, s), w.0, refl)
    from _ w = absurd (let e = w.1 in cc)

-- a remove is read exactly behind its first word
remove_exact : Exact (IsLine word.Remove) other_words (client_stream Remove)
remove_exact = made_exact _ _ _ (λ x. Remove x.0 x.1) (IsLine word.Remove) other_words
    (then_exact _ _ _ _ _ _ (client space (lit< tt)) (λ c v. name_exact line_feed (lit< tt)))
    (λ x v. ((v, refl), refl)) from
  where
    from : (s : Step) → IsLine word.Remove s → (x : ℕ × List ℕ) × (IsClient x.0 × IsName x.1) × (Remove x.0 x.1 ≡ s)
    from (Remove c s) w = ((c, s), w.0, refl)
    from _ w = absurd (let e = w.1 in cc)

-- an open is read exactly behind its first word
open_exact : Exact (IsLine word.Open) other_words (client_stream Open)
open_exact = made_exact _ _ _ (λ x. Open x.0 x.1) (IsLine word.Open) other_words
    (then_exact _ _ _ _ _ _ (client space (lit< tt)) (λ c v. name_exact line_feed (lit< tt)))
    (λ x v. ((v, refl), refl)) from
  where
    from : (s : Step) → IsLine word.Open s → (x : ℕ × List ℕ) × (IsClient x.0 × IsName x.1) × (Open x.0 x.1 ≡ s)
    from (Open c s) w = ((c, s), w.0, refl)
    from _ w = absurd (let e = w.1 in cc)

-- a recovery is read exactly behind its first word
recover_exact : Exact (IsLine word.Recover) other_words (client_stream Recover)
recover_exact = made_exact _ _ _ (λ x. Recover x.0 x.1) (IsLine word.Recover) other_words
    (then_exact _ _ _ _ _ _ (client space (lit< tt)) (λ c v. name_exact line_feed (lit< tt)))
    (λ x v. ((v, refl), refl)) from
  where
    from : (s : Step) → IsLine word.Recover s → (x : ℕ × List ℕ) × (IsClient x.0 × IsName x.1) × (Recover x.0 x.1 ≡ s)
    from (Recover c s) w = ((c, s), w.0, refl)
    from _ w = absurd (let e = w.1 in cc)

-- a purge is read exactly behind its first word
purge_exact : Exact (IsLine word.Purge) other_words (client_stream Purge)
purge_exact = made_exact _ _ _ (λ x. Purge x.0 x.1) (IsLine word.Purge) other_words
    (then_exact _ _ _ _ _ _ (client space (lit< tt)) (λ c v. name_exact line_feed (lit< tt)))
    (λ x v. ((v, refl), refl)) from
  where
    from : (s : Step) → IsLine word.Purge s → (x : ℕ × List ℕ) × (IsClient x.0 × IsName x.1) × (Purge x.0 x.1 ≡ s)
    from (Purge c s) w = ((c, s), w.0, refl)
    from _ w = absurd (let e = w.1 in cc)

-- an append is read exactly behind its first word
append_exact : Exact (IsLine word.Append) other_words append_at
append_exact = made_exact _ _ _ (λ x. Append x.0 x.1.0 x.1.1) (IsLine word.Append) other_words
    (then_exact _ _ _ _ _ _ (client space (lit< tt)) (λ c v. then_exact _ _ _ _ _ _ (txid space (lit< tt)) (λ t u. hex_exact line_feed (lit< tt))))
    (λ x v. ((v, refl), refl)) from
  where
    from : (s : Step) → IsLine word.Append s → (x : ℕ × (ℕ × List ℕ)) × (IsClient x.0 × (IsTxid x.1.0 × AllBytes x.1.1)) × (Append x.0 x.1.0 x.1.1 ≡ s)
    from (Append c t p) w = ((c, (t, p)), w.0, refl)
    from _ w = absurd (let e = w.1 in cc)

-- a set is read exactly behind its first word
set_exact : Exact (IsLine word.Set) other_words set_at
set_exact = made_exact _ _ _ (λ x. Set x.0 x.1.0 x.1.1) (IsLine word.Set) other_words
    (then_exact _ _ _ _ _ _ (client space (lit< tt)) (λ c v. then_exact _ _ _ _ _ _ (txid space (lit< tt)) (λ t u. payloads_exact (MAX_SET - 1))))
    (λ x v. ((v, refl), refl)) from
  where
    from : (s : Step) → IsLine word.Set s → (x : ℕ × (ℕ × List (List ℕ))) × (IsClient x.0 × (IsTxid x.1.0 × ArePayloads x.1.1)) × (Set x.0 x.1.0 x.1.1 ≡ s)
    from (Set c t ps) w = ((c, (t, ps)), w.0, refl)
    from _ w = absurd (let e = w.1 in cc)

-- what a seek says
abbrev IsSeek : ℕ × (List ℕ × Start) → Type 0
IsSeek x = IsClient x.0 × (IsName x.1.0 × IsStart x.1.1)

-- a seek in its ranges is a step whose line begins with the word seek, and is spelt as its client, stream and start
seek_line : (c : ℕ) (s : List ℕ) (x : Start) → IsSeek (c, (s, x)) → IsLine word.Seek (seek_step c s x) × (other_words (seek_step c s x) ≡ seek_words c s x)
seek_line c s start.Oldest v = (((v.0, v.1.0), refl), refl)
seek_line c s (start.Place d) v = ((v, refl), refl)
seek_line c s (start.Tx t) v = ((v, refl), refl)

-- a seek is read exactly behind its first word
seek_exact : Exact (IsLine word.Seek) other_words seek_at
seek_exact = made_exact _ _ _ (λ x. seek_step x.0 x.1.0 x.1.1) (IsLine word.Seek) other_words
    (then_exact _ _ _ _ _ _ (client space (lit< tt)) (λ c v. then_exact _ _ _ _ _ _ (name_exact space (lit< tt)) (λ s u. start_exact)))
    (λ x v. seek_line x.0 x.1.0 x.1.1 v) from
  where
    from : (s : Step) → IsLine word.Seek s → (x : ℕ × (List ℕ × Start)) × IsSeek x × (seek_step x.0 x.1.0 x.1.1 ≡ s)
    from (SeekOldest c s) w = ((c, (s, start.Oldest)), (w.0.0, (w.0.1, tt)), refl)
    from (SeekPlace c s d) w = ((c, (s, start.Place d)), w.0, refl)
    from (SeekTxid c s t) w = ((c, (s, start.Tx t)), w.0, refl)
    from _ w = absurd (let e = w.1 in cc)

-- a read is read exactly behind its first word
read_exact : Exact (IsLine word.Read) other_words read_at
read_exact = made_exact _ _ _ (λ x. Read x.0 x.1) (IsLine word.Read) other_words
    (then_exact _ _ _ _ _ _ (client space (lit< tt)) (λ c v. rows))
    (λ x v. ((v, refl), refl)) from
  where
    from : (s : Step) → IsLine word.Read s → (x : ℕ × ℕ) × (IsClient x.0 × IsWithin 1 MAX_ROWS x.1) × (Read x.0 x.1 ≡ s)
    from (Read c n) w = ((c, n), w.0, refl)
    from _ w = absurd (let e = w.1 in cc)

-- a truncation is read exactly behind its first word
truncate_exact : Exact (IsLine word.Truncate) other_words truncate_at
truncate_exact = made_exact _ _ _ (λ x. Truncate x.0 x.1.0 x.1.1) (IsLine word.Truncate) other_words
    (then_exact _ _ _ _ _ _ (client space (lit< tt)) (λ c v. then_exact _ _ _ _ _ _ (name_exact space (lit< tt))
    (λ s u. place_exact 1 line_feed (lit≤ tt) (lit< tt))))
    (λ x v. ((v, refl), refl)) from
  where
    from : (s : Step) → IsLine word.Truncate s → (x : ℕ × (List ℕ × Dlsn)) × (IsClient x.0 × (IsName x.1.0 × IsPlaceFrom 1 x.1.1))
        × (Truncate x.0 x.1.0 x.1.1 ≡ s)
    from (Truncate c s d) w = ((c, (s, d)), w.0, refl)
    from _ w = absurd (let e = w.1 in cc)

-- a delivery is read exactly behind its first word
deliver_exact : Exact (IsLine word.Deliver) other_words deliver_at
deliver_exact = made_exact _ _ _ (λ x. Deliver x.0 x.1.0 x.1.1) (IsLine word.Deliver) other_words
    (then_exact _ _ _ _ _ _ (address_exact space (lit< tt) IsLetter letters any_letter)
    (λ f v. then_exact _ _ _ _ _ _ (address_exact space (lit< tt) (IsOtherLetter f) (other_letters f) (other_letter f)) (λ g u. message line_feed (lit< tt))))
    (λ x v. (((ends_link x.0 x.1.0 (v.0, v.1.0), v.1.1), refl), refl)) from
  where
    from : (s : Step) → IsLine word.Deliver s → (x : Address × (Address × ℕ))
        × ((IsAddress x.0 × Unit {0}) × ((IsAddress x.1.0 × IsOtherLetter x.0 (letter_of x.1.0)) × IsNumber x.1.1)) × (Deliver x.0 x.1.0 x.1.1 ≡ s)
    from (Deliver f g n) w = let e = link_ends f g w.0.0 in ((f, (g, n)), (e.0, (e.1, w.0.1)), refl)
    from _ w = absurd (let e = w.1 in cc)

-- a sync is read exactly behind its first word
sync_exact : Exact (IsLine word.Sync) other_words (one_bookie Sync)
sync_exact = made_exact _ _ _ Sync (IsLine word.Sync) other_words
    (bookie line_feed (lit< tt))
    (λ x v. ((v, refl), refl)) from
  where
    from : (s : Step) → IsLine word.Sync s → (x : ℕ) × IsBookie x × (Sync x ≡ s)
    from (Sync b) w = (b, w.0, refl)
    from _ w = absurd (let e = w.1 in cc)

-- a loss is read exactly behind its first word
lose_exact : Exact (IsLine word.Lose) other_words (one_bookie Lose)
lose_exact = made_exact _ _ _ Lose (IsLine word.Lose) other_words
    (bookie line_feed (lit< tt))
    (λ x v. ((v, refl), refl)) from
  where
    from : (s : Step) → IsLine word.Lose s → (x : ℕ) × IsBookie x × (Lose x ≡ s)
    from (Lose b) w = (b, w.0, refl)
    from _ w = absurd (let e = w.1 in cc)

-- a stop of a bookie is read exactly behind its first word
stop_exact : Exact (IsLine word.Stop) other_words stop_at
stop_exact = made_exact _ _ _ (λ x. Stop x.0 x.1.0 x.1.1) (IsLine word.Stop) other_words
    (then_exact _ _ _ _ _ _ (bookie space (lit< tt)) (λ b v. call_exact))
    (λ x v. ((v, refl), refl)) from
  where
    from : (s : Step) → IsLine word.Stop s → (x : ℕ × (ℕ × Bool)) × (IsBookie x.0 × IsCall x.1.0) × (Stop x.0 x.1.0 x.1.1 ≡ s)
    from (Stop b k kept) w = ((b, (k, kept)), w.0, refl)
    from _ w = absurd (let e = w.1 in cc)

-- a stop of the metadata node is read exactly behind its first word
stop_meta_exact : Exact (IsLine word.StopMeta) other_words stop_meta_at
stop_meta_exact = made_exact _ _ _ (λ x. StopMeta x.0 x.1.0 x.1.1.0 x.1.1.1) (IsLine word.StopMeta) other_words
    (then_exact _ _ _ _ _ _ (client space (lit< tt)) (λ c v. then_exact _ _ _ _ _ _ (message space (lit< tt)) (λ n u. call_exact)))
    (λ x v. ((v, refl), refl)) from
  where
    from : (s : Step) → IsLine word.StopMeta s → (x : ℕ × (ℕ × (ℕ × Bool))) × (IsClient x.0 × (IsNumber x.1.0 × IsCall x.1.1.0))
        × (StopMeta x.0 x.1.0 x.1.1.0 x.1.1.1 ≡ s)
    from (StopMeta c n k kept) w = ((c, (n, (k, kept))), w.0, refl)
    from _ w = absurd (let e = w.1 in cc)

-- a kill is read exactly behind its first word
kill_exact : Exact (IsLine word.Kill) other_words (one_node Kill)
kill_exact = made_exact _ _ _ Kill (IsLine word.Kill) other_words
    node_exact
    (λ x v. ((v, refl), refl)) from
  where
    from : (s : Step) → IsLine word.Kill s → (x : Node) × IsNode x × (Kill x ≡ s)
    from (Kill x) w = (x, w.0, refl)
    from _ w = absurd (let e = w.1 in cc)

-- an up is read exactly behind its first word
up_exact : Exact (IsLine word.Up) other_words (one_node Up)
up_exact = made_exact _ _ _ Up (IsLine word.Up) other_words
    node_exact
    (λ x v. ((v, refl), refl)) from
  where
    from : (s : Step) → IsLine word.Up s → (x : Node) × IsNode x × (Up x ≡ s)
    from (Up x) w = (x, w.0, refl)
    from _ w = absurd (let e = w.1 in cc)

-- a settle is read exactly behind its first word
settle_exact : Exact (IsLine word.Settle) other_words (other_words_at word.Settle)
settle_exact = nothing_exact Settle (IsLine word.Settle) other_words (tt, refl) refl only
  where
    only : (s : Step) → IsLine word.Settle s → s ≡ Settle
    only Settle w = refl
    only _ w = absurd (let e = w.1 in cc)

-- a mail is read exactly behind its first word
mail_exact : Exact (IsLine word.Mail) other_words (other_words_at word.Mail)
mail_exact = nothing_exact Mail (IsLine word.Mail) other_words (tt, refl) refl only
  where
    only : (s : Step) → IsLine word.Mail s → s ≡ Mail
    only Mail w = refl
    only _ w = absurd (let e = w.1 in cc)

-- lines

-- each line is read exactly behind its first word
other_exact : (w : FirstWord) → Exact (IsLine w) other_words (other_words_at w)
other_exact word.Setup = setup_exact
other_exact word.Join = join_exact
other_exact word.Crash = crash_exact
other_exact word.Expire = expire_exact
other_exact word.Create = create_exact
other_exact word.Remove = remove_exact
other_exact word.Open = open_exact
other_exact word.Recover = recover_exact
other_exact word.Purge = purge_exact
other_exact word.Append = append_exact
other_exact word.Set = set_exact
other_exact word.Flush = flush_exact
other_exact word.Commit = commit_exact
other_exact word.Close = close_exact
other_exact word.Seek = seek_exact
other_exact word.Read = read_exact
other_exact word.Truncate = truncate_exact
other_exact word.Deliver = deliver_exact
other_exact word.Sync = sync_exact
other_exact word.Lose = lose_exact
other_exact word.Stop = stop_exact
other_exact word.StopMeta = stop_meta_exact
other_exact word.Kill = kill_exact
other_exact word.Up = up_exact
other_exact word.Settle = settle_exact
other_exact word.Mail = mail_exact

-- A line is read exactly.
pub step_exact : Exact IsStep step_line step_at
step_exact = made_exact _ _ _ (λ x. x.1) IsStep step_line
    (then_exact _ _ _ IsLine (λ w. other_words) other_words_at word_exact (λ w u. other_exact w))
    (λ x v. (v.1.0, ap (λ (w : FirstWord). first_text w ++ other_words x.1) v.1.1))
    (λ s w. ((first_word_of s, s), (tt, (w, refl)), refl))
