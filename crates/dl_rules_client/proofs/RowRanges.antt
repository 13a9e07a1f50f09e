-- The rows that a read gathers out of entries are such as a line takes.
use Rattle.std.proofs.Common.{◌≡◌, ℕ, zero, suc, ◌+◌, ◌≤◌, Bool, true, false, cond, ◌&&◌, ◌==◌, List, [], ◌∷◌, ◌++◌, length, filter, take, Option}
use Rattle.std.proofs.Common.{Some, None, Result, Ok, Err, refl, subst, arith, length-append}
use Rattle.std.specs.List.{AllByRecursion}
use Rattle.std.proofs.lemmas.Bool.{and_parts, eqb-true}
use Rattle.dl_types.specs.declared.read_row.ReadRow.{ReadRow}
use Rattle.dl_codec.specs.Fields.{IsBytes}
use Rattle.dl_text.specs.Hex.{AllBytes}
use Rattle.dl_text.specs.Numbers.{most_u32, most_u64}
use Rattle.dl_record.specs.declared.stored.Stored.{Stored}
use Rattle.dl_record.specs.declared.stored.Stored.TheVariants.{Plain, Control, Set}
use Rattle.dl_record.specs.declared.entry_flaw.EntryFlaw.{EntryFlaw}
use Rattle.dl_record.specs.Grammar.{IsRecord, AreRecords}
use Rattle.dl_record.specs.Reading.{entry_at}
use Rattle.dl_record.specs.Rows.{rows_of, rows_from, user_rows}
use Rattle.dl_record.specs.Stored.{txid_of, payloads_of, rows_in}
use Rattle.dl_record.specs.UserRows.{RowOf}
use Rattle.dl_record.proofs.Entries.{entry_found}
use Rattle.dl_record.proofs.Sizes.{body_fits}
use Rattle.dl_record.proofs.WalkLaws.{length-rows_of, rows_le}
use Rattle.dl_msg.specs.declared.msg.Msg.{Msg}
use Rattle.dl_msg.specs.declared.msg.Msg.TheVariants.{LacIs, EntryIs}
use Rattle.dl_schedule.specs.declared.up_to.TheConstants.{MAX_ROWS}
use Rattle.dl_schedule.specs.StepLines.{IsTxid}
use Rattle.dl_transcript.specs.Ranges.{IsU32, IsU64, IsReadRow}
use Rattle.dl_rules_ledger.specs.Subjects.{Subject, is_about, is_about_entry, is_in_write_set}
use Rattle.dl_rules_ledger.specs.Readers.{ReaderStage, Idle, Counting, Counted, Fetching, Fetched, after_count, readable, hears}
use Rattle.dl_rules_stream.specs.LogReaders as reading
use Rattle.dl_rules_client.specs.EventRanges.{MsgFits}
use Rattle.dl_rules_client.proofs.RangeLists.{all-append, all-map, all-take, cond_both}
use Rattle.dl_rules_client.proofs.ByteRanges.{StoredFits, entry_held}

-- ---- rows of an entry

-- a row of an entry
abbrev IsRowOf : RowOf → Type 0
IsRowOf u = IsU32 u.slot × (IsTxid u.txid × AllBytes u.payload)

-- rows of one id in successive slots
rows_of_fit : (slot txid : ℕ) (ps : List (List ℕ)) → slot + length ps ≤ most_u32 → IsTxid txid → AllByRecursion AllBytes ps
    → AllByRecursion IsRowOf (rows_of slot txid ps)
rows_of_fit slot txid [] few id each = tt
rows_of_fit slot txid (p ∷ ps) few id each =
    let here : slot ≤ most_u32 = omega arith in
    let more : (slot + 1) + length ps ≤ most_u32 = omega arith in
    (((omega arith, here), (id, each.0)), rows_of_fit (slot + 1) txid ps more id each.1)

-- the payloads of a stored record
payloads_fit : (r : Stored) → StoredFits r → AllByRecursion AllBytes (payloads_of r)
payloads_fit (Plain position txid payload) is = (is, tt)
payloads_fit (Control position txid) is = tt
payloads_fit (Set position txid payloads) is = is

-- rows of stored records
rows_from_fit : (slot : ℕ) (rs : List Stored) → slot + length (rows_from slot rs) ≤ most_u32 → AllByRecursion IsRecord rs → AllByRecursion StoredFits rs
    → AllByRecursion IsRowOf (rows_from slot rs)
rows_from_fit slot [] few are each = tt
rows_from_fit slot (r ∷ rs) few are each =
    let own : List RowOf = rows_of slot (txid_of r) (payloads_of r) in
    let others : List RowOf = rows_from (slot + rows_in r) rs in
    let both = length-append own others in
    let count = length-rows_of slot (txid_of r) (payloads_of r) in
    let here : slot + length (payloads_of r) ≤ most_u32 = omega (arith, few, both, count) in
    let more : (slot + rows_in r) + length others ≤ most_u32 = omega (arith, few, both, count) in
    all-append IsRowOf own others (rows_of_fit slot (txid_of r) (payloads_of r) here (omega arith, are.0.txid) (payloads_fit r each.0))
    (rows_from_fit (slot + rows_in r) rs more are.1 each.1)

-- each of an entry's records is one by itself
each_record : (alone : Bool) (before : Option Stored) (rs : List Stored) → AreRecords alone before rs → AllByRecursion IsRecord rs
each_record alone before [] are = tt
each_record alone before (r ∷ rs) are = (are.0, each_record alone (Some r) rs are.1.1.1)

-- the rows of an entry at their places
pub entry_rows_fit : (segment entry : ℕ) (bytes : List ℕ) → segment ≤ most_u64 → IsU64 entry → IsBytes bytes
    → AllByRecursion IsReadRow (reading.rows_in segment entry (entry_at bytes))
entry_rows_fit segment entry bytes small number are = go (entry_at bytes) refl
  where
    go : (r : Result (List Stored) EntryFlaw) → entry_at bytes ≡ r → AllByRecursion IsReadRow (reading.rows_in segment entry r)
    go (Err flaw) e = tt
    go (Ok parts) e =
        let found = entry_found bytes parts are e in
        let few : 0 + length (rows_from 0 parts) ≤ most_u32 = omega (arith, rows_le 0 parts, body_fits parts found.is) in
        all-map IsRowOf IsReadRow _ (λ u is. (((omega arith, small), (number, is.0)), is.1)) (user_rows parts)
        (rows_from_fit 0 parts few (each_record _ None parts found.is.records) (entry_held parts (subst IsBytes found.spelt are)))

-- ---- reads

-- A read under way: it gives at most as many rows as a line says, and those that it has are rows.
pub record GatheredFits (r : reading.Read) : Type 0 where
  pub count : r.count ≤ MAX_ROWS
  pub few : length r.rows ≤ r.count
  pub rows : AllByRecursion IsReadRow r.rows

-- what a read gives
abbrev pub GivenFits : List ReadRow → Type 0
GivenFits rows = (length rows ≤ MAX_ROWS) × AllByRecursion IsReadRow rows

-- a read that ends
pub given_fits : (r : reading.Read) → GatheredFits r → GivenFits r.rows
given_fits r is = (omega (arith, is.count, is.few), is.rows)

-- a read that begins, or begins again
pub begun_fits : (r : reading.Read) (before : Option ℕ) → r.count ≤ MAX_ROWS → GatheredFits (record r { rows = []; gone = before })
begun_fits r before few = record { count = few; few = omega arith; rows = tt }

-- the items that pass a test
filtered : {A : Type 0} (P : A → Type 0) (test : A → Bool) (xs : List A) → AllByRecursion P xs → AllByRecursion P (filter test xs)
filtered P test [] each = tt
filtered P test (x ∷ xs) each =
    cond_both (AllByRecursion P) (test x) (x ∷ filter test xs) (filter test xs) (each.0, filtered P test xs each.1) (filtered P test xs each.1)

-- the first items are no more than were asked for
taken_few : {A : Type 0} (n : ℕ) (xs : List A) → length (take n xs) ≤ n
taken_few zero xs = omega arith
taken_few (suc n) [] = omega arith
taken_few (suc n) (x ∷ xs) = omega (arith, taken_few n xs)

-- a read with the rows of an entry more
pub gathers_fit : (r : reading.Read) (rows : List ReadRow) → GatheredFits r → AllByRecursion IsReadRow rows → GatheredFits (reading.gathers r rows)
gathers_fit r rows is each = record {
  count = is.count;
  few = taken_few r.count (r.rows ++ filter (reading.is_wanted r.from) rows);
  rows = all-take IsReadRow r.count (r.rows ++ filter (reading.is_wanted r.from) rows)
      (all-append IsReadRow r.rows (filter (reading.is_wanted r.from) rows) is.rows (filtered IsReadRow (reading.is_wanted r.from) rows each));
}

-- ---- entries that come

-- what a message about an entry is about
pub about_entry : (x : Subject) (entry b tag ledger e : ℕ) → is_about_entry x entry b tag ledger e ≡ true → e ≡ entry
about_entry x entry b tag ledger e h =
    let parts = and_parts (tag == x.tag && ledger == x.ledger && e == entry) (is_in_write_set x entry b) h in
    eqb-true e entry (and_parts (tag == x.tag && ledger == x.ledger) (e == entry) parts.0).1

-- a reader of an entry: what has come is bytes, of an entry whose number has 64 bits
abbrev pub FetchFits : ℕ → ReaderStage → Type 0
FetchFits entry Idle = Unit {0}
FetchFits entry (Counting answers) = Unit {0}
FetchFits entry (Counted count) = Unit {0}
FetchFits entry (Fetching e) = e ≡ entry
FetchFits entry (Fetched bytes) = IsU64 entry × IsBytes bytes

-- how many entries can be read, where that is known
count_fits : (entry : ℕ) (answers : List (ℕ × ℕ)) (n : Option ℕ) → FetchFits entry (after_count answers n)
count_fits entry answers None = tt
count_fits entry answers (Some n) = tt

-- a reader of an entry that hears something
pub fetch_fits : (x : Subject) (entry : ℕ) (stage : ReaderStage) (b : ℕ) (m : Msg) → FetchFits entry stage → MsgFits m → FetchFits entry (hears x stage b m)
unfolding hears
fetch_fits x entry (Counting answers) b (LacIs t l f n) is fit =
    cond_both (FetchFits entry) (is_about x b t l) (after_count ((b, n) ∷ answers) (readable x ((b, n) ∷ answers))) (Counting answers)
    (count_fits entry ((b, n) ∷ answers) (readable x ((b, n) ∷ answers))) tt
fetch_fits x entry (Fetching asked) b (EntryIs t l e bytes) is fit = go (is_about_entry x asked b t l e) refl
  where
    go : (held : Bool) → is_about_entry x asked b t l e ≡ held → FetchFits entry (cond held (Fetched bytes) (Fetching asked))
    go true same = (subst IsU64 is (subst IsU64 (about_entry x asked b t l e same) fit.0), fit.1)
    go false other = is
fetch_fits x entry stage b m is fit = is
