-- The fields of lines are read exactly.
use Rattle.std.proofs.Common.{◌≡◌, ℕ, zero, suc, ◌≤◌, ◌<◌, Bool, true, false, eqb, List, [], ◌∷◌}
use Rattle.std.proofs.Common.{◌++◌, Result, Ok, Err, refl, sym, ap, subst, arith, lit<, lit≤}
use Rattle.std.specs.List.{AllByRecursion}
use Rattle.dl_types.specs.declared.address.Address.{Address}
use Rattle.dl_types.specs.declared.address.Address.TheVariants as address
use Rattle.dl_types.specs.declared.bookie.TheConstants.{MAX_BOOKIE}
use Rattle.dl_types.specs.declared.client.TheConstants.{MAX_CLIENT}
use Rattle.dl_types.specs.declared.start.Start.{Start}
use Rattle.dl_types.specs.declared.start.Start.TheVariants as start
use Rattle.dl_types.specs.declared.txid.TheConstants.{MAX_TXID}
use Rattle.dl_text.specs.Readers.{Exact}
use Rattle.dl_text.specs.Numbers.{number, number_at, IsWithin, most_u64}
use Rattle.dl_text.specs.Fields.{bytes_field}
use Rattle.dl_text.specs.PlaceFields.{IsPlaceFrom}
use Rattle.dl_text.specs.Words.{words_from}
use Rattle.dl_text.proofs.ReaderLemmas.{then_exact, made_exact, ok_is}
use Rattle.dl_text.proofs.NumberLemmas.{number_exact}
use Rattle.dl_text.proofs.PlaceLemmas.{low_byte, place_exact}
use Rattle.dl_text.proofs.HexLemmas.{IsNothing, end_exact}
use Rattle.dl_text.proofs.WordLemmas.{words_exact}
use Rattle.dl_schedule.specs.declared.up_to.TheConstants.{MAX_BOOKIES, COMMIT_CALLS, MAX_ROWS, MAX_MESSAGE}
use Rattle.dl_schedule.specs.declared.node.Node.{Node}
use Rattle.dl_schedule.specs.declared.node.Node.TheVariants as node
use Rattle.dl_schedule.specs.declared.words.StartWord.{StartWord}
use Rattle.dl_schedule.specs.declared.words.StartWord.TheVariants as at
use Rattle.dl_schedule.specs.declared.words.NodeWord.{NodeWord}
use Rattle.dl_schedule.specs.declared.words.NodeWord.TheVariants as letter
use Rattle.dl_schedule.specs.Words.{start_text, start_words, node_text}
use Rattle.dl_schedule.specs.StepLines.{space, line_feed, bit_number, letter_of, address_rest, address_field, node_field, start_word_of}
use Rattle.dl_schedule.specs.StepLines.{start_rest, start_field, IsClient, IsBookie, IsCount, IsTxid, IsNumber, IsCall, IsLink, IsNode}
use Rattle.dl_schedule.specs.StepReading.{nothing_at, client_at, bookie_at, count_at, txid_at, message_at, call_at, address_rest_at, address_at}
use Rattle.dl_schedule.specs.StepReading.{letters, node_letters, other_letters, node_of, node_at, start_rest_at, start_at}

-- No words are read exactly, as the one value that they stand for.
pub nothing_exact : {A : Type 0} (a : A) (V : A → Type 0) (p : A → List ℕ) → V a → p a ≡ [] → ((x : A) → V x → x ≡ a) → Exact V p (nothing_at a)
nothing_exact {A} a V p valid none only = record {
  found = λ bytes x rest e.
      let q : (a, bytes) ≡ (x, rest) = ok_is {B = ℕ} (a, bytes) (x, rest) e in
      let P : A × List ℕ → Type 0 = λ y. V y.0 × (bytes ≡ p y.0 ++ y.1) in
      subst P q (valid, ap (λ (t : List ℕ). t ++ bytes) (sym none));
  again = λ x rest w.
      let P : A → Type 0 = λ y. nothing_at a (p y ++ rest) ≡ Ok (y, rest) in
      subst P (sym (only x w)) (ap (λ (t : List ℕ). Ok (a, t ++ rest)) none);
  near = λ bytes left e. absurd (clash bytes left e);
  far = λ bytes left e. absurd (clash bytes left e);
}
  where
    clash : (bytes : List ℕ) (left : ℕ) → (let r : Result (A × List ℕ) ℕ = Ok (a, bytes) in r) ≡ Err left → ⊥
    clash bytes left e = cc

-- numbers

-- the number of a client is read exactly
pub client : (end : ℕ) → end < 48 → Exact IsClient (number end) (client_at end)
client end low = number_exact 0 MAX_CLIENT end (record { low_high = lit≤ tt; low_small = lit≤ tt; high_fits = lit< tt; end_apart = low_byte end low })

-- the number of a bookie is read exactly
pub bookie : (end : ℕ) → end < 48 → Exact IsBookie (number end) (bookie_at end)
bookie end low = number_exact 0 MAX_BOOKIE end (record { low_high = lit≤ tt; low_small = lit≤ tt; high_fits = lit< tt; end_apart = low_byte end low })

-- a number of bookies is read exactly
pub count : (end : ℕ) → end < 48 → Exact IsCount (number end) (count_at end)
count end low = number_exact 1 MAX_BOOKIES end (record { low_high = lit≤ tt; low_small = lit≤ tt; high_fits = lit< tt; end_apart = low_byte end low })

-- a transaction id is read exactly
pub txid : (end : ℕ) → end < 48 → Exact IsTxid (number end) (txid_at end)
txid end low = number_exact 0 MAX_TXID end (record { low_high = lit≤ tt; low_small = lit≤ tt; high_fits = lit< tt; end_apart = low_byte end low })

-- the number of a message is read exactly
pub message : (end : ℕ) → end < 48 → Exact IsNumber (number end) (message_at end)
message end low = number_exact 1 MAX_MESSAGE end (record { low_high = lit≤ tt; low_small = lit≤ tt; high_fits = lit< tt; end_apart = low_byte end low })

-- the number of a session is read exactly, to the end of the line
pub session : Exact (IsWithin 1 most_u64) (number line_feed) (number_at 1 most_u64 line_feed)
session = number_exact 1 most_u64 line_feed (record { low_high = lit≤ tt; low_small = lit≤ tt; high_fits = lit< tt; end_apart = low_byte line_feed (lit< tt) })

-- a number of rows is read exactly, to the end of the line
pub rows : Exact (IsWithin 1 MAX_ROWS) (number line_feed) (number_at 1 MAX_ROWS line_feed)
rows = number_exact 1 MAX_ROWS line_feed (record { low_high = lit≤ tt; low_small = lit≤ tt; high_fits = lit< tt; end_apart = low_byte line_feed (lit< tt) })

-- a bit is read exactly, to the end of the line
pub bit : Exact (IsWithin 0 1) (number line_feed) (number_at 0 1 line_feed)
bit = number_exact 0 1 line_feed (record { low_high = lit≤ tt; low_small = lit≤ tt; high_fits = lit< tt; end_apart = low_byte line_feed (lit< tt) })

-- the number of a device call is read exactly
call_number : Exact IsCall (number space) (number_at 1 COMMIT_CALLS space)
call_number = number_exact 1 COMMIT_CALLS space (record { low_high = lit≤ tt; low_small = lit≤ tt; high_fits = lit< tt; end_apart = low_byte space (lit< tt) })

-- a number that is 0 or 1 is the number of the bit that it says
bit_back : (n : ℕ) → n ≤ 1 → bit_number (eqb n 1) ≡ n
bit_back zero h = refl
bit_back (suc zero) h = refl
bit_back (suc (suc n)) h = absurd (omega (arith, h))

-- the number of a bit is 0 or 1, and says that bit
bit_fits : (b : Bool) → IsWithin 0 1 (bit_number b) × (eqb (bit_number b) 1 ≡ b)
bit_fits false = ((lit≤ tt, lit≤ tt), refl)
bit_fits true = ((lit≤ tt, lit≤ tt), refl)

-- the spelling of a device call and of whether its work is kept
abbrev pub print_call : ℕ × Bool → List ℕ
print_call x = number space x.0 ++ number line_feed (bit_number x.1)

-- a device call of a commit, whether its work is kept or not
abbrev pub IsCallOf : ℕ × Bool → Type 0
IsCallOf x = IsCall x.0

-- a device call, and whether its work is kept, are read exactly
pub call_exact : Exact IsCallOf print_call call_at
call_exact = made_exact _ _ _ (λ x. (x.0, eqb x.1 1)) IsCallOf print_call (then_exact _ _ _ _ _ _ call_number (λ k v. bit))
    (λ x v. (v.0, ap (λ (n : ℕ). number space x.0 ++ number line_feed n) (bit_back x.1 v.1.1))) from
  where
    from : (x : ℕ × Bool) → IsCallOf x → (y : ℕ × ℕ) × (IsCall y.0 × IsWithin 0 1 y.1) × ((y.0, eqb y.1 1) ≡ x)
    from x w = let b = bit_fits x.1 in ((x.0, bit_number x.1), (w, b.0), ap (λ (t : Bool). (x.0, t)) b.1)

-- addresses

-- the number of the client or of the bookie is in its range
abbrev pub IsAddress : Address → Type 0
IsAddress (address.Client c) = IsClient c
IsAddress (address.Bookie b) = IsBookie b
IsAddress address.Meta = Unit {0}

-- an address that begins with this letter
abbrev IsOf : NodeWord → Address → Type 0
IsOf k a = IsAddress a × (letter_of a ≡ k)

-- an address is read exactly behind its letter
address_rest_exact : (end : ℕ) → end < 48 → (k : NodeWord) → Exact (IsOf k) (address_rest end) (address_rest_at end k)
address_rest_exact end low letter.Client = made_exact _ _ _ address.Client (IsOf letter.Client) (address_rest end) (client end low)
    (λ c v. ((v, refl), refl)) from
  where
    from : (a : Address) → IsOf letter.Client a → (c : ℕ) × IsClient c × (address.Client c ≡ a)
    from (address.Client c) w = (c, w.0, refl)
    from _ w = absurd (let e = w.1 in cc)
address_rest_exact end low letter.Bookie = made_exact _ _ _ address.Bookie (IsOf letter.Bookie) (address_rest end) (bookie end low)
    (λ b v. ((v, refl), refl)) from
  where
    from : (a : Address) → IsOf letter.Bookie a → (b : ℕ) × IsBookie b × (address.Bookie b ≡ a)
    from (address.Bookie b) w = (b, w.0, refl)
    from _ w = absurd (let e = w.1 in cc)
address_rest_exact end low letter.Meta = made_exact IsNothing _ _ (λ x. address.Meta) (IsOf letter.Meta) (address_rest end) (end_exact end)
    (λ x v. ((tt, refl), ap (bytes_field end) (sym v))) from
  where
    from : (a : Address) → IsOf letter.Meta a → (x : List ℕ) × IsNothing x × (address.Meta ≡ a)
    from address.Meta w = ([], refl, refl)
    from _ w = absurd (let e = w.1 in cc)

-- An address with one of these letters is read exactly.
pub address_exact : (end : ℕ) → end < 48 → (V : NodeWord → Type 0) (some : List NodeWord) → Exact V node_text (words_from node_text 0 some)
    → Exact (λ a. IsAddress a × V (letter_of a)) (address_field end) (address_at end some)
address_exact end low V some letter = made_exact _ _ _ (λ x. x.1) (λ a. IsAddress a × V (letter_of a)) (address_field end)
    (then_exact _ _ _ IsOf (λ k. address_rest end) (address_rest_at end) letter (λ k v. address_rest_exact end low k))
    (λ x v. ((v.1.0, subst V (sym v.1.1) v.0), ap (λ (k : NodeWord). node_text k ++ address_rest end x.1) v.1.1))
    (λ a w. ((letter_of a, a), (w.1, (w.0, refl)), refl))

-- each letter may begin an address
abbrev pub IsLetter : NodeWord → Type 0
IsLetter k = Unit {0}

-- the letter of an address is read exactly
pub any_letter : Exact IsLetter node_text (words_from node_text 0 letters)
any_letter = words_exact IsLetter node_text letter.Client (letter.Bookie ∷ letter.Meta ∷ []) (tt, (tt, (tt, tt))) again every
  where
    again : (k : NodeWord) (rest : List ℕ) → IsLetter k → words_from node_text 0 letters (node_text k ++ rest) ≡ Ok (k, rest)
    again letter.Client rest u = refl
    again letter.Bookie rest u = refl
    again letter.Meta rest u = refl

    every : (P : NodeWord → Type 0) → AllByRecursion P letters → (k : NodeWord) → IsLetter k → P k
    every P all letter.Client u = all.0
    every P all letter.Bookie u = all.1.0
    every P all letter.Meta u = all.1.1.0

-- the letter is a node's
abbrev pub IsNodeLetter : NodeWord → Type 0
IsNodeLetter letter.Client = ⊥
IsNodeLetter letter.Bookie = Unit {0}
IsNodeLetter letter.Meta = Unit {0}

-- the letter of a node is read exactly
node_letter : Exact IsNodeLetter node_text (words_from node_text 0 node_letters)
node_letter = words_exact IsNodeLetter node_text letter.Bookie (letter.Meta ∷ []) (tt, (tt, tt)) again every
  where
    again : (k : NodeWord) (rest : List ℕ) → IsNodeLetter k → words_from node_text 0 node_letters (node_text k ++ rest) ≡ Ok (k, rest)
    again letter.Client rest u = absurd u
    again letter.Bookie rest u = refl
    again letter.Meta rest u = refl

    every : (P : NodeWord → Type 0) → AllByRecursion P node_letters → (k : NodeWord) → IsNodeLetter k → P k
    every P all letter.Client u = absurd u
    every P all letter.Bookie u = all.0
    every P all letter.Meta u = all.1.0

-- the letter is a client's
abbrev pub IsClientLetter : NodeWord → Type 0
IsClientLetter letter.Client = Unit {0}
IsClientLetter letter.Bookie = ⊥
IsClientLetter letter.Meta = ⊥

-- the letter of a client is read exactly
client_letter : Exact IsClientLetter node_text (words_from node_text 0 (letter.Client ∷ []))
client_letter = words_exact IsClientLetter node_text letter.Client [] (tt, tt) again every
  where
    again : (k : NodeWord) (rest : List ℕ) → IsClientLetter k → words_from node_text 0 (letter.Client ∷ []) (node_text k ++ rest) ≡ Ok (k, rest)
    again letter.Client rest u = refl
    again letter.Bookie rest u = absurd u
    again letter.Meta rest u = absurd u

    every : (P : NodeWord → Type 0) → AllByRecursion P (letter.Client ∷ []) → (k : NodeWord) → IsClientLetter k → P k
    every P all letter.Client u = all.0
    every P all letter.Bookie u = absurd u
    every P all letter.Meta u = absurd u

-- the letters of the other end of a link
abbrev pub IsOtherLetter : Address → NodeWord → Type 0
IsOtherLetter (address.Client c) k = IsNodeLetter k
IsOtherLetter (address.Bookie b) k = IsClientLetter k
IsOtherLetter address.Meta k = IsClientLetter k

-- the letter of the other end of a link is read exactly
pub other_letter : (from : Address) → Exact (IsOtherLetter from) node_text (words_from node_text 0 (other_letters from))
other_letter (address.Client c) = node_letter
other_letter (address.Bookie b) = client_letter
other_letter address.Meta = client_letter

-- the ends of a link
abbrev pub AreEnds : Address → Address → Type 0
AreEnds from to = (IsAddress from × Unit {0}) × (IsAddress to × IsOtherLetter from (letter_of to))

-- a link has two addresses, and the letter of the second is one for the other end
pub link_ends : (from to : Address) → IsLink from to → AreEnds from to
link_ends (address.Client c) (address.Bookie b) l = ((l.0, tt), (l.1, tt))
link_ends (address.Client c) address.Meta l = ((l, tt), (tt, tt))
link_ends (address.Bookie b) (address.Client c) l = ((l.0, tt), (l.1, tt))
link_ends address.Meta (address.Client c) l = ((tt, tt), (l, tt))
link_ends _ _ l = absurd l

-- two addresses, of which the second has a letter for the other end, are a link
pub ends_link : (from to : Address) → AreEnds from to → IsLink from to
ends_link (address.Client c) (address.Client d) e = absurd e.1.1
ends_link (address.Client c) (address.Bookie b) e = (e.0.0, e.1.0)
ends_link (address.Client c) address.Meta e = e.0.0
ends_link (address.Bookie b) (address.Client c) e = (e.0.0, e.1.0)
ends_link (address.Bookie b) (address.Bookie d) e = absurd e.1.1
ends_link (address.Bookie b) address.Meta e = absurd e.1.1
ends_link address.Meta (address.Client c) e = e.1.0
ends_link address.Meta (address.Bookie b) e = absurd e.1.1
ends_link address.Meta address.Meta e = absurd e.1.1

-- A node is read exactly.
pub node_exact : Exact IsNode (node_field line_feed) node_at
node_exact = made_exact _ _ _ node_of IsNode (node_field line_feed) (address_exact line_feed (lit< tt) IsNodeLetter node_letters node_letter) to from
  where
    to : (a : Address) → IsAddress a × IsNodeLetter (letter_of a) → IsNode (node_of a) × (node_field line_feed (node_of a) ≡ address_field line_feed a)
    to (address.Client c) v = absurd v.1
    to (address.Bookie b) v = (v.0, refl)
    to address.Meta v = (tt, refl)

    from : (x : Node) → IsNode x → (a : Address) × (IsAddress a × IsNodeLetter (letter_of a)) × (node_of a ≡ x)
    from (node.Bookie b) v = (address.Bookie b, (v, tt), refl)
    from node.Meta v = (address.Meta, (tt, tt), refl)

-- where a reader begins

-- the place, or the transaction id, where a reader begins is in its range
abbrev pub IsStart : Start → Type 0
IsStart start.Oldest = Unit {0}
IsStart (start.Place d) = IsPlaceFrom 1 d
IsStart (start.Tx t) = IsTxid t

-- a reader begins there, and its line says so by this word
abbrev IsStartOf : StartWord → Start → Type 0
IsStartOf w x = IsStart x × (start_word_of x ≡ w)

-- each of the words may say where a reader begins
abbrev IsStartWord : StartWord → Type 0
IsStartWord w = Unit {0}

-- the word that says where a reader begins is read exactly
start_word : Exact IsStartWord start_text (words_from start_text 0 start_words)
start_word = words_exact IsStartWord start_text at.Oldest (at.Place ∷ at.Txid ∷ []) (tt, (tt, (tt, tt))) again every
  where
    again : (w : StartWord) (rest : List ℕ) → IsStartWord w → words_from start_text 0 start_words (start_text w ++ rest) ≡ Ok (w, rest)
    again at.Oldest rest u = refl
    again at.Place rest u = refl
    again at.Txid rest u = refl

    every : (P : StartWord → Type 0) → AllByRecursion P start_words → (w : StartWord) → IsStartWord w → P w
    every P all at.Oldest u = all.0
    every P all at.Place u = all.1.0
    every P all at.Txid u = all.1.1.0

-- where a reader begins is read exactly behind that word
start_rest_exact : (w : StartWord) → Exact (IsStartOf w) start_rest (start_rest_at w)
start_rest_exact at.Oldest = nothing_exact start.Oldest (IsStartOf at.Oldest) start_rest (tt, refl) refl only
  where
    only : (x : Start) → IsStartOf at.Oldest x → x ≡ start.Oldest
    only start.Oldest w = refl
    only _ w = absurd (let e = w.1 in cc)
start_rest_exact at.Place = made_exact _ _ _ start.Place (IsStartOf at.Place) start_rest (place_exact 1 line_feed (lit≤ tt) (lit< tt))
    (λ d v. ((v, refl), refl)) from
  where
    from : (x : Start) → IsStartOf at.Place x → (d : _) × IsPlaceFrom 1 d × (start.Place d ≡ x)
    from (start.Place d) w = (d, w.0, refl)
    from _ w = absurd (let e = w.1 in cc)
start_rest_exact at.Txid = made_exact _ _ _ start.Tx (IsStartOf at.Txid) start_rest (txid line_feed (lit< tt)) (λ t v. ((v, refl), refl)) from
  where
    from : (x : Start) → IsStartOf at.Txid x → (t : ℕ) × IsTxid t × (start.Tx t ≡ x)
    from (start.Tx t) w = (t, w.0, refl)
    from _ w = absurd (let e = w.1 in cc)

-- Where a reader begins is read exactly.
pub start_exact : Exact IsStart start_field start_at
start_exact = made_exact _ _ _ (λ x. x.1) IsStart start_field
    (then_exact _ _ _ IsStartOf (λ w. start_rest) start_rest_at start_word (λ w u. start_rest_exact w))
    (λ x v. (v.1.0, ap (λ (w : StartWord). start_text w ++ start_rest x.1) v.1.1))
    (λ x w. ((start_word_of x, x), (tt, (w, refl)), refl))
