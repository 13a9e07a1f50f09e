-- What the heads of an entry and the bytes of its payloads say of its rows.
use Rattle.std.proofs.Common.{◌≡◌, ℕ, suc, ◌+◌, ◌≤◌, List, [], ◌∷◌, ◌++◌, length, map, take, drop, refl, ap, ap₂, sym, ◌∙◌, arith}
use Rattle.std.proofs.Math.Seq.{take-length}
use Rattle.std.proofs.lemmas.Grind.{flat_map-append}
use Rattle.std.proofs.lemmas.List.{append_assoc, take-append-le, drop-append-le, length-append, length-drop}
use Rattle.std.proofs.lemmas.List.Sums.{sum_by_push}
use Rattle.dl_types.specs.declared.entry_bytes.TheConstants.{MAX_ENTRY}
use Rattle.dl_types.specs.declared.row.Row.{Row}
use Rattle.dl_transcript.specs.Lines.{print_event, print_all}
use Rattle.dlog.specs.declared.entry.Head.{Head}
use Rattle.dlog.specs.Machine.{ack, entry_events, entry_size, grow, record_size}
use Rattle.dlog.specs.Entries.{row_of, rows_of, payload_bytes, head_ack, IsPacked}

-- there are as many rows as heads
pub count_of_rows : (heads : List Head) (bytes : List ℕ) → length (rows_of heads bytes) ≡ length heads
count_of_rows [] bytes = refl
count_of_rows (h ∷ heads) bytes = ap suc (count_of_rows heads (drop h.length bytes))

-- the rows are acknowledged by their heads alone
pub acks_of_rows : (heads : List Head) (bytes : List ℕ) → map ack (rows_of heads bytes) ≡ map head_ack heads
acks_of_rows [] bytes = refl
acks_of_rows (h ∷ heads) bytes = ap (λ acks. head_ack h ∷ acks) (acks_of_rows heads (drop h.length bytes))

-- the payloads of heads with one more
pub bytes_more : (heads : List Head) (h : Head) → payload_bytes (heads ++ h ∷ []) ≡ payload_bytes heads + h.length
bytes_more [] h = omega arith
bytes_more (x ∷ heads) h = omega (arith, bytes_more heads h)

-- what is left behind the payload of a head is as long as the payloads of the others
rest_is : (h : Head) (heads : List Head) (bytes : List ℕ) → payload_bytes (h ∷ heads) ≡ length bytes
    → payload_bytes heads ≡ length (drop h.length bytes)
rest_is h heads bytes e = omega (arith, length-drop h.length bytes)

-- an entry with one row more
pub rows_more : (heads : List Head) (bytes : List ℕ) (h : Head) (payload : List ℕ) → payload_bytes heads ≡ length bytes
    → h.length ≡ length payload → rows_of (heads ++ h ∷ []) (bytes ++ payload) ≡ rows_of heads bytes ++ row_of h payload ∷ []
rows_more [] [] h payload e l = ap (λ p. row_of h p ∷ []) (ap (λ n. take n payload) l ∙ take-length payload)
rows_more [] (x ∷ bytes) h payload e l = absurd (omega arith)
rows_more (y ∷ heads) bytes h payload e l =
    ap₂ (λ p rows. row_of y p ∷ rows) (take-append-le y.length bytes payload (omega arith))
    (ap (rows_of (heads ++ h ∷ [])) (drop-append-le y.length bytes payload (omega arith))
    ∙ rows_more heads (drop y.length bytes) h payload (rest_is y heads bytes e) l)

-- the bytes of an entry with one row more
size_more : (rows : List Row) (r : Row) → entry_size (rows ++ r ∷ []) ≡ entry_size rows + record_size (length r.payload)
size_more rows r = omega (arith, sum_by_push (λ (x : Row). record_size (length x.payload)) rows r)

-- an entry with one row more is packed
pub packed_more : (size : ℕ) (heads : List Head) (bytes : List ℕ) (h : Head) (payload : List ℕ) → IsPacked size heads bytes
    → h.length ≡ length payload → entry_size (rows_of heads bytes) + record_size (length payload) ≤ MAX_ENTRY
    → IsPacked (size + record_size (length payload)) (heads ++ h ∷ []) (bytes ++ payload)
packed_more size heads bytes h payload is l room = record {
  whole = omega (arith, bytes_more heads h, length-append bytes payload, is.whole, l);
  size_is = ap (λ n. n + record_size (length payload)) is.size_is ∙ sym (size_more (rows_of heads bytes) (row_of h payload))
      ∙ ap entry_size (sym (rows_more heads bytes h payload is.whole l));
  within = omega (arith, is.size_is, room);
}

-- a text with the growth of the rows and then their acknowledgements is one with the events of the entry
pub entry_printed : (line : ℕ) (stream : List ℕ) (heads : List Head) (bytes a b c : List ℕ)
    → b ≡ a ++ print_all line (map (grow stream) (rows_of heads bytes)) → c ≡ b ++ print_all line (map head_ack heads)
    → c ≡ a ++ print_all line (entry_events stream (rows_of heads bytes))
entry_printed line stream heads bytes a b c grown acked =
    let rows : List Row = rows_of heads bytes in
    acked ∙ ap (λ text. text ++ print_all line (map head_ack heads)) grown
    ∙ append_assoc a (print_all line (map (grow stream) rows)) (print_all line (map head_ack heads))
    ∙ ap (λ acks. a ++ (print_all line (map (grow stream) rows) ++ print_all line acks)) (sym (acks_of_rows heads bytes))
    ∙ ap (λ text. a ++ text) (sym (flat_map-append (print_event line) (map (grow stream) rows) (map ack rows)))
