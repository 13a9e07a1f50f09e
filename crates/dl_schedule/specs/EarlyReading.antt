-- Reading a line of an early schedule from the left, or how many bytes are left where no line goes on.
use Rattle.std.specs.Prelude.{ℕ, Option, Some, None, List, [], ◌∷◌, Result}
use Rattle.dl_text.specs.Readers.{then_at, map_at, whole_at}
use Rattle.dl_text.specs.Numbers.{number_at}
use Rattle.dl_text.specs.Hex.{hex_at}
use Rattle.dl_text.specs.Words.{words_from}
use Rattle.dl_schedule.specs.declared.step.Step.{Step}
use Rattle.dl_schedule.specs.declared.step.Step.TheVariants.{Append, Flush, Settle}
use Rattle.dl_schedule.specs.declared.words.FirstWord.{FirstWord}
use Rattle.dl_schedule.specs.declared.words.FirstWord.TheVariants as word
use Rattle.dl_schedule.specs.declared.opening.Opening.{Opening}
use Rattle.dl_schedule.specs.Words.{first_text}
use Rattle.dl_schedule.specs.StepLines.{space, line_feed}
use Rattle.dl_schedule.specs.StepReading.{txid_at, nothing_at}
use Rattle.dl_schedule.specs.EarlyLines.{opening_step, opening_text, opening_at}

-- the client that early schedules have
abbrev pub only_client_at : ℕ → List ℕ → Result (ℕ × List ℕ) ℕ
only_client_at = number_at 0 0

-- an append of that client behind its first word
abbrev pub free_append_at : List ℕ → Result (Step × List ℕ) ℕ
free_append_at =
    map_at (λ (client, (txid, payload)). Append client txid payload)
    (then_at (only_client_at space) (λ client. then_at (txid_at space) (λ txid. hex_at line_feed)))

-- a flush of that client behind its first word
abbrev pub free_flush_at : List ℕ → Result (Step × List ℕ) ℕ
free_flush_at = map_at Flush (only_client_at line_feed)

-- the first words of free lines
abbrev pub free_words : List FirstWord
free_words = word.Append ∷ word.Flush ∷ word.Settle ∷ []

-- a free line behind its first word
abbrev pub free_rest_at : FirstWord → List ℕ → Result (Step × List ℕ) ℕ
free_rest_at word.Append = free_append_at
free_rest_at word.Flush = free_flush_at
free_rest_at _ = nothing_at Settle

-- a free line
abbrev pub free_at : List ℕ → Result (Step × List ℕ) ℕ
free_at = map_at (λ (first, step). step) (then_at (words_from first_text 0 free_words) free_rest_at)

-- an opening line
abbrev pub fixed_at : Opening → List ℕ → Result (Step × List ℕ) ℕ
fixed_at o = map_at opening_step (words_from opening_text 0 (o ∷ []))

-- the opening line, or a free line where there is none
abbrev pub said_at : Option Opening → List ℕ → Result (Step × List ℕ) ℕ
said_at (Some o) = fixed_at o
said_at None = free_at

-- the whole line of this number of an early schedule
abbrev pub early_at : ℕ → List ℕ → Result Step ℕ
early_at n = whole_at (said_at (opening_at n))
