-- What it means that a transcript is legal as to some of its events.
use Rattle.std.specs.Prelude.{◌≡◌, ℕ, Bool, true, List}
use Rattle.dl_transcript.specs.declared.event.Event.{Event}
use Rattle.dl_transcript.specs.Legal.{is_legal}
use Rattle.dl_law_legal.specs.Ruled.{is_legal_as_to}

-- What is legal as to more events is so as to fewer; and as to all events, legal is what it is.
pub record LegalInPart : Type 0 where
  pub fewer : (few more : Event → Bool) (xs : List (ℕ × Event)) → ((e : Event) → few e ≡ true → more e ≡ true)
      → is_legal_as_to more xs ≡ true → is_legal_as_to few xs ≡ true
  pub all : (ruled : Event → Bool) (xs : List (ℕ × Event)) → ((e : Event) → ruled e ≡ true) → is_legal_as_to ruled xs ≡ is_legal xs
