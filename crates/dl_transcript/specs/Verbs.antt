-- The first words of events.
use Rattle.std.specs.Prelude.{ℕ, List, codes}
use Rattle.dl_transcript.specs.declared.verb.Verb.{Verb}
use Rattle.dl_transcript.specs.declared.verb.Verb.TheVariants.{Joined, Expired, Created, Removed, Released, Whole, Writer, Took, Sent, Grow, Ack, Committed}
use Rattle.dl_transcript.specs.declared.verb.Verb.TheVariants.{Closed, Recovered, Point, Truncated, Purged, Opened, Reading, End, Rows, Refused, Mail}
use Rattle.dl_transcript.specs.declared.verb.Verb.TheVariants.{Nothing}

-- the first word of an event, with the byte that ends it
abbrev pub verb_text : Verb → List ℕ
verb_text Joined = codes "joined "
verb_text Expired = codes "expired "
verb_text Created = codes "created "
verb_text Removed = codes "removed "
verb_text Released = codes "released "
verb_text Whole = codes "whole "
verb_text Writer = codes "writer "
verb_text Took = codes "took "
verb_text Sent = codes "sent "
verb_text Grow = codes "grow "
verb_text Ack = codes "ack "
verb_text Committed = codes "committed "
verb_text Closed = codes "closed "
verb_text Recovered = codes "recovered "
verb_text Point = codes "point "
verb_text Truncated = codes "truncated "
verb_text Purged = codes "purged "
verb_text Opened = codes "opened "
verb_text Reading = codes "reading "
verb_text End = codes "end "
verb_text Rows = codes "rows "
verb_text Refused = codes "refused "
verb_text Mail = codes "mail "
verb_text Nothing = codes "none\n"
