-- What a client shows of itself and sends.
use Rattle.std.specs.Prelude.{List, ◌∷◌}
use Rattle.dl_transcript.specs.Legal.{History}
use Rattle.dl_rules_client.specs.Acts.{Input, ClientArgs}
use Rattle.dl_rules_client.specs.Clients.{client_of, acts_of}
use Rattle.dl_law_client.specs.Seen.{ClientSeen, NowLeads}

-- where a client was shown as it is, whatever it takes leads to where it is shown as it is then
abbrev pub EachClientLeads : Type 0
EachClientLeads = (me : ClientArgs) (view : List Input) (x : Input) (s : History)
    → ClientSeen (client_of me view) (s.clients me.number)
    → NowLeads me (client_of me view).taken (client_of me view).asked s (client_of me (x ∷ view)) (acts_of me view x)
